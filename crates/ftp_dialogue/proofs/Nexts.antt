-- Which turn comes next.
use Rattle.std.proofs.Common.{◌≡◌, Bool, true, false, ◌&&◌, cond, nat_lt, ℕ, is_none, Option, Some, None, refl, ap, sym, ◌∙◌, subst}
use Rattle.ftp_calls.proofs.Openings.{read_opens_none}
use Rattle.ftp_calls.specs.declared.call.Call.{Call}
use Rattle.ftp_calls.specs.declared.exchange.Ending.{Ending}
use Rattle.ftp_calls.specs.declared.exchange.Ending.TheVariants as ending
use Rattle.ftp_calls.specs.declared.exchange.Row.{Row}
use Rattle.ftp_calls.specs.declared.exchange.Row.TheVariants.{Exchanges, Arms}
use Rattle.ftp_calls.specs.declared.exchange.Turn.{Turn}
use Rattle.ftp_calls.specs.declared.exchange.Turn.TheVariants.{First, Second, Passive, ExtendedPassive, Active, Restart, Closed, Aborted}
use Rattle.ftp_calls.specs.Exchanges.{Nothing, Replies, ending_of, is_draining, kind_of, negotiates, next_turn, only_reads, reads, restarted, restarts, row_of}
use Rattle.ftp_dialogue.proofs.Sorts.{opens_no_local, aborts_finish, finishing_no_local, finishing_no_read}
use Rattle.ftp_dialogue.specs.declared.stage.Awaits.{Awaits}
use Rattle.ftp_dialogue.specs.declared.stage.Stage.{Stage}
use Rattle.ftp_dialogue.specs.declared.stage.Stage.TheVariants.{Hearing}
use Rattle.ftp_dialogue.specs.declared.stage.Step.{Step}
use Rattle.ftp_dialogue.specs.declared.stage.Step.TheVariants as step
use Rattle.ftp_dialogue.specs.Steps.Stages.{GoesOnTo, StageAfter, StageOf, TurnOf}

-- a reply that goes on is of no plain read
goes_on_unread : (how : Ending) → kind_of how ≡ Nothing → is_draining how ≡ false → only_reads how ≡ false
goes_on_unread ending.GivesReply kind undrained = let clash : Replies ≡ Nothing = kind in cc
goes_on_unread ending.TakesReply kind undrained = let clash : Replies ≡ Nothing = kind in cc
goes_on_unread ending.Drains kind undrained = let clash : true ≡ false = undrained in cc
goes_on_unread other kind undrained = refl

row_unread : (r : Row) (how : Ending) → ending_of r ≡ Some how → only_reads how ≡ false → reads r ≡ false
row_unread (Exchanges e) how is unread =
    let O : Option Ending → Bool = λ o. of_some o in
    ap (λ b. b && is_none e.says) (ap O is ∙ unread)
  where
    of_some : Option Ending → Bool
    of_some None = false
    of_some (Some other) = only_reads other
row_unread (Arms offset) how is unread = refl
row_unread other how is unread = refl

-- after the connection is agreed on
after_agreed : (call : Call) (turn : Turn) (b : Bool) → negotiates call ≡ true → TurnOf call turn → TurnOf call (cond b turn Second)
after_agreed call turn true opens of = of
after_agreed call turn false opens of = (read_opens_none call opens, opens_no_local call opens)

module _ (call : Call) where
  restarted_of : (offset : ℕ) → negotiates call ≡ true → TurnOf call (restarted call offset)
  restarted_of offset opens = after_agreed call (Restart offset) (restarts call && nat_lt 0 offset) opens opens

  at : (turn next : Turn) → Some turn ≡ Some next → TurnOf call turn → TurnOf call next
  at turn next is of =
      let same : turn ≡ next = cc in
      let T : Turn → Type 0 = λ t. TurnOf call t in
      subst T same of

  -- the turn that comes next is one of the call's
  pub next_of : (turn next : Turn) (how : Ending) → TurnOf call turn → ending_of (row_of call turn) ≡ Some how → kind_of how ≡ Nothing → is_draining how ≡ false → next_turn call turn ≡ Some next → TurnOf call next
  next_of First next how of row kind undrained is = at Second next is (row_unread (row_of call First) how row (goes_on_unread how kind undrained), of.1)
  next_of Second next how of row kind undrained is = let clash : None ≡ Some next = is in cc
  next_of (Passive offset after) next how of row kind undrained is = at (restarted call offset) next is (restarted_of offset of)
  next_of (ExtendedPassive offset tries) next how of row kind undrained is = at (restarted call offset) next is (restarted_of offset of)
  next_of (Active address offset) next how of row kind undrained is = at (restarted call offset) next is (restarted_of offset of)
  next_of (Restart offset) next how of row kind undrained is = at Second next is (read_opens_none call of, opens_no_local call of)
  next_of (Closed close) next how of row kind undrained is = let clash : None ≡ Some next = is in cc
  next_of Aborted next how of row kind undrained is =
      let ends = aborts_finish call of in
      at Second next is (finishing_no_read call ends, finishing_no_local call ends)

  -- and a call that goes on stands at it
  pub stage_after : (a : Awaits) (stage : Stage) (result : Step) → StageOf call (Hearing a) → kind_of a.ending ≡ Nothing → is_draining a.ending ≡ false → GoesOnTo call a.turn stage result → StageAfter call stage result
  stage_after a stage step.Next of kind undrained goes =
      let S : Stage → Type 0 = λ s. StageOf call s in
      subst S (sym goes.2) (next_of a.turn goes.0 a.ending of.2 of.0 kind undrained goes.1)
  stage_after a stage step.Pending of kind undrained goes = absurd goes
  stage_after a stage (step.Done answer) of kind undrained goes = tt
