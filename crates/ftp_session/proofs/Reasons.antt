-- The clauses on the errors of a connection and on `SessionFailed`, of each sort of call.
use Rattle.std.proofs.Common.{◌≡◌, ◌==◌, ℕ, Bool, true, false, cond, Option, Some, None, Result, Ok, Err, inl, inr, ◌⊎◌, refl, ap, sym}
use Rattle.std.specs.Prelude.{IfErr}
use Rattle.std.specs.declared.io.ErrorKind.{ErrorKind}
use Rattle.ftp_base.specs.declared.types.fault.ConnectionError.TheVariants as cause
use Rattle.ftp_base.specs.declared.types.fault.FtpError.{FtpError}
use Rattle.ftp_base.specs.declared.types.fault.FtpError.TheVariants as faults
use Rattle.ftp_base.specs.declared.types.reply.Response.{Response}
use Rattle.ftp_calls.specs.Kinds.{IsPlain}
use Rattle.ftp_calls.specs.declared.call.Answer.{Answer}
use Rattle.ftp_calls.specs.declared.call.Answer.TheVariants.{Fault}
use Rattle.ftp_calls.specs.declared.call.Answer.TheVariants as answer
use Rattle.ftp_calls.specs.declared.call.Call.{Call}
use Rattle.ftp_calls.specs.declared.call.Call.TheVariants as call
use Rattle.ftp_transfer.specs.Mark.{End}
use Rattle.ftp_transfer.specs.Transfer.{TransferValue}
use Rattle.ftp_transfer.specs.declared.direction.Direction.{Direction}
use Rattle.ftp_dialogue.specs.CatchingUp.{PlaysInStep}
use Rattle.ftp_dialogue.specs.Coding.{Coding}
use Rattle.ftp_dialogue.specs.Counted.{CountsFailure, CountsFaults, CountsFaultsBeside, IsGivenBeside}
use Rattle.ftp_dialogue.specs.Link.{Link}
use Rattle.ftp_dialogue.specs.Promises.{PlaysAlone}
use Rattle.ftp_dialogue.specs.Sound.{cannot_beside, is_owed, most_transfers, next_number}
use Rattle.ftp_dialogue.specs.State.{SessionValue}
use Rattle.ftp_dialogue.specs.declared.state.Owed.{Owed}
use Rattle.ftp_dialogue.specs.declared.state.Owed.TheVariants as owed
use Rattle.ftp_dialogue.specs.declared.state.State.{State}
use Rattle.ftp_dialogue.specs.PollCauses.{sends}
use Rattle.ftp_session.specs.Handed.{BringsToEnd, BringsToEndIf, FailsFrom, Opens, OpensReplied, PlaysSeen, Settles, SettlesIf, SettlesUnless, Strands, as_seen, is_out, left_if, with_data}
use Rattle.ftp_dialogue.proofs.Backed.{Any, IsGrave, io}
use Rattle.ftp_dialogue.proofs.EveryStage.{Never, Spent, drain_backed, opens_backed, plain_backed}
use Rattle.ftp_session.proofs.Calm.{calm_left, calm_same, calm_seen}
use Rattle.ftp_session.proofs.Grounds.{Grounds, Met, Results, Why, after_calm, alone_results, either_as, ends_same, grounds_of, met_only, step_results, told_as}

-- A command

pub to_counts : (link : Link) (old new : SessionValue) (told : Answer) → Results Any link ⊥ Never old new told → CountsFaults link.tells old new told
to_counts link old new told results = record { counted = λ kind is. met (io kind) is tt; had_failed = λ is. met faults.SessionFailed is tt }
  where
    met : (fault : FtpError) → told ≡ Fault fault → IsGrave fault → Met link.tells old new fault
    met fault is grave = met_only link old new fault (grounds_of link ⊥ Never old new told results fault is grave)

pub alone_counts : (link : Link) (coding : Coding) (called : Call) (old new : SessionValue) (told : Answer) → IsPlain called → PlaysAlone link coding called old new told → CountsFaults link.tells old new told
alone_counts link coding called old new told plain alone = to_counts link old new told (alone_results Any link ⊥ Never coding called old new told (λ is. tt) (plain_backed coding called plain) alone)

pub plain_counts : (link : Link) (coding : Coding) (called : Call) (mark after : Option End) (old new : SessionValue) (told : Answer) → IsPlain called → PlaysSeen link coding called mark after old new told → CountsFaults link.tells old new told
plain_counts link coding called mark after old new told plain seen =
    to_counts link old new told (after_calm Any link ⊥ Never old (as_seen after old) new told (calm_seen link after old) (step_results Any link ⊥ Never coding called (λ v is. tt) (plain_backed coding called plain) (λ is. tt) (as_seen after old) new told seen.plays))

-- a session that says that it had failed, or another error
pub said_failed : (link : Link) (Asks : Type 0) (May : State → FtpError → Type 0) (old new : SessionValue) (other : FtpError) → (IsGrave other → ⊥) → Results Any link Asks May old new (Fault (cond old.channel.failed faults.SessionFailed other))
said_failed link Asks May old new other none = go old.channel.failed refl
  where
    go : (b : Bool) → old.channel.failed ≡ b → Results Any link Asks May old new (Fault (cond b faults.SessionFailed other))
    go true failed = λ grave. inl failed
    go false going = λ grave. absurd (none grave)

-- a receipt is settled
pub settles_count : (link : Link) (coding : Coding) (receipt : End) (old new : SessionValue) (told : Answer) → Settles link coding receipt old new told → CountsFaults link.tells old new told
settles_count link coding receipt old new told settles = to_counts link old new told (go old.channel.failed refl settles)
  where
    owes : (b : Bool) → SettlesIf b link coding old new told → Results Any link ⊥ Never old new told
    owes true step = after_calm Any link ⊥ Never old (left_if true old) new told (calm_left link true old) (step_results Any link ⊥ Never coding call.Drain (λ v is. tt) (drain_backed Any tt coding) (λ is. tt) (left_if true old) new told step)
    owes false none = told_as Any link ⊥ Never old new told answer.Unit none.0 (tt, calm_same link old new none.1)

    go : (b : Bool) → old.channel.failed ≡ b → SettlesUnless b link coding receipt old new told → Results Any link ⊥ Never old new told
    go true failed refuses = told_as Any link ⊥ Never old new told (Fault faults.SessionFailed) refuses.0 (λ grave. inl failed)
    go false going settled = owes (is_owed receipt.number old.state.counts.owed) settled

-- A call that may ask something beside the control connection, or use a data connection

pub spent_no_io : (state : State) (kind : ErrorKind) → Spent state (io kind) → ⊥
spent_no_io state kind is = go state.counts.owed state.counts.opened is
  where
    full : (b : Bool) → cond b (Some faults.SessionFailed) None ≡ Some (io kind) → ⊥
    full true same = cc same
    full false same = cc same

    go : (left : Owed) (opened : ℕ) → cannot_beside left opened ≡ Some (io kind) → ⊥
    go owed.Nothing opened same = full (opened == most_transfers) same
    go (owed.Live number) opened same = cc same
    go (owed.Left number) opened same = cc same

abbrev Beside : Link → SessionValue → SessionValue → Answer → Type 0
Beside link old new told = Results Any link (Unit {0}) Spent old new told

to_beside : (link : Link) (old new : SessionValue) (told : Answer) → Beside link old new told → CountsFaultsBeside link old new told
to_beside link old new told results = record { counted = λ kind is h. counted kind (grounds (io kind) is tt) h; had_failed = λ is. either_as (λ met. met) (either_as (λ spent. spent) (λ gives. gives.1)) (grounds faults.SessionFailed is tt) }
  where
    grounds : Grounds link (Unit {0}) Spent old new told
    grounds = grounds_of link (Unit {0}) Spent old new told results

    counted : (kind : ErrorKind) → Why link (Unit {0}) Spent old new (io kind) → link.tells → CountsFailure old.channel.told new.channel.told ⊎ IsGivenBeside link (io kind) old.net new.net
    counted kind (inl met) h = inl (met h)
    counted kind (inr (inl spent)) h = absurd (spent_no_io new.state kind spent)
    counted kind (inr (inr gives)) h = inr gives.1

module _ (link : Link) (coding : Coding) (called : Call) (none : sends called ≡ false) where
  -- a call that opens a data connection
  pub opening_results : (old new : SessionValue) (told : Answer) → PlaysInStep link coding called old new told → Beside link old new told
  opening_results old new told plays = step_results Any link (Unit {0}) Spent coding called (λ v is. tt) (opens_backed coding called none) (λ is. tt) old new told plays

  seen_reasons : (after : Option End) (old new : SessionValue) (told : Answer) → Beside link (as_seen after old) new told → CountsFaultsBeside link old new told
  seen_reasons after old new told results = to_beside link old new told (after_calm Any link (Unit {0}) Spent old (as_seen after old) new told (calm_seen link after old) results)

  pub opening_reasons : (mark after : Option End) (old new : SessionValue) (told : Answer) → PlaysSeen link coding called mark after old new told → CountsFaultsBeside link old new told
  opening_reasons mark after old new told seen = seen_reasons after old new told (opening_results (as_seen after old) new told seen.plays)

  -- a transfer that is handed out, or none
  seen_fails : (replies : Bool) (between : Option End) (old new : SessionValue) (fault : FtpError) → FailsFrom link coding called replies (as_seen between old) fault new → CountsFaultsBeside link old new (Fault fault)
  seen_fails replies between old new fault fails = seen_reasons between old new (Fault fault) (go fails.ends)
    where
      seen : SessionValue
      seen = as_seen between old

      go : ((fails.answer ≡ Fault fault) × (new ≡ fails.given)) ⊎ Strands replies (next_number seen.state.counts) fails.answer fault fails.given new → Beside link seen new (Fault fault)
      go (inl is) = ends_same Any link (Unit {0}) Spent seen fails.given new (Fault fault) is.1 (told_as Any link (Unit {0}) Spent seen fails.given (Fault fault) fails.answer (sym is.0) (opening_results seen fails.given fails.answer fails.plays))
      go (inr strands) = told_as Any link (Unit {0}) Spent seen new (Fault fault) (Fault (faults.ConnectionError cause.NotOwed)) (ap Fault strands.is) (λ grave. absurd grave)

  pub opened_reasons : (direction : Direction) (mark after former kept : Option End) (old new : SessionValue) (result : Result TransferValue FtpError) → Opens link coding called direction mark after former kept old new result → IfErr result (λ fault. CountsFaultsBeside link old new (Fault fault))
  opened_reasons direction mark after former kept old new (Ok transfer) opens = tt
  opened_reasons direction mark after former kept old new (Err fault) opens = seen_fails false opens.between old new fault opens.goes_on.2

  pub replied_reasons : (direction : Direction) (mark after former kept : Option End) (old new : SessionValue) (result : Result (Response × TransferValue) FtpError) → OpensReplied link coding called direction mark after former kept old new result → IfErr result (λ fault. CountsFaultsBeside link old new (Fault fault))
  replied_reasons direction mark after former kept old new (Ok opened) opens = tt
  replied_reasons direction mark after former kept old new (Err fault) opens = seen_fails true opens.between old new fault opens.goes_on.2

-- a transfer whose data connection was taken back is finished
pub finish_reasons : (link : Link) (coding : Coding) (held new : SessionValue) (told : Answer) → PlaysAlone link coding call.Finish held new told → CountsFaultsBeside link held new told
finish_reasons link coding held new told plays = to_beside link held new told (alone_results Any link (Unit {0}) Spent coding call.Finish held new told (λ is. tt) (opens_backed coding call.Finish refl) plays)

-- a transfer comes to its end
ends_send : (aborts : Bool) → sends (cond aborts call.Abort call.Finish) ≡ false
ends_send true = refl
ends_send false = refl

pub ends_reasons : (link : Link) (coding : Coding) (aborts : Bool) (transfer : TransferValue) (mark after : Option End) (old new : SessionValue) (told : Answer) → BringsToEnd link coding (cond aborts call.Abort call.Finish) transfer mark after old new told → CountsFaultsBeside link (with_data (Some transfer.told) old) new told
ends_reasons link coding aborts transfer mark after old new told brings = to_beside link begun new told (go (is_out transfer.end.number mark old) brings)
  where
    begun : SessionValue
    begun = with_data (Some transfer.told) old

    said : (other : FtpError) → (IsGrave other → ⊥) → told ≡ Fault (cond old.channel.failed faults.SessionFailed other) → Beside link begun new told
    said other none is = told_as Any link (Unit {0}) Spent begun new told (Fault (cond old.channel.failed faults.SessionFailed other)) is (said_failed link (Unit {0}) Spent begun new other none)

    go : (b : Bool) → BringsToEndIf b link coding (cond aborts call.Abort call.Finish) transfer mark after old new told → Beside link begun new told
    go true (inl done) = alone_results Any link (Unit {0}) Spent coding (cond aborts call.Abort call.Finish) begun new told (λ is. tt) (opens_backed coding (cond aborts call.Abort call.Finish) (ends_send aborts)) done.made
    go true (inr without) = said faults.OutOfMemory (λ grave. grave) without.is
    go false passes = said (faults.ConnectionError cause.NotOwed) (λ grave. grave) passes.is
