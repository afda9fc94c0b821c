-- Lemmas on the close of a data connection, and what follows it.
use Rattle.std.proofs.Common.{◌≡◌, ◌<◌, true, false, Option, Some, None, inl, refl, sym, ◌∙◌, subst, arith}
use Rattle.std.specs.declared.io.ErrorKind.{ErrorKind}
use Rattle.ftp_calls.specs.Exchanges.{finishes, kind_of_fetch, negotiates}
use Rattle.ftp_calls.specs.declared.call.Answer.{Answer}
use Rattle.ftp_calls.specs.declared.call.Call.{Call}
use Rattle.ftp_calls.specs.declared.exchange.Fetch.{Fetch}
use Rattle.ftp_calls.specs.declared.exchange.Movement.TheVariants as movement
use Rattle.ftp_dialogue.specs.Coding.{Coding}
use Rattle.ftp_dialogue.specs.Dialogue.{Tree, Move, closed_as, told_of_close}
use Rattle.ftp_dialogue.specs.Link.{Link}
use Rattle.ftp_dialogue.specs.State.{SessionValue}
use Rattle.ftp_dialogue.specs.Steps.Moving.{Closes, MakesStep, Quiet, Still, Tracks}
use Rattle.ftp_dialogue.specs.Steps.Stages.{AnswersKind, CloseOf, StageOf, begun_at, begun_until, close_left, nodes_left, nodes_of_close, remaining, stage_closed}
use Rattle.ftp_dialogue.specs.declared.model.NetOutcome.{NetOutcome}
use Rattle.ftp_dialogue.specs.declared.stage.AfterClose.{AfterClose}
use Rattle.ftp_dialogue.specs.declared.stage.AfterClose.TheVariants.{Finishes, Aborts, Fetched}
use Rattle.ftp_dialogue.specs.declared.stage.Stage.{Stage}
use Rattle.ftp_dialogue.specs.declared.stage.Stage.TheVariants.{Closing}
use Rattle.ftp_dialogue.specs.declared.stage.Step.TheVariants.{Next}
use Rattle.ftp_dialogue.specs.declared.state.State.{State}
use Rattle.ftp_dialogue.proofs.NegotiationLemmas.{moved_still, still_touched}
use Rattle.ftp_dialogue.proofs.Sorts.{aborts_finish, finishing_no_read}

closed_kind : (form : Fetch) (told : Option ErrorKind) (answer : Answer) → AnswersKind (kind_of_fetch form) answer → AnswersKind (kind_of_fetch form) (closed_as told answer)
closed_kind form None answer kind = kind
closed_kind form (Some fault) answer kind = tt

module _ (coding : Coding) (call : Call) where
  -- what follows is the stage by what the close results in
  abbrev on_close : AfterClose → State → NetOutcome → Tree
  on_close after state came = remaining coding call state (stage_closed after (told_of_close state.uploads came))

  close_is : (after : AfterClose) (state : State) → close_left coding call state after ≡ Move movement.Close (on_close after state)
  close_is Finishes state = refl
  close_is other state = refl

  close_fewer : (after : AfterClose) (told : Option ErrorKind) → nodes_left (stage_closed after told) < nodes_of_close after
  close_fewer Finishes told = omega arith
  close_fewer other told = omega arith

  close_of : (after : AfterClose) (told : Option ErrorKind) → CloseOf call after → StageOf call (stage_closed after told)
  close_of Finishes told of = of
  close_of Aborts told of = of
  close_of (Fetched form answer) told of = (of.0, closed_kind form told answer of.1)

  module _ (link : Link) (old new : SessionValue) where
    -- but where the close is the first thing, something was said or taken before
    close_quiet : (after : AfterClose) (told : Option ErrorKind) → CloseOf call after → Still link (close_left coding call old.state after) (remaining coding call old.state (stage_closed after told)) old new → Quiet link coding call (Closing after) (stage_closed after told) old new Next
    close_quiet Finishes told of still = λ none. record { still = still; begun = refl; speaks = λ speaks. absurd speaks; read = λ read. (let clash : true ≡ false = sym read ∙ finishing_no_read call of in cc) }
    close_quiet Aborts told of still = λ none. let clash : true ≡ false = none in cc
    close_quiet (Fetched form answer) told of still = λ none. let clash : true ≡ false = none in cc

    close_tracks : (after : AfterClose) (told : Option ErrorKind) → Still link (close_left coding call old.state after) (remaining coding call old.state (stage_closed after told)) old new → Tracks link (begun_until after) (begun_at (stage_closed after told)) (close_left coding call old.state after) old new Next
    close_tracks Finishes told still = (λ has. (let clash : false ≡ true = has in cc), λ none. (refl, still_touched link _ _ old new still))
    close_tracks Aborts told still = (λ has. inl refl, λ none. let clash : true ≡ false = none in cc)
    close_tracks (Fetched form answer) told still = (λ has. inl refl, λ none. let clash : true ≡ false = none in cc)

    pub closed : (after : AfterClose) (stage' : Stage) → CloseOf call after → Closes link.tells after stage' old new → MakesStep link coding call (Closing after) stage' old new Next
    closed after stage' of closes =
        let told : Option ErrorKind = told_of_close old.state.uploads closes.outcome in
        let next : Stage = stage_closed after told in
        let T : Tree → Type 0 = λ t. Still link t (remaining coding call old.state next) old (record old { net = new.net }) in
        let V : SessionValue → Type 0 = λ v. Still link (close_left coding call old.state after) (remaining coding call old.state next) old v in
        let S : Stage → Type 0 = λ s. MakesStep link coding call (Closing after) s old new Next in
        let still = subst V (sym closes.beside) (subst T (sym (close_is after old.state)) (moved_still link old new.net movement.Close closes.outcome closes.net_event (on_close after old.state))) in
        subst S (sym closes.is) (record {
          steps = still.advances;
          quiet = close_quiet after told of still;
          begun = close_tracks after told still;
          answers = tt;
          fewer = λ is. close_fewer after told;
          stage_of = close_of after told of;
        })

-- a call whose data connection is closed opens one, or brings a transfer to its end
pub close_moves : {T : Type 0} (call : Call) (after : AfterClose) → CloseOf call after → negotiates call ≡ false → finishes call ≡ false → T
close_moves call Finishes of none ends = let clash : true ≡ false = sym of ∙ ends in cc
close_moves call Aborts of none ends = let clash : true ≡ false = sym (aborts_finish call of) ∙ ends in cc
close_moves call (Fetched form answer) of none ends = let clash : true ≡ false = sym of.0.0 ∙ none in cc
