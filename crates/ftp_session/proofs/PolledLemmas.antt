-- Lemmas on calls that are polled.
use Rattle.std.proofs.Common.{◌≡◌, Bool, true, false, Option, sym, subst}
use Rattle.futures.specs.declared.task.Poll.{Poll}
use Rattle.futures.specs.declared.task.Poll.TheVariants.{Ready, Pending}
use Rattle.ftp_calls.specs.declared.call.Answer.{Answer}
use Rattle.ftp_calls.specs.declared.call.Call.{Call}
use Rattle.ftp_calls.specs.declared.call.Call.TheVariants.{Drain}
use Rattle.ftp_calls.specs.declared.exchange.Turn.TheVariants.{First}
use Rattle.ftp_transfer.specs.Mark.{End}
use Rattle.ftp_dialogue.specs.Coding.{Coding}
use Rattle.ftp_calls.specs.Exchanges.{drains}
use Rattle.ftp_dialogue.specs.Link.{Link}
use Rattle.ftp_dialogue.specs.Play.{is_unit}
use Rattle.ftp_dialogue.specs.Promises.{due_of}
use Rattle.ftp_dialogue.specs.State.{SessionValue}
use Rattle.ftp_dialogue.specs.Steps.Polls.{StartsTo}
use Rattle.ftp_dialogue.specs.declared.stage.Stage.{Stage}
use Rattle.ftp_dialogue.specs.declared.stage.Stage.TheVariants.{At}
use Rattle.ftp_session.specs.Polled.{DrainsFirst, LooksFirst, PollsCall, PollsInStep, PollsNext, PollsNextIf, PollsUnless, ThenStartsIf, UnderWay, after_poll}

module _ (link : Link) (may_wait : Type 0) (coding : Coding) (call : Call) (stage stage' : Stage) (v w : SessionValue) (result : Poll Answer) where
  pub next_undue : due_of call v ≡ false → StartsTo link may_wait coding call stage stage' v w result → PollsNext link may_wait coding call stage stage' v w result
  next_undue undue polls =
      let P : Bool → Type 0 = λ b. PollsNextIf b link may_wait coding call stage stage' v w result in
      record { polls = subst P (sym undue) polls }

  next_due : due_of call v ≡ true → DrainsFirst link may_wait coding call stage stage' v w result → PollsNext link may_wait coding call stage stage' v w result
  next_due due drains =
      let P : Bool → Type 0 = λ b. PollsNextIf b link may_wait coding call stage stage' v w result in
      record { polls = subst P (sym due) drains }

  module _ (middle : SessionValue) (at : Stage) (due : due_of call v ≡ true) where
    pub next_over : (first : Answer) → StartsTo link may_wait coding Drain (At First) at v middle (Ready first) → is_unit first ≡ true → StartsTo link may_wait coding call stage stage' middle w result → PollsNext link may_wait coding call stage stage' v w result
    next_over first drains unit polls =
        let T : Bool → Type 0 = λ b. ThenStartsIf b link may_wait coding call stage stage' first middle w result in
        next_due due (record { middle = middle; first = Ready first; at = at; drains = drains; then_starts = subst T (sym unit) polls })

    pub next_fault : (first : Answer) → StartsTo link may_wait coding Drain (At First) at v middle (Ready first) → is_unit first ≡ false → result ≡ Ready first → w ≡ middle → PollsNext link may_wait coding call stage stage' v w result
    next_fault first drains fault is same =
        let T : Bool → Type 0 = λ b. ThenStartsIf b link may_wait coding call stage stage' first middle w result in
        next_due due (record { middle = middle; first = Ready first; at = at; drains = drains; then_starts = subst T (sym fault) (is, same) })

    pub next_waits : StartsTo link may_wait coding Drain (At First) at v middle Pending → result ≡ Pending → w ≡ middle → stage' ≡ stage → PollsNext link may_wait coding call stage stage' v w result
    next_waits drains is same stays = next_due due (record { middle = middle; first = Pending; at = at; drains = drains; then_starts = (is, same, stays) })

-- a call that has no answer yet is polled after its look
pub polls_seen : (link : Link) (may_wait : Type 0) (coding : Coding) (p q : UnderWay) (mark after : Option End) (old seen new : SessionValue) (stage : Stage) (behind : Bool) (result : Poll Answer) → p.over ≡ false → LooksFirst p.looks mark after old seen → PollsInStep link may_wait coding p.call p.stage stage behind seen new result → q ≡ after_poll result stage behind p → PollsCall link may_wait coding p q mark after old new result
polls_seen link may_wait coding p q mark after old seen new stage behind result over looks polls next =
    let P : Bool → Type 0 = λ b. PollsUnless b link may_wait coding p q mark after old new result in
    subst P (sym over) (record { seen = seen; stage = stage; behind = behind; looks = looks; polls = polls; next = next })
