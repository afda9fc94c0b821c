-- Lemmas on the last reply of a transfer that was left, which comes before a call.
use Rattle.std.proofs.Common.{◌≡◌, ◌||◌, ℕ, Bool, true, false, cond, Option, Some, None, List, [], ◌∷◌, inl, inr, ◌⊎◌, refl, ap, sym, ◌∙◌, subst}
use Rattle.ftp_calls.specs.declared.call.Answer.{Answer}
use Rattle.ftp_calls.specs.declared.call.Answer.TheVariants as answers
use Rattle.ftp_calls.specs.declared.call.Call.{Call}
use Rattle.ftp_calls.specs.declared.call.Call.TheVariants.{Drain}
use Rattle.ftp_calls.specs.declared.exchange.Ending.{Ending}
use Rattle.ftp_calls.specs.declared.exchange.Ending.TheVariants.{Finishes, Stops}
use Rattle.ftp_calls.specs.declared.exchange.Row.{Row}
use Rattle.ftp_calls.specs.declared.exchange.Row.TheVariants.{Exchanges, Sets, Moves}
use Rattle.ftp_calls.specs.declared.exchange.Turn.TheVariants.{First}
use Rattle.ftp_calls.specs.Exchanges.{drained_row, drains_first, finishes, finishing_row, follows_reply, is_finishing, is_local, local_row, negotiates, row_of}
use Rattle.ftp_dialogue.specs.Coding.{Coding}
use Rattle.ftp_dialogue.specs.NetEvents.{NetEvent}
use Rattle.ftp_dialogue.specs.Dialogue.{dialogue, entered, opened_from, with_left}
use Rattle.ftp_dialogue.specs.Link.{Link}
use Rattle.ftp_dialogue.specs.Play.{Lacking, Refusal, Taken, is_due, is_unit, refusal}
use Rattle.ftp_dialogue.specs.Promises.{Aborts, Completes, DrainsIf, FailsWith, Goes, HasFault, IsFault, IsRefused, IsSuccess, MakesAfter, Plays, PlaysAlone, Refuses, Wired, begun_by, due_of, refusal_of}
use Rattle.ftp_dialogue.specs.Sound.{none_left}
use Rattle.ftp_dialogue.specs.State.{SessionValue}
use Rattle.ftp_dialogue.specs.declared.stage.Stage.{Stage}
use Rattle.ftp_dialogue.specs.declared.state.Owed.{Owed}
use Rattle.ftp_dialogue.specs.Steps.Moving.{Ends, Made, MadeDrained}
use Rattle.ftp_dialogue.specs.Steps.Polls.{entered_state, is_first}
use Rattle.ftp_dialogue.proofs.CarryingLemmas.{refused_so}
use Rattle.ftp_dialogue.proofs.Wired.{wired}
use Rattle.ftp_dialogue.proofs.NetEvents.{letting_beside}

-- a call that is none of the control connection comes before that reply
pub local_first : (call : Call) → is_local call ≡ true → drains_first call ≡ false
local_first call local = go (row_of call First) local
  where
    go : (row : Row) → local_row row ≡ true → drained_row row ≡ false
    go (Sets setting) is = refl
    go (Moves movement) is = refl
    go other is = let clash : false ≡ true = is in cc

-- nothing is due before such a call
pub not_first : (call : Call) (failed : Bool) (owed : Owed) → drains_first call ≡ false → is_due call failed owed ≡ false
not_first call failed owed none = go (failed || none_left owed)
  where
    go : (b : Bool) → cond b false (drains_first call) ≡ false
    go true = refl
    go false = none

pub local_undue : (call : Call) (v : SessionValue) → is_local call ≡ true → due_of call v ≡ false
local_undue call v local = not_first call v.channel.failed v.state.counts.owed (local_first call local)

-- nor in a session that has failed
pub failed_undue : (call : Call) (v : SessionValue) → v.channel.failed ≡ true → due_of call v ≡ false
failed_undue call v failed = ap (λ f. is_due call f v.state.counts.owed) failed

-- nor before one that brings a transfer to its end
finishing_follows : (ending : Ending) → is_finishing ending ≡ true → follows_reply ending ≡ false
finishing_follows (Finishes close) is = refl
finishing_follows Stops is = refl
finishing_follows other is = let clash : false ≡ true = is in cc

pub finishes_first : (call : Call) → finishes call ≡ true → drains_first call ≡ false
finishes_first call is = go (row_of call First) is
  where
    go : (row : Row) → finishing_row row ≡ true → drained_row row ≡ false
    go (Exchanges exchange) is = finishing_follows exchange.ending is
    go other is = let clash : false ≡ true = is in cc

-- nothing becomes due while a call is under way
pub undue_on : (call : Call) (stage : Stage) (v w : SessionValue) → w.state ≡ entered_state call stage v.state → w.channel.failed ≡ v.channel.failed → due_of call v ≡ false → due_of call w ≡ false
undue_on call stage v w state failed undue = go (finishes call) refl
  where
    entered_owed : (n : Bool) → (cond n (opened_from call v.state) (cond false (with_left v.state) v.state)).counts.owed ≡ v.state.counts.owed
    entered_owed true = refl
    entered_owed false = refl

    owed_at : finishes call ≡ false → (b : Bool) → (cond b (entered call v.state) v.state).counts.owed ≡ v.state.counts.owed
    owed_at none false = refl
    owed_at none true =
        let P : Bool → Type 0 = λ f. (cond (negotiates call) (opened_from call v.state) (cond f (with_left v.state) v.state)).counts.owed ≡ v.state.counts.owed in
        subst P (sym none) (entered_owed (negotiates call))

    go : (f : Bool) → finishes call ≡ f → due_of call w ≡ false
    go true is = not_first call w.channel.failed w.state.counts.owed (finishes_first call is)
    go false none =
        let same : w.state.counts.owed ≡ v.state.counts.owed = ap (λ s. s.counts.owed) state ∙ owed_at none (is_first stage) in
        ap (λ o. is_due call w.channel.failed o) same ∙ ap (λ f. is_due call f v.state.counts.owed) failed ∙ undue

-- where it is due the session goes on, and a transfer was left
pub record Due (call : Call) (failed : Bool) (owed : Owed) : Type 0 where
  pub going : failed ≡ false
  pub left : none_left owed ≡ false
  pub first : drains_first call ≡ true

pub due_so : (call : Call) (failed : Bool) (owed : Owed) → is_due call failed owed ≡ true → Due call failed owed
due_so call true owed due = let clash : false ≡ true = due in cc
due_so call false owed due = go (none_left owed) refl due
  where
    go : (b : Bool) → none_left owed ≡ b → cond b false (drains_first call) ≡ true → Due call false owed
    go true is due = let clash : false ≡ true = due in cc
    go false is due = record { going = refl; left = is; first = due }

-- the drain isn't refused then
pub due_taken : (call : Call) (v : SessionValue) → due_of call v ≡ true → refusal_of Drain v ≡ Taken
due_taken call v due =
    let so = due_so call v.channel.failed v.state.counts.owed due in
    ap (λ l. refusal Drain v.channel.failed l) so.left ∙ ap (λ f. refusal Drain f false) so.going

-- a call that is taken isn't refused
pub taken_unrefused : (tells : Type 0) (call : Call) (v w : SessionValue) (answer : Answer) → refusal_of call v ≡ Taken → IsRefused tells call v w answer → ⊥
taken_unrefused tells call v w answer taken refused =
    let R : Refusal → Type 0 = λ r. Refuses r tells call v w answer in
    subst R taken refused

-- a call that gives nothing gives this
pub unit_is : (answer : Answer) → is_unit answer ≡ true → answer ≡ answers.Unit
unit_is answers.Unit is = refl
unit_is other is = let clash : false ≡ true = is in cc

-- what goes on from where a call begins goes on from before it
pub goes_from : (link : Link) (came : List ℕ) (answered : List NetEvent) (call : Call) (old new : SessionValue) → Goes link came answered (begun_by call old) new → Goes link came answered old new
goes_from link came answered call old new goes = record { over = goes.over; received = goes.received; given = goes.given; failures = goes.failures; sent = goes.sent; said = goes.said; untaken = goes.untaken; at_hand = goes.at_hand; net_events = goes.net_events }

-- what is made of a call is its dialogue
pub made_plays : (link : Link) (coding : Coding) (call : Call) (old new : SessionValue) (answer : Answer) → Made link coding call old new answer → PlaysAlone link coding call old new answer
made_plays link coding call old new answer (inl refused) =
    let so = refused_so link.beside link.tells coding call old new answer refused in
    record {
      wired = λ success. absurd (so.unsuccessful success);
      made = inl refused;
      fails = so.fails;
    }
made_plays link coding call old new answer (inr made) = record {
  wired = λ success. words success made.plays;
  made = inr (inl (record { going = made.going; apart = made.apart; last = made.last; plays = go made.plays; lets_go = made.lets_go }));
  fails = λ failed. fails made.plays (sym (ap (λ v. v.channel.failed) (letting_beside link.tells made.last new made.lets_go)) ∙ failed);
}
  where
    go : Ends link (dialogue coding call old.state) answer (begun_by call old) made.last ⊎ Aborts link false (dialogue coding call old.state) answer (begun_by call old) made.last → Completes link (dialogue coding call old.state) answer (begun_by call old) made.last ⊎ Aborts link false (dialogue coding call old.state) answer (begun_by call old) made.last
    go (inl ends) = inl ends.completes
    go (inr aborts) = inr aborts

    fails : Ends link (dialogue coding call old.state) answer (begun_by call old) made.last ⊎ Aborts link false (dialogue coding call old.state) answer (begun_by call old) made.last → made.last.channel.failed ≡ true → (old.channel.failed ≡ true) ⊎ IsFault answer
    fails (inl ends) failed = ends.fails failed
    fails (inr aborts) failed = let P : Answer → Type 0 = IsFault in inr (subst P (sym aborts.is) tt)

    words : IsSuccess answer → Ends link (dialogue coding call old.state) answer (begun_by call old) made.last ⊎ Aborts link false (dialogue coding call old.state) answer (begun_by call old) made.last → Wired link coding call old new
    words success (inl ends) = wired link coding call old made.last new made.lets_go answer ends.completes success
    words success (inr aborts) = let P : Answer → Type 0 = IsSuccess in absurd (subst P aborts.is success)

-- what is made of a call fails the session only where the call fails
pub made_fails : (link : Link) (coding : Coding) (call : Call) (old new : SessionValue) (answer : Answer) → Made link coding call old new answer → FailsWith old new (answer ∷ [])
made_fails link coding call old new answer made failed = go ((made_plays link coding call old new answer made).fails failed)
  where
    go : (old.channel.failed ≡ true) ⊎ IsFault answer → (old.channel.failed ≡ true) ⊎ HasFault (answer ∷ [])
    go (inl was) = inl was
    go (inr fault) = inr (inl fault)

-- what is made of a call is its dialogue, after the drain where it is due
pub drained_plays : (link : Link) (coding : Coding) (call : Call) (old new : SessionValue) (answer : Answer) → MadeDrained link coding call old new answer → Plays link coding call old new answer
drained_plays link coding call old new answer made = record { makes = go (due_of call old) made.makes }
  where
    go : (b : Bool) → DrainsIf b (Made link coding) call old new answer → DrainsIf b (PlaysAlone link coding) call old new answer
    go false made = made_plays link coding call old new answer made
    go true made = record { middle = made.middle; first = made.first; drains = made_plays link coding Drain old made.middle made.first made.drains; then_makes = goes_on (is_unit made.first) made.then_makes }
      where
        goes_on : (b : Bool) → MakesAfter b made.first (Made link coding call) made.middle new answer → MakesAfter b made.first (PlaysAlone link coding call) made.middle new answer
        goes_on true made = made_plays link coding call _ new answer made
        goes_on false ends = ends

-- it fails the session only where the call fails
pub drained_fails : (link : Link) (coding : Coding) (call : Call) (old new : SessionValue) (answer : Answer) → MadeDrained link coding call old new answer → FailsWith old new (answer ∷ [])
drained_fails link coding call old new answer made = go (due_of call old) made.makes
  where
    go : (b : Bool) → DrainsIf b (Made link coding) call old new answer → FailsWith old new (answer ∷ [])
    go false made = made_fails link coding call old new answer made
    go true made = goes_on (is_unit made.first) refl made.then_makes
      where
        drain : FailsWith old made.middle (made.first ∷ [])
        drain = made_fails link coding Drain old made.middle made.first made.drains

        goes_on : (b : Bool) → is_unit made.first ≡ b → MakesAfter b made.first (Made link coding call) made.middle new answer → FailsWith old new (answer ∷ [])
        goes_on false none ends =
            let P : SessionValue → Answer → Type 0 = λ v a. FailsWith old v (a ∷ []) in
            let Q : SessionValue → Type 0 = λ v. P v made.first in
            let R : Answer → Type 0 = λ a. P new a in
            subst R (sym ends.0) (subst Q (sym ends.1) drain)
        goes_on true is then = λ failed. after (made_fails link coding call made.middle new answer then failed)
          where
            no_fault : IsFault made.first → ⊥
            no_fault one = let P : Answer → Type 0 = IsFault in subst P (unit_is made.first is) one

            before : (old.channel.failed ≡ true) ⊎ HasFault (made.first ∷ []) → (old.channel.failed ≡ true) ⊎ HasFault (answer ∷ [])
            before (inl was) = inl was
            before (inr (inl one)) = absurd (no_fault one)
            before (inr (inr none)) = absurd none

            after : (made.middle.channel.failed ≡ true) ⊎ HasFault (answer ∷ []) → (old.channel.failed ≡ true) ⊎ HasFault (answer ∷ [])
            after (inl was) = before (drain was)
            after (inr fault) = inr fault

-- nothing is due, so what is made of the call is all
pub makes_undue : (Makes : Call → SessionValue → SessionValue → Answer → Type 0) (call : Call) (old new : SessionValue) (answer : Answer) → due_of call old ≡ false → Makes call old new answer → DrainsIf (due_of call old) Makes call old new answer
makes_undue Makes call old new answer none makes =
    let P : Bool → Type 0 = λ b. DrainsIf b Makes call old new answer in
    subst P (sym none) makes

-- an answer that is given unless it is of a call that gives nothing
given_if : (answer : Answer) (other : Option Answer) → other ≡ cond (is_unit answer) None (Some answer) → (b : Bool) → is_unit answer ≡ b → other ≡ cond b None (Some answer)
given_if answer other given b is = given ∙ ap (λ x. cond x None (Some answer)) is

pub given_more : (first answer : Answer) (other : Option Answer) → other ≡ cond (is_unit first) None (Some first) → other ≡ Some answer → (is_unit first ≡ false) × (answer ≡ first)
given_more first answer other given is = go (is_unit first) refl
  where
    go : (b : Bool) → is_unit first ≡ b → (is_unit first ≡ false) × (answer ≡ first)
    go true unit = let clash : Some answer ≡ None = sym is ∙ given_if first other given true unit in cc
    go false none = (none, same (sym is ∙ given_if first other given false none))
      where
        same : Some answer ≡ Some first → answer ≡ first
        same eq = cc

pub given_none : (first : Answer) (other : Option Answer) → other ≡ cond (is_unit first) None (Some first) → other ≡ None → is_unit first ≡ true
given_none first other given is = go (is_unit first) refl
  where
    go : (b : Bool) → is_unit first ≡ b → is_unit first ≡ true
    go true unit = unit
    go false none = let clash : None ≡ Some first = sym is ∙ given_if first other given false none in cc

-- a call that is taken doesn't lack its transfer
pub taken_held : (call : Call) (v : SessionValue) → refusal_of call v ≡ Taken → refusal_of call v ≡ Lacking → ⊥
taken_held call v taken lacking = let clash : Taken ≡ Lacking = sym taken ∙ lacking in cc
