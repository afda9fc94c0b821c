-- Lists of calls, each of which is made in step: after the replies that are due to commands that were dropped.
use Rattle.std.proofs.lemmas.List.{drop_more}
use Rattle.std.proofs.Math.ListN.{drop_of_length-le}
use Rattle.std.proofs.Common.{◌≡◌, ℕ, ◌+◌, ◌<◌, ◌≤◌, drop, get_or, Bool, true, false, List, [], ◌∷◌, ◌++◌, length, inl, inr, ◌⊎◌, refl, ap, sym, ◌∙◌, subst, append_assoc, append-nil}
use Rattle.ftp_calls.specs.declared.call.Answer.{Answer}
use Rattle.ftp_calls.specs.declared.call.Answer.TheVariants.{Fault}
use Rattle.ftp_calls.specs.declared.call.Call.{Call}
use Rattle.ftp_runs.specs.declared.model.Ran.TheVariants.{Finished}
use Rattle.ftp_dialogue.specs.State.{SessionValue}
use Rattle.ftp_dialogue.specs.Coding.{Coding}
use Rattle.ftp_calls.specs.Exchanges.{drains, drains_first, is_local}
use Rattle.ftp_dialogue.proofs.CarryingLemmas.{refused_so, taken_going}
use Rattle.ftp_dialogue.specs.Promises.{lacks_of, DrainsIf, FailsWith, HasFault, play_state, Plays, PlaysAlone, IsRefusal, IsRefused, IsPlayed, IsWithheld}
use Rattle.ftp_runs.specs.Following.{MadeAmong, MadeInStep}
use Rattle.ftp_runs.specs.Runs.{AllRefused, are_due, before_all, Makes, PlaysAmong, RanTo, RunAborts, RunCatchesUp, Runs, RunsTo}
use Rattle.ftp_dialogue.specs.Steps.Moving.{MadeDrained}
use Rattle.ftp_dialogue.proofs.DrainingLemmas.{drained_fails, drained_plays, failed_undue}
use Rattle.ftp_dialogue.specs.Link.{Link, unasked}
use Rattle.std.specs.Prelude.{◌&&◌, ◌||◌, ◌==◌, Option, Some, None, not}
use Rattle.futures.specs.declared.task.Poll.TheVariants.{Ready}
use Rattle.ftp_base.specs.declared.types.fault.FtpError.{FtpError}
use Rattle.ftp_dialogue.specs.CatchingUp.{CatchesUp, InStepIf, MakesThen, PlaysInStep, reads_dropped_first, is_plain_read, opens_beside}
use Rattle.ftp_dialogue.proofs.CatchingUpLemmas.{plays_in_step}
use Rattle.ftp_session.proofs.Grounds.{up_caught}
use Rattle.ftp_runs.proofs.Running.{RunsSoFar, before_all-Finished, next_answer, run-nil}

all_snoc : (calls : List Call) (first : List Answer) (call : Call) (answer : Answer) → AllRefused calls first → (is_local call ≡ false → IsRefusal answer) → AllRefused (calls ++ call ∷ []) (first ++ answer ∷ [])
all_snoc [] first call answer none is =
    let P : List Answer → Type 0 = λ l. AllRefused (call ∷ []) (l ++ answer ∷ []) in
    subst P (sym none) (is, refl)
all_snoc (one ∷ calls) [] call answer all is = absurd all
all_snoc (one ∷ calls) (first ∷ answers) call answer all is = (all.0, all_snoc calls answers call answer all.1 is)

-- one call more is made
makes_more : (due : Bool) (link : Link) (coding : Coding) (made : List Call) (call : Call) (old mid new : SessionValue) (answers : List Answer) (answer : Answer) → Makes due link coding made old mid answers → PlaysAmong due link coding call mid new answer → Makes due link coding (made ++ call ∷ []) old new (answers ++ answer ∷ [])
makes_more due link coding [] call old mid new answers answer so_far plays =
    let P : SessionValue → Type 0 = λ v. PlaysAmong due link coding call v new answer in
    (new, answer, [], ap (λ a. a ++ answer ∷ []) so_far.1, subst P so_far.0 plays, (refl, refl))
makes_more due link coding (first ∷ made) call old mid new answers answer so_far plays =
    (so_far.0, so_far.1, so_far.2 ++ answer ∷ [], ap (λ a. a ++ answer ∷ []) so_far.3, so_far.4, makes_more due link coding made call so_far.0 mid new so_far.2 answer so_far.5 plays)

-- a session that has failed reads no replies that are due
failed_unread : (call : Call) (v : SessionValue) → v.channel.failed ≡ true → reads_dropped_first call v ≡ false
failed_unread call v failed = ap (λ f. not (f || (v.state.unanswered == 0)) && (drains_first call || drains call) && not (opens_beside call v.state.counts.owed)) failed

-- a call after one that was aborted
aborted_more : (link : Link) (coding : Coding) (calls to_make : List Call) (call : Call) (old mid new : SessionValue) (answers : List Answer) (answer : Answer) → RunAborts link coding calls (call ∷ to_make) old mid answers → PlaysAmong (are_due old) link coding call mid new answer → RunAborts link coding calls to_make old new (answers ++ answer ∷ [])
aborted_more link coding calls to_make call old mid new answers answer broke plays = record {
  first = broke.first;
  call = broke.call;
  made = broke.made ++ call ∷ [];
  before = broke.before;
  ran = let P : List Call → Type 0 = λ l. RanTo link coding calls (broke.call ∷ l) old broke.before broke.first in subst P (sym (append_assoc broke.made (call ∷ []) to_make)) broke.ran;
  part = broke.part;
  middle = broke.middle;
  begins = broke.begins;
  going = broke.going;
  fault = broke.fault;
  last = broke.last;
  aborts = broke.aborts;
  after = broke.after;
  lets_go = broke.lets_go;
  later = broke.later ++ answer ∷ [];
  answers_are = ap (λ a. a ++ answer ∷ []) broke.answers_are ∙ append_assoc broke.first (Fault broke.fault ∷ broke.later) (answer ∷ []);
  makes = makes_more (are_due old) link coding broke.made call broke.after mid new broke.later answer broke.makes plays;
  failed = λ failed. by_itself failed (broke.failed failed);
}
  where
    go : PlaysAlone link coding call mid new answer → broke.after.channel.failed ≡ true → (mid.channel ≡ broke.after.channel) × AllRefused broke.made broke.later → (new.channel ≡ broke.after.channel) × AllRefused (broke.made ++ call ∷ []) (broke.later ++ answer ∷ [])
    go alone failed so_far = by alone.made
      where
        by : IsRefused link.tells call mid new answer ⊎ IsPlayed link coding call mid new answer ⊎ IsWithheld mid new answer → (new.channel ≡ broke.after.channel) × AllRefused (broke.made ++ call ∷ []) (broke.later ++ answer ∷ [])
        by (inl refused) =
            let so = refused_so link.beside link.tells coding call mid new answer refused in
            (so.channel ∙ so_far.0, all_snoc broke.made broke.later call answer so_far.1 (λ abroad. so.refusal_is))
        by (inr (inl played)) = apart (is_local call) refl
          where
            apart : (b : Bool) → is_local call ≡ b → (new.channel ≡ broke.after.channel) × AllRefused (broke.made ++ call ∷ []) (broke.later ++ answer ∷ [])
            apart true local = (played.apart local ∙ so_far.0, all_snoc broke.made broke.later call answer so_far.1 (λ abroad. (let clash : true ≡ false = sym local ∙ abroad in cc)))
            apart false abroad =
                let clash : true ≡ false = sym failed ∙ sym (ap (λ c. c.failed) so_far.0) ∙ taken_going call mid.channel.failed (lacks_of call mid) played.going abroad in
                cc
        by (inr (inr none)) =
            let clash : true ≡ false = sym failed ∙ sym (ap (λ c. c.failed) so_far.0) ∙ none.going in
            cc

    by_itself : broke.after.channel.failed ≡ true → (mid.channel ≡ broke.after.channel) × AllRefused broke.made broke.later → (new.channel ≡ broke.after.channel) × AllRefused (broke.made ++ call ∷ []) (broke.later ++ answer ∷ [])
    by_itself failed so_far =
        let P : Bool → Type 0 = λ b. DrainsIf b (PlaysAlone link coding) call mid new answer in
        let has_failed : mid.channel.failed ≡ true = ap (λ c. c.failed) so_far.0 ∙ failed in
        let by_then : Plays link coding call mid new answer = unread (are_due old) has_failed plays in
        go (subst P (failed_undue call mid has_failed) by_then.makes) failed so_far
      where
        unread : (due : Bool) → mid.channel.failed ≡ true → PlaysAmong due link coding call mid new answer → Plays link coding call mid new answer
        unread true has_failed step =
            let S : Bool → Type 0 = λ b. InStepIf b (unasked link) (is_plain_read call) (drains call) (Plays link coding call) mid new answer in
            subst S (failed_unread call mid has_failed) step.plays
        unread false has_failed by_then = by_then

-- replies that are due are read before a call
catches_up : (link : Link) (coding : Coding) (calls later : List Call) (call : Call) (old mid new : SessionValue) (answers : List Answer) (answer : Answer) → are_due old ≡ true → RanTo link coding calls (call ∷ later) old mid answers → reads_dropped_first call mid ≡ true → PlaysInStep link coding call mid new answer → RunCatchesUp link coding calls later old new (answers ++ answer ∷ [])
catches_up link coding calls later call old mid new answers answer due ran behind plays = record {
  due = due;
  first = answers;
  call = call;
  made = [];
  before = mid;
  ran = ran;
  behind = behind;
  later = answer ∷ [];
  answers_are = refl;
  makes = (new, answer, [], refl, plays, (refl, refl));
}

-- a call after that
caught_more : (link : Link) (coding : Coding) (calls to_make : List Call) (call : Call) (old mid new : SessionValue) (answers : List Answer) (answer : Answer) → RunCatchesUp link coding calls (call ∷ to_make) old mid answers → PlaysInStep link coding call mid new answer → RunCatchesUp link coding calls to_make old new (answers ++ answer ∷ [])
caught_more link coding calls to_make call old mid new answers answer caught plays = record {
  due = caught.due;
  first = caught.first;
  call = caught.call;
  made = caught.made ++ call ∷ [];
  before = caught.before;
  ran = let P : List Call → Type 0 = λ l. RanTo link coding calls (caught.call ∷ l) old caught.before caught.first in subst P (sym (append_assoc caught.made (call ∷ []) to_make)) caught.ran;
  behind = caught.behind;
  later = caught.later ++ answer ∷ [];
  answers_are = ap (λ a. a ++ answer ∷ []) caught.answers_are ∙ append_assoc caught.first caught.later (answer ∷ []);
  makes = makes_more true link coding (caught.call ∷ caught.made) call caught.before mid new caught.later answer caught.makes plays;
}

-- no call is left
ran_all : (link : Link) (coding : Coding) (calls : List Call) (old new : SessionValue) (answers : List Answer) → RanTo link coding calls [] old new answers → RunsTo link coding calls old new answers
ran_all link coding calls old new answers reached = record {
  came = reached.came;
  answered = reached.answered;
  goes = reached.goes;
  runs = λ h agrees room more ended outcomes fit on.
      reached.runs h agrees room more ended outcomes fit on
      ∙ ap (before_all answers) (run-nil coding room (play_state new more ended outcomes))
      ∙ before_all-Finished answers [] (play_state new more ended outcomes)
      ∙ ap (λ a. Finished a (play_state new more ended outcomes)) (append-nil answers);
}

-- it fails the session only where the call fails
pub step_fails_with : (link : Link) (coding : Coding) (call : Call) (old new : SessionValue) (answer : Answer) → MadeInStep link coding call old new answer → FailsWith old new (answer ∷ [])
step_fails_with link coding call old new answer made = go (reads_dropped_first call old) made
  where
    then : (middle : SessionValue) (fault : Option FtpError) (ends : Bool) → CatchesUp (unasked link) (is_plain_read call) old middle (Ready fault) → MakesThen fault ends (MadeDrained link coding call) middle new answer → FailsWith old new (answer ∷ [])
    then middle (Some fault) ends up stops =
        let P : Answer → Type 0 = λ a. FailsWith old new (a ∷ []) in
        subst P (sym stops.0) (λ failed. inr (inl tt))
    then middle None true up stops = λ failed. inl ((up_caught (unasked link) (is_plain_read call) old middle None up).going (ap (λ v. v.channel.failed) (sym stops.1) ∙ failed))
    then middle None false up more = λ failed. on (drained_fails link coding call middle new answer more failed)
      where
        on : (middle.channel.failed ≡ true) ⊎ HasFault (answer ∷ []) → (old.channel.failed ≡ true) ⊎ HasFault (answer ∷ [])
        on (inl was) = inl ((up_caught (unasked link) (is_plain_read call) old middle None up).going was)
        on (inr fault) = inr fault

    go : (b : Bool) → InStepIf b (unasked link) (is_plain_read call) (drains call) (MadeDrained link coding call) old new answer → FailsWith old new (answer ∷ [])
    go false more = drained_fails link coding call old new answer more
    go true first = then first.middle first.fault (drains call) first.catches_up first.then_makes

pub among_fails_with : (due : Bool) (link : Link) (coding : Coding) (call : Call) (old new : SessionValue) (answer : Answer) → MadeAmong due link coding call old new answer → FailsWith old new (answer ∷ [])
among_fails_with true link coding call old new answer made = step_fails_with link coding call old new answer made
among_fails_with false link coding call old new answer made = drained_fails link coding call old new answer made

-- it is its dialogue
pub among_plays : (due : Bool) (link : Link) (coding : Coding) (call : Call) (old new : SessionValue) (answer : Answer) → MadeAmong due link coding call old new answer → PlaysAmong due link coding call old new answer
among_plays true link coding call old new answer made = plays_in_step link coding call old new answer made
among_plays false link coding call old new answer made = drained_plays link coding call old new answer made

-- the next of the calls
pub next_of : (link : Link) (coding : Coding) (calls : List Call) (i : ℕ) (call : Call) (old mid new : SessionValue) (answers answers' : List Answer) (answer : Answer) → i < length calls → call ≡ get_or calls i call → answers' ≡ answers ++ answer ∷ [] → RunsSoFar link coding calls (drop i calls) old mid answers → MadeAmong (are_due old) link coding call mid new answer → RunsSoFar link coding calls (drop (i + 1) calls) old new answers'
next_of link coding calls i call old mid new answers answers' answer inside is pushed so_far made =
    let P : List Answer → Type 0 = λ a. RunsSoFar link coding calls (drop (i + 1) calls) old new a in
    let Q : List Call → Type 0 = λ l. RunsSoFar link coding calls l old mid answers in
    let left : drop i calls ≡ call ∷ drop (i + 1) calls = drop_more calls i call inside ∙ ap (λ c. c ∷ drop (i + 1) calls) (sym is) in
    subst P (sym pushed) (go (subst Q left so_far))
  where
    rest : List Call
    rest = drop (i + 1) calls

    behind_next : (due : Bool) → are_due old ≡ due → (b : Bool) → reads_dropped_first call mid ≡ b → RanTo link coding calls (call ∷ rest) old mid answers → PlaysInStep link coding call mid new answer → InStepIf b (unasked link) (is_plain_read call) (drains call) (MadeDrained link coding call) mid new answer → due ≡ true → RunsSoFar link coding calls rest old new (answers ++ answer ∷ [])
    behind_next due is_due false none reached plays more late = next_answer link coding calls rest call old mid answers reached new answer more
    behind_next due is_due true behind reached plays first late = inr (inr (catches_up link coding calls rest call old mid new answers answer (is_due ∙ late) reached behind plays))

    reached_next : (due : Bool) → are_due old ≡ due → RanTo link coding calls (call ∷ rest) old mid answers → MadeAmong due link coding call mid new answer → RunsSoFar link coding calls rest old new (answers ++ answer ∷ [])
    reached_next true is_due reached step = behind_next true is_due (reads_dropped_first call mid) refl reached (plays_in_step link coding call mid new answer step) step refl
    reached_next false is_due reached drained = next_answer link coding calls rest call old mid answers reached new answer drained

    caught_next : (due : Bool) → are_due old ≡ due → RunCatchesUp link coding calls (call ∷ rest) old mid answers → MadeAmong due link coding call mid new answer → RunsSoFar link coding calls rest old new (answers ++ answer ∷ [])
    caught_next true is_due caught step = inr (inr (caught_more link coding calls rest call old mid new answers answer caught (plays_in_step link coding call mid new answer step)))
    caught_next false is_due caught drained = (let wrong : true ≡ false = sym caught.due ∙ is_due in cc)

    go : RunsSoFar link coding calls (call ∷ rest) old mid answers → RunsSoFar link coding calls rest old new (answers ++ answer ∷ [])
    go (inl reached) = reached_next (are_due old) refl reached made
    go (inr (inl broke)) = inr (inl (aborted_more link coding calls rest call old mid new answers answer broke (among_plays (are_due old) link coding call mid new answer made)))
    go (inr (inr caught)) = caught_next (are_due old) refl caught made

-- no call is left, or one was aborted
pub all_of : (link : Link) (coding : Coding) (calls : List Call) (i : ℕ) (old new : SessionValue) (answers : List Answer) → length calls ≤ i → RunsSoFar link coding calls (drop i calls) old new answers → Runs link coding calls old new answers
all_of link coding calls i old new answers past so_far =
    let P : List Call → Type 0 = λ l. RunsSoFar link coding calls l old new answers in
    go (subst P (drop_of_length-le calls {i = i} past) so_far)
  where
    go : RunsSoFar link coding calls [] old new answers → Runs link coding calls old new answers
    go (inl reached) = inl (ran_all link coding calls old new answers reached)
    go (inr broke) = inr broke
