-- Each call of a list has the cause of its error in itself.
use Rattle.std.proofs.lemmas.List.{drop_more}
use Rattle.std.proofs.Math.ListN.{drop_of_length-le}
use Rattle.std.proofs.Common.{◌≡◌, ◌+◌, ◌<◌, ◌≤◌, ℕ, Bool, true, drop, get_or, length, List, [], ◌∷◌, ◌++◌, Some, inl, inr, ◌⊎◌, refl, ap, sym, ◌∙◌, subst, append_assoc, append-nil, false}
use Rattle.std.specs.declared.io.ErrorKind.{ErrorKind}
use Rattle.std.specs.declared.io.ErrorKind.TheVariants.{WriteZero}
use Rattle.ftp_base.specs.declared.types.fault.FtpError.{FtpError}
use Rattle.ftp_base.specs.declared.types.fault.FtpError.TheVariants as faults
use Rattle.ftp_calls.specs.declared.call.Answer.{Answer}
use Rattle.ftp_calls.specs.declared.call.Call.{Call}
use Rattle.ftp_dialogue.specs.Coding.{Coding}
use Rattle.ftp_dialogue.specs.Counted.{CountsFailure, IsGivenBeside}
use Rattle.ftp_dialogue.specs.Dialogue.{dialogue}
use Rattle.ftp_dialogue.specs.Link.{Link}
use Rattle.ftp_dialogue.specs.Promises.{PlaysAlone}
use Rattle.ftp_dialogue.specs.Sound.{cannot_open}
use Rattle.ftp_dialogue.specs.CatchingUp.{PlaysInStep}
use Rattle.ftp_dialogue.specs.State.{SessionValue}
use Rattle.ftp_dialogue.specs.declared.state.State.{State}
use Rattle.ftp_dialogue.specs.PollCauses.{sends}
use Rattle.ftp_dialogue.proofs.Backed.{Backed, io, took_no_more}
use Rattle.ftp_dialogue.proofs.EveryStage.{Spent, begun_backed}
use Rattle.ftp_session.proofs.Grounds.{Grounds, Why, alone_grounds, plays_grounds, step_grounds}
use Rattle.ftp_session.proofs.Reasons.{spent_no_io}
use Rattle.ftp_runs.specs.Counting.{CountsEach, HasCause}
use Rattle.ftp_runs.specs.Following.{MadeAmong}
use Rattle.ftp_runs.specs.Runs.{PlaysAmong}
use Rattle.ftp_runs.proofs.InStep.{among_plays}

-- A call

-- that its transfers are spent is a reason, and that the data connection of an upload of its own takes no more bytes
abbrev ShortOr : Call → State → FtpError → Type 0
ShortOr called state fault = Spent state fault ⊎ ((sends called ≡ true) × (fault ≡ took_no_more))

backed : (coding : Coding) (called : Call) (state : State) → Backed (Unit {0}) (ShortOr called) (dialogue coding called state)
backed coding called state = begun_backed (Unit {0}) called (λ carries. tt) (ShortOr called) (λ is s. inr (is, refl)) coding state (λ is fault s spent leaf. inl spent)

has_cause : (link : Link) (called : Call) (old new : SessionValue) (answer : Answer) → Grounds link (Unit {0}) (ShortOr called) old new answer → HasCause link called old new answer
has_cause link called old new answer grounds = record { counted = λ kind is h. go kind (grounds (io kind) is tt) h; had_failed = λ is. had (grounds faults.SessionFailed is tt) }
  where
    go : (kind : ErrorKind) → Why link (Unit {0}) (ShortOr called) old new (io kind) → link.tells → CountsFailure old.channel.told new.channel.told ⊎ IsGivenBeside link (io kind) old.net new.net ⊎ ((sends called ≡ true) × (kind ≡ WriteZero))
    go kind (inl met) h = inl (met h)
    go kind (inr (inl (inl spent))) h = absurd (spent_no_io new.state kind spent)
    go kind (inr (inl (inr short))) h = inr (inr (short.0, let same : io kind ≡ took_no_more = short.1 in cc))
    go kind (inr (inr gives)) h = inr (inl gives.1)

    had : Why link (Unit {0}) (ShortOr called) old new faults.SessionFailed → (old.channel.failed ≡ true) ⊎ (cannot_open new.state.counts ≡ Some faults.SessionFailed) ⊎ IsGivenBeside link faults.SessionFailed old.net new.net
    had (inl failed) = inl failed
    had (inr (inl (inl spent))) = inr (inl spent)
    had (inr (inl (inr short))) = (let wrong : faults.SessionFailed ≡ took_no_more = short.1 in cc)
    had (inr (inr gives)) = inr (inr gives.1)

pub alone_cause : (link : Link) (coding : Coding) (called : Call) (old new : SessionValue) (answer : Answer) → PlaysAlone link coding called old new answer → HasCause link called old new answer
alone_cause link coding called old new answer plays = has_cause link called old new answer (alone_grounds link (Unit {0}) (ShortOr called) coding called old new answer (backed coding called) plays)

pub call_causes : (link : Link) (coding : Coding) (called : Call) (old new : SessionValue) (answer : Answer) → PlaysInStep link coding called old new answer → HasCause link called old new answer
call_causes link coding called old new answer plays = has_cause link called old new answer (step_grounds link (Unit {0}) (ShortOr called) coding called old new answer (backed coding called) plays)

among_causes : (due : Bool) (link : Link) (coding : Coding) (called : Call) (old new : SessionValue) (answer : Answer) → PlaysAmong due link coding called old new answer → HasCause link called old new answer
among_causes true link coding called old new answer step = call_causes link coding called old new answer step
among_causes false link coding called old new answer plays = has_cause link called old new answer (plays_grounds link (Unit {0}) (ShortOr called) coding called old new answer (backed coding called) plays)

-- A list

one_more : (due : Bool) (link : Link) (coding : Coding) (done : List Call) (called : Call) (old mid new : SessionValue) (answers : List Answer) (answer : Answer) → CountsEach due link coding done old mid answers → PlaysAmong due link coding called mid new answer → HasCause link called mid new answer → CountsEach due link coding (done ++ called ∷ []) old new (answers ++ answer ∷ [])
one_more due link coding [] called old mid new answers answer none plays causes =
    let P : SessionValue → Type 0 = λ v. PlaysAmong due link coding called v new answer in
    let Q : SessionValue → Type 0 = λ v. HasCause link called v new answer in
    (new, answer, [], ap (λ l. l ++ answer ∷ []) none.1, subst P none.0 plays, subst Q none.0 causes, (refl, refl))
one_more due link coding (first ∷ done) called old mid new answers answer (middle, told, later, is, first_plays, first_causes, each) plays causes =
    (middle, told, later ++ answer ∷ [], ap (λ l. l ++ answer ∷ []) is, first_plays, first_causes, one_more due link coding done called middle mid new later answer each plays causes)

-- the calls so far, where these are left to make
pub record CountsSoFar (due : Bool) (link : Link) (coding : Coding) (calls to_make : List Call) (old new : SessionValue) (answers : List Answer) : Type 0 where
  pub done : List Call
  pub split : calls ≡ done ++ to_make
  pub each : CountsEach due link coding done old new answers

pub none_made : (due : Bool) (link : Link) (coding : Coding) (calls : List Call) (v : SessionValue) → CountsSoFar due link coding calls calls v v []
none_made due link coding calls v = record { done = []; split = refl; each = (refl, refl) }

pub next_counted : (due : Bool) (link : Link) (coding : Coding) (calls : List Call) (i : ℕ) (called : Call) (old mid new : SessionValue) (answers answers' : List Answer) (answer : Answer) → i < length calls → called ≡ get_or calls i called → answers' ≡ answers ++ answer ∷ [] → CountsSoFar due link coding calls (drop i calls) old mid answers → MadeAmong due link coding called mid new answer → CountsSoFar due link coding calls (drop (i + 1) calls) old new answers'
next_counted due link coding calls i called old mid new answers answers' answer inside is pushed so_far made =
    let P : List Answer → Type 0 = λ a. CountsEach due link coding (so_far.done ++ called ∷ []) old new a in
    let left : drop i calls ≡ called ∷ drop (i + 1) calls = drop_more calls i called inside ∙ ap (λ c. c ∷ drop (i + 1) calls) (sym is) in
    let plays = among_plays due link coding called mid new answer made in
    record {
      done = so_far.done ++ called ∷ [];
      split = so_far.split ∙ ap (λ l. so_far.done ++ l) left ∙ sym (append_assoc so_far.done (called ∷ []) (drop (i + 1) calls));
      each = subst P (sym pushed) (one_more due link coding so_far.done called old mid new answers answer so_far.each plays (among_causes due link coding called mid new answer plays));
    }

pub all_counted : (due : Bool) (link : Link) (coding : Coding) (calls : List Call) (i : ℕ) (old new : SessionValue) (answers : List Answer) → length calls ≤ i → CountsSoFar due link coding calls (drop i calls) old new answers → CountsEach due link coding calls old new answers
all_counted due link coding calls i old new answers past so_far =
    let P : List Call → Type 0 = λ l. CountsEach due link coding l old new answers in
    subst P (sym (so_far.split ∙ ap (λ l. so_far.done ++ l) (drop_of_length-le calls {i = i} past) ∙ append-nil so_far.done)) so_far.each
