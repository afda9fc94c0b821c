-- Lemmas on lists of events of which one ends a script.
use Rattle.std.proofs.Common.{◌≡◌, false, true, not, ◌&&◌, Bool, ℕ, zero, suc, Option, Some, None, List, [], ◌∷◌, ◌++◌, inl, inr, refl, ap, sym, ◌∙◌, subst, append_assoc}
use Rattle.futures.specs.declared.task.Poll.{Poll as Polled}
use Rattle.futures.specs.declared.task.Poll.TheVariants.{Ready, Pending}
use Rattle.ftp_base.specs.declared.types.fault.FtpError.{FtpError}
use Rattle.ftp_control.specs.declared.control.form.ReplyForm.{ReplyForm}
use Rattle.ftp_calls.specs.Exchanges.{drains}
use Rattle.ftp_calls.specs.declared.call.Answer.{Answer}
use Rattle.ftp_calls.specs.declared.call.Answer.TheVariants.{Fault}
use Rattle.ftp_calls.specs.declared.call.Call.{Call}
use Rattle.ftp_calls.specs.declared.call.Event.{Event}
use Rattle.ftp_calls.specs.declared.call.Event.TheVariants.{Cancel, Poll, Start}
use Rattle.ftp_calls.specs.declared.call.Event.TheVariants as kinds
use Rattle.ftp_dialogue.specs.Coding.{Coding}
use Rattle.ftp_dialogue.specs.Link.{Builds, builds_nothing, over_memory}
use Rattle.ftp_dialogue.specs.CatchingUp.{CatchesUp, reads_dropped_first, is_plain_read}
use Rattle.ftp_dialogue.proofs.CatchingUpLemmas.{behind_going}
use Rattle.ftp_control.specs.Channel.{IsSound}
use Rattle.ftp_transport.specs.Memory.{IsGiven}
use Rattle.ftp_dialogue.specs.State.{SessionValue}
use Rattle.ftp_dialogue.specs.Steps.Stages.{StageOf, begun_at, remaining}
use Rattle.ftp_dialogue.specs.declared.model.NetOutcome.{NetOutcome}
use Rattle.ftp_dialogue.specs.declared.model.PlayState.{PlayState}
use Rattle.ftp_dialogue.specs.declared.stage.Stage.{Stage}
use Rattle.ftp_runs.specs.Following.{Attended, CatchesUpHere, DropsHere, EndsOrPolls, FailedStays, Happens, Place, Since, at_rest, parts_here, reads_here}
use Rattle.ftp_runs.specs.Script.{IsLawful, Lawful, Unless, Whole, after_event, drops_begun, one_less, parts, parts_beyond, reads_first, script, still}
use Rattle.ftp_runs.specs.Scripted.{AreRefused, BeginsThen, CallHasBegun, DropsAt, EndsOrBegins, LeavesThen, LeftOf, MayGoOn, Reaches, ScriptAborts, ScriptCatchesUp, ScriptDrops, ScriptParts, entering}
use Rattle.ftp_runs.specs.declared.events.Course.{Course}
use Rattle.ftp_runs.specs.declared.model.Script.{Script}
use Rattle.ftp_runs.proofs.Leaving.{left_then}

-- Which event ends a script

pub still_none : (events : List Event) → still zero events ≡ zero
still_none [] = refl
still_none (event ∷ events) = still_none events

pub beyond_none : (n : ℕ) (s : Script) (event : Event) → parts s event ≡ false → parts_beyond n s event ≡ false
beyond_none zero s event none = none
beyond_none (suc n) s event none = refl

pub beyond_is : (n : ℕ) (s : Script) (event : Event) → n ≡ zero → parts s event ≡ true → parts_beyond n s event ≡ true
beyond_is n s event at is =
    let P : ℕ → Type 0 = λ k. parts_beyond k s event ≡ true in
    subst P (sym at) is

-- no event of a list and one more does
pub whole-snoc : (coding : Coding) (start : PlayState) (n : ℕ) (s : Script) (events : List Event) (event : Event) → Whole coding start n s events → parts_beyond (still n events) (script coding start s events) event ≡ false → Whole coding start n s (events ++ event ∷ [])
whole-snoc coding start n s [] event whole none = (none, tt)
whole-snoc coding start n s (first ∷ events) event whole none = (whole.0, whole-snoc coding start (one_less n) (after_event coding start s first) events event whole.1 none)

pub lawful-front : (coding : Coding) (start : PlayState) (n : ℕ) (s : Script) (events : List Event) (event : Event) → Lawful coding start n s (events ++ event ∷ []) → Lawful coding start n s events
lawful-front coding start n s [] event lawful = tt
lawful-front coding start n s (first ∷ events) event lawful = go (lawful-front coding start (one_less n) (after_event coding start s first) events event) (parts_beyond n s first) lawful
  where
    go : (Lawful coding start (one_less n) (after_event coding start s first) (events ++ event ∷ []) → Lawful coding start (one_less n) (after_event coding start s first) events) → (b : Bool) → Unless b (IsLawful coding start s first × Lawful coding start (one_less n) (after_event coding start s first) (events ++ event ∷ [])) → Unless b (IsLawful coding start s first × Lawful coding start (one_less n) (after_event coding start s first) events)
    go front true none = tt
    go front false asked = (asked.0, front asked.1)

pub lawful-last : (coding : Coding) (start : PlayState) (n : ℕ) (s : Script) (events : List Event) (event : Event) → Whole coding start n s events → parts_beyond (still n events) (script coding start s events) event ≡ false → Lawful coding start n s (events ++ event ∷ []) → IsLawful coding start (script coding start s events) event
lawful-last coding start n s [] event whole none lawful =
    let U : Bool → Type 0 = λ b. Unless b (IsLawful coding start s event × Lawful coding start (one_less n) (after_event coding start s event) []) in
    (subst U none lawful).0
lawful-last coding start n s (first ∷ events) event whole none lawful =
    let U : Bool → Type 0 = λ b. Unless b (IsLawful coding start s first × Lawful coding start (one_less n) (after_event coding start s first) (events ++ event ∷ [])) in
    lawful-last coding start (one_less n) (after_event coding start s first) events event whole.1 none (subst U whole.0 lawful).1

-- the script knows which, where the session follows it
module _ (builds : Builds) (coding : Coding) (outcomes left : List NetOutcome) (old : SessionValue) (s : Script) (v : SessionValue) (call : Option Call) (stage : Stage) (course : Course) (answers : List Answer) (f : Attended builds coding outcomes left old s v call stage course answers) where
  reads_known : reads_first s.call s.polled s.failed s.state ≡ parts_here call course v Poll
  reads_known =
      ap (λ c. reads_first c s.polled s.failed s.state) f.0.call_is
      ∙ ap (λ p. reads_first call p s.failed s.state) f.1.polled
      ∙ ap (λ x. reads_first call course.polled x s.state) f.0.failed
      ∙ ap (λ x. reads_first call course.polled v.channel.failed x) f.0.state
      ∙ go call
    where
      go : (c : Option Call) → reads_first c course.polled v.channel.failed v.state ≡ parts_here c course v Poll
      go None = refl
      go (Some one) = refl

  pub drops_known : drops_begun s.call s.polled ≡ drops_begun call course.polled
  drops_known = ap (λ c. drops_begun c s.polled) f.0.call_is ∙ ap (λ p. drops_begun call p) f.1.polled

  pub parts_known : (event : Event) → parts s event ≡ parts_here call course v event
  parts_known kinds.Poll = reads_known
  parts_known kinds.Cancel = drops_known
  parts_known other = refl

-- it is so in a session that goes on
pub reads_going : (call : Option Call) (course : Course) (v : SessionValue) → reads_here call course v ≡ true → v.channel.failed ≡ false
reads_going None course v reads = let clash : false ≡ true = reads in cc
reads_going (Some call) course v reads = behind_going call v (go course.polled reads)
  where
    go : (p : Bool) → (not p && reads_dropped_first call v) ≡ true → reads_dropped_first call v ≡ true
    go false is = is
    go true is = let clash : false ≡ true = is in cc

-- a call has read what was due, and is polled
pub caught_polls : (builds : Builds) (coding : Coding) (v middle w : SessionValue) (call call' : Option Call) (part : Call) (stage stage' : Stage) (course course' : Course) (result : Option Answer) (caught : Polled (Option FtpError)) → call ≡ Some part → course ≡ at_rest → caught ≡ Ready None → drains part ≡ false → CatchesUp (over_memory builds_nothing) (is_plain_read part) v middle caught → IsGiven middle.channel.told → IsSound (Unit {0}) middle.channel → Happens builds coding middle w call call' stage stage' course course' Poll result → FailedStays middle w result → CatchesUpHere builds coding v w call call' stage stage' course' result
caught_polls builds coding v middle w call call' part stage stage' course course' result caught is resting over goes_on catches given sound happens stays =
    let K : Polled (Option FtpError) → Type 0 = λ r. CatchesUp (over_memory builds_nothing) (is_plain_read part) v middle r in
    let H : Option Call → Type 0 = λ c. Happens builds coding middle w c call' stage stage' course course' Poll result in
    let R : Course → Type 0 = λ x. Happens builds coding middle w (Some part) call' stage stage' x course' Poll result in
    let D : Bool → Type 0 = λ b. EndsOrPolls b builds coding part call' stage stage' course' middle w result in
    record {
      part = part;
      is = is;
      middle = middle;
      caught = Ready None;
      catches_up = subst K over catches;
      given = given;
      sound = sound;
      then = subst D (sym goes_on) (subst R resting (subst H is happens), stays);
    }

-- A call that has begun is dropped

drops_polled : (call : Call) (polled : Bool) → drops_begun (Some call) polled ≡ true → polled ≡ true
drops_polled call true begun = refl
drops_polled call false begun = let clash : false ≡ true = begun in cc

module _ (builds : Builds) (coding : Coding) (outcomes left : List NetOutcome) (old : SessionValue) (s : Script) (v : SessionValue) (call : Call) (stage : Stage) (course : Course) (answers : List Answer) (f : Attended builds coding outcomes left old s v (Some call) stage course answers) (begun : drops_begun (Some call) course.polled ≡ true) where
  is_polled : s.polled ≡ true
  is_polled = f.1.polled ∙ drops_polled call course.polled begun

  -- this is left of it
  polled_left : LeftOf builds coding old s v call (begun_at stage) (remaining coding call v.state stage)
  polled_left = record {
    call_is = f.0.call_is;
    going = let M : Bool → Type 0 = λ b. MayGoOn b call v in subst M (sym is_polled) (going f.0.place);
    came = f.0.came;
    bytes = f.0.bytes;
    answered = f.0.answered;
    net_events = f.0.net_events;
    reaches = let R : Bool → Type 0 = λ b. Reaches coding old s.items f.0.came f.0.answered (entering b call v) s.answers call (remaining coding call v.state stage) in subst R (sym is_polled) (reaches f.0.place);
    since = since f.0.place;
  }
    where
      going : Place coding old s f.0.came f.0.answered v (Some call) stage → v.channel.failed ≡ false
      going (inl started) = let clash : true ≡ false = sym is_polled ∙ started.unpolled in cc
      going (inr (inl u)) = u.going
      going (inr (inr u)) = u.going

      reaches : Place coding old s f.0.came f.0.answered v (Some call) stage → Reaches coding old s.items f.0.came f.0.answered v s.answers call (remaining coding call v.state stage)
      reaches (inl started) = let clash : true ≡ false = sym is_polled ∙ started.unpolled in cc
      reaches (inr (inl u)) = u.reaches
      reaches (inr (inr u)) = u.reaches

      of_since : Since coding old s.items s.answers f.0.came f.0.answered v (begun_at stage) → CallHasBegun coding old s f.0.came f.0.answered v (begun_at stage)
      of_since since = record { start = since.start; before = since.before; later = since.later; split = since.split; asked_before = since.asked_before; asked_later = since.asked_later; asked_split = since.asked_split; stands = since.stands; has_begun = since.has_begun; not_begun = since.not_begun }

      since : Place coding old s f.0.came f.0.answered v (Some call) stage → CallHasBegun coding old s f.0.came f.0.answered v (begun_at stage)
      since (inl started) = let clash : true ≡ false = sym is_polled ∙ started.unpolled in cc
      since (inr (inl u)) = of_since u.since
      since (inr (inr u)) = of_since u.since

  stage_left : Place coding old s f.0.came f.0.answered v (Some call) stage → StageOf call stage
  stage_left (inl started) = let clash : true ≡ false = sym is_polled ∙ started.unpolled in cc
  stage_left (inr (inl u)) = u.stage_of
  stage_left (inr (inr u)) = u.stage_of

  pub drops_at : (w : SessionValue) → DropsHere call course stage v w → DropsAt builds coding old s v w
  drops_at w here = record {
    call = call;
    stage = stage;
    stage_of = stage_left f.0.place;
    under_way = polled_left;
    gone = here.gone;
    drops = here.drops;
    leaves = let L : Bool → Type 0 = λ b. LeavesThen b here.gone w in subst L (sym f.1.leaving) (left_then builds coding course.leaving here.gone w here.leaves);
  }

-- More events after one that ends a script

-- each is refused, and so is the next
pub refused_more : (first second : List Answer) → AreRefused first → AreRefused second → AreRefused (first ++ second)
refused_more [] second one two = two
refused_more (answer ∷ first) second one two = (one.0, refused_more first second one.1 two)

module _ (builds : Builds) (coding : Coding) (outcomes : List NetOutcome) (old : SessionValue) (form : ReplyForm) (n : ℕ) (Later Later' : ℕ → SessionValue → List Event → List Answer → Type 0) (tail : List Event) (more : List Answer) (new new' : SessionValue) (stays : new.channel.failed ≡ true → (new'.channel.failed ≡ true) × AreRefused more) (again : (m : ℕ) (after : SessionValue) (later : List Event) (others : List Answer) → still m later ≡ zero → Later m after later others → Later' m after (later ++ tail) (others ++ more)) where
  split_more : (events before later : List Event) (event : Event) → events ≡ before ++ event ∷ later → events ++ tail ≡ before ++ event ∷ (later ++ tail)
  split_more events before later event split = ap (λ e. e ++ tail) split ∙ append_assoc before (event ∷ later) tail

  answers_more : (answers first others : List Answer) → answers ≡ first ++ others → answers ++ more ≡ first ++ (others ++ more)
  answers_more answers first others are = ap (λ a. a ++ more) are ∙ append_assoc first others more

  failed_more : {A : Type 0} (rest : List Answer) → (A → (new.channel.failed ≡ true) × AreRefused rest) → A → (new'.channel.failed ≡ true) × AreRefused (rest ++ more)
  failed_more rest was failed = let is = was failed in let now = stays is.0 in (now.0, refused_more rest more is.1 now.1)

  aborts_more : (events : List Event) (answers : List Answer) → ScriptAborts builds Later coding outcomes old form n events new answers → ScriptAborts builds Later' coding outcomes old form n (events ++ tail) new' (answers ++ more)
  aborts_more events answers broke = record {
    before = broke.before;
    later = broke.later ++ tail;
    split = split_more events broke.before broke.later Poll broke.split;
    whole = broke.whole;
    reads_none = broke.reads_none;
    first = broke.first;
    here = broke.here;
    polled = broke.polled;
    middle = broke.middle;
    at = broke.at;
    call = broke.call;
    begun = broke.begun;
    tree = broke.tree;
    under_way = broke.under_way;
    fault = broke.fault;
    last = broke.last;
    aborts = broke.aborts;
    gone = broke.gone;
    lets_go = broke.lets_go;
    after = broke.after;
    leaves = broke.leaves;
    others = broke.others ++ more;
    answers_are = answers_more answers broke.first (Fault broke.fault ∷ broke.others) broke.answers_are;
    goes_on = again zero broke.after broke.later broke.others (still_none broke.later) broke.goes_on;
    failed = failed_more broke.others broke.failed;
  }

  drops_more : (events : List Event) (answers : List Answer) → ScriptDrops builds Later coding outcomes old form n events answers → ScriptDrops builds Later' coding outcomes old form n (events ++ tail) (answers ++ more)
  drops_more events answers broke = record {
    before = broke.before;
    later = broke.later ++ tail;
    split = split_more events broke.before broke.later Cancel broke.split;
    whole = broke.whole;
    begun = broke.begun;
    first = broke.first;
    middle = broke.middle;
    at = broke.at;
    after = broke.after;
    drops = broke.drops;
    others = broke.others ++ more;
    answers_are = answers_more answers broke.first broke.others broke.answers_are;
    goes_on = again zero broke.after broke.later broke.others (still_none broke.later) broke.goes_on;
  }

  ends_more : (b : Bool) (call : Call) (after : SessionValue) (later : List Event) (others : List Answer) → EndsOrBegins b Later call after later others → EndsOrBegins b Later' call after (later ++ tail) (others ++ more)
  ends_more true call after later others ends = record {
    rest = ends.rest ++ more;
    others_are = ap (λ a. a ++ more) ends.others_are;
    goes_on = again zero after later ends.rest (still_none later) ends.goes_on;
  }
  ends_more false call after later others begins = again 2 after (Start call ∷ Poll ∷ later) others (still_none later) begins

  begins_more : (caught : Polled (Option FtpError)) (call : Call) (after : SessionValue) (later : List Event) (others : List Answer) → BeginsThen caught Later call after later new others → BeginsThen caught Later' call after (later ++ tail) new' (others ++ more)
  begins_more (Ready None) call after later others then = ends_more (drains call) call after later others then
  begins_more (Ready (Some fault)) call after later others then = record {
    rest = then.rest ++ more;
    others_are = ap (λ a. a ++ more) then.others_are;
    goes_on = (again zero after later then.rest (still_none later) then.goes_on.0, failed_more then.rest then.goes_on.1);
  }
  begins_more Pending call after later others then = again zero after (Start call ∷ later) others (still_none later) then

  catches_more : (events : List Event) (answers : List Answer) → ScriptCatchesUp builds Later coding outcomes old form n events new answers → ScriptCatchesUp builds Later' coding outcomes old form n (events ++ tail) new' (answers ++ more)
  catches_more events answers broke = record {
    before = broke.before;
    later = broke.later ++ tail;
    split = split_more events broke.before broke.later Poll broke.split;
    whole = broke.whole;
    due = broke.due;
    first = broke.first;
    middle = broke.middle;
    at = broke.at;
    call = broke.call;
    call_is = broke.call_is;
    after = broke.after;
    caught = broke.caught;
    catches_up = broke.catches_up;
    others = broke.others ++ more;
    answers_are = answers_more answers broke.first broke.others broke.answers_are;
    goes_on = begins_more broke.caught broke.call broke.after broke.later broke.others broke.goes_on;
  }

  pub parts_more : (events : List Event) (answers : List Answer) → ScriptParts builds Later coding outcomes old form n events new answers → ScriptParts builds Later' coding outcomes old form n (events ++ tail) new' (answers ++ more)
  parts_more events answers (inl broke) = inl (aborts_more events answers broke)
  parts_more events answers (inr (inl broke)) = inr (inl (drops_more events answers broke))
  parts_more events answers (inr (inr broke)) = inr (inr (catches_more events answers broke))
