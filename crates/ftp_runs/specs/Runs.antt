-- What a session promises of a list of calls: what their definition says of all that the server sends, until the
-- connection fails or memory runs out.
use Rattle.std.specs.Prelude.{◌≡◌, ◌⊎◌, ℕ, Bool, true, false, List, [], ◌∷◌, ◌++◌, length, ◌==◌, not}
use Rattle.ftp_base.specs.declared.types.fault.FtpError.{FtpError}
use Rattle.ftp_calls.specs.declared.call.Answer.{Answer}
use Rattle.ftp_calls.specs.declared.call.Answer.TheVariants.{Fault}
use Rattle.ftp_calls.specs.declared.call.Answer.TheVariants as answers
use Rattle.ftp_calls.specs.declared.call.Call.{Call}
use Rattle.ftp_calls.specs.declared.call.Call.TheVariants.{Drain}
use Rattle.ftp_runs.specs.declared.model.Ran.{Ran}
use Rattle.ftp_runs.specs.declared.model.Ran.TheVariants.{Finished}
use Rattle.ftp_dialogue.specs.State.{SessionValue, LetsGo}
use Rattle.ftp_dialogue.specs.Coding.{Coding}
use Rattle.ftp_dialogue.specs.NetEvents.{NetEvent}
use Rattle.ftp_calls.specs.Exchanges.{is_local}
use Rattle.ftp_dialogue.specs.Dialogue.{dialogue}
use Rattle.ftp_dialogue.specs.Play.{Taken}
use Rattle.ftp_dialogue.specs.CatchingUp.{PlaysInStep, reads_dropped_first}
use Rattle.ftp_dialogue.specs.Promises.{However, Goes, IsRefusal, Plays, IsPlayed, refusal_of, Aborts, begun_by, due_of}
use Rattle.ftp_runs.specs.Run.{run, before, OneView}
use Rattle.ftp_dialogue.specs.Link.{Link}

-- one mode, and one view of System: what is kept goes on by its own rule, and says nothing yet where these calls first hear
abbrev pub Agrees : Coding → SessionValue → List Call → Type 0
Agrees coding v calls = v.channel.failed ≡ false → OneView v.channel.rule v.channel.kept coding calls v.state

-- answers before those of later calls
abbrev pub before_all : List Answer → Ran → Ran
before_all [] ran = ran
before_all (answer ∷ answers) ran = before answer (before_all answers ran)

-- a run that got so far: these calls of it are done with these answers, and it leads to what is left of it from here, where
-- what is kept of a reply agrees with the calls that are left, if it agreed with all of them at the beginning
pub record RanTo (link : Link) (coding : Coding) (calls to_make : List Call) (old new : SessionValue) (answers : List Answer) : Type 0 where
  pub done : List Call
  pub split : calls ≡ done ++ to_make
  pub count : length answers ≡ length done
  pub came : List ℕ
  pub answered : List NetEvent
  pub goes : Goes link came answered old new
  pub runs : link.tells → Agrees coding old calls → However old came answered new (λ room s t. run room coding calls s ≡ before_all answers (run room coding to_make t))
  pub agrees : Agrees coding old calls → Agrees coding new to_make

-- a run that came to its end: these are the answers, and here it stands, whatever else the server sends
pub record RunsTo (link : Link) (coding : Coding) (calls : List Call) (old new : SessionValue) (answers : List Answer) : Type 0 where
  pub came : List ℕ
  pub answered : List NetEvent
  pub goes : Goes link came answered old new
  pub runs : link.tells → Agrees coding old calls → However old came answered new (λ room s t. run room coding calls s ≡ Finished answers t)

-- a session that has failed refuses each of these calls that goes over the control connection
abbrev pub AllRefused : List Call → List Answer → Type 0
AllRefused [] answers = answers ≡ []
AllRefused (call ∷ calls) [] = ⊥
AllRefused (call ∷ calls) (answer ∷ answers) = (is_local call ≡ false → IsRefusal answer) × AllRefused calls answers

-- replies are due to commands that were dropped before a list begins; RFC 959, sections 4.2 and 5.4
abbrev pub are_due : SessionValue → Bool
are_due v = not (v.state.unanswered == 0)

-- a call of a list: where they were, in step, after those that are still due; else by itself
abbrev pub PlaysAmong : Bool → Link → Coding → Call → SessionValue → SessionValue → Answer → Type 0
PlaysAmong true link coding call old new answer = PlaysInStep link coding call old new answer
PlaysAmong false link coding call old new answer = Plays link coding call old new answer

-- calls made one after another: each is its dialogue, or is refused, or is aborted
abbrev pub Makes : Bool → Link → Coding → List Call → SessionValue → SessionValue → List Answer → Type 0
Makes due link coding [] old new answers = (new ≡ old) × (answers ≡ [])
Makes due link coding (call ∷ calls) old new answers =
    (middle : SessionValue) × (answer : Answer) × (later : List Answer) × (answers ≡ answer ∷ later) × PlaysAmong due link coding call old middle answer × Makes due link coding calls middle new later

-- the dialogue that was aborted: a call's own, after the drain where one was due; or that of the drain
abbrev pub BeginsAfter : Bool → Link → Coding → Call → Call → SessionValue → SessionValue → Type 0
BeginsAfter true link coding call part before middle =
    ((part ≡ Drain) × (middle ≡ before)) ⊎ ((part ≡ call) × IsPlayed link coding Drain before middle answers.Unit)
BeginsAfter false link coding call part before middle = (part ≡ call) × (middle ≡ before)

-- a run in which a call was aborted, where these are left to make: the answers before it are the definition's, and
-- each later call that was made is its dialogue again; where the session has failed, each that goes over the control
-- connection is refused, and nothing is said or read there
pub record RunAborts (link : Link) (coding : Coding) (calls to_make : List Call) (old new : SessionValue) (answers : List Answer) : Type 0 where
  pub first : List Answer
  pub call : Call
  pub made : List Call
  pub before : SessionValue
  pub ran : RanTo link coding calls (call ∷ made ++ to_make) old before first
  pub part : Call
  pub middle : SessionValue
  pub begins : BeginsAfter (due_of call before) link coding call part before middle
  pub going : refusal_of part middle ≡ Taken
  pub fault : FtpError
  pub last : SessionValue
  pub aborts : Aborts link false (dialogue coding part middle.state) (Fault fault) (begun_by part middle) last
  pub after : SessionValue
  pub lets_go : LetsGo link.tells last after
  pub later : List Answer
  pub answers_are : answers ≡ first ++ Fault fault ∷ later
  pub makes : Makes (are_due old) link coding made after new later
  pub failed : after.channel.failed ≡ true → (new.channel ≡ after.channel) × AllRefused made later

-- a run in which replies were due at its beginning, where these are left to make: the answers of the calls before the first
-- that reads them are the definition's, and that one and each later one that was made is in step
pub record RunCatchesUp (link : Link) (coding : Coding) (calls to_make : List Call) (old new : SessionValue) (answers : List Answer) : Type 0 where
  pub due : are_due old ≡ true
  pub first : List Answer
  pub call : Call
  pub made : List Call
  pub before : SessionValue
  pub ran : RanTo link coding calls (call ∷ made ++ to_make) old before first
  pub behind : reads_dropped_first call before ≡ true
  pub later : List Answer
  pub answers_are : answers ≡ first ++ later
  pub makes : Makes true link coding (call ∷ made) before new later

-- the run of a list of calls
abbrev pub Runs : Link → Coding → List Call → SessionValue → SessionValue → List Answer → Type 0
Runs link coding calls old new answers = RunsTo link coding calls old new answers ⊎ RunAborts link coding calls [] old new answers ⊎ RunCatchesUp link coding calls [] old new answers
