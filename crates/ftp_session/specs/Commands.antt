-- What the method of a command promises, by the command's own dialogue: RFC 959, sections 4.1 and 5.4.
use Rattle.std.specs.Prelude.{◌≡◌, ◌⊎◌, ◌||◌, not, Bool, true, false, ℕ, List, [], ◌++◌, Option, Ok}
use Rattle.ftp_base.specs.Status.{status_of}
use Rattle.ftp_base.specs.declared.types.reply.Response.{Response}
use Rattle.ftp_base.specs.declared.types.fault.FtpError.TheVariants.{SessionFailed}
use Rattle.ftp_control.specs.declared.control.outcome.Outcome.TheVariants.{Whole}
use Rattle.ftp_control.specs.Grammar.{outcome, left_by}
use Rattle.ftp_control.specs.Answer.{is_among}
use Rattle.ftp_calls.specs.declared.call.Answer.{Answer}
use Rattle.ftp_calls.specs.declared.call.Answer.TheVariants.{Fault}
use Rattle.ftp_transfer.specs.Mark.{End}
use Rattle.ftp_dialogue.specs.declared.model.PlayState.{PlayState}
use Rattle.ftp_dialogue.specs.declared.state.State.{State}
use Rattle.ftp_dialogue.specs.NetEvents.{NetEvent, outcomes_of}
use Rattle.ftp_dialogue.specs.Dialogue.{Expected, Tree, Say, Hear, Leaf}
use Rattle.ftp_dialogue.specs.CatchingUp.{InStepIf, has_dropped_replies}
use Rattle.ftp_dialogue.specs.Link.{Link, unasked}
use Rattle.ftp_dialogue.specs.Play.{is_unit, taken}
use Rattle.ftp_dialogue.specs.Promises.{Aborts, Completes, Goes, IsFault, IsSilent, IsSuccess, IsWithheld, MakesAfter, play_state}
use Rattle.ftp_dialogue.specs.Resuming.{Resumes, modes_of}
use Rattle.ftp_dialogue.specs.Sound.{none_left}
use Rattle.ftp_dialogue.specs.State.{SessionValue, LetsGo}
use Rattle.ftp_session.specs.Handed.{LooksIf, as_seen, watches}
use Rattle.ftp_session.specs.Trees.{drain_tree}

-- The wire

-- the next reply is whole, with this code, and its status is accepted
pub record IsAccepted (expected : Expected) (reply : Response) (code : ℕ) (s : PlayState) : Type 0 where
  pub whole : outcome s.state.settings.reply_rule expected.form s.bytes s.ended ≡ Whole reply.body code
  pub status : reply.status ≡ status_of code
  pub accepted : is_among expected.statuses reply.status ≡ true

-- where a line was sent, after what was unsent
abbrev pub line_sent : List ℕ → PlayState → PlayState
line_sent line s = record s { said = s.said ++ s.unsent ++ line; unsent = [] }

-- each line of a dialogue was sent, each reply was accepted and consumed, and nothing else was said or read
abbrev pub OnWire : Tree → PlayState → PlayState → Type 0
OnWire (Say line next) s t = (sent : List ℕ) × (line ≡ Ok sent) × OnWire next (line_sent sent s) t
OnWire (Hear expected next) s t =
    (reply : Response) × (code : ℕ) × IsAccepted expected reply code s × OnWire (next (Ok reply)) (taken (left_by (Whole reply.body code) s.bytes) s) t
OnWire (Leaf answer state) s t = IsSilent s t
OnWire other s t = Unit {0}

-- what a command that succeeded did on the wire
pub record SucceedsOnWire (link : Link) (tree : Tree) (old new : SessionValue) : Type 0 where
  pub last : SessionValue
  pub lets_go : LetsGo link.tells last new
  pub came : List ℕ
  pub answered : List NetEvent
  pub goes : Goes link came answered old last
  pub wire : link.tells → Resumes (modes_of old) old.channel.kept tree → OnWire tree (play_state old came last.channel.ended (outcomes_of answered)) (play_state last [] last.channel.ended [])

-- The dialogue

-- the session has failed before: nothing is said or heard
pub record HasFailedBefore (old new : SessionValue) (answer : Answer) : Type 0 where
  pub failed : old.channel.failed ≡ true
  pub is : answer ≡ Fault SessionFailed
  pub unchanged : new ≡ old

-- a dialogue ends with its answer or is aborted, and then a data connection without a live transfer is let go
pub record Converses (link : Link) (tree : Tree) (old new : SessionValue) (answer : Answer) : Type 0 where
  pub going : old.channel.failed ≡ false
  pub last : SessionValue
  pub plays : Completes link tree answer old last ⊎ Aborts link false tree answer old last
  pub lets_go : LetsGo link.tells last new

-- a dialogue by itself: the session has failed before, or it is made, or memory ran out for its arguments
pub record MakesTree (link : Link) (tree : Tree) (old new : SessionValue) (answer : Answer) : Type 0 where
  pub made : HasFailedBefore old new answer ⊎ Converses link tree old new answer ⊎ IsWithheld old new answer
  pub fails : new.channel.failed ≡ true → (old.channel.failed ≡ true) ⊎ IsFault answer

-- a command by itself, whose dialogue depends on the state
pub record MakesCommand (link : Link) (tree : State → Tree) (old new : SessionValue) (answer : Answer) : Type 0 where
  pub wired : IsSuccess answer → SucceedsOnWire link (tree old.state) old new
  pub makes : MakesTree link (tree old.state) old new answer

-- the last reply of a transfer that was left is due before a command, unless the session has failed
abbrev pub is_reply_due : SessionValue → Bool
is_reply_due v = not (v.channel.failed || none_left v.state.counts.owed)

-- that reply is read, and then the command is made, or an error of the read is its answer
pub record FollowsReply (link : Link) (tree : State → Tree) (old new : SessionValue) (answer : Answer) : Type 0 where
  pub middle : SessionValue
  pub first : Answer
  pub drains : MakesTree link (drain_tree old.state) old middle first
  pub then_makes : MakesAfter (is_unit first) first (MakesCommand link tree) middle new answer

-- a command, after that reply where it is due
abbrev pub FollowsIf : Bool → Link → (State → Tree) → SessionValue → SessionValue → Answer → Type 0
FollowsIf true link tree old new answer = FollowsReply link tree old new answer
FollowsIf false link tree old new answer = MakesCommand link tree old new answer

-- a session looks once whether its transfer was left, and makes a command as the look has it, after the replies that are due
-- to commands that were dropped; a plain read reads none of them first, and its own reply is one
pub record PlaysBy (plain : Bool) (link : Link) (tree : State → Tree) (mark after : Option End) (old new : SessionValue) (answer : Answer) : Type 0 where
  pub looks : LooksIf (watches mark old) mark after
  pub plays : InStepIf (has_dropped_replies (as_seen after old)) (unasked link) plain false (λ v w a. FollowsIf (is_reply_due v) link tree v w a) (as_seen after old) new answer

abbrev pub PlaysCommand : Link → (State → Tree) → Option End → Option End → SessionValue → SessionValue → Answer → Type 0
PlaysCommand link tree mark after old new answer = PlaysBy false link tree mark after old new answer

abbrev pub PlaysRead : Link → (State → Tree) → Option End → Option End → SessionValue → SessionValue → Answer → Type 0
PlaysRead link tree mark after old new answer = PlaysBy true link tree mark after old new answer
