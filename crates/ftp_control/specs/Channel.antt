-- The control channel as one value, and what always holds of it.
use Rattle.std.specs.Prelude.{◌≡◌, ℕ, ◌+◌, ◌≤◌, ◌<◌, length, Bool, true, false, ◌||◌, List, [], ◌∷◌, ◌++◌, Result, Ok, Err}
use Rattle.std.specs.declared.io.ErrorKind.{ErrorKind}
use Rattle.futures.specs.declared.task.Poll.{Poll}
use Rattle.ftp_control.specs.declared.control.rule.ReplyRule.{ReplyRule}
use Rattle.ftp_control.specs.declared.control.form.ReplyForm.{ReplyForm}
use Rattle.ftp_control.specs.declared.control.broken.Broken.{Broken}
use Rattle.ftp_control.specs.declared.control.broken.Broken.TheVariants.{Connection, OutOfMemory}
use Rattle.ftp_control.specs.declared.control.outcome.Outcome.{Outcome}
use Rattle.ftp_control.specs.declared.control.outcome.Outcome.TheVariants.{Whole, Bad, TooLarge, Ended, Waits}
use Rattle.ftp_control.specs.Grammar.{outcome, line_outcome, left_by}
use Rattle.ftp_transport.specs.Told.{Told, Fits}
use Rattle.ftp_control.specs.Reading.{AnswersOutcome, HearTells, GoesOn}
use Rattle.ftp_control.specs.Sending.{IsLines, Flushes}

-- what its connection records; the bytes of the reply under way; received bytes that come after those and that no
-- read has looked at yet; the unsent tail of the line that goes out; whether the end of the input was met, whether
-- the channel failed, and the rule of the reply under way, or of the next where nothing of one is kept
pub record Channel : Type 0 where
  pub told : Told
  pub kept : List ℕ
  pub ahead : List ℕ
  pub unsent : List ℕ
  pub ended : Bool
  pub failed : Bool
  pub rule : ReplyRule

-- all received bytes that no reply has taken
abbrev pub untaken : Channel → List ℕ
untaken c = c.kept ++ c.ahead

-- the rule by which a reply is read where another one is chosen: its own, once a byte of it was kept
abbrev pub rule_left : List ℕ → ReplyRule → ReplyRule → ReplyRule
rule_left [] rule chosen = chosen
rule_left (b ∷ kept) rule chosen = rule

-- a part that the whole ends with
pub record IsEndOf (part whole : List ℕ) : Type 0 where
  pub front : List ℕ
  pub is : whole ≡ front ++ part

-- the sound channel: what is kept says nothing yet of some form, and what is untaken ends what was received; what went out is
-- within the room, and with what is unsent it is whole wire lines; no more lies ahead than one read gives
pub record IsSound (tells : Type 0) (c : Channel) : Type 0 where
  pub waits : (form : ReplyForm) × (outcome c.rule form c.kept false ≡ Waits)
  pub kept : tells → IsEndOf (untaken c) c.told.received
  pub ahead : length c.ahead ≤ 8192
  pub lines : tells → IsLines (c.told.sent ++ c.unsent) c.unsent
  pub ended : tells → c.told.ended ≡ c.ended
  pub fits : tells → Fits c.told

-- nothing was read or sent yet
pub record IsIdle (c : Channel) : Type 0 where
  pub kept : c.kept ≡ []
  pub ahead : c.ahead ≡ []
  pub unsent : c.unsent ≡ []
  pub ended : c.ended ≡ false
  pub failed : c.failed ≡ false

-- after these the channel has failed
abbrev pub fails_by : Result Outcome Broken → Bool
fails_by (Ok (Whole bytes code)) = false
fails_by (Ok (Bad line)) = false
fails_by (Ok TooLarge) = true
fails_by (Ok Ended) = true
fails_by (Ok Waits) = false
fails_by (Err (Connection kind)) = true
fails_by (Err OutOfMemory) = false

-- what a read leaves: all bytes where it waits or fails; where the outcome is settled, what lies after its bytes
abbrev pub LeavesBytes : Result Outcome Broken → List ℕ → Channel → Type 0
LeavesBytes (Ok Waits) bytes new = (new.kept ≡ bytes) × (new.ahead ≡ [])
LeavesBytes (Err broken) bytes new = untaken new ≡ bytes
LeavesBytes (Ok heard) bytes new = (new.kept ≡ []) × (new.ahead ≡ left_by heard bytes)

-- what is settled stays, and so does what it leaves, however the input goes on
abbrev pub StaysSettled : Result Outcome Broken → (List ℕ → Bool → Outcome) → List ℕ → List ℕ → Bool → Type 0
StaysSettled (Ok Waits) says bytes left ended = Unit {0}
StaysSettled (Err broken) says bytes left ended = Unit {0}
StaysSettled (Ok heard) says bytes left ended = (more : List ℕ) (e : Bool) → GoesOn ended more e → (says (bytes ++ more) e ≡ heard) × (left_by heard (bytes ++ more) ≡ left ++ more)

-- a settled outcome takes at least a byte; an end of input may take none
abbrev pub TakesSome : Result Outcome Broken → List ℕ → List ℕ → Type 0
TakesSome (Ok (Whole reply code)) bytes left = length left < length bytes
TakesSome (Ok (Bad line)) bytes left = length left < length bytes
TakesSome (Ok TooLarge) bytes left = length left < length bytes
TakesSome (Ok Ended) bytes left = Unit {0}
TakesSome (Ok Waits) bytes left = Unit {0}
TakesSome (Err broken) bytes left = Unit {0}

-- a read of a reply
pub record ReadsReply (tells : Type 0) (form : ReplyForm) (old new : Channel) (result : Result Outcome Broken) : Type 0 where
  pub came : List ℕ
  pub over : GoesOn old.ended came new.ended
  pub unended : result ≡ Ok Waits → new.ended ≡ false
  pub leaves : LeavesBytes result (untaken old ++ came) new
  pub past : length new.ahead ≤ length old.ahead + length came
  pub takes : outcome old.rule form old.kept false ≡ Waits → TakesSome result (untaken old ++ came) (untaken new)
  pub answer : outcome old.rule form old.kept false ≡ Waits → AnswersOutcome result (outcome old.rule form (untaken old ++ came) new.ended)
  pub stays : outcome old.rule form old.kept false ≡ Waits → StaysSettled result (outcome old.rule form) (untaken old ++ came) (untaken new) new.ended
  pub last : outcome old.rule form old.kept false ≡ Waits → result ≡ Ok Ended → new.ended ≡ true
  pub under_way : outcome old.rule form old.kept false ≡ Waits → outcome old.rule form new.kept false ≡ Waits
  pub told : tells → HearTells result came new.ended old.told new.told
  pub same : new ≡ record old { told = new.told; kept = new.kept; ahead = new.ahead; ended = new.ended; failed = old.failed || fails_by result }

-- a read of one line, where no whole line is kept
pub record ReadsLine (tells : Type 0) (old new : Channel) (result : Result Outcome Broken) : Type 0 where
  pub came : List ℕ
  pub over : GoesOn old.ended came new.ended
  pub unended : result ≡ Ok Waits → new.ended ≡ false
  pub leaves : LeavesBytes result (untaken old ++ came) new
  pub answer : AnswersOutcome result (line_outcome (untaken old ++ came) new.ended)
  pub told : tells → HearTells result came new.ended old.told new.told
  pub same : new ≡ record old { told = new.told; kept = new.kept; ahead = new.ahead; ended = new.ended; failed = old.failed || fails_by result }

-- a flush fails where the connection does
abbrev pub breaks : Result (Poll (Unit {0})) ErrorKind → Bool
breaks (Ok done) = false
breaks (Err kind) = true

-- a flush of the unsent tail
pub record FlushesTail (tells : Type 0) (old new : Channel) (result : Result (Poll (Unit {0})) ErrorKind) : Type 0 where
  pub flushed : Flushes tells old.unsent new.unsent old.told new.told result
  pub same : new ≡ record old { told = new.told; unsent = new.unsent; failed = old.failed || breaks result }
