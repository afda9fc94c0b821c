-- The read loop: pieces one by one, until they settle what is sought.
use Rattle.std.specs.Prelude.{◌≡◌, ℕ, ◌+◌, ◌≤◌, Bool, true, false, List, [], ◌++◌, length, Result, Ok, Err}
use Rattle.ftp_control.specs.declared.control.broken.Broken.{Broken}
use Rattle.ftp_control.specs.declared.control.outcome.Outcome.{Outcome}
use Rattle.ftp_control.specs.declared.control.outcome.Outcome.TheVariants.{Whole, Bad, TooLarge, Ended, Waits}
use Rattle.ftp_control.specs.declared.control.rule.ReplyRule.{ReplyRule}
use Rattle.ftp_control.specs.declared.control.sought.Sought.{Sought}
use Rattle.ftp_control.specs.declared.control.sought.Sought.TheVariants.{Reply, Line}
use Rattle.ftp_control.specs.Grammar.{outcome, line_outcome, whole_lines, reply_limit}
use Rattle.ftp_transport.specs.Told.{Told}
use Rattle.ftp_control.specs.Reading.{GoesOn, HearTells, AnswersOutcome}

-- what all bytes since the read began say of what is sought
abbrev pub says_of : ReplyRule → Sought → List ℕ → Bool → Outcome
says_of rule (Reply form) = outcome rule form
says_of rule Line = line_outcome

-- bytes from which the search can go on: a single line is sought where no whole line is kept
abbrev pub CanSeek : Sought → List ℕ → Type 0
CanSeek (Reply form) bytes = Unit {0}
CanSeek Line bytes = whole_lines bytes ≡ []

-- what is settled takes all bytes that were read, and nothing of them is kept
abbrev pub TakesAll : Result Outcome Broken → List ℕ → List ℕ → Type 0
TakesAll (Ok (Whole reply code)) bytes kept' = (reply ≡ bytes) × (kept' ≡ [])
TakesAll (Ok (Bad line)) bytes kept' = (line ≡ bytes) × (kept' ≡ [])
TakesAll (Ok TooLarge) bytes kept' = (length bytes ≡ reply_limit + 1) × (kept' ≡ [])
TakesAll (Ok Ended) bytes kept' = kept' ≡ []
TakesAll (Ok Waits) bytes kept' = kept' ≡ bytes
TakesAll (Err broken) bytes kept' = kept' ≡ bytes

-- where a read fails, what is kept says nothing yet, if it said nothing before
abbrev pub StillWaits : Result Outcome Broken → (List ℕ → Bool → Outcome) → List ℕ → List ℕ → Type 0
StillWaits (Ok heard) says kept kept' = Unit {0}
StillWaits (Err broken) says kept kept' = says kept false ≡ Waits → says kept' false ≡ Waits

-- a look at what lies ahead: what is said of the bytes that it took, where those kept said nothing yet
pub record Takes (says : List ℕ → Bool → Outcome) (kept kept' ahead ahead' : List ℕ) (result : Result Outcome Broken) : Type 0 where
  pub taken : List ℕ
  pub split : kept ++ ahead ≡ taken ++ ahead'
  pub past : length ahead' ≤ length ahead
  pub all : TakesAll result taken kept'
  pub none : result ≡ Ok Waits → ahead' ≡ []
  pub goes_on : result ≡ Ok Ended → ⊥
  pub answer : says kept false ≡ Waits → AnswersOutcome result (says taken false)
  pub still : StillWaits result says kept kept'

-- a run of the loop: it returns what is said of the bytes that it took of those kept, ahead and read, where those kept
-- said nothing yet
pub record ReadsSought (tells : Type 0) (says : List ℕ → Bool → Outcome) (kept kept' ahead ahead' : List ℕ) (ended ended' : Bool) (t u : Told) (result : Result Outcome Broken) : Type 0 where
  pub came : List ℕ
  pub taken : List ℕ
  pub split : (kept ++ ahead) ++ came ≡ taken ++ ahead'
  pub past : length ahead' ≤ length ahead + length came
  pub over : GoesOn ended came ended'
  pub unended : result ≡ Ok Waits → ended' ≡ false
  pub none : result ≡ Ok Waits → ahead' ≡ []
  pub at_end : ended' ≡ true → ahead' ≡ []
  pub last : result ≡ Ok Ended → ended' ≡ true
  pub all : TakesAll result taken kept'
  pub answer : says kept false ≡ Waits → AnswersOutcome result (says taken ended')
  pub still : StillWaits result says kept kept'
  pub told : tells → HearTells result came ended' t u
