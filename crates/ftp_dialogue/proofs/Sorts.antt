-- Which calls go over the control connection, which open a data connection, and which bring a transfer to its end.
use Rattle.std.proofs.Common.{◌≡◌, ◌⊎◌, inl, inr, Bool, true, false, ◌&&◌, ◌||◌, is_none, refl, ap, sym, ◌∙◌}
use Rattle.ftp_calls.proofs.Openings.{local_alike}
use Rattle.ftp_calls.specs.declared.call.Call.{Call}
use Rattle.ftp_calls.specs.declared.exchange.Ending.{Ending}
use Rattle.ftp_calls.specs.declared.exchange.Ending.TheVariants.{GivesReply, TakesReply, Opens, Performs, Finishes, Drains, Stops}
use Rattle.ftp_calls.specs.declared.exchange.Row.{Row}
use Rattle.ftp_calls.specs.declared.exchange.Row.TheVariants.{Exchanges, Sets, Moves}
use Rattle.ftp_calls.specs.declared.exchange.Turn.{Turn}
use Rattle.ftp_calls.specs.declared.exchange.Turn.TheVariants.{First, Second, Closed, Aborted}
use Rattle.ftp_calls.specs.Exchanges.{draining_row, drains, finishes, finishing_row, is_draining, is_finishing, is_local, is_opening, is_read, local_row, moving_row, negotiates, of_transfer, only_reads, opens, reads, row_of, aborting_row, aborts, is_aborting}
use Rattle.ftp_dialogue.specs.declared.stage.Stage.{Stage}
use Rattle.ftp_dialogue.specs.declared.stage.Stage.TheVariants.{At, Composing, Saying, Hearing, Seeking, SettingOffset, OpeningData, Transferring, Closing}
use Rattle.ftp_dialogue.specs.declared.stage.AfterLine.TheVariants.{Hears, Recovers}
use Rattle.ftp_dialogue.specs.declared.stage.AfterClose.TheVariants.{Finishes, Aborts, Fetched as FetchedAll}
use Rattle.ftp_dialogue.specs.declared.stage.Recovery.TheVariants.{Abort, Resync}
use Rattle.ftp_dialogue.specs.declared.stage.Transferring.{Transferring as Fetched}
use Rattle.ftp_dialogue.specs.declared.stage.Transferring.TheVariants.{Ending as LastReply}
use Rattle.ftp_dialogue.specs.Steps.Stages.{FetchOf, StageOf, TurnOf}

-- Endings

finishing_gives_none : (e : Ending) → is_finishing e ≡ true → only_reads e ≡ false
finishing_gives_none GivesReply is = let clash : false ≡ true = is in cc
finishing_gives_none TakesReply is = let clash : false ≡ true = is in cc
finishing_gives_none Drains is = let clash : false ≡ true = is in cc
finishing_gives_none other is = refl

finishing_opens_none : (e : Ending) → is_finishing e ≡ true → is_opening e ≡ false
finishing_opens_none (Opens replies) is = let clash : false ≡ true = is in cc
finishing_opens_none (Performs task) is = let clash : false ≡ true = is in cc
finishing_opens_none other is = refl

pub reply_ending : (e : Ending) → only_reads e ≡ true → (e ≡ GivesReply) ⊎ (e ≡ TakesReply) ⊎ (e ≡ Drains)
reply_ending GivesReply is = inl refl
reply_ending TakesReply is = inr (inl refl)
reply_ending Drains is = inr (inr refl)
reply_ending other is = let clash : false ≡ true = is in cc

opening_drains_none : (e : Ending) → is_opening e ≡ true → is_draining e ≡ false
opening_drains_none Drains is = let clash : false ≡ true = is in cc
opening_drains_none other is = refl

-- Rows

row_finishes_unread : (r : Row) → finishing_row r ≡ true → reads r ≡ false
row_finishes_unread (Exchanges e) is = ap (λ b. b && is_none e.says) (finishing_gives_none e.ending is)
row_finishes_unread other is = refl

row_finishes_abroad : (r : Row) → finishing_row r ≡ true → local_row r ≡ false
row_finishes_abroad (Sets setting) is = let clash : false ≡ true = is in cc
row_finishes_abroad (Moves movement) is = let clash : false ≡ true = is in cc
row_finishes_abroad other is = refl

row_finishes_opens : (r : Row) → finishing_row r ≡ true → opens r ≡ false
row_finishes_opens (Exchanges e) is = finishing_opens_none e.ending is
row_finishes_opens other is = refl

row_finishes_moves : (r : Row) → finishing_row r ≡ true → moving_row r ≡ true
row_finishes_moves (Exchanges e) is = ap (λ b. b || is_draining e.ending) is
row_finishes_moves (Moves movement) is = refl
row_finishes_moves other is = let clash : false ≡ true = is in cc

row_opens_abroad : (r : Row) → opens r ≡ true → local_row r ≡ false
row_opens_abroad (Sets setting) is = let clash : false ≡ true = is in cc
row_opens_abroad (Moves movement) is = let clash : false ≡ true = is in cc
row_opens_abroad other is = refl

row_local_opens : (r : Row) → local_row r ≡ true → opens r ≡ false
row_local_opens (Exchanges e) is = let clash : false ≡ true = is in cc
row_local_opens other is = refl

row_local_finishes : (r : Row) → local_row r ≡ true → finishing_row r ≡ false
row_local_finishes (Exchanges e) is = let clash : false ≡ true = is in cc
row_local_finishes other is = refl

row_opens_drains : (r : Row) → opens r ≡ true → draining_row r ≡ false
row_opens_drains (Exchanges e) is = opening_drains_none e.ending is
row_opens_drains other is = refl

row_unheld : (r : Row) → local_row r ≡ false → finishing_row r ≡ false → draining_row r ≡ false → moving_row r ≡ false
row_unheld (Exchanges e) abroad ends drains = ap (λ b. b || is_draining e.ending) ends ∙ drains
row_unheld (Moves movement) abroad ends drains = let clash : true ≡ false = abroad in cc
row_unheld other abroad ends drains = refl

-- Calls

pub unheld_call : (call : Call) → is_local call ≡ false → finishes call ≡ false → drains call ≡ false → of_transfer call ≡ false
unheld_call call abroad ends drains = row_unheld (row_of call First) abroad ends drains

pub opens_drains_none : (call : Call) → negotiates call ≡ true → drains call ≡ false
opens_drains_none call is = row_opens_drains (row_of call First) is

-- a call that needs no transfer hears the end of none
pub unheld_drains_none : (call : Call) → of_transfer call ≡ false → drains call ≡ false
unheld_drains_none call unheld = go (row_of call First) unheld
  where
    either : (a b : Bool) → a || b ≡ false → b ≡ false
    either true b none = let clash : true ≡ false = none in cc
    either false b none = none

    go : (r : Row) → moving_row r ≡ false → draining_row r ≡ false
    go (Exchanges e) none = either (is_finishing e.ending) (is_draining e.ending) none
    go other none = refl

pub finishing_no_read : (call : Call) → finishes call ≡ true → is_read call ≡ false
finishing_no_read call is = row_finishes_unread (row_of call First) is

pub finishing_no_local : (call : Call) → finishes call ≡ true → is_local call ≡ false
finishing_no_local call is = row_finishes_abroad (row_of call First) is

pub finishing_opens : (call : Call) → finishes call ≡ true → negotiates call ≡ false
finishing_opens call is = row_finishes_opens (row_of call First) is

pub finishing_moves : (call : Call) → finishes call ≡ true → of_transfer call ≡ true
finishing_moves call is = row_finishes_moves (row_of call First) is

pub opens_no_local : (call : Call) → negotiates call ≡ true → is_local call ≡ false
opens_no_local call is = row_opens_abroad (row_of call First) is

pub local_opens_none : (call : Call) → is_local call ≡ true → negotiates call ≡ false
local_opens_none call is = row_local_opens (row_of call First) is

pub local_finishes_none : (call : Call) → is_local call ≡ true → finishes call ≡ false
local_finishes_none call is = row_local_finishes (row_of call First) is

-- a call that finishes is no read
pub read_finishes_none : (call : Call) → is_read call ≡ true → finishes call ≡ false
read_finishes_none call read = go (finishes call) refl
  where
    go : (b : Bool) → finishes call ≡ b → finishes call ≡ false
    go true is = let clash : true ≡ false = sym read ∙ finishing_no_read call is in cc
    go false is = is

-- an abort brings a transfer to its end
aborting_ends : (e : Ending) → is_aborting e ≡ true → is_finishing e ≡ true
aborting_ends Stops is = refl
aborting_ends other is = let clash : false ≡ true = is in cc

row_aborts_finish : (r : Row) → aborting_row r ≡ true → finishing_row r ≡ true
row_aborts_finish (Exchanges exchange) is = aborting_ends exchange.ending is
row_aborts_finish other is = let clash : false ≡ true = is in cc

pub aborts_finish : (call : Call) → aborts call ≡ true → finishes call ≡ true
aborts_finish call is = row_aborts_finish (row_of call First) is

-- Stages

pub turn_no_local : (call : Call) (turn : Turn) → TurnOf call turn → is_local call ≡ false
turn_no_local call First of = of.1
turn_no_local call Second of = of.1
turn_no_local call (Closed close) of = finishing_no_local call of
turn_no_local call Aborted of = finishing_no_local call (aborts_finish call of)
turn_no_local call other of = opens_no_local call of

pub fetch_opens : (call : Call) (fetching : Fetched) → FetchOf call fetching → negotiates call ≡ true
fetch_opens call (LastReply form answer) of = of.0.0
fetch_opens call other of = of.0

pub stage_no_local : (call : Call) (stage : Stage) → StageOf call stage → is_local call ≡ false
stage_no_local call (At turn) of = turn_no_local call turn of
stage_no_local call (Composing Abort) of = finishing_no_local call (aborts_finish call of)
stage_no_local call (Composing (Resync turn)) of = turn_no_local call turn of.1
stage_no_local call (Saying line (Hears a)) of = turn_no_local call a.turn of.2
stage_no_local call (Saying line (Recovers Abort)) of = finishing_no_local call (aborts_finish call of)
stage_no_local call (Saying line (Recovers (Resync turn))) of = turn_no_local call turn of.1
stage_no_local call (Hearing a) of = turn_no_local call a.turn of.2
stage_no_local call (Seeking turn left) of = turn_no_local call turn of.1
stage_no_local call (SettingOffset turn offset) of = turn_no_local call turn of.1
stage_no_local call (OpeningData way) of = opens_no_local call of.0
stage_no_local call (Transferring fetching) of = opens_no_local call (fetch_opens call fetching of)
stage_no_local call (Closing Finishes) of = finishing_no_local call of
stage_no_local call (Closing Aborts) of = finishing_no_local call (aborts_finish call of)
stage_no_local call (Closing (FetchedAll form answer)) of = opens_no_local call of.0.0

-- Rows of calls that are none of the control connection

-- a turn of a call that goes over the control connection changes no setting, and moves no bytes
pub turn_abroad : (call : Call) (turn : Turn) (row : Row) → row_of call turn ≡ row → local_row row ≡ true → TurnOf call turn → ⊥
turn_abroad call First row is local of = let clash : true ≡ false = sym local ∙ sym (ap local_row is) ∙ of.1 in cc
turn_abroad call Second row is local of = let clash : true ≡ false = sym local ∙ sym (ap local_row is) ∙ local_alike call ∙ of.1 in cc
turn_abroad call other row is local of = let clash : true ≡ false = sym local ∙ sym (ap local_row is) in cc
