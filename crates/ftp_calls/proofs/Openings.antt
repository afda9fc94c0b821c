-- What the rows of a call have in common: the last is of the sort of the first, one that opens a data connection is no read,
-- and one that reads the last reply of a transfer that was left says nothing.
use Rattle.std.proofs.Common.{◌≡◌, Bool, true, false, not, ◌&&◌, ◌||◌, is_none, refl, ap}
use Rattle.ftp_calls.specs.declared.call.Call.{Call}
use Rattle.ftp_calls.specs.declared.exchange.Ending.{Ending}
use Rattle.ftp_calls.specs.declared.exchange.Ending.TheVariants.{Done, GivesReply, TakesReply, Greets, GivesPath, GivesSecondLine, GivesTime, GivesSize, GivesFeatures, SetsText, GoesOn, Continues, GivesAddress, GivesPort, Opens, Performs, Finishes, Drains, Stops}
use Rattle.ftp_calls.specs.declared.exchange.Row.{Row}
use Rattle.ftp_calls.specs.declared.exchange.Row.TheVariants.{Exchanges, Arms, Resyncs, Sets, Moves}
use Rattle.ftp_calls.specs.declared.exchange.Turn.TheVariants.{First, Second}
use Rattle.ftp_calls.specs.Exchanges.{Own, Once, Twice, aborting_row, aborts, at_turn, draining_row, drains, gives_reply, is_draining, is_local, is_negotiating, is_opening, is_own, is_read, local_row, negotiates, only_reads, opens, own, own_row, reads, row_of}

-- the last row of a call opens a data connection where the first does
own_opens : (o : Own) → opens (at_turn o false) ≡ opens (at_turn o true)
own_opens (Once row is) = refl
own_opens (Twice command codes status next last) = refl

pub opens_alike : (call : Call) → opens (row_of call Second) ≡ negotiates call
opens_alike call = own_opens (own call)

-- it changes a setting or moves bytes where the first does
own_local : (o : Own) → local_row (at_turn o false) ≡ local_row (at_turn o true)
own_local (Once row is) = refl
own_local (Twice command codes status next last) = refl

pub local_alike : (call : Call) → local_row (row_of call Second) ≡ is_local call
local_alike call = own_local (own call)

-- and hears the end of a transfer that was left where it does
own_drains : (o : Own) → draining_row (at_turn o false) ≡ draining_row (at_turn o true)
own_drains (Once row is) = refl
own_drains (Twice command codes status next last) = refl

pub drains_alike : (call : Call) → draining_row (row_of call Second) ≡ drains call
drains_alike call = own_drains (own call)

-- each row of a call's own is one that a call may have
turn_is_own : (o : Own) (first : Bool) → is_own (at_turn o first) ≡ true
turn_is_own (Once row is) first = is
turn_is_own (Twice command codes status next last) true = refl
turn_is_own (Twice command codes status next last) false = refl

pub row_is_own : (call : Call) (first : Bool) → is_own (own_row call first) ≡ true
row_is_own call first = turn_is_own (own call) first

-- a plain read opens no data connection
ending_opens_none : (e : Ending) → is_opening e ≡ true → only_reads e ≡ false
ending_opens_none Done is = refl
ending_opens_none GivesReply is = let clash : false ≡ true = is in cc
ending_opens_none TakesReply is = let clash : false ≡ true = is in cc
ending_opens_none Greets is = refl
ending_opens_none GivesPath is = refl
ending_opens_none GivesSecondLine is = refl
ending_opens_none GivesTime is = refl
ending_opens_none GivesSize is = refl
ending_opens_none GivesFeatures is = refl
ending_opens_none (SetsText text) is = refl
ending_opens_none (GoesOn status) is = refl
ending_opens_none Continues is = refl
ending_opens_none GivesAddress is = refl
ending_opens_none (GivesPort tries) is = refl
ending_opens_none (Opens replies) is = refl
ending_opens_none (Performs task) is = refl
ending_opens_none (Finishes close) is = refl
ending_opens_none Drains is = let clash : false ≡ true = is in cc
ending_opens_none Stops is = refl

row_opens_none : (r : Row) → opens r ≡ true → reads r ≡ false
row_opens_none (Exchanges exchange) is = ap (λ b. b && is_none exchange.says) (ending_opens_none exchange.ending is)
row_opens_none (Arms offset) is = refl
row_opens_none Resyncs is = refl
row_opens_none (Sets setting) is = refl
row_opens_none (Moves movement) is = refl

pub read_opens_none : (call : Call) → negotiates call ≡ true → is_read call ≡ false
read_opens_none call is = row_opens_none (row_of call First) is

-- a call that reads the last reply of a transfer that was left is a plain read
alone : (negotiates drains gives says_none : Bool) → not negotiates && (not drains || says_none) ≡ true → drains ≡ true → (gives || drains) && says_none ≡ true
alone true drains gives says_none own is = let clash : false ≡ true = own in cc
alone false false gives says_none own is = let clash : false ≡ true = is in cc
alone false true gives false own is = let clash : false ≡ true = own in cc
alone false true true true own is = refl
alone false true false true own is = refl

row_draining_reads : (r : Row) → is_own r ≡ true → draining_row r ≡ true → reads r ≡ true
row_draining_reads (Exchanges e) own is = alone (is_negotiating e.ending) (is_draining e.ending) (gives_reply e.ending) (is_none e.says) own is
row_draining_reads (Arms offset) own is = let clash : false ≡ true = is in cc
row_draining_reads Resyncs own is = let clash : false ≡ true = is in cc
row_draining_reads (Sets setting) own is = let clash : false ≡ true = is in cc
row_draining_reads (Moves movement) own is = let clash : false ≡ true = is in cc

pub draining_reads : (call : Call) → drains call ≡ true → is_read call ≡ true
draining_reads call is = row_draining_reads (row_of call First) (row_is_own call true) is
