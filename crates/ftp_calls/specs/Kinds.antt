-- What sort of call it is by its rows: it opens a data connection, or needs none and each of its exchanges gives a thing of
-- one kind.
use Rattle.std.specs.Prelude.{◌≡◌, true, false}
use Rattle.ftp_calls.specs.declared.call.Call.{Call}
use Rattle.ftp_calls.specs.declared.exchange.Turn.TheVariants.{First, Second}
use Rattle.ftp_calls.specs.Exchanges.{Kind, Nothing, Replies, Texts, Times, Sizes, Lists, given_by, is_local, negotiates, of_transfer, row_of}

-- a call says and hears, and needs no data connection
abbrev pub IsPlain : Call → Type 0
IsPlain call = (negotiates call ≡ false) × (is_local call ≡ false) × (of_transfer call ≡ false)

-- a call that opens a data connection goes over the control connection, and is none of a transfer
abbrev pub IsOpening : Call → Type 0
IsOpening call = (negotiates call ≡ true) × (is_local call ≡ false) × (of_transfer call ≡ false)

-- each exchange of a call gives this, and no data connection is needed
abbrev pub Gives : Kind → Call → Type 0
Gives kind call = (given_by (row_of call First) ≡ kind) × (given_by (row_of call Second) ≡ kind) × IsPlain call

abbrev pub GivesNothing : Call → Type 0
GivesNothing call = Gives Nothing call

abbrev pub GivesReply : Call → Type 0
GivesReply call = Gives Replies call

abbrev pub GivesText : Call → Type 0
GivesText call = Gives Texts call

abbrev pub GivesTime : Call → Type 0
GivesTime call = Gives Times call

abbrev pub GivesSize : Call → Type 0
GivesSize call = Gives Sizes call

abbrev pub GivesFeatures : Call → Type 0
GivesFeatures call = Gives Lists call
