-- What always holds of a session.
use Rattle.std.specs.Prelude.{◌≡◌, ℕ, ◌+◌, ◌==◌, Bool, true, false, Option, Some, None, if◌then◌else◌}
use Rattle.ftp_base.specs.declared.types.fault.FtpError.{FtpError}
use Rattle.ftp_base.specs.declared.types.fault.FtpError.TheVariants.{DataConnectionAlreadyOpen, SessionFailed}
use Rattle.ftp_control.specs.Channel.{Channel, IsSound}
use Rattle.ftp_dialogue.specs.declared.state.Owed.{Owed}
use Rattle.ftp_dialogue.specs.declared.state.Owed.TheVariants.{Nothing, Live, Left}

-- the transfers that a session counted
pub record Transfers : Type 0 where
  pub opened : ℕ
  pub finished : ℕ
  pub aborted : ℕ
  pub drained : ℕ
  pub owed : Owed

-- no transfer was left
abbrev pub none_left : Owed → Bool
none_left Nothing = true
none_left (Live number) = true
none_left (Left number) = false

-- some transfer is live
abbrev pub some_live : Owed → Bool
some_live Nothing = false
some_live (Live number) = true
some_live (Left number) = false

-- a transfer is held: it is live, and its data connection is kept here, not handed out
abbrev pub holds : Bool → Owed → Bool
holds none Nothing = false
holds none (Live number) = if none then false else true
holds none (Left number) = false

abbrev pub owed_count : Owed → ℕ
owed_count Nothing = 0
owed_count (Live number) = 1
owed_count (Left number) = 1

-- each transfer that was opened has come to its end, but for the one whose reply is owed
abbrev pub SoundCounts : Transfers → Type 0
SoundCounts c = c.opened ≡ c.finished + c.aborted + c.drained + owed_count c.owed

abbrev pub no_transfers : Transfers
no_transfers = record { opened = 0; finished = 0; aborted = 0; drained = 0; owed = Nothing }

-- so many transfers can be counted
abbrev pub most_transfers : ℕ
most_transfers = 18446744073709551615

-- why no transfer can be opened: one is owed, or no other can be counted
abbrev pub cannot_beside : Owed → ℕ → Option FtpError
cannot_beside Nothing opened = if opened == most_transfers then Some SessionFailed else None
cannot_beside (Live number) opened = Some DataConnectionAlreadyOpen
cannot_beside (Left number) opened = Some DataConnectionAlreadyOpen

abbrev pub cannot_open : Transfers → Option FtpError
cannot_open c = cannot_beside c.owed c.opened

-- one transfer more, which is owed, where it can be opened
abbrev pub counted_unless : Option FtpError → Transfers → Transfers
counted_unless None c = record c { opened = c.opened + 1; owed = Live (c.opened + 1) }
counted_unless (Some fault) c = c

abbrev pub one_more : Transfers → Transfers
one_more c = counted_unless (cannot_open c) c

-- the transfer that is owed has come to its end
abbrev pub finished_with : Owed → Transfers → Transfers
finished_with Nothing c = c
finished_with (Live number) c = record c { finished = c.finished + 1; owed = Nothing }
finished_with (Left number) c = record c { finished = c.finished + 1; owed = Nothing }

abbrev pub one_finished : Transfers → Transfers
one_finished c = finished_with c.owed c

-- the transfer that was left has come to its end
abbrev pub drained_with : Owed → Transfers → Transfers
drained_with Nothing c = c
drained_with (Live number) c = record c { drained = c.drained + 1; owed = Nothing }
drained_with (Left number) c = record c { drained = c.drained + 1; owed = Nothing }

abbrev pub one_drained : Transfers → Transfers
one_drained c = drained_with c.owed c

-- the transfer that is owed was aborted
abbrev pub aborted_with : Owed → Transfers → Transfers
aborted_with Nothing c = c
aborted_with (Live number) c = record c { aborted = c.aborted + 1; owed = Nothing }
aborted_with (Left number) c = record c { aborted = c.aborted + 1; owed = Nothing }

abbrev pub one_aborted : Transfers → Transfers
one_aborted c = aborted_with c.owed c

-- the transfer that is live is left, and its last reply is still owed
abbrev pub left_of : Owed → Owed
left_of Nothing = Nothing
left_of (Live number) = Left number
left_of (Left number) = Left number

abbrev pub left_behind : Transfers → Transfers
left_behind c = record c { owed = left_of c.owed }

-- the transfer of this number is live; it is owed, live or left
abbrev pub is_live : ℕ → Owed → Bool
is_live number Nothing = false
is_live number (Live other) = number == other
is_live number (Left other) = false

abbrev pub is_owed : ℕ → Owed → Bool
is_owed number Nothing = false
is_owed number (Live other) = number == other
is_owed number (Left other) = number == other

-- the number of the next transfer
abbrev pub next_number : Transfers → ℕ
next_number c = if c.opened == most_transfers then c.opened else c.opened + 1

-- a sound session: its channel's bytes and lines, and its counts
pub record Sound (tells : Type 0) (c : Channel) (transfers : Transfers) : Type 0 where
  pub channel : IsSound tells c
  pub counts : SoundCounts transfers
