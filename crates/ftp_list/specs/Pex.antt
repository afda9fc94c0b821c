-- Permissions as bits.
use Rattle.std.specs.Prelude.{ℕ, ◌/◌, ◌%◌, ◌==◌, true}
use Rattle.ftp_list.specs.declared.pex.PosixPex.{PosixPex}

-- bits 4, 2 and 1
abbrev pub pex_of_bits : ℕ → PosixPex
pex_of_bits bits = record { read = bits / 4 % 2 == 1; write = bits / 2 % 2 == 1; execute = bits % 2 == 1 }

-- all three are allowed
abbrev pub full_pex : PosixPex
full_pex = record { read = true; write = true; execute = true }
