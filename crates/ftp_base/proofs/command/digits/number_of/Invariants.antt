use Rattle.std.proofs.Common.{◌≡◌, ◌≤◌, drop}
use Rattle.std.specs.List.{list_all}
use Rattle.std.specs.Char.{is_ascii_digit}
use Rattle.ftp_base.specs.Scan.{digits_value}
use Rattle.ftp_base.proofs.command.digits.number_of.Given as goal

-- the number so far, with the digits that are left, is the whole number
abbrev pub invariant-loop-digit : goal.invariant-loop-digit
invariant-loop-digit l = record {
  value : digits_value l.value (drop l.digit-index l.digits) ≡ digits_value 0 l.digits;
  digits : list_all is_ascii_digit (drop l.digit-index l.digits) ≡ list_all is_ascii_digit l.digits;
  below : l.value ≤ l.most;
}
