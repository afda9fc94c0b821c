use Rattle.std.proofs.Common.{◌≡◌, None}
use Rattle.ftp_base.specs.Line.{encoded_fault}
use Rattle.ftp_control.proofs.WireLines.{escaped_line, passed}
use Rattle.ftp_control.proofs.control.wire_line.WireLine.of.Goals as goal

pub invariant_of-result : goal.invariant_of-result
invariant_of-result g c =
    let sound : encoded_fault c.as_slice.result.now ≡ None = passed _ _ _ c.in_ok-validate_encoded_command_line.ensures in
    rw (c.from_vec.ensures, c.in_ok-line.ensures.doubled, c.as_slice-2.ensures.value, ← c.as_slice.ensures.value) (escaped_line c.as_slice.result.now sound)
