use Rattle.std.proofs.Common.{◌≡◌, ◌≤◌, ◌-◌, length, take}
use Rattle.std.specs.Io.KnownBytes.{Consumes}
use Rattle.ftp_transfer.proofs.copying.read_block.Given as goal

-- what the source gave so far stands at the front
abbrev pub invariant-loop-filled : goal.invariant-loop-filled
invariant-loop-filled g l = record {
  within : l.filled ≤ length l.input;
  size : length l.input ≡ length l.fn.input;
  bytes : Consumes (g.S.Read.remaining l.fn.source) (g.S.Read.remaining l.source) (take l.filled l.input);
}

abbrev pub decreases-loop-filled : goal.decreases-loop-filled
decreases-loop-filled g l = length l.input - l.filled
