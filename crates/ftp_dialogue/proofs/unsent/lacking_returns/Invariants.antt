use Rattle.std.proofs.Common.{◌≡◌, ◌≤◌, ◌+◌, false, drop, length}
use Rattle.ftp_base.specs.Ascii.{converted}
use Rattle.ftp_dialogue.proofs.unsent.lacking_returns.Given as goal

-- those that were counted, and the bytes that go out for the others, are all that go out
abbrev pub invariant-loop-byte : goal.invariant-loop-byte
invariant-loop-byte l = record {
  counts : l.lacking + (l.byte-index + length (converted l.after_return (drop l.byte-index l.bytes))) ≡ length (converted false l.bytes);
  below : l.lacking ≤ l.byte-index;
}
