use Rattle.std.proofs.Common.{◌≤◌}
use Rattle.ftp_base.specs.Ascii.{most_bytes}
use Rattle.ftp_transfer.proofs.CopyingLemmas.{SoFar}
use Rattle.ftp_transfer.proofs.copying.copy_through.Given as goal

-- what the source gave so far has gone out
abbrev pub invariant-loop : goal.invariant-loop
invariant-loop g l = record {
  copied : SoFar g.C.Tells.tells l.text (g.S.Read.remaining l.fn.source) (g.S.Read.remaining l.source) l.fn.transfer l.transfer l.encoder l.count;
  turns : l.counter ≤ l.count;
  limit : l.count ≤ most_bytes;
}
