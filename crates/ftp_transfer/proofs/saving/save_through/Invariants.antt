use Rattle.std.proofs.Common.{◌≤◌}
use Rattle.ftp_base.specs.Ascii.{most_bytes}
use Rattle.ftp_transfer.proofs.SavingLemmas.{SavedSoFar}
use Rattle.ftp_transfer.proofs.saving.save_through.Given as goal

-- all that came so far was written
abbrev pub invariant-loop : goal.invariant-loop
invariant-loop g l = record {
  saved : SavedSoFar g.C.Tells.tells (g.W.Write.contents l.fn.writer) (g.W.Write.contents l.writer) l.fn.transfer l.transfer l.count;
  turns : l.counter ≤ l.count;
  limit : l.count ≤ most_bytes;
}
