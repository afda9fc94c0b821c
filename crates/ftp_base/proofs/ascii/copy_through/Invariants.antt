use Rattle.std.proofs.Common.{◌≤◌}
use Rattle.ftp_base.proofs.CopyLemmas.{Copies}
use Rattle.ftp_base.proofs.ascii.copy_through.Given as goal

abbrev pub invariant-loop : goal.invariant-loop
invariant-loop g l = record {
  copied : Copies (g.R.Read.remaining l.fn.reader) (g.R.Read.remaining l.reader) (g.W.Write.contents l.fn.writer) (g.W.Write.contents l.writer) l.encoder l.count;
  turns : l.counter ≤ l.count;
  limit : l.count ≤ 9223372036854775807;
}
