use Rattle.std.proofs.Common.{◌≤◌, take, vec_len}
use Rattle.ftp_base.proofs.ReadLemmas.{Reads}
use Rattle.ftp_base.proofs.retry.fill_to_end.Given as goal

abbrev pub invariant-loop : goal.invariant-loop
invariant-loop g l = record {
  turns : l.counter ≤ l.filled;
  within : l.filled ≤ vec_len l.buffer;
  reads : Reads (g.R.Read.remaining l.fn.reader) (g.R.Read.remaining l.reader) l.fn.buffer.items (take l.filled l.buffer.items);
}
