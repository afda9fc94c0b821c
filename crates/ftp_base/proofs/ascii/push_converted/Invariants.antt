use Rattle.std.proofs.Common.{◌≡◌, ◌++◌, length, take}
use Rattle.ftp_base.specs.Ascii.{converted, last_return}
use Rattle.ftp_base.proofs.ascii.push_converted.Given as goal

abbrev pub invariant-loop-end : goal.invariant-loop-end
invariant-loop-end l = record {
  written : l.out.items ++ converted l.after_return l.rest ≡ l.fn.out.items ++ converted l.fn.after_return l.input;
  last : last_return l.after_return l.rest ≡ last_return l.fn.after_return l.input;
  front : take (length l.fn.out.items) l.out.items ≡ l.fn.out.items;
}

abbrev pub decreases-loop-end : goal.decreases-loop-end
decreases-loop-end l = length l.rest
