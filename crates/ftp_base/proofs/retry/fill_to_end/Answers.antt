use Rattle.std.proofs.Common.{arith, rules, take_all}
use Rattle.std.proofs.lemmas.List.{places}
use Rattle.ftp_base.proofs.ReadLemmas.{Reads-start, Reads-more}
use Rattle.ftp_base.proofs.retry.fill_to_end.Goals as goal

pub loop-init : goal.loop-init
loop-init g c = record {
  turns = omega arith;
  within = search rules;
  reads = Reads-start _ _ _ (take_all c.len-filled.result c.args.buffer.now.items (search (rules, places)));
}

pub loop-preserved : goal.loop-preserved
loop-preserved g c =
    let read = c.in-Ok.ensures in
    record {
      turns = omega (arith, c.loop.invariant.turns, c.in-Ok.taken-test.1);
      within = read.fits;
      reads = Reads-more _ _ _ _ c.loop.buffer.items c.read_more.new.buffer.items c.loop.filled c.in-Ok.taken c.loop.invariant.reads read.front read.ok;
    }
