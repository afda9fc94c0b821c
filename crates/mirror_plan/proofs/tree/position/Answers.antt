use Rattle.std.proofs.Common.{◌≡◌, ℕ, ◌+◌, ◌-◌, ◌/◌, length, Some, slice_get, refl, arith}
use Rattle.std.specs.declared.cmp.Ordering.TheVariants.{Less, Equal, Greater}
use Rattle.std.proofs.lemmas.Option.{slice_get_read}
use Rattle.mirror_plan.specs.Paths.{path_cmp}
use Rattle.mirror_plan.proofs.PathFacts.{path_cmp-same}
use Rattle.mirror_plan.proofs.EntryFacts.{greater_before, less_after, node_at-gap, node_at-place}
use Rattle.mirror_plan.proofs.tree.position.Goals as goal

pub loop-low-preserved-in-Less : goal.loop-low-preserved-in-Less
loop-low-preserved-in-Less c =
    let es = c.args.entries.now in
    let mid : ℕ = c.loop-low.low + (c.loop-low.high - c.loop-low.low) / 2 in
    let e = c.index-entries-middle.result in
    let at : slice_get es mid ≡ Some e = slice_get_read es (length es) mid e refl (omega arith) c.index-entries-middle.is in
    let less : path_cmp c.args.names.now e.0 ≡ Less = cc (c.in-Less.ensures, c.names.ensures.names) in
    record {
      ordered = omega arith;
      in_range = omega arith;
      after = c.loop-low.invariant.after;
      before = λ k d le has. less_after es c.args.names.now mid k e d c.requires at less le has;
    }

pub loop-low-preserved : goal.loop-low-preserved
loop-low-preserved c =
    let es = c.args.entries.now in
    let mid : ℕ = c.loop-low.low + (c.loop-low.high - c.loop-low.low) / 2 in
    let e = c.index-entries-middle.result in
    let at : slice_get es mid ≡ Some e = slice_get_read es (length es) mid e refl (omega arith) c.index-entries-middle.is in
    let greater : path_cmp c.args.names.now e.0 ≡ Greater = cc (c.in-Greater.ensures, c.names.ensures.names) in
    record {
      ordered = omega arith;
      in_range = omega arith;
      after = λ k d lt has. greater_before es c.args.names.now mid k e d c.requires at greater (omega arith) has;
      before = c.loop-low.invariant.before;
    }

pub returns-in-Equal-clause-found : goal.returns-in-Equal-clause-found
returns-in-Equal-clause-found c =
    let es = c.args.entries.now in
    let mid : ℕ = c.loop-low.low + (c.loop-low.high - c.loop-low.low) / 2 in
    let e = c.index-entries-middle.result in
    let at : slice_get es mid ≡ Some e = slice_get_read es (length es) mid e refl (omega arith) c.index-entries-middle.is in
    let equal : path_cmp c.args.names.now e.0 ≡ Equal = cc (c.in-Equal.ensures, c.names.ensures.names) in
    let is : c.args.names.now ≡ e.0 = path_cmp-same c.args.names.now e.0 equal in
    rw is (record { node = e.1; has = at; found = node_at-place es mid e.0 e.1 c.requires at })

pub returns-clause-absent : goal.returns-clause-absent
returns-clause-absent c =
    record {
      in_range = omega arith;
      after = c.loop-low.invariant.after;
      before = λ k e le. c.loop-low.invariant.before k e (omega arith);
      absent = node_at-gap c.args.entries.now c.args.names.now c.loop-low.low c.loop-low.invariant.after (λ k e le. c.loop-low.invariant.before k e (omega arith));
    }
