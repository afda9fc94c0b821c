use Rattle.std.proofs.Common.{◌≡◌, ◌<◌, ◌+◌, ◌∙◌, ap, length, take, sym, arith}
use Rattle.std.proofs.lemmas.List.{length-take-le}
use Rattle.ftp_transport.specs.Told.{after_read}
use Rattle.ftp_transfer.proofs.SavingLemmas.{data_fails, save_fails_as, saved_more, saved_none, some_read, too_much, writer_fails}
use Rattle.ftp_transfer.proofs.saving.save_through.Goals as goal

pub loop-init : goal.loop-init
loop-init g c = record {
  saved = saved_none _ _ c.args.transfer.now;
  turns = omega arith;
  limit = omega arith;
}

pub returns-in-Err : goal.returns-in-Err
returns-in-Err g c =
    let some : 0 < length c.loop.buffer = omega (arith, c.requires, c.loop.auto.buffer) in
    record { saves = rw c.fault.ensures (data_fails _ _ _ c.args.transfer.now c.loop.transfer c.read.new.self _ c.loop.invariant.saved c.in-Err.ensures.kept _ (λ h. c.in-Err.ensures.told h some)) }

pub returns-in_err-size : goal.returns-in_err-size
returns-in_err-size g c =
    let some : 0 < length c.loop.buffer = omega (arith, c.requires, c.loop.auto.buffer) in
    let n = c.in-Ok.taken in
    let piece = take n c.read.new.buffer in
    let taken : length piece ≡ n = length-take-le n c.read.new.buffer (omega (arith, c.in-Ok.ensures.bound, c.read.auto.buffer)) in
    let came : g.C.Tells.tells → c.read.new.self.told ≡ after_read piece c.loop.transfer.told = λ h. some_read c.in-Ok.taken c.read.new.buffer c.loop.transfer.told c.read.new.self.told c.if-taken-eq0.false (c.in-Ok.ensures.told h some) in
    record { saves = save_fails_as _ _ _ c.args.transfer.now c.read.new.self _ c.from_residual.result c.from_residual.ensures.0 c.from_residual.ensures.1 (too_much _ _ _ c.args.transfer.now c.loop.transfer c.read.new.self _ c.loop.invariant.saved c.in-Ok.ensures.kept piece _ came c.in_err-size.ensures.fault (omega (arith, c.in_err-size.ensures.beyond, taken))) }

pub returns-in_err-write_all_retrying : goal.returns-in_err-write_all_retrying
returns-in_err-write_all_retrying g c =
    let some : 0 < length c.loop.buffer = omega (arith, c.requires, c.loop.auto.buffer) in
    let piece = take c.in-Ok.taken c.read.new.buffer in
    let came : g.C.Tells.tells → c.read.new.self.told ≡ after_read piece c.loop.transfer.told = λ h. some_read c.in-Ok.taken c.read.new.buffer c.loop.transfer.told c.read.new.self.told c.if-taken-eq0.false (c.in-Ok.ensures.told h some) in
    let r = c.from_residual-in_err-write_all_retrying in
    record { saves = save_fails_as _ _ _ c.args.transfer.now c.read.new.self _ r.result r.ensures.0 r.ensures.1 (writer_fails _ _ _ c.args.transfer.now c.loop.transfer c.read.new.self _ c.loop.invariant.saved c.in-Ok.ensures.kept piece _ _ came c.in_err-write_all_retrying.ensures.err) }

pub loop-preserved : goal.loop-preserved
loop-preserved g c =
    let some : 0 < length c.loop.buffer = omega (arith, c.requires, c.loop.auto.buffer) in
    let n = c.in-Ok.taken in
    let piece = take n c.read.new.buffer in
    let taken : length piece ≡ n = length-take-le n c.read.new.buffer (omega (arith, c.in-Ok.ensures.bound, c.read.auto.buffer)) in
    let came : g.C.Tells.tells → c.read.new.self.told ≡ after_read piece c.loop.transfer.told = λ h. some_read c.in-Ok.taken c.read.new.buffer c.loop.transfer.told c.read.new.self.told c.if-taken-eq0.false (c.in-Ok.ensures.told h some) in
    let sum = c.in_ok-size.ensures.sum in
    record {
      saved = saved_more _ _ _ c.args.transfer.now c.loop.transfer c.read.new.self _ c.loop.invariant.saved c.in-Ok.ensures.kept piece _ _ came c.in_ok-write_all_retrying.ensures.ok (sum ∙ ap (λ k. c.loop.count + k) (sym taken));
      turns = omega (arith, c.loop.invariant.turns, sum, c.if-taken-eq0.false);
      limit = omega (arith, sum, c.in_ok-size.ensures.within);
    }
