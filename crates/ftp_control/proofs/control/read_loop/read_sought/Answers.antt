use Rattle.std.proofs.Common.{rules, ◌≡◌, inr, ◌+◌, Bool, length, ◌++◌, Ok, refl, ap, length-append, append-nil, ◌∙◌, sym}
use Rattle.futures.specs.declared.task.Poll.TheVariants.{Ready}
use Rattle.ftp_transport.specs.Told.{Told}
use Rattle.ftp_control.proofs.Outcomes.{too_little}
use Rattle.ftp_control.proofs.ReadLoop.{nothing_so_far, fills_on, fill_fails, fill_smaller, some_came, fill_known, none_came}
use Rattle.ftp_control.proofs.control.read_loop.read_sought.Goals as goal

pub loop-ended-init : goal.loop-ended-init
loop-ended-init g c = record {
  under_way = c.requires.under_way;
  can_seek = c.requires.can_seek;
  known = c.requires.known;
  given = λ h is. is;
  end = search rules;
  bound = c.requires.bound;
  so_far = nothing_so_far _ _ _ _ _ _ c.requires.known c.requires.over;
}

pub loop-ended-smaller : goal.loop-ended-smaller
loop-ended-smaller g c =
    let looks = rw (c.in-Ok-Waits.is, c.in-Ok-Waits.field-0-is) at c.look.ensures.takes in
    let fills = rw (c.in-Ok-Ready.is, c.in-Ok-Ready.field-0-is) at c.fill.ensures.fills in
    let held = too_little _ _ _ c.look.ensures.under_way.waits in
    let all : length c.loop-ended.reply.bytes.items + length c.loop-ended.ahead ≡ length c.look.new.reply.bytes.items =
    sym (length-append c.loop-ended.reply.bytes.items c.loop-ended.ahead) ∙ ap length (looks.split ∙ ap (λ l. looks.taken ++ l) (looks.none refl) ∙ append-nil looks.taken ∙ sym looks.all) in
    rw c.loop-ended-test.true (fill_smaller c.in-Ok-Ready.any _ _ _ all held.fits c.fill.ensures.bound (some_came _ _ _ _ _ fills))

pub loop-ended-preserved : goal.loop-ended-preserved
loop-ended-preserved g c =
    let so_far = rw c.loop-ended-test.true at c.loop-ended.invariant.so_far in
    let known = rw c.loop-ended-test.true at c.loop-ended.invariant.known in
    let looks = rw (c.in-Ok-Waits.is, c.in-Ok-Waits.field-0-is) at c.look.ensures.takes in
    let fills = rw (c.in-Ok-Ready.is, c.in-Ok-Ready.field-0-is) at c.fill.ensures.fills in
    let ends = rw (c.in-Ok-Ready.is, c.in-Ok-Ready.field-0-is) at c.fill.ensures.end in
    record {
      under_way = c.look.ensures.under_way;
      can_seek = c.look.ensures.can_seek;
      known = λ h. fill_known _ _ _ _ _ fills h (known h);
      given = λ h is. c.fill.ensures.given h (c.loop-ended.invariant.given h is);
      end = λ h may_wait is. inr (sym (ap (λ (t : Told). t.given.closed) (so_far.told h)) ∙ ends h may_wait (ap (λ (b : Bool). Ok (Ready b)) (none_came c.in-Ok-Ready.any is)));
      bound = c.fill.ensures.bound;
      so_far = fills_on _ _ _ _ _ _ _ _ _ _ _ so_far looks c.in-Ok-Ready.any _ _ fills;
    }

pub returns-in-Err-clause-heard : goal.returns-in-Err-clause-heard
returns-in-Err-clause-heard g c =
    let so_far = rw c.loop-ended-test.true at c.loop-ended.invariant.so_far in
    let looks = rw (c.in-Ok-Waits.is, c.in-Ok-Waits.field-0-is) at c.look.ensures.takes in
    let fills = rw c.in-Err.is at c.fill.ensures.fills in
    rw c.loop-ended-test.true (fill_fails _ _ _ _ _ _ _ _ _ _ _ so_far looks c.in-Err.kind _ _ fills)
