use Rattle.std.proofs.Common.{◌∙◌, sym, ap, append-nil, Some}
use Rattle.ftp_script.proofs.Escaping.{after, after-nil, one_part, read_end, step_gives, step_begins}
use Rattle.ftp_script.proofs.escapes.unescaped.Goals as goal
use Rattle.ftp_script.proofs.escapes.unescaped.Goals.{in-Gives+in_ok-push-in-Gives, in-Begins}

pub loop-byte-init : goal.loop-byte-init
loop-byte-init c = rw c.new-bytes.ensures.items (after-nil _)

pub loop-byte-preserved : goal.loop-byte-preserved
loop-byte-preserved c =
    let said = sym c.in-Some.is ∙ c.part_of.ensures in
    elim c.match-part.branch [
      | in-Gives+in_ok-push-in-Gives w ↦
          c.loop-byte.invariant ∙ step_gives _ _ _ _ _ _ _ _ c.loop-byte-test.true said w.in-Gives.is (ap (λ v. v.items) w.bytes-is ∙ w.in_ok-push-in-Gives.ensures.items) w.place-is
      | in-Begins w ↦
          c.loop-byte.invariant ∙ step_begins _ _ _ _ _ _ _ _ c.loop-byte-test.true said w.in-Begins.is (ap (λ v. v.items) w.bytes-is) w.place-is
    ]

pub returns-in_default : goal.returns-in_default
returns-in_default c =
    sym (c.loop-byte.invariant ∙ ap (after _) (one_part _ _ _ _ c.loop-byte-test.true (sym c.in_default.is ∙ c.part_of.ensures)))

pub returns-in-Plain : goal.returns-in-Plain
returns-in-Plain c = sym (c.loop-byte.invariant ∙ ap (after _) (read_end _ _ _ _ c.loop-byte-test.false c.in-Plain.is) ∙ ap Some (append-nil _ ∙ sym c.from_vec.ensures))

pub returns-in-Backslash : goal.returns-in-Backslash
returns-in-Backslash c = sym (c.loop-byte.invariant ∙ ap (after _) (read_end _ _ _ _ c.loop-byte-test.false c.in-Backslash.is))

pub returns-in-High : goal.returns-in-High
returns-in-High c = sym (c.loop-byte.invariant ∙ ap (after _) (read_end _ _ _ _ c.loop-byte-test.false c.in-High.is))

pub returns-in-Low : goal.returns-in-Low
returns-in-Low c = sym (c.loop-byte.invariant ∙ ap (after _) (read_end _ _ _ _ c.loop-byte-test.false c.in-Low.is))
