use Rattle.std.proofs.Common.{◌≡◌, arith, ap, subst, ◌∙◌, w64, to_z, of_z}
use Rattle.std.specs.Prelude.{ℤ, pos, Some, ◌-ℤ◌, ◌+ℤ◌, ◌<ℤ◌}
use Rattle.std.proofs.lemmas.Int.{ints}
use Rattle.ftp_list.specs.Dates.{second_at, day_number}
use Rattle.ftp_list.proofs.DateFacts.{year_before}
use Rattle.ftp_list.proofs.moments.year_near.Goals as goal

pub returns-then-present-second_of : goal.returns-then-present-second_of
returns-then-present-second_of c =
    let low = c.args.present.year_in.0 in
    let high = c.args.present.year_in.1 in
    let year : to_z w64 (of_z w64 (to_z w64 (of_z w64 c.args.present.year) -ℤ pos 1)) ≡ c.args.present.year -ℤ pos 1 = omega (arith, ints) in
    let same : to_z w64 (of_z w64 c.args.present.year) ≡ c.args.present.year = omega (arith, ints) in
    let day_low = c.in_ok-number.ensures.bound.0 in
    let day_high = c.in_ok-number.ensures.bound.1 in
    let now_low = c.args.present.second_in.0 in
    let now_high = c.args.present.second_in.1 in
    let number : to_z w64 (of_z w64 c.in_ok-number.number) ≡ c.in_ok-number.number = omega (arith, ints) in
    let moment : c.second_of.result ≡ second_at c.in_ok-number.number c.args.clock = c.second_of.ensures ∙ ap (λ (z : ℤ). second_at z c.args.clock) number in
    let ahead : (c.args.present.second +ℤ pos 15_552_000) <ℤ c.second_of.result = let t = c.if-present-second_of.true in grind (arith, ints) in
    ap Some year ∙ year_before c.args.present.year c.args.present.second c.in_ok-number.number c.args.month c.args.day c.args.clock (c.in_ok-number.ensures.value ∙ ap (λ (z : ℤ). day_number z c.args.month c.args.day) same) (subst (λ (z : ℤ). (c.args.present.second +ℤ pos 15_552_000) <ℤ z) moment ahead)
