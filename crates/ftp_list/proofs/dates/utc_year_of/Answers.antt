use Rattle.std.proofs.Common.{◌≡◌, arith, ap, ◌∙◌, w64, to_z, of_z}
use Rattle.std.specs.Prelude.{ℤ, pos}
use Rattle.std.specs.Int.{int_div_euclid}
use Rattle.std.proofs.lemmas.Int.{ints, to_z-of_z}
use Rattle.ftp_list.proofs.dates.utc_year_of.Goals as goal

pub returns-clause-year : goal.returns-clause-year
returns-clause-year c =
    let day : to_z w64 (of_z w64 c.div_euclid.result) ≡ c.div_euclid.result = omega (arith, ints) in
    let year : c.in-Ok.today.year ≡ to_z w64 (of_z w64 c.from.result) = (let low = c.in-Ok.today.year_in.0 in let high = c.in-Ok.today.year_in.1 in omega (arith, ints)) in
    (c.in-Ok.today, c.in-Ok.ensures.value ∙ day ∙ c.div_euclid.ensures ∙ ap (λ (z : ℤ). int_div_euclid z (pos 86_400)) (to_z-of_z w64 c.args.second c.ranges.second), year)
