use Rattle.std.proofs.Common.{◌≡◌, ◌<◌, ◌≤◌, arith, ap, ◌∙◌, w8, w16, w64, to_z, of_z}
use Rattle.std.specs.Prelude.{ℤ, Some, unsigned_abs, pos}
use Rattle.std.proofs.lemmas.Bool.{false≢true}
use Rattle.std.proofs.lemmas.Int.{ints, to_z-of_z, to_z_pos}
use Rattle.jiff_core.specs.Date.{epoch_day}
use Rattle.ftp_list.proofs.DateFacts.{number_of_date, no_number, month_short, year_fits, year_far, date_of_parts}
use Rattle.ftp_list.proofs.dates.day_of.Goals as goal

pub returns-in-Ok-clause-value : goal.returns-in-Ok-clause-value
returns-in-Ok-clause-value c =
    let k = c.in-Ok.ensures.value in
    let y = c.args.year in
    let same : to_z w64 (of_z w64 y) ≡ y = to_z-of_z w64 y c.ranges.year in
    let near : unsigned_abs y ≤ 9999 = let e = ap unsigned_abs same in omega (arith, c.unsigned_abs.ensures.value) in
    let ey : c.in-Ok.date.year ≡ y = k.0 ∙ ap (λ (z : ℤ). to_z w16 (of_z w16 z)) same ∙ to_z-of_z w16 y (year_fits y near) in
    let em : c.in-Ok.date.month ≡ c.args.month = omega (arith, ints, k.1) in
    let ed : c.in-Ok.date.day ≡ c.args.day = omega (arith, ints, k.2) in
    let value : to_z w64 (of_z w64 c.from.result) ≡ epoch_day c.in-Ok.date = omega (arith, ints) in
    ap Some value ∙ number_of_date c.in-Ok.date y c.args.month c.args.day ey em ed

pub returns-then-unsigned_abs-gt9999-clause-value : goal.returns-then-unsigned_abs-gt9999-clause-value
returns-then-unsigned_abs-gt9999-clause-value c =
    let y = c.args.year in
    let same : to_z w64 (of_z w64 y) ≡ y = to_z-of_z w64 y c.ranges.year in
    let far : 9999 < unsigned_abs y = let e = ap unsigned_abs same in omega (arith, c.unsigned_abs.ensures.value) in
    no_number y c.args.month c.args.day (λ h. year_far y far h.0)

pub returns-then-month-gt12-clause-value : goal.returns-then-month-gt12-clause-value
returns-then-month-gt12-clause-value c = no_number c.args.year c.args.month c.args.day (λ h. omega (arith, ints, h.1.1))

pub returns-then-day-gt31-clause-value : goal.returns-then-day-gt31-clause-value
returns-then-day-gt31-clause-value c =
    no_number c.args.year c.args.month c.args.day (λ h. let short = month_short c.args.year c.args.month in let most = h.2.1 in omega (arith, ints))

pub returns-in-Err-clause-value : goal.returns-in-Err-clause-value
returns-in-Err-clause-value c =
    let y = c.args.year in
    let same : to_z w64 (of_z w64 y) ≡ y = to_z-of_z w64 y c.ranges.year in
    let near : unsigned_abs y ≤ 9999 = let e = ap unsigned_abs same in omega (arith, c.unsigned_abs.ensures.value) in
    let ey : to_z w16 (of_z w16 (to_z w64 (of_z w64 y))) ≡ y = ap (λ (z : ℤ). to_z w16 (of_z w16 z)) same ∙ to_z-of_z w16 y (year_fits y near) in
    let em : to_z w8 c.args.month ≡ pos c.args.month = to_z_pos w8 c.args.month (omega arith) in
    let ed : to_z w8 c.args.day ≡ pos c.args.day = to_z_pos w8 c.args.day (omega arith) in
    no_number y c.args.month c.args.day (λ h. false≢true (c.in-Err.ensures.succeeds.1 (date_of_parts y (to_z w16 (of_z w16 (to_z w64 (of_z w64 y)))) c.args.month c.args.day (to_z w8 c.args.month) (to_z w8 c.args.day) ey em ed h)))
