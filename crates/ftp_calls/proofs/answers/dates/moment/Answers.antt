use Rattle.std.proofs.Common.{arith, w8, w16}
use Rattle.std.specs.Prelude.{pos}
use Rattle.std.proofs.lemmas.Bool.{false≢true}
use Rattle.std.proofs.lemmas.Int.{ints, to_z_pos}
use Rattle.ftp_calls.proofs.DateFacts.{no_moment, month_short, is_moment, moment_is}
use Rattle.ftp_calls.proofs.answers.dates.moment.Goals as goal

pub returns-in-Err : goal.returns-in-Err
returns-in-Err c =
    let a = c.args in
    no_moment a.year a.month a.day a.hour a.minute a.second
    (λ is. false≢true (c.in-Err.ensures.succeeds.1 (is_moment a.year a.month a.day a.hour a.minute a.second _ _ _ _ _ _
    (to_z_pos w16 a.year (omega arith)) (to_z_pos w8 a.month (omega arith)) (to_z_pos w8 a.day (omega arith))
    (to_z_pos w8 a.hour (omega arith)) (to_z_pos w8 a.minute (omega arith)) (to_z_pos w8 a.second (omega arith)) is)))

pub returns-in-Ok : goal.returns-in-Ok
returns-in-Ok c =
    let a = c.args in
    let date = c.in-Ok.ensures.value.0 in
    let time = c.in-Ok.ensures.value.1 in
    moment_is c.in-Ok.moment a.year a.month a.day a.hour a.minute a.second
    (omega (arith, ints, date.0)) (omega (arith, ints, date.1)) (omega (arith, ints, date.2))
    (omega (arith, ints, time.0)) (omega (arith, ints, time.1)) (omega (arith, ints, time.2)) (omega (arith, ints, time.3))

pub returns-then-year-gt9999 : goal.returns-then-year-gt9999
returns-then-year-gt9999 c =
    let a = c.args in
    no_moment a.year a.month a.day a.hour a.minute a.second
    (λ is. let (p, q, r, s, t, u, v, w) = is in let short = month_short (pos a.year) a.month in let either = c.then-year-gt9999.either in grind (arith, either))
