use Rattle.std.specs.Prelude.{pos}
use Rattle.ftp_list.proofs.DateFacts.{no_number, year_far}
use Rattle.ftp_list.proofs.times.day_in.Goals as goal

pub returns-then-year-gt9999-clause-value : goal.returns-then-year-gt9999-clause-value
returns-then-year-gt9999-clause-value c =
    no_number (pos c.args.year) c.args.month c.args.day (λ h. year_far (pos c.args.year) c.if-year-gt9999.true h.0)
