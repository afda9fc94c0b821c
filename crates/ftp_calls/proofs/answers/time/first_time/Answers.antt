use Rattle.std.proofs.Common.{◌∙◌}
use Rattle.ftp_calls.proofs.TimeFacts.{no_timestamp, time_read}
use Rattle.ftp_calls.proofs.answers.time.first_time.Goals as goal

pub returns-in_err-year : goal.returns-in_err-year
returns-in_err-year c = c.from_residual.ensures ∙ no_timestamp c.args.text.now c.in_err-year.ensures

pub returns : goal.returns
returns c =
    c.moment.ensures
    ∙ time_read c.args.text.now c.in_ok-year.field-0 c.part.result c.part-2.result c.part-3.result c.part-4.result c.part-5.result c.part-6.result c.in_ok-year.ensures
    c.part.ensures c.part-2.ensures c.part-3.ensures c.part-4.ensures c.part-5.ensures c.part-6.ensures
