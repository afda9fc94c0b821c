use Rattle.std.proofs.Common.{sym, ◌∙◌, ◌^◌}
use Rattle.ftp_list.proofs.RowFacts.{positive, nothing}
use Rattle.ftp_list.proofs.NumberFacts.{decimal_empty, decimal_other, decimal_value}
use Rattle.ftp_list.proofs.numbers.decimal_of.Goals as goal
use Rattle.std.proofs.Common.{length}

pub returns : goal.returns
returns c =
    decimal_value (2 ^ 64) c.args.digits.now c.value_of.result (positive (length c.args.digits.now) (sym c.is_empty.ensures ∙ c.if-is_empty.false)) (sym c.has_all.ensures ∙ c.if-not-has_all.false) c.value_of.ensures

pub returns-then-is_empty : goal.returns-then-is_empty
returns-then-is_empty c =
    decimal_empty (2 ^ 64) c.args.digits.now (nothing (length c.args.digits.now) (sym c.is_empty.ensures ∙ c.if-is_empty.true))

pub returns-then-not-has_all : goal.returns-then-not-has_all
returns-then-not-has_all c = decimal_other (2 ^ 64) c.args.digits.now (sym c.has_all.ensures ∙ c.if-not-has_all.true)
