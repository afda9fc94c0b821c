use Rattle.std.proofs.Common.{◌<◌, length, sym, ◌∙◌}
use Rattle.ftp_list.proofs.EndFacts.{none_at_end, none_outside}
use Rattle.ftp_list.proofs.RowFacts.{positive, nothing}
use Rattle.ftp_list.proofs.ends.may_begin.Goals as goal

pub returns : goal.returns
returns c =
    let some_left : 0 < length c.args.text.now = positive (length c.args.text.now) (sym c.is_empty.ensures ∙ c.if-is_empty.false) in
    λ e. none_outside c.args.class c.args.text.now c.index-text-0.result some_left c.index-text-0.is (sym c.contains.ensures ∙ e)

pub returns-then-is_empty : goal.returns-then-is_empty
returns-then-is_empty c =
    λ e. none_at_end c.args.class c.args.text.now (nothing (length c.args.text.now) (sym c.is_empty.ensures ∙ c.if-is_empty.true))
