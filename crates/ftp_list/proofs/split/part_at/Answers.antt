use Rattle.std.proofs.Common.{get_or, take, sym, ap, ◌∙◌}
use Rattle.ftp_list.proofs.StartFacts.{part_there, part_past}
use Rattle.ftp_list.proofs.split.part_at.Goals as goal

pub returns-then-k-lengths : goal.returns-then-k-lengths
returns-then-k-lengths c =
    c.front.ensures
    ∙ ap (take (get_or c.args.lengths.now c.args.k 0)) c.rest.ensures
    ∙ sym (part_there c.args.starts.now c.args.lengths.now c.args.text.now c.args.k 0 c.requires.starts c.if-k-lengths.true c.requires.known)

pub returns-else-k-lengths : goal.returns-else-k-lengths
returns-else-k-lengths c =
    c.front-else-k-lengths.ensures ∙ sym (part_past c.args.k c.args.lengths.now c.args.text.now c.if-k-lengths.false)
