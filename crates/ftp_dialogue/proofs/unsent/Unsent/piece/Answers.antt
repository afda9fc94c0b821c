use Rattle.std.proofs.Common.{◌≡◌, ◌-◌, ◌∙◌, ap, drop, length, take}
use Rattle.std.proofs.lemmas.List.{take_rest}
use Rattle.ftp_dialogue.specs.Sending.{on_wire}
use Rattle.ftp_dialogue.proofs.UnsentLemmas.{length_some, piece_front, piece_within}
use Rattle.ftp_dialogue.proofs.unsent.Unsent.piece.Goals as goal

pub returns-else-is_lacking-clause-front : goal.returns-else-is_lacking-clause-front
returns-else-is_lacking-clause-front c =
    let here = c.self.inside in
    let all = c.as_slice.result.now in
    let part = take (length all - here.next) (drop here.next all) in
    let rest : part ≡ drop here.next here.bytes = take_rest all here.next ∙ ap (drop here.next) c.as_slice.ensures in
    piece_front here.text here.after_return part c.plain_front.result c.args.self.now (ap (on_wire here.text here.after_return) rest ∙ c.self.view_is) (length_some part c.if-is_empty.ensures) c.plain_front.ensures.within c.if-is_lacking.ensures c.plain_front.ensures.plain

pub returns-else-is_lacking-clause-within : goal.returns-else-is_lacking-clause-within
returns-else-is_lacking-clause-within c =
    let here = c.self.inside in
    let all = c.as_slice.result.now in
    let part = take (length all - here.next) (drop here.next all) in
    let rest : part ≡ drop here.next here.bytes = take_rest all here.next ∙ ap (drop here.next) c.as_slice.ensures in
    piece_within here.text here.after_return part c.plain_front.result c.args.self.now (ap (on_wire here.text here.after_return) rest ∙ c.self.view_is) c.plain_front.ensures.within
