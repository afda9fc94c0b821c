use Rattle.std.proofs.Common.{◌≡◌, ◌≤◌, ◌-◌, ◌∙◌, length, vec_len, arith, rules}
use Rattle.std.proofs.lemmas.List.{places}
use Rattle.ftp_dialogue.proofs.GatheringLemmas.{grew_so}
use Rattle.ftp_dialogue.proofs.gathered.Gathered.read_more.Goals as goal

pub returns-in-Ok-Ok-Ready-clause-grows : goal.returns-in-Ok-Ok-Ready-clause-grows
returns-in-Ok-Ok-Ready-clause-grows g c =
    let holds = rw (c.in-Ok-Ok-Ready.is, c.in-Ok-Ok-Ready.field-0-is, c.in-Ok-Ok-Ready.field-0-0-is) at c.read_after.ensures.holds in
    let told = rw (c.in-Ok-Ok-Ready.is, c.in-Ok-Ok-Ready.field-0-is, c.in-Ok-Ok-Ready.field-0-0-is) at c.read_after.ensures.told in
    let len : vec_len c.read_after.new.buffer ≡ length c.read_after.new.buffer.items = search (rules, places) in
    let fits : c.in-Ok-Ok-Ready.count ≤ length c.read_after.new.buffer.items - c.self.inside.filled = omega (arith, holds, len) in
    let bound : c.in-Ok-Ok-Ready.count ≤ 65536 = omega (arith, holds, c.read_after.ensures.room) in
    grew_so g.Tr.Conn.Tells.tells c.read_after.new.buffer.items c.args.self.now c.self.inside.filled c.in-Ok-Ok-Ready.count _ _ (c.read_after.ensures.front ∙ c.self.view_is) (λ e. omega (arith, e, c.in-Ok-Ok-Ready.count-test)) bound fits told
