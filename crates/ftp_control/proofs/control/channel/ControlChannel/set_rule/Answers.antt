use Rattle.std.proofs.Common.{rules, ◌≡◌, length}
use Rattle.std.proofs.lemmas.List.{nil_from_length}
use Rattle.ftp_control.proofs.Channels.{rule_holds}
use Rattle.ftp_control.proofs.control.channel.ControlChannel.set_rule.Goals as goal

pub invariant_of-self : goal.invariant_of-self
invariant_of-self g c =
    let none : length c.self.inside.reply.bytes.items ≡ 0 = search rules in
    rule_holds _ _ _ _ _ _ _ _ _ _ _ _ (nil_from_length _ none) c.self.invariant

pub returns-then-is_empty-clause-sound : goal.returns-then-is_empty-clause-sound
returns-then-is_empty-clause-sound g c =
    let none : length c.self.inside.reply.bytes.items ≡ 0 = search rules in
    (rule_holds _ _ _ _ _ _ _ _ _ _ _ _ (nil_from_length _ none) c.self.invariant).sound
