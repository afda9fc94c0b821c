use Rattle.std.proofs.Common.{◌≡◌, ◌≤◌, length, take, ap, ◌∙◌}
use Rattle.std.specs.List.{prefix_len}
use Rattle.ftp_list.specs.Shapes.{is_in}
use Rattle.ftp_list.proofs.ReachFacts.{longest_between_is, longest_between_none}
use Rattle.ftp_list.proofs.reach.longest_between.Goals as goal

pub returns-then-least-count : goal.returns-then-least-count
returns-then-least-count c =
    let front = take c.args.most c.args.text.now in
    let value : c.run-count.result ≡ prefix_len (is_in c.args.class) front = c.run-count.ensures.value ∙ ap (prefix_len (is_in c.args.class)) c.front.ensures in
    let bound : c.run-count.result ≤ length front = rw c.front.ensures at c.run-count.ensures.bound in
    longest_between_is c.args.class c.args.least c.args.most c.args.text.now c.run-count.result value bound c.if-least-count.true

pub returns-else-least-count : goal.returns-else-least-count
returns-else-least-count c =
    let front = take c.args.most c.args.text.now in
    let value : c.run-count.result ≡ prefix_len (is_in c.args.class) front = c.run-count.ensures.value ∙ ap (prefix_len (is_in c.args.class)) c.front.ensures in
    longest_between_none c.args.class c.args.least c.args.most c.args.text.now c.run-count.result value c.if-least-count.false
