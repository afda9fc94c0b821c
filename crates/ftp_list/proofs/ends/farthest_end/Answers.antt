use Rattle.std.proofs.Common.{◌≡◌, drop, ap, ◌∙◌}
use Rattle.std.specs.List.{prefix_len}
use Rattle.ftp_list.specs.Shapes.{is_in}
use Rattle.ftp_list.proofs.EndFacts.{far_one, far_any}
use Rattle.ftp_list.proofs.ends.farthest_end.Goals as goal

pub returns-in-OneOrMore-clause-farthest : goal.returns-in-OneOrMore-clause-farthest
returns-in-OneOrMore-clause-farthest c =
    let run : c.run.result ≡ prefix_len (is_in c.in-OneOrMore.class) (drop c.args.last c.args.text.now) = c.run.ensures.value ∙ ap (prefix_len (is_in c.in-OneOrMore.class)) c.rest.ensures in
    rw c.in-OneOrMore.is (far_one c.in-OneOrMore.class c.args.text.now c.args.last c.run.result run)

pub returns-in-AnyNumber-clause-farthest : goal.returns-in-AnyNumber-clause-farthest
returns-in-AnyNumber-clause-farthest c =
    let run : c.run-in-AnyNumber.result ≡ prefix_len (is_in c.in-AnyNumber.class) (drop c.args.last c.args.text.now) = c.run-in-AnyNumber.ensures.value ∙ ap (prefix_len (is_in c.in-AnyNumber.class)) c.rest-in-AnyNumber.ensures in
    rw c.in-AnyNumber.is (far_any c.in-AnyNumber.class c.args.text.now c.args.last c.run-in-AnyNumber.result run)
