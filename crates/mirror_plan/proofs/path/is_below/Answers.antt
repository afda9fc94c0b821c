use Rattle.std.proofs.Common.{◌≡◌, ◌&&◌, true, false, length, nat_lt, bytes_eq, sym, ap, ◌∙◌, arith}
use Rattle.std.specs.List.{starts_with}
use Rattle.std.proofs.lemmas.Bool.Decides.{nat_tests}
use Rattle.mirror_plan.proofs.PathFacts.{is_below-is}
use Rattle.mirror_plan.proofs.path.is_below.Goals as goal

pub returns-then-folder-path : goal.returns-then-folder-path
returns-then-folder-path c =
    let longer : nat_lt (length c.args.folder.now) (length c.args.path.now) ≡ true = grind (arith, nat_tests) in
    c.starts_with.ensures.value ∙ (sym (ap (λ b. b && starts_with bytes_eq c.args.path.now c.args.folder.now) longer) ∙ is_below-is c.args.path.now c.args.folder.now)

pub returns-else-folder-path : goal.returns-else-folder-path
returns-else-folder-path c =
    let no : nat_lt (length c.args.folder.now) (length c.args.path.now) ≡ false = grind (arith, nat_tests) in
    no ∙ (sym (ap (λ b. b && starts_with bytes_eq c.args.path.now c.args.folder.now) no) ∙ is_below-is c.args.path.now c.args.folder.now)
