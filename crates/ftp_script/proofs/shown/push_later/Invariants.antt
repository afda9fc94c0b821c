use Rattle.std.proofs.Common.{◌≡◌, ◌++◌}
use Rattle.std.specs.List.{flat_map}
use Rattle.ftp_base.specs.Features.{shown as entries}
use Rattle.ftp_script.specs.Shown.{later_text}
use Rattle.ftp_script.proofs.shown.push_later.Given as goal

abbrev pub invariant-loop-name : goal.invariant-loop-name
invariant-loop-name l = l.text.items ++ flat_map later_text (entries l.others) ≡ l.fn.text.items ++ flat_map later_text (entries l.fn.others)
