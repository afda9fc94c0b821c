use Rattle.std.proofs.Common.{◌≡◌, ◌++◌, length}
use Rattle.ftp_script.specs.Shown.{exchanged_text, sent_lines}
use Rattle.ftp_script.proofs.shown.push_exchanged.Given as goal

abbrev pub invariant-loop-rest : goal.invariant-loop-rest
invariant-loop-rest l = l.text.items ++ exchanged_text (sent_lines l.rest) l.asked ≡ l.fn.text.items ++ exchanged_text (sent_lines l.sent) l.fn.asked

abbrev pub decreases-loop-rest : goal.decreases-loop-rest
decreases-loop-rest l = length l.rest
