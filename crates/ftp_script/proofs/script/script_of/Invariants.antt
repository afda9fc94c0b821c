use Rattle.std.proofs.Common.{◌≡◌, ◌≤◌, ◌+◌, length}
use Rattle.ftp_script.specs.Script.{lines_of, script_from, script_of}
use Rattle.ftp_script.proofs.Reading.{after}
use Rattle.ftp_script.proofs.script.script_of.Given as goal

abbrev pub invariant-loop-line : goal.invariant-loop-line
invariant-loop-line l = record {
  read : script_of l.text ≡ after l.server.items l.data_conns.items l.calls.items l.lenient (script_from l.number (lines_of l.rest));
  counted : l.number + length l.rest ≤ length l.text + 1;
}

abbrev pub decreases-loop-line : goal.decreases-loop-line
decreases-loop-line l = length l.rest
