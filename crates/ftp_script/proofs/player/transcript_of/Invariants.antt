use Rattle.std.proofs.Common.{◌≡◌, ◌∷◌, [], map, take, None}
use Rattle.ftp_calls.specs.declared.call.Call.TheVariants.{Greet}
use Rattle.ftp_transport.specs.Memory.{fresh_between, unspecified}
use Rattle.ftp_dialogue.specs.NetEvents.{first_net}
use Rattle.ftp_dialogue.specs.State.{SessionValue, Begins}
use Rattle.ftp_dialogue.specs.Dialogue.{rule_by}
use Rattle.ftp_script.specs.Playing.{giving, Makes, server_address, supply_of}
use Rattle.ftp_script.proofs.player.transcript_of.Given as goal

abbrev pub invariant-loop-call : goal.invariant-loop-call
invariant-loop-call l = record {
  encoding : l.session.encoding.0 ≡ None;
  builder : l.session.builder ≡ None;
  mark : l.session.mark ≡ None;
  made : (begun : SessionValue) × Begins (Unit {0}) (rule_by l.script.lenient) (giving l.script.server (fresh_between unspecified server_address)) (first_net [] (map supply_of l.script.data_conns) []) begun × Makes (Greet ∷ take l.call-index l.script.calls) begun l.session.machine l.text.items;
}
