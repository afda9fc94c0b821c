use Rattle.std.proofs.Common.{◌≡◌, ◌∙◌, sym, subst, Ok, Err}
use Rattle.std.specs.Prelude.{Result}
use Rattle.ftp_base.specs.declared.types.fault.FtpError.{FtpError}
use Rattle.ftp_calls.specs.declared.call.Call.{Call}
use Rattle.ftp_calls.specs.declared.exchange.Turn.{Turn}
use Rattle.ftp_calls.specs.declared.exchange.Exchange.{Exchange}
use Rattle.ftp_calls.specs.declared.exchange.Row.TheVariants.{Exchanges}
use Rattle.ftp_dialogue.specs.declared.stage.Stage.{Stage}
use Rattle.ftp_dialogue.specs.Coding.{Coding, coding_of}
use Rattle.ftp_calls.specs.Exchanges.{row_of}
use Rattle.ftp_dialogue.specs.Steps.Stages.{Begins, FirstNode, NotBegun, TurnOf}
use Rattle.ftp_dialogue.proofs.Stages.{arming_begins, node_begins, resyncing_begins}
use Rattle.ftp_dialogue.proofs.stage.begin.Goals as goal

begins : (coding : Coding) (call : Call) (turn : Turn) (e : Exchange) (result : Result Stage FtpError) → row_of call turn ≡ Exchanges e → TurnOf call turn → FirstNode coding turn e result → Begins coding call turn result
begins coding call turn e (Ok stage) row read first = node_begins coding call turn e stage row read first
begins coding call turn e (Err fault) row read first = subst (λ r. NotBegun coding r fault) (sym row) first

pub returns-in-Exchanges : goal.returns-in-Exchanges
returns-in-Exchanges g c =
    let coding : Coding = coding_of g.E.Encoding.decoded g.E.Encoding.encoded c.args.encoding.now in
    begins coding c.args.call.now c.args.turn c.in-Exchanges.exchange c.first_node.result (sym c.in_ok-exchange.ensures.row_is ∙ c.in-Exchanges.is) c.requires c.first_node.ensures

pub returns-in-Arms : goal.returns-in-Arms
returns-in-Arms g c =
    let coding : Coding = coding_of g.E.Encoding.decoded g.E.Encoding.encoded c.args.encoding.now in
    arming_begins coding c.args.call.now c.args.turn c.in-Arms.offset (sym c.in_ok-exchange.ensures.row_is ∙ c.in-Arms.is) c.requires

pub returns-in-Resyncs : goal.returns-in-Resyncs
returns-in-Resyncs g c =
    let coding : Coding = coding_of g.E.Encoding.decoded g.E.Encoding.encoded c.args.encoding.now in
    resyncing_begins coding c.args.call.now c.args.turn (sym c.in_ok-exchange.ensures.row_is ∙ c.in-Resyncs.is) c.requires
