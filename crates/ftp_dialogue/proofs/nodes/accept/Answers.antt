use Rattle.ftp_dialogue.specs.Coding.{coding_of}
use Rattle.ftp_dialogue.proofs.nodes.accept.Goals as goal

pub returns-in-Greets-clause-accepts : goal.returns-in-Greets-clause-accepts
returns-in-Greets-clause-accepts g c = rw c.in-Greets.is c.greeted.ensures.accepts

pub returns-in-GoesOn-clause-accepts : goal.returns-in-GoesOn-clause-accepts
returns-in-GoesOn-clause-accepts g c = rw c.in-GoesOn.is (c.goes_on.ensures.accepts (coding_of g.E.Encoding.decoded g.E.Encoding.encoded c.args.encoding.now) c.args.state.now)

pub returns-in-GivesAddress-clause-accepts : goal.returns-in-GivesAddress-clause-accepts
returns-in-GivesAddress-clause-accepts g c = rw c.in-GivesAddress.is (c.address_told.ensures.accepts (coding_of g.E.Encoding.decoded g.E.Encoding.encoded c.args.encoding.now))

pub returns-in-GivesPort-clause-accepts : goal.returns-in-GivesPort-clause-accepts
returns-in-GivesPort-clause-accepts g c = rw c.in-GivesPort.is (c.port_told.ensures.accepts (coding_of g.E.Encoding.decoded g.E.Encoding.encoded c.args.encoding.now) c.args.state.now)

pub returns-in-Opens-clause-accepts : goal.returns-in-Opens-clause-accepts
returns-in-Opens-clause-accepts g c = rw c.in-Opens.is (c.opens.ensures.accepts (coding_of g.E.Encoding.decoded g.E.Encoding.encoded c.args.encoding.now))

pub returns-in-Performs-clause-accepts : goal.returns-in-Performs-clause-accepts
returns-in-Performs-clause-accepts g c = rw c.in-Performs.is (c.performs.ensures.accepts (coding_of g.E.Encoding.decoded g.E.Encoding.encoded c.args.encoding.now) c.args.reply)

pub returns-in-Finishes-clause-accepts : goal.returns-in-Finishes-clause-accepts
returns-in-Finishes-clause-accepts g c = rw c.in-Finishes.is (c.finished.ensures.accepts (coding_of g.E.Encoding.decoded g.E.Encoding.encoded c.args.encoding.now) c.args.reply)

pub returns-in-Stops-clause-accepts : goal.returns-in-Stops-clause-accepts
returns-in-Stops-clause-accepts g c = rw c.in-Stops.is (c.aborted.ensures.accepts (coding_of g.E.Encoding.decoded g.E.Encoding.encoded c.args.encoding.now))
