use Rattle.std.proofs.Common.{refl}
use Rattle.ftp_dialogue.proofs.Questioning.{builds_continues, connects_continues, met_continues, reached_fewer}
use Rattle.ftp_dialogue.proofs.negotiation.after_asking.Goals as goal

pub returns-in-PeerPort-Address : goal.returns-in-PeerPort-Address
returns-in-PeerPort-Address c = λ coding.
    rw (c.in-PeerPort-Address.is-0, c.in-PeerPort-Address.is-1, c.asks.ensures, c.at_port.ensures) (record { same = refl; begun = refl; fewer = reached_fewer c.args.turn; stage_of = (c.requires.opens, tt) })

pub returns-in-Connection-Outcome : goal.returns-in-Connection-Outcome
returns-in-Connection-Outcome c = λ coding.
    let fits = rw (c.in-Connection-Outcome.is-0, c.in-Connection-Outcome.is-1) at c.requires.fits in
    rw (c.in-Connection-Outcome.is-0, c.in-Connection-Outcome.is-1, c.connects.ensures, c.next_turn.ensures) (connects_continues coding _ c.requires.opens c.args.state.now c.args.turn c.in-Connection-Outcome.field-0-0 c.in-Connection-Outcome.outcome fits)

pub returns-in-Connection-Made : goal.returns-in-Connection-Made
returns-in-Connection-Made c = λ coding.
    let fits = rw (c.in-Connection-Made.is-0, c.in-Connection-Made.is-1) at c.requires.fits in
    rw (c.in-Connection-Made.is-0, c.in-Connection-Made.is-1, c.builds.ensures, c.next_turn-in-Connection-Made.ensures) (builds_continues coding _ c.requires.opens c.args.state.now c.args.turn c.in-Connection-Made.field-0-0 c.in-Connection-Made.fault fits)

pub returns-in-Accepting-Outcome : goal.returns-in-Accepting-Outcome
returns-in-Accepting-Outcome c = λ coding.
    let way = rw c.in-Accepting-Outcome.is-0 at c.requires.way in
    rw (c.in-Accepting-Outcome.is-0, c.in-Accepting-Outcome.is-1, c.met.ensures) (met_continues coding _ c.requires.opens c.args.state.now c.args.turn c.in-Accepting-Outcome.peer c.in-Accepting-Outcome.left c.in-Accepting-Outcome.opened c.in-Accepting-Outcome.outcome way)
