use Rattle.ftp_dialogue.specs.Coding.{coding_of}
use Rattle.ftp_dialogue.specs.Link.{Link, built_beside, built_by}
use Rattle.ftp_dialogue.specs.Steps.Moving.{Made}
use Rattle.ftp_dialogue.proofs.CarryingLemmas.{carried_made}
use Rattle.ftp_dialogue.proofs.DrainingLemmas.{local_undue, makes_undue}
use Rattle.ftp_session.proofs.session.making.make.Goals as goal

pub returns-then-is_local : goal.returns-then-is_local
returns-then-is_local g c =
    let link : Link = built_beside (built_by g.B.PassiveStreamBuilder.answers c.args.builder.now) g.Tr.Conn.Tells.secures g.Tr.Conn.Tells.tells g.Tr.Conn.Conn.blocking_read_faults g.Tr.Conn.Conn.blocking_write_faults g.Tr.Conn.Tells.end_faults ⊥ in
    let coding = coding_of g.E.Encoding.decoded g.E.Encoding.encoded c.args.encoding.now in
    let local = rw c.is_local.ensures at c.if-is_local.true in
    record { made = record { makes = makes_undue (Made link coding) c.args.call.now c.args.machine.now _ _ (local_undue c.args.call.now c.args.machine.now local) (carried_made link coding c.args.call.now _ _ _ c.local_call.ensures.carries) } }
