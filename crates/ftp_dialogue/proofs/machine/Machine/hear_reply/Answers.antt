use Rattle.std.proofs.Common.{inl}
use Rattle.ftp_dialogue.specs.declared.stage.Stage.TheVariants.{Hearing}
use Rattle.ftp_dialogue.specs.Dialogue.{Leaf}
use Rattle.ftp_calls.specs.declared.call.Answer.TheVariants.{Unit}
use Rattle.ftp_dialogue.specs.Coding.{coding_of}
use Rattle.ftp_dialogue.specs.Link.{built_beside}
use Rattle.ftp_dialogue.specs.Dialogue.{concluded, later}
use Rattle.ftp_dialogue.proofs.Faults.{fault_answers}
use Rattle.ftp_dialogue.proofs.Moving.{rests_untouched}
use Rattle.ftp_dialogue.proofs.TransitionsLemmas.{accepted_begins, begun_is_quiet, concludes, fault_awaited}
use Rattle.ftp_dialogue.proofs.machine.Machine.hear_reply.Goals as goal

pub returns-in-Ready-Ok-clause-makes : goal.returns-in-Ready-Ok-clause-makes
returns-in-Ready-Ok-clause-makes g c =
    let coding = coding_of g.E.Encoding.decoded g.E.Encoding.encoded c.args.encoding.now in
    let heard = rw (c.in-Ready-Ok.is, c.in-Ready-Ok.field-0-is) at c.hear_codes.ensures.hears in
    let accepts = heard (concluded coding c.args.awaits.ending c.args.self.now.state (later coding c.args.call.now c.args.awaits.turn)) in
    record {
      steps = concludes _ coding c.args.call.now c.args.awaits _ _ _ _ _ _ c.requires.going accepts.0 accepts.1 c.accept_reply.ensures.concludes;
      quiet = begun_is_quiet (built_beside (g.A.DataPath.builds c.args.data_path.now) g.Tr.Conn.Tells.secures g.Tr.Conn.Tells.tells g.Tr.Conn.PollConn.read_faults g.Tr.Conn.PollConn.write_faults g.Tr.Conn.Tells.end_faults g.A.DataPath.may_wait) coding c.args.call.now (Hearing c.args.awaits) c.accept_reply.new.stage c.args.self.now c.accept_reply.new.self c.accept_reply.result c.accept_reply.ensures.goes_on;
      begun = accepted_begins (built_beside (g.A.DataPath.builds c.args.data_path.now) g.Tr.Conn.Tells.secures g.Tr.Conn.Tells.tells g.Tr.Conn.PollConn.read_faults g.Tr.Conn.PollConn.write_faults g.Tr.Conn.Tells.end_faults g.A.DataPath.may_wait) coding c.args.call.now c.args.awaits _ _ c.args.self.now c.hear_codes.new.self _ _ accepts.1 c.accept_reply.ensures.goes_on c.accept_reply.ensures.concludes;
      answers = c.accept_reply.ensures.answers;
      fewer = c.accept_reply.ensures.fewer;
      stage_of = c.accept_reply.ensures.stage;
    }

pub returns-in-Ready-Err-clause-makes : goal.returns-in-Ready-Err-clause-makes
returns-in-Ready-Err-clause-makes g c =
    let coding = coding_of g.E.Encoding.decoded g.E.Encoding.encoded c.args.encoding.now in
    let heard = rw (c.in-Ready-Err.is, c.in-Ready-Err.field-0-is) at c.hear_codes.ensures.hears in
    let next = concluded coding c.args.awaits.ending c.args.self.now.state (later coding c.args.call.now c.args.awaits.turn) in
    record {
      steps = fault_awaited _ coding c.args.call.now c.args.awaits c.in-Ready-Err.fault c.end_dialogue.result c.args.self.now c.hear_codes.new.self c.end_dialogue.new.self c.requires.going c.end_dialogue.ensures (heard next);
      quiet = tt;
      begun = tt;
      answers = fault_answers c.args.call.now c.args.awaits.turn c.args.awaits.ending c.args.awaits.begun c.in-Ready-Err.fault c.hear_codes.new.self c.end_dialogue.new.self c.end_dialogue.result c.requires.stage.0 c.requires.stage.2 c.end_dialogue.ensures;
      fewer = λ is. cc;
      stage_of = tt;
    }

pub returns-in-Pending-clause-makes : goal.returns-in-Pending-clause-makes
returns-in-Pending-clause-makes g c =
    let coding = coding_of g.E.Encoding.decoded g.E.Encoding.encoded c.args.encoding.now in
    let heard = rw c.in-Pending.is at c.hear_codes.ensures.hears in
    let waits = heard (concluded coding c.args.awaits.ending c.args.self.now.state (later coding c.args.call.now c.args.awaits.turn)) in
    rw c.go_to.ensures (record {
      steps = (waits.0, waits.1);
      quiet = tt;
      begun = (λ has. inl has, λ none. (none, rests_untouched (built_beside (g.A.DataPath.builds c.args.data_path.now) g.Tr.Conn.Tells.secures g.Tr.Conn.Tells.tells g.Tr.Conn.PollConn.read_faults g.Tr.Conn.PollConn.write_faults g.Tr.Conn.Tells.end_faults g.A.DataPath.may_wait) c.args.self.now c.hear_codes.new.self waits.2));
      answers = tt;
      fewer = λ is. cc;
      stage_of = c.requires.stage;
    })

pub returns-in-Pending-clause-rests : goal.returns-in-Pending-clause-rests
returns-in-Pending-clause-rests g c = λ waits.
    let heard = rw c.in-Pending.is at c.hear_codes.ensures.hears in
    (heard (concluded (coding_of g.E.Encoding.decoded g.E.Encoding.encoded c.args.encoding.now) c.args.awaits.ending c.args.self.now.state (λ s. Leaf Unit s))).2
