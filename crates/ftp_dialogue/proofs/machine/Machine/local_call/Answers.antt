use Rattle.std.proofs.Common.{inl}
use Rattle.ftp_dialogue.proofs.CarryingLemmas.{did_leave, did_read, did_set, did_write}
use Rattle.ftp_dialogue.proofs.machine.Machine.local_call.Goals as goal
use Rattle.ftp_dialogue.proofs.machine.Machine.local_call.Goals.{in-Set, in-Read, in-Write, in-Leave}

pub returns-in-Some : goal.returns-in-Some
returns-in-Some g c = record { carries = inl (c.refuse.ensures.refused c.in-Some.answer c.in-Some.is) }

pub returns : goal.returns
returns g c =
    let taken = c.refuse.ensures.taken c.in_default.is in
    record {
      carries = elim c.match-call.branch [
        | in-Set w ↦ did_set _ c.args.call.now w.in-Set.setting c.args.self.now c.refuse.new.self w.set-answer.new.self c.match-call.self c.let_go.new.self w.set-answer.result c.match-call.answer w.in-Set.is taken.0 taken.1 w.set-answer.ensures.sets w.self-is w.answer-is c.let_go.ensures
        | in-Read w ↦ did_read _ c.args.call.now w.in-Read.most c.args.self.now c.refuse.new.self w.read_data-answer.new.self c.match-call.self c.let_go.new.self w.read_data-answer.result c.match-call.answer w.in-Read.is taken.0 taken.1 w.read_data-answer.ensures.reads w.self-is w.answer-is c.let_go.ensures
        | in-Write w ↦ (let writes = rw w.as_slice.ensures at w.write_data-answer.ensures.writes in did_write _ c.args.call.now w.in-Write.bytes c.args.self.now c.refuse.new.self w.write_data-answer.new.self c.match-call.self c.let_go.new.self w.write_data-answer.result c.match-call.answer w.in-Write.is taken.0 taken.1 writes w.self-is w.answer-is c.let_go.ensures)
        | in-Leave w ↦ did_leave _ c.args.call.now c.args.self.now c.refuse.new.self w.leave_held-answer.new.self c.match-call.self c.let_go.new.self w.leave_held-answer.result c.match-call.answer w.in-Leave.is taken.0 taken.1 w.leave_held-answer.ensures.leaves w.self-is w.answer-is c.let_go.ensures
      ];
    }
