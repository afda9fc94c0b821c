use Rattle.std.proofs.Common.{ℕ, ◌≤◌, None, option_map, length, take, vec_capacity, zero}
use Rattle.ftp_dialogue.specs.Coding.{coding_of}
use Rattle.ftp_dialogue.specs.Steps.Polls.{StageIn}
use Rattle.ftp_dialogue.specs.Promises.{FailsWith}
use Rattle.ftp_runs.specs.Counting.{kept_in}
use Rattle.ftp_runs.proofs.EventCauses.{CountsTo}
use Rattle.ftp_runs.proofs.Scripts.{Happened}
use Rattle.ftp_runs.proofs.events.let_happen.Given as goal
use Rattle.ftp_dialogue.specs.Link.{built_by}

-- the events so far
abbrev pub invariant-loop-event : goal.invariant-loop-event
invariant-loop-event g l =
    record {
      stage : StageIn (option_map (λ c. c.now) l.under_way) l.stage;
      count : length l.answers.items ≤ l.event-index;
      fails : FailsWith l.fn.machine l.machine l.answers.items;
      room : length l.events ≤ vec_capacity l.answers;
      counts : CountsTo (built_by g.B.PassiveStreamBuilder.answers l.builder) None None (take l.event-index l.events) l.fn.machine l.machine l.answers.items (option_map (λ c. c.now) l.under_way) (kept_in (option_map (λ c. c.now) l.under_way) l.stage);
      so_far : (depth : ℕ) → Happened (built_by g.B.PassiveStreamBuilder.answers l.builder) (coding_of g.E.Encoding.decoded g.E.Encoding.encoded l.encoding) depth zero l.fn.machine (take l.event-index l.events) l.machine (option_map (λ c. c.now) l.under_way) l.stage l.course l.answers.items;
    }
