-- Lemmas on a call of a script whose answer is discarded.
use Rattle.std.proofs.Common.{◌≡◌, true, false, Some, None, List, [], ◌∷◌, ◌++◌, inl, inr, refl, ap, ◌∙◌, append_assoc}
use Rattle.futures.specs.declared.task.Poll.TheVariants.{Ready}
use Rattle.ftp_calls.specs.declared.call.Answer.{Answer}
use Rattle.ftp_calls.specs.declared.call.Call.{Call}
use Rattle.ftp_calls.specs.declared.exchange.Turn.TheVariants.{First}
use Rattle.ftp_dialogue.specs.Coding.{Coding}
use Rattle.ftp_dialogue.specs.NetEvents.{outcomes_of}
use Rattle.ftp_dialogue.specs.Dialogue.{dialogue, entered}
use Rattle.ftp_dialogue.specs.Link.{Builds, over_memory}
use Rattle.ftp_dialogue.specs.Play.{Taken}
use Rattle.ftp_dialogue.specs.Promises.{begun_by, refusal_of, play_state}
use Rattle.ftp_runs.specs.Runs.{before_all}
use Rattle.ftp_dialogue.specs.Resuming.{Resumes, Silent, modes_of}
use Rattle.ftp_runs.specs.Script.{hidden_to, polled_as, run_with, start_of, with_call}
use Rattle.ftp_runs.specs.Scripted.{Stands}
use Rattle.ftp_dialogue.specs.State.{SessionValue}
use Rattle.ftp_dialogue.specs.declared.model.NetOutcome.{NetOutcome}
use Rattle.ftp_runs.specs.declared.model.Item.TheVariants.{Shown, Hidden}
use Rattle.ftp_runs.specs.declared.model.Ran.TheVariants.{Finished}
use Rattle.ftp_runs.specs.declared.model.Script.{Script}
use Rattle.ftp_dialogue.specs.declared.model.PlayState.{PlayState}
use Rattle.ftp_dialogue.specs.declared.stage.Stage.{Stage}
use Rattle.ftp_dialogue.specs.declared.stage.Stage.TheVariants.{At}
use Rattle.ftp_runs.specs.Following.{Follows, Place, PollsHere}
use Rattle.ftp_runs.proofs.Carried.{Carried, outcomes_on}
use Rattle.ftp_dialogue.proofs.CarryingLemmas.{taken_plays}
use Rattle.ftp_runs.proofs.Following.{carry, done_with, here, ran_done, reaches_stands, stands_reaches}
use Rattle.ftp_dialogue.proofs.Moving.{Finishes, fitted, goes_after}
use Rattle.ftp_dialogue.proofs.Hearing.{begun_resumes}
use Rattle.ftp_runs.proofs.Replay.{hidden_on}

-- the call is over
module _ (builds : Builds) (coding : Coding) (outcomes left : List NetOutcome) (hidden : Call) (answer : Answer) (old : SessionValue) (s : Script) (v w : SessionValue) (at : Stage) (answers : List Answer) (ends : Finishes (over_memory builds) (dialogue coding hidden v.state) answer (begun_by hidden v) w) (d : Follows builds coding outcomes (outcomes_of ends.answered ++ left) old (with_call hidden s) v (Some hidden) (At First) answers) (takes : refusal_of hidden v ≡ Taken) (resumes : Resumes (modes_of v) v.channel.kept (dialogue coding hidden v.state)) (polled : PollsHere builds coding hidden (At First) at v w (Ready answer)) where
  pub carried : Carried builds v w ends.came ends.answered
  carried = carry builds coding outcomes ends.came ends.answered v w hidden (At First) at (Ready answer) d.sound polled ends.goes

  stands : Stands coding old s.items d.came d.answered v s.answers
  stands = go d.place
    where
      go : Place coding old (with_call hidden s) d.came d.answered v (Some hidden) (At First) → Stands coding old s.items d.came d.answered v s.answers
      go (inl started) = started.stands
      go (inr (inl u)) = let clash : false ≡ true = u.polled in cc
      go (inr (inr u)) = let clash : false ≡ true = u.polled in cc

  shown : Stands coding old (s.items ++ Shown hidden ∷ []) (d.came ++ ends.came) (d.answered ++ ends.answered) w (s.answers ++ answer ∷ [])
  shown = reaches_stands builds coding outcomes old (begun_by hidden v) w s.items d.came d.answered s.answers hidden (dialogue coding hidden v.state) answer (stands_reaches builds coding outcomes old v s.items d.came d.answered s.answers hidden takes stands) ends (begun_resumes hidden v (dialogue coding hidden v.state) resumes)

  hides : Stands coding old (s.items ++ Hidden hidden ∷ []) (d.came ++ ends.came) (d.answered ++ ends.answered) w s.answers
  hides = λ later room more ended outcomes' fit on.
      let plays = taken_plays coding room hidden v (ends.came ++ more) ended (outcomes_of ends.answered ++ outcomes') takes ∙ ends.plays tt (begun_resumes hidden v (dialogue coding hidden v.state) resumes) room more ended outcomes' fit on in
      rw (append_assoc s.items (Hidden hidden ∷ []) later, append_assoc d.came ends.came more, outcomes_on d.answered ends.answered outcomes')
      (stands (Hidden hidden ∷ later) room (ends.came ++ more) ended (outcomes_of ends.answered ++ outcomes') (fitted room _ _ (ends.goes.sent tt) fit) (goes_after v.channel.ended ends.came more w.channel.ended ended ends.goes.over on)
      ∙ ap (before_all s.answers) (hidden_on coding room hidden later (play_state v (ends.came ++ more) ended (outcomes_of ends.answered ++ outcomes')) (play_state w more ended outcomes') answer plays))

  abbrev pub there : PlayState
  there = here builds coding outcomes left ends.answered old (with_call hidden s) v w hidden (At First) answers d ends.came carried

  abbrev pub done : Script
  done = polled_as (Finished (s.answers ++ answer ∷ []) there) hidden (with_call hidden s)

  pub hidden_ran : run_with coding (start_of old outcomes) hidden (with_call hidden s) ≡ Finished (s.answers ++ answer ∷ []) there
  hidden_ran = ran_done builds coding outcomes left ends.answered old (with_call hidden s) v w hidden (At First) answers d ends.came carried answer shown

  -- the call that is under way then wasn't polled
  pub hidden_before : (call : Call) → Follows builds coding outcomes left old (hidden_to hidden (Some call) s done) w (Some call) (At First) answers
  hidden_before call = done_with builds coding outcomes left ends.answered old (with_call hidden s) v w hidden (At First) answers d ends.came carried (Silent (entered hidden v.state) w.state (dialogue coding hidden v.state)) (At First) (s.answers ++ answer ∷ []) (s.items ++ Hidden hidden ∷ []) s.answers answers (Some call) (inl (record { at = refl; unpolled = refl; unheard = refl; stands = hides })) d.answers_are ends.shrinks ends.keeps

  -- no call is under way then
  pub hidden_alone : (stage : Stage) → Follows builds coding outcomes left old (hidden_to hidden None s done) w None stage answers
  hidden_alone stage = done_with builds coding outcomes left ends.answered old (with_call hidden s) v w hidden (At First) answers d ends.came carried (Silent (entered hidden v.state) w.state (dialogue coding hidden v.state)) stage (s.answers ++ answer ∷ []) (s.items ++ Hidden hidden ∷ []) s.answers answers None hides d.answers_are ends.shrinks ends.keeps
