-- Lemmas on polls of a call: one that isn't refused goes on.
use Rattle.std.proofs.Common.{◌≡◌, true, false, ◌⊎◌, subst}
use Rattle.futures.specs.declared.task.Poll.{Poll}
use Rattle.futures.specs.declared.task.Poll.TheVariants.{Pending}
use Rattle.ftp_transport.specs.Told.{EndsAsTold}
use Rattle.ftp_calls.specs.declared.call.Answer.{Answer}
use Rattle.ftp_calls.specs.declared.call.Call.{Call}
use Rattle.ftp_calls.specs.Exchanges.{is_read}
use Rattle.ftp_dialogue.specs.declared.stage.Stage.{Stage}
use Rattle.ftp_dialogue.specs.Coding.{Coding}
use Rattle.ftp_dialogue.specs.Link.{Link}
use Rattle.ftp_dialogue.specs.Promises.{HasFault, Rests}
use Rattle.ftp_dialogue.specs.State.{SessionValue}
use Rattle.ftp_dialogue.specs.Steps.Polls.{MayPollAt, PollsOn, entered_at, entered_state, entered_tree, polled_answer}
use Rattle.ftp_dialogue.specs.Steps.Moving.{HasBegun, PollsTo}
use Rattle.ftp_dialogue.specs.Steps.Stages.{begun_at, remaining}

-- a call that isn't refused goes on, in a session that is known by an equation
pub starts_on : (link : Link) (may_wait : Type 0) (coding : Coding) (call : Call) (stage stage' : Stage) (v mid w : SessionValue) (result : Poll Answer) → MayPollAt stage call v → v.channel.failed ≡ false → mid ≡ v → PollsTo link (begun_at stage) (entered_tree coding call stage mid.state) (remaining coding call (entered_state call stage mid.state) stage') (entered_at call stage mid) w result → (result ≡ Pending → is_read call ≡ true → Rests link mid w) → (result ≡ Pending → HasBegun link (begun_at stage) (begun_at stage') (entered_tree coding call stage mid.state) (entered_at call stage mid) w) → (w.channel.failed ≡ true → (mid.channel.failed ≡ true) ⊎ HasFault (polled_answer result)) → (link.tells → may_wait → EndsAsTold mid.channel.ended w.channel.ended mid.channel.told) → PollsOn link may_wait coding call stage stage' v w result
starts_on link may_wait coding call stage stage' v mid w result may going same polls rests begun fails end =
    let P : SessionValue → Type 0 = λ x. PollsTo link (begun_at stage) (entered_tree coding call stage x.state) (remaining coding call (entered_state call stage x.state) stage') (entered_at call stage x) w result in
    let R : SessionValue → Type 0 = λ x. result ≡ Pending → is_read call ≡ true → Rests link x w in
    let B : SessionValue → Type 0 = λ x. result ≡ Pending → HasBegun link (begun_at stage) (begun_at stage') (entered_tree coding call stage x.state) (entered_at call stage x) w in
    let F : SessionValue → Type 0 = λ x. w.channel.failed ≡ true → (x.channel.failed ≡ true) ⊎ HasFault (polled_answer result) in
    let E : SessionValue → Type 0 = λ x. link.tells → may_wait → EndsAsTold x.channel.ended w.channel.ended x.channel.told in
    record { may = may; going = going; polls = subst P same polls; rests = subst R same rests; begun = subst B same begun; fails = subst F same fails; end = subst E same end }
