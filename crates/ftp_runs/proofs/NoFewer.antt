-- No failure that was counted is forgotten.
use Rattle.std.proofs.Common.{◌≡◌, ◌⊎◌, ◌<◌, Bool, true, false, Result, Ok, Err, inl, inr, ap, arith}
use Rattle.std.specs.declared.io.ErrorKind.{ErrorKind}
use Rattle.futures.specs.declared.task.Poll.{Poll}
use Rattle.futures.specs.declared.task.Poll.TheVariants.{Ready, Pending}
use Rattle.ftp_base.specs.declared.types.fault.FtpError.{FtpError}
use Rattle.ftp_base.specs.declared.types.fault.FtpError.TheVariants.{OutOfMemory}
use Rattle.ftp_base.specs.declared.types.reply.Response.{Response}
use Rattle.ftp_transport.specs.Told.{HasFailed, Told}
use Rattle.ftp_calls.specs.Exchanges.{finishes}
use Rattle.ftp_calls.specs.declared.call.Answer.{Answer}
use Rattle.ftp_calls.specs.declared.call.Call.{Call}
use Rattle.ftp_dialogue.specs.Coding.{Coding}
use Rattle.ftp_dialogue.specs.Dialogue.{Expected, Tree}
use Rattle.ftp_dialogue.specs.Link.{Builds, Link, over_memory}
use Rattle.ftp_dialogue.specs.Play.{Failing, Lacking, Refusal, Taken}
use Rattle.ftp_dialogue.specs.Promises.{Aborts, Fails, FailsRead, LacksMemory, LeavesIf, Reads, Refuses, Touched, Untouched, failed_from, lacking_at, refusal_of}
use Rattle.ftp_dialogue.specs.State.{LetsGoBeside, SessionValue}
use Rattle.ftp_dialogue.specs.Steps.Moving.{Ends, PollsTo}
use Rattle.ftp_dialogue.specs.Steps.Polls.{RefusesFrom, StartsTo, entered_at, entered_state, entered_tree, is_first}
use Rattle.ftp_dialogue.specs.Steps.Stages.{begun_at, remaining}
use Rattle.ftp_dialogue.specs.declared.stage.Stage.{Stage}
use Rattle.ftp_dialogue.specs.declared.state.Owed.{Owed}
use Rattle.ftp_dialogue.specs.declared.state.Owed.TheVariants as owed
use Rattle.ftp_runs.specs.Counting.{NoFewer}

pub as_many : (t u : Told) → u.failures ≡ t.failures → NoFewer t u
as_many t u is = inl (omega (arith, is))

pub no_fewer_on : (t u x : Told) → NoFewer t u → NoFewer u x → NoFewer t x
no_fewer_on t u x (inl one) (inl other) = inl (omega (arith, one, other))
no_fewer_on t u x (inr most) (inl other) = inr (omega (arith, most, other))
no_fewer_on t u x (inl one) (inr most) = inr most
no_fewer_on t u x (inr one) (inr most) = inr most

one_more : (kind : ErrorKind) (t u : Told) → HasFailed kind t u → NoFewer t u
one_more kind t u failed = go failed.counts.0
  where
    go : (t.failures < u.failures) ⊎ (u.failures ≡ 18446744073709551615) → NoFewer t u
    go (inl more) = inl (omega (arith, more))
    go (inr most) = inr (omega (arith, most))

pub aborts_no_fewer : (link : Link) (begun : Bool) (tree : Tree) (answer : Answer) (old new : SessionValue) → link.tells → Aborts link begun tree answer old new → NoFewer old.channel.told new.channel.told
aborts_no_fewer link begun tree answer old new h aborts = no_fewer_on old.channel.told aborts.at.channel.told new.channel.told (as_many old.channel.told aborts.at.channel.told (aborts.leads.goes.failures h).failures) (go aborts.cause)
  where
    left : ((new ≡ aborts.at) × (begun ≡ false) × Untouched link aborts.leads.came old aborts.at) ⊎ ((new ≡ failed_from (lacking_at aborts.place aborts.at)) × ((begun ≡ true) ⊎ Touched link tree old aborts.at)) → NoFewer aborts.at.channel.told new.channel.told
    left (inl stays) = as_many aborts.at.channel.told new.channel.told (ap (λ v. v.channel.told.failures) stays.0)
    left (inr fails) = as_many aborts.at.channel.told new.channel.told (ap (λ v. v.channel.told.failures) fails.0)

    go : Fails link aborts.place aborts.fault aborts.at new ⊎ LacksMemory link begun tree aborts.place aborts.leads.came aborts.fault old aborts.at new → NoFewer aborts.at.channel.told new.channel.told
    go (inl fails) = one_more fails.kind aborts.at.channel.told new.channel.told (fails.failed h)
    go (inr lacks) = left lacks.leaves

-- a reply is read, or waited for
pub reads_no_fewer : (link : Link) (codes : Expected) (next : Result Response FtpError → Tree) (old new : SessionValue) (heard : Poll (Result Response FtpError)) → link.tells → Reads link codes next old new heard → NoFewer old.channel.told new.channel.told
reads_no_fewer link codes next old new (Ready (Ok reply)) h leads = as_many old.channel.told new.channel.told (leads.goes.failures h).failures
reads_no_fewer link codes next old new (Ready (Err fault)) h (inl leads) = as_many old.channel.told new.channel.told (leads.goes.failures h).failures
reads_no_fewer link codes next old new (Ready (Err fault)) h (inr aborts) = no_fewer_on old.channel.told aborts.at.channel.told new.channel.told (as_many old.channel.told aborts.at.channel.told (aborts.leads.goes.failures h).failures) (go aborts.cause)
  where
    go : FailsRead link fault aborts.at new ⊎ ((fault ≡ OutOfMemory) × (new ≡ aborts.at) × Untouched link aborts.leads.came old aborts.at) → NoFewer aborts.at.channel.told new.channel.told
    go (inl fails) = one_more fails.kind aborts.at.channel.told new.channel.told (fails.failed h)
    go (inr lacks) = as_many aborts.at.channel.told new.channel.told (ap (λ v. v.channel.told.failures) lacks.1)
reads_no_fewer link codes next old new Pending h waits = as_many old.channel.told new.channel.told (waits.0.goes.failures h).failures

-- a call is let go of, or isn't made
lets_apart : (owed : Owed) (tells : Type 0) (v w : SessionValue) → LetsGoBeside owed tells v w → w.channel ≡ v.channel
lets_apart owed.Nothing tells v w is = ap (λ x. x.channel) is
lets_apart (owed.Live number) tells v w is = ap (λ x. x.channel) is
lets_apart (owed.Left number) tells v w is = ap (λ x. x.channel) is.0

leaves_apart : (ends : Bool) (tells : Type 0) (v w : SessionValue) → LeavesIf ends tells v w → w.channel ≡ v.channel
leaves_apart true tells v w is = ap (λ x. x.channel) is.0
leaves_apart false tells v w is = ap (λ x. x.channel) is

pub refused_apart : (why : Refusal) (tells : Type 0) (call : Call) (v w : SessionValue) (answer : Answer) → Refuses why tells call v w answer → w.channel ≡ v.channel
refused_apart Taken tells call v w answer refuses = absurd refuses
refused_apart Lacking tells call v w answer refuses = ap (λ x. x.channel) refuses.1
refused_apart Failing tells call v w answer refuses = leaves_apart (finishes call) tells v w refuses.1

module _ (builds : Builds) (coding : Coding) (call : Call) (stage stage' : Stage) (v w : SessionValue) where
  abbrev mem : Link
  mem = over_memory builds

  abbrev tree : Tree
  tree = entered_tree coding call stage v.state

  refused : (first : Bool) (answer : Answer) → RefusesFrom first (Unit {0}) call v w answer → NoFewer v.channel.told w.channel.told
  refused true answer refuses = as_many v.channel.told w.channel.told (ap (λ c. c.told.failures) (refused_apart (refusal_of call v) (Unit {0}) call v w answer refuses))
  refused false answer refuses = as_many v.channel.told w.channel.told (ap (λ x. x.channel.told.failures) refuses.2)

  after : (last : SessionValue) → w.channel ≡ last.channel → NoFewer v.channel.told last.channel.told → NoFewer v.channel.told w.channel.told
  after last same none = no_fewer_on v.channel.told last.channel.told w.channel.told none (as_many last.channel.told w.channel.told (ap (λ c. c.told.failures) same))

  made : (last : SessionValue) (answer : Answer) → Ends mem tree answer (entered_at call stage v) last ⊎ Aborts mem (begun_at stage) tree answer (entered_at call stage v) last → NoFewer v.channel.told last.channel.told
  made last answer (inl ends) = as_many v.channel.told last.channel.told (ends.completes.goes.failures tt).failures
  made last answer (inr aborts) = aborts_no_fewer mem (begun_at stage) tree answer (entered_at call stage v) last tt aborts

  polled : (result : Poll Answer) → PollsTo mem (begun_at stage) tree (remaining coding call (entered_state call stage v.state) stage') (entered_at call stage v) w result → NoFewer v.channel.told w.channel.told
  polled (Ready answer) (last, steps, lets) = after last (lets_apart last.state.counts.owed (Unit {0}) last w lets) (made last answer steps)
  polled Pending (last, (advances, waits), same) = after last (ap (λ x. x.channel) same) (as_many v.channel.told last.channel.told (advances.moves.leads.goes.failures tt).failures)

  pub starts_no_fewer : (result : Poll Answer) → StartsTo mem (Unit {0}) coding call stage stage' v w result → NoFewer v.channel.told w.channel.told
  starts_no_fewer result (inl (answer, is, refuses)) = refused (is_first stage) answer refuses
  starts_no_fewer result (inr on) = polled result on.polls
