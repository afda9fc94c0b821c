-- Lemmas on replies that are read over memory because they are due to commands that were dropped.
use Rattle.std.proofs.Common.{◌≡◌, ◌⊎◌, ℕ, zero, suc, Bool, true, false, Option, Some, None, List, [], ◌∷◌, ◌++◌, Result, Ok, Err, inl, inr, refl, ap, sym, ◌∙◌, subst}
use Rattle.futures.specs.declared.task.Poll.{Poll}
use Rattle.futures.specs.declared.task.Poll.TheVariants.{Ready, Pending}
use Rattle.ftp_base.specs.declared.types.reply.Response.{Response}
use Rattle.ftp_base.specs.declared.types.fault.FtpError.{FtpError}
use Rattle.ftp_base.specs.declared.types.fault.FtpError.TheVariants as faults
use Rattle.ftp_transport.specs.declared.room.Room.TheVariants.{Any}
use Rattle.ftp_control.specs.Reading.{GoesOn}
use Rattle.ftp_calls.specs.declared.call.Answer.{Answer}
use Rattle.ftp_calls.specs.declared.call.Answer.TheVariants.{Unit as Nothing, Fault}
use Rattle.ftp_dialogue.specs.CatchingUp.{After, CatchesUp, Flushes, ReadsDue, ReadsIf, TellsFault, flushing, is_caught_up, told_by, SendsTail}
use Rattle.ftp_dialogue.specs.Dialogue.{Tree, Leaf, expecting}
use Rattle.ftp_dialogue.specs.Link.{Builds, Link, builds_nothing, over_memory, plain}
use Rattle.ftp_dialogue.specs.NetEvents.{Constructed, Dropped, Handshook, Moved, Net, NetEvent, NetEvents, Parted, Requested}
use Rattle.ftp_dialogue.specs.Play.{play}
use Rattle.ftp_dialogue.specs.Promises.{Aborts, Fails, FailsRead, FailsWith, HasFault, IsFault, LacksMemory, Leads, Reads, Touched, Untouched, failed_from, lacking_at}
use Rattle.ftp_dialogue.specs.Reading.{ReadsAlone, ReadsUnless}
use Rattle.ftp_dialogue.specs.State.{SessionValue}
use Rattle.ftp_dialogue.specs.Unanswered.{most_commands}
use Rattle.ftp_dialogue.specs.declared.model.Played.{Played}
use Rattle.ftp_dialogue.specs.declared.model.Played.TheVariants as played
use Rattle.ftp_dialogue.specs.declared.model.PlayState.{PlayState}
use Rattle.ftp_dialogue.specs.declared.state.State.{State}
use Rattle.ftp_dialogue.proofs.NetEvents.{net_events-append}
use Rattle.ftp_dialogue.proofs.CatchingUpLemmas.{alone_fails}
use Rattle.ftp_runs.specs.Counting.{NoFewer}
use Rattle.ftp_runs.specs.Following.{Grows}
use Rattle.ftp_runs.proofs.NoFewer.{aborts_no_fewer, as_many, no_fewer_on, reads_no_fewer}

abbrev mem : Link
mem = over_memory builds_nothing

-- beside the control connection this happened; and the session fails only where an error is told
pub record Went (old new : SessionValue) (result : Poll (Option FtpError)) : Type 0 where
  pub grows : Grows builds_nothing old new
  pub fails : new.channel.failed ≡ true → (old.channel.failed ≡ true) ⊎ TellsFault result
  pub no_fewer : NoFewer old.channel.told new.channel.told

grows_to : (old at new : SessionValue) → new.net ≡ at.net → Grows builds_nothing old at → Grows builds_nothing old new
grows_to old at new same grows =
    let P : Net → Type 0 = λ n. NetEvents (plain builds_nothing) grows.0 old.net n in
    (grows.0, subst P (sym same) grows.1)

went_on : (old middle new : SessionValue) (result : Poll (Option FtpError)) → Went old middle (Ready None) → Went middle new result → Went old new result
went_on old middle new result first second = record {
  grows = (first.grows.0 ++ second.grows.0, net_events-append (plain builds_nothing) first.grows.0 second.grows.0 old.net middle.net new.net first.grows.1 second.grows.1);
  fails = λ failed. go (second.fails failed);
  no_fewer = no_fewer_on old.channel.told middle.channel.told new.channel.told first.no_fewer second.no_fewer;
}
  where
    none : (old.channel.failed ≡ true) ⊎ TellsFault (Ready None) → old.channel.failed ≡ true
    none (inl was) = was
    none (inr told) = absurd told

    go : (middle.channel.failed ≡ true) ⊎ TellsFault result → (old.channel.failed ≡ true) ⊎ TellsFault result
    go (inl was) = inl (none (first.fails was))
    go (inr told) = inr told

went_nowhere : (old new : SessionValue) (result other : Poll (Option FtpError)) → result ≡ other → new ≡ old → Went old new result
went_nowhere old new result other is same = record {
  grows = ([], ap (λ v. v.net) same);
  fails = λ failed. inl (sym (ap (λ v. v.channel.failed) same) ∙ failed);
  no_fewer = as_many old.channel.told new.channel.told (ap (λ v. v.channel.told.failures) same);
}

went_same : (old middle new : SessionValue) (result told : Poll (Option FtpError)) → Went old middle told → result ≡ told → new ≡ middle → Went old new result
went_same old middle new result told went is same =
    let P : SessionValue → Type 0 = λ v. Went old v result in
    let Q : Poll (Option FtpError) → Type 0 = λ r. Went old middle r in
    subst P (sym same) (subst Q (sym is) went)

went_after : (Next : SessionValue → SessionValue → Poll (Option FtpError) → Type 0) (told : Poll (Option FtpError)) (old middle new : SessionValue) (result : Poll (Option FtpError)) → (Next middle new result → Went middle new result) → Went old middle told → After Next told middle new result → Went old new result
went_after Next (Ready None) old middle new result next went after = went_on old middle new result went (next after)
went_after Next (Ready (Some fault)) old middle new result next went after = went_same old middle new result (Ready (Some fault)) went after.0 after.1
went_after Next Pending old middle new result next went after = went_same old middle new result Pending went after.0 after.1

-- The unsent tail goes out

aborts_grows : (begun : Bool) (tree : Tree) (answer : Answer) (old new : SessionValue) → Aborts mem begun tree answer old new → Grows builds_nothing old new
aborts_grows begun tree answer old new aborts = grows_to old aborts.at new (same aborts.cause) (aborts.leads.answered, aborts.leads.goes.net_events tt)
  where
    left : (place : Tree) (came : List ℕ) (fault : FtpError) → LacksMemory mem begun tree place came fault old aborts.at new → new.net ≡ aborts.at.net
    left place came fault lacks = go lacks.leaves
      where
        go : ((new ≡ aborts.at) × (begun ≡ false) × Untouched mem came old aborts.at) ⊎ ((new ≡ failed_from (lacking_at place aborts.at)) × ((begun ≡ true) ⊎ Touched mem tree old aborts.at)) → new.net ≡ aborts.at.net
        go (inl stays) = ap (λ v. v.net) stays.0
        go (inr fails) = ap (λ v. v.net) fails.0

    same : Fails mem aborts.place aborts.fault aborts.at new ⊎ LacksMemory mem begun tree aborts.place aborts.leads.came aborts.fault old aborts.at new → new.net ≡ aborts.at.net
    same (inl fails) = ap (λ v. v.net) fails.same
    same (inr lacks) = left aborts.place aborts.leads.came aborts.fault lacks

abbrev failed_in : Played → Bool
failed_in (played.Done answer s) = s.failed
failed_in (played.Pending wait s) = s.failed

flush_keeps : (state : State) (s : PlayState) → failed_in (play Any (flushing state) s) ≡ s.failed
unfolding play
flush_keeps state s = refl

flush_waits : (old new : SessionValue) → Leads mem (flushing old.state) (flushing old.state) old new → new.channel.failed ≡ old.channel.failed
flush_waits old new leads =
    let goes : GoesOn new.channel.ended [] new.channel.ended = record { nothing = λ e. refl; over = λ e. e } in
    let is = leads.plays tt tt Any [] new.channel.ended [] tt goes in
    sym (sym (flush_keeps old.state _) ∙ ap failed_in is ∙ flush_keeps old.state _)

tail_went : (flush : Poll (Option FtpError)) (old new : SessionValue) → SendsTail mem old new flush → Went old new flush
tail_went (Ready None) old new done = record { grows = (done.answered, done.goes.net_events tt); fails = λ failed. go (done.fails failed); no_fewer = as_many old.channel.told new.channel.told (done.goes.failures tt).failures }
  where
    go : (old.channel.failed ≡ true) ⊎ IsFault Nothing → (old.channel.failed ≡ true) ⊎ TellsFault (Ready None)
    go (inl was) = inl was
    go (inr fault) = absurd fault
tail_went (Ready (Some fault)) old new (inl done) = record { grows = (done.answered, done.goes.net_events tt); fails = λ failed. inr tt; no_fewer = as_many old.channel.told new.channel.told (done.goes.failures tt).failures }
tail_went (Ready (Some fault)) old new (inr aborts) = record { grows = aborts_grows false (flushing old.state) (Fault fault) old new aborts; fails = λ failed. inr tt; no_fewer = aborts_no_fewer mem false (flushing old.state) (Fault fault) old new tt aborts }
tail_went Pending old new waits = record { grows = (waits.0.answered, waits.0.goes.net_events tt); fails = λ failed. inl (sym (flush_waits old new waits.0) ∙ failed); no_fewer = as_many old.channel.told new.channel.told (waits.0.goes.failures tt).failures }

flush_went : (flush : Poll (Option FtpError)) (old new : SessionValue) → Flushes mem old new flush → Went old new flush
flush_went flush old new flushes = tail_went flush old new flushes.sends

-- One reply is read

abbrev any_tree : State → Result Response FtpError → Tree
any_tree state heard = Leaf Nothing state

read_grows : (heard : Poll (Result Response FtpError)) (old last : SessionValue) → Reads mem (expecting []) (any_tree old.state) old last heard → Grows builds_nothing old last
read_grows (Ready (Ok reply)) old last leads = (leads.answered, leads.goes.net_events tt)
read_grows (Ready (Err fault)) old last (inl leads) = (leads.answered, leads.goes.net_events tt)
read_grows (Ready (Err fault)) old last (inr aborts) = grows_to old aborts.at last (same aborts.cause) (aborts.leads.answered, aborts.leads.goes.net_events tt)
  where
    same : FailsRead mem fault aborts.at last ⊎ ((fault ≡ faults.OutOfMemory) × (last ≡ aborts.at) × Untouched mem aborts.leads.came old aborts.at) → last.net ≡ aborts.at.net
    same (inl fails) = ap (λ v. v.net) fails.same
    same (inr lacks) = ap (λ v. v.net) lacks.1
read_grows Pending old last waits = (waits.0.answered, waits.0.goes.net_events tt)

read_went : (heard : Poll (Result Response FtpError)) (old new : SessionValue) → ReadsAlone mem (expecting []) old new heard → Went old new (told_by heard)
read_went heard old new reads = go old.channel.failed refl reads
  where
    go : (b : Bool) → old.channel.failed ≡ b → ReadsUnless b mem (expecting []) old new heard → Went old new (told_by heard)
    go true failed refuses = record { grows = ([], ap (λ v. v.net) refuses.1); fails = λ fails. inl failed; no_fewer = as_many old.channel.told new.channel.told (ap (λ v. v.channel.told.failures) refuses.1) }
    go false going counted = record { grows = grows_to old counted.last new (ap (λ v. v.net) counted.counts) (read_grows heard old counted.last (counted.reads (any_tree old.state))); fails = alone_fails mem old new heard reads; no_fewer = no_fewer_on old.channel.told counted.last.channel.told new.channel.told (reads_no_fewer mem (expecting []) (any_tree old.state) old counted.last heard tt (counted.reads (any_tree old.state))) (as_many counted.last.channel.told new.channel.told (ap (λ v. v.channel.told.failures) counted.counts)) }

-- as long as some are due

due_went : (plain : Bool) (left : ℕ) (old new : SessionValue) (result : Poll (Option FtpError)) → ReadsDue plain left mem old new result → Went old new result
unfolding ReadsDue
due_went plain zero old new result ends = went_nowhere old new result (Ready (Some faults.BadResponse)) ends.0 ends.1
due_went plain (suc left) old new result reads = go (λ v w r. due_went plain left v w r) (is_caught_up plain old.state) reads
  where
    go : ((v w : SessionValue) (r : Poll (Option FtpError)) → ReadsDue plain left mem v w r → Went v w r) → (b : Bool) → ReadsIf b mem (λ v w r. ReadsDue plain left mem v w r) old new result → Went old new result
    go others true none = went_nowhere old new result (Ready None) none.0 none.1
    go others false one = went_after (λ v w r. ReadsDue plain left mem v w r) (told_by one.heard) old one.middle new result (others one.middle new result) (read_went one.heard old one.middle one.reads) one.then_reads

pub up_went : (plain_read : Bool) (old new : SessionValue) (result : Poll (Option FtpError)) → CatchesUp mem plain_read old new result → Went old new result
up_went plain_read old new result up = went_after (ReadsDue plain_read most_commands mem) up.flush old up.flushed new result (due_went plain_read most_commands up.flushed new result) (flush_went up.flush old up.flushed up.flushes) up.then_reads

-- what happens where nothing is asked of a builder happens where one may be
asked_events : (builds : Builds) (answered : List NetEvent) (n m : Net) → NetEvents (plain builds_nothing) answered n m → NetEvents (plain builds) answered n m
asked_events builds [] n m is = is
asked_events builds (Requested request outcome ∷ more) n m is = (is.0, is.1, asked_events builds more is.0 m is.2)
asked_events builds (Constructed address None ∷ more) n m is = absurd is.1.built.1
asked_events builds (Constructed address (Some fault) ∷ more) n m is = absurd is.1.built.0
asked_events builds (Handshook None ∷ more) n m is = (is.0, is.1, asked_events builds more is.0 m is.2)
asked_events builds (Handshook (Some fault) ∷ more) n m is = (is.0, is.1, asked_events builds more is.0 m is.2)
asked_events builds (Moved movement outcome ∷ more) n m is = (is.0, is.1, asked_events builds more is.0 m is.2)
asked_events builds (Parted ∷ more) n m is = (is.0, is.1, asked_events builds more is.0 m is.2)
asked_events builds (Dropped ∷ more) n m is = (is.0, is.1, asked_events builds more is.0 m is.2)

pub up_grows : (builds : Builds) (plain_read : Bool) (old new : SessionValue) (result : Poll (Option FtpError)) → CatchesUp mem plain_read old new result → Grows builds old new
up_grows builds plain_read old new result up =
    let grows = (up_went plain_read old new result up).grows in
    (grows.0, asked_events builds grows.0 old.net new.net grows.1)

-- the session fails only where an error is the answer
pub up_fails : (plain_read : Bool) (old new : SessionValue) (result : Poll (Option FtpError)) (answers : List Answer) → CatchesUp mem plain_read old new result → (TellsFault result → HasFault answers) → FailsWith old new answers
up_fails plain_read old new result answers up tells failed = go ((up_went plain_read old new result up).fails failed)
  where
    go : (old.channel.failed ≡ true) ⊎ TellsFault result → (old.channel.failed ≡ true) ⊎ HasFault answers
    go (inl was) = inl was
    go (inr told) = inr (tells told)

pub fails_on : (old middle new : SessionValue) (answers : List Answer) → FailsWith old middle [] → FailsWith middle new answers → FailsWith old new answers
fails_on old middle new answers first second failed = go (second failed)
  where
    none : (old.channel.failed ≡ true) ⊎ HasFault [] → (old.channel.failed ≡ true) ⊎ HasFault answers
    none (inl was) = inl was
    none (inr fault) = absurd fault

    go : (middle.channel.failed ≡ true) ⊎ HasFault answers → (old.channel.failed ≡ true) ⊎ HasFault answers
    go (inl was) = none (first was)
    go (inr fault) = inr fault
