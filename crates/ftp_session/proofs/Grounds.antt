-- Why a call gives an error of its connection, or `SessionFailed`: in each of its parts nothing failed, or the last of them gave
-- the error for a reason.
use Rattle.std.proofs.Common.{◌≡◌, ◌&&◌, ◌||◌, ◌<◌, ℕ, zero, suc, Bool, true, false, cond, List, [], Option, Some, None, Result, Ok, Err, inl, inr, ◌⊎◌, refl, ap, sym, ◌∙◌, subst}
use Rattle.std.specs.declared.io.ErrorKind.{ErrorKind}
use Rattle.futures.specs.declared.task.Poll.{Poll}
use Rattle.futures.specs.declared.task.Poll.TheVariants.{Ready, Pending}
use Rattle.ftp_base.specs.declared.types.fault.FtpError.{FtpError}
use Rattle.ftp_base.specs.declared.types.fault.FtpError.TheVariants as faults
use Rattle.ftp_base.specs.declared.types.reply.Response.{Response}
use Rattle.ftp_transport.specs.Told.{NoneFailed, Told}
use Rattle.ftp_calls.specs.Exchanges.{drains, drains_first, is_local, of_transfer}
use Rattle.ftp_calls.specs.declared.call.Answer.{Answer}
use Rattle.ftp_calls.specs.declared.call.Answer.TheVariants.{Fault}
use Rattle.ftp_calls.specs.declared.call.Answer.TheVariants as answer
use Rattle.ftp_calls.specs.declared.call.Call.{Call}
use Rattle.ftp_calls.specs.declared.call.Call.TheVariants as call
use Rattle.ftp_dialogue.specs.CatchingUp.{After, CatchesUp, Flushes, InStepIf, MakesThen, PlaysInStep, ReadsDue, ReadsIf, ReadsOne, fault_told, flushing, reads_dropped_first, is_caught_up, is_plain_read, told_by}
use Rattle.ftp_dialogue.specs.Coding.{Coding}
use Rattle.ftp_dialogue.specs.Counted.{CountsFailure, IsGivenBeside}
use Rattle.ftp_dialogue.specs.Dialogue.{Expected, Tree, Say, Hear, Leaf, dialogue, expecting}
use Rattle.ftp_dialogue.specs.Link.{Link, unasked}
use Rattle.ftp_dialogue.specs.NetEvents.{Net, outcomes_of}
use Rattle.ftp_dialogue.specs.Play.{Refusal, Taken, Lacking, Failing, is_unit, refusal, refused_if_failed}
use Rattle.ftp_dialogue.specs.Promises.{Aborts, Completes, DrainsIf, Fails, FailsRead, IsFault, IsOf, IsPlayed, IsRefused, IsWithheld, LacksMemory, Leads, MakesAfter, Plays, PlaysAlone, Reads, Refuses, Untouched, answer_at, begun_by, due_of, lacks_of, refusal_of}
use Rattle.ftp_dialogue.specs.Reading.{ReadsAlone, ReadsCounted, ReadsUnless}
use Rattle.ftp_dialogue.specs.Sound.{none_left}
use Rattle.ftp_dialogue.specs.State.{LetsGo, SessionValue}
use Rattle.ftp_dialogue.specs.Unanswered.{most_commands}
use Rattle.ftp_dialogue.specs.Within.{MayHear}
use Rattle.ftp_dialogue.specs.declared.model.NetOutcome.{NetOutcome}
use Rattle.ftp_dialogue.specs.declared.state.State.{State}
use Rattle.ftp_dialogue.proofs.NetEvents.{letting_beside}
use Rattle.ftp_dialogue.proofs.Backed.{Any, Backed, Fits, IsGrave, Since, Tells, fits_map, io, of_bytes, place_backed, reason_of}
use Rattle.ftp_session.proofs.Calm.{Calm, Happens, asked_calm, calm_beside, calm_on, calm_same, given_after, given_before, happens_on, lets_happen}
use Rattle.ftp_dialogue.proofs.EveryStage.{IsNothing, Never, drain_backed}

-- Reasons

pub none_then : (t u w : Told) → NoneFailed t u → CountsFailure u w → CountsFailure t w
none_then t u w none (inl more) = (let P : ℕ → Type 0 = λ n. n < w.failures in inl (subst P none.failures more))
none_then t u w none (inr all) = inr all

-- the control connection counted a failure, or the session had failed
abbrev pub Met : Type 0 → SessionValue → SessionValue → FtpError → Type 0
Met tells old new (faults.ConnectionError why) = tells → CountsFailure old.channel.told new.channel.told
Met tells old new other = old.channel.failed ≡ true

-- that, or the state that is left gives the error, or, where anything may be asked, an outcome beside the connection did
abbrev pub Why : Link → Type 0 → (State → FtpError → Type 0) → SessionValue → SessionValue → FtpError → Type 0
Why link Asks May old new fault = Met link.tells old new fault ⊎ May new.state fault ⊎ (Asks × IsGivenBeside link fault old.net new.net)

abbrev pub Grounds : Link → Type 0 → (State → FtpError → Type 0) → SessionValue → SessionValue → Answer → Type 0
Grounds link Asks May old new told = (fault : FtpError) → told ≡ Fault fault → IsGrave fault → Why link Asks May old new fault

-- a part of a call gives such an answer, and nothing failed in it, or an error that has its reason
abbrev pub Results : (Answer → Type 0) → Link → Type 0 → (State → FtpError → Type 0) → SessionValue → SessionValue → Answer → Type 0
Results Good link Asks May old new told = Fits (λ a. Good a × Calm link old new) (Why link Asks May old new) told

pub grounds_of : (link : Link) (Asks : Type 0) (May : State → FtpError → Type 0) (old new : SessionValue) (told : Answer) → Results Any link Asks May old new told → Grounds link Asks May old new told
grounds_of link Asks May old new told results = reason_of (λ a. Any a × Calm link old new) (Why link Asks May old new) told results

-- without leave to ask, and with no other reason
pub met_only : (link : Link) (old new : SessionValue) (fault : FtpError) → Why link ⊥ Never old new fault → Met link.tells old new fault
met_only link old new fault (inl met) = met
met_only link old new fault (inr (inl none)) = absurd none
met_only link old new fault (inr (inr none)) = absurd none.0

-- the record of the connection alone matters then
pub never_to : (link : Link) (old middle new : SessionValue) (fault : FtpError) → new.channel.told ≡ middle.channel.told → (IsGrave fault → Why link ⊥ Never old middle fault) → IsGrave fault → Why link ⊥ Never old new fault
never_to link old middle new fault same why = λ grave. inl (go fault (met_only link old middle fault (why grave)))
  where
    go : (f : FtpError) → Met link.tells old middle f → Met link.tells old new f
    go (faults.ConnectionError cause) counts = λ h. (let P : Told → Type 0 = λ t. CountsFailure old.channel.told t in subst P (sym same) (counts h))
    go other failed = failed

-- one or the other, each as another
pub either_as : {A B C D : Type 0} → (A → C) → (B → D) → A ⊎ B → C ⊎ D
either_as one other (inl a) = inl (one a)
either_as one other (inr b) = inr (other b)

but_not : {A B : Type 0} → (B → ⊥) → A ⊎ B → A
but_not none (inl is) = is
but_not none (inr other) = absurd (none other)

module _ (Good : Answer → Type 0) (link : Link) (Asks : Type 0) (May : State → FtpError → Type 0) where
  abbrev Gives : SessionValue → SessionValue → Answer → Type 0
  Gives old new told = Results Good link Asks May old new told

  -- other sessions before and after it
  results_on : (v w v' w' : SessionValue) (told : Answer) → ((fault : FtpError) → Why link Asks May v w fault → Why link Asks May v' w' fault) → (Calm link v w → Calm link v' w') → Gives v w told → Gives v' w' told
  results_on v w v' w' told why calm results =
      fits_map (λ a. Good a × Calm link v w) (λ a. Good a × Calm link v' w') (Why link Asks May v w) (Why link Asks May v' w') why (λ a both. (both.0, calm both.1)) told results

  pub after_calm : (old middle new : SessionValue) (told : Answer) → Calm link old middle → Gives middle new told → Gives old new told
  after_calm old middle new told calm results = results_on middle new old new told why (calm_on link old middle new calm) results
    where
      met : (fault : FtpError) → Met link.tells middle new fault → Met link.tells old new fault
      met (faults.ConnectionError cause) counts = λ h. none_then old.channel.told middle.channel.told new.channel.told (calm.none h) (counts h)
      met other failed = calm.going failed

      why : (fault : FtpError) → Why link Asks May middle new fault → Why link Asks May old new fault
      why fault reason = either_as (met fault) (either_as (λ may. may) (λ gives. (gives.0, given_after link fault old.net middle.net new.net calm.happens gives.1))) reason

  pub ends_same : (old middle new : SessionValue) (told : Answer) → new ≡ middle → Gives old middle told → Gives old new told
  ends_same old middle new told is results = (let P : SessionValue → Type 0 = λ v. Gives old v told in subst P (sym is) results)

  pub told_as : (old new : SessionValue) (told other : Answer) → told ≡ other → Gives old new other → Gives old new told
  told_as old new told other is results = (let P : Answer → Type 0 = Gives old new in subst P (sym is) results)

  -- where a call begins and ends
  pub of_whole : (old begun last new : SessionValue) (told : Answer) → begun.channel ≡ old.channel → begun.net ≡ old.net → LetsGo link.tells last new → Gives begun last told → Gives old new told
  of_whole old begun last new told channel net lets results =
      let ends : SessionValue = record last { net = new.net } in
      let happens = lets_happen link last new lets in
      ends_same old ends new told (letting_beside link.tells last new lets)
      (after_calm old begun ends told (calm_beside link old begun channel net) (results_on begun last begun ends told (why happens) (calmly happens) results))
    where
      why : Happens link last.net new.net → (fault : FtpError) → Why link Asks May begun last fault → Why link Asks May begun (record last { net = new.net }) fault
      why happens fault reason = either_as (λ met. met) (either_as (λ may. may) (λ gives. (gives.0, given_before link fault begun.net last.net new.net gives.1 happens))) reason

      calmly : Happens link last.net new.net → Calm link begun last → Calm link begun (record last { net = new.net })
      calmly happens calm = record { none = calm.none; going = calm.going; happens = happens_on link begun.net last.net new.net calm.happens happens }

  module _ (tree : Tree) (told : Answer) (old new : SessionValue) (backed : Tells Good Asks May tree) where
    completes_results : Completes link tree told old new → Gives old new told
    completes_results done = calmly told done.fails (answers done.is_of)
      where
        outcomes : List NetOutcome
        outcomes = outcomes_of done.answered

        since : (fault : FtpError) → Since Asks May outcomes new.state fault → Why link Asks May old new fault
        since fault (inl may) = inr (inl may)
        since fault (inr among) = inr (inr (among.0, record { answered = done.answered; net_events = done.goes.net_events; among = among.1 }))

        answers : IsOf outcomes told new.state tree → Fits Good (Why link Asks May old new) told
        answers (inl within) = fits_map Good Good (Since Asks May outcomes new.state) (Why link Asks May old new) since (λ a good. good) told (place_backed Good Asks May outcomes (Leaf told new.state) tree within backed)
        answers (inr (why, next, is, within)) =
            let P : Answer → Type 0 = Fits Good (Why link Asks May old new) in
            subst P (sym is) (λ grave. absurd (place_backed Good Asks May outcomes (Say (Err why) next) tree within backed grave))

        calmly : (given : Answer) → (new.channel.failed ≡ true → (old.channel.failed ≡ true) ⊎ IsFault given) → Fits Good (Why link Asks May old new) given → Gives old new given
        calmly (Fault fault) fails fits = fits
        calmly other fails fits = (fits, record { none = done.goes.failures; going = λ f. but_not (λ none. none) (fails f); happens = record { answered = done.answered; net_events = done.goes.net_events } })

    aborts_results : (begun : Bool) → Aborts link begun tree told old new → Gives old new told
    aborts_results begun aborts = told_as old new told (Fault aborts.fault) aborts.is (λ grave. go aborts.cause grave)
      where
        outcomes : List NetOutcome
        outcomes = outcomes_of aborts.leads.answered

        at : (place : Tree) (kind : ErrorKind) → Tells Good Asks (Since Asks May outcomes) place → answer_at place (io kind) ≡ Fault faults.SessionFailed → Since Asks May outcomes new.state faults.SessionFailed
        at (Hear expected next) kind is same = is.1 kind same new.state
        at other kind is same = cc same

        failed : Fails link aborts.place aborts.fault aborts.at new → Since Asks May outcomes new.state faults.SessionFailed → Why link Asks May old new faults.SessionFailed
        failed fails (inl may) = inr (inl may)
        failed fails (inr among) =
            let P : Net → Type 0 = IsGivenBeside link faults.SessionFailed old.net in
            inr (inr (among.0, subst P (sym (ap (λ v. v.net) fails.same)) (record { answered = aborts.leads.answered; net_events = aborts.leads.goes.net_events; among = among.1 })))

        fails_why : Fails link aborts.place aborts.fault aborts.at new → (fault : FtpError) → aborts.fault ≡ fault → IsGrave fault → Why link Asks May old new fault
        fails_why fails (faults.ConnectionError why) is grave = inl (λ h. none_then old.channel.told aborts.at.channel.told new.channel.told (aborts.leads.goes.failures h) (fails.failed h).counts.0)
        fails_why fails faults.SessionFailed is grave = failed fails (at aborts.place fails.kind (place_backed Good Asks May outcomes aborts.place tree aborts.leads.within backed) (sym fails.is ∙ ap Fault is))
        fails_why fails other is grave = absurd grave

        go : Fails link aborts.place aborts.fault aborts.at new ⊎ LacksMemory link begun tree aborts.place aborts.leads.came aborts.fault old aborts.at new → IsGrave aborts.fault → Why link Asks May old new aborts.fault
        go (inl fails) grave = fails_why fails aborts.fault refl grave
        go (inr lacks) grave = absurd (subst IsGrave lacks.is grave)

    pub made_results : (begun : Bool) → Completes link tree told old new ⊎ Aborts link begun tree told old new → Gives old new told
    made_results begun (inl done) = completes_results done
    made_results begun (inr aborts) = aborts_results begun aborts

-- Replies that are due to commands that were dropped

-- an error of a part, or none
abbrev pub told_for : Option FtpError → Answer
told_for None = answer.Unit
told_for (Some fault) = Fault fault

abbrev pub Caught : Link → SessionValue → SessionValue → Option FtpError → Type 0
Caught link old new fault = Results Any link ⊥ Never old new (told_for fault)

-- it is that of the part before, with which all ends
caught_as : (link : Link) (old middle new : SessionValue) (fault other : Option FtpError) → Ready fault ≡ Ready other → new ≡ middle → Caught link old middle other → Caught link old new fault
caught_as link old middle new fault other is same caught =
    ends_same Any link ⊥ Never old middle new (told_for fault) same
    (told_as Any link ⊥ Never old middle (told_for fault) (told_for other) (ap told_for (let e : fault ≡ other = cc in e)) caught)

flush_caught : (link : Link) (old new : SessionValue) (fault : Option FtpError) → Flushes link old new (Ready fault) → Caught link old new fault
flush_caught link old new None flushes = made_results Any link ⊥ Never (flushing old.state) answer.Unit old new tt false (inl flushes.sends)
flush_caught link old new (Some fault) flushes = made_results Any link ⊥ Never (flushing old.state) (Fault fault) old new tt false flushes.sends

-- what a read that is made by itself gives
abbrev pub given : State → Result Response FtpError → Tree
given state (Ok reply) = Leaf (answer.Reply reply) state
given state (Err fault) = Leaf (Fault fault) state

module _ (link : Link) (codes : Expected) (old last : SessionValue) where
  abbrev reading : Tree
  reading = Hear codes (given old.state)

  reading_backed : Backed ⊥ Never reading
  reading_backed = (heard, λ kind same. cc same)
    where
      heard : (h : Result Response FtpError) → MayHear h → Backed ⊥ Never (given old.state h)
      heard (Ok reply) may = tt
      heard (Err fault) may = of_bytes fault may

  pub read_faults : (fault : FtpError) → Reads link codes (given old.state) old last (Ready (Err fault)) → IsGrave fault → Why link ⊥ Never old last fault
  read_faults fault (inl leads) = λ grave. go (place_backed Any ⊥ Never (outcomes_of leads.answered) (Leaf (Fault fault) old.state) reading leads.within reading_backed grave)
    where
      go : {T : Type 0} → Since ⊥ Never (outcomes_of leads.answered) old.state fault → T
      go (inl none) = absurd none
      go (inr none) = absurd none.0
  read_faults fault (inr aborts) = λ grave. go aborts.cause grave
    where
      P : FtpError → Type 0
      P f = Why link ⊥ Never old last f

      go : FailsRead link fault aborts.at last ⊎ ((fault ≡ faults.OutOfMemory) × (last ≡ aborts.at) × Untouched link aborts.leads.came old aborts.at) → IsGrave fault → P fault
      go (inl fails) grave = subst P (sym fails.is) (inl (λ h. none_then old.channel.told aborts.at.channel.told last.channel.told (aborts.leads.goes.failures h) (fails.failed h).counts.0))
      go (inr lacks) grave = absurd (subst IsGrave lacks.0 grave)

  -- a reply, or another than was expected
  pub reply_calm : {tree : Tree} (new : SessionValue) → new.channel ≡ last.channel → new.net ≡ last.net → last.channel.failed ≡ old.channel.failed → Leads link reading tree old last → Calm link old new
  reply_calm new channel net goes leads =
      let calm : Calm link old last = record { none = leads.goes.failures; going = λ f. sym goes ∙ f; happens = record { answered = leads.answered; net_events = leads.goes.net_events } } in
      calm_on link old last new calm (calm_beside link last new channel net)

-- a reply, or an error in its place
pub heard_caught : (link : Link) (old new : SessionValue) (heard : Result Response FtpError) → ReadsAlone link (expecting []) old new (Ready heard) → Caught link old new (fault_told heard)
heard_caught link old new heard reads = go old.channel.failed refl reads
  where
    refused : (h : Result Response FtpError) → old.channel.failed ≡ true → Ready h ≡ Ready (Err faults.SessionFailed) → Caught link old new (fault_told h)
    refused h failed is =
        let P : Result Response FtpError → Type 0 = λ x. Caught link old new (fault_told x) in
        let at : Err faults.SessionFailed ≡ h = cc in
        subst P at (λ grave. inl failed)

    other_reply : (last : SessionValue) (reply : Response) → new.channel ≡ last.channel → new.net ≡ last.net → last.channel.failed ≡ old.channel.failed → Reads link (expecting []) (given old.state) old last (Ready (Err (faults.UnexpectedResponse reply))) → Calm link old new
    other_reply last reply channel net goes (inl leads) = reply_calm link (expecting []) old last new channel net goes leads
    other_reply last reply channel net goes (inr aborts) = elim aborts.cause [ inl fails ↦ cc fails.is | inr lacks ↦ cc lacks.0 ]

    told : (h : Result Response FtpError) → ReadsCounted link (expecting []) old new (Ready h) → Caught link old new (fault_told h)
    told (Ok reply) counted = (tt, reply_calm link (expecting []) old counted.last new (ap (λ v. v.channel) counted.counts) (ap (λ v. v.net) counted.counts) (counted.goes_on tt) (counted.reads (given old.state)))
    told (Err (faults.UnexpectedResponse reply)) counted = (tt, other_reply counted.last reply (ap (λ v. v.channel) counted.counts) (ap (λ v. v.net) counted.counts) (counted.goes_on tt) (counted.reads (given old.state)))
    told (Err other) counted = never_to link old counted.last new other (ap (λ v. v.channel.told) counted.counts) (read_faults link (expecting []) old counted.last other (counted.reads (given old.state)))

    go : (b : Bool) → old.channel.failed ≡ b → ReadsUnless b link (expecting []) old new (Ready heard) → Caught link old new (fault_told heard)
    go true failed refuses = refused heard failed refuses.0
    go false going counted = told heard counted

-- a part, and what comes after it
after_caught : (link : Link) (Next : SessionValue → SessionValue → Poll (Option FtpError) → Type 0) (old middle new : SessionValue) (told : Option FtpError) (fault : Option FtpError) → ((f : Option FtpError) → Next middle new (Ready f) → Caught link middle new f) → Caught link old middle told → After Next (Ready told) middle new (Ready fault) → Caught link old new fault
after_caught link Next old middle new None fault others first after = after_calm Any link ⊥ Never old middle new (told_for fault) first.1 (others fault after)
after_caught link Next old middle new (Some why) fault others first ends = caught_as link old middle new fault (Some why) ends.0 ends.1 first

due_caught : (link : Link) (plain : Bool) (left : ℕ) (old new : SessionValue) (fault : Option FtpError) → ReadsDue plain left link old new (Ready fault) → Caught link old new fault
unfolding ReadsDue
due_caught link plain zero old new fault ends = caught_as link old new new fault (Some faults.BadResponse) ends.0 refl (λ grave. absurd grave)
due_caught link plain (suc left) old new fault reads = go (λ v w f r. due_caught link plain left v w f r) (is_caught_up plain old.state) reads
  where
    one : ((v w : SessionValue) (f : Option FtpError) → ReadsDue plain left link v w (Ready f) → Caught link v w f) → (r : ReadsOne link (λ v w x. ReadsDue plain left link v w x) old new (Ready fault)) → Caught link old new fault
    one others r = heard r.heard r.reads r.then_reads
      where
        heard : (h : Poll (Result Response FtpError)) → ReadsAlone link (expecting []) old r.middle h → After (λ v w x. ReadsDue plain left link v w x) (told_by h) r.middle new (Ready fault) → Caught link old new fault
        heard (Ready found) alone after = after_caught link (λ v w x. ReadsDue plain left link v w x) old r.middle new (fault_told found) fault (others r.middle new) (heard_caught link old r.middle found alone) after
        heard Pending alone after = (let wrong : Ready fault ≡ Pending = after.0 in cc)

    go : ((v w : SessionValue) (f : Option FtpError) → ReadsDue plain left link v w (Ready f) → Caught link v w f) → (b : Bool) → ReadsIf b link (λ v w x. ReadsDue plain left link v w x) old new (Ready fault) → Caught link old new fault
    go others true none = caught_as link old old new fault None none.0 none.1 (tt, calm_same link old old refl)
    go others false r = one others r

pub caught_up : (link : Link) (plain : Bool) (old new : SessionValue) (fault : Option FtpError) → CatchesUp link plain old new (Ready fault) → Caught link old new fault
caught_up link plain old new fault up = go up.flush up.flushes up.then_reads
  where
    go : (flush : Poll (Option FtpError)) → Flushes link old up.flushed flush → After (ReadsDue plain most_commands link) flush up.flushed new (Ready fault) → Caught link old new fault
    go (Ready told) flushes after = after_caught link (ReadsDue plain most_commands link) old up.flushed new told fault (due_caught link plain most_commands up.flushed new) (flush_caught link old up.flushed told flushes) after
    go Pending flushes after = (let wrong : Ready fault ≡ Pending = after.0 in cc)

-- where no error is told nothing failed
pub up_caught : (link : Link) (plain : Bool) (old new : SessionValue) (fault : Option FtpError) → CatchesUp link plain old new (Ready fault) → Fits (λ a. Calm link old new) (Why link ⊥ Never old new) (told_for fault)
up_caught link plain old new fault up =
    let Given : FtpError → Type 0 = Why link ⊥ Never old new in
    fits_map (λ a. Any a × Calm link old new) (λ a. Calm link old new) Given Given (λ f why. why) (λ a both. both.1) (told_for fault) (caught_up link plain old new fault up)

-- where nothing is asked of a builder
pub asked_caught : (link : Link) (plain : Bool) (old new : SessionValue) → CatchesUp (unasked link) plain old new (Ready None) → Calm link old new
asked_caught link plain old new up = asked_calm link old new (up_caught (unasked link) plain old new None up)

-- A call

failing_is : (called : Call) (failed lacks : Bool) → refusal called failed lacks ≡ Failing → failed ≡ true
failing_is called failed lacks is = go (of_transfer called && lacks) (is_local called) failed is
  where
    go : (none apart failed : Bool) → cond none Lacking (refused_if_failed apart failed) ≡ Failing → failed ≡ true
    go true apart failed is = (let wrong : Lacking ≡ Failing = is in cc)
    go false true failed is = (let wrong : Taken ≡ Failing = is in cc)
    go false false true is = refl
    go false false false is = (let wrong : Taken ≡ Failing = is in cc)

module _ (Good : Answer → Type 0) (link : Link) (Asks : Type 0) (May : State → FtpError → Type 0) (coding : Coding) where
  pub refused_results : (called : Call) (old new : SessionValue) (told : Answer) → (refusal_of called old ≡ Lacking → Good answer.NoTransfer) → IsRefused link.tells called old new told → Results Good link Asks May old new told
  refused_results called old new told lacks refuses = go (refusal_of called old) refl refuses
    where
      go : (why : Refusal) → refusal_of called old ≡ why → Refuses why link.tells called old new told → Results Good link Asks May old new told
      go Taken is refuses = absurd refuses
      go Lacking is refuses = told_as Good link Asks May old new told answer.NoTransfer refuses.0 (lacks is, calm_same link old new refuses.1)
      go Failing is refuses = told_as Good link Asks May old new told (Fault faults.SessionFailed) refuses.0 (λ grave. inl (failing_is called old.channel.failed (lacks_of called old) is))

  pub alone_results : (called : Call) (old new : SessionValue) (told : Answer) → (refusal_of called old ≡ Lacking → Good answer.NoTransfer) → ((state : State) → Tells Good Asks May (dialogue coding called state)) → PlaysAlone link coding called old new told → Results Good link Asks May old new told
  alone_results called old new told lacks backed alone = go alone.made
    where
      go : IsRefused link.tells called old new told ⊎ IsPlayed link coding called old new told ⊎ IsWithheld old new told → Results Good link Asks May old new told
      go (inl why) = refused_results called old new told lacks why
      go (inr (inl played)) = of_whole Good link Asks May old (begun_by called old) played.last new told refl refl played.lets_go (made_results Good link Asks May (dialogue coding called old.state) told (begun_by called old) played.last (backed old.state) false played.plays)
      go (inr (inr withheld)) = told_as Good link Asks May old new told (Fault faults.OutOfMemory) withheld.is (λ grave. absurd grave)

-- The last reply of a transfer that was left

-- where it is due its read isn't refused for want of a transfer
pub drain_goes : {T : Type 0} (called : Call) (v : SessionValue) → due_of called v ≡ true → refusal_of call.Drain v ≡ Lacking → T
drain_goes called v due lacks = go v.channel.failed (none_left v.state.counts.owed) (drains_first called) due lacks
  where
    go : {T : Type 0} (failed none first : Bool) → cond (failed || none) false first ≡ true → cond none Lacking (refused_if_failed false failed) ≡ Lacking → T
    go true none first is lacks = cc is
    go false true first is lacks = cc is
    go false false first is lacks = cc lacks

-- it was read, or its error is the call's
pub drained_calm : (link : Link) (old middle : SessionValue) (first : Answer) → is_unit first ≡ true → Results IsNothing link ⊥ Never old middle first → Calm link old middle
drained_calm link old middle answer.Unit is results = results.1
drained_calm link old middle other is results = cc is

pub drained_fault : (Good : Answer → Type 0) (link : Link) (Asks : Type 0) (May : State → FtpError → Type 0) (old middle : SessionValue) (first : Answer) → is_unit first ≡ false → Results IsNothing link ⊥ Never old middle first → Results Good link Asks May old middle first
drained_fault Good link Asks May old middle answer.Unit is results = cc is
drained_fault Good link Asks May old middle (Fault fault) is results = λ grave. inl (met_only link old middle fault (results grave))
drained_fault Good link Asks May old middle other is results = absurd results.0

-- whatever is made after a part
module _ (Good : Answer → Type 0) (link : Link) (Asks : Type 0) (May : State → FtpError → Type 0) (Makes : SessionValue → SessionValue → Answer → Type 0) (makes : (v w : SessionValue) (a : Answer) → Makes v w a → Results Good link Asks May v w a) (old new : SessionValue) (told : Answer) where
  -- after the last reply of a transfer that was left
  pub after_drain : (middle : SessionValue) (first : Answer) → Results IsNothing link ⊥ Never old middle first → (b : Bool) → is_unit first ≡ b → MakesAfter b first Makes middle new told → Results Good link Asks May old new told
  after_drain middle first drains true is made = after_calm Good link Asks May old middle new told (drained_calm link old middle first is drains) (makes middle new told made)
  after_drain middle first drains false is same =
      ends_same Good link Asks May old middle new told same.1 (told_as Good link Asks May old middle told first same.0 (drained_fault Good link Asks May old middle first is drains))

  -- and after the replies that are due to commands that were dropped
  pub in_step : (b plain ends : Bool) → (ends ≡ true → Good answer.Unit) → InStepIf b (unasked link) plain ends Makes old new told → Results Good link Asks May old new told
  in_step false plain ends over made = makes old new told made
  in_step true plain ends over first = go first.fault ends over first.catches_up first.then_makes
    where
      go : (fault : Option FtpError) (e : Bool) → (e ≡ true → Good answer.Unit) → CatchesUp (unasked link) plain old first.middle (Ready fault) → MakesThen fault e Makes first.middle new told → Results Good link Asks May old new told
      go (Some fault) e is up stops =
          ends_same Good link Asks May old first.middle new told stops.1
          (told_as Good link Asks May old first.middle told (Fault fault) stops.0 (λ grave. inl (met_only (unasked link) old first.middle fault (caught_up (unasked link) plain old first.middle (Some fault) up grave))))
      go None true is up stops = told_as Good link Asks May old new told answer.Unit stops.0 (is refl, calm_on link old first.middle new (asked_caught link plain old first.middle up) (calm_same link first.middle new stops.1))
      go None false is up made = after_calm Good link Asks May old first.middle new told (asked_caught link plain old first.middle up) (makes first.middle new told made)

module _ (Good : Answer → Type 0) (link : Link) (Asks : Type 0) (May : State → FtpError → Type 0) (coding : Coding) (called : Call) (lacks : (v : SessionValue) → refusal_of called v ≡ Lacking → Good answer.NoTransfer) (backed : (state : State) → Tells Good Asks May (dialogue coding called state)) where
  alone : (v w : SessionValue) (a : Answer) → PlaysAlone link coding called v w a → Results Good link Asks May v w a
  alone v w a made = alone_results Good link Asks May coding called v w a (lacks v) backed made

  pub plays_results : (old new : SessionValue) (told : Answer) → Plays link coding called old new told → Results Good link Asks May old new told
  plays_results old new told plays = go (due_of called old) refl plays.makes
    where
      go : (b : Bool) → due_of called old ≡ b → DrainsIf b (PlaysAlone link coding) called old new told → Results Good link Asks May old new told
      go false undue made = alone old new told made
      go true due drains =
          let first = alone_results IsNothing link ⊥ Never coding call.Drain old drains.middle drains.first (λ is. drain_goes called old due is) (drain_backed IsNothing tt coding) drains.drains in
          after_drain Good link Asks May (PlaysAlone link coding called) alone old new told drains.middle drains.first first (is_unit drains.first) refl drains.then_makes

  pub step_results : (drains called ≡ true → Good answer.Unit) → (old new : SessionValue) (told : Answer) → PlaysInStep link coding called old new told → Results Good link Asks May old new told
  step_results over old new told step = in_step Good link Asks May (Plays link coding called) plays_results old new told (reads_dropped_first called old) (is_plain_read called) (drains called) over step.plays

-- The reasons alone

module _ (link : Link) (Asks : Type 0) (May : State → FtpError → Type 0) (coding : Coding) (called : Call) (old new : SessionValue) (told : Answer) (backed : (state : State) → Backed Asks May (dialogue coding called state)) where
  pub alone_grounds : PlaysAlone link coding called old new told → Grounds link Asks May old new told
  alone_grounds alone = grounds_of link Asks May old new told (alone_results Any link Asks May coding called old new told (λ is. tt) backed alone)

  pub plays_grounds : Plays link coding called old new told → Grounds link Asks May old new told
  plays_grounds plays = grounds_of link Asks May old new told (plays_results Any link Asks May coding called (λ v is. tt) backed old new told plays)

  pub step_grounds : PlaysInStep link coding called old new told → Grounds link Asks May old new told
  step_grounds step = grounds_of link Asks May old new told (step_results Any link Asks May coding called (λ v is. tt) backed (λ is. tt) old new told step)
