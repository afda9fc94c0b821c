-- Lemmas on replies that are due to commands that were dropped.
use Rattle.std.specs.Prelude.{not}
use Rattle.std.proofs.Common.{◌≡◌, ◌⊎◌, ◌≤◌, ◌&&◌, ◌||◌, ◌<◌, ◌+◌, ◌==◌, ℕ, zero, suc, Bool, true, false, cond, Option, Some, None, List, [], Result, Ok, Err, inl, inr, refl, ap, sym, ◌∙◌, subst, arith}
use Rattle.futures.specs.declared.task.Poll.{Poll}
use Rattle.futures.specs.declared.task.Poll.TheVariants.{Ready, Pending}
use Rattle.ftp_base.specs.declared.types.reply.Response.{Response}
use Rattle.ftp_base.specs.declared.types.fault.FtpError.{FtpError}
use Rattle.ftp_base.specs.declared.types.fault.FtpError.TheVariants.{BadResponse, OutOfMemory, SessionFailed}
use Rattle.ftp_base.specs.declared.types.fault.FtpError.TheVariants as faults
use Rattle.ftp_calls.specs.declared.call.Answer.{Answer}
use Rattle.ftp_calls.specs.declared.call.Answer.TheVariants.{Unit as Nothing, Fault}
use Rattle.ftp_control.specs.Channel.{Channel}
use Rattle.ftp_control.specs.Saying.{SaysLine, due}
use Rattle.ftp_calls.specs.Exchanges.{draining_row, drains, drains_first, is_draining, is_finishing, is_local, moving_row, of_transfer, row_of}
use Rattle.ftp_calls.specs.declared.exchange.Row.{Row}
use Rattle.ftp_calls.specs.declared.exchange.Row.TheVariants.{Exchanges, Arms}
use Rattle.ftp_calls.specs.declared.exchange.Turn.TheVariants.{First}
use Rattle.ftp_calls.specs.declared.call.Call.{Call}
use Rattle.ftp_dialogue.specs.CatchingUp.{After, CatchesUp, Flushes, SendsTail, InStepIf, MakesThen, CatchesUpReadIf, PollsReadInStep, ReadsDue, ReadsIf, PlaysInStep, TellsFault, ReadsThen, fault_told, flushing, reads_dropped_first, is_caught_up, has_dropped_replies, is_plain_read, opens_beside, told_by, told_of_line}
use Rattle.ftp_dialogue.specs.Coding.{Coding}
use Rattle.ftp_dialogue.specs.NetEvents.{Net}
use Rattle.ftp_dialogue.specs.Dialogue.{Expected, Tree, Say, Leaf, expecting}
use Rattle.ftp_calls.specs.declared.call.Call.TheVariants.{Drain}
use Rattle.ftp_dialogue.specs.Play.{Refusal, Taken, Lacking, Failing, refused_if_failed}
use Rattle.ftp_dialogue.specs.Sound.{none_left}
use Rattle.ftp_dialogue.specs.Link.{Link, unasked}
use Rattle.ftp_dialogue.specs.Promises.{Aborts, Completes, Leads, Plays, refusal_of}
use Rattle.ftp_dialogue.specs.Reading.{PollsRead, ReadsAlone, ReadsCounted, ReadsUnless}
use Rattle.ftp_dialogue.specs.State.{SessionValue}
use Rattle.ftp_dialogue.specs.declared.state.State.{State}
use Rattle.ftp_dialogue.specs.Steps.Moving.{Advances, Ends, MadeDrained, Steps, after_line, step_of, withheld}
use Rattle.ftp_dialogue.proofs.DrainingLemmas.{drained_plays}
use Rattle.ftp_dialogue.proofs.TransitionsLemmas.{withheld_plays}
use Rattle.ftp_dialogue.proofs.Moving.{lacks_memory_first, leaf_ends, line_said, line_taken}

-- the unsent tail goes out, as a line of no bytes does
module _ (link : Link) (state : State) (net : Net) (a b : Channel) (line : Option (List ℕ)) (going : a.failed ≡ false) where
  abbrev v : SessionValue
  v = record { channel = a; state = state; net = net }

  abbrev w : SessionValue
  w = record { channel = b; state = state; net = net }

  steps : (answer : Poll (Result (Unit {0}) FtpError)) → SaysLine link.tells link.writes a b None line answer → Steps link false (flushing state) (after_line (step_of answer) line (Leaf Nothing state)) v w (step_of answer)
  steps answer says = line_said link state net a b None line answer going says false (Leaf Nothing state)

  gone : Advances link (flushing state) (Leaf Nothing state) v w → Completes link (flushing state) Nothing v w
  gone advances = (leaf_ends link (flushing state) Nothing v w w advances.moves (λ f. inl (sym advances.failed ∙ f)) refl refl).completes

  failed : (fault : FtpError) → Ends link (flushing state) (Fault fault) v w ⊎ Aborts link false (flushing state) (Fault fault) v w → Completes link (flushing state) (Fault fault) v w ⊎ Aborts link false (flushing state) (Fault fault) v w
  failed fault (inl ends) = inl ends.completes
  failed fault (inr aborts) = inr aborts

  waits : line ≡ None → Advances link (flushing state) (Say (Ok (due line)) (Leaf Nothing state)) v w → Leads link (flushing state) (flushing state) v w
  waits none advances =
      let P : Option (List ℕ) → Type 0 = λ l. Leads link (flushing state) (Say (Ok (due l)) (Leaf Nothing state)) v w in
      subst P none advances.moves.leads

  no_line : (line ≡ None) ⊎ (line ≡ None) → line ≡ None
  no_line (inl is) = is
  no_line (inr is) = is

  tail_said : (answer : Poll (Result (Unit {0}) FtpError)) → SaysLine link.tells link.writes a b None line answer → SendsTail link v w (told_of_line answer)
  tail_said (Ready (Ok done)) says = gone (steps (Ready (Ok done)) says)
  tail_said (Ready (Err fault)) says = failed fault (steps (Ready (Err fault)) says)
  tail_said Pending says = (waits (no_line (line_taken link state net a b None line Pending says).whole) (steps Pending says).0, record { some = says.leaves.0; full = says.leaves.1 })

  pub flush_said : (answer : Poll (Result (Unit {0}) FtpError)) → SaysLine link.tells link.writes a b None line answer → Flushes link v w (told_of_line answer)
  flush_said answer says = record { sends = tail_said answer says; beside = (let F : Channel → SessionValue = λ c. record { channel = c; state = state; net = net } in ap F says.same) }

  -- it fails the session only where an error is told
  pub flush_fails : (answer : Poll (Result (Unit {0}) FtpError)) → SaysLine link.tells link.writes a b None line answer → b.failed ≡ true → (a.failed ≡ true) ⊎ TellsFault (told_of_line answer)
  flush_fails (Ready (Ok done)) says f = inl (sym (steps (Ready (Ok done)) says).failed ∙ f)
  flush_fails (Ready (Err fault)) says f = inr tt
  flush_fails Pending says f = inl (sym (steps Pending says).0.failed ∙ f)

-- One reply after another

module _ (plain : Bool) (link : Link) where
  abbrev Rest : ℕ → SessionValue → SessionValue → Poll (Option FtpError) → Type 0
  Rest n = λ v w r. ReadsDue plain n link v w r

  -- where none is due
  pub reads_none : (left : ℕ) (v : SessionValue) → 0 < left → is_caught_up plain v.state ≡ true → ReadsDue plain left link v v (Ready None)
  unfolding ReadsDue
  reads_none zero v some none = let clash : ⊥ = omega (arith, some) in absurd clash
  reads_none (suc left) v some none =
      let P : Bool → Type 0 = λ b. ReadsIf b link (Rest left) v v (Ready None) in
      subst P (sym none) (refl, refl)

  -- where one is due it is read, and what comes then is told
  reads_one : (left less : ℕ) (a b c : SessionValue) (heard : Poll (Result Response FtpError)) (result : Poll (Option FtpError)) → 0 < left → left ≡ less + 1 → is_caught_up plain a.state ≡ false → ReadsAlone link (expecting []) a b heard → After (Rest less) (told_by heard) b c result → ReadsDue plain left link a c result
  unfolding ReadsDue
  reads_one zero less a b c heard result some is due reads then = let clash : ⊥ = omega (arith, some) in absurd clash
  reads_one (suc left) less a b c heard result some is due reads then =
      let same : less ≡ left = omega (arith, is) in
      let N : ℕ → Type 0 = λ n. After (Rest n) (told_by heard) b c result in
      let P : Bool → Type 0 = λ b. ReadsIf b link (Rest left) a c result in
      subst P (sym due) (record { middle = b; heard = heard; reads = reads; then_reads = subst N same then })

  module _ (left less : ℕ) (a b : SessionValue) (heard : Poll (Result Response FtpError)) (some : 0 < left) (is : left ≡ less + 1) (some_due : is_caught_up plain a.state ≡ false) (reads : ReadsAlone link (expecting []) a b heard) where
    -- an error is told
    pub reads_fault : (found : Result Response FtpError) (fault : FtpError) → heard ≡ Ready found → Some fault ≡ fault_told found → ReadsDue plain left link a b (Ready (Some fault))
    reads_fault found fault given told =
        let H : Poll (Result Response FtpError) → Type 0 = λ h. After (Rest less) (told_by h) b b (Ready (Some fault)) in
        let T : Option FtpError → Type 0 = λ f. After (Rest less) (Ready f) b b (Ready (Some fault)) in
        reads_one left less a b b heard (Ready (Some fault)) some is some_due reads (subst H (sym given) (subst T told (refl, refl)))

    -- it is waited for
    pub reads_waits : heard ≡ Pending → ReadsDue plain left link a b Pending
    reads_waits given =
        let H : Poll (Result Response FtpError) → Type 0 = λ h. After (Rest less) (told_by h) b b Pending in
        reads_one left less a b b heard Pending some is some_due reads (subst H (sym given) (refl, refl))

    -- others may be due
    pub reads_more : (found : Result Response FtpError) (c : SessionValue) (result : Poll (Option FtpError)) → heard ≡ Ready found → None ≡ fault_told found → ReadsDue plain less link b c result → ReadsDue plain left link a c result
    reads_more found c result given told then =
        let H : Poll (Result Response FtpError) → Type 0 = λ h. After (Rest less) (told_by h) b c result in
        let T : Option FtpError → Type 0 = λ f. After (Rest less) (Ready f) b c result in
        reads_one left less a b c heard result some is some_due reads (subst H (sym given) (subst T told then))

-- the session fails only where an error is told

any_tree : State → Result Response FtpError → Tree
any_tree state heard = Leaf Nothing state

pub alone_fails : (link : Link) (old new : SessionValue) (heard : Poll (Result Response FtpError)) → ReadsAlone link (expecting []) old new heard → new.channel.failed ≡ true → (old.channel.failed ≡ true) ⊎ TellsFault (told_by heard)
alone_fails link old new heard reads failed = go old.channel.failed refl reads
  where
    counted : (h : Poll (Result Response FtpError)) → ReadsCounted link (expecting []) old new h → (old.channel.failed ≡ true) ⊎ TellsFault (told_by h)
    counted (Ready (Ok reply)) c = inl (sym (ap (λ v. v.channel.failed) c.counts ∙ c.goes_on tt) ∙ failed)
    counted (Ready (Err (faults.UnexpectedResponse reply))) c = inl (sym (ap (λ v. v.channel.failed) c.counts ∙ c.goes_on tt) ∙ failed)
    counted (Ready (Err (faults.ConnectionError why))) c = inr tt
    counted (Ready (Err (faults.SecureError text))) c = inr tt
    counted (Ready (Err faults.BadResponse)) c = inr tt
    counted (Ready (Err faults.InvalidAddress)) c = inr tt
    counted (Ready (Err faults.DataConnectionAlreadyOpen)) c = inr tt
    counted (Ready (Err faults.OutOfMemory)) c = inr tt
    counted (Ready (Err faults.SessionFailed)) c = inr tt
    counted Pending c = inl (sym (ap (λ v. v.channel.failed) c.counts ∙ (c.reads (any_tree old.state)).1.failed) ∙ failed)

    go : (b : Bool) → old.channel.failed ≡ b → ReadsUnless b link (expecting []) old new heard → (old.channel.failed ≡ true) ⊎ TellsFault (told_by heard)
    go true was refuses = inl was
    go false going c = counted heard c

-- what came after a part told of it, or the session had failed before
after_fails : (Next : SessionValue → SessionValue → Poll (Option FtpError) → Type 0) (told : Poll (Option FtpError)) (old middle new : SessionValue) (result : Poll (Option FtpError)) → (Next middle new result → new.channel.failed ≡ true → (middle.channel.failed ≡ true) ⊎ TellsFault result) → (middle.channel.failed ≡ true → (old.channel.failed ≡ true) ⊎ TellsFault told) → After Next told middle new result → new.channel.failed ≡ true → (old.channel.failed ≡ true) ⊎ TellsFault result
after_fails Next (Ready None) old middle new result next first after failed = go (next after failed)
  where
    none : (old.channel.failed ≡ true) ⊎ TellsFault (Ready None) → (old.channel.failed ≡ true) ⊎ TellsFault result
    none (inl was) = inl was
    none (inr told) = absurd told

    go : (middle.channel.failed ≡ true) ⊎ TellsFault result → (old.channel.failed ≡ true) ⊎ TellsFault result
    go (inl was) = none (first was)
    go (inr told) = inr told
after_fails Next (Ready (Some fault)) old middle new result next first after failed = inr (subst TellsFault (sym after.0) tt)
after_fails Next Pending old middle new result next first after failed =
    let T : Poll (Option FtpError) → Type 0 = λ r. (old.channel.failed ≡ true) ⊎ TellsFault r in
    subst T (sym after.0) (first (sym (ap (λ v. v.channel.failed) after.1) ∙ failed))

pub due_fails : (plain : Bool) (link : Link) (left : ℕ) (old new : SessionValue) (result : Poll (Option FtpError)) → ReadsDue plain left link old new result → new.channel.failed ≡ true → (old.channel.failed ≡ true) ⊎ TellsFault result
unfolding ReadsDue
due_fails plain link zero old new result ends failed = inr (subst TellsFault (sym ends.0) tt)
due_fails plain link (suc left) old new result reads failed = go (λ v w r. due_fails plain link left v w r) (is_caught_up plain old.state) reads
  where
    go : ((v w : SessionValue) (r : Poll (Option FtpError)) → ReadsDue plain left link v w r → w.channel.failed ≡ true → (v.channel.failed ≡ true) ⊎ TellsFault r) → (b : Bool) → ReadsIf b link (λ v w r. ReadsDue plain left link v w r) old new result → (old.channel.failed ≡ true) ⊎ TellsFault result
    go others true none = inl (sym (ap (λ v. v.channel.failed) none.1) ∙ failed)
    go others false one = after_fails (λ v w r. ReadsDue plain left link v w r) (told_by one.heard) old one.middle new result (others one.middle new result) (alone_fails link old one.middle one.heard one.reads) one.then_reads failed

-- where no more are counted
pub reads_no_more : (plain : Bool) (link : Link) (left : ℕ) (v : SessionValue) → left ≤ 0 → ReadsDue plain left link v v (Ready (Some BadResponse))
unfolding ReadsDue
reads_no_more plain link zero v none = (refl, refl)
reads_no_more plain link (suc left) v none = let clash : ⊥ = omega (arith, none) in absurd clash

-- a call that reads replies first

pub behind_late : (call : Call) (v : SessionValue) → reads_dropped_first call v ≡ true → has_dropped_replies v ≡ true
behind_late call v behind = go (has_dropped_replies v) refl behind
  where
    go : (b : Bool) → has_dropped_replies v ≡ b → b && (drains_first call || drains call) && not (opens_beside call v.state.counts.owed) ≡ true → has_dropped_replies v ≡ true
    go true is behind = is
    go false is behind = let clash : false ≡ true = behind in cc

pub late_going : (v : SessionValue) → has_dropped_replies v ≡ true → v.channel.failed ≡ false
late_going v late = go v.channel.failed refl late
  where
    go : (b : Bool) → v.channel.failed ≡ b → not (b || (v.state.unanswered == 0)) ≡ true → v.channel.failed ≡ false
    go true is late = let clash : false ≡ true = late in cc
    go false is late = is

pub behind_going : (call : Call) (v : SessionValue) → reads_dropped_first call v ≡ true → v.channel.failed ≡ false
behind_going call v behind = late_going v (behind_late call v behind)

module _ (link : Link) (plain ends : Bool) (Makes : SessionValue → SessionValue → Answer → Type 0) (call : Call) (old middle new : SessionValue) (answer : Answer) where
  -- none are due
  pub in_step : reads_dropped_first call old ≡ false → Makes old new answer → InStepIf (reads_dropped_first call old) link plain ends Makes old new answer
  in_step none makes =
      let P : Bool → Type 0 = λ b. InStepIf b link plain ends Makes old new answer in
      subst P (sym none) makes

  first : (fault : Option FtpError) (result : Poll (Option FtpError)) → reads_dropped_first call old ≡ true → CatchesUp link plain old middle result → result ≡ Ready fault → MakesThen fault ends Makes middle new answer → InStepIf (reads_dropped_first call old) link plain ends Makes old new answer
  first fault result behind catches is then =
      let P : Bool → Type 0 = λ b. InStepIf b link plain ends Makes old new answer in
      let C : Poll (Option FtpError) → Type 0 = λ r. CatchesUp link plain old middle r in
      subst P (sym behind) (record { middle = middle; fault = fault; catches_up = subst C is catches; then_makes = then })

  -- an error of them is the answer
  pub step_fails : (fault : FtpError) (result : Poll (Option FtpError)) → reads_dropped_first call old ≡ true → CatchesUp link plain old middle result → result ≡ Ready (Some fault) → answer ≡ Fault fault → new ≡ middle → InStepIf (reads_dropped_first call old) link plain ends Makes old new answer
  step_fails fault result behind catches is told same = first (Some fault) result behind catches is (told, same)

  -- they were read, and so was the last reply of a transfer that was left
  pub step_ends : (result : Poll (Option FtpError)) → reads_dropped_first call old ≡ true → CatchesUp link plain old middle result → result ≡ Ready None → ends ≡ true → answer ≡ Nothing → new ≡ middle → InStepIf (reads_dropped_first call old) link plain ends Makes old new answer
  step_ends result behind catches is over told same =
      let E : Bool → Type 0 = λ e. MakesThen None e Makes middle new answer in
      first None result behind catches is (subst E (sym over) (told, same))

  -- they were read, and the call is made
  pub step_goes_on : (result : Poll (Option FtpError)) → reads_dropped_first call old ≡ true → CatchesUp link plain old middle result → result ≡ Ready None → ends ≡ false → Makes middle new answer → InStepIf (reads_dropped_first call old) link plain ends Makes old new answer
  step_goes_on result behind catches is more makes =
      let E : Bool → Type 0 = λ e. MakesThen None e Makes middle new answer in
      first None result behind catches is (subst E (sym more) makes)

-- a polled read, after what is due before it
module _ (link : Link) (coding : Coding) (codes : Expected) (old middle new : SessionValue) (caught : Poll (Option FtpError)) (result : Poll (Result Response FtpError)) where
  pub reads_at_once : has_dropped_replies old ≡ false → PollsRead link coding codes old new result → PollsReadInStep link coding codes old new result
  reads_at_once none reads =
      let P : Bool → Type 0 = λ b. CatchesUpReadIf b link coding codes old new result in
      record { reads = subst P (sym none) reads }

  pub reads_caught_up : (told : Poll (Option FtpError)) → has_dropped_replies old ≡ true → CatchesUp link true old middle caught → caught ≡ told → ReadsThen told link coding codes middle new result → PollsReadInStep link coding codes old new result
  reads_caught_up told late catches is then =
      let P : Bool → Type 0 = λ b. CatchesUpReadIf b link coding codes old new result in
      let T : Poll (Option FtpError) → Type 0 = λ f. ReadsThen f link coding codes middle new result in
      record { reads = subst P (sym late) (record { middle = middle; caught = caught; catches_up = catches; then_reads = subst T (sym is) then }) }

-- a call of no transfer is no read of a last reply
row_undrained : (row : Row) → moving_row row ≡ false → draining_row row ≡ false
row_undrained (Exchanges exchange) none = go (is_finishing exchange.ending) none
  where
    go : (b : Bool) → b || is_draining exchange.ending ≡ false → is_draining exchange.ending ≡ false
    go true none = let clash : true ≡ false = none in cc
    go false none = none
row_undrained (Arms offset) none = refl
row_undrained other none = refl

pub undrained : (call : Call) → of_transfer call ≡ false → drains call ≡ false
undrained call none = row_undrained (row_of call First) none

-- a read of the last reply of a transfer that was left isn't refused for want of it
pub drain_held : (v : SessionValue) → none_left v.state.counts.owed ≡ false → refusal_of Drain v ≡ Lacking → ⊥
drain_held v left is =
    let F : Bool → Refusal = λ n. cond n Lacking (refused_if_failed false v.channel.failed) in
    go v.channel.failed (sym (ap F left) ∙ is)
  where
    go : (failed : Bool) → refused_if_failed false failed ≡ Lacking → ⊥
    go true is = let clash : Failing ≡ Lacking = is in cc
    go false is = let clash : Taken ≡ Lacking = is in cc

-- what is made in step, by what is made of the call
pub step_map : (behind : Bool) (link : Link) (plain ends : Bool) (Makes Makes' : SessionValue → SessionValue → Answer → Type 0) (old new : SessionValue) (answer : Answer) → ((v w : SessionValue) (a : Answer) → Makes v w a → Makes' v w a) → InStepIf behind link plain ends Makes old new answer → InStepIf behind link plain ends Makes' old new answer
step_map false link plain ends Makes Makes' old new answer map makes = map old new answer makes
step_map true link plain ends Makes Makes' old new answer map first = record { middle = first.middle; fault = first.fault; catches_up = first.catches_up; then_makes = go first.fault ends first.then_makes }
  where
    go : (fault : Option FtpError) (e : Bool) → MakesThen fault e Makes first.middle new answer → MakesThen fault e Makes' first.middle new answer
    go (Some fault) e then = then
    go None true then = then
    go None false then = map first.middle new answer then

pub plays_in_step : (link : Link) (coding : Coding) (call : Call) (old new : SessionValue) (answer : Answer) → InStepIf (reads_dropped_first call old) (unasked link) (is_plain_read call) (drains call) (MadeDrained link coding call) old new answer → PlaysInStep link coding call old new answer
plays_in_step link coding call old new answer made = record { plays = step_map (reads_dropped_first call old) (unasked link) (is_plain_read call) (drains call) (MadeDrained link coding call) (Plays link coding call) old new answer (λ v w a. drained_plays link coding call v w a) made }

-- a call whose arguments found no memory
withheld_caught : (link : Link) (plain : Bool) (v : SessionValue) → CatchesUp link plain v v (Ready (Some OutOfMemory))
withheld_caught link plain v = record { flushed = v; flush = Ready (Some OutOfMemory); flushes = record { sends = inr (lacks_memory_first link (flushing v.state) v); beside = refl }; then_reads = (refl, refl) }

pub withheld_in_step : (link : Link) (coding : Coding) (call : Call) (v : SessionValue) → is_local call ≡ false → of_transfer call ≡ false → PlaysInStep link coding call v v (Fault (withheld v))
withheld_in_step link coding call v abroad none = record { plays = go (reads_dropped_first call v) refl }
  where
    go : (b : Bool) → reads_dropped_first call v ≡ b → InStepIf b (unasked link) (is_plain_read call) (drains call) (Plays link coding call) v v (Fault (withheld v))
    go false is = withheld_plays link coding call v abroad none
    go true is =
        let F : Bool → FtpError = λ b. cond b SessionFailed OutOfMemory in
        record { middle = v; fault = Some OutOfMemory; catches_up = withheld_caught (unasked link) (is_plain_read call) v; then_makes = (ap (λ b. Fault (F b)) (behind_going call v is), refl) }
