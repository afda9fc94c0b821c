-- Failures that are counted while a session is put under TLS, or taken from under it.
use Rattle.std.proofs.Common.{◌≡◌, ℕ, Bool, true, false, List, [], ◌∷◌, Option, Result, Ok, Err, inl, inr, ◌⊎◌, refl, ap, sym, ◌∙◌, subst}
use Rattle.std.specs.Prelude.{IfErr, codes}
use Rattle.ftp_base.specs.declared.command.Command.TheVariants.{Custom}
use Rattle.ftp_base.specs.declared.status.Status.{Status}
use Rattle.ftp_base.specs.declared.status.Status.TheVariants.{AuthOk, CommandOk}
use Rattle.ftp_base.specs.declared.types.fault.FtpError.{FtpError}
use Rattle.ftp_base.specs.declared.types.fault.FtpError.TheVariants as faults
use Rattle.ftp_base.specs.declared.types.reply.Response.{Response}
use Rattle.ftp_transport.specs.Told.{Told}
use Rattle.ftp_calls.specs.declared.call.Answer.{Answer}
use Rattle.ftp_calls.specs.declared.call.Answer.TheVariants.{Fault, Reply}
use Rattle.ftp_calls.specs.declared.call.Call.TheVariants.{CustomCommand}
use Rattle.ftp_calls.specs.declared.exchange.Codes.TheVariants.{Given}
use Rattle.ftp_transfer.specs.Mark.{End}
use Rattle.ftp_dialogue.specs.CatchingUp.{has_dropped_replies}
use Rattle.ftp_dialogue.specs.Coding.{Coding}
use Rattle.ftp_dialogue.specs.Counted.{CountsFailure}
use Rattle.ftp_dialogue.specs.Dialogue.{Tree}
use Rattle.ftp_dialogue.specs.Link.{Link}
use Rattle.ftp_dialogue.specs.Play.{is_unit}
use Rattle.ftp_dialogue.specs.Promises.{IsWithheld}
use Rattle.ftp_dialogue.specs.State.{SessionValue}
use Rattle.ftp_dialogue.specs.Steps.Moving.{withheld}
use Rattle.ftp_dialogue.specs.declared.state.State.{State}
use Rattle.ftp_session.specs.Calls.{reply_answer}
use Rattle.ftp_session.specs.Commands.{Converses, FollowsIf, HasFailedBefore, MakesCommand, MakesTree, PlaysCommand, is_reply_due}
use Rattle.ftp_session.specs.Counting.{CountsClearing, CountsSecuring, FailsInChange, OnceAccepted}
use Rattle.ftp_session.specs.Handed.{as_seen}
use Rattle.ftp_session.specs.Securing.{AfterChange, Changes, ChangesThen, Clears, CommandThen, OnAccepted, Protects, ProtectsData, Secures, SecuresFrom, ClearsFrom, failed_if, secured, unchanged}
use Rattle.ftp_session.specs.Trees.{drain_tree, reply_tree}
use Rattle.ftp_dialogue.proofs.Backed.{Any, Backed, Tells, clash}
use Rattle.ftp_session.proofs.Calm.{calm_seen}
use Rattle.ftp_session.proofs.Commands.{drain_is}
use Rattle.ftp_dialogue.proofs.EveryStage.{IsNothing, Never, drain_backed, plain_backed}
use Rattle.ftp_session.proofs.Grounds.{Results, after_calm, after_drain, in_step, made_results, never_to, of_whole, told_as}
use Rattle.ftp_session.proofs.Reasons.{said_failed, to_counts}
use Rattle.ftp_session.proofs.Trees.{reply_is}

-- the reasons of an error that a call without another gives
abbrev Counts : Link → SessionValue → SessionValue → FtpError → Type 0
Counts link old new fault = Results Any link ⊥ Never old new (Fault fault)

error_as : (fault why : FtpError) → ◌≡◌ {A = Result (Unit {0}) FtpError} (Err fault) (Err why) → Fault fault ≡ Fault why
error_as fault why is = (let same : fault ≡ why = cc in ap Fault same)

-- what is known of an error that is no other
same_error : (link : Link) (old middle new : SessionValue) (fault why : FtpError) → new.channel.told ≡ middle.channel.told → ◌≡◌ {A = Result (Unit {0}) FtpError} (Err fault) (Err why) → Counts link old middle why → Counts link old new fault
same_error link old middle new fault why told is counts = told_as Any link ⊥ Never old new (Fault fault) (Fault why) (error_as fault why is) (never_to link old middle new why told counts)

told_if : (late : Bool) (v : SessionValue) → (failed_if late v).channel.told ≡ v.channel.told
told_if true v = refl
told_if false v = refl

-- A command that is accepted, or not

-- by the tree of its dialogue
module _ (link : Link) (coding : Coding) (tree : State → Tree) (backed : (state : State) → Backed ⊥ Never (tree state)) where
  tree_results : (Good : Answer → Type 0) (t : Tree) → Tells Good ⊥ Never t → (old new : SessionValue) (told : Answer) → MakesTree link t old new told → Results Good link ⊥ Never old new told
  tree_results Good t tells old new told makes = go makes.made
    where
      go : HasFailedBefore old new told ⊎ Converses link t old new told ⊎ IsWithheld old new told → Results Good link ⊥ Never old new told
      go (inl failed) = told_as Good link ⊥ Never old new told (Fault faults.SessionFailed) failed.is (λ grave. inl failed.failed)
      go (inr (inl made)) = of_whole Good link ⊥ Never old old made.last new told refl refl made.lets_go (made_results Good link ⊥ Never t told old made.last tells false made.plays)
      go (inr (inr withheld)) = told_as Good link ⊥ Never old new told (Fault faults.OutOfMemory) withheld.is (λ grave. absurd grave)

  command_results : (old new : SessionValue) (told : Answer) → MakesCommand link tree old new told → Results Any link ⊥ Never old new told
  command_results old new told made = tree_results Any (tree old.state) (backed old.state) old new told made.makes

  follows_results : (old new : SessionValue) (told : Answer) → FollowsIf (is_reply_due old) link tree old new told → Results Any link ⊥ Never old new told
  follows_results old new told follows = go (is_reply_due old) follows
    where
      go : (b : Bool) → FollowsIf b link tree old new told → Results Any link ⊥ Never old new told
      go false made = command_results old new told made
      go true f =
          let P : Tree → Type 0 = Tells IsNothing ⊥ Never in
          let first = tree_results IsNothing (drain_tree old.state) (subst P (drain_is coding old.state) (drain_backed IsNothing tt coding old.state)) old f.middle f.first f.drains in
          after_drain Any link ⊥ Never (MakesCommand link tree) command_results old new told f.middle f.first first (is_unit f.first) refl f.then_makes

  plays_results : (mark after : Option End) (old new : SessionValue) (told : Answer) → PlaysCommand link tree mark after old new told → Results Any link ⊥ Never old new told
  plays_results mark after old new told plays =
      let v = as_seen after old in
      after_calm Any link ⊥ Never old v new told (calm_seen link after old)
      (in_step Any link ⊥ Never (λ x y a. FollowsIf (is_reply_due x) link tree x y a) follows_results v new told (has_dropped_replies v) false false (λ is. tt) plays.plays)

-- a line of the caller's, of which one status is accepted
abbrev Sends : Link → Coding → List ℕ → Status → Option End → Option End → SessionValue → SessionValue → Answer → Type 0
Sends link coding line status mark after old new told = PlaysCommand link (reply_tree coding (Custom line) (Given (status ∷ []))) mark after old new told

custom_results : (link : Link) (coding : Coding) (line : List ℕ) (status : Status) (mark after : Option End) (old new : SessionValue) (told : Answer) → Sends link coding line status mark after old new told → Results Any link ⊥ Never old new told
custom_results link coding line status mark after old new told plays = plays_results link coding (reply_tree coding (Custom line) (Given (status ∷ []))) backed mark after old new told plays
  where
    backed : (state : State) → Backed ⊥ Never (reply_tree coding (Custom line) (Given (status ∷ [])) state)
    backed state =
        let P : Tree → Type 0 = Backed ⊥ Never in
        subst P ((reply_is coding (CustomCommand line (status ∷ [])) (Custom line) (Given (status ∷ [])) refl).same state) (plain_backed coding (CustomCommand line (status ∷ [])) (refl, refl, refl) state)

-- it isn't, or what follows it ends with the error
command_cases : {R : Type 0} (late : Bool) (link : Link) (coding : Coding) (line : List ℕ) (status : Status) (Next : Option End → SessionValue → Type 0) (mark after : Option End) (old new : SessionValue) (fault : FtpError) → CommandThen late link coding line status Next mark after old new (Err fault) → (Counts link old new fault → R) → ((between : Option End) (at : SessionValue) (reply : Response) → Sends link coding line status mark between old at (Reply reply) → Next between at → R) → R
command_cases {R} late link coding line status Next mark after old new fault command fails goes_on = go command.reply command.plays command.later
  where
    go : (reply : Result Response FtpError) → Sends link coding line status mark command.between old command.middle (reply_answer reply) → OnAccepted late Next reply command.between after command.middle new (Err fault) → R
    go (Ok reply) plays next = goes_on command.between command.middle reply plays next
    go (Err why) plays stops = fails (same_error link old command.middle new fault why (ap (λ v. v.channel.told) stops.2 ∙ told_if late command.middle) stops.0 (custom_results link coding line status mark command.between old command.middle (Fault why) plays))

-- Protected data connections

protect_counts : (link : Link) (coding : Coding) (mark after : Option End) (old new : SessionValue) (fault : FtpError) → Protects link coding mark after old new (Err fault) → Counts link old new fault
protect_counts link coding mark after old new fault protects =
    command_cases true link coding (codes "PBSZ 0") CommandOk (λ between middle. ProtectsData link coding between after middle new (Err fault)) mark after old new fault protects (λ counts. counts) then
  where
    then : (between : Option End) (at : SessionValue) (reply : Response) → Sends link coding (codes "PBSZ 0") CommandOk mark between old at (Reply reply) → ProtectsData link coding between after at new (Err fault) → Counts link old new fault
    then between at reply plays protects =
        let calm = (custom_results link coding (codes "PBSZ 0") CommandOk mark between old at (Reply reply) plays).1 in
        command_cases true link coding (codes "PROT P") CommandOk (λ last v. ◌≡◌ {A = Result (Unit {0}) FtpError} (Err fault) (Ok tt) × (after ≡ last) × (new ≡ v)) between after at new fault protects
        (λ counts. after_calm Any link ⊥ Never old at new (Fault fault) calm counts)
        (λ last v reply plays next. (let wrong : ◌≡◌ {A = Result (Unit {0}) FtpError} (Err fault) (Ok tt) = next.0 in cc))

-- The change

module _ (link : Link) (handshake : Told → Result Told FtpError → Type 0) (coding : Coding) (mark after : Option End) (old new : SessionValue) (fault : FtpError) where
  -- the control connection as it was, seen or not
  of_seen : (seen : Option End) → Counts link (as_seen seen old) new fault → Counts link old new fault
  of_seen seen counts = after_calm Any link ⊥ Never old (as_seen seen old) new (Fault fault) (calm_seen link seen old) counts

  beside_counts : ◌≡◌ {A = Result (Unit {0}) FtpError} (Err fault) (Err faults.DataConnectionAlreadyOpen) → Counts link old new fault
  beside_counts is = told_as Any link ⊥ Never old new (Fault fault) (Fault faults.DataConnectionAlreadyOpen) (error_as fault faults.DataConnectionAlreadyOpen is) (λ grave. absurd grave)

  withheld_counts : (v : SessionValue) → ◌≡◌ {A = Result (Unit {0}) FtpError} (Err fault) (Err (withheld v)) → Counts link v new fault
  withheld_counts v is = told_as Any link ⊥ Never v new (Fault fault) (Fault (withheld v)) (error_as fault (withheld v) is) (said_failed link ⊥ Never v new faults.OutOfMemory (λ grave. grave))

  before_counts : Counts link old new fault → CountsSecuring link handshake coding mark old new fault
  before_counts reasons = let counts = to_counts link old new (Fault fault) reasons in record { counted = λ kind is h. inl (counts.counted kind (ap Fault is) h); had_failed = λ is. inl (counts.had_failed (ap Fault is)) }

  pub secures_count : Secures link handshake coding mark after old new (Err fault) → CountsSecuring link handshake coding mark old new fault
  secures_count secures = go secures.secures
    where
      accepted : (between : Option End) (at : SessionValue) (reply : Response) → Sends link coding (codes "AUTH TLS") AuthOk secures.seen between (as_seen secures.seen old) at (Reply reply) → ChangesThen link handshake coding between after at new (Err fault) → CountsSecuring link handshake coding mark old new fault
      accepted between at reply plays changes = then changes.changed changes.changes changes.then_protects
        where
          once : (Is : Told → Type 0) → Is at.channel.told → OnceAccepted link coding (codes "AUTH TLS") AuthOk mark old Is
          once Is is = record { seen = secures.seen; looks = secures.looks; between = between; at = at; reply = reply; plays = plays; is = is }

          gave : handshake at.channel.told (Err fault) → CountsSecuring link handshake coding mark old new fault
          gave made = record {
            counted = λ kind is h. inr (once (λ told. FailsInChange handshake fault told new.channel.told) (inl made));
            had_failed = λ is. inr (once (λ told. handshake told (Err fault)) made);
          }

          then : (changed : Result (Unit {0}) FtpError) → Changes link.tells handshake secured at changes.middle changed → AfterChange link coding changed between after changes.middle new (Err fault) → CountsSecuring link handshake coding mark old new fault
          then (Err why) fails stops =
              let P : FtpError → Type 0 = λ f. handshake at.channel.told (Err f) in
              let same : why ≡ fault = (let both : ◌≡◌ {A = Result (Unit {0}) FtpError} (Err fault) (Err why) = stops.0 in cc both) in
              gave (subst P same fails.made)
          then (Ok done) made protects =
              let counts = to_counts link changes.middle new (Fault fault) (protect_counts link coding between after changes.middle new fault protects) in
              let P : Told → Type 0 = λ t. CountsFailure t new.channel.told in
              record {
                counted = λ kind is h. inr (once (λ told. FailsInChange handshake fault told new.channel.told) (inr (made.0, made.1.made, subst P (made.1.begins h) (counts.counted kind (ap Fault is) h))));
                had_failed = λ is. clash (sym (counts.had_failed (ap Fault is)) ∙ made.1.idle.failed);
              }

      go : SecuresFrom link handshake coding secures.seen after (as_seen secures.seen old) new (Err fault) → CountsSecuring link handshake coding mark old new fault
      go (inl beside) = before_counts (beside_counts beside.1)
      go (inr (inl memory)) = before_counts (of_seen secures.seen (withheld_counts (as_seen secures.seen old) memory.1))
      go (inr (inr (none, command))) =
          command_cases false link coding (codes "AUTH TLS") AuthOk (λ between middle. ChangesThen link handshake coding between after middle new (Err fault)) secures.seen after (as_seen secures.seen old) new fault command
          (λ counts. before_counts (of_seen secures.seen counts)) accepted

  clear_counts : Counts link old new fault → CountsClearing link handshake coding mark old new fault
  clear_counts reasons = let counts = to_counts link old new (Fault fault) reasons in record { counted = λ kind is h. inl (counts.counted kind (ap Fault is) h); had_failed = λ is. inl (counts.had_failed (ap Fault is)) }

  pub clears_count : Clears link handshake coding mark after old new (Err fault) → CountsClearing link handshake coding mark old new fault
  clears_count clears = go clears.clears
    where
      accepted : (between : Option End) (at : SessionValue) (reply : Response) → Sends link coding (codes "CCC") CommandOk clears.seen between (as_seen clears.seen old) at (Reply reply) → Changes link.tells handshake unchanged at new (Err fault) × (after ≡ between) → CountsClearing link handshake coding mark old new fault
      accepted between at reply plays (fails, marks) =
          let once : OnceAccepted link coding (codes "CCC") CommandOk mark old (λ told. handshake told (Err fault)) = record { seen = clears.seen; looks = clears.looks; between = between; at = at; reply = reply; plays = plays; is = fails.made } in
          record { counted = λ kind is h. inr once; had_failed = λ is. inr once }

      go : ClearsFrom link handshake coding clears.seen after (as_seen clears.seen old) new (Err fault) → CountsClearing link handshake coding mark old new fault
      go (inl beside) = clear_counts (beside_counts beside.1)
      go (inr (none, command)) =
          command_cases false link coding (codes "CCC") CommandOk (λ between middle. Changes link.tells handshake unchanged middle new (Err fault) × (after ≡ between)) clears.seen after (as_seen clears.seen old) new fault command
          (λ counts. clear_counts (of_seen clears.seen counts)) accepted

module _ (link : Link) (handshake : Told → Result Told FtpError → Type 0) (coding : Coding) (mark after : Option End) (old new : SessionValue) where
  pub securing_counts : (result : Result (Unit {0}) FtpError) → Secures link handshake coding mark after old new result → IfErr result (λ fault. CountsSecuring link handshake coding mark old new fault)
  securing_counts (Ok done) secures = tt
  securing_counts (Err fault) secures = secures_count link handshake coding mark after old new fault secures

  pub clearing_counts : (result : Result (Unit {0}) FtpError) → Clears link handshake coding mark after old new result → IfErr result (λ fault. CountsClearing link handshake coding mark old new fault)
  clearing_counts (Ok done) clears = tt
  clearing_counts (Err fault) clears = clears_count link handshake coding mark after old new fault clears
