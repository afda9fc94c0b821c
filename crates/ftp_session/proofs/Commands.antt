-- A command's own dialogue is that of its call.
use Rattle.std.proofs.Common.{◌≡◌, ◌++◌, ℕ, [], ◌∷◌, List, Option, Bool, true, false, cond, Result, Ok, Err, inl, inr, ◌⊎◌, refl, ap, sym, ◌∙◌, subst, append-nil}
use Rattle.std.specs.Prelude.{◌&&◌, ◌||◌, not}
use Rattle.ftp_base.specs.Status.{status_of}
use Rattle.ftp_base.specs.declared.status.Status.TheVariants.{ClosingDataConnection, RequestedFileActionOk}
use Rattle.ftp_base.specs.declared.types.reply.Response.{Response}
use Rattle.ftp_base.specs.declared.types.fault.FtpError.{FtpError}
use Rattle.ftp_base.specs.declared.types.fault.FtpError.TheVariants as fault
use Rattle.ftp_base.specs.declared.types.fault.ConnectionError.TheVariants as connection
use Rattle.ftp_control.specs.declared.control.outcome.Outcome.{Outcome}
use Rattle.ftp_control.specs.declared.control.outcome.Outcome.TheVariants.{Whole, Bad, TooLarge, Ended, Waits}
use Rattle.ftp_control.specs.Grammar.{outcome, left_by}
use Rattle.ftp_control.specs.Answer.{is_among}
use Rattle.ftp_transport.specs.declared.room.Room.TheVariants.{Any}
use Rattle.ftp_calls.specs.Exchanges.{drains, drains_first, finishes, is_local, is_read, negotiates, of_transfer, resyncs}
use Rattle.ftp_dialogue.specs.CatchingUp.{InStepIf, reads_dropped_first, has_dropped_replies, is_plain_read, opens_beside}
use Rattle.ftp_dialogue.specs.declared.state.Owed.{Owed}
use Rattle.ftp_dialogue.proofs.CatchingUpLemmas.{step_map}
use Rattle.ftp_calls.specs.declared.call.Call.{Call}
use Rattle.ftp_calls.specs.declared.call.Call.TheVariants.{Drain}
use Rattle.ftp_calls.specs.declared.call.Answer.{Answer}
use Rattle.ftp_calls.specs.declared.call.Answer.TheVariants.{Fault}
use Rattle.ftp_calls.specs.declared.exchange.Ending.TheVariants.{Drains}
use Rattle.ftp_calls.specs.declared.exchange.Turn.TheVariants.{First}
use Rattle.ftp_transfer.specs.Mark.{End}
use Rattle.ftp_dialogue.specs.declared.model.NetOutcome.{NetOutcome}
use Rattle.ftp_dialogue.specs.declared.model.Played.TheVariants as played
use Rattle.ftp_dialogue.specs.declared.model.PlayState.{PlayState}
use Rattle.ftp_dialogue.specs.declared.state.State.{State}
use Rattle.ftp_dialogue.specs.Coding.{Coding}
use Rattle.ftp_dialogue.specs.NetEvents.{outcomes_of}
use Rattle.ftp_dialogue.specs.Dialogue.{Expected, Tree, Say, Hear, Leaf, concluded, dialogue, expecting, later}
use Rattle.ftp_dialogue.specs.Link.{Link, unasked}
use Rattle.ftp_dialogue.specs.Play.{Refusal, Taken, Lacking, Failing, heard_then, is_unit, play, refused_if_failed, taken}
use Rattle.ftp_dialogue.specs.Promises.{Aborts, Completes, DrainsIf, IsPlayed, IsRefused, IsSilent, IsSuccess, IsWithheld, LeavesIf, MakesAfter, Plays, PlaysAlone, Refuses, begun_by, due_of, lacks_of, refusal_of, play_state}
use Rattle.ftp_dialogue.specs.Sound.{none_left, some_live}
use Rattle.ftp_dialogue.specs.State.{SessionValue, LetsGo}
use Rattle.ftp_dialogue.proofs.Hearing.{play-Hear}
use Rattle.ftp_dialogue.proofs.Moving.{play-Leaf, play-Refused, play-Say}
use Rattle.ftp_dialogue.proofs.TransitionsLemmas.{begun_plain}
use Rattle.ftp_session.specs.Commands.{Converses, FollowsIf, HasFailedBefore, MakesCommand, MakesTree, OnWire, PlaysBy, SucceedsOnWire, is_reply_due, line_sent}
use Rattle.ftp_session.specs.Handed.{PlaysSeen, as_seen}
use Rattle.ftp_session.specs.Trees.{drain_reply, drain_tree}

-- each error that is heard ends the dialogue, and is its answer
abbrev pub StopsAtFaults : Tree → Type 0
StopsAtFaults (Say line next) = StopsAtFaults next
StopsAtFaults (Hear expected next) =
    ((fault : FtpError) → (state : State) × (next (Err fault) ≡ Leaf (Fault fault) state)) × ((reply : Response) → StopsAtFaults (next (Ok reply)))
StopsAtFaults other = Unit {0}

-- a call is a command: it goes over the control connection, after the last reply of a transfer that was left, and neither
-- opens a data connection nor moves or ends a transfer
abbrev pub IsOneCommand : Call → Type 0
IsOneCommand call = (negotiates call ≡ false) × (is_local call ≡ false) × (of_transfer call ≡ false) × (finishes call ≡ false) × (drains_first call ≡ true) × (drains call ≡ false) × (resyncs call ≡ false)

-- and its dialogue is this tree
pub record IsCommand (coding : Coding) (call : Call) (tree : State → Tree) : Type 0 where
  pub sort : IsOneCommand call
  pub same : (state : State) → dialogue coding call state ≡ tree state
  pub stops : (state : State) → StopsAtFaults (tree state)

-- why a command isn't made
pub refusal_is : (call : Call) (v : SessionValue) → is_local call ≡ false → of_transfer call ≡ false → refusal_of call v ≡ refused_if_failed false v.channel.failed
refusal_is call v abroad none =
    let F : Bool → Refusal = λ b. cond (b && lacks_of call v) Lacking (refused_if_failed (is_local call) v.channel.failed) in
    ap F none ∙ ap (λ b. refused_if_failed b v.channel.failed) abroad

failed_before : (tells : Type 0) (call : Call) (old new : SessionValue) (answer : Answer) → refusal_of call old ≡ refused_if_failed false old.channel.failed → finishes call ≡ false → IsRefused tells call old new answer → HasFailedBefore old new answer
failed_before tells call old new answer why goes_on refused =
    let P : Refusal → Type 0 = λ r. Refuses r tells call old new answer in
    go old.channel.failed refl (subst P why refused)
  where
    go : (b : Bool) → old.channel.failed ≡ b → Refuses (refused_if_failed false b) tells call old new answer → HasFailedBefore old new answer
    go true failed refuses =
        let Q : Bool → Type 0 = λ f. LeavesIf f tells old new in
        record { failed = failed; is = refuses.0; unchanged = subst Q goes_on refuses.1 }
    go false going refuses = absurd refuses

-- a dialogue is made only where the session hasn't failed
going_if : (failed : Bool) → refused_if_failed false failed ≡ Taken → failed ≡ false
going_if true is = let clash : Failing ≡ Taken = is in cc
going_if false is = refl

converses : (link : Link) (coding : Coding) (call : Call) (tree : State → Tree) (old new : SessionValue) (answer : Answer) → refusal_of call old ≡ refused_if_failed false old.channel.failed → begun_by call old ≡ old → dialogue coding call old.state ≡ tree old.state → IsPlayed link coding call old new answer → Converses link (tree old.state) old new answer
converses link coding call tree old new answer why begins same played =
    let T : Tree → SessionValue → Type 0 = λ t v. Completes link t answer v played.last ⊎ Aborts link false t answer v played.last in
    let P : SessionValue → Type 0 = λ v. T (dialogue coding call old.state) v in
    let Q : Tree → Type 0 = λ t. T t old in
    record { going = going_if old.channel.failed (sym why ∙ played.going); last = played.last; plays = subst Q same (subst P begins played.plays); lets_go = played.lets_go }

-- an error is no success
no_success : (fault : FtpError) (answer : Answer) (s t : PlayState) → played.Done (Fault fault) s ≡ played.Done answer t → IsSuccess answer → ⊥
no_success fault answer s t is success =
    let same : answer ≡ Fault fault = cc in
    let P : Answer → Type 0 = IsSuccess in
    subst P same success

-- a dialogue that succeeded, on the wire
ends_silent : (answer answer' : Answer) (state : State) (s t : PlayState) → play Any (Leaf answer state) s ≡ played.Done answer' t → IsSilent s t
ends_silent answer answer' state s t is =
    let both : played.Done answer (record s { state = state }) ≡ played.Done answer' t = sym (play-Leaf Any answer state s) ∙ is in
    let same : t ≡ record s { state = state } = cc in
    (ap (λ x. x.said) same, ap (λ x. x.unsent) same, ap (λ x. x.bytes) same)

heard_on_wire : (expected : Expected) (next : Result Response FtpError → Tree) (answer : Answer) (s t : PlayState) → ((fault : FtpError) → (state : State) × (next (Err fault) ≡ Leaf (Fault fault) state)) → IsSuccess answer → ((reply : Response) (u : PlayState) → play Any (next (Ok reply)) u ≡ played.Done answer t → OnWire (next (Ok reply)) u t) → play Any (Hear expected next) s ≡ played.Done answer t → OnWire (Hear expected next) s t
heard_on_wire expected next answer s t stops success then_on_wire is = go (outcome s.state.settings.reply_rule expected.form s.bytes s.ended) refl (sym (play-Hear Any expected next s) ∙ is)
  where
    found : (fault : FtpError) (u : PlayState) → play Any (next (Err fault)) u ≡ played.Done answer t → ⊥
    found fault u done =
        let P : Tree → Type 0 = λ x. play Any x u ≡ played.Done answer t in
        no_success fault answer (record u { state = (stops fault).0 }) t (sym (play-Leaf Any (Fault fault) (stops fault).0 u) ∙ subst P (stops fault).1 done) success

    go : (o : Outcome) → outcome s.state.settings.reply_rule expected.form s.bytes s.ended ≡ o → heard_then o expected s (λ heard u. play Any (next heard) u) ≡ played.Done answer t → OnWire (Hear expected next) s t
    go (Whole body code) whole done =
        let reply : Response = record { status = status_of code; body = body } in
        let here : PlayState = taken (left_by (Whole body code) s.bytes) s in
        elim (is_among expected.statuses (status_of code)) as (λ b. is_among expected.statuses (status_of code) ≡ b → play Any (next (cond b (Ok reply) (Err (fault.UnexpectedResponse reply)))) here ≡ played.Done answer t → OnWire (Hear expected next) s t) [
          | true ↦ λ among done. (reply, code, record { whole = whole; status = refl; accepted = among }, then_on_wire reply here done)
          | false ↦ λ among done. absurd (found (fault.UnexpectedResponse reply) here done)
        ] refl done
    go (Bad line) whole done = absurd (found fault.BadResponse (taken (left_by (Bad line) s.bytes) s) done)
    go TooLarge whole done = absurd (found (fault.ConnectionError connection.ReplyTooLarge) (record (taken (left_by TooLarge s.bytes) s) { failed = true }) done)
    go Ended whole done = absurd (found (fault.ConnectionError connection.UnexpectedEof) (record (taken (left_by Ended s.bytes) s) { failed = true }) done)
    go Waits whole done = cc done

on_wire : (tree : Tree) (answer : Answer) (s t : PlayState) → StopsAtFaults tree → IsSuccess answer → play Any tree s ≡ played.Done answer t → OnWire tree s t
on_wire (Say (Ok line) next) answer s t stops success is = (line, refl, on_wire next answer (line_sent line s) t stops success (sym (play-Say Any line next s) ∙ is))
on_wire (Say (Err cause) next) answer s t stops success is = absurd (no_success (fault.ConnectionError cause) answer s t (sym (play-Refused Any cause next s) ∙ is) success)
on_wire (Hear expected next) answer s t stops success is = heard_on_wire expected next answer s t stops.0 success (λ reply u done. on_wire (next (Ok reply)) answer u t (stops.1 reply) success done) is
on_wire (Leaf answer' state) answer s t stops success is = ends_silent answer' answer state s t is
on_wire other answer s t stops success is = tt

completes_on_wire : (link : Link) (tree : Tree) (answer : Answer) (old last new : SessionValue) → LetsGo link.tells last new → StopsAtFaults tree → IsSuccess answer → Completes link tree answer old last → SucceedsOnWire link tree old new
completes_on_wire link tree answer old last new lets_go stops success done = record {
  last = last;
  lets_go = lets_go;
  came = done.came;
  answered = done.answered;
  goes = done.goes;
  wire = λ tells resumes.
      let ended = last.channel.ended in
      let is = done.plays tells resumes Any [] ended [] tt (record { nothing = λ e. refl; over = λ e. e }) in
      let F : List ℕ → PlayState = λ c. play_state old c ended (outcomes_of done.answered ++ []) in
      let G : List NetOutcome → PlayState = λ o. play_state old done.came ended o in
      let P : PlayState → Type 0 = λ s. play Any tree s ≡ played.Done answer (play_state last [] ended []) in
      on_wire tree answer (play_state old done.came ended (outcomes_of done.answered)) (play_state last [] ended []) stops success (subst P (ap F (append-nil done.came) ∙ ap G (append-nil (outcomes_of done.answered))) is);
}

-- a command by itself
succeeds_on_wire : (link : Link) (tree : Tree) (old new : SessionValue) (answer : Answer) → StopsAtFaults tree → HasFailedBefore old new answer ⊎ Converses link tree old new answer ⊎ IsWithheld old new answer → IsSuccess answer → SucceedsOnWire link tree old new
succeeds_on_wire link tree old new answer stops made success = go made
  where
    fault_is_none : (fault : FtpError) → answer ≡ Fault fault → ⊥
    fault_is_none fault is = let P : Answer → Type 0 = IsSuccess in subst P is success

    ends : (last : SessionValue) → LetsGo link.tells last new → Completes link tree answer old last ⊎ Aborts link false tree answer old last → SucceedsOnWire link tree old new
    ends last lets_go (inl done) = completes_on_wire link tree answer old last new lets_go stops success done
    ends last lets_go (inr aborts) = absurd (fault_is_none aborts.fault aborts.is)

    go : HasFailedBefore old new answer ⊎ Converses link tree old new answer ⊎ IsWithheld old new answer → SucceedsOnWire link tree old new
    go (inl failed) = absurd (fault_is_none fault.SessionFailed failed.is)
    go (inr (inl converses)) = ends converses.last converses.lets_go converses.plays
    go (inr (inr withheld)) = absurd (fault_is_none fault.OutOfMemory withheld.is)

-- by the tree of its dialogue
alone_tree : (link : Link) (coding : Coding) (call : Call) (tree : State → Tree) (old new : SessionValue) (answer : Answer) → refusal_of call old ≡ refused_if_failed false old.channel.failed → finishes call ≡ false → begun_by call old ≡ old → dialogue coding call old.state ≡ tree old.state → PlaysAlone link coding call old new answer → MakesTree link (tree old.state) old new answer
alone_tree link coding call tree old new answer why goes_on begins same alone = record { made = made alone.made; fails = alone.fails }
  where
    made : IsRefused link.tells call old new answer ⊎ IsPlayed link coding call old new answer ⊎ IsWithheld old new answer → HasFailedBefore old new answer ⊎ Converses link (tree old.state) old new answer ⊎ IsWithheld old new answer
    made (inl refused) = inl (failed_before link.tells call old new answer why goes_on refused)
    made (inr (inl played)) = inr (inl (converses link coding call tree old new answer why begins same played))
    made (inr (inr withheld)) = inr (inr withheld)

makes_command : (link : Link) (coding : Coding) (call : Call) (tree : State → Tree) (old new : SessionValue) (answer : Answer) → IsCommand coding call tree → PlaysAlone link coding call old new answer → MakesCommand link tree old new answer
makes_command link coding call tree old new answer is alone =
    let makes = alone_tree link coding call tree old new answer (refusal_is call old is.sort.1 is.sort.2) is.sort.3 (begun_plain call old is.sort.0 is.sort.3) (is.same old.state) alone in
    record { wired = succeeds_on_wire link (tree old.state) old new answer (is.stops old.state) makes.made; makes = makes }

-- the last reply of a transfer that was left
drain_replies : (coding : Coding) (state : State) (l : State → Tree) (heard : Result Response FtpError) → concluded coding Drains state l heard ≡ drain_reply state heard
drain_replies coding state l (Ok reply) = refl
drain_replies coding state l (Err fault) = refl

pub drain_is : (coding : Coding) (state : State) → dialogue coding Drain state ≡ drain_tree state
drain_is coding state = ap (λ next. Hear (expecting (ClosingDataConnection ∷ RequestedFileActionOk ∷ [])) next) (λ i r. drain_replies coding state (later coding Drain First) r i)

-- it is due only where the session hasn't failed, and a transfer was left
due_left : (failed none : Bool) → not (failed || none) ≡ true → none ≡ false
due_left true none due = let clash : false ≡ true = due in cc
due_left false true due = let clash : false ≡ true = due in cc
due_left false false due = refl

-- so its read isn't refused
drain_taken : (v : SessionValue) → is_reply_due v ≡ true → refusal_of Drain v ≡ refused_if_failed false v.channel.failed
drain_taken v due =
    let F : Bool → Refusal = λ b. cond b Lacking (refused_if_failed false v.channel.failed) in
    ap F (due_left v.channel.failed (none_left v.state.counts.owed) due)

drains_alone : (link : Link) (coding : Coding) (old new : SessionValue) (answer : Answer) → is_reply_due old ≡ true → PlaysAlone link coding Drain old new answer → MakesTree link (drain_tree old.state) old new answer
drains_alone link coding old new answer due alone = alone_tree link coding Drain drain_tree old new answer (drain_taken old due) refl refl (drain_is coding old.state) alone

-- a command, after that reply where it is due
due_is : (call : Call) (v : SessionValue) → drains_first call ≡ true → due_of call v ≡ is_reply_due v
due_is call v follows =
    ap (λ d. cond (v.channel.failed || none_left v.state.counts.owed) false d) follows ∙ turned (v.channel.failed || none_left v.state.counts.owed)
  where
    turned : (b : Bool) → cond b false true ≡ not b
    turned true = refl
    turned false = refl

-- the replies of dropped commands come before it, unless the session has failed
opens_none_beside : (call : Call) (o : Owed) → negotiates call ≡ false → resyncs call ≡ false → opens_beside call o ≡ false
opens_none_beside call o none seeks_none =
    let F : Bool → Bool → Bool = λ n r. some_live o && (n || r) in
    ap (λ n. F n (resyncs call)) none ∙ ap (λ r. F false r) seeks_none ∙ nothing (some_live o)
  where
    nothing : (b : Bool) → b && false ≡ false
    nothing true = refl
    nothing false = refl

behind_is : (call : Call) (v : SessionValue) → IsOneCommand call → reads_dropped_first call v ≡ has_dropped_replies v
behind_is call v sort =
    let F : Bool → Bool → Bool = λ d o. has_dropped_replies v && (d || drains call) && not o in
    ap (λ d. F d (opens_beside call v.state.counts.owed)) sort.4 ∙ ap (λ o. F true o) (opens_none_beside call v.state.counts.owed sort.0 sort.6) ∙ all (has_dropped_replies v) (drains call)
  where
    all : (b d : Bool) → b && (true || d) && not false ≡ b
    all true d = refl
    all false d = refl

plain_is : (call : Call) (plain : Bool) → is_read call ≡ plain → drains call ≡ false → is_plain_read call ≡ plain
plain_is call plain read none = ap (λ d. is_read call && not d) none ∙ all (is_read call) ∙ read
  where
    all : (b : Bool) → b && true ≡ b
    all true = refl
    all false = refl

pub plays_command : (link : Link) (coding : Coding) (call : Call) (plain : Bool) (tree : State → Tree) (mark after : Option End) (old new : SessionValue) (answer : Answer) → IsCommand coding call tree → is_read call ≡ plain → PlaysSeen link coding call mark after old new answer → PlaysBy plain link tree mark after old new answer
plays_command link coding call plain tree mark after old new answer is read seen =
    let v = as_seen after old in
    let M : SessionValue → SessionValue → Answer → Type 0 = λ v w a. FollowsIf (is_reply_due v) link tree v w a in
    let B : Bool → Type 0 = λ b. InStepIf b (unasked link) (is_plain_read call) (drains call) (Plays link coding call) v new answer in
    let P : Bool → Type 0 = λ p. InStepIf (has_dropped_replies v) (unasked link) p (drains call) (Plays link coding call) v new answer in
    let D : Bool → Type 0 = λ d. InStepIf (has_dropped_replies v) (unasked link) plain d (Plays link coding call) v new answer in
    record { looks = seen.looks; plays = step_map (has_dropped_replies v) (unasked link) plain false (Plays link coding call) M v new answer follows (subst D is.sort.5 (subst P (plain_is call plain read is.sort.5) (subst B (behind_is call v is.sort) seen.plays.plays))) }
  where
    goes : (b : Bool) (first : Answer) (middle w : SessionValue) (a : Answer) → MakesAfter b first (PlaysAlone link coding call) middle w a → MakesAfter b first (MakesCommand link tree) middle w a
    goes true first middle w a alone = makes_command link coding call tree middle w a is alone
    goes false first middle w a stops = stops

    go : (v w : SessionValue) (a : Answer) (b : Bool) → is_reply_due v ≡ b → DrainsIf b (PlaysAlone link coding) call v w a → FollowsIf b link tree v w a
    go v w a true due drains = record { middle = drains.middle; first = drains.first; drains = drains_alone link coding v drains.middle drains.first due drains.drains; then_makes = goes (is_unit drains.first) drains.first drains.middle w a drains.then_makes }
    go v w a false due alone = makes_command link coding call tree v w a is alone

    follows : (v w : SessionValue) (a : Answer) → Plays link coding call v w a → FollowsIf (is_reply_due v) link tree v w a
    follows v w a plays =
        let P : Bool → Type 0 = λ b. DrainsIf b (PlaysAlone link coding) call v w a in
        go v w a (is_reply_due v) refl (subst P (due_is call v is.sort.4) plays.makes)
