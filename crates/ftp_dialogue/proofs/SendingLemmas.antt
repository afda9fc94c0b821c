-- Lemmas on the steps of a whole upload.
use Rattle.std.proofs.Common.{◌≡◌, ◌≤◌, ◌-◌, ℕ, zero, suc, Bool, true, false, cond, nat_le, Option, Some, None, List, [], ◌∷◌, drop, length, Result, Ok, Err, inl, inr, refl, ap, sym, ◌∙◌, subst, arith}
use Rattle.std.proofs.lemmas.Bool.{leb-true}
use Rattle.std.specs.declared.io.ErrorKind.{ErrorKind}
use Rattle.std.specs.declared.io.ErrorKind.TheVariants.{WriteZero}
use Rattle.futures.specs.declared.task.Poll.{Poll}
use Rattle.futures.specs.declared.task.Poll.TheVariants as poll
use Rattle.ftp_base.specs.declared.types.fault.FtpError.{FtpError}
use Rattle.ftp_base.specs.declared.types.fault.FtpError.TheVariants.{ConnectionError}
use Rattle.ftp_base.specs.declared.types.fault.ConnectionError.TheVariants.{Io, SourceTooLarge}
use Rattle.ftp_transport.specs.Told.{Told}
use Rattle.ftp_calls.specs.declared.call.Answer.TheVariants.{Count, Fault}
use Rattle.ftp_calls.specs.declared.call.Call.{Call}
use Rattle.ftp_calls.specs.declared.exchange.Fetch.TheVariants.{Whole}
use Rattle.ftp_calls.specs.declared.exchange.Movement.TheVariants as movement
use Rattle.ftp_calls.specs.declared.exchange.Task.{Task}
use Rattle.ftp_calls.specs.declared.exchange.Task.TheVariants as task
use Rattle.ftp_calls.specs.declared.exchange.Turn.TheVariants.{First}
use Rattle.ftp_dialogue.specs.declared.model.NetOutcome.{NetOutcome}
use Rattle.ftp_dialogue.specs.declared.model.NetOutcome.TheVariants as came
use Rattle.ftp_dialogue.specs.declared.stage.Transferring.{Transferring as Fetched}
use Rattle.ftp_dialogue.specs.declared.stage.Transferring.TheVariants.{Starting, Gathering, Sending}
use Rattle.ftp_dialogue.specs.declared.stage.Stage.{Stage}
use Rattle.ftp_dialogue.specs.declared.stage.Stage.TheVariants.{Transferring}
use Rattle.ftp_dialogue.specs.declared.stage.Step.{Step}
use Rattle.ftp_dialogue.specs.declared.stage.Step.TheVariants.{Next, Pending, Done}
use Rattle.ftp_dialogue.specs.declared.state.State.{State}
use Rattle.ftp_dialogue.specs.Coding.{Coding}
use Rattle.ftp_dialogue.specs.NetEvents.{Net, WriteIs, answers}
use Rattle.ftp_dialogue.specs.Sending.{SendsBy}
use Rattle.ftp_dialogue.specs.Dialogue.{Tree, Move, Leaf, fetch_closing_data, giving_up, most_reads, on_sent, sending, sending_all, size_to_send, storing, with_abandoned}
use Rattle.ftp_base.specs.Ascii.{most_bytes, wire_data}
use Rattle.ftp_dialogue.specs.Link.{Link}
use Rattle.ftp_dialogue.specs.State.{SessionValue}
use Rattle.ftp_dialogue.specs.Steps.Moving.{AsksFirst, MakesStep, Moves, MovesBy, Sends, StartsStore, StartsTask, Still, closing_with}
use Rattle.ftp_dialogue.specs.Steps.Stages.{MayFetch, MayPerform, fetch_left}
use Rattle.ftp_dialogue.proofs.Moving.{leaf_ends}
use Rattle.ftp_dialogue.proofs.NegotiationLemmas.{moved_through, unasked_through, unchanged_still}
use Rattle.ftp_dialogue.proofs.FetchingLemmas.{fetch_on, fetch_starts}

-- what is left where all bytes have gone out, where no other write is made, and after a write
pub sending_over : (left total : ℕ) (state : State) → sending left total [] state ≡ fetch_closing_data Whole (Count total) state
unfolding sending
sending_over zero total state = refl
sending_over (suc left) total state = refl

pub sending_none : (total byte : ℕ) (rest : List ℕ) (state : State) → sending zero total (byte ∷ rest) state ≡ giving_up (ConnectionError (Io WriteZero)) state
unfolding sending
sending_none total byte rest state = refl

pub sending_is : (left total byte : ℕ) (rest : List ℕ) (state : State) → sending (suc left) total (byte ∷ rest) state ≡ Move (movement.Write (byte ∷ rest)) (on_sent (byte ∷ rest) (λ more. sending left total more state) state)
unfolding sending
sending_is left total byte rest state = refl

-- bytes that can be sent are so many at most
size_within : (bytes : List ℕ) (total : ℕ) → size_to_send bytes ≡ Some total → total ≤ most_bytes
size_within bytes total is = go (nat_le (length bytes) most_bytes) refl is
  where
    go : (b : Bool) → nat_le (length bytes) most_bytes ≡ b → cond b (Some (length bytes)) None ≡ Some total → total ≤ most_bytes
    go true fits found =
        let some : ℕ → Option ℕ → ℕ = λ other o. elim o as (λ _. ℕ) [
          | Some n ↦ n
          | None ↦ other
        ] in
        let same : length bytes ≡ total = ap (some 0) found in
        omega (arith, leb-true (length bytes) most_bytes fits, same)
    go false fits found = let clash : None ≡ Some total = found in cc

module _ (link : Link) (coding : Coding) (call : Call) where
  -- the upload can't go on
  pub gives_up : (f : Fetched) (stage' : Stage) (fault : FtpError) (old mid new : SessionValue) → Still link (fetch_left coding old.state f) (giving_up fault old.state) old mid → new ≡ record mid { state = with_abandoned mid.state } → MakesStep link coding call (Transferring f) stage' old new (Done (Fault fault))
  gives_up f stage' fault old mid new still same =
      let tree : Tree = fetch_left coding old.state f in
      let moves = still.advances.moves in
      let T : Tree → Type 0 = λ t. Moves link tree t old mid in
      let state : with_abandoned old.state ≡ new.state = ap with_abandoned (sym moves.state) ∙ sym (ap (λ v. v.state) same) in
      record {
        steps = inl (leaf_ends link tree (Fault fault) old mid new (subst T (ap (λ s. Leaf (Fault fault) s) state) moves) (λ f. inr tt) (ap (λ v. v.channel) same) (ap (λ v. v.net) same));
        quiet = tt;
        begun = tt;
        answers = (First, inr tt, tt);
        fewer = λ is. let clash : Done (Fault fault) ≡ Next = is in cc;
        stage_of = tt;
      }

  -- no byte was written yet
  pub store_starts : (bytes : List ℕ) (total : ℕ) (v : SessionValue) → MayFetch call Whole → size_to_send (wire_data v.state.settings.text bytes) ≡ Some total → MakesStep link coding call (Transferring (Starting (task.Store bytes))) (Transferring (Sending total total (wire_data v.state.settings.text bytes))) v v Next
  store_starts bytes total v may size =
      let bytes_sent : List ℕ = wire_data v.state.settings.text bytes in
      let led : storing bytes v.state ≡ sending total total bytes_sent v.state = ap (λ s. sending_all s bytes_sent v.state) size in
      fetch_on link coding call (Starting (task.Store bytes)) (Transferring (Sending total total bytes_sent)) v v (unchanged_still link (storing bytes v.state) (sending total total bytes_sent v.state) v v refl (sym led)) refl (omega (arith, size_within bytes_sent total size)) may

  pub store_too_large : (bytes : List ℕ) (stage' : Stage) (old new : SessionValue) → size_to_send (wire_data old.state.settings.text bytes) ≡ None → new ≡ record old { state = with_abandoned old.state } → MakesStep link coding call (Transferring (Starting (task.Store bytes))) stage' old new (Done (Fault (ConnectionError SourceTooLarge)))
  store_too_large bytes stage' old new size same =
      let bytes_sent : List ℕ = wire_data old.state.settings.text bytes in
      let fault : FtpError = ConnectionError SourceTooLarge in
      let led : storing bytes old.state ≡ giving_up fault old.state = ap (λ s. sending_all s bytes_sent old.state) size in
      gives_up (Starting (task.Store bytes)) stage' fault old old new (unchanged_still link (storing bytes old.state) (giving_up fault old.state) old old refl (sym led)) same

  -- a whole file or listing begins
  pub task_starts : (what : Task) (stage' : Stage) (old new : SessionValue) (result : Step) → MayPerform call what → StartsTask what stage' old new result → MakesStep link coding call (Transferring (Starting what)) stage' old new result
  task_starts (task.Fetch form) stage' old new result may (is, at, same) =
      let R : Step → Type 0 = λ r. MakesStep link coding call (Transferring (Starting (task.Fetch form))) stage' old new r in
      let S : Stage → Type 0 = λ s. MakesStep link coding call (Transferring (Starting (task.Fetch form))) s old new Next in
      let V : SessionValue → Type 0 = λ v. MakesStep link coding call (Transferring (Starting (task.Fetch form))) (Transferring (Gathering form most_reads [])) old v Next in
      subst R (sym is) (subst S (sym at) (subst V (sym same) (fetch_starts link coding call form old may)))
  task_starts (task.Store bytes) stage' old new result may starts = go (size_to_send wire) refl starts
    where
      wire : List ℕ
      wire = wire_data old.state.settings.text bytes

      N : Stage → SessionValue → Step → Type 0
      N s v r = MakesStep link coding call (Transferring (Starting (task.Store bytes))) s old v r

      go : (size : Option ℕ) → size_to_send wire ≡ size → StartsStore size wire stage' old new result → N stage' new result
      go (Some total) fits (is, at, same) =
          let R : Step → Type 0 = N stage' new in
          let S : Stage → Type 0 = λ s. N s new Next in
          let V : SessionValue → Type 0 = λ v. N (Transferring (Sending total total wire)) v Next in
          subst R (sym is) (subst S (sym at) (subst V (sym same) (store_starts bytes total old may fits)))
      go None large (is, same) =
          let R : Step → Type 0 = N stage' new in
          subst R (sym is) (store_too_large bytes stage' old new large same)

  -- all bytes have gone out
  pub all_sent : (left total : ℕ) (rest : List ℕ) (v : SessionValue) → rest ≡ [] → MayFetch call Whole → MakesStep link coding call (Transferring (Sending left total rest)) (closing_with Whole (Count total)) v v Next
  all_sent left total rest v none may =
      let B : List ℕ → Type 0 = λ l. MakesStep link coding call (Transferring (Sending left total l)) (closing_with Whole (Count total)) v v Next in
      subst B (sym none) (fetch_on link coding call (Sending left total []) (closing_with Whole (Count total)) v v (unchanged_still link (sending left total [] v.state) (fetch_closing_data Whole (Count total) v.state) v v refl (sym (sending_over left total v.state))) refl (omega arith) (may, refl))

  -- no other write is made
  pub none_sent : (left total : ℕ) (rest : List ℕ) (stage' : Stage) (old new : SessionValue) → left ≡ 0 → (rest ≡ [] → ⊥) → new ≡ record old { state = with_abandoned old.state } → MakesStep link coding call (Transferring (Sending left total rest)) stage' old new (Done (Fault (ConnectionError (Io WriteZero))))
  none_sent left total [] stage' old new none some same = absurd (some refl)
  none_sent left total (byte ∷ rest) stage' old new none some same =
      let fault : FtpError = ConnectionError (Io WriteZero) in
      let B : ℕ → Type 0 = λ n. MakesStep link coding call (Transferring (Sending n total (byte ∷ rest))) stage' old new (Done (Fault fault)) in
      subst B (sym none) (gives_up (Sending zero total (byte ∷ rest)) stage' fault old old new (unchanged_still link (sending zero total (byte ∷ rest) old.state) (giving_up fault old.state) old old refl (sym (sending_none total byte rest old.state))) same)

  module _ (n total byte : ℕ) (more : List ℕ) (old : SessionValue) where
    abbrev all : List ℕ
    all = byte ∷ more

    abbrev on : List ℕ → Tree
    on l = sending n total l old.state

    abbrev here : Fetched
    here = Sending (suc n) total all

    -- a write led here
    written : (outcome : NetOutcome) (mid : SessionValue) → MovesBy link (movement.Write all) old mid outcome → Still link (sending (suc n) total all old.state) (on_sent all on old.state outcome) old mid
    written outcome mid moves =
        let S : Tree → Type 0 = λ t. Still link t (on_sent all on old.state outcome) old mid in
        subst S (sym (sending_is n total byte more old.state)) (moves (on_sent all on old.state))

    wrote_some : (count : ℕ) (all' : List ℕ) (new : SessionValue) → MayFetch call Whole → all' ≡ drop count all → MovesBy link (movement.Write all) old new (came.Wrote count) → MakesStep link coding call (Transferring here) (Transferring (Sending n total all')) old new Next
    wrote_some count all' new may is moves =
        let B : List ℕ → Type 0 = λ l. MakesStep link coding call (Transferring here) (Transferring (Sending n total l)) old new Next in
        subst B (sym is) (fetch_on link coding call here (Transferring (Sending n total (drop count all))) old new (written (came.Wrote count) new moves) refl (omega arith) may)

    wrote_none : (kind : ErrorKind) (stage' : Stage) (mid new : SessionValue) → MovesBy link (movement.Write all) old mid (came.Failed kind) → new ≡ record mid { state = with_abandoned mid.state } → MakesStep link coding call (Transferring here) stage' old new (Done (Fault (ConnectionError (Io kind))))
    wrote_none kind stage' mid new moves same = gives_up here stage' (ConnectionError (Io kind)) old mid new (written (came.Failed kind) mid moves) same

    writes_later : (all' : List ℕ) (new : SessionValue) → MayFetch call Whole → all' ≡ all → ((tree : Tree) → Still link tree tree old new) → link.asks_wait → MakesStep link coding call (Transferring here) (Transferring (Sending (suc n) total all')) old new Pending
    writes_later all' new may same still waits =
        let P : List ℕ → Type 0 = λ l. MakesStep link coding call (Transferring here) (Transferring (Sending (suc n) total l)) old new Pending in
        let A : Tree → Type 0 = AsksFirst in
        subst P (sym same) (record {
          steps = ((still (sending (suc n) total all old.state)).advances, inr (inr (record { asks = subst A (sym (sending_is n total byte more old.state)) tt; may = waits })));
          quiet = tt;
          begun = (λ has. inl refl, λ none. let clash : true ≡ false = none in cc);
          answers = tt;
          fewer = λ is. let clash : Pending ≡ Next = is in cc;
          stage_of = may;
        })

  -- the same of bytes of which some are left, by a write of several that may be made
  pub sent_some : (left total : ℕ) (rest rest' : List ℕ) (old new : SessionValue) → MayFetch call Whole → (left ≡ 0 → ⊥) → (rest ≡ [] → ⊥) → Sends link rest rest' old new (Ok (poll.Ready tt)) → MakesStep link coding call (Transferring (Sending left total rest)) (Transferring (Sending (left - 1) total rest')) old new Next
  sent_some zero total rest rest' old new may several some sends = absurd (several refl)
  sent_some (suc n) total [] rest' old new may several some sends = absurd (some refl)
  sent_some (suc n) total (byte ∷ more) rest' old new may several some sends =
      let e : suc n - 1 ≡ n = omega arith in
      let B : ℕ → Type 0 = λ k. MakesStep link coding call (Transferring (Sending (suc n) total (byte ∷ more))) (Transferring (Sending k total rest')) old new Next in
      subst B (sym e) (wrote_some n total byte more old sends.0 rest' new may sends.1 sends.2)

  pub sent_none : (left total : ℕ) (rest rest' : List ℕ) (kind : ErrorKind) (stage' : Stage) (old mid new : SessionValue) → (left ≡ 0 → ⊥) → (rest ≡ [] → ⊥) → Sends link rest rest' old mid (Err kind) → new ≡ record mid { state = with_abandoned mid.state } → MakesStep link coding call (Transferring (Sending left total rest)) stage' old new (Done (Fault (ConnectionError (Io kind))))
  sent_none zero total rest rest' kind stage' old mid new several some sends same = absurd (several refl)
  sent_none (suc n) total [] rest' kind stage' old mid new several some sends same = absurd (some refl)
  sent_none (suc n) total (byte ∷ more) rest' kind stage' old mid new several some sends same = wrote_none n total byte more old kind stage' mid new sends same

  pub sends_later : (left total : ℕ) (rest rest' : List ℕ) (old new : SessionValue) → MayFetch call Whole → (left ≡ 0 → ⊥) → (rest ≡ [] → ⊥) → Sends link rest rest' old new (Ok poll.Pending) → MakesStep link coding call (Transferring (Sending left total rest)) (Transferring (Sending left total rest')) old new Pending
  sends_later zero total rest rest' old new may several some sends = absurd (several refl)
  sends_later (suc n) total [] rest' old new may several some sends = absurd (some refl)
  sends_later (suc n) total (byte ∷ more) rest' old new may several some (same, still, waits) = writes_later n total byte more old rest' new may same still waits

-- what a write takes of an upload's bytes is a write to the data connection
pub sends_so : (link : Link) (view old : SessionValue) (t u : Told) (rest rest' : List ℕ) (r : Result (Poll (Unit {0})) ErrorKind) → view ≡ old → view.net.data_conn ≡ Some t → SendsBy link.tells rest rest' t u r → (r ≡ Ok poll.Pending → link.asks_wait) → Sends link rest rest' old (record view { net = record view.net { data_conn = Some u } }) r
sends_so link view old t u rest rest' r same held sends waits = go r sends waits
  where
    net' : Net
    net' = record view.net { data_conn = Some u }

    by : (outcome : NetOutcome) → answers (movement.Write rest) outcome ≡ true → (link.tells → WriteIs rest outcome t u) → MovesBy link (movement.Write rest) old (record view { net = net' }) outcome
    by outcome fits tie next = moved_through link (movement.Write rest) outcome view old net' same (λ h. (fits, (t, u, held, refl, tie h))) next

    go : (r : Result (Poll (Unit {0})) ErrorKind) → SendsBy link.tells rest rest' t u r → (r ≡ Ok poll.Pending → link.asks_wait) → Sends link rest rest' old (record view { net = net' }) r
    go (Ok (poll.Ready done)) (count, is, tie) waits = (count, is, by (came.Wrote count) refl tie)
    go (Err kind) (is, tie) waits = by (came.Failed kind) refl tie
    go (Ok poll.Pending) (is, tie) waits =
        let D : Option Told → Net = λ d. record view.net { data_conn = d } in
        (is, λ tree. unasked_through link view old net' same (λ h. ap (λ x. D (Some x)) (tie h) ∙ ap D (sym held)) tree, waits refl)
