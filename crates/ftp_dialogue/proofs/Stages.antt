-- Lemmas on the stages of a call.
use Rattle.std.proofs.Common.{◌≡◌, ℕ, ◌+◌, ◌-◌, ◌<◌, Bool, true, false, ◌&&◌, Option, Some, None, is_none, List, length, Result, Ok, inl, inr, ◌⊎◌, refl, ap, sym, ◌∙◌, subst, arith}
use Rattle.ftp_base.specs.declared.command.Command.{Command}
use Rattle.ftp_base.specs.declared.types.fault.ConnectionError.{ConnectionError as Cause}
use Rattle.ftp_control.specs.Saying.{due, said}
use Rattle.ftp_calls.specs.declared.call.Call.{Call}
use Rattle.ftp_calls.specs.declared.exchange.Turn.{Turn}
use Rattle.ftp_calls.specs.declared.exchange.Turn.TheVariants.{First, Second, Passive, ExtendedPassive, Active, Restart, Closed, Aborted}
use Rattle.ftp_dialogue.specs.declared.stage.Awaits.{Awaits}
use Rattle.ftp_dialogue.specs.declared.stage.Stage.{Stage}
use Rattle.ftp_dialogue.specs.declared.stage.Stage.TheVariants.{Composing, Saying, Hearing, SettingOffset}
use Rattle.ftp_dialogue.specs.declared.stage.AfterLine.{AfterLine}
use Rattle.ftp_dialogue.specs.declared.stage.AfterLine.TheVariants.{Hears, Recovers}
use Rattle.ftp_dialogue.specs.declared.stage.Recovery.TheVariants.{Abort, Resync}
use Rattle.ftp_dialogue.specs.Coding.{Coding}
use Rattle.ftp_calls.specs.declared.exchange.Exchange.{Exchange}
use Rattle.ftp_calls.specs.declared.exchange.Row.TheVariants.{Exchanges, Arms, Resyncs}
use Rattle.ftp_calls.specs.Exchanges.{ending_of, is_read, only_reads, reads, resyncing_row, row_of}
use Rattle.ftp_calls.proofs.Openings.{read_opens_none}
use Rattle.ftp_dialogue.proofs.Sorts.{finishing_no_read, aborts_finish}
use Rattle.ftp_dialogue.specs.Dialogue.{expected_of, Tree, Say, saying, awaiting, doing, later, most_passed_over}
use Rattle.ftp_dialogue.specs.Steps.Stages.{Begun, NodeOf, SaidOf, StageOf, StepAnswers, TurnOf, awaits_of, begun_at, is_later, line_of, nodes_from, nodes_left, nodes_said, remaining, said_left, stage_said}
use Rattle.ftp_dialogue.specs.declared.stage.Step.{Step}
use Rattle.ftp_dialogue.specs.declared.stage.Step.TheVariants.{Next, Pending, Done}
use Rattle.ftp_dialogue.specs.declared.state.State.{State}
use Rattle.ftp_base.specs.declared.types.fault.FtpError.{FtpError}
use Rattle.ftp_calls.specs.declared.call.Answer.{Answer}
use Rattle.ftp_calls.specs.declared.call.Answer.TheVariants.{Fault}
use Rattle.ftp_dialogue.specs.Link.{Link}
use Rattle.ftp_dialogue.specs.State.{SessionValue}
use Rattle.ftp_dialogue.specs.Steps.Moving.{Advances, BeginsHere, HasBegun, MakesStep, NothingTouched, SaysNode, TakesLine}

and_false : (b : Bool) → b && false ≡ false
and_false true = refl
and_false false = refl

-- fewer nodes are left than at a turn's beginning
module _ (turn : Turn) where
  some_nodes : most_passed_over + 4 < nodes_from turn
  some_nodes = elim turn as (λ t. most_passed_over + 4 < nodes_from t) [
    | First ↦ omega arith
    | Second ↦ omega arith
    | Passive offset after ↦ omega arith
    | ExtendedPassive offset tries ↦ omega arith
    | Active address offset ↦ omega arith
    | Restart offset ↦ omega arith
    | Closed close ↦ omega arith
    | Aborted ↦ omega arith
  ]

  one_fewer : nodes_from turn - 1 < nodes_from turn
  one_fewer = omega (arith, some_nodes)

  two_fewer : nodes_from turn - 2 < nodes_from turn
  two_fewer = omega (arith, some_nodes)

  pub line_fewer : nodes_from turn - 2 < nodes_from turn - 1
  line_fewer = omega (arith, some_nodes)

  search_fewer : most_passed_over + 1 < nodes_from turn - 2
  search_fewer = omega (arith, some_nodes)

-- a turn that comes later is none of a plain read
pub later_is_no_read : (call : Call) (turn : Turn) → TurnOf call turn → is_later turn ≡ true → is_read call ≡ false
later_is_no_read call Second of later = of.0
later_is_no_read call (Passive offset after) of later = read_opens_none call of
later_is_no_read call (Restart offset) of later = read_opens_none call of
later_is_no_read call Aborted of later = finishing_no_read call (aborts_finish call of)
later_is_no_read call other of later = let clash : false ≡ true = later in cc

-- a line that is said first
said_first : (coding : Coding) (command : Option Command) (line : List ℕ) (next : Tree) → is_none command ≡ false → line_of coding command ≡ Ok line → Say (Ok line) next ≡ saying coding command next
said_first coding None line next some is = let clash : true ≡ false = some in cc
said_first coding (Some command) line next some is =
    let S : Result (List ℕ) Cause → Tree = λ l. Say l next in
    ap S (sym is)

-- a call that says something is no plain read
pub no_read : (call : Call) (turn : Turn) (exchange : Exchange) → row_of call turn ≡ Exchanges exchange → TurnOf call turn → is_none exchange.says ≡ false → is_read call ≡ false
no_read call First exchange row of some = ap reads row ∙ ap (λ b. only_reads exchange.ending && b) some ∙ and_false (only_reads exchange.ending)
no_read call Second exchange row of some = of.0
no_read call (Closed close) exchange row of some = finishing_no_read call of
no_read call Aborted exchange row of some = finishing_no_read call (aborts_finish call of)
no_read call other exchange row of some = read_opens_none call of

-- a line that hasn't begun to go out
unbegun : (line : Option (List ℕ)) (a : Awaits) → is_none line ≡ false → begun_at (Saying line (Hears a)) ≡ a.begun
unbegun None a some = let clash : true ≡ false = some in cc
unbegun (Some line) a some = refl

-- the first node is all that is left of an exchange, and of what comes after it
pub node_begins : (coding : Coding) (call : Call) (turn : Turn) (e : Exchange) (stage : Stage) → row_of call turn ≡ Exchanges e → TurnOf call turn → NodeOf coding turn e stage → Begun coding call turn stage
node_begins coding call turn e (Saying line (Hears a)) row read node =
    let P : Awaits → Type 0 = λ x. Begun coding call turn (Saying line (Hears x)) in
    subst P (sym node.3) (record {
      same = λ state. said_first coding e.says (due line) (awaiting coding (expected_of e.hears) e.ending state (later coding call turn)) node.2 node.0
          ∙ ap (λ r. doing coding r state (later coding call turn)) (sym row);
      fewer = one_fewer turn;
      stage_of = (ap ending_of row, no_read call turn e row read node.2, read);
      begun = unbegun line (awaits_of turn e) node.1;
    })
node_begins coding call turn e (Hearing a) row read node =
    let P : Awaits → Type 0 = λ x. Begun coding call turn (Hearing x) in
    subst P (sym node.1) (record {
      same = λ state. ap (λ s. saying coding s (awaiting coding (expected_of e.hears) e.ending state (later coding call turn))) (sym node.0)
          ∙ ap (λ r. doing coding r state (later coding call turn)) (sym row);
      fewer = two_fewer turn;
      stage_of = (ap ending_of row, later_is_no_read call turn read, read);
      begun = refl;
    })
node_begins coding call turn e other row read node = absurd node

-- a change of settings is all that is left
pub arming_begins : (coding : Coding) (call : Call) (turn : Turn) (offset : ℕ) → row_of call turn ≡ Arms offset → TurnOf call turn → Begun coding call turn (SettingOffset turn offset)
arming_begins coding call turn offset row read = record {
  same = λ state. ap (λ r. doing coding r state (later coding call turn)) (sym row);
  fewer = one_fewer turn;
  stage_of = (row, read);
  begun = refl;
}

-- replies are sought, and that is all that is left
pub resyncing_begins : (coding : Coding) (call : Call) (turn : Turn) → row_of call turn ≡ Resyncs → TurnOf call turn → Begun coding call turn (Composing (Resync turn))
resyncing_begins coding call turn row read = record {
  same = λ state. ap (λ r. doing coding r state (later coding call turn)) (sym row);
  fewer = one_fewer turn;
  stage_of = (row, read);
  begun = refl;
}

-- a call that seeks them is no plain read
pub resync_unread : (call : Call) (turn : Turn) → row_of call turn ≡ Resyncs → TurnOf call turn → is_read call ≡ false
resync_unread call First is of = ap reads is
resync_unread call Second is of = of.0
resync_unread call other is of = let clash : false ≡ true = ap resyncing_row is in cc

-- Whether a dialogue has begun

module _ (link : Link) (line line' : Option (List ℕ)) (after : AfterLine) (old new : SessionValue) (result : Step) (takes : TakesLine link line line' old new result) where
  taken_begins : line' ≡ None → (tree : Tree) → (begun_at (Saying line after) ≡ true) ⊎ BeginsHere link tree old new
  taken_begins none tree = go (takes.begins none)
    where
      go : (line ≡ None) ⊎ (link.tells → length (said old.channel) < length (said new.channel)) → (begun_at (Saying line after) ≡ true) ⊎ BeginsHere link tree old new
      go (inl before) = inl (let P : Option (List ℕ) → Type 0 = λ l. begun_at (Saying l after) ≡ true in subst P (sym before) refl)
      go (inr more) = inr (λ h first. inl (more h))

  -- a line that went out
  pub line_gone : result ≡ Next → (tree : Tree) → (begun_at (Saying line after) ≡ true) ⊎ BeginsHere link tree old new
  line_gone is tree = taken_begins (takes.gone is) tree

  -- a line that waits for room
  pub line_begins : (tree : Tree) → HasBegun link (begun_at (Saying line after)) (begun_at (Saying line' after)) tree old new
  line_begins tree = (λ has. go line' refl takes.whole has, λ none. back line' refl takes.whole none)
    where
      back : (l : Option (List ℕ)) → line' ≡ l → (line' ≡ line) ⊎ (line' ≡ None) → begun_at (Saying line' after) ≡ false → (begun_at (Saying line after) ≡ false) × NothingTouched link old new
      back None is whole none =
          let P : Option (List ℕ) → Type 0 = λ x. begun_at (Saying x after) ≡ false in
          let clash : true ≡ false = subst P is none in
          cc
      back (Some l) is (inl same) none = (let P : Option (List ℕ) → Type 0 = λ x. begun_at (Saying x after) ≡ false in subst P same none, takes.stays same)
      back (Some l) is (inr gone) none = let clash : Some l ≡ None = sym is ∙ gone in cc

      go : (l : Option (List ℕ)) → line' ≡ l → (line' ≡ line) ⊎ (line' ≡ None) → begun_at (Saying line' after) ≡ true → (begun_at (Saying line after) ≡ true) ⊎ BeginsHere link tree old new
      go None is whole has = taken_begins is tree
      go (Some l) is (inl same) has = inl (let P : Option (List ℕ) → Type 0 = λ x. begun_at (Saying x after) ≡ true in subst P same has)
      go (Some l) is (inr none) has = let clash : Some l ≡ None = sym is ∙ none in cc

-- A line goes out

module _ (coding : Coding) (call : Call) where
  -- what is left once it has
  then_left : (after : AfterLine) (state : State) → said_left coding call state after ≡ remaining coding call state (stage_said after)
  then_left (Hears a) state = refl
  then_left (Recovers Abort) state = refl
  then_left (Recovers (Resync turn)) state = refl

  then_begun : (after : AfterLine) → begun_at (stage_said after) ≡ true
  then_begun (Hears a) = refl
  then_begun (Recovers Abort) = refl
  then_begun (Recovers (Resync turn)) = refl

  then_fewer : (after : AfterLine) → nodes_left (stage_said after) < nodes_said after
  then_fewer (Hears a) = line_fewer a.turn
  then_fewer (Recovers Abort) = omega arith
  then_fewer (Recovers (Resync turn)) = search_fewer turn

  then_of : (after : AfterLine) → SaidOf call after → StageOf call (stage_said after)
  then_of (Hears a) of = (of.0, λ begun. of.1, of.2)
  then_of (Recovers Abort) of = of
  then_of (Recovers (Resync turn)) of = of

  module _ (link : Link) (line line' : Option (List ℕ)) (after : AfterLine) (of : SaidOf call after) (old new : SessionValue) where
    abbrev tree : Tree
    tree = remaining coding call old.state (Saying line after)

    -- it has gone out
    pub line_went : TakesLine link line line' old new Next → SaysNode link line line' old new Next → MakesStep link coding call (Saying line after) (stage_said after) old new Next
    line_went takes says =
        let T : Tree → Type 0 = λ t. Advances link tree t old new in
        record {
          steps = subst T (then_left after old.state) (says (begun_at (Saying line after)) (said_left coding call old.state after));
          quiet = λ none. let clash : true ≡ false = sym (then_begun after) ∙ none in cc;
          begun = (λ has. line_gone link line line' after old new Next takes refl tree, λ none. let clash : true ≡ false = sym (then_begun after) ∙ none in cc);
          answers = tt;
          fewer = λ is. then_fewer after;
          stage_of = then_of after of;
        }

    -- it waits for room
    pub line_waits : TakesLine link line line' old new Pending → SaysNode link line line' old new Pending → MakesStep link coding call (Saying line after) (Saying line' after) old new Pending
    line_waits takes says = record {
      steps = says (begun_at (Saying line after)) (said_left coding call old.state after);
      quiet = tt;
      begun = line_begins link line line' after old new Pending takes tree;
      answers = tt;
      fewer = λ is. let clash : Pending ≡ Next = is in cc;
      stage_of = of;
    }

    -- the connection fails, or memory runs out
    pub line_fails : (answer : Answer) (fault : FtpError) (stage' : Stage) → answer ≡ Fault fault → SaysNode link line line' old new (Done answer) → MakesStep link coding call (Saying line after) stage' old new (Done answer)
    line_fails answer fault stage' is says =
        let P : Answer → Type 0 = λ a. StepAnswers call (Done a) in
        record {
          steps = says (begun_at (Saying line after)) (said_left coding call old.state after);
          quiet = tt;
          begun = tt;
          answers = subst P (sym is) (First, inr tt, tt);
          fewer = λ on. let clash : Done answer ≡ Next = on in cc;
          stage_of = tt;
        }
