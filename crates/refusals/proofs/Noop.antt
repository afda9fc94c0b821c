-- A greeting and a NOOP, from contracts alone.
use Rattle.std.specs.Prelude.{not}
use Rattle.std.proofs.Common.{length, ◌≡◌, ◌⊎◌, ℕ, Bool, true, false, List, [], ◌∷◌, ◌++◌, Ok, inl, inr, refl, ap, sym, ◌∙◌, subst, ◌==◌}
use Rattle.std.specs.declared.io.ErrorKind.{ErrorKind}
use Rattle.std.specs.declared.net.socket_addr.SocketAddr.{SocketAddr}
use Rattle.std.specs.declared.io.ErrorKind.TheVariants as kinds
use Rattle.ftp_base.specs.declared.types.fault.FtpError.{FtpError}
use Rattle.ftp_base.specs.declared.types.fault.FtpError.TheVariants.{ConnectionError}
use Rattle.ftp_base.specs.declared.types.fault.ConnectionError.TheVariants.{Io}
use Rattle.ftp_base.specs.Command.{text_of, words_of}
use Rattle.ftp_control.specs.declared.control.rule.ReplyRule.{ReplyRule}
use Rattle.ftp_control.specs.declared.control.rule.ReplyRule.TheVariants.{Strict}
use Rattle.ftp_transport.specs.declared.room.Room.TheVariants.{Any}
use Rattle.ftp_dialogue.specs.NetEvents.{first_net, outcomes_of}
use Rattle.ftp_dialogue.specs.declared.model.NetRecord.{NetRecord}
use Rattle.ftp_dialogue.specs.declared.model.NetOutcome.{NetOutcome}
use Rattle.ftp_transport.specs.Told.{IsFull, HasNoRoom}
use Rattle.ftp_transport.specs.declared.room.Room.{Room}
use Rattle.ftp_transport.specs.Memory.{IsGiven, fresh_memory, fed}
use Rattle.ftp_control.specs.Channel.{IsSound, untaken}
use Rattle.ftp_control.specs.Reading.{GoesOn}
use Rattle.ftp_control.specs.Grammar.{outcome}
use Rattle.ftp_dialogue.specs.declared.state.State.{State}
use Rattle.ftp_calls.specs.declared.call.Answer.{Answer}
use Rattle.ftp_calls.specs.declared.call.Answer.TheVariants.{Unit as Done, Fault}
use Rattle.ftp_calls.specs.declared.call.Call.{Call}
use Rattle.ftp_calls.specs.declared.call.Call.TheVariants.{Drain, Greet, Noop}
use Rattle.ftp_dialogue.specs.declared.model.PlayState.{PlayState}
use Rattle.ftp_runs.specs.declared.model.Ran.{Ran}
use Rattle.ftp_runs.specs.declared.model.Ran.TheVariants.{Finished, Waiting}
use Rattle.ftp_dialogue.specs.Link.{Builds, Link, plain}
use Rattle.ftp_dialogue.specs.Coding.{Coding}
use Rattle.ftp_dialogue.specs.Sound.{no_transfers}
use Rattle.ftp_dialogue.specs.State.{SessionValue, Begins}
use Rattle.ftp_dialogue.specs.Dialogue.{Tree, Say, Hear, Look, Ask, Build, Secure, Move, Leaf, dialogue}
use Rattle.ftp_dialogue.specs.Play.{play}
use Rattle.ftp_runs.specs.Run.{run, OneView}
use Rattle.ftp_dialogue.specs.Promises.{answer_at, begun_by, due_of, play_state, Aborts, Completes, IsPlayed, Fails, LacksMemory, MayFailAt}
use Rattle.ftp_runs.specs.Runs.{BeginsAfter, Runs, RunsTo, RunAborts}
use Rattle.ftp_runs.proofs.Running.{nothing_views}
use Rattle.refusals.specs.Aborted.{MayAbort, WasAborted}
use Rattle.ftp_dialogue.proofs.NetEvents.{letting_beside}

-- `220 r` and `200 ok`
abbrev pub server : List ℕ
server = 50 ∷ 50 ∷ 48 ∷ 32 ∷ 114 ∷ 13 ∷ 10 ∷ 50 ∷ 48 ∷ 48 ∷ 32 ∷ 111 ∷ 107 ∷ 13 ∷ 10 ∷ []

-- texts go out as they are
abbrev pub as_it_is : (List ℕ → List ℕ) → Coding
as_it_is decode = record { decode = decode; encode = λ text. Ok text }

-- a blocking connection over memory
abbrev pub over_memory : Builds → Link
over_memory builds = record { tells = Unit {0}; reads = λ kind. ⊥; writes = λ told kind. (kind ≡ kinds.OutOfMemory) ⊎ ((kind ≡ kinds.WouldBlock) × IsFull told); ends = λ kind. ⊥; asks_wait = ⊥; beside = plain builds }

abbrev answers_of : Ran → List Answer
answers_of (Finished answers s) = answers
answers_of (Waiting answers wait s) = answers

-- what the definition says of these bytes, where no transfer was opened
played : (decode : List ℕ → List ℕ) (state : State) (said unsent : List ℕ) (local peer : SocketAddr) (net_record : NetRecord) (outcomes : List NetOutcome) (ended : Bool) → answers_of (run Any (as_it_is decode) (Greet ∷ Noop ∷ []) (record { state = record state { settings = record state.settings { reply_rule = Strict }; counts = no_transfers }; failed = false; said = said; unsent = unsent; local = local; peer = peer; net_record = net_record; bytes = server; ended = ended; outcomes = outcomes })) ≡ Done ∷ Done ∷ []
unfolding run play outcome text_of words_of
played decode state said unsent local peer net_record outcomes ended = refl

same_fault : (one other : FtpError) → Fault one ≡ Fault other → one ≡ other
same_fault one other is = cc is

module _ (builds : Builds) (decode : List ℕ → List ℕ) (old new : SessionValue) (answers : List Answer) (begins : Begins (Unit {0}) Strict (fed server fresh_memory) (first_net [] [] []) old) (given : IsGiven new.channel.told) (sound : IsSound (Unit {0}) new.channel) where
  abbrev calls : List Call
  calls = Greet ∷ Noop ∷ []

  -- where a run of these bytes begins
  abbrev begin_at : List NetOutcome → Bool → List ℕ → PlayState
  begin_at outcomes failed bytes = record (play_state old [] new.channel.ended outcomes) { failed = failed; bytes = bytes }

  -- all bytes that were fed came
  all_came : (runs : RunsTo (over_memory builds) (as_it_is decode) calls old new answers) → untaken old.channel ++ (runs.came ++ given.ahead) ≡ server
  all_came runs =
      let none : untaken old.channel ≡ [] = ap (λ k. k ++ old.channel.ahead) begins.idle.kept ∙ begins.idle.ahead in
      let received : new.channel.told.received ≡ runs.came = runs.goes.received tt ∙ ap (λ t. t.received ++ runs.came) (begins.told tt) in
      let bytes : new.channel.told.given.bytes ≡ server = ap (λ g. g.bytes) (runs.goes.given tt) ∙ ap (λ t. t.given.bytes) (begins.told tt) in
      ap (λ u. u ++ (runs.came ++ given.ahead)) none ∙ ap (λ c. c ++ given.ahead) (sym received) ∙ sym given.front ∙ bytes

  -- a run that came to its end
  finished : RunsTo (over_memory builds) (as_it_is decode) calls old new answers → answers ≡ Done ∷ Done ∷ []
  finished runs =
      let coding = as_it_is decode in
      let outcomes = outcomes_of runs.answered ++ [] in
      let one_view : old.channel.failed ≡ false → OneView old.channel.rule old.channel.kept coding calls old.state = λ going. (let P : List ℕ → Type 0 = λ k. OneView old.channel.rule k coding calls old.state in subst P (sym begins.idle.kept) (nothing_views coding old.channel.rule calls old.state)) in
      let on : GoesOn new.channel.ended given.ahead new.channel.ended = record { nothing = λ e. given.over (sound.ended tt ∙ e); over = λ e. e } in
      let there = runs.runs tt one_view Any given.ahead new.channel.ended [] tt on in
      let F : PlayState → List Answer = λ s. answers_of (run Any coding calls s) in
      let B : Bool → List ℕ → List Answer = λ f b. F (begin_at outcomes f b) in
      let ruled : ReplyRule → State = λ r. record old.state { settings = record old.state.settings { reply_rule = r } } in
      let bytes = untaken old.channel ++ (runs.came ++ given.ahead) in
      sym (ap answers_of there)
      ∙ ap (λ f. B f bytes) begins.idle.failed
      ∙ ap (λ b. B false b) (all_came runs)
      ∙ ap (λ r. F (record (begin_at outcomes false server) { state = ruled r })) begins.rule_is
      ∙ ap (λ c. F (record (begin_at outcomes false server) { state = record (ruled Strict) { counts = c } })) begins.first.transfers
      ∙ played decode old.state old.channel.told.sent old.channel.unsent _ _ _ outcomes new.channel.ended

  aborted : RunAborts (over_memory builds) (as_it_is decode) calls [] old new answers → WasAborted answers
  aborted broke = record {
    first = broke.first;
    later = broke.later;
    fault = broke.fault;
    is = broke.answers_are;
    cause = let same : broke.fault ≡ broke.aborts.fault = cc broke.aborts.is in (let P : FtpError → Type 0 = MayAbort in subst P (sym same) (may broke.aborts.cause));
  }
    where
      -- what is at hand is what was at the beginning
      played_given : (part : Call) (v w : SessionValue) (answer : Answer) → (answer ≡ Done) → IsPlayed (over_memory builds) (as_it_is decode) part v w answer → w.channel.told.given ≡ v.channel.told.given
      played_given part v w answer is done = ap (λ x. x.channel.told.given) (letting_beside _ done.last w done.lets_go) ∙ go done.plays
        where
          go : Completes (over_memory builds) (dialogue (as_it_is decode) part v.state) answer (begun_by part v) done.last ⊎ Aborts (over_memory builds) false (dialogue (as_it_is decode) part v.state) answer (begun_by part v) done.last → done.last.channel.told.given ≡ v.channel.told.given
          go (inl completes) = completes.goes.given tt
          go (inr aborts) = let clash : Done ≡ Fault aborts.fault = sym is ∙ aborts.is in cc

      drained_given : ((broke.part ≡ Drain) × (broke.middle ≡ broke.before)) ⊎ ((broke.part ≡ broke.call) × IsPlayed (over_memory builds) (as_it_is decode) Drain broke.before broke.middle Done) → broke.middle.channel.told.given ≡ broke.before.channel.told.given
      drained_given (inl drain) = ap (λ x. x.channel.told.given) drain.1
      drained_given (inr drained) = played_given Drain broke.before broke.middle Done refl drained.1

      begun_given : (b : Bool) → BeginsAfter b (over_memory builds) (as_it_is decode) broke.call broke.part broke.before broke.middle → broke.middle.channel.told.given ≡ broke.before.channel.told.given
      begun_given true begun = drained_given begun
      begun_given false begun = ap (λ x. x.channel.told.given) begun.1

      -- there is room for any number of bytes
      room : broke.aborts.at.channel.told.given.room ≡ Any
      room =
          let same : broke.aborts.at.channel.told.given ≡ old.channel.told.given = broke.aborts.leads.goes.given tt ∙ begun_given (due_of broke.call broke.before) broke.begins ∙ broke.ran.goes.given tt in
          ap (λ g. g.room) same ∙ ap (λ t. t.given.room) (begins.told tt)

      written : {kind : ErrorKind} → broke.aborts.fault ≡ ConnectionError (Io kind) → (kind ≡ kinds.OutOfMemory) ⊎ ((kind ≡ kinds.WouldBlock) × IsFull broke.aborts.at.channel.told) → MayAbort broke.aborts.fault
      written is (inl memory) = inr (is ∙ ap (λ k. ConnectionError (Io k)) memory)
      written is (inr full) =
          let P : Room → Type 0 = λ r. HasNoRoom r (length broke.aborts.at.channel.told.sent) in
          absurd (subst P room full.1)

      failed_at : (kind : ErrorKind) (place : Tree) → Fault broke.aborts.fault ≡ answer_at place (ConnectionError (Io kind)) → MayFailAt (over_memory builds) place broke.aborts.at.channel.told kind → MayAbort broke.aborts.fault
      failed_at kind (Say line next) is may = written (same_fault _ _ is) (may tt)
      failed_at kind (Hear codes next) is may = absurd may
      failed_at kind (Look end next) is may = absurd may
      failed_at kind (Ask request next) is may = absurd may
      failed_at kind (Build address next) is may = absurd may
      failed_at kind (Secure next) is may = absurd may
      failed_at kind (Move movement next) is may = absurd may
      failed_at kind (Leaf answer state) is may = absurd may

      may : Fails (over_memory builds) broke.aborts.place broke.aborts.fault broke.aborts.at broke.last ⊎ LacksMemory (over_memory builds) false (dialogue (as_it_is decode) broke.part broke.middle.state) broke.aborts.place broke.aborts.leads.came broke.aborts.fault (begun_by broke.part broke.middle) broke.aborts.at broke.last → MayAbort broke.aborts.fault
      may (inl fails) = failed_at fails.kind broke.aborts.place fails.is fails.may
      may (inr lacks) = inl lacks.is

  -- both calls succeed, or one was aborted
  pub answered : Runs (over_memory builds) (as_it_is decode) calls old new answers → (answers ≡ Done ∷ Done ∷ []) ⊎ WasAborted answers
  answered (inl runs) = inl (finished runs)
  answered (inr (inl broke)) = inr (aborted broke)
  answered (inr (inr caught)) =
      let none : (old.state.unanswered == 0) ≡ true = rw begins.first.answered refl in
      let clash : true ≡ false = sym caught.due ∙ ap (λ n. not n) none in
      cc
