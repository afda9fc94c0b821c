-- Lemmas on a dialogue's reading of a reply.
use Rattle.ftp_control.specs.declared.control.form.ReplyForm.{ReplyForm}
use Rattle.std.proofs.Common.{◌≡◌, ◌⊎◌, ℕ, ◌+◌, ◌≤◌, Bool, true, false, cond, ◌||◌, List, [], ◌∷◌, ◌++◌, length, Result, Ok, Err, inl, inr, refl, ap, sym, ◌∙◌, subst, append_assoc, append-nil, length-append, arith}
use Rattle.std.specs.declared.io.ErrorKind.{ErrorKind}
use Rattle.futures.specs.declared.task.Poll.{Poll}
use Rattle.futures.specs.declared.task.Poll.TheVariants.{Ready}
use Rattle.ftp_base.specs.Status.{status_of}
use Rattle.ftp_base.specs.declared.types.reply.Response.{Response}
use Rattle.ftp_base.specs.declared.types.fault.FtpError.{FtpError}
use Rattle.ftp_base.specs.declared.types.fault.FtpError.TheVariants as fault
use Rattle.ftp_base.specs.declared.types.fault.ConnectionError.TheVariants as connection
use Rattle.ftp_transport.specs.declared.room.Room.{Room}
use Rattle.ftp_dialogue.specs.declared.model.NetOutcome.{NetOutcome}
use Rattle.ftp_control.specs.declared.control.rule.ReplyRule.{ReplyRule}
use Rattle.ftp_control.specs.declared.control.rule.ReplyRule.TheVariants.{Strict, Lenient}
use Rattle.ftp_control.specs.declared.control.broken.Broken.{Broken}
use Rattle.ftp_control.specs.declared.control.broken.Broken.TheVariants.{Connection, OutOfMemory}
use Rattle.ftp_control.specs.declared.control.outcome.Outcome.{Outcome}
use Rattle.ftp_control.specs.declared.control.outcome.Outcome.TheVariants.{Whole, Bad, TooLarge, Ended, Waits}
use Rattle.ftp_control.specs.Grammar.{outcome, left_by}
use Rattle.ftp_transport.specs.Memory.{IsGiven}
use Rattle.ftp_transport.specs.Told.{Told, IsDry, HasFailed, NoneFailed}
use Rattle.ftp_control.specs.Reading.{GoesOn, HearTells, MayBreak, after_input}
use Rattle.ftp_control.specs.Channel.{Channel, IsSound, LeavesBytes, ReadsReply, fails_by, rule_left, untaken}
use Rattle.ftp_control.proofs.Strict.{one_form}
use Rattle.ftp_control.specs.Answer.{AnswersRead, answer_of, expected_reply, is_among}
use Rattle.ftp_dialogue.specs.declared.state.State.{State}
use Rattle.ftp_dialogue.specs.declared.model.PlayState.{PlayState}
use Rattle.ftp_dialogue.specs.declared.model.Played.{Played}
use Rattle.ftp_dialogue.specs.NetEvents.{Net}
use Rattle.ftp_dialogue.specs.State.{SessionValue}
use Rattle.ftp_calls.specs.declared.call.Call.{Call}
use Rattle.ftp_calls.specs.Exchanges.{finishes, negotiates}
use Rattle.ftp_dialogue.specs.Dialogue.{Expected, Tree, Say, Hear, Look, Ask, Build, Secure, Move, Leaf, entered, opened_from, with_left}
use Rattle.ftp_dialogue.specs.Play.{play, heard_then}
use Rattle.ftp_dialogue.specs.Lenient.{SaysNothingYet}
use Rattle.ftp_dialogue.specs.Resuming.{Resumes, modes_of}
use Rattle.ftp_dialogue.specs.Within.{MayHear}
use Rattle.ftp_dialogue.proofs.Places.{here, reply_may}
use Rattle.ftp_dialogue.specs.Promises.{AbortsRead, begun_by, play_state, Goes, Leads, Rests}
use Rattle.ftp_dialogue.specs.Reading.{IsReplied, LeavesReply}
use Rattle.ftp_base.specs.declared.status.Status.{Status}
use Rattle.ftp_dialogue.specs.Steps.Moving.{Moves, Advances, WaitsFor, Hears, Takes}
use Rattle.ftp_dialogue.specs.Link.{Link}

pub play-Hear : (room : Room) (codes : Expected) (next : Result Response FtpError → Tree) (s : PlayState) → play room (Hear codes next) s ≡ heard_then (outcome s.state.settings.reply_rule codes.form s.bytes s.ended) codes s (λ heard t. play room (next heard) t)
unfolding play
play-Hear room codes next s = refl

pub nothing_says : (rule : ReplyRule) (form : ReplyForm) → outcome rule form [] false ≡ Waits
unfolding outcome
nothing_says rule form = refl

-- a strict reply that says nothing yet as one of some form says nothing as one of any
pub says_none : (rule : ReplyRule) (form : ReplyForm) (kept : List ℕ) → ((other : ReplyForm) × (outcome rule other kept false ≡ Waits)) → SaysNothingYet rule form kept → outcome rule form kept false ≡ Waits
says_none Strict form kept sound none = one_form form kept false ∙ sym (one_form sound.0 kept false) ∙ sound.1
says_none Lenient form kept sound is = is

pub none_said : (rule : ReplyRule) (form : ReplyForm) (kept : List ℕ) → outcome rule form kept false ≡ Waits → SaysNothingYet rule form kept
none_said Strict form kept is = tt
none_said Lenient form kept is = is

-- what is kept, in one mode, says nothing yet by its own rule nor by the setting
pub kept_waits : (kept : List ℕ) (rule setting : ReplyRule) (form : ReplyForm) → ((other : ReplyForm) × (outcome rule other kept false ≡ Waits)) → rule_left kept rule setting ≡ setting → SaysNothingYet setting form kept → (outcome rule form kept false ≡ Waits) × (outcome setting form kept false ≡ Waits) × ((kept ≡ []) ⊎ (rule ≡ setting))
kept_waits [] rule setting form sound same none = (nothing_says rule form, nothing_says setting form, inl refl)
kept_waits (b ∷ kept) rule setting form sound same none =
    let P : ReplyRule → Type 0 = λ r. SaysNothingYet r form (b ∷ kept) in
    let Q : ReplyRule → Type 0 = λ r. outcome r form (b ∷ kept) false ≡ Waits in
    let is = says_none rule form (b ∷ kept) sound (subst P (sym same) none) in
    (is, subst Q same is, inr same)

pub set_waits : (kept : List ℕ) (rule setting : ReplyRule) (form : ReplyForm) → rule_left kept rule setting ≡ setting → outcome rule form kept false ≡ Waits → outcome setting form kept false ≡ Waits
set_waits [] rule setting form same is = nothing_says setting form
set_waits (b ∷ kept) rule setting form same is = (let Q : ReplyRule → Type 0 = λ r. outcome r form (b ∷ kept) false ≡ Waits in subst Q same is)

-- where nothing is kept, a reply is begun anew
pub nothing_resumes : (rule : ReplyRule) (tree : Tree) → Resumes (record { under = rule; setting = rule }) [] tree
nothing_resumes rule (Say (Ok line) next) = nothing_resumes rule next
nothing_resumes rule (Say (Err cause) next) = tt
nothing_resumes rule (Hear codes next) = (refl, none_said rule codes.form [] (nothing_says rule codes.form))
nothing_resumes rule (Look end next) = λ address. nothing_resumes rule (next address)
nothing_resumes rule (Ask request next) = λ answer. nothing_resumes rule (next answer)
nothing_resumes rule (Build address next) = λ fault. nothing_resumes rule (next fault)
nothing_resumes rule (Secure next) = λ fault. nothing_resumes rule (next fault)
nothing_resumes rule (Move movement next) = λ came. nothing_resumes rule (next came)
nothing_resumes rule (Leaf answer state) = tt

-- a reply goes on in the mode that is set, where it began in it
rule_stays : (kept : List ℕ) (rule chosen : ReplyRule) → rule ≡ chosen → rule_left kept rule chosen ≡ chosen
rule_stays [] rule chosen same = refl
rule_stays (b ∷ kept) rule chosen same = same

-- where a call begins, replies are read as they were
pub entered_rule : (call : Call) (state : State) → (entered call state).settings.reply_rule ≡ state.settings.reply_rule
entered_rule call state = go (negotiates call) (finishes call)
  where
    go : (b f : Bool) → (cond b (opened_from call state) (cond f (with_left state) state)).settings.reply_rule ≡ state.settings.reply_rule
    go true f = refl
    go false true = refl
    go false false = refl

pub begun_resumes : (call : Call) (v : SessionValue) (tree : Tree) → Resumes (modes_of v) v.channel.kept tree → Resumes (modes_of (begun_by call v)) v.channel.kept tree
begun_resumes call v tree resumes =
    let P : ReplyRule → Type 0 = λ r. Resumes (record { under = rule_left v.channel.kept v.channel.rule r; setting = r }) v.channel.kept tree in
    subst P (sym (entered_rule call v.state)) resumes

-- bytes came, and nothing else happened
tells_input : (heard : Outcome) (came : List ℕ) (ended : Bool) (t u : Told) → HearTells (Ok heard) came ended t u → u ≡ after_input came ended t
tells_input Waits came ended t u told = told.0
tells_input other came ended t u told = told

-- a session that hasn't failed, and what a read leaves of it
module _ (link : Link) (state : State) (net : Net) (t : Told) (kept ahead unsent : List ℕ) (first : Bool) (rule : ReplyRule) (codes : Expected) (next : Result Response FtpError → Tree) (kept' ahead' : List ℕ) (ended : Bool) (sound : (form : ReplyForm) × (outcome (rule_left kept rule state.settings.reply_rule) form kept false ≡ Waits)) where
  -- the rule by which the reply is read
  abbrev by : ReplyRule
  by = rule_left kept rule state.settings.reply_rule

  abbrev old : SessionValue
  old = record { channel = record { told = t; kept = kept; ahead = ahead; unsent = unsent; ended = first; failed = false; rule = rule }; state = state; net = net }

  abbrev new : Told → Bool → SessionValue
  new u failed = record { channel = record { told = u; kept = kept'; ahead = ahead'; unsent = unsent; ended = ended; failed = failed; rule = by }; state = state; net = net }

  -- what is kept says nothing yet of what is heard
  waits_by : Resumes (modes_of old) kept (Hear codes next) → outcome by codes.form kept false ≡ Waits
  waits_by resumes =
      let P : ReplyRule → Type 0 = λ r. SaysNothingYet r codes.form kept in
      says_none by codes.form kept sound (subst P (sym resumes.0) resumes.1)

  goes : (u : Told) (failed : Bool) (came : List ℕ) → (link.tells → IsGiven t → IsGiven u) → GoesOn first came ended → length (kept' ++ ahead') ≤ length (kept ++ ahead) + length came → (link.tells → (u.received ≡ t.received ++ came) × (u.given ≡ t.given) × NoneFailed t u × (u.sent ≡ t.sent)) → Goes link came [] old (new u failed)
  goes u failed came was over fewer told = record {
    over = over;
    received = λ h. (told h).0;
    given = λ h. (told h).1;
    failures = λ h. (told h).2;
    sent = λ h. omega (arith, ap length (told h).3);
    said = λ h. omega (arith, ap length (ap (λ s. s ++ unsent) (told h).3));
    untaken = fewer;
    at_hand = was;
    net_events = λ h. refl;
  }

  input_told : (u : Told) (came : List ℕ) → (link.tells → u ≡ after_input came ended t) → link.tells → (u.received ≡ t.received ++ came) × (u.given ≡ t.given) × NoneFailed t u × (u.sent ≡ t.sent)
  input_told u came told h = (ap (λ x. x.received) (told h), ap (λ x. x.given) (told h), record { failures = ap (λ x. x.failures) (told h); last_fault = ap (λ x. x.last_fault) (told h) }, ap (λ x. x.sent) (told h))

  bytes_after : (came more : List ℕ) → (kept ++ ahead) ++ (came ++ more) ≡ ((kept ++ ahead) ++ came) ++ more
  bytes_after came more = sym (append_assoc (kept ++ ahead) came more)

  -- nothing was taken
  none_left : (came : List ℕ) → kept' ++ ahead' ≡ (kept ++ ahead) ++ came → length (kept' ++ ahead') ≤ length (kept ++ ahead) + length came
  none_left came all = omega (arith, ap length all, length-append (kept ++ ahead) came)

  module _ (u : Told) (came : List ℕ) (over : GoesOn first came ended) (was : link.tells → IsGiven t → IsGiven u) where
    -- no more is left than lay ahead and came
    fewer_left : kept' ≡ [] → length ahead' ≤ length ahead + length came → length (kept' ++ ahead') ≤ length (kept ++ ahead) + length came
    fewer_left none shrinks = omega (arith, shrinks, ap length (ap (λ k. k ++ ahead') none), length-append kept ahead)

    -- a settled outcome hands its answer on, and takes exactly its bytes, however the input goes on
    settles : (failed : Bool) (heard : Outcome) (answer : Result Response FtpError) → MayHear answer → (link.tells → u ≡ after_input came ended t) → kept' ≡ [] → length ahead' ≤ length ahead + length came → ((s : PlayState) (k : Result Response FtpError → PlayState → Played) → heard_then heard codes (record s { failed = false }) k ≡ k answer (record s { bytes = left_by heard s.bytes; failed = failed })) → (outcome by codes.form kept false ≡ Waits → (more : List ℕ) (e : Bool) → GoesOn ended more e → (outcome by codes.form (((kept ++ ahead) ++ came) ++ more) e ≡ heard) × (left_by heard (((kept ++ ahead) ++ came) ++ more) ≡ (kept' ++ ahead') ++ more)) → Moves link (Hear codes next) (next answer) old (new u failed)
    settles failed heard answer may told none shrinks then_is stays = record {
      leads = record {
        within = inr (answer, may, here (next answer));
        came = came;
        answered = [];
        goes = goes u failed came was over (fewer_left none shrinks) (input_told u came told);
        resumes = λ r. rw none (nothing_resumes state.settings.reply_rule (next answer));
        calm = λ calm. inl none;
        plays = λ h resumes room more e outcomes fit on.
            let s : PlayState = play_state old (came ++ more) e outcomes in
            let k : Result Response FtpError → PlayState → Played = λ a x. play room (next a) x in
            let is = stays (waits_by resumes) more e on in
            let at : ReplyRule → List ℕ → Played = λ r b. heard_then (outcome r codes.form b e) codes (record s { bytes = b }) k in
            let there : PlayState = record s { bytes = ((kept ++ ahead) ++ came) ++ more } in
            let said : u.sent ≡ t.sent = ap (λ x. x.sent) (told h) in
            play-Hear room codes next s
            ∙ ap (at state.settings.reply_rule) (bytes_after came more)
            ∙ ap (λ r. at r there.bytes) (sym resumes.0)
            ∙ ap (λ o. heard_then o codes there k) is.0
            ∙ then_is there k
            ∙ ap (λ b. k answer (record there { bytes = b; failed = failed })) is.1
            ∙ ap (λ x. k answer (record there { bytes = (kept' ++ ahead') ++ more; failed = failed; said = x })) (sym said)
            ∙ ap (λ g. k answer (record there { bytes = (kept' ++ ahead') ++ more; failed = failed; said = u.sent; local = g.local; peer = g.peer })) (sym (ap (λ x. x.given) (told h)));
      };
      state = refl;
      keeps = λ from to silent. inl none;
      shrinks = shrinks;
      says = λ line after is. let clash : Hear codes next ≡ Say (Ok line) after = is in cc;
      apart = λ apart. (refl, apart answer);
    }

    -- what is kept says nothing yet, as before, and goes on by its rule
    goes_by : (outcome by codes.form kept false ≡ Waits → outcome by codes.form kept' false ≡ Waits) → (v : Told) → Resumes (modes_of old) kept (Hear codes next) → Resumes (modes_of (new v false)) kept' (Hear codes next)
    goes_by waits v r =
        let P : ReplyRule → Type 0 = λ x. SaysNothingYet x codes.form kept' in
        (rule_stays kept' by state.settings.reply_rule r.0, subst P r.0 (none_said by codes.form kept' (waits (waits_by r))))

    -- bytes came, and nothing was settled
    stays_on : (link.tells → (u.received ≡ t.received ++ came) × (u.given ≡ t.given) × NoneFailed t u × (u.sent ≡ t.sent)) → kept' ++ ahead' ≡ (kept ++ ahead) ++ came → link.tells → (more : List ℕ) (e : Bool) (outcomes : List NetOutcome) → play_state old (came ++ more) e outcomes ≡ play_state (new u false) more e outcomes
    stays_on told all h more e outcomes =
        let s : PlayState = play_state old (came ++ more) e outcomes in
        ap (λ b. record s { bytes = b }) (bytes_after came more ∙ ap (λ b. b ++ more) (sym all))
        ∙ ap (λ x. record s { bytes = (kept' ++ ahead') ++ more; said = x }) (sym (told h).3)
        ∙ ap (λ g. record s { bytes = (kept' ++ ahead') ++ more; said = u.sent; local = g.local; peer = g.peer }) (sym (told h).1)

    leads_on : (link.tells → (u.received ≡ t.received ++ came) × (u.given ≡ t.given) × NoneFailed t u × (u.sent ≡ t.sent)) → kept' ++ ahead' ≡ (kept ++ ahead) ++ came → (outcome by codes.form kept false ≡ Waits → outcome by codes.form kept' false ≡ Waits) → Leads link (Hear codes next) (Hear codes next) old (new u false)
    leads_on told all waits = record {
      within = inl (refl, refl);
      came = came;
      answered = [];
      goes = goes u false came was over (none_left came all) told;
      resumes = goes_by waits u;
      calm = λ calm. absurd calm;
      plays = λ h resumes room more e outcomes fit on. ap (λ s. play room (Hear codes next) s) (stays_on told all h more e outcomes);
    }

    waits_on : (link.tells → u ≡ after_input came ended t) → kept' ≡ (kept ++ ahead) ++ came → ahead' ≡ [] → ended ≡ false → (outcome by codes.form kept false ≡ Waits → outcome by codes.form kept' false ≡ Waits) → (link.tells → IsDry u) → Advances link (Hear codes next) (Hear codes next) old (new u false) × WaitsFor link (Hear codes next) (new u false) × Rests link old (new u false)
    unfolding leads_on
    waits_on told all none unended waits dry =
        let all' : kept' ++ ahead' ≡ (kept ++ ahead) ++ came = ap (λ a. kept' ++ a) none ∙ append-nil kept' ∙ all in
        let told' = input_told u came told in (
          record {
            moves = record {
              leads = leads_on told' all' waits;
              state = refl;
              keeps = λ from to silent. absurd silent;
              shrinks = let S : List ℕ → Type 0 = λ l. length l ≤ length ahead + length came in subst S (sym none) (omega arith);
              says = λ line after is. let clash : Hear codes next ≡ Say (Ok line) after = is in cc;
              apart = λ apart. (refl, apart);
            };
            failed = refl;
          },
          inr (inl (record { codes = codes; next = next; is = refl; unended = unended; none_ahead = none; dry = dry })),
          record { came = came; goes = goes u false came was over (none_left came all') told'; failed = refl; stays = stays_on told' all'; unended = unended; none_ahead = none; dry = dry; rule = refl },
        )

    fails_off : (kind : ErrorKind) → link.reads kind → kept' ++ ahead' ≡ (kept ++ ahead) ++ came → (outcome by codes.form kept false ≡ Waits → outcome by codes.form kept' false ≡ Waits) → (link.tells → HasFailed kind (after_input came ended t) u) → AbortsRead link codes next (fault.ConnectionError (connection.Io kind)) old (new u true)
    fails_off kind may all waits told =
        let now : Told = record u { failures = t.failures; last_fault = t.last_fault } in
        let F : Told → Told = λ x. record x { failures = t.failures; last_fault = t.last_fault } in
        let same : link.tells → now ≡ after_input came ended t = λ h. ap F (told h).same in
        record {
          at = new now false;
          leads = at_now now (λ h is. let g = was h is in record { ahead = g.ahead; front = g.front; over = g.over }) all same;
          state = refl;
          going = refl;
          cause = inl (record {
            kind = kind;
            is = refl;
            may = may;
            same = refl;
            failed = λ h. record { same = refl; counts = (told h).counts };
          });
        }
      where
        at_now : (v : Told) → (link.tells → IsGiven t → IsGiven v) → kept' ++ ahead' ≡ (kept ++ ahead) ++ came → (link.tells → v ≡ after_input came ended t) → Leads link (Hear codes next) (Hear codes next) old (new v false)
        at_now v at_hand all same = record {
          within = inl (refl, refl);
          came = came;
          answered = [];
          goes = goes v false came at_hand over (none_left came all) (input_told v came same);
          resumes = goes_by waits v;
          calm = λ calm. absurd calm;
          plays = λ h resumes room more e outcomes fit on.
              let s : PlayState = play_state old (came ++ more) e outcomes in
              ap (λ x. play room (Hear codes next) x)
              (ap (λ b. record s { bytes = b }) (bytes_after came more ∙ ap (λ b. b ++ more) (sym all))
              ∙ ap (λ x. record s { bytes = (kept' ++ ahead') ++ more; said = x }) (sym (ap (λ x. x.sent) (same h)))
              ∙ ap (λ g. record s { bytes = (kept' ++ ahead') ++ more; said = v.sent; local = g.local; peer = g.peer }) (sym (ap (λ x. x.given) (same h))));
        }

    lacks_memory : kept' ++ ahead' ≡ (kept ++ ahead) ++ came → (outcome by codes.form kept false ≡ Waits → outcome by codes.form kept' false ≡ Waits) → (link.tells → u ≡ after_input came ended t) → AbortsRead link codes next fault.OutOfMemory old (new u false)
    unfolding leads_on
    lacks_memory all waits told = record {
      at = new u false;
      leads = leads_on (input_told u came told) all waits;
      state = refl;
      going = refl;
      cause = inr (refl, refl, record { said = λ h. ap (λ x. x.sent ++ unsent) (told h); untaken = all });
    }

  hears : (u : Told) (result : Result Outcome Broken) → MayBreak link.reads result → (link.tells → IsGiven t → IsGiven u) → ReadsReply link.tells codes.form (record old.channel { rule = by }) (new u (fails_by result)).channel result → Hears link codes next old (new u (fails_by result)) (answer_of codes.statuses result)
  hears u (Ok (Whole reply code)) may was reads =
      let told : link.tells → u ≡ after_input reads.came ended t = λ h. tells_input (Whole reply code) reads.came ended t u (reads.told h) in
      let answer : Response = record { status = status_of code; body = reply } in
      let moves = settles u reads.came reads.over was false (Whole reply code) (expected_reply codes.statuses answer) (reply_may codes.statuses answer) told reads.leaves.0 reads.past (λ s k. refl) reads.stays in
      let takes : Takes link (Hear codes next) old (new u false) = λ h resumes. omega (arith, reads.takes (waits_by resumes), length-append (kept ++ ahead) reads.came, ap length (ap (λ x. x.received) (told h)), length-append t.received reads.came) in
      elim (is_among codes.statuses (status_of code)) as (λ among. Moves link (Hear codes next) (next (cond among (Ok answer) (Err (fault.UnexpectedResponse answer)))) old (new u false) → Hears link codes next old (new u false) (Ready (cond among (Ok answer) (Err (fault.UnexpectedResponse answer))))) [
        | true ↦ λ m. (record { moves = m; failed = refl }, takes)
        | false ↦ λ m. inl (m, record { other = λ e. (let clash : fault.UnexpectedResponse answer ≡ fault.OutOfMemory = e in cc); goes_on = λ reply' e. refl })
      ] moves
  hears u (Ok (Bad line)) may was reads =
      let told : link.tells → u ≡ after_input reads.came ended t = λ h. tells_input (Bad line) reads.came ended t u (reads.told h) in
      inl (settles u reads.came reads.over was false (Bad line) (Err fault.BadResponse) tt told reads.leaves.0 reads.past (λ s k. refl) reads.stays, record { other = λ e. (let clash : fault.BadResponse ≡ fault.OutOfMemory = e in cc); goes_on = λ reply' e. (let clash : fault.BadResponse ≡ fault.UnexpectedResponse reply' = e in cc) })
  hears u (Ok TooLarge) may was reads =
      let told : link.tells → u ≡ after_input reads.came ended t = λ h. tells_input TooLarge reads.came ended t u (reads.told h) in
      inl (settles u reads.came reads.over was true TooLarge (Err (fault.ConnectionError connection.ReplyTooLarge)) (inl refl) told reads.leaves.0 reads.past (λ s k. refl) reads.stays, record { other = λ e. (let clash : fault.ConnectionError connection.ReplyTooLarge ≡ fault.OutOfMemory = e in cc); goes_on = λ reply' e. (let clash : fault.ConnectionError connection.ReplyTooLarge ≡ fault.UnexpectedResponse reply' = e in cc) })
  hears u (Ok Ended) may was reads =
      let told : link.tells → u ≡ after_input reads.came ended t = λ h. tells_input Ended reads.came ended t u (reads.told h) in
      inl (settles u reads.came reads.over was true Ended (Err (fault.ConnectionError connection.UnexpectedEof)) (inr refl) told reads.leaves.0 reads.past (λ s k. refl) reads.stays, record { other = λ e. (let clash : fault.ConnectionError connection.UnexpectedEof ≡ fault.OutOfMemory = e in cc); goes_on = λ reply' e. (let clash : fault.ConnectionError connection.UnexpectedEof ≡ fault.UnexpectedResponse reply' = e in cc) })
  hears u (Ok Waits) may was reads =
      let told : link.tells → u ≡ after_input reads.came ended t = λ h. tells_input Waits reads.came ended t u (reads.told h) in
      waits_on u reads.came reads.over was told reads.leaves.0 reads.leaves.1 (reads.unended refl) reads.under_way (λ h. (reads.told h).1)
  hears u (Err (Connection kind)) may was reads = inr (fails_off u reads.came reads.over was kind may reads.leaves reads.under_way reads.told)
  hears u (Err OutOfMemory) may was reads = inr (lacks_memory u reads.came reads.over was reads.leaves reads.under_way reads.told)

-- a reply is heard, by its own rule where it is under way, and else by the setting
pub reply_heard : (link : Link) (state : State) (net : Net) (a ruled b : Channel) (codes : Expected) (answer : Poll (Result Response FtpError)) → a.failed ≡ false → ruled ≡ record a { rule = rule_left a.kept a.rule state.settings.reply_rule } → IsSound link.tells ruled → AnswersRead link.tells link.reads codes.form codes.statuses ruled b answer → (next : Result Response FtpError → Tree) → Hears link codes next (record { channel = a; state = state; net = net }) (record { channel = b; state = state; net = net }) answer
reply_heard link state net a ruled b codes answer going is sound read next =
    let set : Channel = record a { rule = rule_left a.kept a.rule state.settings.reply_rule } in
    let C : Channel → Type 0 = λ c. AnswersRead link.tells link.reads codes.form codes.statuses c b answer in
    let W : Channel → Type 0 = λ c. (form : ReplyForm) × (outcome c.rule form c.kept false ≡ Waits) in
    heard_by (subst W is sound.waits) (subst C is read)
  where
    heard_by : ((form : ReplyForm) × (outcome (rule_left a.kept a.rule state.settings.reply_rule) form a.kept false ≡ Waits)) → AnswersRead link.tells link.reads codes.form codes.statuses (record a { rule = rule_left a.kept a.rule state.settings.reply_rule }) b answer → Hears link codes next (record { channel = a; state = state; net = net }) (record { channel = b; state = state; net = net }) answer
    heard_by sound read =
        let result = read.result in
        let by : ReplyRule = rule_left a.kept a.rule state.settings.reply_rule in
        let V : Channel → SessionValue = λ c. record { channel = c; state = state; net = net } in
        let P : Poll (Result Response FtpError) → Type 0 = λ x. Hears link codes next (V a) (V b) x in
        let Q : Channel → Type 0 = λ c. ReadsReply link.tells codes.form (record a { rule = by }) c result → Hears link codes next (V a) (V c) (answer_of codes.statuses result) in
        let N : Bool → Channel = λ f. record a { told = b.told; kept = b.kept; ahead = b.ahead; ended = b.ended; failed = f || fails_by result; rule = by } in
        let S : Bool → Type 0 = λ f. ReadsReply link.tells codes.form (record a { failed = f; rule = by }) (N f) result → Hears link codes next (V (record a { failed = f })) (V (N f)) (answer_of codes.statuses result) in
        subst P (sym read.is)
        (subst Q (sym read.reads.same)
        (subst S (sym going) (hears link state net a.told a.kept a.ahead a.unsent a.ended a.rule codes next b.kept b.ahead b.ended sound b.told result read.fault read.given))
        read.reads)

-- what a read leaves beside the bytes
pub reply_left : (tells : Type 0) (faults : ErrorKind → Type 0) (state : State) (net : Net) (a ruled b : Channel) (form : ReplyForm) (statuses : List Status) (answer : Poll (Result Response FtpError)) → ruled ≡ record a { rule = rule_left a.kept a.rule state.settings.reply_rule } → AnswersRead tells faults form statuses ruled b answer → LeavesReply (record { channel = a; state = state; net = net }) (record { channel = b; state = state; net = net }) answer
reply_left tells faults state net a ruled b form statuses answer is read = record {
  beside = refl;
  rule = ap (λ c. c.rule) read.reads.same ∙ ap (λ c. c.rule) is;
  kept = λ replied. none_kept read.result (untaken ruled ++ read.reads.came) (subst IsReplied read.is replied) read.reads.leaves;
}
  where
    none_kept : (result : Result Outcome Broken) (bytes : List ℕ) → IsReplied (answer_of statuses result) → LeavesBytes result bytes b → b.kept ≡ []
    none_kept (Ok (Whole reply code)) bytes replied leaves = leaves.0
    none_kept (Ok (Bad line)) bytes replied leaves = leaves.0
    none_kept (Ok TooLarge) bytes replied leaves = leaves.0
    none_kept (Ok Ended) bytes replied leaves = leaves.0
    none_kept (Ok Waits) bytes replied leaves = absurd replied
    none_kept (Err (Connection kind)) bytes replied leaves = absurd replied
    none_kept (Err OutOfMemory) bytes replied leaves = absurd replied
