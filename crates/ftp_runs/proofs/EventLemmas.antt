-- Lemmas on the events of a script but Poll.
use Rattle.ftp_control.specs.declared.control.form.ReplyForm.{ReplyForm}
use Rattle.std.proofs.Common.{◌≡◌, ℕ, Bool, true, false, cond, ◌||◌, Option, Some, None, List, [], ◌∷◌, ◌++◌, length, drop, inl, inr, ◌⊎◌, refl, ap, sym, ◌∙◌, subst, append_assoc, append-nil}
use Rattle.std.proofs.Math.Seq.{drop-append_seam}
use Rattle.ftp_transport.specs.Told.{Told, Given}
use Rattle.ftp_transport.specs.Memory.{IsGiven, fed, closed_memory, widened, more_room}
use Rattle.ftp_control.specs.declared.control.outcome.Outcome.TheVariants.{Waits}
use Rattle.ftp_control.specs.Grammar.{outcome}
use Rattle.ftp_control.specs.Channel.{Channel, IsSound, untaken}
use Rattle.ftp_calls.specs.declared.call.Answer.{Answer}
use Rattle.ftp_calls.specs.declared.call.Call.{Call}
use Rattle.ftp_calls.specs.declared.call.Call.TheVariants.{Finish, Leave}
use Rattle.ftp_calls.specs.Exchanges.{is_read}
use Rattle.ftp_calls.specs.declared.call.Event.{Event}
use Rattle.ftp_calls.specs.declared.call.Event.TheVariants as event
use Rattle.ftp_dialogue.specs.declared.stage.Stage.{Stage}
use Rattle.ftp_dialogue.specs.declared.stage.Stage.TheVariants.{At}
use Rattle.ftp_calls.specs.declared.exchange.Turn.TheVariants.{First}
use Rattle.ftp_runs.specs.declared.events.Course.{Course}
use Rattle.futures.specs.declared.task.Poll.TheVariants.{Ready, Pending}
use Rattle.ftp_dialogue.specs.NetEvents.{NetEvent, Net}
use Rattle.ftp_dialogue.specs.declared.model.NetOutcome.{NetOutcome}
use Rattle.ftp_dialogue.specs.declared.state.State.{State}
use Rattle.ftp_runs.specs.declared.model.Item.{Item}
use Rattle.ftp_runs.specs.declared.model.Item.TheVariants.{Hidden}
use Rattle.ftp_runs.specs.declared.model.Script.{Script}
use Rattle.ftp_dialogue.specs.State.{SessionValue}
use Rattle.ftp_dialogue.specs.Coding.{Coding}
use Rattle.ftp_runs.specs.Script.{unread, is_over, start_of, script_of, after_event, start_script, idle, with_call, without_call, MayCancel}
use Rattle.ftp_runs.specs.Following.{Attended, Attends, Happens, Passes, PassesIf, Place, Follows, Starts, PollsHere, parts_here}
use Rattle.ftp_dialogue.specs.Steps.Polls.{polled_answer}
use Rattle.ftp_dialogue.specs.Promises.{HasFault, FailsWith, play_state}
use Rattle.ftp_runs.specs.Runs.{before_all}
use Rattle.ftp_control.specs.Saying.{said}
use Rattle.ftp_runs.specs.Scripted.{Stands, Reaches}
use Rattle.ftp_runs.specs.Run.{replay, and_then}
use Rattle.ftp_dialogue.specs.Play.{finally, needs_data, play}
use Rattle.ftp_dialogue.specs.Dialogue.{Tree}
use Rattle.ftp_dialogue.specs.declared.model.PlayState.{PlayState}
use Rattle.futures.specs.declared.task.Poll.{Poll}
use Rattle.ftp_dialogue.specs.Steps.Stages.{remaining}
use Rattle.ftp_dialogue.proofs.TransitionsLemmas.{given_by}
use Rattle.ftp_runs.proofs.Carried.{unread_is}
use Rattle.ftp_dialogue.specs.Link.{Builds}

-- a call of which no trace is left where it is dropped: it wasn't polled, or is a plain read
abbrev pub LeavesNoTrace : Option Call → Bool → Type 0
LeavesNoTrace None polled = Unit {0}
LeavesNoTrace (Some call) polled = (polled ≡ false) ⊎ (is_read call ≡ true)

may_cancel : (call : Option Call) (polled : Bool) → LeavesNoTrace call polled → MayCancel call polled
may_cancel None polled none = tt
may_cancel (Some call) polled (inl new) = inl new
may_cancel (Some call) polled (inr read) = inr (inl read)

module _ (builds : Builds) (coding : Coding) (outcomes left : List NetOutcome) where
  -- what is given to a connection
  abbrev pub with_given : SessionValue → Given → SessionValue
  with_given v given = record v { channel = record v.channel { told = record v.channel.told { given = given } } }

  -- a place doesn't change with what is given, nor with what is fed of a script
  place_given : (old : SessionValue) (s t : Script) (came : List ℕ) (answered : List NetEvent) (v : SessionValue) (given : Given) (call : Option Call) (stage : Stage) → given.local ≡ v.channel.told.given.local → given.peer ≡ v.channel.told.given.peer → t.items ≡ s.items → t.answers ≡ s.answers → t.polled ≡ s.polled → t.heard ≡ s.heard → Place coding old s came answered v call stage → Place coding old t came answered (with_given v given) call stage
  place_given old s t came answered v given call stage local peer items answers polled heard place =
      let same : Place coding old s came answered (with_given v given) call stage = go call stage place in
      let P : List Item → List Answer → Bool → Bool → Type 0 = λ i a p h. Place coding old (record s { items = i; answers = a; polled = p; heard = h }) came answered (with_given v given) call stage in
      let Q : List Item → Type 0 = λ i. P i t.answers t.polled t.heard in
      let R : List Answer → Type 0 = λ a. P s.items a t.polled t.heard in
      let S : Bool → Type 0 = λ p. P s.items s.answers p t.heard in
      let H : Bool → Type 0 = λ h. P s.items s.answers s.polled h in
      back call stage (subst Q (sym items) (subst R (sym answers) (subst S (sym polled) (subst H (sym heard) same))))
    where
      -- the ends of the connection stay, and so does all that a run sees
      same_play_state : (more : List ℕ) (ended : Bool) (outcomes : List NetOutcome) → play_state v more ended outcomes ≡ play_state (with_given v given) more ended outcomes
      same_play_state more ended outcomes =
          let s : PlayState = play_state v more ended outcomes in
          ap (λ a. record s { local = a }) (sym local) ∙ ap (λ a. record s { local = given.local; peer = a }) (sym peer)

      stands_given : (items : List Item) → Stands coding old items came answered v s.answers → Stands coding old items came answered (with_given v given) s.answers
      stands_given items stands = λ later room more ended outcomes fit on. stands later room more ended outcomes fit on ∙ ap (λ x. before_all s.answers (replay room coding later x)) (same_play_state more ended outcomes)

      reaches_given : (call : Call) (tree : Tree) → Reaches coding old s.items came answered v s.answers call tree → Reaches coding old s.items came answered (with_given v given) s.answers call tree
      reaches_given call tree reaches = λ later room more ended outcomes fit on. reaches later room more ended outcomes fit on ∙ ap (λ x. before_all s.answers (and_then (finally (play room tree x)) (λ t. replay room coding later t))) (same_play_state more ended outcomes)

      go : (call : Option Call) (stage : Stage) → Place coding old s came answered v call stage → Place coding old s came answered (with_given v given) call stage
      go None stage place = stands_given s.items place
      go (Some call) stage (inl place) = inl (record { at = place.at; unpolled = place.unpolled; unheard = place.unheard; stands = stands_given s.items place.stands })
      go (Some call) stage (inr (inl place)) = inr (inl (record { stage_of = place.stage_of; polled = place.polled; undue = place.undue; going = place.going; reaches = reaches_given call (remaining coding call v.state stage) place.reaches; resumes = place.resumes; apart = place.apart; read = λ r. stands_given s.items (place.read r); since = record { start = place.since.start; before = place.since.before; later = place.since.later; split = place.since.split; asked_before = place.since.asked_before; asked_later = place.since.asked_later; asked_split = place.since.asked_split; stands = place.since.stands; sent = place.since.sent; over = place.since.over; said = place.since.said; taken = place.since.taken; has_begun = place.since.has_begun; not_begun = place.since.not_begun }; leaves = λ is. stands_given (s.items ++ Hidden Leave ∷ []) (place.leaves is); unsent = place.unsent }))
      go (Some call) stage (inr (inr place)) = inr (inr (record { plain = place.plain; stage_of = place.stage_of; polled = place.polled; unheard = place.unheard; undue = place.undue; going = place.going; no_read = place.no_read; reaches = reaches_given call (remaining coding call v.state stage) place.reaches; resumes = place.resumes; since = record { start = place.since.start; before = place.since.before; later = place.since.later; split = place.since.split; asked_before = place.since.asked_before; asked_later = place.since.asked_later; asked_split = place.since.asked_split; stands = place.since.stands; sent = place.since.sent; over = place.since.over; said = place.since.said; taken = place.since.taken; has_begun = place.since.has_begun; not_begun = place.since.not_begun } }))

      back : (call : Option Call) (stage : Stage) → Place coding old (record s { items = t.items; answers = t.answers; polled = t.polled; heard = t.heard }) came answered (with_given v given) call stage → Place coding old t came answered (with_given v given) call stage
      back None stage place = place
      back (Some call) stage (inl place) = inl (record { at = place.at; unpolled = place.unpolled; unheard = place.unheard; stands = place.stands })
      back (Some call) stage (inr (inl place)) = inr (inl (record { stage_of = place.stage_of; polled = place.polled; undue = place.undue; going = place.going; reaches = place.reaches; resumes = place.resumes; apart = place.apart; read = place.read; since = record { start = place.since.start; before = place.since.before; later = place.since.later; split = place.since.split; asked_before = place.since.asked_before; asked_later = place.since.asked_later; asked_split = place.since.asked_split; stands = place.since.stands; sent = place.since.sent; over = place.since.over; said = place.since.said; taken = place.since.taken; has_begun = place.since.has_begun; not_begun = place.since.not_begun }; leaves = λ is. place.leaves is; unsent = place.unsent }))
      back (Some call) stage (inr (inr place)) = inr (inr (record { plain = place.plain; stage_of = place.stage_of; polled = place.polled; unheard = place.unheard; undue = place.undue; going = place.going; no_read = place.no_read; reaches = place.reaches; resumes = place.resumes; since = record { start = place.since.start; before = place.since.before; later = place.since.later; split = place.since.split; asked_before = place.since.asked_before; asked_later = place.since.asked_later; asked_split = place.since.asked_split; stands = place.since.stands; sent = place.since.sent; over = place.since.over; said = place.since.said; taken = place.since.taken; has_begun = place.since.has_begun; not_begun = place.since.not_begun } }))

  -- what is fed is unread
  fed_unread : (t : Told) (more : List ℕ) → IsGiven t → drop (length t.received) (t.given.bytes ++ more) ≡ unread t ++ more
  fed_unread t more given =
      ap (λ b. drop (length t.received) (b ++ more)) given.front
      ∙ ap (drop (length t.received)) (append_assoc t.received given.ahead more)
      ∙ drop-append_seam t.received (given.ahead ++ more)
      ∙ ap (λ u. u ++ more) (sym (unread_is t given))

  module _ (old : SessionValue) (s : Script) (v : SessionValue) (call : Option Call) (stage : Stage) (answers : List Answer) (f : Follows builds coding outcomes left old s v call stage answers) where
    -- bytes come, where the end hadn't
    fed_open : (more : List ℕ) → is_over v.channel.told ≡ false → (given : Given) → given ≡ record v.channel.told.given { bytes = v.channel.told.given.bytes ++ more } → IsGiven (with_given v given).channel.told → IsSound (Unit {0}) (with_given v given).channel → Follows builds coding outcomes left old (record s { bytes = s.bytes ++ more; untaken = s.untaken ++ more }) (with_given v given) call stage answers
    fed_open more on given is has sound =
        let t = v.channel.told in
        let unread' : drop (length t.received) given.bytes ≡ unread t ++ more = ap (λ g. drop (length t.received) g.bytes) is ∙ fed_unread t more f.given in
        record {
          came = f.came;
          answered = f.answered;
          net_events = f.net_events;
          outcomes_are = f.outcomes_are;
          net_record = f.net_record;
          place = place_given old s (record s { bytes = s.bytes ++ more; untaken = s.untaken ++ more }) f.came f.answered v given call stage (ap (λ g. g.local) is) (ap (λ g. g.peer) is) refl refl refl refl f.place;
          rule = f.rule;
          failures = f.failures;
          given = has;
          sound = sound;
          bytes = ap (λ b. b ++ more) f.bytes ∙ append_assoc (untaken old.channel ++ f.came) (unread t) more ∙ ap (λ u. untaken old.channel ++ f.came ++ u) (sym unread');
          ended = f.ended ∙ ap (λ g. g.closed || t.ended) (sym is);
          room = f.room ∙ ap (λ g. g.room) (sym is);
          sent = f.sent;
          said = record { rest = f.said.rest; is = f.said.is; whole = f.said.whole };
          received = f.received;
          unsent = f.unsent;
          untaken = ap (λ b. b ++ more) f.untaken ∙ append_assoc (untaken v.channel) (unread t) more ∙ ap (λ u. untaken v.channel ++ u) (sym unread');
          seen = f.seen;
          waits = f.waits;
          state = f.state;
          failed = f.failed;
          call_is = f.call_is;
          answers_are = f.answers_are;
        }

    pub feeds : (more : List ℕ) (w : SessionValue) → w ≡ record v { channel = record v.channel { told = fed more v.channel.told } } → IsGiven w.channel.told → IsSound (Unit {0}) w.channel → Follows builds coding outcomes left old (after_event coding (start_of old outcomes) s (event.Feed more)) w call stage answers
    feeds more w is has sound =
        let t = v.channel.told in
        let given : Given = record t.given { bytes = t.given.bytes ++ more } in
        let later : Script = record s { bytes = s.bytes ++ more; untaken = s.untaken ++ more } in
        let P : SessionValue → Type 0 = λ x. IsGiven x.channel.told → IsSound (Unit {0}) x.channel → Follows builds coding outcomes left old (after_event coding (start_of old outcomes) s (event.Feed more)) x call stage answers in
        let Q : Bool → Bool → Type 0 = λ a b. IsGiven (cond b t (record t { given = given })) → IsSound (Unit {0}) (record v.channel { told = cond b t (record t { given = given }) }) → Follows builds coding outcomes left old (cond a s later) (record v { channel = record v.channel { told = cond b t (record t { given = given }) } }) call stage answers in
        let R : Bool → Type 0 = λ a. Q a (is_over t) in
        let go : (over : Bool) → is_over t ≡ over → Q over over = λ over. elim over as (λ o. is_over t ≡ o → Q o o) [
          | true ↦ λ on has sound. f
          | false ↦ λ on has sound. fed_open more on given refl has sound
        ] in
        subst P (sym is) (subst R (sym f.ended) (go (is_over t) refl)) has sound

    pub ends : (w : SessionValue) → w ≡ record v { channel = record v.channel { told = closed_memory v.channel.told } } → IsGiven w.channel.told → IsSound (Unit {0}) w.channel → Follows builds coding outcomes left old (after_event coding (start_of old outcomes) s event.End) w call stage answers
    ends w is has sound =
        let P : SessionValue → Type 0 = λ x. IsGiven x.channel.told → IsSound (Unit {0}) x.channel → Follows builds coding outcomes left old (after_event coding (start_of old outcomes) s event.End) x call stage answers in
        let given : Given = record v.channel.told.given { closed = true } in
        let after : Script = record s { ended = true } in
        let ended : IsGiven (with_given v given).channel.told → IsSound (Unit {0}) (with_given v given).channel → Follows builds coding outcomes left old after (with_given v given) call stage answers = λ has sound. record {
          came = f.came;
          answered = f.answered;
          net_events = f.net_events;
          outcomes_are = f.outcomes_are;
          net_record = f.net_record;
          place = place_given old s after f.came f.answered v given call stage refl refl refl refl refl refl f.place;
          rule = f.rule;
          failures = f.failures;
          given = has;
          sound = sound;
          bytes = f.bytes;
          ended = refl;
          room = f.room;
          sent = f.sent;
          said = record { rest = f.said.rest; is = f.said.is; whole = f.said.whole };
          received = f.received;
          unsent = f.unsent;
          untaken = f.untaken;
          seen = f.seen;
          waits = f.waits;
          state = f.state;
          failed = f.failed;
          call_is = f.call_is;
          answers_are = f.answers_are;
        } in
        subst P (sym is) ended has sound

    pub widens : (more : ℕ) (w : SessionValue) → w ≡ record v { channel = record v.channel { told = widened more v.channel.told } } → IsGiven w.channel.told → IsSound (Unit {0}) w.channel → Follows builds coding outcomes left old (after_event coding (start_of old outcomes) s (event.Room more)) w call stage answers
    widens more w is has sound =
        let P : SessionValue → Type 0 = λ x. IsGiven x.channel.told → IsSound (Unit {0}) x.channel → Follows builds coding outcomes left old (after_event coding (start_of old outcomes) s (event.Room more)) x call stage answers in
        let t = v.channel.told in
        let given : Given = record t.given { room = more_room more (length t.sent) t.given.room } in
        let after : Script = record s { room = more_room more (length s.sent) s.room } in
        let wide : IsGiven (with_given v given).channel.told → IsSound (Unit {0}) (with_given v given).channel → Follows builds coding outcomes left old after (with_given v given) call stage answers = λ has sound. record {
          came = f.came;
          answered = f.answered;
          net_events = f.net_events;
          outcomes_are = f.outcomes_are;
          net_record = f.net_record;
          place = place_given old s after f.came f.answered v given call stage refl refl refl refl refl refl f.place;
          rule = f.rule;
          failures = f.failures;
          given = has;
          sound = sound;
          bytes = f.bytes;
          ended = f.ended;
          room = ap (λ x. more_room more (length x) s.room) f.sent ∙ ap (λ r. more_room more (length t.sent) r) f.room;
          sent = f.sent;
          said = record { rest = f.said.rest; is = f.said.is; whole = f.said.whole };
          received = f.received;
          unsent = f.unsent;
          untaken = f.untaken;
          seen = f.seen;
          waits = f.waits;
          state = f.state;
          failed = f.failed;
          call_is = f.call_is;
          answers_are = f.answers_are;
        } in
        subst P (sym is) wide has sound

  -- the session stands where it stood: of the call under way something else is known, and of what is done
  module _ (old : SessionValue) (s : Script) (v : SessionValue) (call : Option Call) (stage : Stage) (answers : List Answer) (f : Follows builds coding outcomes left old s v call stage answers) where
    with_known : (items : List Item) (under call' : Option Call) (polled heard leaving : Bool) (stage' : Stage) → under ≡ call' → Place coding old (record s { items = items; call = under; polled = polled; heard = heard; leaving = leaving }) f.came f.answered v call' stage' → (MayCancel call' polled → MayCancel call s.polled) → Follows builds coding outcomes left old (record s { items = items; call = under; polled = polled; heard = heard; leaving = leaving }) v call' stage' answers
    with_known items under call' polled heard leaving stage' call_is place may = record {
      came = f.came;
      answered = f.answered;
      net_events = f.net_events;
      outcomes_are = f.outcomes_are;
      net_record = f.net_record;
      place = place;
      rule = f.rule;
      failures = f.failures;
      given = f.given;
      sound = f.sound;
      bytes = f.bytes;
      ended = f.ended;
      room = f.room;
      sent = f.sent;
      said = record { rest = f.said.rest; is = f.said.is; whole = f.said.whole };
      received = f.received;
      unsent = λ may_cancel'. f.unsent (may may_cancel');
      untaken = f.untaken;
      seen = f.seen;
      waits = f.waits;
      state = f.state;
      failed = f.failed;
      call_is = call_is;
      answers_are = f.answers_are;
    }

  -- a call begins, where none is under way
  pub begins_call : (old : SessionValue) (s : Script) (v : SessionValue) (next : Call) (stage : Stage) (answers : List Answer) → Follows builds coding outcomes left old s v None stage answers → Follows builds coding outcomes left old (with_call next s) v (Some next) (At First) answers
  begins_call old s v next stage answers f =
      with_known old s v None stage answers f s.items (Some next) (Some next) false false s.leaving (At First) refl (inl (record { at = refl; unpolled = refl; unheard = refl; stands = f.place })) (λ may. tt)

  pub starts : (old : SessionValue) (s : Script) (v : SessionValue) (next : Call) (call call' : Option Call) (stage stage' : Stage) (course course' : Course) (answers : List Answer) → Attended builds coding outcomes left old s v call stage course answers → Starts next call call' stage stage' course course' → Attended builds coding outcomes left old (after_event coding (start_of old outcomes) s (event.Start next)) v call' stage' course' answers
  starts old s v next None call' stage stage' course course' answers (f, a) is =
      let P : Option Call → Type 0 = λ c. Attended builds coding outcomes left old (start_script next c s) v call' stage' course' answers in
      let Q : Option Call → Type 0 = λ c. Attended builds coding outcomes left old (with_call next s) v c stage' course' answers in
      let R : Stage → Type 0 = λ x. Attended builds coding outcomes left old (with_call next s) v (Some next) x course' answers in
      let C : Course → Type 0 = λ x. Attended builds coding outcomes left old (with_call next s) v (Some next) (At First) x answers in
      subst P (sym f.call_is)
      (subst Q (sym is.0)
      (subst R (sym is.1)
      (subst C (sym is.2) (begins_call old s v next stage answers f, record { polled = refl; leaving = a.leaving; resting = λ none. (let clash : Some next ≡ None = none in cc) }))))
  starts old s v next (Some other) call' stage stage' course course' answers (f, a) is =
      let P : Option Call → Type 0 = λ c. Attended builds coding outcomes left old (start_script next c s) v call' stage' course' answers in
      let Q : Option Call → Type 0 = λ c. Attended builds coding outcomes left old s v c stage' course' answers in
      let R : Stage → Type 0 = λ x. Attended builds coding outcomes left old s v (Some other) x course' answers in
      let C : Course → Type 0 = λ x. Attended builds coding outcomes left old s v (Some other) stage x answers in
      subst P (sym f.call_is) (subst Q (sym is.0) (subst R (sym is.1) (subst C (sym is.2) (f, a))))

  -- the call under way is dropped, of which no trace is left
  pub cancels : (old : SessionValue) (s : Script) (v : SessionValue) (call : Option Call) (stage stage' : Stage) (answers : List Answer) → Follows builds coding outcomes left old s v call stage answers → LeavesNoTrace call s.polled → Follows builds coding outcomes left old (without_call s) v None stage' answers
  cancels old s v call stage stage' answers f dropped =
      with_known old s v call stage answers f s.items None None false false s.leaving stage' refl (go call stage f.place dropped) (λ may. may_cancel call s.polled dropped)
    where
      go : (call : Option Call) (stage : Stage) → Place coding old s f.came f.answered v call stage → LeavesNoTrace call s.polled → Stands coding old s.items f.came f.answered v s.answers
      go None stage place may = place
      go (Some call) stage (inl place) may = place.stands
      go (Some call) stage (inr (inl place)) (inl new) = let clash : true ≡ false = sym place.polled ∙ new in cc
      go (Some call) stage (inr (inl place)) (inr read) = place.read read
      go (Some call) stage (inr (inr place)) (inl new) = let clash : true ≡ false = sym place.polled ∙ new in cc
      go (Some call) stage (inr (inr place)) (inr read) = let clash : true ≡ false = sym read ∙ place.no_read in cc

  -- `Finish` is dropped that was polled: it has left its transfer
  pub leaves_end : (old : SessionValue) (s : Script) (v : SessionValue) (call : Call) (stage stage' : Stage) (answers : List Answer) → Follows builds coding outcomes left old s v (Some call) stage answers → call ≡ Finish → s.polled ≡ true → Follows builds coding outcomes left old (record (idle s) { items = s.items ++ Hidden Leave ∷ [] }) v None stage' answers
  leaves_end old s v call stage stage' answers f is polled =
      with_known old s v (Some call) stage answers f (s.items ++ Hidden Leave ∷ []) None None false false false stage' refl (go f.place) (λ may. inr (inr is))
    where
      go : Place coding old s f.came f.answered v (Some call) stage → Stands coding old (s.items ++ Hidden Leave ∷ []) f.came f.answered v s.answers
      go (inl started) = let clash : true ≡ false = sym polled ∙ started.unpolled in cc
      go (inr (inl u)) = u.leaves is
      go (inr (inr u)) = let clash : true ≡ false = sym (ap needs_data is) ∙ u.plain in cc

  -- no call is under way
  pub idles : (old : SessionValue) (s : Script) (v : SessionValue) (stage : Stage) (answers : List Answer) → Follows builds coding outcomes left old s v None stage answers → Follows builds coding outcomes left old (idle s) v None stage answers
  idles old s v stage answers f =
      with_known old s v None stage answers f s.items None None false false false stage refl f.place (λ may. tt)

  -- a transfer is to be left once the call under way is over
  pub leaves_later : (old : SessionValue) (s : Script) (v : SessionValue) (call : Option Call) (stage : Stage) (answers : List Answer) → Follows builds coding outcomes left old s v call stage answers → Follows builds coding outcomes left old (record s { leaving = true }) v call stage answers
  leaves_later old s v call stage answers f =
      with_known old s v call stage answers f s.items s.call call s.polled s.heard true stage f.call_is (place_given old s (record s { leaving = true }) f.came f.answered v v.channel.told.given call stage refl refl refl refl refl refl f.place) (λ may. may)

  -- a script begins
  pub begins : (v : SessionValue) (form : ReplyForm) (stage : Stage) → outcomes ≡ left → IsGiven v.channel.told → IsSound (Unit {0}) v.channel → outcome v.channel.rule form v.channel.kept false ≡ Waits → Follows builds coding outcomes left v (script_of v form) v None stage []
  begins v form stage all given sound waits = record {
    came = [];
    answered = [];
    net_events = refl;
    outcomes_are = all;
    net_record = refl;
    place = λ later room more ended outcomes' fit on. refl;
    rule = inr refl;
    failures = refl;
    given = given;
    sound = sound;
    bytes = ap (λ k. k ++ unread v.channel.told) (sym (append-nil (untaken v.channel)));
    ended = refl;
    room = refl;
    sent = refl;
    said = record { rest = []; is = sym (append-nil (said v.channel)); whole = inl refl };
    received = sym (append-nil v.channel.told.received);
    unsent = λ may. refl;
    untaken = refl;
    seen = refl;
    waits = waits;
    state = refl;
    failed = refl;
    call_is = refl;
    answers_are = refl;
  }

  -- what is known of the call under way stays
  pub still_attends : (s t : Script) (course : Course) → t.call ≡ s.call → t.polled ≡ s.polled → t.leaving ≡ s.leaving → Attends s course → Attends t course
  still_attends s t course same polled leaving a = record { polled = polled ∙ a.polled; leaving = leaving ∙ a.leaving; resting = λ none. polled ∙ a.resting (sym same ∙ none) }

  pub fed_attends : (old : SessionValue) (more : List ℕ) (s : Script) (course : Course) → Attends s course → Attends (after_event coding (start_of old outcomes) s (event.Feed more)) course
  fed_attends old more s course a =
      let later : Script = record s { bytes = s.bytes ++ more; untaken = s.untaken ++ more } in
      elim s.ended as (λ b. Attends (cond b s later) course) [
        | true ↦ a
        | false ↦ still_attends s later course refl refl refl a
      ]

  -- an event without an answer
  pub happened : (old : SessionValue) (s : Script) (w : SessionValue) (event kind : Event) (call call' : Option Call) (stage stage' : Stage) (course course' : Course) (answers : List Answer) → event ≡ kind → call' ≡ call → stage' ≡ stage → course' ≡ course → Attended builds coding outcomes left old (after_event coding (start_of old outcomes) s kind) w call stage course answers → Attended builds coding outcomes left old (after_event coding (start_of old outcomes) s event) w call' stage' course' (answers ++ [])
  happened old s w event kind call call' stage stage' course course' answers is same stays kept f =
      let E : Event → Type 0 = λ e. Attended builds coding outcomes left old (after_event coding (start_of old outcomes) s e) w call' stage' course' (answers ++ []) in
      let C : Option Call → Type 0 = λ c. Attended builds coding outcomes left old (after_event coding (start_of old outcomes) s kind) w c stage' course' (answers ++ []) in
      let S : Stage → Type 0 = λ x. Attended builds coding outcomes left old (after_event coding (start_of old outcomes) s kind) w call x course' (answers ++ []) in
      let K : Course → Type 0 = λ x. Attended builds coding outcomes left old (after_event coding (start_of old outcomes) s kind) w call stage x (answers ++ []) in
      let A : List Answer → Type 0 = λ a. Attended builds coding outcomes left old (after_event coding (start_of old outcomes) s kind) w call stage course a in
      subst E (sym is) (subst C (sym same) (subst S (sym stays) (subst K (sym kept) (subst A (sym (append-nil answers)) f))))

  -- the session itself stays
  pub stayed : (old : SessionValue) (s : Script) (v w : SessionValue) (call : Option Call) (stage : Stage) (answers : List Answer) → w ≡ v → Follows builds coding outcomes left old s v call stage answers → Follows builds coding outcomes left old s w call stage answers
  stayed old s v w call stage answers same f = let P : SessionValue → Type 0 = λ x. Follows builds coding outcomes left old s x call stage answers in subst P (sym same) f

-- what is fed fails nothing
pub fed_failures : (more : List ℕ) (t : Told) → (fed more t).failures ≡ t.failures
fed_failures more t =
    let P : Bool → Type 0 = λ b. (cond b t (record t { given = record t.given { bytes = t.given.bytes ++ more } })).failures ≡ t.failures in
    let go : (b : Bool) → P b = λ b. elim b as P [ true ↦ refl | false ↦ refl ] in
    go (is_over t)

-- a poll over memory fails the session only where its call fails
pub polls_here_fail : (builds : Builds) (coding : Coding) (call : Call) (stage stage' : Stage) (v w : SessionValue) (result : Poll Answer) → PollsHere builds coding call stage stage' v w result → FailsWith v w (given_by result)
polls_here_fail builds coding call stage stage' v w result here = go result here.fails
  where
    go : (r : Poll Answer) → (w.channel.failed ≡ true → (v.channel.failed ≡ true) ⊎ HasFault (polled_answer r)) → FailsWith v w (given_by r)
    go (Ready answer) fails = fails
    go Pending fails = fails

-- what doesn't fail a session
pub still_fails : (v w : SessionValue) → w.channel.failed ≡ v.channel.failed → FailsWith v w []
still_fails v w same = λ failed. inl (sym same ∙ failed)

-- what happens to the channel alone
pub through : (F : Channel → Channel) (v w : SessionValue) (a b : Channel) (state : State) (net : Net) → record { channel = a; state = state; net = net } ≡ v → w ≡ record { channel = b; state = state; net = net } → b ≡ F a → w ≡ record v { channel = F v.channel }
through F v w a b state net before after is =
    let P : SessionValue → Type 0 = λ x. w ≡ record x { channel = F x.channel } in
    let Q : Channel → SessionValue = λ c. record { channel = c; state = state; net = net } in
    subst P before (after ∙ ap Q is)

-- an event that ends no script
pub passes_on : (builds : Builds) (coding : Coding) (v w : SessionValue) (call call' : Option Call) (stage stage' : Stage) (course course' : Course) (event : Event) (result : Option Answer) (kind : Event) → event ≡ kind → parts_here call course v kind ≡ false → Happens builds coding v w call call' stage stage' course course' event result → Passes builds coding v w call call' stage stage' course course' event result
passes_on builds coding v w call call' stage stage' course course' event result kind is none happens =
    let P : Bool → Type 0 = λ b. PassesIf b builds coding v w call call' stage stage' course course' event result in
    subst P (sym (ap (λ e. parts_here call course v e) is ∙ none)) happens
