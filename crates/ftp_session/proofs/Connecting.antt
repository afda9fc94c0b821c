-- Lemmas on how a session comes to its connection.
use Rattle.std.proofs.lemmas.Bool.{eqb-true}
use Rattle.std.specs.Duration.{as_nanos}
use Rattle.std.specs.declared.time.Duration.{Duration}
use Rattle.std.specs.declared.net.socket_addr.SocketAddr.{SocketAddr}
use Rattle.std.proofs.Common.{◌≡◌, ◌==◌, ℕ, Bool, true, false, Some, take, List, [], ◌∷◌, ◌++◌, inl, inr, refl, sym, ap, subst, ◌∙◌, append_assoc, Result, Ok, Err}
use Rattle.ftp_base.specs.declared.types.fault.ConnectionError.{ConnectionError}
use Rattle.ftp_base.specs.declared.types.fault.FtpError.{FtpError}
use Rattle.ftp_base.specs.declared.types.fault.FtpError.TheVariants.{ConnectionError as Connection}
use Rattle.ftp_transport.specs.Asking.{connects_to, requests_of, AreRefused, RefusedInTurn, ConnectsInTurn}
use Rattle.ftp_transport.specs.Told.{Told}
use Rattle.ftp_transport.specs.declared.room.Room.{Room}
use Rattle.ftp_transport.specs.declared.request.Asked.{Asked}
use Rattle.ftp_transport.specs.declared.request.Request.{Request}
use Rattle.ftp_dialogue.specs.declared.model.NetOutcome.{NetOutcome}
use Rattle.ftp_dialogue.specs.declared.model.NetOutcome.TheVariants.{Answered}
use Rattle.ftp_transport.specs.declared.request.RequestOutcome.TheVariants.{Done, Refused}
use Rattle.ftp_transport.specs.declared.supply.Supply.{Supply}
use Rattle.ftp_calls.specs.declared.call.Answer.TheVariants.{Fault}
use Rattle.ftp_calls.specs.declared.call.Call.TheVariants.{Greet}
use Rattle.ftp_dialogue.specs.declared.state.State.{State}
use Rattle.ftp_dialogue.specs.declared.model.PlayState.{PlayState}
use Rattle.ftp_dialogue.specs.Coding.{Coding}
use Rattle.ftp_dialogue.specs.NetEvents.{after_request, first_net, Net}
use Rattle.ftp_dialogue.specs.declared.model.NetRecord.{NetRecord}
use Rattle.ftp_control.specs.declared.control.rule.ReplyRule.{ReplyRule}
use Rattle.ftp_session.specs.Calls.{FailsToConnect, Connects}
use Rattle.ftp_session.specs.Connecting.{connecting, connects_within, after_requests, if_connected, outcomes_in, AsksAll, FailsToConnectBy, IsConnected, NoneConnects, ConnectsBy}
use Rattle.ftp_dialogue.specs.Dialogue.{Tree, Leaf, dialogue}
use Rattle.ftp_dialogue.specs.Link.{Link}
use Rattle.ftp_dialogue.specs.Play.{play}
use Rattle.std.specs.Prelude.{IfErr, MatchResult}
use Rattle.std.specs.declared.io.ErrorKind.{ErrorKind}
use Rattle.ftp_base.specs.declared.types.fault.ConnectionError.TheVariants as cause
use Rattle.ftp_base.specs.declared.types.fault.FtpError.TheVariants as faults
use Rattle.ftp_control.specs.declared.control.rule.ReplyRule.TheVariants.{Strict}
use Rattle.ftp_dialogue.specs.Counted.{CountsFailure, CountsFaults}
use Rattle.ftp_dialogue.specs.State.{SessionValue}
use Rattle.ftp_session.specs.Counting.{CountsConnecting, CountsConnectingUnder, CountsInGreeting, EndsRefused, FailsAtFirst, IsRefusedAtLast}
use Rattle.ftp_session.specs.Implicit.{FailsToConnectUnder, FailsUnder}
use Rattle.ftp_dialogue.proofs.Backed.{clash}
use Rattle.ftp_session.proofs.Reasons.{alone_counts}

outcomes-append : (a b : List Asked) → outcomes_in (a ++ b) ≡ outcomes_in a ++ outcomes_in b
outcomes-append [] b = refl
outcomes-append (one ∷ a) b = ap (λ l. Answered one.outcome ∷ l) (outcomes-append a b)

after_request-snoc : (before : List Asked) (one : Asked) (d : NetRecord) → after_requests (before ++ one ∷ []) d ≡ after_request one.request one.outcome (after_requests before d)
after_request-snoc [] one d = refl
after_request-snoc (first ∷ before) one d = after_request-snoc before one (after_request first.request first.outcome d)

module _ (coding : Coding) (state : State) (refuses : List Supply → ConnectionError → Type 0) (room : Room) where
  -- requests that were refused leave those after them
  past_refused : (answered : List Asked) (left : List Request) (fault last : ConnectionError) (ready ready' : List Supply) (s : PlayState) → AreRefused refuses answered fault last ready ready' → play room (connecting coding (requests_of answered ++ left) fault state) (record s { outcomes = outcomes_in answered ++ s.outcomes }) ≡ play room (connecting coding left last state) (record s { net_record = after_requests answered s.net_record })
  unfolding connecting play
  past_refused [] left fault last ready ready' s refused =
      ap (λ f. play room (connecting coding left f state) s) (sym refused.0)
  past_refused (one ∷ more) left fault last ready ready' s refused =
      let rest : List Request = requests_of more ++ left in
      let here : PlayState = record s { net_record = after_request one.request one.outcome s.net_record } in
      let next : PlayState = record here { outcomes = outcomes_in more ++ s.outcomes } in
      let others : ConnectionError → Tree = λ cause. connecting coding rest cause state in
      let turn : play room (if_connected (dialogue coding Greet state) others one.outcome) next ≡ play room (others refused.0) next = ap (λ o. play room (if_connected (dialogue coding Greet state) others o) next) refused.2 in
      turn ∙ past_refused more left refused.0 last refused.1 ready' here refused.4

  -- the request after them returned a connection
  past_connected : (before : List Asked) (request : Request) (left : List Request) (fault last : ConnectionError) (ready due : List Supply) (s : PlayState) → AreRefused refuses before fault last ready due → (let one : Asked = record { request = request; outcome = Done } in play room (connecting coding (requests_of before ++ request ∷ left) fault state) (record s { outcomes = outcomes_in (before ++ one ∷ []) ++ s.outcomes }) ≡ play room (dialogue coding Greet state) (record s { net_record = after_requests (before ++ one ∷ []) s.net_record }))
  unfolding connecting play
  past_connected before request left fault last ready due s refused =
      let one : Asked = record { request = request; outcome = Done } in
      let after : PlayState = record s { outcomes = Answered Done ∷ s.outcomes } in
      let Q : List NetOutcome → PlayState = λ l. record s { outcomes = l } in
      let P : NetRecord → PlayState = λ d. record s { net_record = d } in
      let joined : outcomes_in (before ++ one ∷ []) ++ s.outcomes ≡ outcomes_in before ++ Answered Done ∷ s.outcomes = ap (λ l. l ++ s.outcomes) (outcomes-append before (one ∷ [])) ∙ append_assoc (outcomes_in before) (Answered Done ∷ []) s.outcomes in
      ap (λ l. play room (connecting coding (requests_of before ++ request ∷ left) fault state) (Q l)) joined
      ∙ past_refused before (request ∷ left) fault last ready due after refused
      ∙ ap (λ d. play room (dialogue coding Greet state) (P d)) (sym (after_request-snoc before one s.net_record))

module _ (link : Link) (coding : Coding) (refuses : List Supply → ConnectionError → Type 0) (requests : List Request) (fault : ConnectionError) (ready ready' : List Supply) (asked asked' : List Asked) where
  -- the requests in turn returned a connection
  pub asks_one : (told : Told) → ConnectsInTurn refuses requests fault told ready ready' asked asked' → AsksAll (connecting coding requests fault) (dialogue coding Greet) asked asked'
  asks_one told turn =
      let so_far = turn.refused in
      let one : Asked = record { request = turn.request; outcome = Done } in
      let answered : List Asked = so_far.answered ++ one ∷ [] in
      record {
        answered = answered;
        asked_are = turn.recorded_is ∙ ap (λ l. l ++ one ∷ []) so_far.recorded_are ∙ append_assoc asked so_far.answered (one ∷ []);
        plays = λ state room s.
            let P : List Request → Type 0 = λ l. play room (connecting coding l fault state) (record s { outcomes = outcomes_in answered ++ s.outcomes }) ≡ play room (dialogue coding Greet state) (record s { net_record = after_requests answered s.net_record }) in
            subst P (sym so_far.in_order) (past_connected coding state refuses room so_far.answered turn.request turn.left fault turn.last ready turn.due s so_far.refused);
      }

  abbrev pub is_connected : (told : Told) → (link.tells → ConnectsInTurn refuses requests fault told ready ready' asked asked') → IsConnected link coding refuses requests fault ready asked asked' told
  is_connected told in_turn = record { unused = ready'; in_turn = in_turn; asks = λ h. asks_one told (in_turn h) }

  -- each was refused
  asks_none : (last : ConnectionError) → RefusedInTurn refuses requests [] fault last ready ready' asked asked' → AsksAll (connecting coding requests fault) (λ state. Leaf (Fault (Connection last)) state) asked asked'
  unfolding connecting
  asks_none last so_far =
      record {
        answered = so_far.answered;
        asked_are = so_far.recorded_are;
        plays = λ state room s.
            let P : List Request → Type 0 = λ l. play room (connecting coding l fault state) (record s { outcomes = outcomes_in so_far.answered ++ s.outcomes }) ≡ play room (Leaf (Fault (Connection last)) state) (record s { net_record = after_requests so_far.answered s.net_record }) in
            subst P (sym so_far.in_order) (past_refused coding state refuses room so_far.answered [] fault last ready ready' s so_far.refused);
      }

  pub none_connects : (last : ConnectionError) → (link.tells → RefusedInTurn refuses requests [] fault last ready ready' asked asked') → NoneConnects link coding refuses requests fault ready asked (Connection last)
  none_connects last in_turn = record { last = last; is = refl; unused = ready'; asked_by = asked'; in_turn = in_turn; asks = λ h. asks_none last (in_turn h) }

-- no session is made on the connection that the requests returned
pub fails_by : (link : Link) (coding : Coding) (rule : ReplyRule) (refuses : List Supply → ConnectionError → Type 0) (requests : List Request) (fault : ConnectionError) (ready unused : List Supply) (closed : List Told) (asked asked' : List Asked) (told : Told) (answer : FtpError) → (link.tells → ConnectsInTurn refuses requests fault told ready unused asked asked') → FailsToConnect link coding rule told (first_net asked' unused closed) answer → FailsToConnectBy link coding rule refuses requests fault ready closed asked answer
fails_by link coding rule refuses requests fault ready unused closed asked asked' told answer in_turn (inl (new, connects)) = inr (inl (new, record { told = told; asked_by = asked'; connected = is_connected link coding refuses requests fault ready unused asked asked' told in_turn; connects = connects }))
fails_by link coding rule refuses requests fault ready unused closed asked asked' told answer in_turn (inr memory) = inr (inr memory)

-- what is asked within a time: nothing where there is none
pub within_none : (limit : Duration) (address : SocketAddr) (count : ℕ) → count ≡ 0 → as_nanos limit ≡ 0 → connects_to (Some limit) (take count (address ∷ [])) ≡ connects_within limit address
within_none limit address count none zero = rw (none, zero) refl

pub within_some : (limit : Duration) (address : SocketAddr) (count : ℕ) → count ≡ 1 → (as_nanos limit ≡ 0 → ⊥) → connects_to (Some limit) (take count (address ∷ [])) ≡ connects_within limit address
within_some limit address count one some = rw one (go (as_nanos limit == 0) refl)
  where
    go : (b : Bool) → (as_nanos limit == 0) ≡ b → connects_to (Some limit) (address ∷ []) ≡ connects_within limit address
    go true is = absurd (some (eqb-true (as_nanos limit) 0 is))
    go false is = rw is refl

-- Failures that are counted meanwhile

-- what is known of an error is known where one is returned
pub on_error : {S : Type 0} (P : S → Type 0) (Q R : FtpError → Type 0) (result : Result S FtpError) → MatchResult result P Q → ((fault : FtpError) → Q fault → R fault) → IfErr result R
on_error P Q R (Ok value) known knows = tt
on_error P Q R (Err fault) known knows = knows fault known

-- The greeting

module _ (link : Link) (coding : Coding) (rule : ReplyRule) (told : Told) (net : Net) (fault : FtpError) where
  greeted : (new : SessionValue) (connects : Connects link coding rule told net new (Err fault)) → CountsFaults link.tells connects.old new (Fault fault)
  greeted new connects = alone_counts link coding Greet connects.old new (Fault fault) (refl, refl, refl) connects.greets

  greeting_failed : (new : SessionValue) → Connects link coding rule told net new (Err fault) → CountsInGreeting link coding rule told net fault
  greeting_failed new connects =
      let P : Told → Type 0 = λ t. CountsFailure t new.channel.told in
      record {
        counted = λ kind is h. (new, connects, subst P (connects.begins.told h) ((greeted new connects).counted kind (ap Fault is) h));
        not_failed = λ is. clash (sym ((greeted new connects).had_failed (ap Fault is)) ∙ connects.begins.idle.failed);
      }

  memory_in_greeting : fault ≡ faults.OutOfMemory → CountsInGreeting link coding rule told net fault
  memory_in_greeting memory = record { counted = λ kind is h. cc (sym memory ∙ is); not_failed = λ is. cc (sym memory ∙ is) }

  pub greeting_counts : FailsToConnect link coding rule told net fault → CountsInGreeting link coding rule told net fault
  greeting_counts (inl failed) = greeting_failed failed.0 failed.1
  greeting_counts (inr memory) = memory_in_greeting memory

-- Requests in turn

last_refused : (refuses : List Supply → ConnectionError → Type 0) (one : Asked) (more : List Asked) (none last : ConnectionError) (ready unused : List Supply) → AreRefused refuses (one ∷ more) none last ready unused → EndsRefused last (one ∷ more)
last_refused refuses one [] none last ready unused refused = refused.2 ∙ ap Refused (sym refused.4.0)
last_refused refuses one (two ∷ more) none last ready unused refused = last_refused refuses two more refused.0 last refused.1 unused refused.4

-- where the last error isn't the one of before, a request was refused with it
ends_refused : (refuses : List Supply → ConnectionError → Type 0) (asked : List Asked) (none last : ConnectionError) (ready unused : List Supply) → (last ≡ none → ⊥) → AreRefused refuses asked none last ready unused → EndsRefused last asked
ends_refused refuses [] none last ready unused other refused = absurd (other refused.0)
ends_refused refuses (one ∷ more) none last ready unused other refused = last_refused refuses one more none last ready unused refused

module _ (link : Link) (coding : Coding) (refuses : List Supply → ConnectionError → Type 0) (requests : List Request) (none : ConnectionError) (ready : List Supply) (closed : List Told) (asked : List Asked) (plain : (kind : ErrorKind) → none ≡ cause.Io kind → ⊥) (fault : FtpError) where
  refused_at_last : (kind : ErrorKind) → fault ≡ faults.ConnectionError (cause.Io kind) → link.tells → NoneConnects link coding refuses requests none ready asked fault → IsRefusedAtLast refuses requests none (cause.Io kind) ready asked
  refused_at_last kind is h none_connects =
      let both : faults.ConnectionError none_connects.last ≡ faults.ConnectionError (cause.Io kind) = sym none_connects.is ∙ is in
      let same : none_connects.last ≡ cause.Io kind = cc both in
      let P : ConnectionError → Type 0 = λ c. RefusedInTurn refuses requests [] none c ready none_connects.unused asked none_connects.asked_by in
      let turn = subst P same (none_connects.in_turn h) in
      record {
        unused = none_connects.unused;
        asked_by = none_connects.asked_by;
        in_turn = turn;
        last = ends_refused refuses turn.answered none (cause.Io kind) ready none_connects.unused (λ io. plain kind (sym io)) turn.refused;
      }

  none_counts : (rule : ReplyRule) → NoneConnects link coding refuses requests none ready asked fault → CountsConnecting link coding rule refuses requests none ready closed asked fault
  none_counts rule none_connects = record { counted = λ kind is h. inl (refused_at_last kind is h none_connects); not_failed = λ is. cc (sym none_connects.is ∙ is) }

  one_counts : (rule : ReplyRule) (new : SessionValue) → ConnectsBy link coding rule refuses requests none ready closed asked new (Err fault) → CountsConnecting link coding rule refuses requests none ready closed asked fault
  one_counts rule new by =
      let counts = greeting_failed link coding rule by.told (first_net by.asked_by by.connected.unused closed) fault new by.connects in
      record { counted = λ kind is h. inr (record { told = by.told; asked_by = by.asked_by; connected = by.connected; is = counts.counted kind is h }); not_failed = counts.not_failed }

  memory_counts : (rule : ReplyRule) → fault ≡ faults.OutOfMemory → CountsConnecting link coding rule refuses requests none ready closed asked fault
  memory_counts rule memory = record { counted = λ kind is h. cc (sym memory ∙ is); not_failed = λ is. cc (sym memory ∙ is) }

  pub connecting_counts : (rule : ReplyRule) → FailsToConnectBy link coding rule refuses requests none ready closed asked fault → CountsConnecting link coding rule refuses requests none ready closed asked fault
  connecting_counts rule (inl none_connects) = none_counts rule none_connects
  connecting_counts rule (inr (inl one)) = one_counts rule one.0 one.1
  connecting_counts rule (inr (inr memory)) = memory_counts rule memory

  module _ (handshake : Told → Result Told FtpError → Type 0) where
    none_under : NoneConnects link coding refuses requests none ready asked fault → CountsConnectingUnder link handshake coding refuses requests none ready closed asked fault
    none_under none_connects = record { counted = λ kind is h. inl (refused_at_last kind is h none_connects); had_failed = λ is. cc (sym none_connects.is ∙ is) }

    at_first : (told : Told) (net : Net) (kind : ErrorKind) → fault ≡ faults.ConnectionError (cause.Io kind) → link.tells → FailsUnder link handshake coding told net fault → FailsAtFirst link handshake coding told net fault
    at_first told net kind is h (inl gives) = inl gives
    at_first told net kind is h (inr under) = inr (under.0, under.1, (greeting_counts link coding Strict under.0 net fault under.2).counted kind is h)

    gave_failed : (told : Told) (net : Net) → fault ≡ faults.SessionFailed → FailsUnder link handshake coding told net fault → handshake told (Err fault)
    gave_failed told net is (inl gives) = gives
    gave_failed told net is (inr under) = absurd ((greeting_counts link coding Strict under.0 net fault under.2).not_failed is)

    one_under : (told : Told) (asked_by : List Asked) (connected : IsConnected link coding refuses requests none ready asked asked_by told) → FailsUnder link handshake coding told (first_net asked_by connected.unused closed) fault → CountsConnectingUnder link handshake coding refuses requests none ready closed asked fault
    one_under told asked_by connected fails =
        let net = first_net asked_by connected.unused closed in
        record {
          counted = λ kind is h. inr (record { told = told; asked_by = asked_by; connected = connected; is = at_first told net kind is h fails });
          had_failed = λ is. record { told = told; asked_by = asked_by; connected = connected; is = gave_failed told net is fails };
        }

    memory_under : fault ≡ faults.OutOfMemory → CountsConnectingUnder link handshake coding refuses requests none ready closed asked fault
    memory_under memory = record { counted = λ kind is h. cc (sym memory ∙ is); had_failed = λ is. cc (sym memory ∙ is) }

    pub connecting_under_counts : FailsToConnectUnder link handshake coding refuses requests none ready closed asked fault → CountsConnectingUnder link handshake coding refuses requests none ready closed asked fault
    connecting_under_counts (inl none_connects) = none_under none_connects
    connecting_under_counts (inr (inl one)) = one_under one.0 one.1 one.2 one.3
    connecting_under_counts (inr (inr memory)) = memory_under memory
