-- Lemmas on the way to a data connection.
use Rattle.std.proofs.Common.{◌≡◌, ℕ, ◌+◌, ◌-◌, ◌<◌, Bool, true, false, ◌&&◌, nat_lt, cond, List, [], ◌∷◌, ◌++◌, length, Option, Some, None, Result, Ok, Err, inl, inr, refl, ap, sym, ◌∙◌, subst, append-nil, arith}
use Rattle.std.specs.Prelude.{IfErr}
use Rattle.std.specs.declared.io.ErrorKind.{ErrorKind}
use Rattle.std.specs.declared.net.socket_addr.SocketAddr.{SocketAddr}
use Rattle.ftp_base.specs.declared.types.fault.FtpError.{FtpError}
use Rattle.ftp_base.specs.declared.types.fault.FtpError.TheVariants.{ConnectionError, OutOfMemory}
use Rattle.ftp_base.specs.declared.types.fault.ConnectionError.TheVariants.{Io}
use Rattle.std.specs.declared.time.Duration.{Duration}
use Rattle.ftp_control.specs.Channel.{Channel, untaken}
use Rattle.ftp_transport.specs.Memory.{IsGiven}
use Rattle.ftp_transport.specs.Told.{Told, AddressTells, HasFailed}
use Rattle.ftp_transport.specs.declared.request.Request.{Request}
use Rattle.ftp_transport.specs.declared.request.RequestOutcome.{RequestOutcome}
use Rattle.ftp_dialogue.specs.declared.model.NetOutcome.{NetOutcome}
use Rattle.ftp_dialogue.specs.declared.model.NetOutcome.TheVariants.{Answered, Built}
use Rattle.ftp_dialogue.specs.declared.model.NetOutcome.TheVariants as came
use Rattle.ftp_transport.specs.declared.room.Room.{Room}
use Rattle.ftp_calls.proofs.Openings.{read_opens_none}
use Rattle.ftp_dialogue.proofs.Sorts.{opens_no_local}
use Rattle.ftp_calls.specs.declared.call.Answer.TheVariants.{Unit, Fault}
use Rattle.ftp_calls.specs.declared.call.Call.{Call}
use Rattle.ftp_calls.specs.Exchanges.{negotiates, next_turn, restarted, restarts, row_of}
use Rattle.ftp_dialogue.specs.declared.model.PlayState.{PlayState}
use Rattle.ftp_base.specs.declared.types.reply.Response.{Response}
use Rattle.ftp_dialogue.specs.declared.nodes.Accepted.TheVariants as accepts
use Rattle.ftp_dialogue.specs.declared.stage.Awaits.{Awaits}
use Rattle.ftp_dialogue.specs.declared.stage.Stage.{Stage}
use Rattle.ftp_dialogue.specs.declared.stage.Step.{Step}
use Rattle.ftp_dialogue.specs.declared.stage.Step.TheVariants.{Next, Pending, Done}
use Rattle.ftp_dialogue.specs.Coding.{Coding}
use Rattle.ftp_calls.specs.declared.exchange.Turn.TheVariants.{First, Second, Passive, ExtendedPassive, Active, Restart, Closed, Aborted}
use Rattle.ftp_dialogue.specs.declared.state.State.{State}
use Rattle.ftp_calls.specs.declared.exchange.Turn.{Turn}
use Rattle.ftp_transport.specs.declared.request.Request.TheVariants.{Accept}
use Rattle.ftp_transport.specs.declared.request.RequestOutcome.TheVariants.{Done as Made, Address, Refused}
use Rattle.ftp_dialogue.specs.Dialogue.{End, Here, There, Tree, Say, Look, Ask, Build, Secure, Move, Leaf, doing, from_turn, last_turn, later, restart_turn, Hear, asking_passive, on_passive, expecting, concluded}
use Rattle.ftp_dialogue.specs.Link.{Link}
use Rattle.ftp_calls.specs.declared.exchange.Movement.{Movement}
use Rattle.ftp_dialogue.specs.NetEvents.{NetEvent, NetEvents, ConstructedIs, Constructed, Dropped, Handshook, HandshookIs, Moved, MovementIs, Net, RequestIs, Requested, answers, constructed, net_record_of, after_request, moved, secured}
use Rattle.ftp_dialogue.specs.declared.model.Played.{Played}
use Rattle.ftp_dialogue.specs.declared.model.Traffic.{Traffic}
use Rattle.ftp_dialogue.proofs.NetEvents.{net_record_constructed, net_record_after_request, net_record_handshook, net_record_moved}
use Rattle.ftp_dialogue.specs.Play.{asked_then, secured_then, play, address_at}
use Rattle.ftp_dialogue.proofs.Places.{here}
use Rattle.ftp_dialogue.specs.Promises.{play_state, Goes, Aborts, Untouched, failed_from, state_at}
use Rattle.ftp_dialogue.specs.State.{SessionValue}
use Rattle.ftp_dialogue.specs.Steps.Moving.{dropped, Accepts, Concludes, LooksUp, NothingTouched, Still}
use Rattle.ftp_dialogue.specs.Steps.Stages.{GoesOnTo, many, TurnOf, is_later, nodes_from, remaining}
use Rattle.ftp_dialogue.proofs.Moving.{advances_on, leads_on, moves_on, lacks_memory_at, nothing_leads, nothing_shrinks, stays_put}
use Rattle.ftp_base.specs.declared.status.Status.TheVariants.{PassiveMode}
use Rattle.ftp_base.specs.Command.{text_of}
use Rattle.ftp_base.specs.declared.command.Command.TheVariants as command
use Rattle.ftp_base.specs.Wire.{wire}
use Rattle.ftp_calls.specs.declared.exchange.Ending.TheVariants.{GivesAddress}
use Rattle.std.proofs.Math.Path.{fun_ext}

pub play-Ask : (room : Room) (request : Request) (next : RequestOutcome → Tree) (outcome : RequestOutcome) (outcomes : List NetOutcome) (s : PlayState) → play room (Ask request next) (record s { outcomes = Answered outcome ∷ outcomes }) ≡ play room (next outcome) (record s { net_record = after_request request outcome s.net_record; outcomes = outcomes })
unfolding play
play-Ask room request next outcome outcomes s = refl

pub play-Build : (room : Room) (address : SocketAddr) (next : Option FtpError → Tree) (fault : Option FtpError) (outcomes : List NetOutcome) (s : PlayState) → play room (Build address next) (record s { outcomes = Built fault ∷ outcomes }) ≡ play room (next fault) (record s { net_record = constructed address fault s.net_record; outcomes = outcomes })
unfolding play
play-Build room address next fault outcomes s = refl

pub play-Secure : (room : Room) (next : Option FtpError → Tree) (fault : Option FtpError) (outcomes : List NetOutcome) (s : PlayState) → play room (Secure next) (record s { outcomes = came.Secured fault ∷ outcomes }) ≡ play room (next fault) (record s { net_record = secured fault s.net_record; outcomes = outcomes })
unfolding play
play-Secure room next fault outcomes s = refl

pub play-Move : (room : Room) (moves : Movement) (next : NetOutcome → Tree) (outcome : NetOutcome) (outcomes : List NetOutcome) (s : PlayState) → answers moves outcome ≡ true → play room (Move moves next) (record s { outcomes = outcome ∷ outcomes }) ≡ play room (next outcome) (record s { net_record = moved moves outcome s.net_record; outcomes = outcomes })
unfolding play
play-Move room moves next outcome outcomes s is = rw is refl

pub play-Look : (room : Room) (end : End) (next : SocketAddr → Tree) (s : PlayState) → play room (Look end next) s ≡ play room (next (address_at end s)) s
unfolding play
play-Look room end next s = refl

-- nothing was said or read in two steps
pub still_on : (link : Link) (tree tree' last : Tree) (a b c : SessionValue) → Still link tree tree' a b → Still link tree' last b c → Still link tree last a c
unfolding advances_on moves_on leads_on
still_on link tree tree' last a b c first second = record {
  advances = advances_on link tree tree' last a b c first.advances second.advances;
  none = ap (λ l. l ++ second.advances.moves.leads.came) first.none ∙ second.none;
  untouched = record {
    said = λ h. second.untouched.said h ∙ first.untouched.said h;
    untaken = second.untouched.untaken ∙ append-nil (untaken b.channel) ∙ first.untouched.untaken;
  };
}

-- while a handshake is made the connector has the data connection, whichever it is
play-Secures : (room : Room) (next : Option FtpError → Tree) (conn : Option Traffic) (s : PlayState) → play room (Secure next) s ≡ play room (Secure next) (record s { net_record = record s.net_record { data_conn = conn } })
unfolding play
play-Secures room next conn s =
    let k : Option FtpError → PlayState → Played = λ fault t. play room (next fault) t in
    elim s.outcomes as (λ o. secured_then o s k ≡ secured_then o (record s { net_record = record s.net_record { data_conn = conn } }) k) [
      | [] ↦ refl
      | Answered outcome ∷ outcomes ↦ refl
      | Built fault ∷ outcomes ↦ refl
      | came.Secured fault ∷ outcomes ↦ refl
      | came.Read bytes ∷ outcomes ↦ refl
      | came.Wrote count ∷ outcomes ↦ refl
      | came.Closed ∷ outcomes ↦ refl
      | came.Failed kind ∷ outcomes ↦ refl
      | came.NoMemory ∷ outcomes ↦ refl
    ]

-- What stands beside the control connection has changed

module _ (link : Link) (old : SessionValue) (net' : Net) where
  abbrev after : SessionValue
  after = record old { net = net' }

  beside_goes : (answered : List NetEvent) → (link.tells → NetEvents link.beside answered old.net net') → Goes link [] answered old after
  beside_goes answered net_events = record {
    over = record { nothing = λ e. refl; over = λ e. e };
    received = λ h. sym (append-nil old.channel.told.received);
    given = λ h. refl;
    failures = λ h. record { failures = refl; last_fault = refl };
    sent = λ h. omega arith;
    said = λ h. omega arith;
    untaken = omega arith;
    at_hand = λ h is. is;
    net_events = net_events;
  }

  nothing_said : Untouched link [] old after
  nothing_said = record { said = λ h. refl; untaken = sym (append-nil (untaken old.channel)) }

  -- the transport was asked
  pub asked_still : (request : Request) (outcome : RequestOutcome) → (link.tells → RequestIs request outcome old.net net') → (next : RequestOutcome → Tree) → Still link (Ask request next) (next outcome) old after
  asked_still request outcome tie next = record {
    advances = record {
      moves = record {
        leads = record {
          within = inr (outcome, [], refl, here (next outcome));
          came = [];
          answered = Requested request outcome ∷ [];
          goes = beside_goes (Requested request outcome ∷ []) (λ h. (net', tie h, refl));
          resumes = λ r. r outcome;
          calm = λ calm. inr (refl, refl, refl, tt, refl);
          plays = λ h resumes room more ended outcomes fit on.
              let s : PlayState = play_state old more ended outcomes in
              play-Ask room request next outcome outcomes s
              ∙ ap (λ d. play room (next outcome) (record s { net_record = d })) (sym (net_record_after_request request outcome old.net net' (tie h)));
        };
        state = refl;
        keeps = λ from to silent. inr (refl, refl, refl, (outcome, silent), refl);
        shrinks = nothing_shrinks (length old.channel.ahead);
        says = λ line next' is. let clash : Ask request next ≡ Say (Ok line) next' = is in cc;
        apart = λ apart. absurd apart;
      };
      failed = refl;
    };
    none = refl;
    untouched = nothing_said;
  }

  -- the builder was asked
  pub built_still : (address : SocketAddr) (fault : Option FtpError) → (link.tells → ConstructedIs link.beside address fault old.net net') → (next : Option FtpError → Tree) → Still link (Build address next) (next fault) old after
  built_still address fault tie next = record {
    advances = record {
      moves = record {
        leads = record {
          within = inr (fault, [], refl, here (next fault));
          came = [];
          answered = Constructed address fault ∷ [];
          goes = beside_goes (Constructed address fault ∷ []) (λ h. (net', tie h, refl));
          resumes = λ r. r fault;
          calm = λ calm. inr (refl, refl, refl, tt, refl);
          plays = λ h resumes room more ended outcomes fit on.
              let s : PlayState = play_state old more ended outcomes in
              play-Build room address next fault outcomes s
              ∙ ap (λ d. play room (next fault) (record s { net_record = d })) (sym (net_record_constructed link.beside address fault old.net net' (tie h)));
        };
        state = refl;
        keeps = λ from to silent. inr (refl, refl, refl, (fault, silent), refl);
        shrinks = nothing_shrinks (length old.channel.ahead);
        says = λ line next' is. let clash : Build address next ≡ Say (Ok line) next' = is in cc;
        apart = λ apart. absurd apart;
      };
      failed = refl;
    };
    none = refl;
    untouched = nothing_said;
  }

  -- the data connection was put under TLS, or couldn't be
  pub handshook_still : (fault : Option FtpError) → (link.tells → HandshookIs link.beside fault old.net net') → (next : Option FtpError → Tree) → Still link (Secure next) (next fault) old after
  handshook_still fault tie next = record {
    advances = record {
      moves = record {
        leads = record {
          within = inr (fault, [], refl, here (next fault));
          came = [];
          answered = Handshook fault ∷ [];
          goes = beside_goes (Handshook fault ∷ []) (λ h. (net', tie h, refl));
          resumes = λ r. r fault;
          calm = λ calm. inr (refl, refl, refl, tt, refl);
          plays = λ h resumes room more ended outcomes fit on.
              let s : PlayState = play_state old more ended outcomes in
              play-Secure room next fault outcomes s
              ∙ ap (λ d. play room (next fault) (record s { net_record = d })) (sym (net_record_handshook link.beside fault old.net net' (tie h)));
        };
        state = refl;
        keeps = λ from to silent. inr (refl, refl, refl, (fault, silent), refl);
        shrinks = nothing_shrinks (length old.channel.ahead);
        says = λ line next' is. let clash : Secure next ≡ Say (Ok line) next' = is in cc;
        apart = λ apart. absurd apart;
      };
      failed = refl;
    };
    none = refl;
    untouched = nothing_said;
  }

  -- the connector has the data connection, or it was let go
  pub handed_still : (link.tells → net' ≡ record old.net { data_conn = None }) → (next : Option FtpError → Tree) → Still link (Secure next) (Secure next) old after
  handed_still tie next = record {
    advances = record {
      moves = record {
        leads = record {
          within = inl (refl, refl);
          came = [];
          answered = Dropped ∷ [];
          goes = beside_goes (Dropped ∷ []) (λ h. (net', tie h, refl));
          resumes = λ r. r;
          calm = λ calm. inr (refl, refl, refl, tt, refl);
          plays = λ h resumes room more ended outcomes fit on.
              let s : PlayState = play_state old more ended outcomes in
              play-Secures room next None s
              ∙ ap (λ d. play room (Secure next) (record s { net_record = d })) (ap net_record_of (sym (tie h)));
        };
        state = refl;
        keeps = λ from to silent. inr (refl, refl, refl, silent, refl);
        shrinks = nothing_shrinks (length old.channel.ahead);
        says = λ line next' is. let clash : Secure next ≡ Say (Ok line) next' = is in cc;
        apart = λ apart. absurd apart;
      };
      failed = refl;
    };
    none = refl;
    untouched = nothing_said;
  }

  -- something was done on the data connection
  pub moved_still : (moves : Movement) (outcome : NetOutcome) → (link.tells → MovementIs moves outcome old.net net') → (next : NetOutcome → Tree) → Still link (Move moves next) (next outcome) old after
  moved_still moves outcome tie next = record {
    advances = record {
      moves = record {
        leads = record {
          within = inr (outcome, [], refl, here (next outcome));
          came = [];
          answered = Moved moves outcome ∷ [];
          goes = beside_goes (Moved moves outcome ∷ []) (λ h. (net', tie h, refl));
          resumes = λ r. r outcome;
          calm = λ calm. inr (refl, refl, refl, tt, refl);
          plays = λ h resumes room more ended outcomes fit on.
              let s : PlayState = play_state old more ended outcomes in
              play-Move room moves next outcome outcomes s (tie h).0
              ∙ ap (λ d. play room (next outcome) (record s { net_record = d })) (sym (net_record_moved moves outcome old.net net' (tie h)));
        };
        state = refl;
        keeps = λ from to silent. inr (refl, refl, refl, (outcome, silent), refl);
        shrinks = nothing_shrinks (length old.channel.ahead);
        says = λ line next' is. let clash : Move moves next ≡ Say (Ok line) next' = is in cc;
        apart = λ apart. absurd apart;
      };
      failed = refl;
    };
    none = refl;
    untouched = nothing_said;
  }

  -- a request that waits, or found no memory, isn't on record
  pub unasked_still : (link.tells → net' ≡ old.net) → (tree : Tree) → Still link tree tree old after
  unasked_still tie tree = record {
    advances = record {
      moves = record {
        leads = record {
          within = here tree;
          came = [];
          answered = [];
          goes = beside_goes [] tie;
          resumes = λ r. r;
          calm = λ calm. inr (refl, refl, refl, calm, refl);
          plays = λ h resumes. same h;
        };
        state = refl;
        keeps = λ from to silent. inr (refl, refl, refl, silent, refl);
        shrinks = nothing_shrinks (length old.channel.ahead);
        says = λ line next is h. inl (record { rest = line; next = next; is = is; count = refl; resumes = λ rule kept r. r; plays = same h });
        apart = λ apart. (refl, apart);
      };
      failed = refl;
    };
    none = refl;
    untouched = nothing_said;
  }
    where
      same : link.tells → (room : Room) (more : List ℕ) (ended : Bool) (outcomes : List NetOutcome) → Rattle.ftp_transport.specs.Told.HasRoomFor room (length after.channel.told.sent) → Rattle.ftp_control.specs.Reading.GoesOn after.channel.ended more ended → play room tree (play_state old more ended outcomes) ≡ play room tree (play_state after more ended outcomes)
      same h room more ended outcomes fit on =
          let s : PlayState = play_state old more ended outcomes in
          ap (λ d. play room tree (record s { net_record = d })) (ap net_record_of (sym (tie h)))

-- the same of a session that is known by an equation
pub asked_through : (link : Link) (request : Request) (outcome : RequestOutcome) (view old : SessionValue) (net' : Net) → view ≡ old → (link.tells → RequestIs request outcome view.net net') → (next : RequestOutcome → Tree) → Still link (Ask request next) (next outcome) old (record view { net = net' })
asked_through link request outcome view old net' is tie next =
    let P : SessionValue → Type 0 = λ v. Still link (Ask request next) (next outcome) v (record view { net = net' }) in
    subst P is (asked_still link view net' request outcome tie next)

pub built_through : (link : Link) (address : SocketAddr) (fault : Option FtpError) (view old : SessionValue) (net' : Net) → view ≡ old → (link.tells → ConstructedIs link.beside address fault view.net net') → (next : Option FtpError → Tree) → Still link (Build address next) (next fault) old (record view { net = net' })
built_through link address fault view old net' is tie next =
    let P : SessionValue → Type 0 = λ v. Still link (Build address next) (next fault) v (record view { net = net' }) in
    subst P is (built_still link view net' address fault tie next)

pub handshook_through : (link : Link) (fault : Option FtpError) (view old : SessionValue) (net' : Net) → view ≡ old → (link.tells → HandshookIs link.beside fault view.net net') → (next : Option FtpError → Tree) → Still link (Secure next) (next fault) old (record view { net = net' })
handshook_through link fault view old net' is tie next =
    let P : SessionValue → Type 0 = λ v. Still link (Secure next) (next fault) v (record view { net = net' }) in
    subst P is (handshook_still link view net' fault tie next)

pub handed_through : (link : Link) (view old : SessionValue) (net' : Net) → view ≡ old → (link.tells → net' ≡ record view.net { data_conn = None }) → (next : Option FtpError → Tree) → Still link (Secure next) (Secure next) old (record view { net = net' })
handed_through link view old net' is tie next =
    let P : SessionValue → Type 0 = λ v. Still link (Secure next) (Secure next) v (record view { net = net' }) in
    subst P is (handed_still link view net' tie next)

pub moved_through : (link : Link) (moves : Movement) (outcome : NetOutcome) (view old : SessionValue) (net' : Net) → view ≡ old → (link.tells → MovementIs moves outcome view.net net') → (next : NetOutcome → Tree) → Still link (Move moves next) (next outcome) old (record view { net = net' })
moved_through link moves outcome view old net' is tie next =
    let P : SessionValue → Type 0 = λ v. Still link (Move moves next) (next outcome) v (record view { net = net' }) in
    subst P is (moved_still link view net' moves outcome tie next)

pub accepted_through : (link : Link) (outcome : RequestOutcome) (view old : SessionValue) (net' : Net) → view ≡ old → (link.tells → RequestIs (Accept view.state.settings.active_deadline) outcome view.net net') → (next : RequestOutcome → Tree) → Still link (Ask (Accept old.state.settings.active_deadline) next) (next outcome) old (record view { net = net' })
accepted_through link outcome view old net' is tie next =
    let P : SessionValue → Type 0 = λ v. Still link (Ask (Accept v.state.settings.active_deadline) next) (next outcome) v (record view { net = net' }) in
    subst P is (asked_still link view net' (Accept view.state.settings.active_deadline) outcome tie next)

pub unasked_through : (link : Link) (view old : SessionValue) (net' : Net) → view ≡ old → (link.tells → net' ≡ view.net) → (tree : Tree) → Still link tree tree old (record view { net = net' })
unasked_through link view old net' is tie tree =
    let P : SessionValue → Type 0 = λ v. Still link tree tree v (record view { net = net' }) in
    subst P is (unasked_still link view net' tie tree)

-- a peer that is asked for takes the place of the data connection, whichever it is
play-Accept : (room : Room) (deadline : Duration) (next : RequestOutcome → Tree) (conn : Option Traffic) (s : PlayState) → play room (Ask (Accept deadline) next) s ≡ play room (Ask (Accept deadline) next) (record s { net_record = record s.net_record { data_conn = conn } })
unfolding play
play-Accept room deadline next conn s =
    let k : RequestOutcome → PlayState → Played = λ answer t. play room (next answer) t in
    elim s.outcomes as (λ o. asked_then o (Accept deadline) s k ≡ asked_then o (Accept deadline) (record s { net_record = record s.net_record { data_conn = conn } }) k) [
      | [] ↦ refl
      | Answered Made ∷ outcomes ↦ refl
      | Answered (Address from) ∷ outcomes ↦ refl
      | Answered (Refused fault) ∷ outcomes ↦ refl
      | Built fault ∷ outcomes ↦ refl
      | came.Secured fault ∷ outcomes ↦ refl
      | came.Read bytes ∷ outcomes ↦ refl
      | came.Wrote count ∷ outcomes ↦ refl
      | came.Closed ∷ outcomes ↦ refl
      | came.Failed kind ∷ outcomes ↦ refl
      | came.NoMemory ∷ outcomes ↦ refl
    ]

-- a stranger's connection is let go before another peer is asked for
pub dropped_still : (link : Link) (deadline : Duration) (next : RequestOutcome → Tree) (v : SessionValue) → Still link (Ask (Accept deadline) next) (Ask (Accept deadline) next) v (dropped v)
dropped_still link deadline next v = record {
  advances = record {
    moves = record {
      leads = record {
        within = inl (refl, refl);
        came = [];
        answered = Dropped ∷ [];
        goes = beside_goes link v (record v.net { data_conn = None }) (Dropped ∷ []) (λ h. (record v.net { data_conn = None }, refl, refl));
        resumes = λ r. r;
        calm = λ calm. inr (refl, refl, refl, tt, refl);
        plays = λ h resumes room more ended outcomes fit on. play-Accept room deadline next None (play_state v more ended outcomes);
      };
      state = refl;
      keeps = λ from to silent. inr (refl, refl, refl, silent, refl);
      shrinks = nothing_shrinks (length v.channel.ahead);
      says = λ line next' is. let clash : Ask (Accept deadline) next ≡ Say (Ok line) next' = is in cc;
      apart = λ apart. absurd apart;
    };
    failed = refl;
  };
  none = refl;
  untouched = nothing_said link v (record v.net { data_conn = None });
}

-- An address was looked up

module _ (link : Link) (old : SessionValue) (told' : Told) where
  abbrev there : SessionValue
  there = record old { channel = record old.channel { told = told' } }

  abbrev with_told : Told → SessionValue
  with_told t = record old { channel = record old.channel { told = t } }

  pub looked_still : (end : End) (address : SocketAddr) → (link.tells → (address ≡ address_at end (play_state old [] false [])) × (told' ≡ old.channel.told)) → (next : SocketAddr → Tree) → Still link (Look end next) (next address) old there
  looked_still end address tie next = record {
    advances = record {
      moves = record {
        leads = record {
          within = inr (address, here (next address));
          came = [];
          answered = [];
          goes = record {
            over = record { nothing = λ e. refl; over = λ e. e };
            received = λ h. ap (λ t. t.received) (tie h).1 ∙ sym (append-nil old.channel.told.received);
            given = λ h. ap (λ t. t.given) (tie h).1;
            failures = λ h. record { failures = ap (λ t. t.failures) (tie h).1; last_fault = ap (λ t. t.last_fault) (tie h).1 };
            sent = λ h. omega (arith, ap length (ap (λ t. t.sent) (tie h).1));
            said = λ h. omega (arith, ap length (ap (λ t. t.sent ++ old.channel.unsent) (tie h).1));
            untaken = omega arith;
            at_hand = λ h is. (let P : Told → Type 0 = IsGiven in subst P (sym (tie h).1) is);
            net_events = λ h. refl;
          };
          resumes = λ r. r address;
          calm = λ calm. inr (refl, refl, refl, tt, refl);
          plays = λ h resumes room more ended outcomes fit on.
              let s : PlayState = play_state old more ended outcomes in
              play-Look room end next s
              ∙ ap (λ a. play room (next a) s) (known end more ended outcomes ∙ sym (tie h).0)
              ∙ ap (λ t. play room (next address) (play_state (with_told t) more ended outcomes)) (sym (tie h).1);
        };
        state = refl;
        keeps = λ from to silent. inr (refl, refl, refl, (address, silent), refl);
        shrinks = nothing_shrinks (length old.channel.ahead);
        says = λ line next' is. let clash : Look end next ≡ Say (Ok line) next' = is in cc;
        apart = λ apart. (refl, apart address);
      };
      failed = refl;
    };
    none = refl;
    untouched = record { said = λ h. ap (λ t. t.sent ++ old.channel.unsent) (tie h).1; untaken = sym (append-nil (untaken old.channel)) };
  }
    where
      known : (e : End) (more : List ℕ) (ended : Bool) (outcomes : List NetOutcome) → address_at e (play_state old more ended outcomes) ≡ address_at e (play_state old [] false [])
      known Here more ended outcomes = refl
      known There more ended outcomes = refl

  pub look_aborts : (end : End) (kind : ErrorKind) → old.channel.failed ≡ false → link.ends kind → (link.tells → HasFailed kind old.channel.told told') → (begun : Bool) (next : SocketAddr → Tree) → Aborts link begun (Look end next) (Fault (ConnectionError (Io kind))) old there
  unfolding nothing_leads
  look_aborts end kind going may counts begun next =
      let F : Bool → SessionValue = λ f. record old { channel = record old.channel { told = told'; failed = f } } in
      record {
        place = Look end next;
        at = old;
        leads = nothing_leads link (Look end next) old;
        state = refl;
        going = refl;
        fault = ConnectionError (Io kind);
        is = refl;
        cause = inl (record { kind = kind; is = refl; may = may; same = ap F going; failed = counts });
      }

-- the same of a session that is known by equations
module _ (link : Link) (end : End) (view old : SessionValue) (channel : Channel) (is : view ≡ old) (same : channel ≡ record view.channel { told = channel.told }) where
  abbrev seen : SessionValue
  seen = record view { channel = channel }

  pub looked_through : (address : SocketAddr) → (link.tells → (address ≡ address_at end (play_state view [] false [])) × (channel.told ≡ view.channel.told)) → (next : SocketAddr → Tree) → Still link (Look end next) (next address) old seen
  looked_through address tie next =
      let P : SessionValue → Type 0 = λ v. Still link (Look end next) (next address) v seen in
      let Q : Channel → Type 0 = λ c. Still link (Look end next) (next address) view (record view { channel = c }) in
      subst P is (subst Q (sym same) (looked_still link view channel.told end address tie next))

  pub look_fails : (kind : ErrorKind) → view.channel.failed ≡ false → link.ends kind → (link.tells → HasFailed kind view.channel.told channel.told) → (begun : Bool) (next : SocketAddr → Tree) → Aborts link begun (Look end next) (Fault (ConnectionError (Io kind))) old seen
  look_fails kind going may counts begun next =
      let P : SessionValue → Type 0 = λ v. Aborts link begun (Look end next) (Fault (ConnectionError (Io kind))) v seen in
      let Q : Channel → Type 0 = λ c. Aborts link begun (Look end next) (Fault (ConnectionError (Io kind))) view (record view { channel = c }) in
      subst P is (subst Q (sym same) (look_aborts link view channel.told end kind going may counts begun next))

  pub looks_up : (result : Result SocketAddr ErrorKind) → view.channel.failed ≡ false → IfErr result (λ kind. link.ends kind) → (link.tells → AddressTells (address_at end (play_state view [] false [])) result view.channel.told channel.told) → LooksUp link end old seen result
  looks_up (Ok address) going may told = looked_through address told
  looks_up (Err kind) going may told = look_fails kind going may told

-- What a step made of it

-- the tree is the same, and nothing happened
pub unchanged_still : (link : Link) (tree tree' : Tree) (old new : SessionValue) → new ≡ old → tree' ≡ tree → Still link tree tree' old new
unfolding stays_put nothing_leads
unchanged_still link tree tree' old new same is =
    let P : SessionValue → Type 0 = λ v. Still link tree tree' old v in
    let Q : Tree → Type 0 = λ t. Still link tree t old old in
    subst P (sym same) (subst Q (sym is) (record { advances = stays_put link tree tree old refl; none = refl; untouched = record { said = λ h. refl; untaken = sym (append-nil (untaken old.channel)) } }))

pub still_touched : (link : Link) (tree tree' : Tree) (old new : SessionValue) → Still link tree tree' old new → NothingTouched link old new
still_touched link tree tree' old new still = λ h.
    let came = still.advances.moves.leads.came in
    ([], still.advances.moves.leads.goes.received h ∙ ap (λ c. old.channel.told.received ++ c) still.none, still.untouched.said h, still.untouched.untaken)

-- memory ran out before anything was said
pub still_lacks : (link : Link) (tree : Tree) (old new : SessionValue) → old.channel.failed ≡ false → Still link tree tree old new → Aborts link false tree (Fault OutOfMemory) old new
still_lacks link tree old new going still =
    let leads = still.advances.moves.leads in
    let U : List ℕ → Type 0 = λ c. Untouched link c old new in
    record {
      place = tree;
      at = new;
      leads = leads;
      state = still.advances.moves.state;
      going = still.advances.failed;
      fault = OutOfMemory;
      is = refl;
      cause = inr (record { is = refl; leaves = inl (refl, refl, subst U (sym still.none) still.untouched) });
    }

-- memory ran out after a reply was taken
pub still_fails : (link : Link) (tree : Tree) (old mid : SessionValue) → state_at tree OutOfMemory mid.state ≡ mid.state → old.channel.failed ≡ false → Still link tree tree old mid → Aborts link true tree (Fault OutOfMemory) old (failed_from mid)
still_fails link tree old mid stays going still = lacks_memory_at link true tree tree old mid stays (inl refl) still.advances.moves still.advances.failed

-- What comes after a turn

-- the next turn, with the nodes that are left and its tree; or nothing
abbrev pub NextFits : Coding → Call → ℕ → (State → Tree) → Option Turn → Type 0
NextFits coding call nodes tree None = (state : State) → tree state ≡ Leaf Unit state
NextFits coding call nodes tree (Some next) = (nodes_from next < nodes - 4) × (is_later next ≡ true) × (negotiates call ≡ true → TurnOf call next) × ((state : State) → tree state ≡ from_turn coding call next state)

second_fits : (coding : Coding) (call : Call) (nodes : ℕ) → many + 24 < nodes → NextFits coding call nodes (last_turn coding call) (Some Second)
second_fits coding call nodes more = (omega (arith, more), refl, λ opens. (read_opens_none call opens, opens_no_local call opens), λ state. refl)

restarted_fits : (coding : Coding) (call : Call) (offset nodes : ℕ) → many + 34 < nodes → NextFits coding call nodes (restart_turn coding call offset) (Some (restarted call offset))
restarted_fits coding call offset nodes more =
    elim (restarts call && nat_lt 0 offset) as (λ b. NextFits coding call nodes (λ state. cond b (doing coding (row_of call (Restart offset)) state (last_turn coding call)) (last_turn coding call state)) (Some (cond b (Restart offset) Second))) [
      | true ↦ (omega (arith, more), refl, λ opens. opens, λ state. refl)
      | false ↦ second_fits coding call nodes (omega (arith, more))
    ]

pub next_fits : (coding : Coding) (call : Call) (turn : Turn) → NextFits coding call (nodes_from turn) (later coding call turn) (next_turn call turn)
next_fits coding call First = second_fits coding call (nodes_from First) (omega arith)
next_fits coding call Second = λ state. refl
next_fits coding call (Passive offset after) = restarted_fits coding call offset (nodes_from (Passive offset after)) (omega arith)
next_fits coding call (ExtendedPassive offset tries) = restarted_fits coding call offset (nodes_from (ExtendedPassive offset tries)) (omega arith)
next_fits coding call (Active address offset) = restarted_fits coding call offset (nodes_from (Active address offset)) (omega arith)
next_fits coding call (Restart offset) = second_fits coding call (nodes_from (Restart offset)) (omega arith)
next_fits coding call (Closed close) = λ state. refl
next_fits coding call Aborted = second_fits coding call (nodes_from Aborted) (omega arith)

-- EPSV was refused, and PASV follows: that is the turn of PASV
passive_heard : (coding : Coding) (state : State) (next : State → Tree) → on_passive state next ≡ concluded coding GivesAddress state next
passive_heard coding state next = fun_ext heard
  where
    heard : (came : Result Response FtpError) → on_passive state next came ≡ concluded coding GivesAddress state next came
    heard (Ok reply) = refl
    heard (Err fault) = refl

pub fallen_back : (coding : Coding) (call : Call) (offset : ℕ) (state : State) → asking_passive coding state (later coding call (ExtendedPassive offset true)) ≡ from_turn coding call (Passive offset true) state
fallen_back coding call offset state = ap (λ next. Say (wire coding.encode (text_of command.Pasv)) (Hear (expecting (PassiveMode ∷ [])) next)) (passive_heard coding state (restart_turn coding call offset))

-- a reply that goes on was accepted: the next turn begins, or the call is done
pub concludes_on : (coding : Coding) (call : Call) (a : Awaits) (reply : Response) (stage' : Stage) (old new : SessionValue) (result : Step) → new ≡ record old { state = new.state } → Accepts coding a.ending reply old.state new.state accepts.GoesOn → GoesOnTo call a.turn stage' result → Concludes coding call a reply stage' old new result
concludes_on coding call a reply stage' old new Next same accepts on =
    let fits = subst (λ o. NextFits coding call (nodes_from a.turn) (later coding call a.turn) o) on.1 (next_fits coding call a.turn) in
    (same ∙ ap (λ s. record old { state = s }) accepts.0, accepts.1 (later coding call a.turn) ∙ fits.3 old.state ∙ ap (λ s. remaining coding call old.state s) (sym on.2))
concludes_on coding call a reply stage' old new Pending same accepts on = absurd on
concludes_on coding call a reply stage' old new (Done last) same accepts on =
    let none = subst (λ o. NextFits coding call (nodes_from a.turn) (later coding call a.turn) o) on.0 (next_fits coding call a.turn) in
    inl (record {
      leaf = accepts.1 (later coding call a.turn) ∙ none old.state ∙ ap (λ s. Leaf Unit s) (sym accepts.0) ∙ ap (λ x. Leaf x new.state) (sym on.1);
      channel = ap (λ v. v.channel) same;
      net = ap (λ v. v.net) same;
    })
