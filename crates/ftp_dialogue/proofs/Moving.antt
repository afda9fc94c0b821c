-- Lemmas on the steps of a dialogue.
use Rattle.std.proofs.Common.{◌≡◌, ℕ, ◌+◌, ◌≤◌, Bool, true, false, List, [], ◌++◌, length, length-append, ◌<◌, Option, None, Result, Ok, Err, inl, inr, ◌⊎◌, refl, ap, sym, ◌∙◌, subst, append_assoc, append-nil, arith}
use Rattle.std.proofs.lemmas.Bool.{le-leb}
use Rattle.std.proofs.lemmas.List.{append_cancel_right}
use Rattle.ftp_base.specs.declared.types.fault.FtpError.{FtpError}
use Rattle.ftp_base.specs.declared.types.fault.FtpError.TheVariants.{ConnectionError, OutOfMemory}
use Rattle.ftp_base.specs.declared.types.fault.ConnectionError.{ConnectionError as Cause}
use Rattle.ftp_transport.specs.declared.room.Room.{Room}
use Rattle.ftp_transport.specs.declared.room.Room.TheVariants.{Any, UpTo}
use Rattle.ftp_dialogue.specs.declared.model.NetOutcome.{NetOutcome}
use Rattle.ftp_dialogue.specs.NetEvents.{NetEvent, Net, outcomes_of}
use Rattle.ftp_dialogue.proofs.NetEvents.{net_events-append, drops, drops_none, outcomes-append, letting_beside, letting_net_events, letting_settles}
use Rattle.futures.specs.declared.task.Poll.{Poll}
use Rattle.futures.specs.declared.task.Poll.TheVariants as poll
use Rattle.ftp_transport.specs.Memory.{IsGiven}
use Rattle.ftp_transport.specs.Told.{Told, HasRoomFor, NoneFailed}
use Rattle.ftp_control.specs.Reading.{GoesOn}
use Rattle.ftp_control.specs.Channel.{Channel, untaken}
use Rattle.ftp_control.specs.Saying.{SaysLine, SayLeaves, due, said}
use Rattle.ftp_dialogue.specs.declared.state.State.{State}
use Rattle.ftp_calls.specs.declared.call.Answer.{Answer}
use Rattle.ftp_calls.specs.declared.call.Answer.TheVariants.{Fault}
use Rattle.ftp_dialogue.specs.declared.stage.Step.TheVariants.{Next, Pending, Done}
use Rattle.ftp_dialogue.specs.declared.model.PlayState.{PlayState}
use Rattle.ftp_dialogue.specs.declared.model.Played.TheVariants as played
use Rattle.ftp_dialogue.specs.State.{SessionValue, LetsGo}
use Rattle.ftp_dialogue.specs.Dialogue.{Tree, Say, Hear, Look, Ask, Build, Secure, Move, Leaf}
use Rattle.ftp_dialogue.specs.Play.{ended, finally, play, fits, said_then}
use Rattle.ftp_dialogue.specs.Resuming.{Resumes, Silent, modes_of}
use Rattle.ftp_dialogue.specs.Promises.{IsFault, IsOf, However, SaidOrTaken, play_state, Rests, Goes, Leads, Fails, Touched, Untouched, LacksMemory, Aborts, Calm, Keeps, failed_from, lacking_at, state_at}
use Rattle.ftp_dialogue.specs.Within.{Within}
use Rattle.ftp_dialogue.proofs.Places.{here, within_on}
use Rattle.ftp_dialogue.specs.Steps.Moving.{NothingTouched, StillSays, HasGoneOut, Shrinks, Moves, Advances, Ends, WaitsFor, Steps, TakesLine, after_line, step_of}
use Rattle.ftp_dialogue.specs.Link.{Link}

pub play-Say : (room : Room) (line : List ℕ) (next : Tree) (s : PlayState) → play room (Say (Ok line) next) s ≡ said_then room line s (λ t. play room next t)
unfolding play
play-Say room line next s = refl

pub play-Leaf : (room : Room) (answer : Answer) (state : State) (s : PlayState) → play room (Leaf answer state) s ≡ played.Done answer (record s { state = state })
unfolding play
play-Leaf room answer state s = refl

pub play-Refused : (room : Room) (cause : Cause) (next : Tree) (s : PlayState) → play room (Say (Err cause) next) s ≡ played.Done (Fault (ConnectionError cause)) s
unfolding play
play-Refused room cause next s = refl

pub room_fits : (room : Room) (all : List ℕ) → HasRoomFor room (length all) → fits room all ≡ true
room_fits Any all has = refl
room_fits (UpTo most) all has = le-leb _ _ has

joined_whole : (sent sent' unsent unsent' line line' : List ℕ) → unsent' ≡ [] → line' ≡ [] → (sent' ++ unsent') ++ line' ≡ (sent ++ unsent) ++ line → sent' ≡ sent ++ unsent ++ line
joined_whole sent sent' unsent unsent' line line' none nothing is =
    let whole : (sent' ++ []) ++ [] ≡ (sent ++ unsent) ++ line = rw (none, nothing) at is in
    sym (append-nil sent') ∙ sym (append-nil (sent' ++ [])) ∙ whole

-- nothing happens
pub nothing_goes : (link : Link) (v : SessionValue) → Goes link [] [] v v
nothing_goes link v = record {
  over = record { nothing = λ e. refl; over = λ e. e };
  received = λ h. sym (append-nil v.channel.told.received);
  given = λ h. refl;
  failures = λ h. record { failures = refl; last_fault = refl };
  sent = λ h. omega arith;
  said = λ h. omega arith;
  untaken = omega arith;
  at_hand = λ h is. is;
  net_events = λ h. refl;
}

pub nothing_shrinks : (n : ℕ) → n ≤ n + 0
nothing_shrinks n = omega arith

unfoldable pub nothing_leads : (link : Link) (tree : Tree) (v : SessionValue) → Leads link tree tree v v
nothing_leads link tree v = record {
  within = here tree;
  came = [];
  answered = [];
  goes = nothing_goes link v;
  resumes = λ r. r;
  calm = λ calm. inr (refl, refl, refl, calm, refl);
  plays = λ h resumes room more ended outcomes fit on. refl;
}

-- nothing happens, and the same is left
unfoldable pub stays_put : (link : Link) (tree tree' : Tree) (v : SessionValue) → tree' ≡ tree → Advances link tree tree' v v
unfolding nothing_leads
stays_put link tree tree' v same =
    let P : Tree → Type 0 = λ t. Advances link tree t v v in
    subst P (sym same) (record {
      moves = record {
        leads = nothing_leads link tree v;
        state = refl;
        keeps = λ from to silent. inr (refl, refl, refl, silent, refl);
        shrinks = nothing_shrinks (length v.channel.ahead);
        says = λ line next is h. inl (record { rest = line; next = next; is = is; count = refl; resumes = λ rule kept r. r; plays = λ room more ended outcomes fit on. refl });
        apart = λ apart. (refl, apart);
      };
      failed = refl;
    })

-- the line that a tree says first
abbrev line_in : Tree → List ℕ
line_in (Say (Ok line) next) = line
line_in (Say (Err cause) next) = []
line_in (Hear codes next) = []
line_in (Look end next) = []
line_in (Ask request next) = []
line_in (Build address next) = []
line_in (Secure next) = []
line_in (Move movement next) = []
line_in (Leaf answer state) = []

-- A line is said

module _ (link : Link) (state : State) (net : Net) (a : Channel) (told : Told) (unsent : List ℕ) (failed : Bool) where
  abbrev before : SessionValue
  before = record { channel = a; state = state; net = net }

  abbrev after : SessionValue
  after = record { channel = record a { told = told; unsent = unsent; failed = failed }; state = state; net = net }

  -- what a line leaves as it was
  said_goes : (link.tells → told ≡ record a.told { sent = told.sent; failures = told.failures; last_fault = told.last_fault }) → (link.tells → NoneFailed a.told told) → (link.tells → length a.told.sent ≤ length told.sent) → (link.tells → length (a.told.sent ++ a.unsent) ≤ length (told.sent ++ unsent)) → Goes link [] [] before after
  said_goes nothing counted sends grows = record {
    over = record { nothing = λ e. refl; over = λ e. e };
    received = λ h. ap (λ t. t.received) (nothing h) ∙ sym (append-nil a.told.received);
    given = λ h. ap (λ t. t.given) (nothing h);
    failures = counted;
    sent = sends;
    said = grows;
    untaken = omega arith;
    at_hand = λ h is. (let P : Told → Type 0 = IsGiven in subst P (sym (nothing h)) (record { ahead = is.ahead; front = is.front; over = is.over }));
    net_events = λ h. refl;
  }

  -- what was said stays said
  said_grows : (line line' : Option (List ℕ)) → (line' ≡ line) ⊎ (line' ≡ None) → (told.sent ++ unsent) ++ due line' ≡ (a.told.sent ++ a.unsent) ++ due line → length (a.told.sent ++ a.unsent) ≤ length (told.sent ++ unsent)
  said_grows line line' (inl same) said =
      let all = ap length said in
      omega (arith, all, length-append (told.sent ++ unsent) (due line'), length-append (a.told.sent ++ a.unsent) (due line), ap length (ap due same))
  said_grows line line' (inr none) said =
      let all = ap length said in
      omega (arith, all, length-append (told.sent ++ unsent) (due line'), length-append (a.told.sent ++ a.unsent) (due line), ap length (ap due none))

  module _ (line line' : Option (List ℕ)) (next : Tree) where
    -- all of it went out
    said_whole : SaysLine link.tells link.writes a after.channel line line' (poll.Ready (Ok tt)) → Advances link (Say (Ok (due line)) next) next before after
    said_whole says = record {
      moves = record {
        leads = record {
          within = inr (inr (here next));
          came = [];
          answered = [];
          goes = said_goes says.hears_nothing says.leaves.3 says.sends (λ h. said_grows line line' says.whole (says.said h));
          resumes = λ r. r;
          calm = λ calm. inr (refl, refl, refl, tt, refl);
          plays = λ h resumes room more ended outcomes fit on.
              let all : told.sent ≡ a.told.sent ++ a.unsent ++ due line = joined_whole a.told.sent told.sent a.unsent unsent (due line) (due line') says.leaves.0 (ap due says.leaves.1) (says.said h) in
              let room_for = room_fits room told.sent fit in
              let given : told.given ≡ a.told.given = ap (λ t. t.given) (says.hears_nothing h) in
              play-Say room (due line) next _ ∙ rw (← all, room_for, says.leaves.0, says.leaves.2, given) refl;
        };
        state = refl;
        keeps = λ from to silent. inr (refl, refl, refl, silent, refl);
        shrinks = nothing_shrinks (length a.ahead);
        says = λ l n is h.
            let all : told.sent ≡ a.told.sent ++ a.unsent ++ due line = joined_whole a.told.sent told.sent a.unsent unsent (due line) (due line') says.leaves.0 (ap due says.leaves.1) (says.said h) in
            let whole : length after.channel.told.sent ≡ length (said before.channel) + length (due line) = ap length all ∙ length-append (a.told.sent ++ a.unsent) (due line) in
            let same : length (due line) ≡ length l = ap length (ap line_in is) in
            inr (omega (arith, whole, same));
        apart = λ apart. (refl, apart);
      };
      failed = says.leaves.2;
    }

    -- a front of it went out
    said_part_plays : failed ≡ a.failed → told.given ≡ a.told.given → told.sent ++ unsent ++ due line' ≡ a.told.sent ++ a.unsent ++ due line → However before [] [] after (λ room s t. play room (Say (Ok (due line)) next) s ≡ play room (Say (Ok (due line')) next) t)
    said_part_plays going given all = λ room more ended outcomes fit on. play-Say room (due line) next _ ∙ rw (← all, going, given) (sym (play-Say room (due line') next _))

    -- the line that is begun is a place of it
    said_within : (line' ≡ line) ⊎ (line' ≡ None) → Within [] (Say (Ok (due line')) next) (Say (Ok (due line)) next)
    said_within (inl same) = inl (refl, ap (λ l. Say (Ok (due l)) next) same)
    said_within (inr none) = inr (inl (refl, ap (λ l. Say (Ok (due l)) next) none))

    said_part : (line' ≡ line) ⊎ (line' ≡ None) → failed ≡ a.failed → (link.tells → told.sent ++ unsent ++ due line' ≡ a.told.sent ++ a.unsent ++ due line) → Goes link [] [] before after → Leads link (Say (Ok (due line)) next) (Say (Ok (due line')) next) before after
    said_part whole going said goes = record {
      within = said_within whole;
      came = [];
      answered = [];
      goes = goes;
      resumes = λ r. r;
      calm = λ calm. inr (refl, refl, refl, tt, refl);
      plays = λ h resumes. said_part_plays going (goes.given h) (said h);
    }

    -- the connection waits for room
    said_waits : SaysLine link.tells link.writes a after.channel line line' poll.Pending → Advances link (Say (Ok (due line)) next) (Say (Ok (due line')) next) before after × WaitsFor link (Say (Ok (due line')) next) after
    unfolding said_part
    said_waits says = (
      record {
        moves = record {
          leads = said_part says.whole says.leaves.2 says.said (said_goes says.hears_nothing says.leaves.3 says.sends (λ h. said_grows line line' says.whole (says.said h)));
          state = refl;
          keeps = λ from to silent. inr (refl, refl, refl, silent, refl);
          shrinks = nothing_shrinks (length a.ahead);
          says = λ l n is h. inl (record {
            rest = due line';
            next = next;
            is = refl;
            count = sym (length-append (told.sent ++ unsent) (due line')) ∙ ap length (says.said h) ∙ length-append (a.told.sent ++ a.unsent) (due line) ∙ ap (λ n. length (a.told.sent ++ a.unsent) + n) (ap length (ap line_in is));
            resumes = λ rule kept r. r;
            plays = said_part_plays says.leaves.2 (ap (λ t. t.given) (says.hears_nothing h)) (says.said h);
          });
          apart = λ apart. (refl, apart);
        };
        failed = says.leaves.2;
      },
      inl (record { line = due line'; next = next; is = refl; some = says.leaves.0; full = says.leaves.1 }),
    )

-- the connection failed
said_aborts : (link : Link) (state : State) (net : Net) (a : Channel) (told : Told) (unsent : List ℕ) (failed : Bool) (line line' : Option (List ℕ)) (begun : Bool) (next : Tree) (fault : FtpError) → a.failed ≡ false → SaysLine link.tells link.writes a (record a { told = told; unsent = unsent; failed = failed }) line line' (poll.Ready (Err fault)) → Aborts link begun (Say (Ok (due line)) next) (Fault fault) (record { channel = a; state = state; net = net }) (record { channel = record a { told = told; unsent = unsent; failed = failed }; state = state; net = net })
said_aborts link state net a told unsent failed line line' begun next fault going says =
    let now : Told = record told { failures = a.told.failures; last_fault = a.told.last_fault } in
    let at : SessionValue = record { channel = record a { told = now; unsent = unsent }; state = state; net = net } in
    let P : Bool → SessionValue = λ f. record { channel = record a { told = told; unsent = unsent; failed = f }; state = state; net = net } in
    record {
      place = Say (Ok (due line')) next;
      at = at;
      leads = said_part link state net a now unsent a.failed line line' next says.whole refl says.said
          (said_goes link state net a now unsent a.failed (λ h. let F : Told → Told = λ t. record t { failures = a.told.failures; last_fault = a.told.last_fault } in ap F (says.hears_nothing h)) (λ h. record { failures = refl; last_fault = refl }) says.sends (λ h. said_grows link state net a now unsent a.failed line line' says.whole (says.said h)));
      state = refl;
      going = refl;
      fault = fault;
      is = refl;
      cause = inl (record {
        kind = says.leaves.kind;
        is = ap Fault says.leaves.is;
        may = says.leaves.may;
        same = ap P says.leaves.failed;
        failed = λ h. record { same = refl; counts = says.leaves.counts h };
      });
    }

-- a line that was taken to go out was said
pub line_taken : (link : Link) (state : State) (net : Net) (a b : Channel) (line line' : Option (List ℕ)) (answer : Poll (Result (Unit {0}) FtpError)) → SaysLine link.tells link.writes a b line line' answer → TakesLine link line line' (record { channel = a; state = state; net = net }) (record { channel = b; state = state; net = net }) (step_of answer)
line_taken link state net a b line line' answer says = record {
  whole = says.whole;
  gone = gone answer says.leaves;
  stays = λ same h. ([], ap (λ t. t.received) (says.hears_nothing h) ∙ sym (append-nil a.told.received), append_cancel_right (said b) (said a) (due line) (ap (λ l. said b ++ due l) (sym same) ∙ says.said h), (let F : Channel → List ℕ = untaken in ap F says.same ∙ sym (append-nil (untaken a))));
  begins = λ none. begins says.some none;
}
  where
    gone : (result : Poll (Result (Unit {0}) FtpError)) → SayLeaves result link.tells link.writes a b line' → step_of result ≡ Next → line' ≡ None
    gone (poll.Ready (Ok done)) leaves is = leaves.1
    gone (poll.Ready (Err fault)) leaves is = let clash : Done (Fault fault) ≡ Next = is in cc
    gone poll.Pending leaves is = let clash : Pending ≡ Next = is in cc

    begins : (line ≡ None) ⊎ (line' ≡ line) ⊎ (0 < length (due line)) → line' ≡ None → (line ≡ None) ⊎ (link.tells → length (said a) < length (said b))
    begins (inl none) is = inl none
    begins (inr (inl same)) is = inl (sym same ∙ is)
    begins (inr (inr some)) is = inr (λ h. omega (arith, some, ap length (says.said h), length-append (said b) (due line'), length-append (said a) (due line), ap length (ap due is)))

said_step : (link : Link) (state : State) (net : Net) (a : Channel) (told : Told) (unsent : List ℕ) (failed : Bool) (line line' : Option (List ℕ)) (begun : Bool) (next : Tree) → a.failed ≡ false → (answer : Poll (Result (Unit {0}) FtpError)) → SaysLine link.tells link.writes a (record a { told = told; unsent = unsent; failed = failed }) line line' answer → Steps link begun (Say (Ok (due line)) next) (after_line (step_of answer) line' next) (record { channel = a; state = state; net = net }) (record { channel = record a { told = told; unsent = unsent; failed = failed }; state = state; net = net }) (step_of answer)
said_step link state net a told unsent failed line line' begun next going (poll.Ready (Ok done)) says = said_whole link state net a told unsent failed line line' next says
said_step link state net a told unsent failed line line' begun next going (poll.Ready (Err fault)) says = inr (said_aborts link state net a told unsent failed line line' begun next fault going says)
said_step link state net a told unsent failed line line' begun next going poll.Pending says = said_waits link state net a told unsent failed line line' next says

-- a line is said
pub line_said : (link : Link) (state : State) (net : Net) (a b : Channel) (line line' : Option (List ℕ)) (answer : Poll (Result (Unit {0}) FtpError)) → a.failed ≡ false → SaysLine link.tells link.writes a b line line' answer → (begun : Bool) (next : Tree) → Steps link begun (Say (Ok (due line)) next) (after_line (step_of answer) line' next) (record { channel = a; state = state; net = net }) (record { channel = b; state = state; net = net }) (step_of answer)
line_said link state net a b line line' answer going says begun next =
    let P : Channel → Type 0 = λ c. SaysLine link.tells link.writes a c line line' answer → Steps link begun (Say (Ok (due line)) next) (after_line (step_of answer) line' next) (record { channel = a; state = state; net = net }) (record { channel = c; state = state; net = net }) (step_of answer) in
    subst P (sym says.same) (said_step link state net a b.told b.unsent b.failed line line' begun next going answer) says

-- A dialogue ends

-- a leaf was reached, and only the state changes
pub leaf_ends : (link : Link) (tree : Tree) (answer : Answer) (old mid new : SessionValue) → Moves link tree (Leaf answer new.state) old mid → (mid.channel.failed ≡ true → (old.channel.failed ≡ true) ⊎ IsFault answer) → new.channel ≡ mid.channel → new.net ≡ mid.net → Ends link tree answer old new
leaf_ends link tree answer old mid new moves fails channel net =
    let F : Channel → Net → SessionValue = λ c n. record { channel = c; state = new.state; net = n } in
    let same : new ≡ record mid { state = new.state } = ap (λ c. F c new.net) channel ∙ ap (λ n. F mid.channel n) net in
    let P : SessionValue → Type 0 = λ v. Ends link tree answer old v in
    subst P (sym same) (record {
      completes = record {
        is_of = inl moves.leads.within;
        came = moves.leads.came;
        answered = moves.leads.answered;
        goes = record { over = moves.leads.goes.over; received = moves.leads.goes.received; given = moves.leads.goes.given; failures = moves.leads.goes.failures; sent = moves.leads.goes.sent; said = moves.leads.goes.said; untaken = moves.leads.goes.untaken; at_hand = moves.leads.goes.at_hand; net_events = moves.leads.goes.net_events };
        keeps = moves.leads.calm tt;
        plays = λ h resumes room more ended outcomes fit on.
            moves.leads.plays h resumes room more ended outcomes fit on ∙ play-Leaf room answer new.state (play_state mid more ended outcomes);
        fails = fails;
      };
      fails = fails;
      keeps = moves.keeps old.state new.state refl;
      shrinks = moves.shrinks;
      gone = λ line next is h. out line (moves.says line next is h);
    })
  where
    out : (line : List ℕ) → StillSays link tree (Leaf answer new.state) moves.leads.came moves.leads.answered line old mid ⊎ HasGoneOut line old mid → HasGoneOut line old mid
    out line (inl still) = let clash : Leaf answer new.state ≡ Say (Ok still.rest) still.next = still.is in cc
    out line (inr gone) = gone

-- a command that has no line is the answer
pub refused_line : (link : Link) (cause : Cause) (next : Tree) (v : SessionValue) → Ends link (Say (Err cause) next) (Fault (ConnectionError cause)) v v
refused_line link cause next v = record {
  completes = record {
    is_of = inr (cause, next, refl, here (Say (Err cause) next));
    came = [];
    answered = [];
    goes = nothing_goes link v;
    keeps = inr (refl, refl, refl, tt, refl);
    plays = λ h resumes room more ended outcomes fit on. play-Refused room cause next _;
    fails = λ f. inl f;
  };
  fails = λ f. inl f;
  keeps = inr (refl, refl, refl, refl, refl);
  shrinks = nothing_shrinks (length v.channel.ahead);
  gone = λ line after is h. let clash : Say (Err cause) next ≡ Say (Ok line) after = is in cc;
}

nothing_touched : (link : Link) (v : SessionValue) → Untouched link [] v v
nothing_touched link v = record { said = λ h. refl; untaken = sym (append-nil (untaken v.channel)) }

-- memory ran out before anything happened
pub lacks_memory_first : (link : Link) (tree : Tree) (v : SessionValue) → Aborts link false tree (Fault OutOfMemory) v v
unfolding nothing_leads
lacks_memory_first link tree v = record {
  place = tree;
  at = v;
  leads = nothing_leads link tree v;
  state = refl;
  going = refl;
  fault = OutOfMemory;
  is = refl;
  cause = inr (record { is = refl; leaves = inl (refl, refl, nothing_touched link v) });
}

-- memory ran out at some place, and the session has failed
pub lacks_memory_at : (link : Link) (begun : Bool) (tree tree' : Tree) (old mid : SessionValue) → state_at tree' OutOfMemory mid.state ≡ mid.state → (begun ≡ true) ⊎ Touched link tree old mid → Moves link tree tree' old mid → mid.channel.failed ≡ old.channel.failed → Aborts link begun tree (Fault OutOfMemory) old (failed_from mid)
lacks_memory_at link begun tree tree' old mid stays begins moves going = record {
  place = tree';
  at = mid;
  leads = moves.leads;
  state = moves.state;
  going = going;
  fault = OutOfMemory;
  is = refl;
  cause = inr (record { is = refl; leaves = inr (ap (λ s. failed_from (record mid { state = s })) (sym stays), begins) });
}

-- One after another

-- bytes that came after others
pub joined_goes : (link : Link) (one two : List ℕ) (asked more : List NetEvent) (a b c : SessionValue) → Goes link one asked a b → Goes link two more b c → Goes link (one ++ two) (asked ++ more) a c
joined_goes link one two asked more a b c first second = record {
  over = record {
    nothing = λ e. rw (first.over.nothing e) (second.over.nothing (first.over.over e));
    over = λ e. second.over.over (first.over.over e);
  };
  received = λ h. second.received h ∙ ap (λ r. r ++ two) (first.received h) ∙ append_assoc a.channel.told.received one two;
  given = λ h. second.given h ∙ first.given h;
  failures = λ h. record { failures = (second.failures h).failures ∙ (first.failures h).failures; last_fault = (second.failures h).last_fault ∙ (first.failures h).last_fault };
  sent = λ h. omega (arith, first.sent h, second.sent h);
  said = λ h. omega (arith, first.said h, second.said h);
  untaken = omega (arith, first.untaken, second.untaken, length-append one two);
  at_hand = λ h is. second.at_hand h (first.at_hand h is);
  net_events = λ h. net_events-append link.beside asked more a.net b.net c.net (first.net_events h) (second.net_events h);
}

-- what came first, and what comes after it
pub goes_after : (first : Bool) (two more : List ℕ) (last ended : Bool) → GoesOn first two last → GoesOn last more ended → GoesOn first (two ++ more) ended
goes_after first two more last ended a b = record {
  nothing = λ e. rw (a.nothing e) (b.nothing (a.over e));
  over = λ e. b.over (a.over e);
}

pub keeps_after : (P Q : Type 0) (one two : List ℕ) (a b c : SessionValue) → (Q → Keeps P one a b) → Keeps Q two b c → Keeps P (one ++ two) a c
keeps_after P Q one two a b c first (inl none) = inl none
keeps_after P Q one two a b c first (inr same) = go (first same.3)
  where
    go : Keeps P one a b → Keeps P (one ++ two) a c
    go (inl none) = inl (same.0 ∙ none)
    go (inr before) = inr (same.0 ∙ before.0, same.1 ∙ before.1, rw (before.2, same.2), before.3, same.4 ∙ before.4)

pub shrinks_after : (one two : List ℕ) (a b c : SessionValue) → Shrinks one a b → Shrinks two b c → Shrinks (one ++ two) a c
shrinks_after one two a b c first second = omega (arith, first, second, length-append one two)

-- what fits at last has fitted all along
pub fitted : (room : Room) (m n : ℕ) → m ≤ n → HasRoomFor room n → HasRoomFor room m
fitted Any m n less fit = tt
fitted (UpTo most) m n less fit = omega (arith, less, fit)

-- nothing was said or taken in two steps
pub untouched_after : (link : Link) (a b c : SessionValue) → NothingTouched link a b → NothingTouched link b c → NothingTouched link a c
untouched_after link a b c first second = λ h.
    let one = first h in
    let two = second h in
    (one.0 ++ two.0, two.1 ∙ ap (λ r. r ++ two.0) one.1 ∙ append_assoc a.channel.told.received one.0 two.0, two.2 ∙ one.2, two.3 ∙ ap (λ r. r ++ two.0) one.3 ∙ append_assoc (untaken a.channel) one.0 two.0)

pub untouched : (link : Link) (v : SessionValue) → NothingTouched link v v
untouched link v = λ h. ([], sym (append-nil v.channel.told.received), refl, sym (append-nil (untaken v.channel)))

-- a read that waits takes nothing
pub rests_untouched : (link : Link) (old new : SessionValue) → Rests link old new → NothingTouched link old new
rests_untouched link old new rests = λ h.
    let same = rests.stays h [] false [] in
    let bytes : untaken old.channel ++ (rests.came ++ []) ≡ untaken new.channel ++ [] = ap (λ s. s.bytes) same in
    let whole : untaken new.channel ≡ untaken old.channel ++ rests.came = sym (append-nil (untaken new.channel)) ∙ sym bytes ∙ ap (λ c. untaken old.channel ++ c) (append-nil rests.came) in
    (rests.came, rests.goes.received h, sym (ap (λ s. s.said ++ s.unsent) same), whole)

-- what was said or taken stays so
pub said_or_taken_on : (link : Link) (a b c : SessionValue) (came : List ℕ) (answered : List NetEvent) → Goes link came answered b c → link.tells → SaidOrTaken a b → SaidOrTaken a c
said_or_taken_on link a b c came answered goes h (inl more) = inl (omega (arith, more, goes.said h))
said_or_taken_on link a b c came answered goes h (inr fewer) = inr (omega (arith, fewer, goes.untaken, ap length (goes.received h), length-append b.channel.told.received came))

touched_on : (link : Link) (tree : Tree) (a b c : SessionValue) (came : List ℕ) (answered : List NetEvent) → Goes link came answered b c → Touched link tree a b → Touched link tree a c
touched_on link tree a b c came answered goes here = λ h resumes. said_or_taken_on link a b c came answered goes h (here h resumes)

module _ (link : Link) (tree tree' : Tree) (a b c : SessionValue) (first : Moves link tree tree' a b) where
  -- a place of what is left
  pub placed : (asked : List NetEvent) (place : Tree) → Within (outcomes_of asked) place tree' → Within (outcomes_of (first.leads.answered ++ asked)) place tree
  placed asked place within =
      let P : List NetOutcome → Type 0 = λ o. Within o place tree in
      subst P (sym (outcomes-append first.leads.answered asked)) (within_on (outcomes_of first.leads.answered) (outcomes_of asked) place tree' tree within first.leads.within)

  -- the first part of two
  pub first_plays : (two : List ℕ) (asked : List NetEvent) → Goes link two asked b c → link.tells → However a first.leads.came first.leads.answered b (λ room s t. play room tree s ≡ play room tree' t) → (room : Room) (more : List ℕ) (ended : Bool) (outcomes : List NetOutcome) → HasRoomFor room (length c.channel.told.sent) → GoesOn c.channel.ended more ended → play room tree (play_state a ((first.leads.came ++ two) ++ more) ended (outcomes_of (first.leads.answered ++ asked) ++ outcomes)) ≡ play room tree' (play_state b (two ++ more) ended (outcomes_of asked ++ outcomes))
  first_plays two asked goes h plays room more ended outcomes fit on =
      rw (append_assoc first.leads.came two more, outcomes-append first.leads.answered asked, append_assoc (outcomes_of first.leads.answered) (outcomes_of asked) outcomes)
      (plays room (two ++ more) ended (outcomes_of asked ++ outcomes) (fitted room _ _ (goes.sent h) fit) (goes_after b.channel.ended two more c.channel.ended ended goes.over on))

  -- a lead after a step
  unfoldable pub leads_on : (last : Tree) → Leads link tree' last b c → Leads link tree last a c
  leads_on last second = record {
    within = placed second.answered last second.within;
    came = first.leads.came ++ second.came;
    answered = first.leads.answered ++ second.answered;
    goes = joined_goes link first.leads.came second.came first.leads.answered second.answered a b c first.leads.goes second.goes;
    resumes = λ r. second.resumes (first.leads.resumes r);
    calm = λ calm. keeps_after (Calm tree) (Calm tree') first.leads.came second.came a b c first.leads.calm (second.calm calm);
    plays = λ h resumes room more ended outcomes fit on.
        first_plays second.came second.answered second.goes h (first.leads.plays h resumes) room more ended outcomes fit on
        ∙ second.plays h (first.leads.resumes resumes) room more ended outcomes fit on;
  }

  -- a step after others
  unfoldable pub moves_on : (last : Tree) → Moves link tree' last b c → Moves link tree last a c
  unfolding leads_on
  moves_on last second = record {
    leads = leads_on last second.leads;
    state = second.state ∙ first.state;
    keeps = λ from to silent. keeps_after (Silent from to tree) (Silent from to tree') first.leads.came second.leads.came a b c (first.keeps from to) (second.keeps from to silent);
    shrinks = shrinks_after first.leads.came second.leads.came a b c first.shrinks second.shrinks;
    says = λ line next is h. saying line h (first.says line next is h);
    apart = λ apart.
        let one = first.apart apart in
        let two = second.apart one.1 in
        (outcomes-append first.leads.answered second.leads.answered ∙ ap (λ o. o ++ outcomes_of second.leads.answered) one.0 ∙ two.0, two.1);
  }
    where
      together : (line : List ℕ) → link.tells → (still : StillSays link tree tree' first.leads.came first.leads.answered line a b) → StillSays link tree' last second.leads.came second.leads.answered still.rest b c ⊎ HasGoneOut still.rest b c → StillSays link tree last (first.leads.came ++ second.leads.came) (first.leads.answered ++ second.leads.answered) line a c ⊎ HasGoneOut line a c
      together line h still (inl later) = inl (record {
        rest = later.rest;
        next = later.next;
        is = later.is;
        count = later.count ∙ still.count;
        resumes = λ modes kept r. later.resumes modes kept (still.resumes modes kept r);
        plays = λ room more ended outcomes fit on.
            first_plays second.leads.came second.leads.answered second.leads.goes h still.plays room more ended outcomes fit on
            ∙ later.plays room more ended outcomes fit on;
      })
      together line h still (inr gone) = inr (omega (arith, gone, still.count))

      saying : (line : List ℕ) → link.tells → StillSays link tree tree' first.leads.came first.leads.answered line a b ⊎ HasGoneOut line a b → StillSays link tree last (first.leads.came ++ second.leads.came) (first.leads.answered ++ second.leads.answered) line a c ⊎ HasGoneOut line a c
      saying line h (inl still) = together line h still (second.says still.rest still.next still.is h)
      saying line h (inr gone) = inr (omega (arith, gone, second.leads.goes.sent h))

  -- the answer after others
  pub ends_on : (answer : Answer) → b.channel.failed ≡ a.channel.failed → Ends link tree' answer b c → Ends link tree answer a c
  ends_on answer same second = record {
    fails = λ f. failing (second.fails f);
    completes = record {
      is_of = leaf_on second.completes.is_of;
      came = first.leads.came ++ second.completes.came;
      answered = first.leads.answered ++ second.completes.answered;
      goes = joined_goes link first.leads.came second.completes.came first.leads.answered second.completes.answered a b c first.leads.goes second.completes.goes;
      keeps = keeps_after (Calm tree) (Calm tree') first.leads.came second.completes.came a b c first.leads.calm second.completes.keeps;
      plays = λ h resumes room more ended outcomes fit on.
          first_plays second.completes.came second.completes.answered second.completes.goes h (first.leads.plays h resumes) room more ended outcomes fit on
          ∙ second.completes.plays h (first.leads.resumes resumes) room more ended outcomes fit on;
      fails = λ f. failing (second.fails f);
    };
    keeps = kept;
    shrinks = shrinks_after first.leads.came second.completes.came a b c first.shrinks second.shrinks;
    gone = λ line next is h. out line h (first.says line next is h);
  }
    where
      kept : Keeps (Silent a.state c.state tree) (first.leads.came ++ second.completes.came) a c
      kept =
          let P : State → Type 0 = λ from. Keeps (Silent from c.state tree') second.completes.came b c in
          keeps_after (Silent a.state c.state tree) (Silent a.state c.state tree') first.leads.came second.completes.came a b c (first.keeps a.state c.state) (subst P first.state second.keeps)

      leaf_on : IsOf (outcomes_of second.completes.answered) answer c.state tree' → IsOf (outcomes_of (first.leads.answered ++ second.completes.answered)) answer c.state tree
      leaf_on (inl within) = inl (placed second.completes.answered (Leaf answer c.state) within)
      leaf_on (inr (cause, next, is, within)) = inr (cause, next, is, placed second.completes.answered (Say (Err cause) next) within)

      out : (line : List ℕ) → link.tells → StillSays link tree tree' first.leads.came first.leads.answered line a b ⊎ HasGoneOut line a b → HasGoneOut line a c
      out line h (inl still) = omega (arith, second.gone still.rest still.next still.is h, still.count)
      out line h (inr gone) = omega (arith, gone, second.completes.goes.sent h)

      failing : (b.channel.failed ≡ true) ⊎ IsFault answer → (a.channel.failed ≡ true) ⊎ IsFault answer
      failing (inl was) = inl (sym same ∙ was)
      failing (inr fault) = inr fault

  -- a dialogue that is aborted after it has begun
  pub aborts_on : (begun begun' : Bool) (answer : Answer) → (begun' ≡ true → (begun ≡ true) ⊎ Touched link tree a b) → begun' ≡ true → b.channel.failed ≡ a.channel.failed → Aborts link begun' tree' answer b c → Aborts link begun tree answer a c
  aborts_on begun begun' answer touched has same second = record {
    place = second.place;
    at = second.at;
    leads = leads_at;
    state = second.state ∙ first.state;
    going = second.going ∙ same;
    fault = second.fault;
    is = second.is;
    cause = go second.cause;
  }
    where
      leads_at : Leads link tree second.place a second.at
      leads_at = record {
        within = placed second.leads.answered second.place second.leads.within;
        came = first.leads.came ++ second.leads.came;
        answered = first.leads.answered ++ second.leads.answered;
        goes = joined_goes link first.leads.came second.leads.came first.leads.answered second.leads.answered a b second.at first.leads.goes second.leads.goes;
        resumes = λ r. second.leads.resumes (first.leads.resumes r);
        calm = λ calm. keeps_after (Calm tree) (Calm tree') first.leads.came second.leads.came a b second.at first.leads.calm (second.leads.calm calm);
        plays = λ h resumes room more ended outcomes fit on.
            rw (append_assoc first.leads.came second.leads.came more, outcomes-append first.leads.answered second.leads.answered, append_assoc (outcomes_of first.leads.answered) (outcomes_of second.leads.answered) outcomes)
            (first.leads.plays h resumes room (second.leads.came ++ more) ended (outcomes_of second.leads.answered ++ outcomes) (fitted room _ _ (second.leads.goes.sent h) fit) (goes_after b.channel.ended second.leads.came more second.at.channel.ended ended second.leads.goes.over on))
            ∙ second.leads.plays h (first.leads.resumes resumes) room more ended outcomes fit on;
      }

      go : Fails link second.place second.fault second.at c ⊎ LacksMemory link begun' tree' second.place second.leads.came second.fault b second.at c → Fails link second.place second.fault second.at c ⊎ LacksMemory link begun tree second.place leads_at.came second.fault a second.at c
      go (inl fails) = inl fails
      go (inr lacks) = inr (record { is = lacks.is; leaves = inr (lost lacks.leaves, begins (touched has)) })
        where
          lost : ((c ≡ second.at) × (begun' ≡ false) × Untouched link second.leads.came b second.at) ⊎ ((c ≡ failed_from (lacking_at second.place second.at)) × ((begun' ≡ true) ⊎ Touched link tree' b second.at)) → c ≡ failed_from (lacking_at second.place second.at)
          lost (inl quiet) = let clash : true ≡ false = sym has ∙ quiet.1 in cc
          lost (inr failed) = failed.0

          begins : (begun ≡ true) ⊎ Touched link tree a b → (begun ≡ true) ⊎ Touched link tree a second.at
          begins (inl before) = inl before
          begins (inr here) = inr (touched_on link tree a b second.at second.leads.came second.leads.answered second.leads.goes here)

unfoldable pub advances_on : (link : Link) (tree tree' last : Tree) (a b c : SessionValue) → Advances link tree tree' a b → Advances link tree' last b c → Advances link tree last a c
advances_on link tree tree' last a b c first second = record {
  moves = moves_on link tree tree' a b c first.moves last second.moves;
  failed = second.failed ∙ first.failed;
}

-- A call that has its answer lets go of what it doesn't need

-- a tree reaches its answer, and what isn't needed is let go
pub record Finishes (link : Link) (tree : Tree) (answer : Answer) (old new : SessionValue) : Type 0 where
  pub came : List ℕ
  pub answered : List NetEvent
  pub goes : Goes link came answered old new
  pub plays : link.tells → Resumes (modes_of old) old.channel.kept tree → However old came answered new (λ room s t. finally (play room tree s) ≡ played.Done answer t)
  pub fails : new.channel.failed ≡ true → (old.channel.failed ≡ true) ⊎ IsFault answer
  pub keeps : Keeps (Silent old.state new.state tree) came old new
  pub calm : Keeps (Calm tree) came old new
  pub shrinks : Shrinks came old new
  pub gone : (line : List ℕ) (next : Tree) → tree ≡ Say (Ok line) next → link.tells → HasGoneOut line old new

-- what is let go is let go where a run stands
pub ended_play_state : (tells : Type 0) (v w : SessionValue) → tells → LetsGo tells v w → (more : List ℕ) (over : Bool) (outcomes : List NetOutcome) → ended (play_state v more over outcomes) ≡ play_state w more over outcomes
ended_play_state tells v w h is more over outcomes =
    let s : PlayState = play_state v more over outcomes in
    ap (λ d. record s { net_record = d }) (sym (letting_settles tells v w h is))
    ∙ sym (ap (λ x. play_state x more over outcomes) (letting_beside tells v w is))

pub letting_goes : (link : Link) (v w : SessionValue) → LetsGo link.tells v w → Goes link [] (drops v.state.counts.owed) v w
letting_goes link v w is =
    let P : SessionValue → Type 0 = λ x. Goes link [] (drops v.state.counts.owed) v x in
    subst P (sym (letting_beside link.tells v w is)) (record {
      over = record { nothing = λ e. refl; over = λ e. e };
      received = λ h. sym (append-nil v.channel.told.received);
      given = λ h. refl;
      failures = λ h. record { failures = refl; last_fault = refl };
      sent = λ h. omega arith;
      said = λ h. omega arith;
      untaken = omega arith;
      at_hand = λ h is. is;
      net_events = λ h. letting_net_events link.tells v w link.beside h is;
    })

pub goes_letting : (link : Link) (came : List ℕ) (answered : List NetEvent) (old last new : SessionValue) → Goes link came answered old last → LetsGo link.tells last new → Goes link came (answered ++ drops last.state.counts.owed) old new
goes_letting link came answered old last new goes is =
    let P : List ℕ → Type 0 = λ c. Goes link c (answered ++ drops last.state.counts.owed) old new in
    subst P (append-nil came) (joined_goes link came [] answered (drops last.state.counts.owed) old last new goes (letting_goes link last new is))

pub finishes : (link : Link) (tree : Tree) (answer : Answer) (old last new : SessionValue) → LetsGo link.tells last new → Ends link tree answer old last → Finishes link tree answer old new
finishes link tree answer old last new lets ends =
    let P : SessionValue → Type 0 = λ x. Finishes link tree answer old x in
    let L : SessionValue → Type 0 = λ x. LetsGo link.tells last x in
    let beside = letting_beside link.tells last new lets in
    let there : SessionValue = record last { net = new.net } in
    let is : LetsGo link.tells last there = subst L beside lets in
    let done = ends.completes in
    let dropped : List NetEvent = drops last.state.counts.owed in
    subst P (sym beside) (record {
      came = done.came;
      answered = done.answered ++ dropped;
      goes = goes_letting link done.came done.answered old last there done.goes is;
      plays = λ h resumes room more over outcomes fit on.
          let same : outcomes_of (done.answered ++ dropped) ++ outcomes ≡ outcomes_of done.answered ++ outcomes =
          ap (λ o. o ++ outcomes) (outcomes-append done.answered dropped ∙ ap (λ o. outcomes_of done.answered ++ o) (drops_none last.state.counts.owed) ∙ append-nil (outcomes_of done.answered)) in
          ap (λ o. finally (play room tree (play_state old (done.came ++ more) over o))) same
          ∙ ap finally (done.plays h resumes room more over outcomes fit on)
          ∙ ap (played.Done answer) (ended_play_state link.tells last there h is more over outcomes);
      fails = ends.fails;
      keeps = ends.keeps;
      calm = ends.completes.keeps;
      shrinks = ends.shrinks;
      gone = ends.gone;
    })
