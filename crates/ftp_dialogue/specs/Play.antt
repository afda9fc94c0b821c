-- What a dialogue results in: its answer, or that it waits. All that the server sends is known at once, and so is
-- the room for what is said.
use Rattle.std.specs.Prelude.{ℕ, Bool, true, false, ◌&&◌, ◌||◌, List, [], ◌∷◌, ◌++◌, length, nat_le, Option, is_none, Result, Ok, Err, if◌then◌else◌}
use Rattle.ftp_base.specs.Status.{status_of}
use Rattle.ftp_base.specs.declared.types.reply.Response.{Response}
use Rattle.ftp_base.specs.declared.types.fault.FtpError.{FtpError}
use Rattle.ftp_base.specs.declared.types.fault.FtpError.TheVariants as fault
use Rattle.ftp_base.specs.declared.types.fault.ConnectionError.TheVariants as connection
use Rattle.ftp_transport.specs.declared.room.Room.{Room as Rooms}
use Rattle.ftp_transport.specs.declared.room.Room.TheVariants.{Any, UpTo}
use Rattle.ftp_control.specs.declared.control.outcome.Outcome.{Outcome}
use Rattle.ftp_control.specs.declared.control.outcome.Outcome.TheVariants.{Whole, Bad, TooLarge, Ended, Waits}
use Rattle.ftp_control.specs.Grammar.{outcome, left_by}
use Rattle.ftp_control.specs.Answer.{expected_reply}
use Rattle.ftp_transport.specs.declared.request.Request.{Request}
use Rattle.ftp_transport.specs.declared.request.RequestOutcome.{RequestOutcome}
use Rattle.ftp_dialogue.specs.declared.model.NetOutcome.{NetOutcome}
use Rattle.std.specs.declared.net.socket_addr.SocketAddr.{SocketAddr}
use Rattle.ftp_calls.specs.declared.call.Answer.{Answer}
use Rattle.ftp_calls.specs.declared.call.Answer.TheVariants.{Fault, NoTransfer, Unit as Nothing}
use Rattle.ftp_calls.specs.declared.exchange.Movement.{Movement}
use Rattle.ftp_calls.specs.Exchanges.{drains, drains_first, finishes, is_local, negotiates, of_transfer}
use Rattle.ftp_dialogue.specs.declared.state.Owed.{Owed}
use Rattle.ftp_dialogue.specs.Sound.{none_left}
use Rattle.ftp_dialogue.specs.declared.model.NetOutcome.TheVariants.{Answered, Built, Secured}
use Rattle.ftp_calls.specs.declared.call.Call.{Call}
use Rattle.ftp_calls.specs.declared.call.Call.TheVariants.{Drain}
use Rattle.ftp_dialogue.specs.declared.model.PlayState.{PlayState}
use Rattle.ftp_dialogue.specs.declared.model.Wait.TheVariants.{Room, Bytes, Outcome as Asking}
use Rattle.ftp_dialogue.specs.declared.model.Played.{Played}
use Rattle.ftp_dialogue.specs.declared.model.Played.TheVariants.{Done, Pending}
use Rattle.ftp_dialogue.specs.Coding.{Coding}
use Rattle.ftp_dialogue.specs.NetEvents.{answers, constructed, constructing, during_request, after_request, moved, parted, secured, securing, settled}
use Rattle.ftp_dialogue.specs.Dialogue.{Tree, Expected, End, Here, There, Say, Hear, Look, Ask, Build, Secure, Move, Leaf, dialogue, entered, with_left}

-- so much is within the room
abbrev pub fits : Rooms → List ℕ → Bool
fits Any all = true
fits (UpTo most) all = nat_le (length all) most

-- a line was said after the unsent tail of the one before; the dialogue waits while all of it isn't within the room
abbrev pub said_then : Rooms → List ℕ → PlayState → (PlayState → Played) → Played
said_then room line s next =
    let all = s.said ++ s.unsent ++ line in
    let here = record s { said = all; unsent = [] } in
    if fits room all then next here else Pending Room here

-- a reply was taken
abbrev pub taken : List ℕ → PlayState → PlayState
taken left s = record s { bytes = left }

-- what the bytes say: a reply that is expected or another, a first line that opens none, a reply too large or an end
-- of input, the last two of which fail the session; or nothing yet
abbrev pub heard_then : Outcome → Expected → PlayState → (Result Response FtpError → PlayState → Played) → Played
heard_then (Whole reply code) codes s next =
    next (expected_reply codes.statuses (record { status = status_of code; body = reply })) (taken (left_by (Whole reply code) s.bytes) s)
heard_then (Bad line) codes s next = next (Err fault.BadResponse) (taken (left_by (Bad line) s.bytes) s)
heard_then TooLarge codes s next =
    next (Err (fault.ConnectionError connection.ReplyTooLarge)) (record (taken (left_by TooLarge s.bytes) s) { failed = true })
heard_then Ended codes s next =
    next (Err (fault.ConnectionError connection.UnexpectedEof)) (record (taken (left_by Ended s.bytes) s) { failed = true })
heard_then Waits codes s next = Pending (Bytes codes.form) s

-- the next outcome that is known is the request's; one of another kind is as good as none
abbrev pub asked_then : List NetOutcome → Request → PlayState → (RequestOutcome → PlayState → Played) → Played
asked_then (Answered outcome ∷ outcomes) request s next =
    next outcome (record s { net_record = after_request request outcome s.net_record; outcomes = outcomes })
asked_then outcomes request s next = Pending Asking (record s { net_record = during_request request s.net_record })

-- the next outcome that is known is the builder's answer
abbrev pub built_then : List NetOutcome → SocketAddr → PlayState → (Option FtpError → PlayState → Played) → Played
built_then (Built fault ∷ outcomes) address s next =
    next fault (record s { net_record = constructed address fault s.net_record; outcomes = outcomes })
built_then outcomes address s next = Pending Asking (record s { net_record = constructing address s.net_record })

-- the next outcome that is known is the connector's answer
abbrev pub secured_then : List NetOutcome → PlayState → (Option FtpError → PlayState → Played) → Played
secured_then (Secured fault ∷ outcomes) s next =
    next fault (record s { net_record = secured fault s.net_record; outcomes = outcomes })
secured_then outcomes s next = Pending Asking (record s { net_record = securing s.net_record })

-- the next outcome that is known is that of what is done on the data connection
abbrev pub moved_then : List NetOutcome → Movement → PlayState → (NetOutcome → PlayState → Played) → Played
moved_then [] movement s next = Pending Asking s
moved_then (outcome ∷ outcomes) movement s next =
    if answers movement outcome then next outcome (record s { net_record = moved movement outcome s.net_record; outcomes = outcomes })
    else Pending Asking s

-- the address of an end of the control connection
abbrev pub address_at : End → PlayState → SocketAddr
address_at Here s = s.local
address_at There s = s.peer

-- what a tree results in, from here, in this room
unfoldable pub play : Rooms → Tree → PlayState → Played
play room (Say (Ok line) next) s = said_then room line s (λ t. play room next t)
play room (Say (Err cause) next) s = Done (Fault (fault.ConnectionError cause)) s
play room (Hear codes next) s =
    heard_then (outcome s.state.settings.reply_rule codes.form s.bytes s.ended) codes s (λ heard t. play room (next heard) t)
play room (Look end next) s = play room (next (address_at end s)) s
play room (Ask request next) s = asked_then s.outcomes request s (λ answer t. play room (next answer) t)
play room (Build address next) s = built_then s.outcomes address s (λ fault t. play room (next fault) t)
play room (Secure next) s = secured_then s.outcomes s (λ fault t. play room (next fault) t)
play room (Move movement next) s = moved_then s.outcomes movement s (λ came t. play room (next came) t)
play room (Leaf answer state) s = Done answer (record s { state = state })

-- a call is done: a data connection that carries no transfer is let go, and that of one that was left is closed and
-- handed back
abbrev pub ended : PlayState → PlayState
ended s = record s { net_record = settled s.state.counts.owed s.net_record }

abbrev pub finally : Played → Played
finally (Done answer s) = Done answer (ended s)
finally (Pending wait s) = Pending wait s

-- a call lacks its transfer: none is held; or, where it hears the end of one that was left, none was
abbrev pub lacks_beside : Bool → Bool → Owed → Bool
lacks_beside true none owed = none_left owed
lacks_beside false none owed = none

abbrev pub lacks : Call → Bool → Owed → Bool
lacks call none owed = lacks_beside (drains call) none owed

-- why a call isn't made: it lacks its transfer; or it goes over the control connection, and the session has failed
pub data Refusal : Type 0 where
  Taken : Refusal
  Lacking : Refusal
  Failing : Refusal

abbrev pub refused_if_failed : Bool → Bool → Refusal
refused_if_failed true failed = Taken
refused_if_failed false true = Failing
refused_if_failed false false = Taken

abbrev pub refusal : Call → Bool → Bool → Refusal
refusal call failed lacks = if of_transfer call && lacks then Lacking else refused_if_failed (is_local call) failed

-- the transfer is left: its data connection is closed
abbrev pub leaving : PlayState → PlayState
leaving s = record s { state = with_left s.state; net_record = parted s.net_record }

-- what a call results in; once the session has failed it says and hears nothing, and a transfer that it would bring to
-- its end is left
abbrev pub play_unless : Refusal → Rooms → Coding → Call → PlayState → Played
play_unless Taken room coding call s = finally (play room (dialogue coding call s.state) (record s { state = entered call s.state }))
play_unless Lacking room coding call s = Done NoTransfer s
play_unless Failing room coding call s = Done (Fault fault.SessionFailed) (if finishes call then leaving s else s)

abbrev pub play_call : Rooms → Coding → Call → PlayState → Played
play_call room coding call s = play_unless (refusal call s.failed (lacks call (is_none s.net_record.data_conn) s.state.counts.owed)) room coding call s

-- A transfer that was left: its last reply comes before any other: RFC 959, section 5.4

-- whether that reply is due before a call
abbrev pub is_due : Call → Bool → Owed → Bool
is_due call failed owed = if failed || none_left owed then false else drains_first call

-- a call gives nothing, and succeeded
abbrev pub is_unit : Answer → Bool
is_unit Nothing = true
is_unit other = false

-- a call goes on after the drain; an error of the drain is its answer
abbrev pub after_drain : Played → (PlayState → Played) → Played
after_drain (Done answer s) next = if is_unit answer then next s else Done answer s
after_drain (Pending wait s) next = Pending wait s

abbrev pub play_drained_if : Bool → Rooms → Coding → Call → PlayState → Played
play_drained_if true room coding call s = after_drain (play_call room coding Drain s) (λ t. play_call room coding call t)
play_drained_if false room coding call s = play_call room coding call s

-- what a call results in, after the last reply of a transfer that was left
abbrev pub play_drained : Rooms → Coding → Call → PlayState → Played
play_drained room coding call s = play_drained_if (is_due call s.failed s.state.counts.owed) room coding call s

-- what a call results in depends on what happens beside the control connection
abbrev pub needs_data : Call → Bool
needs_data call = negotiates call || of_transfer call
