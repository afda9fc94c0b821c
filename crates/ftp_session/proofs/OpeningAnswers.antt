-- What a call that opens a data connection answers: nothing that its last exchange doesn't give, or an error.
use Rattle.std.proofs.Common.{◌≡◌, ℕ, List, [], Bool, true, false, cond, Option, Result, Ok, Err, inl, inr, ◌⊎◌, refl, sym, ◌∙◌, subst}
use Rattle.ftp_base.specs.declared.types.fault.FtpError.{FtpError}
use Rattle.ftp_base.specs.declared.types.reply.Response.{Response}
use Rattle.ftp_calls.specs.Exchanges.{finishes, own_row, row_of}
use Rattle.ftp_calls.specs.Kinds.{IsOpening}
use Rattle.ftp_calls.specs.declared.call.Answer.{Answer}
use Rattle.ftp_calls.specs.declared.call.Answer.TheVariants.{Fault, Unit as Nothing}
use Rattle.ftp_calls.specs.declared.call.Call.{Call}
use Rattle.ftp_calls.specs.declared.exchange.Ending.{Ending}
use Rattle.ftp_calls.specs.declared.exchange.Ending.TheVariants.{Opens, Performs}
use Rattle.ftp_calls.specs.declared.exchange.Exchange.{Exchange}
use Rattle.ftp_calls.specs.declared.exchange.Fetch.{Fetch}
use Rattle.ftp_calls.specs.declared.exchange.Fetch.TheVariants.{Whole, Listed}
use Rattle.ftp_calls.specs.declared.exchange.Row.{Row}
use Rattle.ftp_calls.specs.declared.exchange.Row.TheVariants.{Exchanges}
use Rattle.ftp_calls.specs.declared.exchange.Task.TheVariants as tasks
use Rattle.ftp_calls.specs.declared.exchange.Turn.TheVariants.{First, Second}
use Rattle.ftp_transfer.specs.Mark.{End}
use Rattle.ftp_dialogue.specs.CatchingUp.{PlaysInStep}
use Rattle.ftp_dialogue.specs.Coding.{Coding}
use Rattle.ftp_dialogue.specs.Dialogue.{Tree, Leaf, closing_data, concluded, dialogue, doing, fetched, from_turn, last_turn, most_reads, negotiating, opened_answer, opened_from, performing, with_left, with_transfer}
use Rattle.ftp_dialogue.specs.Link.{Link}
use Rattle.ftp_dialogue.specs.Play.{Lacking, refused_if_failed}
use Rattle.ftp_dialogue.specs.Promises.{IsFault}
use Rattle.ftp_dialogue.specs.State.{SessionValue}
use Rattle.ftp_dialogue.specs.declared.state.State.{State}
use Rattle.ftp_dialogue.proofs.Sorts.{opens_drains_none}
use Rattle.ftp_session.specs.Fetched.{FetchesRow, IsFetched}
use Rattle.ftp_session.specs.Handed.{HandsConnection, OpensRow, PlaysSeen, as_seen, opens}
use Rattle.ftp_dialogue.proofs.Backed.{Tells, clash, gathering_backed, line_backed, negotiating_backed, opening_backed}
use Rattle.ftp_session.proofs.Commands.{refusal_is}
use Rattle.ftp_session.proofs.Grounds.{Results, step_results}

-- whatever the reason of an error is
abbrev Reason : State → FtpError → Type 0
Reason state fault = Unit {0}

-- where a session goes on or has failed, no transfer is lacking
lacks_none : {T : Type 0} (failed : Bool) → refused_if_failed false failed ≡ Lacking → T
lacks_none true is = cc is
lacks_none false is = cc is

module _ (Good : Answer → Type 0) (coding : Coding) where
  -- its last exchange
  exchange_tells : (state : State) (after : State → Tree) (exchange : Exchange) (how : Ending) → exchange.ending ≡ how → ((heard : Result Response FtpError) → Tells Good (Unit {0}) Reason (concluded coding how state after heard)) → Tells Good (Unit {0}) Reason (doing coding (Exchanges exchange) state after)
  exchange_tells state after exchange how is heard =
      let P : Ending → Type 0 = λ e. (h : Result Response FtpError) → Tells Good (Unit {0}) Reason (concluded coding e state after h) in
      let all : P exchange.ending = subst P (sym is) heard in
      line_backed Good (Unit {0}) Reason coding exchange.says _ (λ h may. all h, λ kind same left. tt)

  module _ (call : Call) (sort : IsOpening call) (last_tells : (state : State) → Tells Good (Unit {0}) Reason (last_turn coding call state)) (link : Link) (old new : SessionValue) (told : Answer) where
    call_tells : PlaysInStep link coding call old new told → Results Good link (Unit {0}) Reason old new told
    call_tells plays = step_results Good link (Unit {0}) Reason coding call (λ v is. lacks_none v.channel.failed (sym (refusal_is call v sort.1 sort.2) ∙ is)) tells (λ is. clash (sym is ∙ opens_drains_none call sort.0)) old new told plays
      where
        tells : (state : State) → Tells Good (Unit {0}) Reason (dialogue coding call state)
        tells state =
            let P : Bool → Type 0 = λ b. Tells Good (Unit {0}) Reason (cond b (negotiating coding call state.settings.restart_offset (opened_from call state)) (cond (finishes call) (closing_data coding call (with_left state)) (from_turn coding call First state))) in
            subst P (sym sort.0) (negotiating_backed Good (Unit {0}) tt (opened_from call state) Reason coding call (last_tells (opened_from call state)) state.settings.restart_offset (λ fault is. tt))

-- A transfer that is handed out: it is opened, or the call failed

abbrev pub IsOpened : Bool → Answer → Type 0
IsOpened replies answer = IsFault answer ⊎ (opens replies answer ≡ true)

abbrev HasOpened : Bool → Answer → Type 0
HasOpened replies answer = opens replies answer ≡ true

module _ (replies : Bool) (coding : Coding) where
  heard_tells : (state : State) (after : State → Tree) (heard : Result Response FtpError) → Tells (HasOpened replies) (Unit {0}) Reason (concluded coding (Opens replies) state after heard)
  heard_tells state after (Ok reply) = opening_backed (HasOpened replies) (Unit {0}) tt state Reason state.settings.mode (Leaf (opened_answer replies reply) (with_transfer state)) (go replies)
    where
      go : (r : Bool) → Tells (HasOpened r) (Unit {0}) Reason (Leaf (opened_answer r reply) (with_transfer state))
      go true = refl
      go false = refl
  heard_tells state after (Err fault) = λ grave. tt

  row_tells : (row : Row) → OpensRow replies row → (state : State) → Tells (HasOpened replies) (Unit {0}) Reason (doing coding row state (λ s. Leaf Nothing s))
  row_tells (Exchanges exchange) is state = exchange_tells (HasOpened replies) coding state (λ s. Leaf Nothing s) exchange (Opens replies) is (heard_tells state (λ s. Leaf Nothing s))
  row_tells other is state = absurd is

pub opening_answers : (link : Link) (replies : Bool) (coding : Coding) (call : Call) (old new : SessionValue) (answer : Answer) → HandsConnection replies call → PlaysInStep link coding call old new answer → IsOpened replies answer
opening_answers link replies coding call old new answer hands plays = go answer (call_tells (HasOpened replies) coding call hands.sort (row_tells replies coding (row_of call Second) hands.last) link old new answer plays)
  where
    go : (told : Answer) → Results (HasOpened replies) link (Unit {0}) Reason old new told → IsOpened replies told
    go (Fault fault) results = inl tt
    go other results = inr results.0

-- A whole data connection: its bytes, or the lines of a listing

module _ (form : Fetch) (coding : Coding) where
  fetched_tells : (f : Fetch) (all : List ℕ) → IsFetched f (fetched coding f all)
  fetched_tells Whole all = tt
  fetched_tells Listed all = tt

  read_tells : (state : State) (after : State → Tree) (heard : Result Response FtpError) → Tells (IsFetched form) (Unit {0}) Reason (concluded coding (Performs (tasks.Fetch form)) state after heard)
  read_tells state after (Ok reply) =
      let gathers = gathering_backed (IsFetched form) (Unit {0}) tt coding form (fetched_tells form) most_reads Reason [] state in
      opening_backed (IsFetched form) (Unit {0}) tt state Reason state.settings.mode (performing coding (tasks.Fetch form) state) gathers
  read_tells state after (Err fault) = λ grave. tt

  fetch_row_tells : (row : Row) → FetchesRow form row → (state : State) → Tells (IsFetched form) (Unit {0}) Reason (doing coding row state (λ s. Leaf Nothing s))
  fetch_row_tells (Exchanges exchange) is state = exchange_tells (IsFetched form) coding state (λ s. Leaf Nothing s) exchange (Performs (tasks.Fetch form)) is (read_tells state (λ s. Leaf Nothing s))
  fetch_row_tells other is state = absurd is

pub fetch_tells : (link : Link) (form : Fetch) (coding : Coding) (call : Call) (mark after : Option End) (old new : SessionValue) (told : Answer) → FetchesRow form (own_row call false) → IsOpening call → PlaysSeen link coding call mark after old new told → IsFetched form told
fetch_tells link form coding call mark after old new told reads sort seen =
    go told (call_tells (IsFetched form) coding call sort (fetch_row_tells form coding (own_row call false) reads) link (as_seen after old) new told seen.plays)
  where
    go : (answer : Answer) → Results (IsFetched form) link (Unit {0}) Reason (as_seen after old) new answer → IsFetched form answer
    go (Fault fault) results = tt
    go other results = results.0
