-- Which exchanges lead to a data connection.
use Rattle.std.proofs.Common.{ℕ, ◌≡◌, ◌<◌, ◌-◌, ◌+◌, Bool, true, false, not, ◌&&◌, ◌||◌, is_none, Option, Some, None, inl, refl, ap, sym, ◌∙◌, subst, arith}
use Rattle.ftp_calls.proofs.Openings.{opens_alike, row_is_own}
use Rattle.ftp_calls.specs.declared.call.Answer.{Answer}
use Rattle.ftp_calls.specs.declared.call.Call.{Call}
use Rattle.ftp_calls.specs.declared.exchange.Ending.{Ending}
use Rattle.ftp_calls.specs.declared.exchange.Ending.TheVariants.{Done, Continues, GivesAddress, GivesPort, Finishes, Stops}
use Rattle.ftp_calls.specs.declared.exchange.Task.{Task}
use Rattle.ftp_calls.specs.declared.exchange.Row.{Row}
use Rattle.ftp_calls.specs.declared.exchange.Row.TheVariants.{Exchanges, Arms}
use Rattle.ftp_calls.specs.declared.exchange.Turn.{Turn}
use Rattle.ftp_calls.specs.declared.exchange.Turn.TheVariants.{First, Second, Passive, ExtendedPassive, Active, Restart, Closed, Aborted}
use Rattle.ftp_calls.specs.Exchanges.{Kind, ending_of, given_by, is_draining, is_negotiating, is_opening, is_own, kind_of, kind_of_task, negotiates, opens, own_row, row_of}
use Rattle.ftp_dialogue.specs.declared.stage.Asking.{Asking}
use Rattle.ftp_dialogue.specs.declared.stage.Asking.TheVariants.{PeerPort, Connection, Peer, Accepting, Securing}
use Rattle.ftp_dialogue.specs.declared.stage.Opened.TheVariants.{Gives as GivesAnswer, Performs as PerformsAll}
use Rattle.ftp_dialogue.specs.Dialogue.{most_reads, strangers}
use Rattle.ftp_dialogue.specs.Steps.Moving.{AskingAnswers, agrees}
use Rattle.ftp_dialogue.specs.Steps.Stages.{AnswersKind, AskingOf, MayPerform, TurnOf, nodes_asked, nodes_from}

abbrev pub row_agrees : Option Ending → Bool
row_agrees None = false
row_agrees (Some ending) = agrees ending

-- of a call's own rows only that which opens a data connection leads to one
ending_agrees : (e : Ending) (rest : Bool) → not (is_negotiating e) && rest ≡ true → agrees e ≡ is_opening e
ending_agrees Continues rest own = let clash : false ≡ true = own in cc
ending_agrees GivesAddress rest own = let clash : false ≡ true = own in cc
ending_agrees (GivesPort tries) rest own = let clash : false ≡ true = own in cc
ending_agrees other rest own = refl

row_own_agrees : (row : Row) → is_own row ≡ true → row_agrees (ending_of row) ≡ opens row
row_own_agrees (Exchanges exchange) own = ending_agrees exchange.ending (not (is_draining exchange.ending) || is_none exchange.says) own
row_own_agrees other own = refl

pub own_agrees : (call : Call) (first : Bool) → row_agrees (ending_of (own_row call first)) ≡ opens (own_row call first)
own_agrees call first = row_own_agrees (own_row call first) (row_is_own call first)

unfoldable some_ending : Ending → Option Ending → Ending
some_ending other None = other
some_ending other (Some ending) = ending

-- a call whose reply leads to a data connection negotiates
pub asks_opens : (call : Call) (turn : Turn) (ending : Ending) → ending_of (row_of call turn) ≡ Some ending → agrees ending ≡ true → TurnOf call turn → negotiates call ≡ true
unfolding some_ending
asks_opens call First ending row may of = sym (own_agrees call true) ∙ ap row_agrees row ∙ may
asks_opens call Second ending row may of = sym (opens_alike call) ∙ sym (own_agrees call false) ∙ ap row_agrees row ∙ may
asks_opens call (Closed close) ending row may of =
    let same : Finishes close ≡ ending = ap (some_ending ending) row in
    let A : Ending → Type 0 = λ e. agrees e ≡ true in
    let clash : false ≡ true = subst A (sym same) may in
    cc
asks_opens call Aborted ending row may of =
    let same : Stops ≡ ending = ap (some_ending ending) row in
    let A : Ending → Type 0 = λ e. agrees e ≡ true in
    let clash : false ≡ true = subst A (sym same) may in
    cc
asks_opens call other ending row may of = of

-- the reply that may refuse EPSV is that of its turn
row_no_port : {T : Type 0} (row : Row) → is_own row ≡ true → ending_of row ≡ Some (GivesPort true) → T
unfolding some_ending
row_no_port (Exchanges exchange) own is =
    let same : exchange.ending ≡ GivesPort true = ap (some_ending (GivesPort true)) is in
    let Own : Ending → Type 0 = λ e. not (is_negotiating e) && (not (is_draining e) || is_none exchange.says) ≡ true in
    let clash : false ≡ true = subst Own same own in
    cc
row_no_port (Arms offset) own is = let clash : None ≡ Some (GivesPort true) = is in cc
row_no_port other own is = let clash : None ≡ Some (GivesPort true) = is in cc

pub port_turn : (call : Call) (turn : Turn) → ending_of (row_of call turn) ≡ Some (GivesPort true) → (offset : ℕ) × (turn ≡ ExtendedPassive offset true)
unfolding some_ending
port_turn call First is = row_no_port (own_row call true) (row_is_own call true) is
port_turn call Second is = row_no_port (own_row call false) (row_is_own call false) is
port_turn call (Passive offset after) is = let clash : GivesAddress ≡ GivesPort true = ap (some_ending Done) is in cc
port_turn call (ExtendedPassive offset tries) is =
    let same : GivesPort tries ≡ GivesPort true = ap (some_ending Done) is in
    let tried : tries ≡ true = cc in
    (offset, ap (λ t. ExtendedPassive offset t) tried)
port_turn call (Active address offset) is = let clash : Continues ≡ GivesPort true = ap (some_ending Done) is in cc
port_turn call (Restart offset) is = let clash : Continues ≡ GivesPort true = ap (some_ending Done) is in cc
port_turn call (Closed close) is = let clash : Finishes close ≡ GivesPort true = ap (some_ending Done) is in cc
port_turn call Aborted is = let clash : Stops ≡ GivesPort true = ap (some_ending Done) is in cc

-- the kind of an answer is its row's
pub row_answers : (row : Row) (ending : Ending) (answer : Answer) → ending_of row ≡ Some ending → AnswersKind (kind_of ending) answer → AnswersKind (given_by row) answer
unfolding some_ending
row_answers (Exchanges exchange) ending answer is answers =
    let same : exchange.ending ≡ ending = ap (some_ending ending) is in
    let P : Ending → Type 0 = λ e. AnswersKind (kind_of e) answer in
    subst P (sym same) answers
row_answers (Arms offset) ending answer is answers = let clash : None ≡ Some ending = is in cc
row_answers other ending answer is answers = let clash : None ≡ Some ending = is in cc

-- a call whose reply leads to a whole file or listing
row_gives : (row : Row) (ending : Ending) → ending_of row ≡ Some ending → given_by row ≡ kind_of ending
unfolding some_ending
row_gives (Exchanges exchange) ending is = ap (λ o. kind_of (some_ending ending o)) is
row_gives other ending is = let clash : None ≡ Some ending = is in cc

pub may_perform : (call : Call) (turn : Turn) (ending : Ending) (task : Task) → TurnOf call turn → ending_of (row_of call turn) ≡ Some ending → agrees ending ≡ true → kind_of ending ≡ kind_of_task task → MayPerform call task
may_perform call turn ending task of row leads kind = (asks_opens call turn ending row leads of, (turn, of, row_gives (row_of call turn) ending row ∙ kind))

pub asking_answers : (call : Call) (turn : Turn) (ending : Ending) (asking : Asking) → TurnOf call turn → ending_of (row_of call turn) ≡ Some ending → agrees ending ≡ true → AskingAnswers (kind_of ending) asking → AskingOf call asking
asking_answers call turn ending (PeerPort port) of row leads answers = tt
asking_answers call turn ending (Connection address) of row leads answers = tt
asking_answers call turn ending (Peer (GivesAnswer answer)) of row leads answers = ((turn, inl of, row_answers (row_of call turn) ending answer row answers.0), answers.1)
asking_answers call turn ending (Peer (PerformsAll task)) of row leads answers = may_perform call turn ending task of row leads answers
asking_answers call turn ending (Accepting peer left opened) of row leads answers = absurd answers
asking_answers call turn ending (Securing (GivesAnswer answer)) of row leads answers = ((turn, inl of, row_answers (row_of call turn) ending answer row answers.0), answers.1)
asking_answers call turn ending (Securing (PerformsAll task)) of row leads answers = may_perform call turn ending task of row leads answers

pub many_nodes : (turn : Turn) → most_reads + strangers + 19 < nodes_from turn
many_nodes First = omega arith
many_nodes other = omega arith

pub fetch_fewer : (turn : Turn) → most_reads + 11 < nodes_from turn - 2
fetch_fewer turn = omega (arith, many_nodes turn)

pub asking_fewer : (turn : Turn) (kind : Kind) (asking : Asking) → AskingAnswers kind asking → nodes_asked asking turn < nodes_from turn - 2
asking_fewer turn kind (Accepting peer left opened) answers = absurd answers
asking_fewer turn kind other answers = omega (arith, many_nodes turn)

-- a call that opens no data connection has no exchange that leads to one
pub first_plain : (call : Call) → negotiates call ≡ false → row_agrees (ending_of (row_of call First)) ≡ false
first_plain call plain = own_agrees call true ∙ plain

pub second_plain : (call : Call) → negotiates call ≡ false → row_agrees (ending_of (row_of call Second)) ≡ false
second_plain call plain = own_agrees call false ∙ opens_alike call ∙ plain
