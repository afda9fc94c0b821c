-- Lemmas on what a poll leaves of a connection: which bytes came, what is read of them, and the room.
use Rattle.std.proofs.Common.{◌≡◌, ℕ, ◌+◌, ◌<◌, ◌≤◌, Bool, true, false, cond, ◌||◌, eqb, List, [], ◌∷◌, ◌++◌, length, drop, inl, inr, ◌⊎◌, refl, ap, sym, ◌∙◌, append_assoc, append-nil, length-append, arith, eq-eqb}
use Rattle.std.proofs.lemmas.Bool.{lt-leb, eqb-true}
use Rattle.std.proofs.lemmas.List.{take_all}
use Rattle.std.proofs.Math.Seq.{drop-append_seam, take-append_seam}
use Rattle.ftp_transport.specs.declared.room.Room.{Room}
use Rattle.ftp_transport.specs.declared.room.Room.TheVariants.{Any, UpTo}
use Rattle.ftp_dialogue.specs.NetEvents.{NetEvent, NetEvents, outcomes_of}
use Rattle.ftp_dialogue.proofs.NetEvents.{outcomes-append}
use Rattle.ftp_dialogue.specs.declared.model.NetOutcome.{NetOutcome}
use Rattle.ftp_transport.specs.Told.{Told, HasRoomFor, HasNoRoom, EndsAsTold}
use Rattle.ftp_transport.specs.Memory.{IsGiven}
use Rattle.ftp_control.specs.declared.control.rule.ReplyRule.{ReplyRule}
use Rattle.ftp_control.specs.Reading.{GoesOn}
use Rattle.ftp_control.specs.Channel.{Channel, IsSound, untaken}
use Rattle.ftp_control.specs.Saying.{said}
use Rattle.ftp_control.specs.declared.control.outcome.Outcome.TheVariants.{Waits}
use Rattle.ftp_control.specs.Grammar.{outcome}
use Rattle.ftp_runs.specs.declared.model.Script.{Script}
use Rattle.ftp_dialogue.specs.State.{SessionValue}
use Rattle.ftp_dialogue.specs.declared.state.State.{State}
use Rattle.ftp_dialogue.specs.Play.{fits}
use Rattle.ftp_dialogue.specs.Promises.{Goes, Keeps}
use Rattle.ftp_runs.specs.Script.{unread, is_over, front, seen_in}
use Rattle.ftp_runs.specs.Scripted.{SaysFrontOf}
use Rattle.ftp_dialogue.specs.Steps.Moving.{Shrinks}
use Rattle.ftp_dialogue.proofs.Hearing.{nothing_says}
use Rattle.ftp_dialogue.specs.Link.{Builds, over_memory, plain}

-- Bytes
pub unread_is : (t : Told) (given : IsGiven t) → unread t ≡ given.ahead
unread_is t given = ap (drop (length t.received)) given.front ∙ drop-append_seam t.received given.ahead

-- what came was unread before
pub unread_split : (t u : Told) (came : List ℕ) → IsGiven u → u.given ≡ t.given → u.received ≡ t.received ++ came → unread t ≡ came ++ unread u
unread_split t u came given same received =
    let front : t.given.bytes ≡ t.received ++ (came ++ given.ahead) =
    ap (λ g. g.bytes) (sym same) ∙ given.front ∙ ap (λ r. r ++ given.ahead) received ∙ append_assoc t.received came given.ahead in
    ap (drop (length t.received)) front ∙ drop-append_seam t.received (came ++ given.ahead) ∙ ap (λ a. came ++ a) (sym (unread_is u given))

pub front_fits : (room : Room) (all : List ℕ) → HasRoomFor room (length all) → front room all ≡ all
front_fits Any all fit = refl
front_fits (UpTo most) all fit = take_all most all fit

-- where the end was met nothing is unread
pub over_at_end : (v : SessionValue) → IsGiven v.channel.told → IsSound (Unit {0}) v.channel → GoesOn v.channel.ended (unread v.channel.told) (is_over v.channel.told)
over_at_end v given sound = record {
  nothing = λ e. unread_is v.channel.told given ∙ given.over (sound.ended tt ∙ e);
  over = λ e. let met : v.channel.told.ended ≡ true = sound.ended tt ∙ e in rw met (or_true v.channel.told.given.closed);
}
  where
    or_true : (b : Bool) → b || true ≡ true
    or_true true = refl
    or_true false = refl

-- a poll meets the end only where it was told
pub same_over : (t u : Told) → u.given ≡ t.given → (t.ended ≡ true → u.ended ≡ true) → (u.ended ≡ true → (t.ended ≡ true) ⊎ (t.given.closed ≡ true)) → is_over u ≡ is_over t
same_over t u same grows told =
    ap (λ g. g.closed || u.ended) same ∙ go t.given.closed t.ended u.ended grows told
  where
    go : (closed one two : Bool) → (one ≡ true → two ≡ true) → (two ≡ true → (one ≡ true) ⊎ (closed ≡ true)) → closed || two ≡ closed || one
    go true one two grows told = refl
    go false true two grows told = grows refl
    go false false true grows told = absurd (clash (told refl))
      where
        clash : (false ≡ true) ⊎ (false ≡ true) → ⊥
        clash (inl e) = cc e
        clash (inr e) = cc e
    go false false false grows told = refl

-- what was asked

pub outcomes_on : (a b : List NetEvent) (later : List NetOutcome) → outcomes_of (a ++ b) ++ later ≡ outcomes_of a ++ (outcomes_of b ++ later)
outcomes_on a b later = ap (λ l. l ++ later) (outcomes-append a b) ∙ append_assoc (outcomes_of a) (outcomes_of b) later

-- What is read

pub seen_none : (s : Script) (left : List ℕ) (kept : ℕ) → s.seen ≡ kept → kept + length left ≤ length s.untaken → seen_in s left ≡ 0
seen_none s left kept seen fewer =
    elim (eqb (length left) (length s.untaken)) as (λ t. eqb (length left) (length s.untaken) ≡ t → cond t s.seen 0 ≡ 0) [
      | true ↦ λ t. omega (arith, seen, fewer, eqb-true _ _ t)
      | false ↦ λ t. refl
    ] refl

pub seen_same : (s : Script) (left : List ℕ) → left ≡ s.untaken → seen_in s left ≡ s.seen
seen_same s left same =
    let test : eqb (length left) (length s.untaken) ≡ true = eq-eqb _ _ (ap length same) in
    rw test

-- how many of the untaken bytes a poll has read
pub seen_kept : (P : Type 0) (s : Script) (v w : SessionValue) (came : List ℕ) → s.seen ≡ length v.channel.kept → s.untaken ≡ untaken v.channel ++ unread v.channel.told → unread v.channel.told ≡ came ++ unread w.channel.told → Shrinks came v w → Keeps P came v w → seen_in s (untaken w.channel ++ unread w.channel.told) ≡ length w.channel.kept
seen_kept P s v w came seen untaken_is split shrinks (inl none) =
    let count : length s.untaken ≡ (length v.channel.kept + length v.channel.ahead) + (length came + length (unread w.channel.told)) =
    ap length (untaken_is ∙ ap (λ u. untaken v.channel ++ u) split) ∙ length-append (untaken v.channel) (came ++ unread w.channel.told) ∙ ap (λ n. n + length (came ++ unread w.channel.told)) (length-append v.channel.kept v.channel.ahead) ∙ ap (λ n. (length v.channel.kept + length v.channel.ahead) + n) (length-append came (unread w.channel.told)) in
    let left : length (untaken w.channel ++ unread w.channel.told) ≡ length w.channel.ahead + length (unread w.channel.told) =
    length-append (untaken w.channel) (unread w.channel.told) ∙ ap (λ k. length (k ++ w.channel.ahead) + length (unread w.channel.told)) none in
    seen_none s (untaken w.channel ++ unread w.channel.told) (length v.channel.kept) seen (omega (arith, count, left, shrinks)) ∙ sym (ap length none)
seen_kept P s v w came seen untaken_is split shrinks (inr same) =
    let left : untaken w.channel ++ unread w.channel.told ≡ s.untaken =
    ap (λ k. (k ++ w.channel.ahead) ++ unread w.channel.told) same.0 ∙ ap (λ a. (v.channel.kept ++ a) ++ unread w.channel.told) same.1 ∙ ap (λ u. untaken v.channel ++ u) (sym (split ∙ ap (λ c. c ++ unread w.channel.told) same.2)) ∙ sym untaken_is in
    seen_same s (untaken w.channel ++ unread w.channel.told) left ∙ seen ∙ ap length (sym same.0)

-- what is kept says nothing yet under the list that it was read under
pub waits_kept : (P : Type 0) (s : Script) (v w : SessionValue) (came : List ℕ) → outcome v.channel.rule s.form v.channel.kept false ≡ Waits → Keeps P came v w → outcome w.channel.rule s.form w.channel.kept false ≡ Waits
waits_kept P s v w came waits (inl none) = rw none (nothing_says w.channel.rule s.form)
waits_kept P s v w came waits (inr same) = rw (same.0, same.4) waits

-- and was read by this rule
pub rule_kept : (P : Type 0) (rule : ReplyRule) (v w : SessionValue) (came : List ℕ) → (v.channel.kept ≡ []) ⊎ (v.channel.rule ≡ rule) → Keeps P came v w → (w.channel.kept ≡ []) ⊎ (w.channel.rule ≡ rule)
rule_kept P rule v w came before (inl none) = inl none
rule_kept P rule v w came (inl none) (inr same) = inl (same.0 ∙ none)
rule_kept P rule v w came (inr is) (inr same) = inr (same.4 ∙ is)

pub positive : (l : List ℕ) → (l ≡ [] → ⊥) → 0 < length l
positive [] some = absurd (some refl)
positive (x ∷ l) some = omega arith

-- no room is left for what is unsent
pub full_room : (room : Room) (sent unsent line : List ℕ) → HasRoomFor room (length sent) → HasNoRoom room (length sent) → (unsent ≡ [] → ⊥) → (fits room (sent ++ unsent ++ line) ≡ false) × (front room (sent ++ unsent ++ line) ≡ sent)
full_room Any sent unsent line fit full some = absurd full
full_room (UpTo most) sent unsent line fit full some =
    let count : length (sent ++ unsent ++ line) ≡ (length sent + length unsent) + length line = length-append (sent ++ unsent) line ∙ ap (λ n. n + length line) (length-append sent unsent) in
    let same : most ≡ length sent = omega (arith, fit, full) in
    (lt-leb _ _ (omega (arith, count, positive unsent some, fit, full)), rw (same, append_assoc sent unsent line) (take-append_seam sent (unsent ++ line)))

-- what a poll leaves of a connection
pub record Carried (builds : Builds) (v w : SessionValue) (came : List ℕ) (asked : List NetEvent) : Type 0 where
  pub net_events : NetEvents (plain builds) asked v.net w.net
  pub received : w.channel.told.received ≡ v.channel.told.received ++ came
  pub failures : w.channel.told.failures ≡ v.channel.told.failures
  pub split : unread v.channel.told ≡ came ++ unread w.channel.told
  pub given : w.channel.told.given ≡ v.channel.told.given
  pub over : is_over w.channel.told ≡ is_over v.channel.told
  pub has : IsGiven w.channel.told
  pub sound : IsSound (Unit {0}) w.channel

pub carried : (builds : Builds) (v w : SessionValue) (state : State) (came : List ℕ) (answered : List NetEvent) → Goes (over_memory builds) came answered (record v { state = state }) w → IsSound (Unit {0}) v.channel → EndsAsTold v.channel.ended w.channel.ended v.channel.told → IsGiven w.channel.told → IsSound (Unit {0}) w.channel → Carried builds v w came answered
carried builds v w state came answered goes sound end given sound' = record {
  net_events = goes.net_events tt;
  received = goes.received tt;
  failures = (goes.failures tt).failures;
  split = unread_split v.channel.told w.channel.told came given (goes.given tt) (goes.received tt);
  given = goes.given tt;
  over = same_over v.channel.told w.channel.told (goes.given tt) (λ e. sound'.ended tt ∙ goes.over.over (sym (sound.ended tt) ∙ e)) (λ e. go (end (sym (sound'.ended tt) ∙ e)));
  has = given;
  sound = sound';
}
  where
    go : (v.channel.ended ≡ true) ⊎ (v.channel.told.given.closed ≡ true) → (v.channel.told.ended ≡ true) ⊎ (v.channel.told.given.closed ≡ true)
    go (inl e) = inl (sound.ended tt ∙ e)
    go (inr e) = inr e

pub carried_none : (builds : Builds) (v : SessionValue) → IsGiven v.channel.told → IsSound (Unit {0}) v.channel → Carried builds v v [] []
carried_none builds v given sound = record { net_events = refl; received = sym (append-nil v.channel.told.received); failures = refl; split = refl; given = refl; over = refl; has = given; sound = sound }

-- what went out and is unsent begins what is said with the next line
pub line_front : (c : Channel) (line : List ℕ) → (c.unsent ≡ [] → ⊥) → SaysFrontOf c ((c.told.sent ++ c.unsent ++ line) ++ [])
line_front c line some = record { rest = line; is = append-nil (c.told.sent ++ c.unsent ++ line); whole = inr some }

pub all_said : (c : Channel) → SaysFrontOf c (said c)
all_said c = record { rest = []; is = sym (append-nil (said c)); whole = inl refl }
