-- The sound channel goes on.
use Rattle.std.proofs.Common.{◌≡◌, ℕ, ◌≤◌, Bool, true, false, List, [], ◌++◌, length, drop, Result, Ok, Err, refl, ap, sym, ◌∙◌, subst, append_assoc, append-nil, arith}
use Rattle.ftp_control.specs.declared.control.rule.ReplyRule.{ReplyRule}
use Rattle.ftp_control.specs.declared.control.form.ReplyForm.TheVariants.{Features}
use Rattle.ftp_control.specs.declared.control.lenient.Phase.{Phase}
use Rattle.ftp_control.specs.declared.control.lenient.Phase.TheVariants.{InReply}
use Rattle.ftp_control.specs.Inside.Phases.{waiting_form}
use Rattle.ftp_transport.specs.declared.room.Room.{Room}
use Rattle.ftp_transport.specs.declared.room.Room.TheVariants.{Any, UpTo}
use Rattle.ftp_control.specs.declared.control.broken.Broken.{Broken}
use Rattle.ftp_control.specs.declared.control.broken.Broken.TheVariants.{Connection, OutOfMemory}
use Rattle.ftp_control.specs.declared.control.outcome.Outcome.{Outcome}
use Rattle.ftp_control.specs.declared.control.outcome.Outcome.TheVariants.{Whole, Bad, TooLarge, Ended, Waits}
use Rattle.ftp_transport.specs.Told.{Told, HasRoomFor}
use Rattle.ftp_control.proofs.Outcomes.{nothing_under_way}
use Rattle.ftp_control.proofs.WireLines.{line_behind}
use Rattle.ftp_control.specs.Inside.UnderWay.{IsUnderWay}
use Rattle.ftp_control.specs.Reading.{HearTells}
use Rattle.ftp_control.specs.Inside.ReadLoop.{ReadsSought, TakesAll}
use Rattle.ftp_control.specs.Sending.{IsLines, is_wire_line}
use Rattle.ftp_control.specs.Channel.{IsEndOf}
use Rattle.ftp_control.specs.Inside.Held.{Holds}

-- a read receives bytes and sends none
pub record OnlyReads (came : List ℕ) (t u : Told) : Type 0 where
  pub received : u.received ≡ t.received ++ came
  pub sent : u.sent ≡ t.sent
  pub room : u.given.room ≡ t.given.room

pub only_reads : (result : Result Outcome Broken) (came : List ℕ) (ended : Bool) (t u : Told) → HearTells result came ended t u → OnlyReads came t u
only_reads (Ok (Whole bytes code)) came ended t u told = record { received = ap (λ x. x.received) told; sent = ap (λ x. x.sent) told; room = ap (λ x. x.given.room) told }
only_reads (Ok (Bad line)) came ended t u told = record { received = ap (λ x. x.received) told; sent = ap (λ x. x.sent) told; room = ap (λ x. x.given.room) told }
only_reads (Ok TooLarge) came ended t u told = record { received = ap (λ x. x.received) told; sent = ap (λ x. x.sent) told; room = ap (λ x. x.given.room) told }
only_reads (Ok Ended) came ended t u told = record { received = ap (λ x. x.received) told; sent = ap (λ x. x.sent) told; room = ap (λ x. x.given.room) told }
only_reads (Ok Waits) came ended t u told = record { received = ap (λ x. x.received) told.0; sent = ap (λ x. x.sent) told.0; room = ap (λ x. x.given.room) told.0 }
only_reads (Err OutOfMemory) came ended t u told = record { received = ap (λ x. x.received) told; sent = ap (λ x. x.sent) told; room = ap (λ x. x.given.room) told }
only_reads (Err (Connection kind)) came ended t u told = record { received = ap (λ x. x.received) told.same; sent = ap (λ x. x.sent) told.same; room = ap (λ x. x.given.room) told.same }

none_end : (bytes kept : List ℕ) → kept ≡ [] → IsEndOf kept bytes
none_end bytes kept none = record { front = bytes; is = rw none (sym (append-nil bytes)) }

-- what is kept is an end of what there was
kept_end : (result : Result Outcome Broken) (bytes kept : List ℕ) → TakesAll result bytes kept → IsEndOf kept bytes
kept_end (Ok (Whole reply code)) bytes kept all = none_end bytes kept all.1
kept_end (Ok (Bad line)) bytes kept all = none_end bytes kept all.1
kept_end (Ok TooLarge) bytes kept all = none_end bytes kept all.1
kept_end (Ok Ended) bytes kept all = none_end bytes kept all
kept_end (Ok Waits) bytes kept all = record { front = []; is = sym all }
kept_end (Err broken) bytes kept all = record { front = []; is = sym all }

end_of_end : (part middle whole : List ℕ) → IsEndOf part middle → IsEndOf middle whole → IsEndOf part whole
end_of_end part middle whole a b = record { front = b.front ++ a.front; is = b.is ∙ ap (λ m. b.front ++ m) a.is ∙ sym (append_assoc b.front a.front part) }

end_with_more : (part whole more : List ℕ) → IsEndOf part whole → IsEndOf (part ++ more) (whole ++ more)
end_with_more part whole more a = record { front = a.front; is = ap (λ w. w ++ more) a.is ∙ append_assoc a.front part more }

-- after a read
pub read_holds : (tells : Type 0) (t u : Told) (kept kept' : List ℕ) (start start' : ℕ) (phase phase' : Phase) (ahead ahead' line : List ℕ) (sent : ℕ) (ended ended' failed failed' : Bool) (rule : ReplyRule) (says : List ℕ → Bool → Outcome) (result : Result Outcome Broken) → Holds tells t kept start phase ahead line sent ended failed rule → IsUnderWay rule kept' start' phase' → length ahead' ≤ 8192 → (tells → u.ended ≡ ended') → ReadsSought tells says kept kept' ahead ahead' ended ended' t u result → Holds tells u kept' start' phase' ahead' line sent ended' failed' rule
read_holds tells t u kept kept' start start' phase phase' ahead ahead' line sent ended ended' failed failed' rule says result held under bound known heard = record {
  under_way = under;
  within = held.within;
  over = heard.at_end;
  sound = record {
    waits = (waiting_form phase', under.waits);
    kept = λ h.
        let reads = only_reads result heard.came ended' t u (heard.told h) in
        let all : IsEndOf ((kept ++ ahead) ++ heard.came) u.received = let P : List ℕ → Type 0 = IsEndOf ((kept ++ ahead) ++ heard.came) in subst P (sym reads.received) (end_with_more (kept ++ ahead) t.received heard.came (held.sound.kept h)) in
        let part : IsEndOf (kept' ++ ahead') (heard.taken ++ ahead') = end_with_more kept' heard.taken ahead' (kept_end result heard.taken kept' heard.all) in
        let P : List ℕ → Type 0 = IsEndOf (kept' ++ ahead') in
        end_of_end (kept' ++ ahead') ((kept ++ ahead) ++ heard.came) u.received (subst P (sym heard.split) part) all;
    ahead = bound;
    lines = λ h.
        let reads = only_reads result heard.came ended' t u (heard.told h) in
        let P : List ℕ → Type 0 = λ s. IsLines (s ++ drop sent line) (drop sent line) in subst P (sym reads.sent) (held.sound.lines h);
    ended = known;
    fits = λ h.
        let reads = only_reads result heard.came ended' t u (heard.told h) in
        let P : Room → List ℕ → Type 0 = λ room s. HasRoomFor room (length s) in
        let Q : List ℕ → Type 0 = P u.given.room in
        let R : Room → Type 0 = λ room. P room t.sent in
        subst Q (sym reads.sent) (subst R (sym reads.room) (held.sound.fits h));
  };
}

fresh_fits : (room : Room) (sent : List ℕ) → sent ≡ [] → HasRoomFor room (length sent)
fresh_fits Any sent none = tt
fresh_fits (UpTo most) sent none = rw none (omega arith)

-- a channel begins
pub idle_holds : (tells : Type 0) (t : Told) (rule : ReplyRule) → (tells → (t.ended ≡ false) × (t.sent ≡ [])) → Holds tells t [] 0 InReply [] [] 0 false false rule
idle_holds tells t rule begins = record {
  under_way = nothing_under_way rule;
  within = omega arith;
  over = λ e. refl;
  sound = record {
    waits = (Features, (nothing_under_way rule).waits);
    kept = λ h. record { front = t.received; is = sym (append-nil t.received) };
    ahead = omega arith;
    lines = λ h. let P : List ℕ → Type 0 = λ s. IsLines (s ++ []) [] in subst P (sym (begins h).1) (record { whole = refl; lines = tt; end_of_last = omega arith });
    ended = λ h. (begins h).0;
    fits = λ h. fresh_fits t.given.room t.sent (begins h).1;
  };
}

-- the rule of the next reply is chosen, where nothing of one is kept
pub rule_holds : (tells : Type 0) (t : Told) (kept : List ℕ) (start : ℕ) (phase : Phase) (ahead line : List ℕ) (sent : ℕ) (ended failed : Bool) (rule chosen : ReplyRule) → kept ≡ [] → Holds tells t kept start phase ahead line sent ended failed rule → Holds tells t kept start phase ahead line sent ended failed chosen
unfolding Rattle.ftp_control.specs.Grammar.outcome
rule_holds tells t kept start phase ahead line sent ended failed rule chosen none held =
    let U : List ℕ → Type 0 = λ k. IsUnderWay rule k start phase → IsUnderWay chosen k start phase in
    let under : IsUnderWay chosen kept start phase = subst U (sym none) (λ way. record { split = way.split; phase_is = way.phase_is; waits = way.waits }) held.under_way in
    record {
      under_way = under;
      within = held.within;
      over = held.over;
      sound = record {
        waits = (waiting_form phase, under.waits);
        kept = held.sound.kept;
        ahead = held.sound.ahead;
        lines = held.sound.lines;
        ended = held.sound.ended;
        fits = held.sound.fits;
      };
    }

-- a line is taken whole, to go out
pub push_holds : (tells : Type 0) (t : Told) (kept : List ℕ) (start : ℕ) (phase : Phase) (ahead old line : List ℕ) (sent : ℕ) (ended failed : Bool) (rule : ReplyRule) → Holds tells t kept start phase ahead old sent ended failed rule → drop sent old ≡ [] → is_wire_line line ≡ true → Holds tells t kept start phase ahead line 0 ended failed rule
push_holds tells t kept start phase ahead old line sent ended failed rule held none is = record {
  under_way = held.under_way;
  within = omega arith;
  over = held.over;
  sound = record {
    waits = held.sound.waits;
    kept = held.sound.kept;
    ahead = held.sound.ahead;
    lines = λ h.
        let P : List ℕ → Type 0 = λ u. IsLines (t.sent ++ u) u in
        let before : IsLines (t.sent ++ []) [] = subst P none (held.sound.lines h) in
        let Q : List ℕ → Type 0 = λ s. IsLines s [] in
        line_behind t.sent line (subst Q (append-nil t.sent) before) is;
    ended = held.sound.ended;
    fits = held.sound.fits;
  };
}
