-- A run of the read loop is a read of the channel, and leaves what its contract says.
use Rattle.std.proofs.Common.{◌≡◌, ℕ, ◌+◌, ◌<◌, Bool, true, false, ◌||◌, List, [], ◌∷◌, ◌++◌, length, drop, Result, Ok, Err, refl, ap, sym, ◌∙◌, subst, append-nil, append_assoc, length-append, arith}
use Rattle.std.proofs.Math.Seq.{drop-append_seam}
use Rattle.ftp_control.specs.declared.control.rule.ReplyRule.{ReplyRule}
use Rattle.ftp_control.specs.declared.control.form.ReplyForm.{ReplyForm}
use Rattle.ftp_control.specs.declared.control.broken.Broken.{Broken}
use Rattle.ftp_control.specs.declared.control.outcome.Outcome.{Outcome}
use Rattle.ftp_control.specs.declared.control.outcome.Outcome.TheVariants.{Whole, Bad, TooLarge, Ended, Waits}
use Rattle.ftp_control.specs.Grammar.{outcome, line_outcome, whole_lines, reply_limit}
use Rattle.ftp_control.specs.Reading.{AnswersOutcome, GoesOn}
use Rattle.ftp_control.specs.Inside.ReadLoop.{StillWaits, TakesAll, ReadsSought}
use Rattle.ftp_control.specs.Channel.{Channel, untaken, fails_by, LeavesBytes, StaysSettled, TakesSome, ReadsReply, ReadsLine}
use Rattle.ftp_control.proofs.Law.{answer_stays, line_answer_stays}
use Rattle.ftp_control.proofs.Outcomes.{line_waits_on}

-- bytes without so many that they begin with
left_after : (count : ℕ) (taken left : List ℕ) → count ≡ length taken → drop count (taken ++ left) ≡ left
left_after count taken left is = ap (λ n. drop n (taken ++ left)) is ∙ drop-append_seam taken left

leaves_bytes : (result : Result Outcome Broken) (taken : List ℕ) (new : Channel) → (result ≡ Ok Waits → new.ahead ≡ []) → (result ≡ Ok Ended → new.ahead ≡ []) → TakesAll result taken new.kept → LeavesBytes result (taken ++ new.ahead) new
leaves_bytes (Ok (Whole reply code)) taken new waits ends all = (all.1, sym (left_after (length reply) taken new.ahead (ap length all.0)))
leaves_bytes (Ok (Bad line)) taken new waits ends all = (all.1, sym (left_after (length line) taken new.ahead (ap length all.0)))
leaves_bytes (Ok TooLarge) taken new waits ends all = (all.1, sym (left_after (reply_limit + 1) taken new.ahead (sym all.0)))
leaves_bytes (Ok Ended) taken new waits ends all = (all, ends refl)
leaves_bytes (Ok Waits) taken new waits ends all = (all ∙ sym (ap (λ l. taken ++ l) (waits refl) ∙ append-nil taken), waits refl)
leaves_bytes (Err broken) taken new waits ends all = ap (λ k. k ++ new.ahead) all

-- what is settled leaves what comes later, too
later_left : (count : ℕ) (taken left more : List ℕ) → count ≡ length taken → drop count ((taken ++ left) ++ more) ≡ left ++ more
later_left count taken left more is = ap (drop count) (append_assoc taken left more) ∙ left_after count taken (left ++ more) is

-- the input goes on after what lies ahead
on_after : (ended : Bool) (left more : List ℕ) (e : Bool) → (ended ≡ true → left ≡ []) → GoesOn ended more e → GoesOn ended (left ++ more) e
on_after ended left more e none on = record { nothing = λ is. rw (none is, on.nothing is); over = on.over }

-- the channel's bytes after a settled read: nothing is kept
only_ahead : (new : Channel) → new.kept ≡ [] → untaken new ≡ new.ahead
only_ahead new none = ap (λ k. k ++ new.ahead) none

module _ (rule : ReplyRule) (form : ReplyForm) (taken : List ℕ) (ended : Bool) (new : Channel) (at_end : ended ≡ true → new.ahead ≡ []) where
  stays_by : (heard : Outcome) → (heard ≡ Waits → ⊥) → heard ≡ outcome rule form taken ended → (more : List ℕ) (e : Bool) → GoesOn ended more e → outcome rule form ((taken ++ new.ahead) ++ more) e ≡ heard
  stays_by heard settled is more e on = rw (append_assoc taken new.ahead more) (answer_stays rule form taken ended heard settled is (new.ahead ++ more) e (on_after ended new.ahead more e at_end on))

  stays_settled : (result : Result Outcome Broken) → (result ≡ Ok Ended → ended ≡ true) → TakesAll result taken new.kept → AnswersOutcome result (outcome rule form taken ended) → StaysSettled result (outcome rule form) (taken ++ new.ahead) (untaken new) ended
  stays_settled (Ok (Whole reply code)) last all is = λ more e on. (
    stays_by (Whole reply code) (λ w. let clash : Whole reply code ≡ Waits = w in cc) is more e on,
    later_left (length reply) taken new.ahead more (ap length all.0) ∙ ap (λ l. l ++ more) (sym (only_ahead new all.1)),
  )
  stays_settled (Ok (Bad line)) last all is = λ more e on. (
    stays_by (Bad line) (λ w. let clash : Bad line ≡ Waits = w in cc) is more e on,
    later_left (length line) taken new.ahead more (ap length all.0) ∙ ap (λ l. l ++ more) (sym (only_ahead new all.1)),
  )
  stays_settled (Ok TooLarge) last all is = λ more e on. (
    stays_by TooLarge (λ w. let clash : TooLarge ≡ Waits = w in cc) is more e on,
    later_left (reply_limit + 1) taken new.ahead more (sym all.0) ∙ ap (λ l. l ++ more) (sym (only_ahead new all.1)),
  )
  stays_settled (Ok Ended) last all is = λ more e on. (
    stays_by Ended (λ w. let clash : Ended ≡ Waits = w in cc) is more e on,
    sym (ap (λ l. l ++ more) (only_ahead new all ∙ at_end (last refl)) ∙ on.nothing (last refl)),
  )
  stays_settled (Ok Waits) last all is = tt
  stays_settled (Err broken) last all is = tt

  -- what is said of the bytes that were taken is said of all
  answers_all : (result : Result Outcome Broken) → (result ≡ Ok Waits → new.ahead ≡ []) → AnswersOutcome result (outcome rule form taken ended) → AnswersOutcome result (outcome rule form (taken ++ new.ahead) ended)
  answers_all (Ok (Whole reply code)) waits is = by (Whole reply code) (λ w. let clash : Whole reply code ≡ Waits = w in cc) is
    where
      by : (heard : Outcome) → (heard ≡ Waits → ⊥) → heard ≡ outcome rule form taken ended → heard ≡ outcome rule form (taken ++ new.ahead) ended
      by heard settled is = sym (answer_stays rule form taken ended heard settled is new.ahead ended (record { nothing = at_end; over = λ e. e }))
  answers_all (Ok (Bad line)) waits is = sym (answer_stays rule form taken ended (Bad line) (λ w. let clash : Bad line ≡ Waits = w in cc) is new.ahead ended (record { nothing = at_end; over = λ e. e }))
  answers_all (Ok TooLarge) waits is = sym (answer_stays rule form taken ended TooLarge (λ w. let clash : TooLarge ≡ Waits = w in cc) is new.ahead ended (record { nothing = at_end; over = λ e. e }))
  answers_all (Ok Ended) waits is = sym (answer_stays rule form taken ended Ended (λ w. let clash : Ended ≡ Waits = w in cc) is new.ahead ended (record { nothing = at_end; over = λ e. e }))
  answers_all (Ok Waits) waits is = is ∙ ap (λ bytes. outcome rule form bytes ended) (sym (ap (λ l. taken ++ l) (waits refl) ∙ append-nil taken))
  answers_all (Err broken) waits is = tt

-- nothing settles nothing
empty_clash : (rule : ReplyRule) (form : ReplyForm) (ended : Bool) (heard : Outcome) → heard ≡ outcome rule form [] ended → (heard ≡ Ended → ⊥) → (heard ≡ Waits → ⊥) → ⊥
unfolding outcome
empty_clash rule form true heard is other waits = other is
empty_clash rule form false heard is other waits = waits is

some_taken : (taken left whole : List ℕ) → whole ≡ left → (taken ≡ [] → ⊥) → length whole < length (taken ++ left)
some_taken [] left whole is some = absurd (some refl)
some_taken (b ∷ taken) left whole is some = rw (is, length-append (b ∷ taken) left) (omega arith)

takes_some : (rule : ReplyRule) (form : ReplyForm) (taken : List ℕ) (ended : Bool) (new : Channel) (result : Result Outcome Broken) → TakesAll result taken new.kept → AnswersOutcome result (outcome rule form taken ended) → TakesSome result (taken ++ new.ahead) (untaken new)
takes_some rule form taken ended new (Ok (Whole reply code)) all is =
    some_taken taken new.ahead (untaken new) (only_ahead new all.1) (λ e. let P : List ℕ → Type 0 = λ bs. Whole reply code ≡ outcome rule form bs ended in empty_clash rule form ended (Whole reply code) (subst P e is) (λ w. let clash : Whole reply code ≡ Ended = w in cc) (λ w. let clash : Whole reply code ≡ Waits = w in cc))
takes_some rule form taken ended new (Ok (Bad line)) all is =
    some_taken taken new.ahead (untaken new) (only_ahead new all.1) (λ e. let P : List ℕ → Type 0 = λ bs. Bad line ≡ outcome rule form bs ended in empty_clash rule form ended (Bad line) (subst P e is) (λ w. let clash : Bad line ≡ Ended = w in cc) (λ w. let clash : Bad line ≡ Waits = w in cc))
takes_some rule form taken ended new (Ok TooLarge) all is =
    some_taken taken new.ahead (untaken new) (only_ahead new all.1) (λ e. let none : length taken ≡ 0 = ap length e in omega (arith, all.0, none))
takes_some rule form taken ended new (Ok Ended) all is = tt
takes_some rule form taken ended new (Ok Waits) all is = tt
takes_some rule form taken ended new (Err broken) all is = tt

-- of what is settled nothing is kept, and what is kept of anything else says nothing yet
nothing_waits : (rule : ReplyRule) (form : ReplyForm) (kept : List ℕ) → kept ≡ [] → outcome rule form kept false ≡ Waits
unfolding outcome
nothing_waits rule form kept none = rw none refl

kept_waits : (rule : ReplyRule) (form : ReplyForm) (old taken kept : List ℕ) (ended : Bool) (result : Result Outcome Broken) → outcome rule form old false ≡ Waits → (result ≡ Ok Waits → ended ≡ false) → TakesAll result taken kept → AnswersOutcome result (outcome rule form taken ended) → StillWaits result (outcome rule form) old kept → outcome rule form kept false ≡ Waits
kept_waits rule form old taken kept ended (Ok (Whole reply code)) was unended all is still = nothing_waits rule form kept all.1
kept_waits rule form old taken kept ended (Ok (Bad line)) was unended all is still = nothing_waits rule form kept all.1
kept_waits rule form old taken kept ended (Ok TooLarge) was unended all is still = nothing_waits rule form kept all.1
kept_waits rule form old taken kept ended (Ok Ended) was unended all is still = nothing_waits rule form kept all
kept_waits rule form old taken kept ended (Ok Waits) was unended all is still = ap (λ bytes. outcome rule form bytes false) all ∙ ap (λ e. outcome rule form taken e) (sym (unended refl)) ∙ sym is
kept_waits rule form old taken kept ended (Err broken) was unended all is still = still was

-- what is said of the bytes that a line took is said of all
answers_line : (taken : List ℕ) (ended : Bool) (new : Channel) → (ended ≡ true → new.ahead ≡ []) → (result : Result Outcome Broken) → (result ≡ Ok Waits → new.ahead ≡ []) → AnswersOutcome result (line_outcome taken ended) → AnswersOutcome result (line_outcome (taken ++ new.ahead) ended)
answers_line taken ended new at_end (Ok (Whole reply code)) waits is = sym (line_answer_stays taken ended (Whole reply code) (λ w. let clash : Whole reply code ≡ Waits = w in cc) is new.ahead ended (record { nothing = at_end; over = λ e. e }))
answers_line taken ended new at_end (Ok (Bad line)) waits is = sym (line_answer_stays taken ended (Bad line) (λ w. let clash : Bad line ≡ Waits = w in cc) is new.ahead ended (record { nothing = at_end; over = λ e. e }))
answers_line taken ended new at_end (Ok TooLarge) waits is = sym (line_answer_stays taken ended TooLarge (λ w. let clash : TooLarge ≡ Waits = w in cc) is new.ahead ended (record { nothing = at_end; over = λ e. e }))
answers_line taken ended new at_end (Ok Ended) waits is = sym (line_answer_stays taken ended Ended (λ w. let clash : Ended ≡ Waits = w in cc) is new.ahead ended (record { nothing = at_end; over = λ e. e }))
answers_line taken ended new at_end (Ok Waits) waits is = is ∙ ap (λ bytes. line_outcome bytes ended) (sym (ap (λ l. taken ++ l) (waits refl) ∙ append-nil taken))
answers_line taken ended new at_end (Err broken) waits is = tt

module _ (tells : Type 0) (old new : Channel) (result : Result Outcome Broken) (same : new ≡ record old { told = new.told; kept = new.kept; ahead = new.ahead; ended = new.ended; failed = old.failed || fails_by result }) where
  -- a read of a reply
  pub reads_reply : (form : ReplyForm) → ReadsSought tells (outcome old.rule form) old.kept new.kept old.ahead new.ahead old.ended new.ended old.told new.told result → ReadsReply tells form old new result
  reads_reply form heard =
      record {
        came = heard.came;
        over = heard.over;
        unended = heard.unended;
        leaves = let P : List ℕ → Type 0 = λ bs. LeavesBytes result bs new in subst P (sym heard.split) (leaves_bytes result heard.taken new heard.none (λ e. heard.at_end (heard.last e)) heard.all);
        past = heard.past;
        takes = λ w. let P : List ℕ → Type 0 = λ bs. TakesSome result bs (untaken new) in subst P (sym heard.split) (takes_some old.rule form heard.taken new.ended new result heard.all (heard.answer w));
        answer = λ w. let P : List ℕ → Type 0 = λ bs. AnswersOutcome result (outcome old.rule form bs new.ended) in subst P (sym heard.split) (answers_all old.rule form heard.taken new.ended new heard.at_end result heard.none (heard.answer w));
        stays = λ w. let P : List ℕ → Type 0 = λ bs. StaysSettled result (outcome old.rule form) bs (untaken new) new.ended in subst P (sym heard.split) (stays_settled old.rule form heard.taken new.ended new heard.at_end result heard.last heard.all (heard.answer w));
        last = λ w. heard.last;
        under_way = λ w. kept_waits old.rule form old.kept heard.taken new.kept new.ended result w heard.unended heard.all (heard.answer w) heard.still;
        told = heard.told;
        same = same;
      }

  -- a read of one line
  pub reads_line : (form : ReplyForm) → outcome old.rule form old.kept false ≡ Waits → whole_lines old.kept ≡ [] → ReadsSought tells line_outcome old.kept new.kept old.ahead new.ahead old.ended new.ended old.told new.told result → ReadsLine tells old new result
  reads_line form waits none heard =
      record {
        came = heard.came;
        over = heard.over;
        unended = heard.unended;
        leaves = let P : List ℕ → Type 0 = λ bs. LeavesBytes result bs new in subst P (sym heard.split) (leaves_bytes result heard.taken new heard.none (λ e. heard.at_end (heard.last e)) heard.all);
        answer = let P : List ℕ → Type 0 = λ bs. AnswersOutcome result (line_outcome bs new.ended) in subst P (sym heard.split) (answers_line heard.taken new.ended new heard.at_end result heard.none (heard.answer (line_waits_on old.rule form old.kept waits none)));
        told = heard.told;
        same = same;
      }
