-- Lemmas on calls that are made one after another.
use Rattle.std.proofs.Common.{Result, Ok, Err, OnOk, drop, ◌≡◌, ℕ, List, [], ◌∷◌, ◌++◌, refl, sym, ap, subst, ◌∙◌, append_assoc, append-nil, length, get_or, arith}
use Rattle.ftp_transport.specs.declared.request.Asked.{Asked}
use Rattle.ftp_calls.specs.declared.call.Answer.{Answer}
use Rattle.ftp_calls.specs.declared.call.Call.{Call}
use Rattle.ftp_runs.specs.Runs.{Runs}
use Rattle.ftp_dialogue.specs.State.{SessionValue}
use Rattle.ftp_script.specs.Playing.{Makes, MakesOne, memory, utf8}
use Rattle.ftp_script.specs.Shown.{call_text}

pub runs_same : (calls calls' : List Call) (old new : SessionValue) (answers answers' : List Answer) → calls ≡ calls' → answers ≡ answers' → Runs memory utf8 calls old new answers → Runs memory utf8 calls' old new answers'
runs_same calls calls' old new answers answers' es ea r =
    subst (λ a. Runs memory utf8 calls' old new a) ea (subst (λ s. Runs memory utf8 s old new answers) es r)

-- one call more
pub Makes-snoc : (calls : List Call) (call : Call) (old middle new : SessionValue) (text made : List ℕ) → Makes calls old middle text → MakesOne call middle new made → Makes (calls ++ call ∷ []) old new (text ++ made)
Makes-snoc [] call old middle new text made none one =
    (new, made, [], ap (λ t. t ++ made) none.1 ∙ sym (append-nil made), subst (λ m. MakesOne call m new made) none.0 one, (refl, refl))
Makes-snoc (c ∷ calls) call old middle new text made makes one =
    let (m, first, later, is, first_one, others) = makes in
    (m, first, later ++ made, ap (λ t. t ++ made) is ∙ append_assoc first later made, first_one, Makes-snoc calls call m middle new later made others one)

pub Makes-same : (calls calls' : List Call) (old new : SessionValue) (text text' : List ℕ) → calls ≡ calls' → text ≡ text' → Makes calls old new text → Makes calls' old new text'
Makes-same calls calls' old new text text' es et m = subst (λ t. Makes calls' old new t) et (subst (λ s. Makes s old new text) es m)

-- the one item of a list
pub only_item : (answers : List Answer) (d : Answer) → length answers ≡ 1 → answers ≡ get_or answers 0 d ∷ []
only_item [] d one = absurd (omega (arith, one))
only_item (a ∷ []) d one = refl
only_item (a ∷ b ∷ others) d one = absurd (omega (arith, one))

-- what a call that was made added
pub made_one : {E : Type 0} (r : Result (Unit {0}) E) (call : Call) (old new : SessionValue) (answer : Answer) (sent : List ℕ) (asked : List Asked) (before after : List ℕ) →
    sent ≡ drop (length old.channel.told.sent) new.channel.told.sent → asked ≡ drop (length old.net.asked) new.net.asked → Runs memory utf8 (call ∷ []) old new (answer ∷ [])
    → OnOk r (after ≡ before ++ call_text sent asked answer) → OnOk r ((made : List ℕ) × (after ≡ before ++ made) × MakesOne call old new made)
made_one (Ok done) call old new answer sent asked before after sent_is asked_is runs grown =
    let is = ap (λ s. call_text s asked answer) sent_is ∙ ap (λ a. call_text (drop (length old.channel.told.sent) new.channel.told.sent) a answer) asked_is in
    (call_text sent asked answer, grown, record { answer = answer; runs = runs; is = is })
made_one (Err cause) call old new answer sent asked before after sent_is asked_is runs grown = tt
