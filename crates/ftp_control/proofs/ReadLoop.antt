-- Lemmas on the read loop: piece by piece, after whatever was read before.
use Rattle.std.proofs.Common.{◌≡◌, ℕ, ◌+◌, ◌-◌, ◌≤◌, ◌<◌, Bool, true, false, cond, not, List, [], ◌++◌, length, Ok, Err, refl, ap, sym, ◌∙◌, append_assoc, append-nil, length-append, subst, arith}
use Rattle.std.specs.declared.io.ErrorKind.{ErrorKind}
use Rattle.futures.specs.declared.task.Poll.TheVariants.{Ready}
use Rattle.ftp_control.specs.declared.control.broken.Broken.TheVariants.{Connection, OutOfMemory}
use Rattle.ftp_control.specs.declared.control.outcome.Outcome.{Outcome}
use Rattle.ftp_control.specs.declared.control.outcome.Outcome.TheVariants.{Ended, Waits}
use Rattle.ftp_transport.specs.Told.{Told, HasFailed, after_read, after_end}
use Rattle.ftp_control.specs.Reading.{after_input, GoesOn}
use Rattle.ftp_control.specs.Grammar.{reply_limit}
use Rattle.ftp_control.specs.Inside.Ahead.{Fills}
use Rattle.ftp_control.specs.Inside.ReadLoop.{Takes, ReadsSought}

-- what was looked at so far, where it says nothing yet
pub record LooksSoFar (says : List ℕ → Bool → Outcome) (kept kept' ahead ahead' : List ℕ) : Type 0 where
  pub split : kept ++ ahead ≡ kept' ++ ahead'
  pub past : length ahead' ≤ length ahead
  pub waits : says kept false ≡ Waits → says kept' false ≡ Waits

module _ (says : List ℕ → Bool → Outcome) (kept now ahead left : List ℕ) (so_far : LooksSoFar says kept now ahead left) where
  -- there is no room for a piece more
  pub lacks_memory : Takes says kept now ahead left (Err OutOfMemory)
  lacks_memory = record {
    taken = now;
    split = so_far.split;
    past = so_far.past;
    all = refl;
    none = λ w. let clash : Err OutOfMemory ≡ Ok Waits = w in cc;
    goes_on = λ e. let clash : Err OutOfMemory ≡ Ok Ended = e in cc;
    answer = λ w. tt;
    still = so_far.waits;
  }

-- what was read so far, where what was looked at says nothing yet
pub record SoFar (tells : Type 0) (says : List ℕ → Bool → Outcome) (kept kept' ahead ahead' : List ℕ) (first ended : Bool) (t u : Told) : Type 0 where
  pub came : List ℕ
  pub over : GoesOn first came ended
  pub split : (kept ++ ahead) ++ came ≡ kept' ++ ahead'
  pub past : length ahead' ≤ length ahead + length came
  pub at_end : ended ≡ true → ahead' ≡ []
  pub waits : says kept false ≡ Waits → says kept' false ≡ Waits
  pub told : tells → u ≡ after_input came ended t

pub nothing_so_far : (tells : Type 0) (says : List ℕ → Bool → Outcome) (kept ahead : List ℕ) (ended : Bool) (t : Told) → (tells → t.ended ≡ ended) → (ended ≡ true → ahead ≡ []) → SoFar tells says kept kept ahead ahead ended ended t t
nothing_so_far tells says kept ahead ended t known over = record {
  came = [];
  over = record { nothing = λ e. refl; over = λ e. e };
  split = append-nil (kept ++ ahead);
  past = omega arith;
  at_end = over;
  waits = λ w. w;
  told = λ h. rw (append-nil t.received, ← known h);
}

-- where the input hadn't ended, anything may come
goes_on : (first : Bool) (came more : List ℕ) (later : Bool) → GoesOn first came false → GoesOn first more later
goes_on first came more later so_far = record {
  nothing = λ e. let clash : false ≡ true = so_far.over e in cc;
  over = λ e. let clash : false ≡ true = so_far.over e in cc;
}

module _ (tells : Type 0) (says : List ℕ → Bool → Outcome) (kept now later ahead left after : List ℕ) (first : Bool) (t u : Told) (so_far : SoFar tells says kept now ahead left first false t u) where
  module _ (looks : Takes says now later left after (Ok Waits)) where
    -- all that lay ahead was looked at
    looked_at : (kept ++ ahead) ++ so_far.came ≡ later
    looked_at = so_far.split ∙ looks.split ∙ ap (λ l. looks.taken ++ l) (looks.none refl) ∙ append-nil looks.taken ∙ sym looks.all

    still_waits : says kept false ≡ Waits → says later false ≡ Waits
    still_waits w = rw looks.all (sym (looks.answer (so_far.waits w)))

    -- more bytes came
    pub more_comes : (more : List ℕ) (v : Told) → (tells → v ≡ after_read more u) → SoFar tells says kept later ahead more first false t v
    more_comes more v told = record {
      came = so_far.came ++ more;
      over = goes_on first so_far.came (so_far.came ++ more) false so_far.over;
      split = sym (append_assoc (kept ++ ahead) so_far.came more) ∙ ap (λ l. l ++ more) looked_at;
      past = rw (length-append so_far.came more) (omega arith);
      at_end = λ e. let clash : false ≡ true = e in cc;
      waits = still_waits;
      told = λ h. told h ∙ rw (so_far.told h, append_assoc);
    }

    -- the end came
    pub end_comes : (v : Told) → (tells → v ≡ after_end u) → SoFar tells says kept later ahead [] first true t v
    end_comes v told = record {
      came = so_far.came;
      over = goes_on first so_far.came so_far.came true so_far.over;
      split = looked_at ∙ sym (append-nil later);
      past = omega arith;
      at_end = λ e. refl;
      waits = still_waits;
      told = λ h. told h ∙ rw (so_far.told h);
    }

    -- the read fails, and nothing is lost
    pub fails_hears : (kind : ErrorKind) (v : Told) → (tells → HasFailed kind u v) → ReadsSought tells says kept later ahead [] first false t v (Err (Connection kind))
    fails_hears kind v told = record {
      came = so_far.came;
      taken = later;
      split = looked_at ∙ sym (append-nil later);
      past = omega arith;
      over = so_far.over;
      unended = λ w. refl;
      none = λ w. refl;
      at_end = λ e. refl;
      last = λ e. let clash : Err (Connection kind) ≡ Ok Ended = e in cc;
      all = refl;
      answer = λ w. tt;
      still = still_waits;
      told = λ h. let P : Told → Type 0 = λ x. HasFailed kind x v in subst P (so_far.told h) (told h);
    }

    -- the connection was read
    pub fills_on : (any : Bool) (new : List ℕ) (v : Told) → Fills tells (Ok (Ready any)) new u v → SoFar tells says kept later ahead new first (not any) t v
    fills_on true new v fills = more_comes new v fills.told
    fills_on false new v fills = let P : List ℕ → Type 0 = λ l. SoFar tells says kept later ahead l first true t v in subst P (sym fills.leaves) (end_comes v fills.told)

    -- it couldn't be
    pub fill_fails : (kind : ErrorKind) (new : List ℕ) (v : Told) → Fills tells (Err kind) new u v → ReadsSought tells says kept later ahead new first false t v (Err (Connection kind))
    fill_fails kind new v fills = let P : List ℕ → Type 0 = λ l. ReadsSought tells says kept later ahead l first false t v (Err (Connection kind)) in subst P (sym fills.leaves) (fails_hears kind v fills.told)

-- what is kept and ahead has grown, or the input has ended
pub fill_smaller : (any : Bool) (before after came : ℕ) → before ≡ after → after ≤ reply_limit → came ≤ 8192 → (any ≡ true → 0 < came) → cond (not any) 0 (270337 - (after + came)) < 270337 - before
fill_smaller true before after came same fits bound some = omega (arith, same, fits, bound, some refl)
fill_smaller false before after came same fits bound some = omega (arith, same, fits)

-- bytes came
pub some_came : (tells : Type 0) (any : Bool) (new : List ℕ) (t u : Told) → Fills tells (Ok (Ready any)) new t u → any ≡ true → 0 < length new
some_came tells true new t u fills is = fills.leaves
some_came tells false new t u fills is = let clash : false ≡ true = is in cc

-- the connection's record knows whether it has ended
pub fill_known : (tells : Type 0) (any : Bool) (new : List ℕ) (t u : Told) → Fills tells (Ok (Ready any)) new t u → tells → t.ended ≡ false → u.ended ≡ not any
fill_known tells true new t u fills h before = ap (λ x. x.ended) (fills.told h) ∙ before
fill_known tells false new t u fills h before = ap (λ x. x.ended) (fills.told h)

pub none_came : (any : Bool) → not any ≡ true → any ≡ false
none_came true is = sym is
none_came false is = refl
