-- Lemmas on what goes out.
use Rattle.std.proofs.Common.{◌≡◌, ℕ, List, [], ◌++◌, take, drop, Ok, refl, ap, sym, ◌∙◌, subst, append_assoc}
use Rattle.std.specs.declared.io.ErrorKind.{ErrorKind}
use Rattle.futures.specs.declared.task.Poll.TheVariants.{Ready}
use Rattle.std.proofs.lemmas.List.{take-append-drop}
use Rattle.ftp_transport.specs.Told.{Told, Fits, HasFailed, after_write, before_fault}
use Rattle.ftp_control.specs.Sending.{Flushes}

-- bytes went out
pub record SentSoFar (tells : Type 0) (unsent unsent' : List ℕ) (t u : Told) : Type 0 where
  pub part : List ℕ
  pub split : unsent ≡ part ++ unsent'
  pub told : tells → u ≡ after_write part t
  pub fits : tells → Fits t → Fits u

module _ (tells : Type 0) (unsent now : List ℕ) (t u : Told) (so_far : SentSoFar tells unsent now t u) where
  -- more bytes go out
  pub more_sent : (count : ℕ) (later : List ℕ) (v : Told) → later ≡ drop count now → (tells → (v ≡ after_write (take count now) u) × (Fits u → Fits v)) → SentSoFar tells unsent later t v
  more_sent count later v is told = record {
    part = so_far.part ++ take count now;
    split = so_far.split ∙ rw (is, append_assoc, take-append-drop);
    told = λ h. (told h).0 ∙ rw (so_far.told h, append_assoc);
    fits = λ h f. (told h).1 (so_far.fits h f);
  }

  pub all_sent : now ≡ [] → Flushes tells unsent now t u (Ok (Ready tt))
  all_sent none = record { part = so_far.part; split = so_far.split; leaves = none; told = so_far.told; fits = so_far.fits }

  -- the record before a write that failed
  pub before_failure : (kind : ErrorKind) (v : Told) → tells → HasFailed kind u v → u ≡ before_fault t v
  before_failure kind v h failed =
      let F : Told → Told = before_fault t in
      let counts : u ≡ before_fault t u = (let P : Told → Type 0 = λ x. x ≡ before_fault t x in subst P (sym (so_far.told h)) refl) in
      counts ∙ sym (ap F failed.same)
