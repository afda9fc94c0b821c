-- Lemmas on calls that are dropped.
use Rattle.std.proofs.Common.{◌≡◌, ◌&&◌, ◌||◌, not, Bool, true, false, Option, Some, None, inl, inr, refl, ap}
use Rattle.ftp_calls.specs.declared.call.Call.{Call}
use Rattle.ftp_calls.specs.declared.call.Call.TheVariants.{Finish, Abort}
use Rattle.ftp_calls.specs.Exchanges.{aborts, finishes, is_read}
use Rattle.ftp_runs.specs.Script.{drops_begun, MayCancel}

-- a call that brings a transfer to its end, and aborts none
pub finish_is : (call : Call) → finishes call ≡ true → aborts call ≡ false → call ≡ Finish
finish_is Finish ends on = refl
finish_is Abort ends on = let clash : true ≡ false = on in cc
finish_is other ends on = let clash : false ≡ true = ends in cc

-- where no reply of it is due it may be dropped
pub may_drop : (call : Call) (polled : Bool) → drops_begun (Some call) polled ≡ false → MayCancel (Some call) polled
may_drop call false free = inl refl
may_drop call true free = go (is_read call) (finishes call) (aborts call) refl refl refl free
  where
    go : (r f a : Bool) → is_read call ≡ r → finishes call ≡ f → aborts call ≡ a → not (r || (f && not a)) ≡ false → MayCancel (Some call) true
    go true f a read ends on none = inr (inl read)
    go false true false read ends on none = inr (inr (finish_is call ends on))
    go false true true read ends on none = let clash : true ≡ false = none in cc
    go false false a read ends on none = let clash : true ≡ false = none in cc

-- and so it leaves none where it may be
pub may_free : (call : Option Call) (polled : Bool) → MayCancel call polled → drops_begun call polled ≡ false
may_free None polled may = refl
may_free (Some call) polled (inl new) = ap (λ p. p && not (is_read call || (finishes call && not (aborts call)))) new
may_free (Some call) polled (inr (inl read)) = go polled (ap (λ r. not (r || (finishes call && not (aborts call)))) read)
  where
    go : (p : Bool) → {b : Bool} → b ≡ false → (p && b) ≡ false
    go true none = none
    go false none = refl
may_free (Some call) polled (inr (inr is)) = go polled (ap (λ c. not (is_read c || (finishes c && not (aborts c)))) is)
  where
    go : (p : Bool) → {b : Bool} → b ≡ false → (p && b) ≡ false
    go true none = none
    go false none = refl
