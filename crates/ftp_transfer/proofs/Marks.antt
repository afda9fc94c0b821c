-- Each step at the word of a mark keeps its rule.
use Rattle.std.proofs.Common.{◌≡◌, ◌≢◌, ◌⊎◌, ℕ, zero, suc, ◌+◌, ◌<◌, List, [], ◌∷◌, ◌++◌, length, set, Bool, true, false, true≢false, refl, sym, ap, ◌∙◌, subst, ⊎_elim, inl, inr, arith}
use Rattle.std.specs.Prelude.{slice_index, slice_index_or, slice_set, Contains}
use Rattle.atomic_table.specs.Table.{Me, Allows, Splits, step}
use Rattle.atomic_table.specs.Table.Act.{keeps}
use Rattle.atomic_table.proofs.Lists.{at_set, at_snoc, set_again}
use Rattle.ftp_transfer.specs.Mark.{Agrees, IsMark, Loads, Stores, live_among, live_loads, onlooker, owner, saw}
use Rattle.ftp_transfer.specs.declared.mark.word.View.{View}
use lib.ListN.{get_elem?}
use mathlib.Core.Option.{none, some, some-ne-none, some-injective}

off : false ≡ true → ⊥
off e = true≢false (sym e)

nowhere : Contains [] true → ⊥
nowhere c = let below : c.0 < 0 = c.1 in absurd (omega arith)

seen_at : (x : Bool) (xs : List Bool) (k : ℕ) → k < length (x ∷ xs) → slice_index_or (x ∷ xs) k true ≡ true → (x ≡ true) ⊎ Contains xs true
seen_at x xs zero below e = inl e
seen_at x xs (suc k) below e = inr (k, omega arith, e)

-- what was seen after a load was loaded, or seen before
seen_before : (x : Bool) (xs : List Bool) → Contains (x ∷ xs) true → (x ≡ true) ⊎ Contains xs true
seen_before x xs c = seen_at x xs c.0 c.1 c.2

-- a view that has found the transfer live as often as before leaves the number as it was
live_set : (views : List View) (by : ℕ) (v w : View) → get_elem? views by ≡ some v → live_among w.seen ≡ live_among v.seen → live_loads (set views by w) ≡ live_loads views
live_set [] by v w at same = refl
live_set (x ∷ xs) zero v w at same = ap (λ n. n + live_loads xs) (same ∙ ap (λ (u : View). live_among u.seen) (sym (some-injective _ _ at)))
live_set (x ∷ xs) (suc by) v w at same = ap (λ n. live_among x.seen + n) (live_set xs by v w at same)

live_snoc : (views : List View) → live_loads (views ++ onlooker ∷ []) ≡ live_loads views
live_snoc [] = refl
live_snoc (x ∷ xs) = ap (λ n. live_among x.seen + n) (live_snoc xs)

agrees_set : (transfer : ℕ) (left : Bool) (live : ℕ) (views : List View) (by : ℕ) (w : View) → ((j : ℕ) (u : View) → j ≢ by → get_elem? views j ≡ some u → Agrees transfer left live j u) → Agrees transfer left live by w → (j : ℕ) (u : View) → get_elem? (set views by w) j ≡ some u → Agrees transfer left live j u
agrees_set transfer left live views by w others mine j u e =
    ⊎_elim
    (λ (x : (j ≡ by) × (w ≡ u)). subst (λ (y : ℕ × View). Agrees transfer left live y.0 y.1) (λ i. (sym x.0 i, x.1 i)) mine)
    (λ (x : (j ≢ by) × (get_elem? views j ≡ some u)). others j u x.0 x.1)
    (at_set views by j w u e)

pub begins : IsMark (record { words = 0 ∷ []; homes = []; views = owner ∷ [] })
begins = (0, false, 0, refl, (λ e. absurd (off e)), one)
  where
    one : (seat : ℕ) (v : View) → get_elem? (owner ∷ []) seat ≡ some v → Agrees 0 false 0 seat v
    one zero v e = subst (Agrees 0 false 0 0) (some-injective _ _ e) ((λ _. (refl, refl, refl)), (λ c. absurd (nowhere c)))
    one (suc seat) v e = absurd (some-ne-none v (sym e))

pub loads : (slots id : ℕ) (me : Me (Unit {0}) View) → Allows IsMark slots id me 0 (λ n. n) (Loads (step slots 0 0 0 none) me)
loads slots id me s h sized at fits =
    let left : Bool = h.1 in
    let mine = h.5 id me.0 at in
    let w : View = saw left me.0 in (
      w,
      keeps,
      tt,
      (
        h.0,
        left,
        h.2,
        ap (λ ws. slice_set ws 0 (slice_index ws 0)) h.3,
        (λ e. live_set s.views id me.0 w at (ap (λ (b : Bool). live_among (b ∷ me.0.seen)) e) ∙ h.4 e),
        agrees_set h.0 left h.2 s.views id w (λ j u _ e. h.5 j u e) (mine.0, (λ c. ⊎_elim (λ (e : left ≡ true). e) mine.1 (seen_before left me.0.seen c))),
      ),
      (left, ap (λ ws. slice_index ws 0) h.3, refl, (λ owns. sym (mine.0 owns).1), mine.1),
    )

pub stores : (slots id : ℕ) (me : Me (Unit {0}) View) → me.0.owns ≡ true → Allows IsMark slots id me 0 (λ _. 1) (λ _. Stores (step slots 0 1 0 none) me 1)
stores slots id me owns s h sized at fits =
    let mine = (h.5 id me.0 at).0 owns in
    let live : ℕ = live_loads s.views in
    let w : View = record me.0 { stored = true; live_loads = live } in (
      w,
      keeps,
      tt,
      (
        h.0,
        true,
        live,
        ap (λ ws. slice_set ws 0 1) h.3,
        (λ _. live_set s.views id me.0 w at refl),
        agrees_set h.0 true live s.views id w
            (λ j u apart e. ((λ o. absurd (apart (((h.5 j u e).0 o).0 ∙ sym mine.0))), (λ _. refl)))
            ((λ _. (mine.0, refl, refl)), (λ _. refl)),
      ),
      (refl, refl, refl),
    )

pub splits : (id : ℕ) (v : View) → Splits IsMark id v v onlooker
splits id v s h at = (
  h.0,
  h.1,
  h.2,
  h.3,
  λ e. live_snoc (set s.views id v) ∙ live_set s.views id v v at refl ∙ h.4 e,
  λ j u e. ⊎_elim
      (λ was. h.5 j u (subst (λ l. get_elem? l j ≡ some u) (set_again s.views id v at) was))
      (λ (same : onlooker ≡ u). subst (Agrees h.0 h.1 h.2 j) same ((λ o. absurd (off o)), (λ c. absurd (nowhere c))))
      (at_snoc (set s.views id v) onlooker u j e),
)
