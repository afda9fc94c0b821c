-- The table, from one shape to one more.
use Rattle.std.proofs.Common.{◌≡◌, ℕ, ◌+◌, ◌-◌, ◌<◌, ◌≤◌, Bool, List, [], ◌∷◌, ◌++◌, length, drop, get_or, sym, ◌∙◌, ap, arith, subst, inl, inr}
use Rattle.std.specs.Prelude.{◌⊎◌}
use Rattle.std.specs.declared.vec.Vec.{Vec}
use Rattle.std.specs.declared.alloc.Global.{Global}
use Rattle.std.proofs.lemmas.Bool.{cases_lt}
use Rattle.std.proofs.lemmas.List.{get_or_append_left, get_or_push, length_push, drop_more}
use Rattle.ftp_list.specs.declared.shape.Shape.{Shape}
use Rattle.ftp_list.specs.Rows.{TellsAll, IsTable}

at_more : (rows : List (Vec Bool Global)) (last : Vec Bool Global) (shapes : List Shape) (text : List ℕ) → length last.items ≡ length text + 1 → TellsAll last.items (drop (length shapes - length rows) shapes) text → IsTable rows shapes text → (k : ℕ) (row : Vec Bool Global) → k < length rows + 1 → row ≡ get_or (rows ++ last ∷ []) k row → (k < length rows) ⊎ (length rows ≤ k) → (length row.items ≡ length text + 1) × TellsAll row.items (drop (length shapes - k) shapes) text
at_more rows last shapes text size told table k row h e (inl lt) = table.at k row lt (e ∙ get_or_append_left rows (last ∷ []) row k lt)
at_more rows last shapes text size told table k row h e (inr le) =
    let here : length rows ≡ k = omega arith in
    let is_last : row ≡ last = e ∙ get_or_push rows last row k here in
    let last_told : TellsAll last.items (drop (length shapes - k) shapes) text = subst (λ n. TellsAll last.items (drop (length shapes - n) shapes) text) here told in
    rw is_last (size, last_told)

-- one row more
pub table_more : (rows more : List (Vec Bool Global)) (last : Vec Bool Global) (shapes : List Shape) (text : List ℕ) (n : ℕ) → length rows ≡ n → more ≡ rows ++ last ∷ [] → length last.items ≡ length text + 1 → TellsAll last.items (drop (length shapes - n) shapes) text → IsTable rows shapes text → IsTable more shapes text
table_more rows more last shapes text n count pushed size told table =
    let last_told : TellsAll last.items (drop (length shapes - length rows) shapes) text = subst (λ k. TellsAll last.items (drop (length shapes - k) shapes) text) (sym count) told in
    record {
      at = λ k row lt e.
          let grown : length more ≡ length rows + 1 = ap length pushed ∙ length_push rows last in
          at_more rows last shapes text size last_told table k row (omega arith) (e ∙ ap (λ (rs : List (Vec Bool Global)). get_or rs k row) pushed) (cases_lt k (length rows));
    }

-- the shapes from one place on are the shape there and those behind it
pub shapes_from : (shapes : List Shape) (k : ℕ) (d : Shape) → 1 ≤ k → k ≤ length shapes → drop (length shapes - k) shapes ≡ get_or shapes (length shapes - k) d ∷ drop (length shapes - (k - 1)) shapes
shapes_from shapes k d least most =
    let place : (length shapes - k) + 1 ≡ length shapes - (k - 1) = omega arith in
    drop_more shapes (length shapes - k) d (omega arith) ∙ ap (λ n. get_or shapes (length shapes - k) d ∷ drop n shapes) place
