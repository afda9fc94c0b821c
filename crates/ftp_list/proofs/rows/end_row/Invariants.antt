use Rattle.std.proofs.Common.{◌≡◌, ℕ, ◌+◌, ◌<◌, length, true, false}
use Rattle.std.specs.Prelude.{slice_index_or}
use Rattle.ftp_list.proofs.rows.end_row.Given as goal

abbrev pub invariant-loop-i : goal.invariant-loop-i
invariant-loop-i l =
    (length l.row.items ≡ l._i + 1)
    × (slice_index_or l.row.items 0 false ≡ true)
    × ((j : ℕ) → 0 < j → slice_index_or l.row.items j false ≡ false)
