use Rattle.std.proofs.Common.{ℕ, ◌≤◌, ◌<◌, drop}
use Rattle.ftp_list.specs.Rows.{Fits}
use Rattle.ftp_list.proofs.ends.first_stand.Given as goal

abbrev pub invariant-loop-place : goal.invariant-loop-place
invariant-loop-place l = (p n : ℕ) → l.first ≤ p → p < l.place → Fits l.shape (drop p l.text) n → ⊥
