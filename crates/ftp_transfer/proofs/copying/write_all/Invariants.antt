use Rattle.std.proofs.Common.{◌≡◌, ◌++◌, ℕ, List, length}
use Rattle.ftp_transfer.specs.Copying.{Wrote}
use Rattle.ftp_transfer.proofs.copying.write_all.Given as goal

-- a front of the bytes was written
abbrev pub invariant-loop-rest : goal.invariant-loop-rest
invariant-loop-rest g l = (done : List ℕ) × (l.fn.bytes ≡ done ++ l.rest) × Wrote g.C.Tells.tells done l.fn.transfer l.transfer

abbrev pub decreases-loop-rest : goal.decreases-loop-rest
decreases-loop-rest g l = length l.rest
