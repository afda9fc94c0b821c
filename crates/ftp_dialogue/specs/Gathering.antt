-- What a read adds to the bytes of a data connection.
use Rattle.std.specs.Prelude.{◌≡◌, ◌<◌, ◌≤◌, ℕ, List, ◌++◌, length}
use Rattle.futures.specs.declared.task.Poll.{Poll}
use Rattle.futures.specs.declared.task.Poll.TheVariants as poll
use Rattle.ftp_transport.specs.Told.{HasFailed, Told, after_end, after_read}
use Rattle.ftp_dialogue.specs.Dialogue.{chunk}
use Rattle.ftp_dialogue.specs.declared.gathered.More.{More}
use Rattle.ftp_dialogue.specs.declared.gathered.More.TheVariants as more

-- what a read added to the bytes of before
abbrev pub GrowsBy : Type 0 → List ℕ → List ℕ → Told → Told → Poll More → Type 0
GrowsBy tells all all' t u (poll.Ready more.Grew) = (bytes : List ℕ) × (all' ≡ all ++ bytes) × (0 < length bytes) × (length bytes ≤ chunk) × (tells → u ≡ after_read bytes t)
GrowsBy tells all all' t u (poll.Ready more.Ended) = (all' ≡ all) × (tells → u ≡ after_end t)
GrowsBy tells all all' t u (poll.Ready (more.Failed kind)) = tells → HasFailed kind t u
GrowsBy tells all all' t u (poll.Ready more.NoMemory) = tells → u ≡ t
GrowsBy tells all all' t u poll.Pending = (all' ≡ all) × (tells → u ≡ t)
