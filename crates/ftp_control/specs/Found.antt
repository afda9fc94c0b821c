-- What lines hold: a reply's bytes and its code; a first line that opens none; or too little.
use Rattle.std.specs.Prelude.{ℕ, List, ◌++◌}
use Rattle.ftp_control.specs.declared.plain.Found.{Found}
use Rattle.ftp_control.specs.declared.plain.Found.TheVariants.{Reply, NoReply, Unfinished}

-- a line before what is found behind it
abbrev pub after_line : List ℕ → Found → Found
after_line line (Reply bytes code) = Reply (line ++ bytes) code
after_line line (NoReply other) = NoReply other
after_line line Unfinished = Unfinished
