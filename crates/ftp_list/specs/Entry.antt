-- What contracts see of a file.
use Rattle.std.specs.Prelude.{ℕ, List, Option}
use Rattle.ftp_list.specs.declared.file_type.FileType.{FileType}
use Rattle.ftp_list.specs.declared.pex.PosixPex.{PosixPex}
use Rattle.ftp_list.specs.declared.pex.PosixPexQuery.{PosixPexQuery}
use Rattle.ftp_list.specs.declared.pex.PosixPexQuery.TheVariants.{Owner, Group, Others}

-- The time is a span since the Unix epoch.
pub record Entry : Type 0 where
  pub name : List ℕ
  pub file_type : FileType
  pub size : ℕ
  pub seconds : ℕ
  pub nanoseconds : ℕ
  pub uid : Option ℕ
  pub gid : Option ℕ
  pub owner : PosixPex
  pub group : PosixPex
  pub others : PosixPex

-- the permissions of one class of users
abbrev pub pex_at : Entry → PosixPexQuery → PosixPex
pex_at e Owner = e.owner
pex_at e Group = e.group
pex_at e Others = e.others
