-- What contracts see of a file type.
use Rattle.std.specs.Prelude.{ℕ, Bool, true, false, List, Option, Some, None}
use Rattle.ftp_list.specs.declared.file_type.FileType.{FileType}
use Rattle.ftp_list.specs.declared.file_type.FileType.TheVariants.{Directory, File, Symlink}

-- whether it is a directory
abbrev pub is_directory : FileType → Bool
is_directory Directory = true
is_directory File = false
is_directory (Symlink target) = false

-- whether it is an ordinary file
abbrev pub is_file : FileType → Bool
is_file Directory = false
is_file File = true
is_file (Symlink target) = false

-- whether it is a link
abbrev pub is_symlink : FileType → Bool
is_symlink Directory = false
is_symlink File = false
is_symlink (Symlink target) = true

-- the target of a link
abbrev pub target_of : FileType → Option (List ℕ)
target_of Directory = None
target_of File = None
target_of (Symlink target) = Some target
