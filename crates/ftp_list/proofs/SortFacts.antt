-- What was read, sorted.
use Rattle.std.proofs.Common.{◌≡◌, Bool}
use Rattle.std.specs.Prelude.{Result, Ok, Err}
use Rattle.ftp_list.specs.declared.error.ParseError.{ParseError}
use Rattle.ftp_list.specs.declared.error.ParseError.TheVariants.{SyntaxError, InvalidDate, BadSize, OutOfMemory}
use Rattle.ftp_list.specs.declared.sorts.Sort.{Sort}
use Rattle.ftp_list.specs.Entry.{Entry}
use Rattle.ftp_list.specs.Listing.{UnlessMemory}
use Rattle.ftp_list.specs.Sorts.{IsSorted, read_sort}

-- the sort of what the line says, since no allocation failed
pub sort_is : (Says : Result Entry ParseError → Type 0) (around : Bool) (read : Result Entry ParseError) (sort : Sort) → UnlessMemory Says read → IsSorted around read sort → (said : Result Entry ParseError) × Says said × (sort ≡ read_sort around said)
sort_is Says around (Ok entry) sort h is = (Ok entry, h, is)
sort_is Says around (Err SyntaxError) sort h is = (Err SyntaxError, h, is)
sort_is Says around (Err InvalidDate) sort h is = (Err InvalidDate, h, is)
sort_is Says around (Err BadSize) sort h is = (Err BadSize, h, is)
sort_is Says around (Err OutOfMemory) sort h is = absurd is
