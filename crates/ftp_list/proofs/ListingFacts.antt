-- Answers of the parsers, from their steps.
use Rattle.std.proofs.Common.{◌≡◌, ℕ, List, subst, inr}
use Rattle.std.specs.Prelude.{ℤ, Result, Ok, Err}
use Rattle.ftp_list.specs.declared.error.ParseError.{ParseError}
use Rattle.ftp_list.specs.declared.error.ParseError.TheVariants.{SyntaxError, InvalidDate, BadSize, OutOfMemory}
use Rattle.ftp_list.specs.Entry.{Entry}
use Rattle.ftp_list.specs.Split.{IsGreatestSplit}
use Rattle.ftp_list.specs.Dates.{IsUtcYear, whole_second}
use Rattle.ftp_list.specs.Listing.{UnlessMemory, IsPosix, IsDos, posix_shapes, dos_shapes, posix_entry, dos_entry}

pub unless_memory_weaker : (P Q : Result Entry ParseError → Type 0) (r : Result Entry ParseError) → ((a : Result Entry ParseError) → P a → Q a) → UnlessMemory P r → UnlessMemory Q r
unless_memory_weaker P Q (Ok entry) f h = f (Ok entry) h
unless_memory_weaker P Q (Err SyntaxError) f h = f (Err SyntaxError) h
unless_memory_weaker P Q (Err InvalidDate) f h = f (Err InvalidDate) h
unless_memory_weaker P Q (Err BadSize) f h = f (Err BadSize) h
unless_memory_weaker P Q (Err OutOfMemory) f h = tt

-- the POSIX form, where there is a split
pub posix_answer : (text lengths : List ℕ) (nanosecond year second : ℤ) (r : Result Entry ParseError) → second ≡ whole_second nanosecond → IsUtcYear second year → IsGreatestSplit posix_shapes lengths text → UnlessMemory (λ a. a ≡ posix_entry year second lengths text) r → UnlessMemory (IsPosix text nanosecond) r
posix_answer text lengths nanosecond year second r e u g h =
    unless_memory_weaker (λ a. a ≡ posix_entry year second lengths text) (IsPosix text nanosecond) r
    (λ a is. inr (lengths, g, year, subst (λ (s : ℤ). IsUtcYear s year) e u, subst (λ (s : ℤ). a ≡ posix_entry year s lengths text) e is)) h

-- the DOS form, where there is a split
pub dos_answer : (text lengths : List ℕ) (r : Result Entry ParseError) → IsGreatestSplit dos_shapes lengths text → UnlessMemory (λ a. a ≡ dos_entry lengths text) r → UnlessMemory (IsDos text) r
dos_answer text lengths r g h =
    unless_memory_weaker (λ a. a ≡ dos_entry lengths text) (IsDos text) r (λ a is. inr (lengths, g, is)) h
