-- The calls of a script, as its lines write them.
use Rattle.std.specs.Prelude.{ℕ, Bool, true, false, ◌==◌, nat_eq, nat_le, bytes_eq, List, [], ◌∷◌, length, drop, codes, Option, Some, None, if◌then◌else◌}
use Rattle.std.specs.List.{starts_with, list_all, slice_split}
use Rattle.std.specs.Option.{option_or}
use Rattle.ftp_base.specs.declared.status.Status.TheVariants.{CommandOk}
use Rattle.ftp_base.specs.declared.types.mode.Mode.TheVariants.{ExtendedPassive}
use Rattle.ftp_base.specs.Scan.{number_up_to}
use Rattle.ftp_calls.specs.declared.call.Call.{Call}
use Rattle.ftp_calls.specs.declared.call.Call.TheVariants.{Noop, Resync, Quit, Pwd, Feat, Cwd, Size, CustomCommand, Login, ResumeTransfer, Retr, List as Listing, Set, Finish}
use Rattle.ftp_calls.specs.declared.call.Setting.TheVariants.{LenientReplies, Mode as OfMode, PassiveNatWorkaround}
use Rattle.ftp_script.specs.Escapes.{unescaped}

-- bytes that are ASCII
abbrev pub ascii_only : Option (List ℕ) → Option (List ℕ)
ascii_only None = None
ascii_only (Some bytes) = if list_all (λ byte. nat_le byte 127) bytes then Some bytes else None

-- the text that an argument of a call writes
abbrev pub text_of : List ℕ → Option (List ℕ)
text_of argument = ascii_only (unescaped argument)

-- a call without arguments
abbrev pub call_named : List ℕ → Option Call
call_named name =
    if bytes_eq name (codes "noop") then Some Noop
    else (if bytes_eq name (codes "resync") then Some Resync
    else (if bytes_eq name (codes "quit") then Some Quit
    else (if bytes_eq name (codes "pwd") then Some Pwd
    else (if bytes_eq name (codes "feat") then Some Feat
    else (if bytes_eq name (codes "list") then Some (Listing None)
    else (if bytes_eq name (codes "finish") then Some Finish
    else None))))))

-- a setting
abbrev pub setting_named : List ℕ → Option Call
setting_named name =
    if bytes_eq name (codes "nat on") then Some (Set (PassiveNatWorkaround true))
    else (if bytes_eq name (codes "nat off") then Some (Set (PassiveNatWorkaround false))
    else (if bytes_eq name (codes "lenient on") then Some (Set (LenientReplies true))
    else (if bytes_eq name (codes "lenient off") then Some (Set (LenientReplies false))
    else (if bytes_eq name (codes "epsv") then Some (Set (OfMode ExtendedPassive))
    else None))))

abbrev pub cwd_of : Option (List ℕ) → Option Call
cwd_of None = None
cwd_of (Some path) = Some (Cwd path)

abbrev pub size_call_of : Option (List ℕ) → Option Call
size_call_of None = None
size_call_of (Some path) = Some (Size path)

abbrev pub retr_of : Option (List ℕ) → Option Call
retr_of None = None
retr_of (Some path) = Some (Retr path)

abbrev pub custom_of : Option (List ℕ) → Option Call
custom_of None = None
custom_of (Some line) = Some (CustomCommand line (CommandOk ∷ []))

abbrev pub resume_at : Option ℕ → Option Call
resume_at None = None
resume_at (Some offset) = Some (ResumeTransfer offset)

-- an offset below 2^64
abbrev pub resume_of : Option (List ℕ) → Option Call
resume_of None = None
resume_of (Some digits) = resume_at (number_up_to 18446744073709551615 digits)

abbrev pub user_of : Option (List ℕ) → Option (List ℕ) → Option Call
user_of None password = None
user_of (Some user) None = None
user_of (Some user) (Some password) = Some (Login user password)

abbrev pub is_blank : ℕ → Bool
is_blank byte = byte == 32

-- a user and a password, neither of them empty; escapes are read in each word
abbrev pub pair_of : List ℕ → List ℕ → Option Call
pair_of user password =
    if nat_eq (length user) 0 then None
    else (if nat_eq (length password) 0 then None else user_of (text_of user) (text_of password))

-- two words
abbrev pub words_of : List (List ℕ) → Option Call
words_of [] = None
words_of (user ∷ []) = None
words_of (user ∷ password ∷ []) = pair_of user password
words_of (user ∷ password ∷ other ∷ words) = None

-- a login: two words with one blank between them
abbrev pub login_of : List ℕ → Option Call
login_of words = words_of (slice_split is_blank words)

-- a call with arguments: its name, a blank and these
abbrev pub call_with : List ℕ → Option Call
call_with words =
    if starts_with nat_eq words (codes "cwd ") then cwd_of (text_of (drop 4 words))
    else (if starts_with nat_eq words (codes "size ") then size_call_of (text_of (drop 5 words))
    else (if starts_with nat_eq words (codes "retr ") then retr_of (text_of (drop 5 words))
    else (if starts_with nat_eq words (codes "custom ") then custom_of (text_of (drop 7 words))
    else (if starts_with nat_eq words (codes "resume ") then resume_of (text_of (drop 7 words))
    else (if starts_with nat_eq words (codes "login ") then login_of (drop 6 words)
    else None)))))

-- the call of a line
unfoldable pub call_of : List ℕ → Option Call
call_of words = option_or (call_named words) (option_or (setting_named words) (call_with words))
