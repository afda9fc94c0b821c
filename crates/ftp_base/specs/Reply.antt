-- Replies: RFC 959, section 4.2.
use Rattle.std.specs.Prelude.{ℕ, ◌-◌, ◌==◌, Bool, false, List, [], ◌∷◌, ◌++◌, length, take, Option, Some, None, codes, if◌then◌else◌, unwrap_or}
use Rattle.std.specs.List.{list_any}
use Rattle.std.specs.Str.{is_utf8, trim_end}
use Rattle.std.specs.Fmt.{decimal}
use Rattle.ftp_base.specs.declared.types.reply.Response.{Response}
use Rattle.ftp_base.specs.declared.types.reply.BodyError.{BodyError}
use Rattle.ftp_base.specs.declared.types.reply.BodyError.TheVariants.{NotUtf8, OutOfMemory}
use Rattle.ftp_base.specs.Status.{code_of}

-- bytes as text, white space cut at the end, where they are UTF-8
abbrev pub strict_text : List ℕ → Option (List ℕ)
strict_text bytes = if is_utf8 bytes then Some (trim_end bytes) else None

-- how a reply is printed: [code] and the text, empty where it has none
abbrev pub printed_reply : Response → List ℕ
printed_reply reply = codes "[" ++ decimal (code_of reply.status) ++ codes "] " ++ unwrap_or (strict_text reply.body) []

-- what follows the last LF
unfoldable pub after_feeds : List ℕ → List ℕ
after_feeds [] = []
after_feeds (b ∷ bytes) = if list_any (λ c. c == 10) (b ∷ bytes) then after_feeds bytes else b ∷ bytes

-- the line that ended a reply, without its last byte
abbrev pub ending_line : List ℕ → List ℕ
ending_line body = after_feeds (take (length body - 1) body)

abbrev pub begins_with_one : List ℕ → Bool
begins_with_one [] = false
begins_with_one (digit ∷ line) = digit == 49

-- the first digit of its code is 1, so that another reply follows: section 4.2.1
unfoldable pub is_preliminary : Response → Bool
is_preliminary reply = begins_with_one (ending_line reply.body)

-- the text of an error
abbrev pub body_error_text : BodyError → List ℕ
body_error_text NotUtf8 = codes "the reply is not UTF-8"
body_error_text OutOfMemory = codes "out of memory"
