-- The greeting of a server: RFC 959, section 5.4 (220), and its text.
use Rattle.std.specs.Prelude.{ℕ, List}
use Rattle.std.specs.Str.{trim_end}
use Rattle.ftp_base.specs.Telnet.{unescaped}

-- a greeting's bytes, and the text that they were read as
pub record Welcome : Type 0 where
  pub greeting : List ℕ
  pub text : List ℕ

-- the text of a greeting: pairs of byte 255 made one, decoded, white space cut at the end
abbrev pub welcome_text : (List ℕ → List ℕ) → List ℕ → List ℕ
welcome_text decode greeting = trim_end (decode (unescaped greeting))
