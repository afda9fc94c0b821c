-- The encoding of texts on the control connection, as two functions of their argument: RFC 2640, section 2.
use Rattle.std.specs.Prelude.{ℕ, List, Option, Some, None, Result, Ok}
use Rattle.std.specs.Str.Lossy.{utf8_lossy}
use Rattle.std.specs.declared.io.ErrorKind.{ErrorKind}

-- the text that bytes stand for, and the bytes that stand for a text, or the kind of error where there are none
pub record Coding : Type 0 where
  pub decode : List ℕ → List ℕ
  pub encode : List ℕ → Result (List ℕ) ErrorKind

abbrev pub coding_of : {E : Type 0} → (E → List ℕ → List ℕ) → (E → List ℕ → Result (List ℕ) ErrorKind) → E → Coding
coding_of decoded encoded encoding = record { decode = decoded encoding; encode = encoded encoding }

-- the encoding that was set, or UTF-8, read lossily
abbrev pub decoded_by : {E : Type 0} → (E → List ℕ → List ℕ) → Option E → List ℕ → List ℕ
decoded_by decoded None bytes = utf8_lossy bytes
decoded_by decoded (Some encoding) bytes = decoded encoding bytes

abbrev pub encoded_by : {E : Type 0} → (E → List ℕ → Result (List ℕ) ErrorKind) → Option E → List ℕ → Result (List ℕ) ErrorKind
encoded_by encoded None text = Ok text
encoded_by encoded (Some encoding) text = encoded encoding text

abbrev pub chosen : {E : Type 0} → (E → List ℕ → List ℕ) → (E → List ℕ → Result (List ℕ) ErrorKind) → Option E → Coding
chosen decoded encoded encoding = record { decode = decoded_by decoded encoding; encode = encoded_by encoded encoding }
