-- Lemmas on scripts, read line by line.
use Rattle.std.proofs.Common.{◌≡◌, ◌||◌, Bool, true, false, ℕ, ◌+◌, Some, None, Result, Ok, Err, List, [], ◌∷◌, ◌++◌, refl, sym, ap, ◌∙◌, append_assoc, append-nil}
use Rattle.ftp_calls.specs.declared.call.Call.{Call}
use Rattle.ftp_script.specs.declared.line.Line.{Line}
use Rattle.ftp_script.specs.declared.script.Script.{Script}
use Rattle.ftp_script.specs.declared.supplies.DataConn.{DataConn}
use Rattle.ftp_script.specs.Lines.{line_of}
use Rattle.ftp_script.specs.Script.{called, loosens, script_from, served, supplied, with_line}

-- a script of these parts
abbrev pub made : List ℕ → List DataConn → List Call → Bool → Script
made server data_conns calls lenient = record { server = server; data_conns = data_conns; calls = calls; lenient = lenient }

abbrev pub made_ok : List ℕ → List DataConn → List Call → Bool → Result Script ℕ
made_ok server data_conns calls lenient = Ok (made server data_conns calls lenient)

-- what was read before a script
abbrev pub after : List ℕ → List DataConn → List Call → Bool → Result Script ℕ → Result Script ℕ
after server data_conns calls lenient (Err number) = Err number
after server data_conns calls lenient (Ok script) = Ok (made (server ++ script.server) (data_conns ++ script.data_conns) (calls ++ script.calls) (lenient || script.lenient))

pub made_same : (server server' : List ℕ) (data_conns data_conns' : List DataConn) (calls calls' : List Call) (lenient lenient' : Bool) → server ≡ server' → data_conns ≡ data_conns' → calls ≡ calls' → lenient ≡ lenient' →
    made_ok server data_conns calls lenient ≡ made_ok server' data_conns' calls' lenient'
made_same server server' data_conns data_conns' calls calls' lenient lenient' s d c l =
    ap (λ x. made_ok x data_conns calls lenient) s ∙ ap (λ x. made_ok server' x calls lenient) d ∙ ap (λ x. made_ok server' data_conns' x lenient) c ∙ ap (λ x. made_ok server' data_conns' calls' x) l

or_assoc : (a b c : Bool) → (a || (b || c)) ≡ ((a || b) || c)
or_assoc true b c = refl
or_assoc false b c = refl

pub or-false : (a : Bool) → (a || false) ≡ a
or-false true = refl
or-false false = refl

pub after-nil : (script : Result Script ℕ) → script ≡ after [] [] [] false script
after-nil (Err number) = refl
after-nil (Ok script) = refl

-- a line that is understood was read
pub after-line : (server : List ℕ) (data_conns : List DataConn) (calls : List Call) (lenient : Bool) (number : ℕ) (line : Line) (later : Result Script ℕ) →
    after server data_conns calls lenient (with_line number (Some line) later) ≡ after (server ++ served line) (data_conns ++ supplied line) (calls ++ called line) (lenient || loosens line) later
after-line server data_conns calls lenient number line (Err n) = refl
after-line server data_conns calls lenient number line (Ok script) =
    made_same _ _ _ _ _ _ _ _ (sym (append_assoc server (served line) script.server)) (sym (append_assoc data_conns (supplied line) script.data_conns)) (sym (append_assoc calls (called line) script.calls)) (or_assoc lenient (loosens line) script.lenient)

pub from-cons : (number : ℕ) (line : List ℕ) (lines : List (List ℕ)) → script_from number (line ∷ lines) ≡ with_line number (line_of line) (script_from (number + 1) lines)
unfolding script_from
from-cons number line lines = refl

pub from-nil : (number : ℕ) → script_from number [] ≡ made_ok [] [] [] false
unfolding script_from
from-nil number = refl

-- a line that isn't understood
pub wrong-line : (server : List ℕ) (data_conns : List DataConn) (calls : List Call) (lenient : Bool) (number : ℕ) (line : List ℕ) (lines parts : List (List ℕ)) → parts ≡ line ∷ lines → line_of line ≡ None →
    after server data_conns calls lenient (script_from number parts) ≡ Err number
wrong-line server data_conns calls lenient number line lines parts is none =
    ap (λ p. after server data_conns calls lenient (script_from number p)) is ∙ ap (after server data_conns calls lenient) (from-cons number line lines)
    ∙ ap (λ l. after server data_conns calls lenient (with_line number l (script_from (number + 1) lines))) none

-- a line that is understood
pub right-line : (server server' : List ℕ) (data_conns data_conns' : List DataConn) (calls calls' : List Call) (lenient lenient' : Bool) (number : ℕ) (line : List ℕ) (said : Line) (lines parts : List (List ℕ)) →
    parts ≡ line ∷ lines → line_of line ≡ Some said → server' ≡ server ++ served said → data_conns' ≡ data_conns ++ supplied said → calls' ≡ calls ++ called said → lenient' ≡ (lenient || loosens said) →
    after server data_conns calls lenient (script_from number parts) ≡ after server' data_conns' calls' lenient' (script_from (number + 1) lines)
right-line server server' data_conns data_conns' calls calls' lenient lenient' number line said lines parts is some served_is supplied_is called_is lenient_is =
    ap (λ p. after server data_conns calls lenient (script_from number p)) is ∙ ap (after server data_conns calls lenient) (from-cons number line lines)
    ∙ ap (λ l. after server data_conns calls lenient (with_line number l (script_from (number + 1) lines))) some
    ∙ after-line server data_conns calls lenient number said (script_from (number + 1) lines)
    ∙ ap (λ s. after s (data_conns ++ supplied said) (calls ++ called said) (lenient || loosens said) (script_from (number + 1) lines)) (sym served_is)
    ∙ ap (λ d. after server' d (calls ++ called said) (lenient || loosens said) (script_from (number + 1) lines)) (sym supplied_is)
    ∙ ap (λ c. after server' data_conns' c (lenient || loosens said) (script_from (number + 1) lines)) (sym called_is)
    ∙ ap (λ l. after server' data_conns' calls' l (script_from (number + 1) lines)) (sym lenient_is)

-- the last line
pub last-line : (server server' : List ℕ) (data_conns data_conns' : List DataConn) (calls calls' : List Call) (lenient lenient' : Bool) (number : ℕ) (line : List ℕ) (said : Line) (parts : List (List ℕ)) →
    parts ≡ line ∷ [] → line_of line ≡ Some said → server' ≡ server ++ served said → data_conns' ≡ data_conns ++ supplied said → calls' ≡ calls ++ called said → lenient' ≡ (lenient || loosens said) →
    after server data_conns calls lenient (script_from number parts) ≡ made_ok server' data_conns' calls' lenient'
last-line server server' data_conns data_conns' calls calls' lenient lenient' number line said parts is some served_is supplied_is called_is lenient_is =
    right-line server server' data_conns data_conns' calls calls' lenient lenient' number line said [] parts is some served_is supplied_is called_is lenient_is
    ∙ ap (after server' data_conns' calls' lenient') (from-nil (number + 1))
    ∙ made_same _ _ _ _ _ _ _ _ (append-nil server') (append-nil data_conns') (append-nil calls') (or-false lenient')
