-- Byte 255 on the control connection: RFC 854, 'the data byte 255 is sent as two'.
use Rattle.std.specs.Prelude.{ℕ, List, [], ◌∷◌, ◌==◌, ◌&&◌, if◌then◌else◌}
use Rattle.std.specs.List.{flat_map}

-- interpret as command, the byte that begins a Telnet command
abbrev pub interpret_as_command : ℕ
interpret_as_command = 255

-- each byte 255 doubled
abbrev pub escaped : List ℕ → List ℕ
escaped bytes = flat_map (λ b. if b == interpret_as_command then b ∷ b ∷ [] else b ∷ []) bytes

-- each pair of bytes 255, found from the left, made one
abbrev pub unescaped : List ℕ → List ℕ
unescaped [] = []
unescaped (a ∷ []) = a ∷ []
unescaped (a ∷ b ∷ bytes) =
    if (a == interpret_as_command) && (b == interpret_as_command) then a ∷ unescaped bytes else a ∷ unescaped (b ∷ bytes)
