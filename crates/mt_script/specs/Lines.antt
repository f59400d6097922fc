-- The lines of a text.
use Rattle.std.specs.Prelude.{◌≢◌, ℕ, ◌==◌, if◌then◌else◌, List, [], ◌∷◌, ◌++◌, All}
use Rattle.std.specs.List.{onto_first}

-- A line ends at each byte 10, and bytes that no byte 10 follows are one more line.
abbrev pub lines_of : List ℕ → List (List ℕ)
lines_of [] = []
lines_of (byte ∷ rest) = if byte == 10 then [] ∷ lines_of rest else onto_first byte (lines_of rest)

-- lines one after the other, each with a byte 10 behind it
abbrev pub ended : List (List ℕ) → List ℕ
ended [] = []
ended (line ∷ rest) = line ++ 10 ∷ ended rest

-- a byte stands nowhere among others
abbrev pub Lacks : ℕ → List ℕ → Type 0
Lacks byte bytes = All (λ other. other ≢ byte) bytes
