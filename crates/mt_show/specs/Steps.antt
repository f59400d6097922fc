-- The steps of showing: what a line was read as, and what each step adds to the output.
use Rattle.std.specs.Prelude.{◌≡◌, ℕ, List, [], ◌∷◌, ◌++◌, Option, Some, None, Result, Ok, Err}
use Rattle.mt_show.specs.declared.asked.Asked.{Asked}
use Rattle.mt_show.specs.declared.refusal.ShowRefusal.{ShowRefusal}
use Rattle.mt_show.specs.declared.refusal.ShowRefusal.TheVariants.{BadLine, TooManyLines, NoMemory}
use Rattle.mt_show.specs.Grammar.{first_word, spelled, IsAsked, Breaks}
use Rattle.mt_show.specs.Answer.{Answers, Shown}

-- what a line asks for, or it breaks the grammar
abbrev pub Asks : List ℕ → Option Asked → Type 0
Asks line None = Breaks line
Asks line (Some asked) = IsAsked asked × (line ≡ spelled asked)

-- words, each with this byte before it
abbrev pub behind : ℕ → List (List ℕ) → List ℕ
behind byte [] = []
behind byte (word ∷ words) = byte ∷ word ++ behind byte words

-- the output got these bytes at its end
abbrev pub Adds : List ℕ → List ℕ → List ℕ → Type 0
Adds bytes old new = new ≡ old ++ bytes

-- the output got these words, each behind a blank
abbrev pub AddsWords : List (List ℕ) → List ℕ → List ℕ → Type 0
AddsWords words old new = Adds (behind 32 words) old new

-- the output got what is shown of what was asked for: a first word, and words behind it
pub record AddsShown (asked : Asked) (old new : List ℕ) : Type 0 where
  pub words : List (List ℕ)
  pub shown : Shown asked words
  pub added : Adds (first_word asked ++ behind 32 words) old new

-- and the end of the line
abbrev pub AddsAnswer : Asked → List ℕ → List ℕ → Type 0
AddsAnswer asked old new =
    (words : List (List ℕ)) × Shown asked words × Adds (first_word asked ++ behind 32 words ++ 10 ∷ []) old new

-- The output got the answer to a line and its end; or the line, whose number is given, is refused.
abbrev pub AddsLine : List ℕ → ℕ → List ℕ → List ℕ → Result (Unit {0}) ShowRefusal → Type 0
AddsLine line number old new (Ok done) =
    (answer : List ℕ) × Answers line answer × Adds (answer ++ 10 ∷ []) old new
AddsLine line number old new (Err (BadLine n)) = (n ≡ number) × Breaks line
AddsLine line number old new (Err (TooManyLines limit)) = ⊥
AddsLine line number old new (Err NoMemory) = Unit {0}
