-- The words of a call, and the command that they are.
use Rattle.std.specs.Prelude.{◌≡◌, ◌⊎◌, ℕ, List, [], ◌∷◌, ◌++◌, codes, map, string_bytes}
use Rattle.std.specs.declared.string.String.{String}
use Rattle.std.specs.Global.{Global}

-- the words of a call, as bytes
abbrev pub words_of : List (String Global) → List (List ℕ)
words_of words = map string_bytes words

-- a word that begins with `-`
abbrev pub IsOption : List ℕ → Type 0
IsOption [] = ⊥
IsOption (first ∷ rest) = first ≡ 45

-- the words are `play` and the name of a script, which is no option
pub record IsPlay (words : List (List ℕ)) (script : List ℕ) : Type 0 where
  pub words_are : words ≡ codes "play" ∷ script ∷ []
  pub no_option : ¬ IsOption script

-- the words are `show` and the name of a show file, which is no option
pub record IsShow (words : List (List ℕ)) (file : List ℕ) : Type 0 where
  pub words_are : words ≡ codes "show" ∷ file ∷ []
  pub no_option : ¬ IsOption file

-- the words are `check` and the name of a capture, which is no option
pub record IsCheck (words : List (List ℕ)) (capture : List ℕ) : Type 0 where
  pub words_are : words ≡ codes "check" ∷ capture ∷ []
  pub no_option : ¬ IsOption capture

-- the words are those of a command that reads the file of this name
abbrev pub AsksFor : List (List ℕ) → List ℕ → Type 0
AsksFor words name = IsPlay words name ⊎ IsShow words name ⊎ IsCheck words name

-- the words of a command
abbrev pub IsCommand : List (List ℕ) → Type 0
IsCommand words = (name : List ℕ) × AsksFor words name

-- what is printed where the words are not those of a command
abbrev pub usage_line : List ℕ
usage_line = codes "usage: rdpmt play SCRIPT [CAPTURE] | serve PORT FILE.. | connect PORT FILE.. | show FILE | check CAPTURE | bulk N K" ++ 10 ∷ []
