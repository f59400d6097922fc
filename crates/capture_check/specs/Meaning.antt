-- What lines tell, and what a whole capture is.
use Rattle.std.specs.Prelude.{◌≡◌, ◌≢◌, ℕ, ◌+◌, ◌<◌, List, ◌∷◌, ◌++◌, length, map, All, Option, Some, None, Result, Ok, Err}
use Rattle.mt_script.specs.Lines.{lines_of}
use Rattle.mt_script.specs.Meaning.{IsShort, line_limit}
use Rattle.capture_check.specs.declared.entry.Entry.{Entry}
use Rattle.capture_check.specs.declared.entry.CaptureRefusal.{CaptureRefusal}
use Rattle.capture_check.specs.declared.entry.CaptureRefusal.TheVariants.{BadLine, TooManyLines, NoMemory}
use Rattle.capture_check.specs.Spelling.{spelled, IsEntry}

-- a line is that of the entry, or of none
abbrev pub Tells : List ℕ → Option Entry → Type 0
Tells line (Some entry) = IsEntry entry × (line ≡ spelled entry)
Tells line None = (entry : Entry) → IsEntry entry → line ≢ spelled entry

-- the first line that is no entry has this number
pub record FirstBad (lines : List (List ℕ)) (number : ℕ) : Type 0 where
  pub before : List Entry
  pub line : List ℕ
  pub after : List (List ℕ)
  pub good : All IsEntry before
  pub parts : lines ≡ map spelled before ++ line ∷ after
  pub bad : Tells line None
  pub number_is : number ≡ length before + 1

-- What a whole text is: its entries in order, one for each line, or its first line that is none.
-- That it has too many lines is looked at before its lines are.
abbrev pub ReadsAs : List ℕ → Result (List Entry) CaptureRefusal → Type 0
ReadsAs text (Ok entries) =
    IsShort text × All IsEntry entries × (lines_of text ≡ map spelled entries)
ReadsAs text (Err (BadLine number)) = IsShort text × FirstBad (lines_of text) number
ReadsAs text (Err (TooManyLines limit)) =
    (limit ≡ line_limit) × (line_limit < length (lines_of text))
ReadsAs text (Err NoMemory) = ⊥

-- what reading answered is what the text is, where memory sufficed
abbrev pub Reads : List ℕ → Result (List Entry) CaptureRefusal → Type 0
Reads text (Ok entries) = ReadsAs text (Ok entries)
Reads text (Err NoMemory) = Unit {0}
Reads text (Err refusal) = ReadsAs text (Err refusal)
