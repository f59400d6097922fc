-- What lines mean, and what a whole script is.
use Rattle.std.specs.Prelude.{◌≡◌, ◌≢◌, ℕ, ◌+◌, ◌<◌, ◌≤◌, ◌==◌, List, [], ◌∷◌, ◌++◌, length, codes, Contains, Option, Some, None, Result, Ok, Err}
use Rattle.std.specs.List.{before_first}
use Rattle.mt_script.specs.declared.event.Event.{Event}
use Rattle.mt_script.specs.declared.event.Line.{Line}
use Rattle.mt_script.specs.declared.event.ScriptRefusal.{ScriptRefusal}
use Rattle.mt_script.specs.declared.event.ScriptRefusal.TheVariants.{BadCommand, BadWords, TooManyLines, NoMemory}
use Rattle.mt_script.specs.Lines.{lines_of}
use Rattle.mt_script.specs.Spelling.{spelled, IsEvent}

-- the words that begin the lines of events
abbrev pub commands : List (List ℕ)
commands = codes "open" ∷ codes "send" ∷ codes "main" ∷ []

-- the bytes of a line before its first blank, or all of them
abbrev pub first_word : List ℕ → List ℕ
first_word line = before_first (λ byte. byte == 32) line

-- a line without effect: it is empty, or a comment, which begins with `#`
abbrev pub IsSkipped : List ℕ → Type 0
IsSkipped [] = Unit {0}
IsSkipped (first ∷ rest) = first ≡ 35

-- What a line means: an event or nothing, or why it is no line of a script.
pub data Meaning : Type 0 where
  Does : Option Event → Meaning
  UnknownCommand : Meaning
  WrongWords : Meaning

abbrev pub Means : List ℕ → Meaning → Type 0
Means line (Does None) = IsSkipped line
Means line (Does (Some event)) = IsEvent event × (line ≡ spelled event)
Means line UnknownCommand = ¬ IsSkipped line × ¬ Contains commands (first_word line)
Means line WrongWords =
    Contains commands (first_word line) × ((event : Event) → IsEvent event → line ≢ spelled event)

-- each line is good, and does what stands at its place
abbrev pub Do : List (List ℕ) → List (Option Event) → Type 0
Do [] [] = Unit {0}
Do (line ∷ lines) (does ∷ rest) = Means line (Does does) × Do lines rest
Do [] (does ∷ rest) = ⊥
Do (line ∷ lines) [] = ⊥

-- the events among what lines do, each with the number of its line; the first line has this number
abbrev pub numbered : ℕ → List (Option Event) → List Line
numbered number [] = []
numbered number (None ∷ rest) = numbered (number + 1) rest
numbered number (Some event ∷ rest) =
    record { event = event; number = number } ∷ numbered (number + 1) rest

-- the first line that is not good has this number and this meaning
pub record FirstFault (lines : List (List ℕ)) (number : ℕ) (fault : Meaning) : Type 0 where
  pub before : List (List ℕ)
  pub line : List ℕ
  pub after : List (List ℕ)
  pub does : List (Option Event)
  pub parts : lines ≡ before ++ line ∷ after
  pub good : Do before does
  pub bad : Means line fault
  pub number_is : number ≡ length before + 1

-- the most lines that a script has
abbrev pub line_limit : ℕ
line_limit = 4000000

-- a text has no more lines than that
abbrev pub IsShort : List ℕ → Type 0
IsShort text = length (lines_of text) ≤ line_limit

-- What a whole text is: its events in order, or its first fault. That it has too many lines is
-- looked at before its lines are.
abbrev pub ReadsAs : List ℕ → Result (List Line) ScriptRefusal → Type 0
ReadsAs text (Ok script) =
    IsShort text × (does : List (Option Event)) × Do (lines_of text) does × (script ≡ numbered 1 does)
ReadsAs text (Err (BadCommand number)) =
    IsShort text × FirstFault (lines_of text) number UnknownCommand
ReadsAs text (Err (BadWords number)) =
    IsShort text × FirstFault (lines_of text) number WrongWords
ReadsAs text (Err (TooManyLines limit)) =
    (limit ≡ line_limit) × (line_limit < length (lines_of text))
ReadsAs text (Err NoMemory) = ⊥

-- what reading answered is what the text is, where memory sufficed
abbrev pub Reads : List ℕ → Result (List Line) ScriptRefusal → Type 0
Reads text (Ok script) = ReadsAs text (Ok script)
Reads text (Err NoMemory) = Unit {0}
Reads text (Err refusal) = ReadsAs text (Err refusal)
