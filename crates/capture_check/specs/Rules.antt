-- The rules of a capture, by their numbers, and what a capture is judged to be by the first of them.
use Rattle.std.specs.Prelude.{◌≡◌, ℕ, ◌+◌, ◌<◌, ◌≤◌, List, ◌∷◌, ◌++◌, length}
use Rattle.capture_check.specs.declared.entry.Entry.{Entry}
use Rattle.capture_check.specs.declared.judgement.Judgement.{Judgement}
use Rattle.capture_check.specs.declared.judgement.Judgement.TheVariants.{Holds, Breaks}
use Rattle.capture_check.specs.Numbers.{CountsUp, NamesOut, IsTimely}
use Rattle.capture_check.specs.Layouts.{IsReadable}
use Rattle.capture_check.specs.Messages.{WasSent}
use Rattle.capture_check.specs.Tellings.{TellsWhatCame}
use Rattle.capture_check.specs.MainFrames.{FramesMain}
use Rattle.capture_check.specs.Requests.{AsksForTunnel}

-- the rules, by what they speak of
pub data Rule : Type 0 where
  Numbering : Rule
  Naming : Rule
  Lateness : Rule
  Layouts : Rule
  Messages : Rule
  Tellings : Rule
  Framing : Rule
  Asking : Rule

abbrev pub number_of : Rule → ℕ
number_of Numbering = 1
number_of Naming = 2
number_of Lateness = 3
number_of Layouts = 4
number_of Messages = 5
number_of Tellings = 6
number_of Framing = 7
number_of Asking = 8

-- what a rule asks of an entry, from it and the entries before it
abbrev pub Asks : Rule → List Entry → Entry → Type 0
Asks Numbering before entry = CountsUp before entry
Asks Naming before entry = NamesOut before entry
Asks Lateness before entry = IsTimely before entry
Asks Layouts before entry = IsReadable before entry
Asks Messages before entry = WasSent before entry
Asks Tellings before entry = TellsWhatCame before entry
Asks Framing before entry = FramesMain before entry
Asks Asking before entry = AsksForTunnel before entry

-- an entry keeps the rules up to this number
abbrev pub Keeps : ℕ → List Entry → Entry → Type 0
Keeps most before entry = (rule : Rule) → number_of rule ≤ most → Asks rule before entry

-- each entry does
abbrev pub Hold : ℕ → List Entry → Type 0
Hold most entries =
    (before : List Entry) (entry : Entry) (after : List Entry)
    → entries ≡ before ++ entry ∷ after → Keeps most before entry

-- the least of the rules up to this number that an entry breaks
pub record BreaksRule (most : ℕ) (before : List Entry) (entry : Entry) (number : ℕ) : Type 0 where
  pub rule : Rule
  pub number_is : number ≡ number_of rule
  pub within : number_of rule ≤ most
  pub broken : ¬ Asks rule before entry
  pub least : (lower : Rule) → number_of lower < number_of rule → Asks lower before entry

-- the first entry that breaks a rule stands in this line, counted from 1, and breaks this one
pub record FirstBreak (most : ℕ) (entries : List Entry) (line number : ℕ) : Type 0 where
  pub before : List Entry
  pub entry : Entry
  pub after : List Entry
  pub parts : entries ≡ before ++ entry ∷ after
  pub kept : Hold most before
  pub breaks : BreaksRule most before entry number
  pub line_is : line ≡ length before + 1

-- what a capture is judged to be by the rules up to this number
abbrev pub Judged : ℕ → List Entry → Judgement → Type 0
Judged most entries Holds = Hold most entries
Judged most entries (Breaks line number) = FirstBreak most entries line number
