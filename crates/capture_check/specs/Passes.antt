-- What one pass over a capture finds, for one rule, and what it makes of the judgement so far.
use Rattle.std.specs.Prelude.{◌≡◌, ℕ, ◌+◌, ◌-◌, ◌≤◌, List, ◌∷◌, ◌++◌, length, take, Option, Some, None}
use Rattle.capture_check.specs.declared.entry.Entry.{Entry}
use Rattle.capture_check.specs.declared.judgement.Judgement.{Judgement}
use Rattle.capture_check.specs.declared.judgement.Judgement.TheVariants.{Holds, Breaks}
use Rattle.capture_check.specs.Rules.{Rule, Asks}

-- each entry keeps a rule
abbrev pub Obey : Rule → List Entry → Type 0
Obey rule entries =
    (before : List Entry) (entry : Entry) (after : List Entry)
    → entries ≡ before ++ entry ∷ after → Asks rule before entry

-- the first entry that breaks a rule stands in this line, counted from 1
pub record FirstAgainst (rule : Rule) (entries : List Entry) (line : ℕ) : Type 0 where
  pub before : List Entry
  pub entry : Entry
  pub after : List Entry
  pub parts : entries ≡ before ++ entry ∷ after
  pub kept : Obey rule before
  pub broken : ¬ Asks rule before entry
  pub line_is : line ≡ length before + 1

-- what a pass finds: that line, or that there is none
abbrev pub Finds : Rule → List Entry → Option ℕ → Type 0
Finds rule entries None = Obey rule entries
Finds rule entries (Some line) = FirstAgainst rule entries line

-- the entries that were not judged to break a rule: those before the line that does
abbrev pub unbroken : List Entry → Judgement → List Entry
unbroken entries Holds = entries
unbroken entries (Breaks line number) = take (line - 1) entries

-- a judgement after a pass over these entries for a further rule
abbrev pub with_found : Judgement → ℕ → Option ℕ → Judgement
with_found judgement number None = judgement
with_found judgement number (Some line) = Breaks line number

-- a judgement names a line that is there
abbrev pub IsWithin : ℕ → Judgement → Type 0
IsWithin lines Holds = Unit {0}
IsWithin lines (Breaks line number) = (1 ≤ line) × (line ≤ lines)
