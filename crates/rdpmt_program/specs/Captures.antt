-- What the text of a capture gives: that it keeps its rules, or the first line that breaks one.
use Rattle.std.specs.Prelude.{ℕ, List, [], ◌∷◌, ◌++◌, codes, Ok}
use Rattle.std.specs.Fmt.{decimal}
use Rattle.capture_check.specs.declared.entry.Entry.{Entry}
use Rattle.capture_check.specs.declared.judgement.Judgement.{Judgement}
use Rattle.capture_check.specs.Meaning.{ReadsAs}
use Rattle.capture_check.specs.Rules.{Judged}

-- what is printed of a capture that keeps its rules
abbrev pub holds_line : List ℕ
holds_line = codes "holds" ++ 10 ∷ []

-- what is printed of a line that breaks a rule
abbrev pub broken_line : ℕ → ℕ → List ℕ
broken_line line rule = codes "broken line " ++ decimal line ++ codes " rule " ++ decimal rule ++ 10 ∷ []

-- the text is a capture, and by all of its rules it is judged to be this
pub record IsJudged (text : List ℕ) (judgement : Judgement) : Type 0 where
  pub entries : List Entry
  pub reads : ReadsAs text (Ok entries)
  pub judged : Judged 8 entries judgement
