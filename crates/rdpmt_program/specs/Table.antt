-- The statuses that a call answers, each with its cause and with what is printed.
use Rattle.std.specs.Prelude.{◌≡◌, ℕ, ◌≤◌, List, [], ◌∷◌, ◌++◌, length, take, codes, All, Option, Ok, Err}
use Rattle.mt_base.specs.declared.kinds.Role.{Role}
use Rattle.mt_base.specs.Trace.{Trace}
use Rattle.mt_script.specs.declared.event.Line.{Line}
use Rattle.mt_script.specs.Lines.{lines_of}
use Rattle.mt_script.specs.Meaning.{ReadsAs, IsShort}
use Rattle.mt_show.specs.declared.refusal.ShowRefusal.TheVariants.{BadLine}
use Rattle.mt_show.specs.Grammar.{Keeps}
use Rattle.mt_show.specs.Answer.{ShownAs}
use Rattle.mt_world.specs.Acts.{Entry}
use Rattle.mt_world.specs.Play.{start, play, Done}
use Rattle.mt_outside.specs.Faults.{Counts, Rose}
use Rattle.mt_outside.specs.Files.{Contents, Holds, Lacks}
use Rattle.mt_outside.specs.Told.{added}
use Rattle.capture_check.specs.declared.entry.CaptureRefusal.TheVariants as capture
use Rattle.capture_check.specs.declared.judgement.Judgement.TheVariants as verdict
use Rattle.capture_check.specs.Meaning.{ReadsAs as ReadsAsCapture}
use Rattle.rdpmt_program.specs.Captures.{IsJudged, holds_line, broken_line}
use Rattle.rdpmt_program.specs.Command.{IsPlay, IsShow, IsCheck, AsksFor, IsCommand, usage_line}
use Rattle.rdpmt_program.specs.Script.{PlaysTo, IsRefused, IsTooLong, byte_limit, refused_line}

-- The text of the file of this name, within the limit of its bytes: the file's content, wherever
-- the store tells it, and never that of a file which the store tells to be none. A store that tells
-- nothing may have given any text.
pub record IsTextOf (told : Option Contents) (name text : List ℕ) : Type 0 where
  pub content : (content : List ℕ) → Holds told name content → text ≡ content
  pub there : ¬ Lacks told name
  pub fits : length text ≤ byte_limit

-- the text of a file whose name is one of these
pub record IsText (IsName : List ℕ → Type 0) (told : Option Contents) (text : List ℕ) : Type 0 where
  pub name : List ℕ
  pub named : IsName name
  pub is_text : IsTextOf told name text

-- the text of the script that the words name, of the show file, or of the capture
abbrev pub IsScript : List (List ℕ) → Option Contents → List ℕ → Type 0
IsScript words = IsText (IsPlay words)

abbrev pub IsShowFile : List (List ℕ) → Option Contents → List ℕ → Type 0
IsShowFile words = IsText (IsShow words)

abbrev pub IsCapture : List (List ℕ) → Option Contents → List ℕ → Type 0
IsCapture words = IsText (IsCheck words)

-- the words name a file that is longer than one may be, wherever the store tells its content
pub record PassesLimit (words : List (List ℕ)) (told : Option Contents) : Type 0 where
  pub name : List ℕ
  pub named : AsksFor words name
  pub too_long : (content : List ℕ) → Holds told name content → IsTooLong content
  pub there : ¬ Lacks told name

abbrev pub file_fault_line : List ℕ
file_fault_line = codes "file fault" ++ 10 ∷ []

abbrev pub no_memory_line : List ℕ
no_memory_line = codes "no memory" ++ 10 ∷ []

abbrev pub limit_line : List ℕ
limit_line = codes "limit" ++ 10 ∷ []

-- What is printed of the file that the words name: the report of a script, the answers to the lines
-- of a show file, or that a capture keeps its rules.
pub data Reports (words : List (List ℕ)) (told : Option Contents) (output : List ℕ) : Type 0 where
  script_report : (text : List ℕ) → IsScript words told text → PlaysTo text output → Reports words told output
  show_answers : (text : List ℕ) → IsShowFile words told text → ShownAs text (Ok output) → Reports words told output
  capture_holds : (text : List ℕ) → IsCapture words told text → IsJudged text verdict.Holds → output ≡ holds_line → Reports words told output

-- What is printed of a line of that file which is refused.
pub data RefusesLine (words : List (List ℕ)) (told : Option Contents) (output : List ℕ) : Type 0 where
  script_line : (text : List ℕ) → IsScript words told text → IsRefused text output → RefusesLine words told output
  show_line : (text : List ℕ) (line : ℕ) → IsShowFile words told text → ShownAs text (Err (BadLine line))
      → output ≡ refused_line line (codes "BadLine") → RefusesLine words told output
  capture_line : (text : List ℕ) (line : ℕ) → IsCapture words told text → ReadsAsCapture text (Err (capture.BadLine line))
      → output ≡ refused_line line (codes "BadLine") → RefusesLine words told output

-- What is printed of a line of that file, a capture, which is the first that breaks a rule.
pub record BreaksRule (words : List (List ℕ)) (told : Option Contents) (output : List ℕ) : Type 0 where
  pub text : List ℕ
  pub line : ℕ
  pub rule : ℕ
  pub is_capture : IsCapture words told text
  pub judged : IsJudged text (verdict.Breaks line rule)
  pub output_is : output ≡ broken_line line rule

-- The table: a status, the cause that it comes from alone, and what is printed. The store told this
-- of its files, and the counts of faults were `before` and are `after`.
pub data Row (words : List (List ℕ)) (told : Option Contents) (before after : Counts) (status : ℕ) (output : List ℕ) : Type 0 where
  done : Reports words told output → status ≡ 0 → Row words told before after status output
  usage : ¬ IsCommand words → output ≡ usage_line → status ≡ 1 → Row words told before after status output
  refused : RefusesLine words told output → status ≡ 2 → Row words told before after status output
  broken : BreaksRule words told output → status ≡ 8 → Row words told before after status output
  file_fault : IsCommand words → Rose before.store after.store → output ≡ file_fault_line → status ≡ 3 → Row words told before after status output
  no_memory : IsCommand words → output ≡ no_memory_line → status ≡ 9 → Row words told before after status output
  limit : PassesLimit words told → output ≡ limit_line → status ≡ 11 → Row words told before after status output

-- an output of this kind was written, all of it
abbrev pub WritesAll : (List ℕ → Type 0) → (old new : Option (List ℕ)) → Type 0
WritesAll IsIt old new = (output : List ℕ) × IsIt output × (new ≡ added old output)

-- a front of an output of this kind was written
abbrev pub WritesFront : (List ℕ → Type 0) → (old new : Option (List ℕ)) → Type 0
WritesFront IsIt old new = (output : List ℕ) × IsIt output × (k : ℕ) × (new ≡ added old (take k output))

-- the calls that were made of the store named the file of the words, and no other file
abbrev pub AskedFor : List (List ℕ) → Option (List (List ℕ)) → Option (List (List ℕ)) → Type 0
AskedFor words old new = (names : List (List ℕ)) × All (AsksFor words) names × (new ≡ added old names)

-- a file whose name is one of these is told by the store to hold this text
pub record Names (IsName : List ℕ → Type 0) (told : Option Contents) (text : List ℕ) : Type 0 where
  pub name : List ℕ
  pub named : IsName name
  pub content : Holds told name text

-- a text within the limits that is a script whose lines are played to their end
pub record IsPlayable (text : List ℕ) : Type 0 where
  pub fits : length text ≤ byte_limit
  pub lines : List Line
  pub list : Trace (Role × Entry)
  pub reads : ReadsAs text (Ok lines)
  pub played : play start lines ≡ (list, Done)

-- a text within the limits that is a script of which a line is refused, by the grammar or by its step
pub record IsRefusable (text : List ℕ) : Type 0 where
  pub fits : length text ≤ byte_limit
  pub output : List ℕ
  pub refused : IsRefused text output

-- a text within the limits whose lines keep the grammar of a show file
pub record IsShowable (text : List ℕ) : Type 0 where
  pub fits : length text ≤ byte_limit
  pub short : IsShort text
  pub keeps : All Keeps (lines_of text)

-- a text within the limits of which this line is the first that breaks that grammar
pub record IsUnshowable (text : List ℕ) : Type 0 where
  pub fits : length text ≤ byte_limit
  pub line : ℕ
  pub broken : ShownAs text (Err (BadLine line))

-- a text within the limits that is a capture which keeps its rules
pub record IsHolding (text : List ℕ) : Type 0 where
  pub fits : length text ≤ byte_limit
  pub judged : IsJudged text verdict.Holds

-- a text within the limits that is a capture of which this line is the first that breaks a rule
pub record IsBreaking (text : List ℕ) : Type 0 where
  pub fits : length text ≤ byte_limit
  pub line : ℕ
  pub rule : ℕ
  pub judged : IsJudged text (verdict.Breaks line rule)

-- a text within the limits of which this line is the first that is none of a capture
pub record IsUnreadable (text : List ℕ) : Type 0 where
  pub fits : length text ≤ byte_limit
  pub line : ℕ
  pub broken : ReadsAsCapture text (Err (capture.BadLine line))
