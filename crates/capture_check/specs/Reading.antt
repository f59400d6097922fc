-- The steps of reading: what each answers.
use Rattle.std.specs.Prelude.{◌≡◌, ◌≢◌, ℕ, codes, List, [], ◌∷◌, ◌++◌, Some, None, Result, Ok, Err}
use Rattle.mt_script.specs.Lines.{Lacks}
use Rattle.mt_script.specs.declared.fault.LineFault.{LineFault}
use Rattle.mt_script.specs.declared.fault.LineFault.TheVariants as fault
use Rattle.capture_check.specs.declared.entry.Entry.{Entry}
use Rattle.capture_check.specs.declared.entry.CaptureRefusal.{CaptureRefusal}
use Rattle.capture_check.specs.declared.entry.CaptureRefusal.TheVariants.{BadLine, TooManyLines, NoMemory}
use Rattle.capture_check.specs.declared.first.First.{First}
use Rattle.capture_check.specs.declared.first.First.TheVariants.{Issue, Open, Sent, Got, Main, Word, Out, In}
use Rattle.capture_check.specs.Spelling.{words_of, spelled, IsEntry}
use Rattle.capture_check.specs.Meaning.{Tells}

-- the first word of a line
abbrev pub first_name : First → List ℕ
first_name Issue = codes "issue"
first_name Open = codes "open"
first_name Sent = codes "sent"
first_name Got = codes "got"
first_name Main = codes "main"
first_name Word = codes "word"
first_name Out = codes "out"
first_name In = codes "in"

-- The words behind a first word, all of them, are those of the entry; or they are those of none.
abbrev pub Completes : List ℕ → List (List ℕ) → Result Entry LineFault → Type 0
Completes first words (Ok entry) =
    (first ∷ words ≡ words_of entry) × (Lacks 10 (spelled entry) → IsEntry entry)
Completes first words (Err fault.BadWords) =
    (entry : Entry) → IsEntry entry → first ∷ words ≢ words_of entry
Completes first words (Err fault.BadCommand) = ⊥
Completes first words (Err fault.NoMemory) = Unit {0}

-- what was read of a line is what it tells
abbrev pub TellsAs : List ℕ → Result Entry LineFault → Type 0
TellsAs line (Ok entry) = Tells line (Some entry)
TellsAs line (Err fault.BadCommand) = Tells line None
TellsAs line (Err fault.BadWords) = Tells line None
TellsAs line (Err fault.NoMemory) = Unit {0}

-- the refusal of a line with this number
abbrev pub refusal_at : LineFault → ℕ → CaptureRefusal
refusal_at fault.BadCommand number = BadLine number
refusal_at fault.BadWords number = BadLine number
refusal_at fault.NoMemory number = NoMemory

-- What a line adds to the entries before it; a refusal names its number.
abbrev pub AddsLine : List Entry → List Entry → List ℕ → ℕ → Result (Unit {0}) CaptureRefusal → Type 0
AddsLine old new line number (Ok done) =
    (entry : Entry) × Tells line (Some entry) × (new ≡ old ++ entry ∷ [])
AddsLine old new line number (Err (BadLine n)) = (n ≡ number) × Tells line None
AddsLine old new line number (Err (TooManyLines limit)) = ⊥
AddsLine old new line number (Err NoMemory) = Unit {0}
