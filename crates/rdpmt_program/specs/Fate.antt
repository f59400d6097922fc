-- What a fault that ends a command says of its words and of the store.
use Rattle.std.specs.Prelude.{◌≡◌, ◌≢◌, ℕ, ◌<◌, ◌⊎◌, List, length, take, codes, string_bytes, Option, Some, None, Result, Ok, Err}
use Rattle.mt_base.specs.declared.kinds.Role.{Role}
use Rattle.mt_base.specs.Trace.{Trace}
use Rattle.mt_script.specs.Lines.{lines_of}
use Rattle.mt_script.specs.Meaning.{line_limit}
use Rattle.mt_world.specs.declared.world.World.{World}
use Rattle.mt_world.specs.Acts.{Entry}
use Rattle.mt_world.specs.Play.{Ending, Done, RefusedAt}
use Rattle.mt_world.specs.WorldView.{Stands}
use Rattle.mt_outside.specs.Faults.{Rose}
use Rattle.mt_outside.specs.Files.{Contents, Holds, Lacks}
use Rattle.mt_outside.specs.Told.{added}
use Rattle.rdpmt_program.specs.declared.fault.Fault.{Fault}
use Rattle.rdpmt_program.specs.declared.fault.Fault.TheVariants.{Usage, Refused, Broken, File, Limit, NoMemory}
use Rattle.mt_world.specs.declared.refusal.StepRefusal.{StepRefusal}
use Rattle.mt_world.specs.declared.refusal.StepRefusal.TheVariants as step
use Rattle.rdpmt_program.specs.declared.cause.Cause.TheVariants as cause
use Rattle.rdpmt_program.specs.declared.playing.Stop.{Stop}
use Rattle.rdpmt_program.specs.declared.playing.Stop.TheVariants as stop
use Rattle.rdpmt_program.specs.declared.words.Command.{Command}
use Rattle.rdpmt_program.specs.declared.words.Command.TheVariants.{Play, Show, Check}
use Rattle.mt_show.specs.declared.refusal.ShowRefusal.TheVariants.{BadLine}
use Rattle.mt_show.specs.Answer.{ShownAs}
use Rattle.capture_check.specs.declared.entry.Entry.{Entry as CaptureEntry}
use Rattle.capture_check.specs.declared.entry.CaptureRefusal.TheVariants as capture
use Rattle.capture_check.specs.declared.judgement.Judgement.{Judgement}
use Rattle.capture_check.specs.declared.judgement.Judgement.TheVariants as verdict
use Rattle.capture_check.specs.Meaning.{ReadsAs as ReadsAsCapture}
use Rattle.capture_check.specs.Rules.{Judged}
use Rattle.rdpmt_program.specs.Captures.{IsJudged, holds_line, broken_line}
use Rattle.rdpmt_program.specs.Command.{IsPlay, IsShow, IsCheck, IsCommand, usage_line}
use Rattle.rdpmt_program.specs.Script.{PlaysTo, IsRefused, refusal_of, byte_limit, refused_line}
use Rattle.rdpmt_program.specs.Table.{IsTextOf, PassesLimit, Reports, RefusesLine, BreaksRule, file_fault_line, no_memory_line, limit_line}

-- what the words were read as
abbrev pub IsRead : List (List ℕ) → Option Command → Type 0
IsRead words None = ¬ IsCommand words
IsRead words (Some (Play script)) = IsPlay words script.now
IsRead words (Some (Show file)) = IsShow words file.now
IsRead words (Some (Check capture)) = IsCheck words capture.now

-- what a first word and the name of a file were read as
abbrev pub IsReadOf : (first name : List ℕ) → Option Command → Type 0
IsReadOf first name None = (first ≢ codes "play") × (first ≢ codes "show") × (first ≢ codes "check")
IsReadOf first name (Some (Play script)) = (first ≡ codes "play") × (script.now ≡ name)
IsReadOf first name (Some (Show file)) = (first ≡ codes "show") × (file.now ≡ name)
IsReadOf first name (Some (Check capture)) = (first ≡ codes "check") × (capture.now ≡ name)

-- a file that is longer than one may be was read
pub record IsLong (told : Option Contents) (name : List ℕ) : Type 0 where
  pub too_long : (content : List ℕ) → Holds told name content → byte_limit < length content
  pub there : ¬ Lacks told name

-- what the reading of a file came to
abbrev pub ReadsText : Option Contents → List ℕ → (before after : ℕ) → Result (List ℕ) Fault → Type 0
ReadsText told name before after (Ok text) = IsTextOf told name text
ReadsText told name before after (Err Usage) = ⊥
ReadsText told name before after (Err (Refused line)) = ⊥
ReadsText told name before after (Err (Broken line)) = ⊥
ReadsText told name before after (Err File) = Rose before after
ReadsText told name before after (Err Limit) = IsLong told name
ReadsText told name before after (Err NoMemory) = Unit {0}

-- the fault that a line is refused with this printed line, or want of memory
abbrev pub Refuses : Fault → List ℕ → Type 0
Refuses (Refused line) text = string_bytes line ≡ text
Refuses NoMemory text = Unit {0}
Refuses Usage text = ⊥
Refuses (Broken line) text = ⊥
Refuses File text = ⊥
Refuses Limit text = ⊥

-- the fault that a line breaks a rule with this printed line, or want of memory
abbrev pub TellsBroken : Fault → List ℕ → Type 0
TellsBroken (Broken line) text = string_bytes line ≡ text
TellsBroken NoMemory text = Unit {0}
TellsBroken Usage text = ⊥
TellsBroken (Refused line) text = ⊥
TellsBroken File text = ⊥
TellsBroken Limit text = ⊥

-- how a step's refusal stops the play at a line
abbrev pub stop_of : StepRefusal → ℕ → Stop
stop_of step.UnknownChannel line = stop.RefusedAt line cause.UnknownChannel
stop_of (step.Refused why) line = stop.RefusedAt line (cause.Refused why)
stop_of step.NoMemory line = stop.NoMemory

-- what a play of lines came to, against the list that Play gives
abbrev pub Plays : Result World Stop → Trace (Role × Entry) × Ending → Type 0
Plays (Ok world) answer = (list : Trace (Role × Entry)) × (answer ≡ (list, Done)) × Stands world list
Plays (Err (stop.RefusedAt line cause)) answer = (list : Trace (Role × Entry)) × (answer ≡ (list, RefusedAt line (refusal_of cause)))
Plays (Err stop.NoMemory) answer = Unit {0}

-- what the play of a text came to
abbrev pub Gives : List ℕ → Result (List ℕ) Fault → Type 0
Gives text (Ok output) = PlaysTo text output
Gives text (Err Usage) = ⊥
Gives text (Err (Refused line)) = IsRefused text (string_bytes line)
Gives text (Err (Broken line)) = ⊥
Gives text (Err File) = ⊥
Gives text (Err Limit) = line_limit < length (lines_of text)
Gives text (Err NoMemory) = Unit {0}

-- what the showing of a text came to
abbrev pub GivesShown : List ℕ → Result (List ℕ) Fault → Type 0
GivesShown text (Ok output) = ShownAs text (Ok output)
GivesShown text (Err Usage) = ⊥
GivesShown text (Err (Refused printed)) =
    (line : ℕ) × ShownAs text (Err (BadLine line)) × (string_bytes printed ≡ refused_line line (codes "BadLine"))
GivesShown text (Err (Broken printed)) = ⊥
GivesShown text (Err File) = ⊥
GivesShown text (Err Limit) = line_limit < length (lines_of text)
GivesShown text (Err NoMemory) = Unit {0}

-- what is said of a judgement
abbrev pub Says : Judgement → Result (List ℕ) Fault → Type 0
Says judgement (Ok output) = (judgement ≡ verdict.Holds) × (output ≡ holds_line)
Says judgement (Err (Broken printed)) = (line rule : ℕ) × (judgement ≡ verdict.Breaks line rule) × (string_bytes printed ≡ broken_line line rule)
Says judgement (Err NoMemory) = Unit {0}
Says judgement (Err Usage) = ⊥
Says judgement (Err (Refused line)) = ⊥
Says judgement (Err File) = ⊥
Says judgement (Err Limit) = ⊥

-- what the checking of a capture came to
abbrev pub Judges : List CaptureEntry → Result (List ℕ) Fault → Type 0
Judges entries (Ok output) = Judged 8 entries verdict.Holds × (output ≡ holds_line)
Judges entries (Err (Broken printed)) = (line rule : ℕ) × Judged 8 entries (verdict.Breaks line rule) × (string_bytes printed ≡ broken_line line rule)
Judges entries (Err NoMemory) = Unit {0}
Judges entries (Err Usage) = ⊥
Judges entries (Err (Refused line)) = ⊥
Judges entries (Err File) = ⊥
Judges entries (Err Limit) = ⊥

-- what the checking of a text came to
abbrev pub GivesChecked : List ℕ → Result (List ℕ) Fault → Type 0
GivesChecked text (Ok output) = IsJudged text verdict.Holds × (output ≡ holds_line)
GivesChecked text (Err Usage) = ⊥
GivesChecked text (Err (Refused printed)) =
    (line : ℕ) × ReadsAsCapture text (Err (capture.BadLine line)) × (string_bytes printed ≡ refused_line line (codes "BadLine"))
GivesChecked text (Err (Broken printed)) =
    (line rule : ℕ) × IsJudged text (verdict.Breaks line rule) × (string_bytes printed ≡ broken_line line rule)
GivesChecked text (Err File) = ⊥
GivesChecked text (Err Limit) = line_limit < length (lines_of text)
GivesChecked text (Err NoMemory) = Unit {0}

-- what a command came to
abbrev pub Runs : List (List ℕ) → Option Contents → (before after : ℕ) → Result (List ℕ) Fault → Type 0
Runs words told before after (Ok output) = Reports words told output
Runs words told before after (Err Usage) = ¬ IsCommand words
Runs words told before after (Err (Refused line)) = RefusesLine words told (string_bytes line)
Runs words told before after (Err (Broken line)) = BreaksRule words told (string_bytes line)
Runs words told before after (Err File) = IsCommand words × Rose before after
Runs words told before after (Err Limit) = PassesLimit words told
Runs words told before after (Err NoMemory) = IsCommand words

-- the status and the output of what a command came to
abbrev pub Tells : Result (List ℕ) Fault → ℕ → List ℕ → Type 0
Tells (Ok report) status output = (status ≡ 0) × (output ≡ report)
Tells (Err Usage) status output = (status ≡ 1) × (output ≡ usage_line)
Tells (Err (Refused line)) status output = (status ≡ 2) × (output ≡ string_bytes line)
Tells (Err (Broken line)) status output = (status ≡ 8) × (output ≡ string_bytes line)
Tells (Err File) status output = (status ≡ 3) × (output ≡ file_fault_line)
Tells (Err NoMemory) status output = (status ≡ 9) × (output ≡ no_memory_line)
Tells (Err Limit) status output = (status ≡ 11) × (output ≡ limit_line)

-- The whole output was written with no fault and the status is the answer, or the sink failed: a
-- front of the output was written, and the answer is 4.
abbrev pub Printed : (status : ℕ) (output : List ℕ) (answer : ℕ) (old new : Option (List ℕ)) (before after : ℕ) → Type 0
Printed status output answer old new before after =
    ((answer ≡ status) × (new ≡ added old output) × (after ≡ before)) ⊎ ((answer ≡ 4) × Rose before after × (k : ℕ) × (new ≡ added old (take k output)))
