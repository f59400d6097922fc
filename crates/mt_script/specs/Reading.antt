-- The steps of reading: a text cut in two, the words of a line, and what each step answers.
use Rattle.std.specs.Prelude.{◌≡◌, ◌≢◌, ℕ, ◌<◌, ◌^◌, ◌==◌, ◌&&◌, ◌||◌, codes, Bool, false, not, nat_le, length, List, [], ◌∷◌, ◌++◌, Option, Some, None, Result, Ok, Err}
use Rattle.std.specs.List.{slice_split, list_all}
use Rattle.std.specs.Borrow.{Bor}
use Rattle.std.specs.Fmt.{decimal}
use Rattle.hex.specs.declared.error.FromHexError.{FromHexError}
use Rattle.hex.specs.declared.error.FromHexError.TheVariants.{InvalidHexCharacter, OddLength, InvalidStringLength, OutOfMemory}
use Rattle.mt_script.specs.declared.event.Event.{Event}
use Rattle.mt_script.specs.declared.event.Line.{Line}
use Rattle.mt_script.specs.declared.event.ScriptRefusal.{ScriptRefusal}
use Rattle.mt_script.specs.declared.event.ScriptRefusal.TheVariants.{BadCommand, BadWords, TooManyLines, NoMemory}
use Rattle.mt_script.specs.declared.values.Command.{Command}
use Rattle.mt_script.specs.declared.values.Command.TheVariants.{Open, Send, Main}
use Rattle.mt_script.specs.declared.fault.LineFault.{LineFault}
use Rattle.mt_script.specs.declared.fault.LineFault.TheVariants as fault
use Rattle.mt_script.specs.declared.words.Words.{Words}
use Rattle.mt_script.specs.Lines.{Lacks}
use Rattle.mt_script.specs.Spelling.{words_of, spelled, IsEvent}
use Rattle.mt_script.specs.Meaning.{Does, UnknownCommand, WrongWords, Means, numbered}

-- the bytes before the first such byte, and those behind it, or all bytes where there is none
abbrev pub IsCut : ℕ → List ℕ → List ℕ → Option (Bor (List ℕ)) → Type 0
IsCut byte text front None = Lacks byte front × (text ≡ front)
IsCut byte text front (Some rest) = Lacks byte front × (text ≡ front ++ byte ∷ rest.now)

-- the words of a line: it is cut at each blank
abbrev pub split_at_blanks : List ℕ → List (List ℕ)
split_at_blanks line = slice_split (λ byte. byte == 32) line

-- the words of a line that are left
abbrev pub words_in : Option (Bor (List ℕ)) → List (List ℕ)
words_in None = []
words_in (Some rest) = split_at_blanks rest.now

abbrev pub words_left : Words → List (List ℕ)
words_left words = words_in words.rest

-- the word of a command
abbrev pub command_name : Command → List ℕ
command_name Open = codes "open"
command_name Send = codes "send"
command_name Main = codes "main"

-- a word is the name of the value, or of none
abbrev pub IsNameOf : {A : Type 0} → (A → List ℕ) → List ℕ → Option A → Type 0
IsNameOf name word None = (value : _) → word ≢ name value
IsNameOf name word (Some value) = word ≡ name value

-- a word is the number below 2 ^ bits as it is spelled, or it is none
abbrev pub IsNumberOf : ℕ → List ℕ → Option ℕ → Type 0
IsNumberOf bits word None = (number : ℕ) → number < 2 ^ bits → word ≢ decimal number
IsNumberOf bits word (Some number) = word ≡ decimal number

-- One word was taken, and it is the name of the value; or it is of none, or there is no word.
abbrev pub TakesName : {A : Type 0} → (A → List ℕ) → List (List ℕ) → List (List ℕ) → Option A
    → Type 0
TakesName name old new None = (value : _) (rest : List (List ℕ)) → old ≢ name value ∷ rest
TakesName name old new (Some value) = old ≡ name value ∷ new

-- the next word was taken, which has no blank, or there is none
abbrev pub TakesWord : List (List ℕ) → List (List ℕ) → Option (Bor (List ℕ)) → Type 0
TakesWord old new None = old ≡ []
TakesWord old new (Some word) = (old ≡ word.now ∷ new) × Lacks 32 word.now

-- One word was taken, and the value is what it spells; or it spells none, or there is no word.
abbrev pub Takes : {A : Type 0} → (A → Type 0) → (A → List ℕ) → List (List ℕ) → List (List ℕ)
    → Result A LineFault → Type 0
Takes Is spelling old new (Ok value) = Is value × (old ≡ spelling value ∷ new)
Takes Is spelling old new (Err fault.BadWords) =
    (value : _) (rest : List (List ℕ)) → Is value → old ≢ spelling value ∷ rest
Takes Is spelling old new (Err fault.BadCommand) = ⊥
Takes Is spelling old new (Err fault.NoMemory) = Unit {0}

-- The words behind a command, all of them, are those of the event; or they are those of none.
abbrev pub Completes : List ℕ → List (List ℕ) → Result Event LineFault → Type 0
Completes command words (Ok event) =
    (command ∷ words ≡ words_of event) × (Lacks 10 (spelled event) → IsEvent event)
Completes command words (Err fault.BadWords) =
    (event : Event) → IsEvent event → command ∷ words ≢ words_of event
Completes command words (Err fault.BadCommand) = ⊥
Completes command words (Err fault.NoMemory) = Unit {0}

-- what was read is what the line means
abbrev pub MeansAs : List ℕ → Result (Option Event) LineFault → Type 0
MeansAs line (Ok does) = Means line (Does does)
MeansAs line (Err fault.BadCommand) = Means line UnknownCommand
MeansAs line (Err fault.BadWords) = Means line WrongWords
MeansAs line (Err fault.NoMemory) = Unit {0}

-- the refusal of a line with this number
abbrev pub refusal_at : LineFault → ℕ → ScriptRefusal
refusal_at fault.BadCommand number = BadCommand number
refusal_at fault.BadWords number = BadWords number
refusal_at fault.NoMemory number = NoMemory

-- a digit of base 16 in lower case: `0` to `9` are 48 to 57, `a` to `f` are 97 to 102
abbrev pub is_lower_digit : ℕ → Bool
is_lower_digit byte = (nat_le 48 byte && nat_le byte 57) || (nat_le 97 byte && nat_le byte 102)

-- a word of such digits, at least one
abbrev pub is_lower_hex : List ℕ → Bool
is_lower_hex word = not (length word == 0) && list_all is_lower_digit word

-- what a word's refusal by the decoder says of its line
abbrev pub decoding_fault : FromHexError → LineFault
decoding_fault OutOfMemory = fault.NoMemory
decoding_fault (InvalidHexCharacter c index) = fault.BadWords
decoding_fault OddLength = fault.BadWords
decoding_fault InvalidStringLength = fault.BadWords

-- a word that is `0`, or begins with another digit: 48 is `0`, 57 is `9`
abbrev pub begins_as_number : List ℕ → Bool
begins_as_number [] = false
begins_as_number (first ∷ []) = nat_le 48 first && nat_le first 57
begins_as_number (first ∷ next ∷ rest) = nat_le 49 first && nat_le first 57

-- a word spells the value, or it spells none
abbrev pub Spells : {A : Type 0} → (A → Type 0) → (A → List ℕ) → List ℕ → Result A LineFault
    → Type 0
Spells Is spelling word (Ok value) = Is value × (word ≡ spelling value)
Spells Is spelling word (Err fault.BadWords) = (value : _) → Is value → word ≢ spelling value
Spells Is spelling word (Err fault.BadCommand) = ⊥
Spells Is spelling word (Err fault.NoMemory) = Unit {0}

-- What a line adds to the events before it; a refusal names its number.
abbrev pub AddsLine : List Line → List Line → List ℕ → ℕ → Result (Unit {0}) ScriptRefusal → Type 0
AddsLine old new line number (Ok done) =
    (does : Option Event) × Means line (Does does) × (new ≡ old ++ numbered number (does ∷ []))
AddsLine old new line number (Err (BadCommand n)) = (n ≡ number) × Means line UnknownCommand
AddsLine old new line number (Err (BadWords n)) = (n ≡ number) × Means line WrongWords
AddsLine old new line number (Err (TooManyLines limit)) = ⊥
AddsLine old new line number (Err NoMemory) = Unit {0}
