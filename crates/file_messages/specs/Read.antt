-- What a reader of file messages stands for, and what a message does to the files.
use Rattle.std.specs.Prelude.{◌≡◌, ℕ, ◌+◌, ◌≤◌, Bool, true, false, List, [], ◌∷◌, ◌++◌, length}
use Rattle.file_messages.specs.declared.reader.FileReader.{FileReader}
use Rattle.file_messages.specs.declared.reader.FileStep.{FileStep}
use Rattle.file_messages.specs.declared.reader.FileStep.TheVariants.{Begins, Adds, Ends}
use Rattle.file_messages.specs.Files.{Message, File, HaveCome, name_message, piece_message}

-- A reader to which these messages have come, which carry these files.
pub record HasRead (reader : FileReader) (messages : List Message) (files : List File) : Type 0 where
  pub have_come : HaveCome reader.is_ended messages files
  pub count_is : reader.files ≡ length files

-- what a message is, by the step that it is read as
abbrev pub IsStep : Message → FileStep → Type 0
IsStep message (Begins name) = message ≡ name_message name.now
IsStep message (Adds bytes) = message ≡ piece_message bytes.now
IsStep message Ends = message ≡ []

-- bytes added to the content of the last file
abbrev pub added : List ℕ → List File → List File
added bytes [] = []
added bytes (file ∷ []) = record { name = file.name; content = file.content ++ bytes } ∷ []
added bytes (file ∷ next ∷ rest) = file ∷ added bytes (next ∷ rest)

-- the files after a step
abbrev pub after : FileStep → List File → List File
after (Begins name) files = files ++ (record { name = name.now; content = [] } ∷ [])
after (Adds bytes) files = added bytes.now files
after Ends files = files

-- whether no message follows
abbrev pub is_end : FileStep → Bool
is_end (Begins name) = false
is_end (Adds bytes) = false
is_end Ends = true

-- bytes are added where a file began
abbrev pub IsBehind : FileStep → ℕ → Type 0
IsBehind (Adds bytes) files = 1 ≤ files
IsBehind step files = Unit {0}

-- the step of a name, and of a piece
abbrev pub IsBeginning : List ℕ → FileStep → Type 0
IsBeginning bytes (Begins name) = name.now ≡ bytes
IsBeginning bytes (Adds other) = ⊥
IsBeginning bytes Ends = ⊥

abbrev pub IsAdding : List ℕ → FileStep → Type 0
IsAdding bytes (Begins name) = ⊥
IsAdding bytes (Adds other) = other.now ≡ bytes
IsAdding bytes Ends = ⊥

-- a reader after a name that it took or refused
abbrev pub after_beginning : Bool → FileReader → FileReader
after_beginning true reader = record { files = reader.files + 1; is_ended = reader.is_ended }
after_beginning false reader = reader
