-- The messages that an end of this project writes for files, and the files that are kept of those that came.
use Rattle.std.specs.Prelude.{◌≡◌, ℕ, ◌≤◌, List, [], ◌∷◌, ◌++◌, length, map, flat_map, drop, All}
use Rattle.file_messages.specs.Files.{Message, File, Carried, IsName, IsPiece, messages_of, file_of}

-- pieces of 65,536 bytes, of which the last may be shorter
abbrev pub AreFull : List (List ℕ) → Type 0
AreFull [] = Unit {0}
AreFull (piece ∷ []) = IsPiece piece
AreFull (piece ∷ next ∷ rest) = (length piece ≡ 65536) × AreFull (next ∷ rest)

abbrev pub IsInFull : Carried → Type 0
IsInFull c = IsName c.name × AreFull c.pieces

-- Messages are those that are written for these files, and the empty one behind them.
pub record AreWritten (messages : List Message) (files : List File) : Type 0 where
  pub carried : List Carried
  pub messages_are : messages ≡ flat_map messages_of carried ++ ([] ∷ [])
  pub files_are : files ≡ map file_of carried
  pub are_good : All IsInFull carried
  pub are_few : length carried ≤ 256

-- a buffer with a message at its front
abbrev pub with_message : Message → List ℕ → List ℕ
with_message message buffer = message ++ drop (length message) buffer
