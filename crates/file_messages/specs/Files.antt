-- The messages by which one end carries files to the other on a channel.
use Rattle.std.specs.Prelude.{◌≡◌, ◌≢◌, ℕ, ◌≤◌, Bool, true, false, List, [], ◌∷◌, ◌++◌, length, map, flat_map, All}
use Rattle.std.specs.List.{concat}
use Rattle.std.specs.Str.{IsUtf8}

abbrev pub Message : Type 0
Message = List ℕ

-- a file: its name and its content
pub record File : Type 0 where
  pub name : List ℕ
  pub content : List ℕ

-- a file as it is carried: its name, and its content in pieces
pub record Carried : Type 0 where
  pub name : List ℕ
  pub pieces : List (List ℕ)

-- a byte stands nowhere among others
abbrev pub Lacks : ℕ → List ℕ → Type 0
Lacks byte bytes = All (λ other. other ≢ byte) bytes

-- 1 to 200 bytes, with no `/` and no zero byte
abbrev pub IsPlain : List ℕ → Type 0
IsPlain name = (1 ≤ length name) × (length name ≤ 200) × Lacks 47 name × Lacks 0 name

-- a name of a file
abbrev pub IsName : List ℕ → Type 0
IsName name = IsUtf8 name × IsPlain name

-- a piece of a content
abbrev pub IsPiece : List ℕ → Type 0
IsPiece piece = (1 ≤ length piece) × (length piece ≤ 65536)

-- `N` and a name, `D` and a piece
abbrev pub name_message : List ℕ → Message
name_message name = 78 ∷ name

abbrev pub piece_message : List ℕ → Message
piece_message piece = 68 ∷ piece

-- the messages that carry a file
abbrev pub messages_of : Carried → List Message
messages_of c = name_message c.name ∷ map piece_message c.pieces

-- the file that is carried
abbrev pub file_of : Carried → File
file_of c = record { name = c.name; content = concat c.pieces }

abbrev pub IsCarried : Carried → Type 0
IsCarried c = IsName c.name × All IsPiece c.pieces

-- Messages carry these files, at most 256; of the last one more pieces may follow.
pub record AreUnderWay (messages : List Message) (files : List File) : Type 0 where
  pub carried : List Carried
  pub messages_are : messages ≡ flat_map messages_of carried
  pub files_are : files ≡ map file_of carried
  pub are_good : All IsCarried carried
  pub are_few : length carried ≤ 256

-- Messages carry these files and no more: the last message is empty.
pub record AreFiles (messages : List Message) (files : List File) : Type 0 where
  pub before : List Message
  pub messages_are : messages ≡ before ++ ([] ∷ [])
  pub are_under_way : AreUnderWay before files

-- the messages that have come, with the empty one or still without it
abbrev pub HaveCome : Bool → List Message → List File → Type 0
HaveCome true messages files = AreFiles messages files
HaveCome false messages files = AreUnderWay messages files
