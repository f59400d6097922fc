-- What stands of the messages that an end makes of its files.
use Rattle.std.specs.Prelude.{◌≡◌, ℕ, ◌+◌, ◌-◌, ◌*◌, List, [], ◌∷◌, ◌++◌, length, map, flat_map, take, drop, All, slice_index_or, Option, Some, None}
use Rattle.std.specs.List.{concat}
use Rattle.file_messages.specs.Files.{Message, File, Carried, IsName, messages_of, file_of}
use Rattle.file_messages.specs.Written.{IsInFull, AreWritten}
use Rattle.mt_outside.specs.Files.{Contents, Holds}
use Rattle.file_transfer.specs.Own.{Own}
use Rattle.file_transfer.specs.declared.outgoing.Stage.{Stage}
use Rattle.file_transfer.specs.declared.outgoing.Stage.TheVariants.{Between, Within, Ended}
use Rattle.file_transfer.specs.declared.outgoing.Outgoing.{Outgoing}

-- Messages carry these files, each of them one of the end's own, whole and in pieces that are full.
pub record AreMade (owns : List Own) (messages : List Message) (files : List File) : Type 0 where
  pub carried : List Carried
  pub messages_are : messages ≡ flat_map messages_of carried
  pub files_are : files ≡ map file_of carried
  pub names_are : map (λ (c : Carried). c.name) carried ≡ map (λ (own : Own). own.name) owns
  pub are_good : All IsInFull carried

-- The same, and behind them a file of this name, of whose content so many bytes are carried, in pieces of 65,536.
pub record AreMadeWithin (owns : List Own) (own : Own) (at : ℕ) (messages : List Message) (files : List File) : Type 0 where
  pub whole : List Message
  pub before : List File
  pub are_made : AreMade owns whole before
  pub last : Carried
  pub messages_are : messages ≡ whole ++ messages_of last
  pub files_are : files ≡ before ++ file_of last ∷ []
  pub name_is : last.name ≡ own.name
  pub is_name : IsName last.name
  pub are_full : All (λ (piece : List ℕ). length piece ≡ 65536) last.pieces
  pub at_is : length (concat last.pieces) ≡ at

-- The same of all files, and behind them the empty message.
pub record AreMadeAll (owns : List Own) (messages : List Message) (files : List File) : Type 0 where
  pub before : List Message
  pub are_made : AreMade owns before files
  pub messages_are : messages ≡ before ++ [] ∷ []

-- What is made at a stage, when so many files are whole, and so many bytes of the next one are read.
abbrev pub MadeAt : Stage → (owns : List Own) → (made at : ℕ) → List Message → List File → Type 0
MadeAt Between owns made at messages files = AreMade (take made owns) messages files
MadeAt Within owns made at messages files = (own : Own) × (rest : List Own) × (drop made owns ≡ own ∷ rest) × AreMadeWithin (take made owns) own at messages files
MadeAt Ended owns made at messages files = AreMadeAll owns messages files

-- the message that is made and not sent
abbrev pub waiting : Option Message → List Message
waiting None = []
waiting (Some message) = message ∷ []

-- These messages were sent, and they and the one that waits carry these files.
abbrev pub HasSent : Outgoing → List Message → List File → Type 0
HasSent o sent files = MadeAt o.stage o.files.items o.made o.at (sent ++ waiting o.draft) files

-- the store tells each own file with this content
pub data AreHeld (told : Option Contents) : List Own → List (List ℕ) → Type 0 where
  none : AreHeld told [] []
  more : (own : Own) (owns : List Own) (content : List ℕ) (contents : List (List ℕ)) → Holds told own.path content → AreHeld told owns contents → AreHeld told (own ∷ owns) (content ∷ contents)

-- the contents of files
abbrev pub contents_of : List File → List (List ℕ)
contents_of files = map (λ (file : File). file.content) files

-- The files so far have these contents, and the last one, where it is not whole, the front of its.
abbrev pub FollowAt : Stage → (made at : ℕ) → List (List ℕ) → List File → Type 0
FollowAt Between made at contents files = contents_of files ≡ take made contents
FollowAt Within made at contents files = contents_of files ≡ take made contents ++ take at (slice_index_or contents made []) ∷ []
FollowAt Ended made at contents files = contents_of files ≡ contents

abbrev pub Follow : Outgoing → List (List ℕ) → List File → Type 0
Follow o contents files = FollowAt o.stage o.made o.at contents files

-- Messages are the front of those that are written for the own files with these contents.
pub record IsFront (owns : List Own) (contents : List (List ℕ)) (sent : List Message) : Type 0 where
  pub files : List File
  pub rest : List Message
  pub are_written : AreWritten (sent ++ rest) files
  pub names_are : map (λ (file : File). file.name) files ≡ map (λ (own : Own). own.name) owns
  pub contents_are : contents_of files ≡ contents

-- a number that falls with each message that is made: the bytes that may still be read, and the names and the end that are still
-- to come
abbrev pub steps_left : Stage → ℕ
steps_left Between = 2
steps_left Within = 1
steps_left Ended = 0

abbrev pub to_do : Outgoing → ℕ
to_do o = (4294967296 - o.read) + 2 * (length o.files.items - o.made) + steps_left o.stage
