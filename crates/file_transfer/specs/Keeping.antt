-- The files that an end gets: what is known of them, and the store that keeps them.
use Rattle.std.specs.Prelude.{◌≡◌, ℕ, ◌-◌, ◌^◌, List, [], ◌∷◌, ◌++◌, length, min, string_bytes, Option, Some, None, Bool, true, false}
use Rattle.sha2.specs.Hashers.{Holds256}
use Rattle.sha2.specs.Sha256.{sha256}
use Rattle.mt_outside.specs.Files.{Contents, replaced}
use Rattle.file_messages.specs.Files.{Message, File}
use Rattle.file_messages.specs.Read.{HasRead}
use Rattle.file_transfer.specs.declared.coming.KeptFile.{KeptFile}
use Rattle.file_transfer.specs.declared.coming.Coming.{Coming}
use Rattle.file_transfer.specs.declared.arrivals.Arrivals.{Arrivals}
use Rattle.file_transfer.specs.declared.incoming.Incoming.{Incoming}

-- a number as it is counted in 64 bits
abbrev pub shown : ℕ → ℕ
shown n = min n (2 ^ 64 - 1)

-- what is known of a file
pub record IsKept (kept : KeptFile) (file : File) : Type 0 where
  pub name_is : string_bytes kept.name ≡ file.name
  pub size_is : kept.size ≡ shown (length file.content)
  pub digest_is : kept.digest ≡ sha256 file.content

-- what is known of a file so far
pub record IsComing (prefix : List ℕ) (coming : Coming) (file : File) : Type 0 where
  pub name_is : string_bytes coming.name ≡ file.name
  pub path_is : string_bytes coming.path ≡ prefix ++ file.name
  pub size_is : coming.size ≡ shown (length file.content)
  pub hashed : Holds256 coming.hasher file.content

-- a file to which bytes came
abbrev pub with_bytes : List ℕ → File → File
with_bytes bytes file = record { name = file.name; content = file.content ++ bytes }

-- the same of each file of a list
pub data AreKept : List KeptFile → List File → Type 0 where
  none : AreKept [] []
  more : (kept : KeptFile) (others : List KeptFile) (file : File) (files : List File) → IsKept kept file → AreKept others files → AreKept (kept ∷ others) (file ∷ files)

-- The files that came: those that are whole, and the last one, which comes still; at the end all are whole.
abbrev pub CameSo : (ended : Bool) → (prefix : List ℕ) → List KeptFile → Option Coming → List File → Type 0
CameSo true prefix whole None files = AreKept whole files
CameSo true prefix whole (Some coming) files = ⊥
CameSo false prefix whole None files = (files ≡ []) × (whole ≡ [])
CameSo false prefix whole (Some coming) files = (before : List File) × (last : File) × (files ≡ before ++ last ∷ []) × AreKept whole before × IsComing prefix coming last

abbrev pub CameAs : (ended : Bool) → Arrivals → List File → Type 0
CameAs ended a files = CameSo ended (string_bytes a.prefix) a.whole.items a.coming files

-- files kept one after the other, each in place of what was there under the prefix and its name
abbrev pub with_files : (prefix : List ℕ) → List File → Contents → Contents
with_files prefix [] contents = contents
with_files prefix (file ∷ files) contents = with_files prefix files (replaced (prefix ++ file.name) file.content contents)

-- These messages came, and carry these files.
pub record HasKept (i : Incoming) (messages : List Message) (files : List File) : Type 0 where
  pub read : HasRead i.reader messages files
  pub came : CameAs i.reader.is_ended i.arrivals files
  pub count_is : i.messages ≡ shown (length messages)
