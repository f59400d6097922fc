-- Files and readers that tell what they still give, as `std` says it of what reads and seeks.
use Rattle.std.specs.Prelude.{◌≡◌, ℕ, ◌⊎◌, List, take, drop, Option, Some}
use Rattle.std.specs.Io.KnownBytes.{Consumes, IsAtEnd, Keeps}
use Rattle.mt_outside.specs.declared.got.Got.{Got}
use Rattle.mt_outside.specs.declared.got.Got.TheVariants as got

-- what a file still gives are the bytes of this content from a place on
abbrev pub StandsAt : Option (List ℕ) → List ℕ → ℕ → Type 0
StandsAt remaining content at = remaining ≡ Some (drop at content)

-- of every value of the type: where its position and its bytes are known, what it still gives are
-- the bytes from the position on
abbrev pub IsFile : {F : Type 0} → (remaining : F → Option (List ℕ)) → (position : F → Option ℕ) → (bytes : F → Option (List ℕ)) → Type 0
IsFile {F} remaining position bytes =
    (f : F) (at : ℕ) (content : List ℕ) → position f ≡ Some at → bytes f ≡ Some content → StandsAt (remaining f) content at

-- a file of such a type, with a known position and this content
pub record IsMovable {F : Type 0} (remaining : F → Option (List ℕ)) (position : F → Option ℕ) (bytes : F → Option (List ℕ)) (f : F) (content : List ℕ) : Type 0 where
  pub is_file : IsFile remaining position bytes
  pub place : ℕ
  pub position_known : position f ≡ Some place
  pub bytes_known : bytes f ≡ Some content

-- a file that has come to place `from` of this content and can be read from place `at` on: it is
-- there, or can be moved
abbrev pub Reaches : {F : Type 0} → (remaining : F → Option (List ℕ)) → (position : F → Option ℕ) → (bytes : F → Option (List ℕ)) → F → List ℕ → (from at : ℕ) → Type 0
Reaches remaining position bytes f content from at =
    StandsAt (remaining f) content from × ((from ≡ at) ⊎ IsMovable remaining position bytes f content)

-- what a read of a stream did to what its reader still gives, by its answer and the buffer it left
abbrev pub Gave : (old new : Option (List ℕ)) → Got → List ℕ → Type 0
Gave old new (got.Bytes n) out = Consumes old new (take n out)
Gave old new got.Nothing out = Keeps old new
Gave old new got.End out = Keeps old new × IsAtEnd new
