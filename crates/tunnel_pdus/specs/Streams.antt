-- Streams of values that stand one behind the other. `Spells text v` says that a text spells v,
-- `Fault bytes r` that r is the first fault of what bytes begin with.
use Rattle.std.specs.Prelude.{◌≡◌, ◌⊎◌, ℕ, ◌^◌, ◌<◌, List, [], ◌∷◌, ◌++◌, length, All, Result, Ok, Err}
use Rattle.tunnel_pdus.specs.declared.part.Part.{Part}
use Rattle.tunnel_pdus.specs.declared.part.Part.TheVariants.{Whole, More}

-- bytes begin with a spelling of v, of so many bytes
pub record Begins {V : Type 0} (Spells : List ℕ → V → Type 0) (bytes : List ℕ) (v : V) (used : ℕ) : Type 0 where
  pub text : List ℕ
  pub rest : List ℕ
  pub spells : Spells text v
  pub bytes_are : bytes ≡ text ++ rest
  pub used_is : used ≡ length text

-- bytes begin a value or have a fault, so that it is known what they are
abbrev pub IsKnown : {V R : Type 0} → (List ℕ → V → Type 0) → (List ℕ → R → Type 0) → List ℕ → Type 0
IsKnown {V} {R} Spells Fault bytes =
    ((v : V) × (used : ℕ) × Begins Spells bytes v used) ⊎ ((r : R) × Fault bytes r)

-- Bytes are only the beginning of a value, and each of their fields that is there in full keeps its
-- rule. `need` is the least length at which it can be known what they are.
pub record Wants {V R : Type 0} (Spells : List ℕ → V → Type 0) (Fault : List ℕ → R → Type 0) (bytes : List ℕ) (need : ℕ) : Type 0 where
  pub longer : length bytes < need
  pub not_before : (more : List ℕ) → length (bytes ++ more) < need → IsKnown Spells Fault (bytes ++ more) → ⊥
  pub possible : (more : List ℕ) × All (λ b. b < 2 ^ 8) more × (length (bytes ++ more) ≡ need) × IsKnown Spells Fault (bytes ++ more)

-- what the front of a stream is
abbrev pub Front : {V R : Type 0} → (List ℕ → V → Type 0) → (List ℕ → R → Type 0) → List ℕ → Result (Part V) R → Type 0
Front Spells Fault bytes (Ok (Whole v used)) = Begins Spells bytes v used
Front Spells Fault bytes (Ok (More need)) = Wants Spells Fault bytes need
Front Spells Fault bytes (Err r) = Fault bytes r

-- these bytes spell these values, one behind the other
pub data SpellsAll {V : Type 0} (Spells : List ℕ → V → Type 0) : List ℕ → List V → Type 0 where
  none : SpellsAll Spells [] []
  next : (text rest : List ℕ) (v : V) (vs : List V) → Spells text v → SpellsAll Spells rest vs → SpellsAll Spells (text ++ rest) (v ∷ vs)

-- The values of a stream: the longest list of values that it begins with, and the bytes that are
-- left, which don't begin with a value.
pub record Stream {V : Type 0} (Spells : List ℕ → V → Type 0) (bytes : List ℕ) (vs : List V) (left : List ℕ) : Type 0 where
  pub front : List ℕ
  pub spell : SpellsAll Spells front vs
  pub bytes_are : bytes ≡ front ++ left
  pub no_next : (v : V) (used : ℕ) → Begins Spells left v used → ⊥
