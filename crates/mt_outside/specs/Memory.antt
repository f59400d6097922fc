-- The forms in memory.
use Rattle.std.specs.Prelude.{ℕ, List, [], ◌∷◌, Bool, length, take, drop, nat_eq, nat_le, if◌then◌else◌, Option, Some, None}
use Rattle.std.specs.List.{list_any}
use Rattle.mt_outside.specs.Streams.{StreamTold, Heard, Bytes, Nothing, Ended}
use Rattle.mt_outside.specs.Wires.{WireTold}

-- whether the call of this number is one of those that are to fail
abbrev pub fails_at : List ℕ → ℕ → Bool
fails_at fails number = list_any (λ n. nat_eq n number) fails

-- a sink in memory: the bytes that it took, the numbers of the calls that are to fail, the number
-- of the next call, and the faults so far
pub record Taken : Type 0 where
  pub bytes : List ℕ
  pub fails : List ℕ
  pub next : ℕ
  pub faults : ℕ

-- a store in memory: its files with their names, the names that its calls were given, the numbers
-- of the calls that are to fail, the number of the next call, and the faults so far
pub record Stored : Type 0 where
  pub files : List (List ℕ × List ℕ)
  pub names : List (List ℕ)
  pub fails : List ℕ
  pub next : ℕ
  pub faults : ℕ

-- a stream in memory: what it tells, the pieces that are still to be read, whether it ends behind
-- them, the numbers of the calls that are to fail, the number of the next call, and the faults so far
pub record Streamed : Type 0 where
  pub told : StreamTold
  pub left : List (List ℕ)
  pub ends : Bool
  pub fails : List ℕ
  pub next : ℕ
  pub faults : ℕ

-- a wire in memory: what it tells, the datagrams that are still to be taken, the numbers of the
-- calls that are to fail, the number of the next call, and the faults so far
pub record Wired : Type 0 where
  pub told : WireTold
  pub left : List (List ℕ)
  pub fails : List ℕ
  pub next : ℕ
  pub faults : ℕ

-- a clock in memory: the moments that it gave, the last of them, those that are still to be given,
-- the numbers of the calls that are to fail, the number of the next call, and the faults so far
pub record Clocked : Type 0 where
  pub moments : List ℕ
  pub last : ℕ
  pub left : List ℕ
  pub fails : List ℕ
  pub next : ℕ
  pub faults : ℕ

-- a source in memory: the words that it gave, those that are still to be given, the numbers of the
-- calls that are to fail, the number of the next call, and the faults so far
pub record Chanced : Type 0 where
  pub words : List (List ℕ)
  pub left : List (List ℕ)
  pub fails : List ℕ
  pub next : ℕ
  pub faults : ℕ

-- the first of a list, or this value where there is none
abbrev pub first_or : {A : Type 0} → A → List A → A
first_or other [] = other
first_or other (x ∷ xs) = x

-- pieces of the first of which so many bytes were given
abbrev pub begun : ℕ → List (List ℕ) → List (List ℕ)
begun n [] = []
begun n (piece ∷ pieces) = drop n piece ∷ pieces

-- the pieces that are left after n bytes of the first were given: one that is given whole is gone
abbrev pub passed : ℕ → List (List ℕ) → List (List ℕ)
passed n [] = []
passed n (piece ∷ pieces) = if nat_le (length piece) n then pieces else drop n piece ∷ pieces

-- what a read gives of these pieces, into so much room
abbrev pub read_of : Bool → ℕ → List (List ℕ) → Heard
read_of ends room [] = if ends then Ended else Nothing
read_of ends room ([] ∷ pieces) = Nothing
read_of ends room ((byte ∷ bytes) ∷ pieces) = Bytes (take room (byte ∷ bytes))

-- what a take gives of these datagrams, into so much room
abbrev pub take_of : ℕ → List (List ℕ) → Option (List ℕ)
take_of room [] = None
take_of room ([] ∷ datagrams) = None
take_of room ((byte ∷ bytes) ∷ datagrams) = Some (take room (byte ∷ bytes))
