-- Reading: a place, the bytes that are left from it on, and fields taken from their front.
use Rattle.std.specs.Prelude.{◌≡◌, ℕ, ◌+◌, List, length, take, drop, nat_lt, if◌then◌else◌, Result, Ok, Err}
use Rattle.byteorder.specs.Endian.{big_number, little_number}
use Rattle.mt_base.specs.declared.errors.Short.{Short}

-- the place, and the bytes that are left
pub record Left : Type 0 where
  pub at : ℕ
  pub bytes : List ℕ

-- what is left behind n bytes
abbrev pub past : ℕ → Left → Left
past n s = record { at = s.at + n; bytes = drop n s.bytes }

-- A field of n bytes, seen by f: its value and what is left behind it, or it is cut short at its
-- first byte.
abbrev pub field : {A : Type 0} → ℕ → (List ℕ → A) → Left → Result (A × Left) Short
field n f s =
    if nat_lt (length s.bytes) n then Err (record { at = s.at; need = n }) else Ok (f s.bytes, past n s)

-- the next n bytes as they are
abbrev pub block : ℕ → Left → Result (List ℕ × Left) Short
block n s = field n (take n) s

-- a number of n bytes, the highest first
abbrev pub big : ℕ → Left → Result (ℕ × Left) Short
big n s = field n (big_number n) s

-- a number of n bytes, the lowest first
abbrev pub little : ℕ → Left → Result (ℕ × Left) Short
little n s = field n (little_number n) s

-- What a reader returned, seen by `view`, and what it left are what reading gives. An error leaves
-- everything as it was.
abbrev pub Gives : {X Y E : Type 0} → (X → Y) → Left → Left → Result X E → Result (Y × Left) E → Type 0
Gives view old new (Ok x) read = read ≡ Ok (view x, new)
Gives view old new (Err e) read = (read ≡ Err e) × (new ≡ old)
