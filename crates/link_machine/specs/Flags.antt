-- Flags of numbers that follow one another, and their writing.
use Rattle.std.specs.Prelude.{ℕ, zero, suc, ◌+◌, Bool, List, [], ◌∷◌, length}
use Rattle.mt_base.specs.Writing.{Spot}

-- the flags of so many numbers from one on
abbrev pub flags_from : (ℕ → Bool) → ℕ → ℕ → List Bool
flags_from has from zero = []
flags_from has from (suc n) = has from ∷ flags_from has (from + 1) n

-- these flags are said of the numbers from one on, one after the other
abbrev pub AreSaid : (ℕ → Bool → Type 0) → ℕ → List Bool → Type 0
AreSaid says from [] = Unit {0}
AreSaid says from (flag ∷ flags) = says from flag × AreSaid says (from + 1) flags

-- how many bytes a buffer has
abbrev pub size_of : Spot → ℕ
size_of s = length s.before + length s.after
