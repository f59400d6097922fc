-- How parts stand in two rings: their lengths, and their bytes one after the other.
use Rattle.std.specs.Prelude.{◌≡◌, ℕ, ◌+◌, ◌≤◌, List, [], ◌∷◌, length, take, drop, All}
use Rattle.mt_windows.specs.declared.limits.TheConstants.{DATAGRAM, WINDOW}

-- the parts of these lengths that the bytes are, one after the other
abbrev pub parts_of : List ℕ → List ℕ → List (List ℕ)
parts_of [] bytes = []
parts_of (n ∷ lengths) bytes = take n bytes ∷ parts_of lengths (drop n bytes)

-- the bytes that these lengths speak of
abbrev pub total : List ℕ → ℕ
total [] = 0
total (n ∷ lengths) = n + total lengths

-- lengths and bytes belong together, and the rings have room for them
pub record IsStored (lengths bytes : List ℕ) : Type 0 where
  pub short : All (λ n. n ≤ DATAGRAM) lengths
  pub total_is : total lengths ≡ length bytes
  pub few : length lengths ≤ WINDOW
