-- The elements that are written for flags: each holds the longest stretch of equal flags that
-- comes next, at most 63.
use Rattle.std.specs.Prelude.{◌≡◌, ℕ, zero, suc, ◌+◌, ◌<◌, Bool, List, [], ◌∷◌, length, drop, if◌then◌else◌}
use Rattle.mt_base.specs.Longest.{longest, IsLongest}

-- the element of n equal flags
abbrev pub element : Bool → ℕ → ℕ
element received n = if received then n else 192 + n

-- the elements of at most this many flags
abbrev pub elements_within : ℕ → List Bool → List ℕ
elements_within zero flags = []
elements_within (suc most) [] = []
elements_within (suc most) (flag ∷ flags) =
    let n = longest flag (flag ∷ flags) in
    element flag n ∷ elements_within most (drop n (flag ∷ flags))

-- the elements that are written for flags
unfoldable pub elements_of : List Bool → List ℕ
elements_of flags = elements_within (length flags) flags

-- These elements hold these flags, none is empty, and each has the longest stretch of equal flags
-- that comes next.
abbrev pub HoldLongest : List ℕ → List Bool → Type 0
HoldLongest [] flags = flags ≡ []
HoldLongest (e ∷ es) flags = (received : Bool) × (n : ℕ) × (e ≡ element received n) × (0 < n)
    × IsLongest received n flags × HoldLongest es (drop n flags)
