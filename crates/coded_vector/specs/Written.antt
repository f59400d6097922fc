-- The coded bytes that are written for flags: runs of the longest stretch of equal flags that
-- comes next, at most 63, where that is seven flags or more or all that are left, and seven flags
-- in one byte where not. Fewer than seven flags at the end are runs too.
use Rattle.std.specs.Prelude.{◌≡◌, ℕ, zero, suc, ◌+◌, ◌*◌, ◌<◌, ◌≤◌, ◌==◌, ◌||◌, ◌⊎◌, Bool, List, [], ◌∷◌, length, map, take, drop, replicate, nat_lt, nat_le, if◌then◌else◌}
use Rattle.mt_base.specs.Longest.{longest, IsLongest}

-- the byte of a run of n equal flags
abbrev pub run_byte : Bool → ℕ → ℕ
run_byte received n = if received then 192 + n else 128 + n

-- the byte whose lowest bits are these flags, the first flag in the lowest bit
abbrev pub bits_byte : List Bool → ℕ
bits_byte [] = 0
bits_byte (flag ∷ flags) = (if flag then 1 else 0) + 2 * bits_byte flags

-- a run is written of a stretch of n flags, where so many flags are left
abbrev pub takes_run : ℕ → ℕ → Bool
takes_run n left = nat_le 7 n || n == left || nat_lt left 7

-- how many flags, the first of which is given, go into the next byte
abbrev pub next_count : Bool → List Bool → ℕ
next_count flag flags =
    let n = longest flag flags in
    if takes_run n (length flags) then n else 7

-- the next byte
abbrev pub next_byte : Bool → List Bool → ℕ
next_byte flag flags =
    let n = longest flag flags in
    if takes_run n (length flags) then run_byte flag n else bits_byte (take 7 flags)

-- the bytes of at most this many flags
abbrev pub coded_within : ℕ → List Bool → List ℕ
coded_within zero flags = []
coded_within (suc most) [] = []
coded_within (suc most) (flag ∷ flags) =
    next_byte flag (flag ∷ flags) ∷ coded_within most
    (drop (next_count flag (flag ∷ flags)) (flag ∷ flags))

-- the coded bytes that are written for flags
unfoldable pub coded_of : List Bool → List ℕ
coded_of flags = coded_within (length flags) flags

-- bytes that are written one by one
abbrev pub singles : List ℕ → List (List ℕ)
singles cs = map (λ c. c ∷ []) cs

-- This byte is a run that holds the first n flags: the longest stretch that comes next, of seven
-- flags or more, or of all that are left, or fewer than seven are left.
pub record IsRun (c n : ℕ) (flags : List Bool) : Type 0 where
  pub received : Bool
  pub byte_is : c ≡ run_byte received n
  pub some : 0 < n
  pub longest : IsLongest received n flags
  pub chosen : (7 ≤ n) ⊎ ((n ≡ length flags) ⊎ (length flags < 7))

-- This byte holds the first seven flags, which are not all equal.
pub record IsSeven (c n : ℕ) (flags : List Bool) : Type 0 where
  pub seven : n ≡ 7
  pub enough : 7 ≤ length flags
  pub unequal : (received : Bool) → ¬ (take 7 flags ≡ replicate 7 received)
  pub byte_is : c ≡ bits_byte (take 7 flags)

-- These bytes hold these flags, each as many as the rule says.
abbrev pub HoldPieces : List ℕ → List Bool → Type 0
HoldPieces [] flags = flags ≡ []
HoldPieces (c ∷ cs) flags =
    (n : ℕ) × (IsRun c n flags ⊎ IsSeven c n flags) × HoldPieces cs (drop n flags)
