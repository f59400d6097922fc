-- Reading a number of which only the low part is shown: the one that is near to a reference.
use Rattle.std.specs.Prelude.{◌≡◌, ℕ, ◌+◌, ◌-◌, ◌*◌, ◌/◌, ◌%◌, ◌<◌, ◌≤◌, nat_le, if◌then◌else◌, Option, Some, None}

-- n has this low part, and lies at most half the modulus below the reference or less than half of
-- it above
pub record IsNear (modulus reference low n : ℕ) : Type 0 where
  pub low_part : n % modulus ≡ low
  pub not_below : reference ≤ n + modulus / 2
  pub below : n < reference + modulus / 2

-- What is read. Where it is None, the one integer that is near is low - modulus, a negative one.
abbrev pub Near : ℕ → ℕ → ℕ → Option ℕ → Type 0
Near modulus reference low (Some n) = IsNear modulus reference low n
Near modulus reference low None = reference + modulus ≤ low + modulus / 2

-- what is read, as a value: low and as many moduli as lead to the last number that is near
unfoldable pub nearest : ℕ → ℕ → ℕ → Option ℕ
nearest modulus reference low =
    if nat_le (reference + modulus / 2) low then None
    else Some (low + (reference + modulus / 2 - 1 - low) / modulus * modulus)
