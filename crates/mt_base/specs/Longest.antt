-- The longest stretch of equal flags at the front of a list, of at most 63 flags: as many as six
-- bits count.
use Rattle.std.specs.Prelude.{◌≡◌, ℕ, ◌≤◌, Bool, not, List, take, replicate, if◌then◌else◌}
use Rattle.std.specs.List.{prefix_len}

-- two flags are equal
abbrev pub same : Bool → Bool → Bool
same received flag = if received then flag else not flag

-- how many of the next 63 flags are this one, up to the first that is not
abbrev pub longest : Bool → List Bool → ℕ
longest received flags = prefix_len (same received) (take 63 flags)

-- The first n flags are all this one, n is at most 63, and no greater number is so.
pub record IsLongest (received : Bool) (n : ℕ) (flags : List Bool) : Type 0 where
  pub equal : take n flags ≡ replicate n received
  pub short : n ≤ 63
  pub greatest : (m : ℕ) → m ≤ 63 → take m flags ≡ replicate m received → m ≤ n
