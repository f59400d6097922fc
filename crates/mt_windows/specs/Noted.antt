-- Numbers that were noted as seen, in a list, the latest first.
use Rattle.std.specs.Prelude.{ℕ, ◌+◌, Bool, false, ◌==◌, ◌||◌, ◌&&◌, nat_lt, max, List, [], ◌∷◌, Option, Some, None, unwrap_or}

-- the greatest number
abbrev pub greatest_of : List ℕ → Option ℕ
greatest_of [] = None
greatest_of (n ∷ noted) = Some (max n (unwrap_or (greatest_of noted) 0))

-- whether this number was noted
abbrev pub is_noted : ℕ → List ℕ → Bool
is_noted n [] = false
is_noted n (m ∷ noted) = (n == m) || is_noted n noted

-- whether this number counts as seen: it was noted, and is among the last `tell` numbers up to the
-- greatest
abbrev pub is_seen : ℕ → List ℕ → ℕ → Bool
is_seen tell noted n = is_noted n noted && nat_lt (unwrap_or (greatest_of noted) 0) (n + tell)
