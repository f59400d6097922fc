-- What a list of seen numbers is kept as.
use Rattle.std.specs.Prelude.{◌≡◌, ℕ, ◌+◌, ◌%◌, ◌<◌, ◌≤◌, List, Option, unwrap_or}
use Rattle.mt_windows.specs.declared.limits.TheConstants.{TELL}
use Rattle.mt_windows.specs.BitsView.{is_set}
use Rattle.mt_windows.specs.Noted.{greatest_of, is_noted}

-- what is kept: the greatest number, and whether it and those below it were noted, each number at
-- the place that it leaves modulo their count, in words of bits
pub record Marks : Type 0 where
  pub greatest : Option ℕ
  pub recent : List ℕ

-- the bits say of the last numbers up to this one whether they were noted
abbrev pub Covers : List ℕ → ℕ → List ℕ → Type 0
Covers words top noted = (n : ℕ) → n ≤ top → top < n + TELL → is_set words (n % TELL) ≡ is_noted n noted

-- this value stands for these noted numbers
pub record Notes (s : Marks) (noted : List ℕ) : Type 0 where
  pub greatest_is : s.greatest ≡ greatest_of noted
  pub recent_are : Covers s.recent (unwrap_or s.greatest 0) noted
