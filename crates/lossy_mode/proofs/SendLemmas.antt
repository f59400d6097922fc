-- What an open link sends.
use Rattle.std.proofs.Common.{◌≡◌, ℕ, ◌<◌, Bool, true, false, ◌&&◌, nat_lt, List, length, refl, arith}
use Rattle.std.proofs.lemmas.Bool.Decides.{nat_tests}
use Rattle.mt_windows.specs.declared.limits.TheConstants.{NUMBERS}
use Rattle.lossy_mode.specs.Thin.{may_send}

both : (a b c : Bool) → (a && (b && c)) ≡ true → c ≡ true
both true true c h = h
both true false c h = cc
both false b c h = cc

pub may_number : (parts : List (List ℕ)) (window number : ℕ) → may_send parts window number ≡ true → number < NUMBERS
may_number parts window number h =
    let test : nat_lt number NUMBERS ≡ true = both (nat_lt 0 (length parts)) (nat_lt 0 window) (nat_lt number NUMBERS) h in
    grind (arith, nat_tests)

pub may_some : (parts : List (List ℕ)) (window number : ℕ) → may_send parts window number ≡ true → 0 < length parts
may_some parts window number h =
    let test : nat_lt 0 (length parts) ≡ true = first (nat_lt 0 (length parts)) (nat_lt 0 window && nat_lt number NUMBERS) h in
    grind (arith, nat_tests)
  where
    first : (a b : Bool) → (a && b) ≡ true → a ≡ true
    first true b h = refl
    first false b h = cc
