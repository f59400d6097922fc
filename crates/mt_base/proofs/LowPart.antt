-- Lemmas on numbers of which only the low part is shown.
use Rattle.std.proofs.Common.{◌≡◌, ℕ, ◌+◌, ◌-◌, ◌*◌, ◌/◌, ◌%◌, ◌<◌, ◌≤◌, inl, inr, Bool, true, false, leb, cond, Option, Some, None, refl, sym, ap, ◌∙◌, subst, arith}
use Rattle.std.proofs.lemmas.Bool.{cases_order}
use Rattle.std.proofs.lemmas.Bool.Decides.{nat_tests}
use Rattle.std.proofs.lemmas.Nat.{div-add-mod', mod-mul-add, mod_below, row_fits}
use Rattle.mt_base.specs.Nearness.{IsNear, Near, nearest}

-- the last number before `end` with this low part
pub last_with : (m end low : ℕ) → 0 < m → low < m → low < end → (low + (end - 1 - low) / m * m) + (end - 1 - low) % m ≡ end - 1
last_with m end low p s h = omega (arith, div-add-mod' (end - 1 - low) m)

pub low_of : (m q low : ℕ) → low < m → (low + q * m) % m ≡ low
low_of m q low h =
    let e : low + q * m ≡ q * m + low = omega arith in
    ap (λ n. n % m) e ∙ mod-mul-add q m low h

pub is_near : (half reference low : ℕ) → 0 < half → low < 2 * half → low < reference + 2 * half / 2 → IsNear (2 * half) reference low (low + (reference + 2 * half / 2 - 1 - low) / (2 * half) * (2 * half))
is_near half reference low p s h =
    let m = 2 * half in
    let last = last_with (2 * half) (reference + 2 * half / 2) low (omega arith) s h in
    let rest = mod_below (reference + 2 * half / 2 - 1 - low) (2 * half) (omega arith) in
    record {
      low_part = low_of (2 * half) _ low s;
      not_below = omega (arith, last, rest);
      below = omega (arith, last);
    }

pub nearest_is : (half reference low : ℕ) → 0 < half → low < 2 * half → Near (2 * half) reference low (nearest (2 * half) reference low)
unfolding nearest
nearest_is half reference low p s =
    by_test (leb (reference + 2 * half / 2) low) refl
  where
    by_test : (b : Bool) → leb (reference + 2 * half / 2) low ≡ b → Near (2 * half) reference low (cond b None (Some (low + (reference + 2 * half / 2 - 1 - low) / (2 * half) * (2 * half))))
    by_test true e = grind (arith, nat_tests)
    by_test false e = is_near half reference low p s (grind (arith, nat_tests))

-- two numbers with one low part that are less than a modulus apart are one
pub close_same : (m low n k : ℕ) → 0 < m → n % m ≡ low → k % m ≡ low → n < k + m → k < n + m → n ≡ k
close_same m low n k p a b c d =
    let en = div-add-mod' n m in
    let ek = div-add-mod' k m in
    let sn = mod_below n m p in
    elim (cases_order (n / m) (k / m)) [
      | inl h ↦ (let f : n / m * m ≡ k / m * m = ap (λ q. q * m) h in omega arith)
      | inr (inl h) ↦ absurd (let f = row_fits (n / m) m (k / m) m h (omega arith) in omega arith)
      | inr (inr h) ↦ absurd (let f = row_fits (k / m) m (n / m) m h (omega arith) in omega arith)
    ]

pub one_near : (m r low : ℕ) (x y : Option ℕ) → 0 < m → Near m r low x → Near m r low y → x ≡ y
one_near m r low None None p a b = refl
one_near m r low None (Some k) p a b = absurd (omega (arith, b.low_part, b.below, div-add-mod' k m, mod_below k m p))
one_near m r low (Some n) None p a b = absurd (omega (arith, a.low_part, a.below, div-add-mod' n m, mod_below n m p))
one_near m r low (Some n) (Some k) p a b =
    ap Some (close_same m low n k p a.low_part b.low_part (omega (arith, a.below, a.not_below, b.below, b.not_below)) (omega (arith, a.below, a.not_below, b.below, b.not_below)))

pub nearest_meant : (half reference n : ℕ) → 0 < half → reference ≤ n + half → n < reference + half → nearest (2 * half) reference (n % (2 * half)) ≡ Some n
nearest_meant half reference n p low high =
    let is : IsNear (2 * half) reference (n % (2 * half)) n = record { low_part = refl; not_below = omega arith; below = omega arith } in
    one_near (2 * half) reference (n % (2 * half)) (nearest (2 * half) reference (n % (2 * half))) (Some n) (omega arith) (nearest_is half reference (n % (2 * half)) p (mod_below n (2 * half) (omega arith))) is

pub nearest_shown : (half reference low n : ℕ) → 0 < half → low < 2 * half → nearest (2 * half) reference low ≡ Some n → n % (2 * half) ≡ low
nearest_shown half reference low n p s e =
    let is : IsNear (2 * half) reference low n = subst (Near (2 * half) reference low) e (nearest_is half reference low p s) in
    is.low_part

-- what is near is `nearest`
pub is_nearest : (m half r low : ℕ) (x : Option ℕ) → m ≡ 2 * half → 0 < half → low < m → Near m r low x → x ≡ nearest m r low
is_nearest m half r low x e p s h =
    let is : Near m r low (nearest m r low) = subst (λ n. Near n r low (nearest n r low)) (sym e) (nearest_is half r low p (omega arith)) in
    one_near m r low x (nearest m r low) (omega arith) h is

-- the last number before the end of what is near, less what leads to the low part
pub near_found : (m half r low : ℕ) → m ≡ 2 * half → 0 < half → low < m → low < r + m / 2 → IsNear m r low (r + m / 2 - 1 - (r + m / 2 - 1 - low) % m)
near_found m half r low e p s h =
    let last = last_with m (r + m / 2) low (omega arith) s h in
    let rest = mod_below (r + m / 2 - 1 - low) m (omega arith) in
    let same : r + m / 2 - 1 - (r + m / 2 - 1 - low) % m ≡ low + (r + m / 2 - 1 - low) / m * m = omega (arith, last) in
    record {
      low_part = ap (λ n. n % m) same ∙ low_of m _ low s;
      not_below = omega (arith, last, rest);
      below = omega (arith, last);
    }

-- the same, where the modulus was read
pub near_read : (m k half r low : ℕ) → k ≡ m → m ≡ 2 * half → 0 < half → low < m → low < r + k / 2 → IsNear m r low (r + k / 2 - 1 - (r + k / 2 - 1 - low) % k)
near_read m k half r low read e p s h =
    subst (λ (j : ℕ). IsNear m r low (r + j / 2 - 1 - (r + j / 2 - 1 - low) % j)) (sym read)
    (near_found m half r low e p s (subst (λ (j : ℕ). low < r + j / 2) read h))
