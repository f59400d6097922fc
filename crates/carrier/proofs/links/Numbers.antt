-- Lemmas on what a sender cut and what is settled of it.
use Rattle.std.proofs.Common.{◌≡◌, ℕ, zero, suc, ◌<◌, ◌≤◌, ◌⊎◌, inl, inr, Bool, true, false, not, ltb, cond, ◌&&◌, Option, Some, None, is_some, unwrap_or, refl, sym, ap, ◌∙◌, subst, arith}
use Rattle.std.proofs.lemmas.Bool.{cases_lt, and_parts}
use Rattle.std.proofs.lemmas.Bool.Decides.{nat_tests}
use Rattle.mt_base.specs.Trace.{Trace}
use Rattle.mt_windows.specs.Sending.{Act, Limits, cuts, least, or_else, is_open, settled, lowest, lowest_or_next, passed_over, is_passed_over}

-- ---- the least number that passes a test

-- what the least of the first n numbers is
pub data Least (f : ℕ → Bool) (n : ℕ) (o : Option ℕ) : Type 0 where
  Absent : o ≡ None → ((p : ℕ) → p < n → f p ≡ false) → Least f n o
  Found : (k : ℕ) → o ≡ Some k → k < n → f k ≡ true → ((p : ℕ) → p < k → f p ≡ false) → Least f n o

pub least_cases : (f : ℕ → Bool) (n : ℕ) → Least f n (least f n)
least_cases f zero = Absent refl (λ p l. absurd (omega (arith, l)))
least_cases f (suc n) = more (least f n) (least_cases f n)
  where
    to : (p : ℕ) → ((q : ℕ) → q < n → f q ≡ false) → f n ≡ false → (p < n) ⊎ (n ≤ p) → p < suc n → f p ≡ false
    to p before here (inl l) less = before p l
    to p before here (inr ge) less = let e : p ≡ n = omega (arith, ge, less) in ap f e ∙ here

    here : (o : Option ℕ) → o ≡ None → ((q : ℕ) → q < n → f q ≡ false) → (b : Bool) → f n ≡ b → Least f (suc n) (or_else o (cond b (Some n) None))
    here o e before true is = Found n (ap (λ x. or_else x (Some n)) e) (omega arith) is before
    here o e before false is = Absent (ap (λ x. or_else x None) e) (λ p less. to p before is (cases_lt p n) less)

    more : (o : Option ℕ) → Least f n o → Least f (suc n) (or_else o (cond (f n) (Some n) None))
    more o (Absent e before) = here o e before (f n) refl
    more o (Found k e l is before) = Found k (ap (λ x. or_else x (cond (f n) (Some n) None)) e) (omega (arith, l)) is before

-- ---- the lowest unsettled part

pub open_cut : (l : Limits) (a : Trace Act) (p : ℕ) → is_open l a p ≡ true → p < cuts a
open_cut l a p h = let both = and_parts (ltb p (cuts a)) (not (settled l a p)) h in let e = both.0 in grind (arith, nat_tests)

pub open_unsettled : (l : Limits) (a : Trace Act) (p : ℕ) → is_open l a p ≡ true → settled l a p ≡ false
open_unsettled l a p h = by_value (settled l a p) (and_parts (ltb p (cuts a)) (not (settled l a p)) h).1
  where
    by_value : (b : Bool) → not b ≡ true → b ≡ false
    by_value true e = absurd (cc)
    by_value false e = refl

pub open_from : (l : Limits) (a : Trace Act) (p : ℕ) → p < cuts a → settled l a p ≡ false → is_open l a p ≡ true
open_from l a p less e =
    let yes' : ltb p (cuts a) ≡ true = grind (arith, nat_tests) in
    ap (λ b. b && not (settled l a p)) yes' ∙ ap not e

-- each part below the lowest unsettled one is settled
pub below_lowest : (l : Limits) (a : Trace Act) (q : ℕ) → q < lowest_or_next l a → settled l a q ≡ true
below_lowest l a q less = of_least (lowest l a) (least_cases (is_open l a) (cuts a)) less
  where
    closed : (b : Bool) → settled l a q ≡ b → is_open l a q ≡ false → q < cuts a → settled l a q ≡ true
    closed true e shut cut = e
    closed false e shut cut = absurd (let o = open_from l a q cut e in cc)

    of_least : (o : Option ℕ) → Least (is_open l a) (cuts a) o → q < unwrap_or o (cuts a) → settled l a q ≡ true
    of_least o (Absent e none) h = let here : q < cuts a = subst (λ x. q < unwrap_or x (cuts a)) e h in closed (settled l a q) refl (none q here) here
    of_least o (Found k e kl is none) h = let here : q < k = subst (λ x. q < unwrap_or x (cuts a)) e h in closed (settled l a q) refl (none q here) (omega (arith, here, kl))

pub lowest_le : (l : Limits) (a : Trace Act) (p : ℕ) → is_open l a p ≡ true → lowest_or_next l a ≤ p
lowest_le l a p h = by_place (cases_lt p (lowest_or_next l a))
  where
    by_place : (p < lowest_or_next l a) ⊎ (lowest_or_next l a ≤ p) → lowest_or_next l a ≤ p
    by_place (inl less) = absurd (let e = below_lowest l a p less in let f = open_unsettled l a p h in cc)
    by_place (inr ge) = ge

pub lowest_within : (l : Limits) (a : Trace Act) → lowest_or_next l a ≤ cuts a
lowest_within l a = of_least (lowest l a) (least_cases (is_open l a) (cuts a))
  where
    of_least : (o : Option ℕ) → Least (is_open l a) (cuts a) o → unwrap_or o (cuts a) ≤ cuts a
    of_least o (Absent e none) = subst (λ x. unwrap_or x (cuts a) ≤ cuts a) (sym e) (omega arith)
    of_least o (Found k e kl is none) = subst (λ x. unwrap_or x (cuts a) ≤ cuts a) (sym e) (omega (arith, kl))

none_some : (o : Option ℕ) → o ≡ None → is_some o ≡ true → ⊥
none_some None e h = cc
none_some (Some k) e h = cc

pub lowest_open : (l : Limits) (a : Trace Act) → is_some (lowest l a) ≡ true → is_open l a (lowest_or_next l a) ≡ true
lowest_open l a h = of_least (lowest l a) (least_cases (is_open l a) (cuts a)) h
  where
    of_least : (o : Option ℕ) → Least (is_open l a) (cuts a) o → is_some o ≡ true → is_open l a (unwrap_or o (cuts a)) ≡ true
    of_least o (Absent e none) is = absurd (none_some o e is)
    of_least o (Found k e kl yes' none) is = subst (λ x. is_open l a (unwrap_or x (cuts a)) ≡ true) (sym e) yes'

pub passed_open : (l : Limits) (a : Trace Act) → is_some (passed_over l a) ≡ true → is_open l a (unwrap_or (passed_over l a) 0) ≡ true
passed_open l a h = of_least (passed_over l a) (least_cases (is_passed_over l a) (cuts a)) h
  where
    of_least : (o : Option ℕ) → Least (is_passed_over l a) (cuts a) o → is_some o ≡ true → is_open l a (unwrap_or o 0) ≡ true
    of_least o (Absent e none) is = absurd (none_some o e is)
    of_least o (Found k e kl yes' none) is = subst (λ x. is_open l a (unwrap_or x 0) ≡ true) (sym e) (and_parts (is_open l a k) _ yes').0

-- a part is settled only once it was cut
pub settled_cut : (l : Limits) (a : Trace Act) (p : ℕ) → is_open l a p ≡ false → p < cuts a → settled l a p ≡ true
settled_cut l a p h less = by_value (settled l a p) refl
  where
    by_value : (b : Bool) → settled l a p ≡ b → settled l a p ≡ true
    by_value true e = e
    by_value false e = absurd (let o = open_from l a p less e in cc)

-- the lowest unsettled part is one, or all are settled
pub lowest_or_all : (l : Limits) (a : Trace Act) → (is_open l a (lowest_or_next l a) ≡ true) ⊎ (cuts a ≤ lowest_or_next l a)
lowest_or_all l a = of_least (lowest l a) (least_cases (is_open l a) (cuts a))
  where
    of_least : (o : Option ℕ) → Least (is_open l a) (cuts a) o → (is_open l a (unwrap_or o (cuts a)) ≡ true) ⊎ (cuts a ≤ unwrap_or o (cuts a))
    of_least o (Absent e none) = inr (subst (λ x. cuts a ≤ unwrap_or x (cuts a)) (sym e) (omega arith))
    of_least o (Found k e kl yes' none) = inl (subst (λ x. is_open l a (unwrap_or x (cuts a)) ≡ true) (sym e) yes')
