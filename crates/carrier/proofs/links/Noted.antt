-- Lemmas on numbers that were noted, on the last transmission known as told, and on the floor of
-- transmissions.
use Rattle.std.proofs.Common.{◌≡◌, ℕ, zero, suc, ◌+◌, ◌-◌, ◌<◌, ◌≤◌, ◌⊎◌, inl, inr, Bool, true, false, eqb, ltb, cond, ◌||◌, max, List, [], ◌∷◌, Option, Some, None, unwrap_or, refl, ap, ◌∙◌, arith}
use Rattle.std.proofs.lemmas.Bool.{cases_lt}
use Rattle.std.proofs.lemmas.Bool.Decides.{nat_tests}
use Rattle.mt_base.specs.Trace.{Trace, Start, ◌▷◌}
use Rattle.mt_windows.specs.Noted.{greatest_of, is_noted}
use Rattle.mt_windows.specs.Sending.Act.{Gave, Cut, Resent, ToldPart, ToldTransmission}
use Rattle.mt_windows.specs.Sending.{Act, Limits, cuts, earliest, floor_transmission, last_end, lowest_or_next, transmissions}
use Rattle.mt_windows.proofs.Pieces.{or_true}

-- ---- noted numbers

or_right : (a b : Bool) → b ≡ true → a || b ≡ true
or_right true b h = refl
or_right false b h = h

pub noted_more : (q t : ℕ) (seen : List ℕ) → is_noted q seen ≡ true → is_noted q (t ∷ seen) ≡ true
noted_more q t seen h = or_right (eqb q t) (is_noted q seen) h

pub noted_now : (t : ℕ) (seen : List ℕ) → is_noted t (t ∷ seen) ≡ true
noted_now t seen = let same : eqb t t ≡ true = grind (arith, nat_tests) in ap (λ b. b || is_noted t seen) same

-- one of two that were noted
pub noted_cases : (q t : ℕ) (seen : List ℕ) → is_noted q (t ∷ seen) ≡ true → (q ≡ t) ⊎ (is_noted q seen ≡ true)
noted_cases q t seen h = by_value (or_true (eqb q t) (is_noted q seen) h)
  where
    by_value : (eqb q t ≡ true) ⊎ (is_noted q seen ≡ true) → (q ≡ t) ⊎ (is_noted q seen ≡ true)
    by_value (inl e) = inl (grind (arith, nat_tests))
    by_value (inr e) = inr e

pub noted_le : (q : ℕ) (seen : List ℕ) (d : ℕ) → is_noted q seen ≡ true → q ≤ unwrap_or (greatest_of seen) d
noted_le q [] d h = absurd (cc)
noted_le q (t ∷ seen) d h = by_value (noted_le q seen 0) (noted_cases q t seen h)
  where
    by_value : (is_noted q seen ≡ true → q ≤ unwrap_or (greatest_of seen) 0) → (q ≡ t) ⊎ (is_noted q seen ≡ true) → q ≤ max t (unwrap_or (greatest_of seen) 0)
    by_value rest (inl e) = omega (arith, e)
    by_value rest (inr e) = omega (arith, rest e)

-- the greatest number was noted, where there is one
pub greatest_is : (seen : List ℕ) (d : ℕ) → (unwrap_or (greatest_of seen) d ≡ d) ⊎ (is_noted (unwrap_or (greatest_of seen) d) seen ≡ true)
greatest_is [] d = inl refl
greatest_is (t ∷ seen) d = by_place (greatest_is seen 0) (cases_lt t (unwrap_or (greatest_of seen) 0))
  where
    by_value : t < unwrap_or (greatest_of seen) 0 → (unwrap_or (greatest_of seen) 0 ≡ 0) ⊎ (is_noted (unwrap_or (greatest_of seen) 0) seen ≡ true) → is_noted (max t (unwrap_or (greatest_of seen) 0)) (t ∷ seen) ≡ true
    by_value less (inl e) = absurd (omega (arith, less, e))
    by_value less (inr is) =
        let same : max t (unwrap_or (greatest_of seen) 0) ≡ unwrap_or (greatest_of seen) 0 = omega (arith, less) in
        ap (λ q. is_noted q (t ∷ seen)) same ∙ noted_more (unwrap_or (greatest_of seen) 0) t seen is

    by_place : (unwrap_or (greatest_of seen) 0 ≡ 0) ⊎ (is_noted (unwrap_or (greatest_of seen) 0) seen ≡ true) → (t < unwrap_or (greatest_of seen) 0) ⊎ (unwrap_or (greatest_of seen) 0 ≤ t)
        → (unwrap_or (greatest_of (t ∷ seen)) d ≡ d) ⊎ (is_noted (unwrap_or (greatest_of (t ∷ seen)) d) (t ∷ seen) ≡ true)
    by_place rest (inl less) = inr (by_value less rest)
    by_place rest (inr ge) =
        let same : max t (unwrap_or (greatest_of seen) 0) ≡ t = omega (arith, ge) in
        inr (ap (λ q. is_noted q (t ∷ seen)) same ∙ noted_now t seen)

-- one more doesn't lower it
pub greatest_grows : (seen : List ℕ) (own t : ℕ) → own ≤ t → unwrap_or (greatest_of seen) (own - 1) + 1 ≤ unwrap_or (greatest_of (t ∷ seen)) (own - 1) + 1
greatest_grows seen own t le = by_greatest (greatest_of seen)
  where
    by_greatest : (o : Option ℕ) → unwrap_or o (own - 1) + 1 ≤ max t (unwrap_or o 0) + 1
    by_greatest None = omega (arith, le)
    by_greatest (Some g) = omega arith

-- ---- the last transmission that is known as told

pub last_there : (f : ℕ → Bool) (n i : ℕ) → last_end f n ≡ suc i → f i ≡ true
last_there f zero i e = absurd (omega (arith, e))
last_there f (suc n) i e = by_test (last_there f n i) (f n) refl e
  where
    by_test : (last_end f n ≡ suc i → f i ≡ true) → (b : Bool) → f n ≡ b → cond b (suc n) (last_end f n) ≡ suc i → f i ≡ true
    by_test rest true is e = let same : i ≡ n = omega (arith, e) in ap f same ∙ is
    by_test rest false is e = rest e

-- ---- the floor

earliest_within : (a : Trace Act) (p : ℕ) → earliest a p ≤ transmissions a
earliest_within Start p = omega arith
earliest_within (a ▷ Gave bytes) p = earliest_within a p
earliest_within (a ▷ Cut) p = by_test (earliest_within a p) (eqb p (cuts a))
  where
    by_test : earliest a p ≤ transmissions a → (b : Bool) → cond b (transmissions a) (earliest a p) ≤ transmissions a + 1
    by_test rest true = omega arith
    by_test rest false = omega (arith, rest)
earliest_within (a ▷ Resent q) p = omega (arith, earliest_within a p)
earliest_within (a ▷ ToldPart q) p = earliest_within a p
earliest_within (a ▷ ToldTransmission j) p = earliest_within a p

-- it was made, or is the next one
pub floor_made : (l : Limits) (a : Trace Act) → floor_transmission l a ≤ transmissions a
floor_made l a = by_test (ltb (lowest_or_next l a) (cuts a))
  where
    by_test : (b : Bool) → cond b (max (earliest a (lowest_or_next l a)) (transmissions a - l.span)) (transmissions a) ≤ transmissions a
    by_test true = omega (arith, earliest_within a (lowest_or_next l a))
    by_test false = omega arith

-- and is recent
pub floor_recent : (l : Limits) (a : Trace Act) → transmissions a ≤ floor_transmission l a + l.span
floor_recent l a = by_test (ltb (lowest_or_next l a) (cuts a))
  where
    by_test : (b : Bool) → transmissions a ≤ cond b (max (earliest a (lowest_or_next l a)) (transmissions a - l.span)) (transmissions a) + l.span
    by_test true = omega arith
    by_test false = omega arith
