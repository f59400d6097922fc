-- Lemmas on the parts that a receiver accepted.
use Rattle.std.proofs.Common.{◌≡◌, ℕ, zero, suc, ◌+◌, ◌-◌, ◌<◌, ◌≤◌, Bool, true, false, ltb, leb, cond, List, [], ◌∷◌, ◌++◌, length, get_or, Option, Some, None, is_some, unwrap_or, refl, sym, ap, ◌∙◌, subst, append_assoc, arith}
use Rattle.std.proofs.lemmas.Bool.Decides.{nat_tests}
use Rattle.mt_base.specs.Writing.{joined}
use Rattle.mt_windows.specs.declared.receive.Accept.TheVariants.{New, Again, Beyond}
use Rattle.mt_windows.specs.Arrived.{Parts, part_at, put, passed, drained, end_of, greatest_part, has_part, verdict}

-- ---- the place behind the greatest part

pub at_below_end : (parts : Parts) (p : ℕ) → is_some (part_at parts p) ≡ true → p < end_of parts
at_below_end [] p h = absurd (cc)
at_below_end (None ∷ parts) zero h = absurd (cc)
at_below_end (Some b ∷ parts) zero h = by_test (ltb 0 (end_of parts))
  where
    by_test : (t : Bool) → 0 < cond t (suc (end_of parts)) 1
    by_test true = omega arith
    by_test false = omega arith
at_below_end (o ∷ parts) (suc p) h =
    let rest = at_below_end parts p h in
    let some : ltb 0 (end_of parts) ≡ true = grind (arith, nat_tests) in
    subst (λ t. suc p < cond t (suc (end_of parts)) (cond (is_some o) 1 0)) (sym some) (omega (arith, rest))

pub end_is_there : (parts : Parts) (p : ℕ) → end_of parts ≡ suc p → is_some (part_at parts p) ≡ true
end_is_there [] p h = absurd (omega (arith, h))
end_is_there (o ∷ parts) p h = by_test (end_is_there parts) (ltb 0 (end_of parts)) refl h
  where
    here : (o : Option (List ℕ)) (p : ℕ) → cond (is_some o) 1 0 ≡ suc p → is_some (part_at (o ∷ parts) p) ≡ true
    here None p e = absurd (omega (arith, e))
    here (Some b) zero e = refl
    here (Some b) (suc p) e = absurd (omega (arith, e))

    there : (e : ℕ) (p : ℕ) → end_of parts ≡ e → ltb 0 e ≡ true → suc e ≡ suc p → ((q : ℕ) → end_of parts ≡ suc q → is_some (part_at parts q) ≡ true) → is_some (part_at (o ∷ parts) p) ≡ true
    there zero p is some same rec = absurd (cc)
    there (suc e) zero is some same rec = absurd (omega (arith, same))
    there (suc e) (suc p) is some same rec = let f : suc e ≡ suc p = omega (arith, same) in rec p (is ∙ f)

    by_test : ((q : ℕ) → end_of parts ≡ suc q → is_some (part_at parts q) ≡ true) → (t : Bool) → ltb 0 (end_of parts) ≡ t → cond t (suc (end_of parts)) (cond (is_some o) 1 0) ≡ suc p → is_some (part_at (o ∷ parts) p) ≡ true
    by_test rest true e is = there (end_of parts) p refl e is rest
    by_test rest false e is = here o p is

-- the greatest part, or the one before the first
pub last_is : (parts : Parts) (first : ℕ) → 1 ≤ first → unwrap_or (greatest_part first parts) (first - 1) + 1 ≡ first + end_of parts
last_is parts first le = by_test (ltb 0 (end_of parts)) refl
  where
    by_test : (b : Bool) → ltb 0 (end_of parts) ≡ b → unwrap_or (cond b (Some (first + end_of parts - 1)) None) (first - 1) + 1 ≡ first + end_of parts
    by_test true e = omega arith
    by_test false e = grind (arith, nat_tests)

-- ---- how far the parts are drained

pub drained_within : (parts : Parts) (n : ℕ) → drained parts n ≤ end_of parts
drained_within [] n = omega arith
drained_within (None ∷ parts) n = omega arith
drained_within (Some b ∷ parts) n = by_test (drained_within parts (n - length b)) (leb (length b) n)
  where
    there : 0 < end_of (Some b ∷ parts)
    there = at_below_end (Some b ∷ parts) 0 refl

    less : (d e : ℕ) → d ≤ e → suc d ≤ cond (ltb 0 e) (suc e) 1
    less d e h = grind (arith, nat_tests)

    by_test : drained parts (n - length b) ≤ end_of parts → (t : Bool) → cond t (suc (drained parts (n - length b))) 0 ≤ end_of (Some b ∷ parts)
    by_test rest true = less (drained parts (n - length b)) (end_of parts) rest
    by_test rest false = omega arith

pub drained_grows : (parts : Parts) (n m : ℕ) → n ≤ m → drained parts n ≤ drained parts m
drained_grows [] n m h = omega arith
drained_grows (None ∷ parts) n m h = omega arith
drained_grows (Some b ∷ parts) n m h = by_test (drained_grows parts (n - length b) (m - length b) (omega (arith, h))) (leb (length b) n) refl
  where
    by_test : drained parts (n - length b) ≤ drained parts (m - length b) → (t : Bool) → leb (length b) n ≡ t → cond t (suc (drained parts (n - length b))) 0 ≤ drained (Some b ∷ parts) m
    by_test rest false e = omega arith
    by_test rest true e =
        let fits : leb (length b) m ≡ true = grind (arith, nat_tests) in
        subst (λ t. suc (drained parts (n - length b)) ≤ cond t (suc (drained parts (m - length b))) 0) (sym fits)
        (omega (arith, rest))

pub drained_put : (parts : Parts) (k n : ℕ) (bytes : List ℕ) → part_at parts k ≡ None → drained parts n ≤ drained (put parts k bytes) n
drained_put [] k n bytes none = omega arith
drained_put (None ∷ parts) k n bytes none = omega arith
drained_put (Some b ∷ parts) zero n bytes none = absurd (cc)
drained_put (Some b ∷ parts) (suc k) n bytes none = by_test (drained_put parts k (n - length b) bytes none) (leb (length b) n)
  where
    by_test : drained parts (n - length b) ≤ drained (put parts k bytes) (n - length b) → (t : Bool) → cond t (suc (drained parts (n - length b))) 0 ≤ cond t (suc (drained (put parts k bytes) (n - length b))) 0
    by_test rest true = omega (arith, rest)
    by_test rest false = omega arith

-- what was drained is there
pub drained_there : (parts : Parts) (n p : ℕ) → p < drained parts n → is_some (part_at parts p) ≡ true
drained_there [] n p less = absurd (omega (arith, less))
drained_there (None ∷ parts) n p less = absurd (omega (arith, less))
drained_there (Some b ∷ parts) n zero less = refl
drained_there (Some b ∷ parts) n (suc p) less = by_test (drained_there parts (n - length b) p) (leb (length b) n) less
  where
    by_test : (p < drained parts (n - length b) → is_some (part_at parts p) ≡ true) → (t : Bool) → suc p < cond t (suc (drained parts (n - length b))) 0 → is_some (part_at parts p) ≡ true
    by_test rest true less = rest (omega (arith, less))
    by_test rest false less = absurd (omega (arith, less))

-- ---- a part that arrives

-- a part by its number
pub has_there : (first : ℕ) (parts : Parts) (part place : ℕ) → part ≡ first + place → has_part first parts part ≡ true → is_some (part_at parts place) ≡ true
has_there first parts part place number h =
    let in_range : ltb part first ≡ false = grind (arith, nat_tests) in
    let same : part - first ≡ place = omega (arith, number) in
    subst (λ q. is_some (part_at parts q) ≡ true) same (sym (ap (λ b. cond b false (is_some (part_at parts (part - first)))) in_range) ∙ h)

-- one that was there before
pub again_there : (window first : ℕ) (parts : Parts) (n part place : ℕ) → part ≡ first + place → verdict window first parts n part ≡ Again → is_some (part_at parts place) ≡ true
again_there window first parts n part place number h = by_low (ltb part (first + drained parts n)) refl h
  where
    by_has : (b : Bool) → has_part first parts part ≡ b → cond b Again New ≡ Again → is_some (part_at parts place) ≡ true
    by_has true e is = has_there first parts part place number e
    by_has false e is = absurd (cc)

    by_high : (b : Bool) → cond b (Beyond (first + drained parts n + window)) (cond (has_part first parts part) Again New) ≡ Again → is_some (part_at parts place) ≡ true
    by_high true is = absurd (cc)
    by_high false is = by_has (has_part first parts part) refl is

    by_low : (b : Bool) → ltb part (first + drained parts n) ≡ b → cond b Again (cond (leb (first + drained parts n + window) part) (Beyond (first + drained parts n + window)) (cond (has_part first parts part) Again New)) ≡ Again → is_some (part_at parts place) ≡ true
    by_low true e is = drained_there parts n place (let less : part < first + drained parts n = grind (arith, nat_tests) in omega (arith, less, number))
    by_low false e is = by_high (leb (first + drained parts n + window) part) is

pub new_below : (window first : ℕ) (parts : Parts) (n part : ℕ) → verdict window first parts n part ≡ New → part < first + drained parts n + window
new_below window first parts n part h = by_low (ltb part (first + drained parts n)) h
  where
    by_high : (b : Bool) → leb (first + drained parts n + window) part ≡ b → cond b (Beyond (first + drained parts n + window)) (cond (has_part first parts part) Again New) ≡ New → part < first + drained parts n + window
    by_high true e is = absurd (cc)
    by_high false e is = grind (arith, nat_tests)

    by_low : (b : Bool) → cond b Again (cond (leb (first + drained parts n + window) part) (Beyond (first + drained parts n + window)) (cond (has_part first parts part) Again New)) ≡ New → part < first + drained parts n + window
    by_low true is = absurd (cc)
    by_low false is = by_high (leb (first + drained parts n + window) part) refl is

-- ---- what is passed

pub some_at : (parts : Parts) (p : ℕ) → is_some (part_at parts p) ≡ true → (bytes : List ℕ) × (part_at parts p ≡ Some bytes)
some_at parts p h = of_value (part_at parts p) h
  where
    of_value : (o : Option (List ℕ)) → is_some o ≡ true → (bytes : List ℕ) × (o ≡ Some bytes)
    of_value None is = absurd (cc)
    of_value (Some bytes) is = (bytes, refl)

-- parts that are the pieces of their places pass the beginning of the pieces
pub passed_front : (parts : Parts) (qs : List (List ℕ)) → ((p : ℕ) (bytes : List ℕ) → part_at parts p ≡ Some bytes → (p < length qs) × (bytes ≡ get_or qs p []))
    → (more : List ℕ) × (joined qs ≡ passed parts ++ more)
passed_front [] qs h = (joined qs, refl)
passed_front (None ∷ parts) qs h = (joined qs, refl)
passed_front (Some b ∷ parts) [] h = absurd (omega (arith, (h 0 b refl).0))
passed_front (Some b ∷ parts) (q ∷ qs) h =
    let same : b ≡ q = (h 0 b refl).1 in
    let rest = passed_front parts qs (λ p bytes is. let both = h (suc p) bytes is in (omega (arith, both.0), both.1)) in
    (rest.0, ap (λ x. x ++ joined qs) (sym same) ∙ ap (λ x. b ++ x) rest.1 ∙ sym (append_assoc b (passed parts) rest.0))
