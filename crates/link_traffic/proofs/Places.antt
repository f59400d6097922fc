-- Lemmas on the places of one side's datagrams among all.
use Rattle.std.proofs.Common.{◌≡◌, ℕ, zero, suc, ◌+◌, ◌-◌, ◌<◌, ◌≤◌, Bool, true, false, cond, ltb, List, [], ◌∷◌, ◌++◌, length, slice_get, get_or, Option, Some, None, option_map, refl, sym, ap, ◌∙◌, subst, arith}
use Rattle.std.proofs.lemmas.Option.{slice_get-get_or, slice_get_within, get_or_from_slice_get}
use Rattle.std.proofs.lemmas.Bool.{ltb-true, ltb-false}
use Rattle.std.specs.List.Sorted.{IsNonDecreasingBy, IsPartitionPoint, IsPartitionedBy}
use Rattle.std.specs.Bool.{then_some}
use Rattle.std.proofs.lemmas.List.Sorted.{IsPartitionedBy-ltb}
use Rattle.mt_base.specs.declared.kinds.Role.{Role}
use Rattle.mt_base.specs.Ends.{same_role}
use Rattle.link_traffic.specs.Given.{by, places_from, places, numbered, later, IsOldest}

pub places-length : (p : ℕ) (side : Role) (all : List (Role × List ℕ)) → length (places_from p side all) ≡ length (by side all)
places-length p side [] = refl
places-length p side (g ∷ rest) = by_test (same_role side g.0) (places-length (p + 1) side rest)
  where
    by_test : (b : Bool) → length (places_from (p + 1) side rest) ≡ length (by side rest)
        → length (cond b (p ∷ places_from (p + 1) side rest) (places_from (p + 1) side rest)) ≡ length (cond b (g.1 ∷ by side rest) (by side rest))
    by_test true h = ap suc h
    by_test false h = h

-- the place q of the datagram n of a side, where the first of all has the place p
pub record IsAt (p n q : ℕ) (side : Role) (all : List (Role × List ℕ)) : Type 0 where
  pub above : p ≤ q
  pub below : q < p + length all
  pub gives : (d : Role × List ℕ) → slice_get (by side all) n ≡ Some (get_or all (q - p) d).1

pub at_place : (p n q : ℕ) (side : Role) (all : List (Role × List ℕ)) → slice_get (places_from p side all) n ≡ Some q → IsAt p n q side all
at_place p n q side [] h = cc
at_place p n q side (g ∷ rest) h =
    let r = by_test (same_role side g.0) n h (λ m. at_place (p + 1) m q side rest) in
    record { above = r.0; below = r.1; gives = r.2 }
  where
    first : p ≡ q → (d : Role × List ℕ) → Some g.1 ≡ Some (get_or (g ∷ rest) (q - p) d).1
    first same d = let none : zero ≡ q - p = omega (arith, same) in ap (λ k. Some (get_or (g ∷ rest) k d).1) none

    next : p + 1 ≤ q → (d : Role × List ℕ) → Some (get_or rest (q - (p + 1)) d).1 ≡ Some (get_or (g ∷ rest) (q - p) d).1
    next above d = let one : suc (q - (p + 1)) ≡ q - p = omega (arith, above) in ap (λ k. Some (get_or (g ∷ rest) k d).1) one

    by_test : (b : Bool) → (m : ℕ) → slice_get (cond b (p ∷ places_from (p + 1) side rest) (places_from (p + 1) side rest)) m ≡ Some q
        → ((k : ℕ) → slice_get (places_from (p + 1) side rest) k ≡ Some q → IsAt (p + 1) k q side rest)
        → (p ≤ q) × (q < p + length (g ∷ rest)) × ((d : Role × List ℕ) → slice_get (cond b (g.1 ∷ by side rest) (by side rest)) m ≡ Some (get_or (g ∷ rest) (q - p) d).1)
    by_test true zero h behind = let same : p ≡ q = cc in (omega (arith, same), omega (arith, same), first same)
    by_test true (suc m) h behind =
        let r = behind m h in
        let above = r.above in let below = r.below in
        (omega (arith, above), omega (arith, below), λ d. r.gives d ∙ next above d)
    by_test false m h behind =
        let r = behind m h in
        let above = r.above in let below = r.below in
        (omega (arith, above), omega (arith, below), λ d. r.gives d ∙ next above d)

-- places rise
rising_more : (x : ℕ) (ys : List ℕ) → IsNonDecreasingBy (λ y. y) ys → ((i d : ℕ) → i < length ys → x ≤ get_or ys i d) → IsNonDecreasingBy (λ y. y) (x ∷ ys)
rising_more x ys rise above zero zero d le lt = omega arith
rising_more x ys rise above zero (suc j) d le lt = above j d (omega (arith, lt))
rising_more x ys rise above (suc i) zero d le lt = absurd (omega (arith, le))
rising_more x ys rise above (suc i) (suc j) d le lt = rise i j d (omega (arith, le)) (omega (arith, lt))

place_above : (p : ℕ) (side : Role) (all : List (Role × List ℕ)) → (i d : ℕ) → i < length (places_from p side all) → p ≤ get_or (places_from p side all) i d
place_above p side all i d within =
    let r = at_place p i (get_or (places_from p side all) i d) side all (slice_get-get_or (places_from p side all) i d within) in r.above

pub rising : (p : ℕ) (side : Role) (all : List (Role × List ℕ)) → IsNonDecreasingBy (λ y. y) (places_from p side all)
rising p side [] = λ i j d le lt. absurd (omega (arith, lt))
rising p side (g ∷ rest) = by_test (same_role side g.0) (rising (p + 1) side rest) (place_above (p + 1) side rest)
  where
    by_test : (b : Bool) → IsNonDecreasingBy (λ y. y) (places_from (p + 1) side rest)
        → ((i d : ℕ) → i < length (places_from (p + 1) side rest) → p + 1 ≤ get_or (places_from (p + 1) side rest) i d)
        → IsNonDecreasingBy (λ y. y) (cond b (p ∷ places_from (p + 1) side rest) (places_from (p + 1) side rest))
    by_test true rise above = rising_more p (places_from (p + 1) side rest) rise (λ i d lt. let h = above i d lt in omega (arith, h))
    by_test false rise above = rise

-- one more is given
pub places-push : (p : ℕ) (side : Role) (all : List (Role × List ℕ)) (g : Role × List ℕ)
    → places_from p side (all ++ (g ∷ [])) ≡ places_from p side all ++ cond (same_role side g.0) ((p + length all) ∷ []) []
places-push p side [] g = by_test (same_role side g.0)
  where
    by_test : (b : Bool) → cond b (p ∷ []) [] ≡ cond b ((p + 0) ∷ []) []
    by_test true = let none : p ≡ p + 0 = omega arith in ap (λ k. k ∷ []) none
    by_test false = refl
places-push p side (f ∷ rest) g =
    let one : (p + 1) + length rest ≡ p + suc (length rest) = omega arith in
    by_test (same_role side f.0) (places-push (p + 1) side rest g ∙ ap (λ k. places_from (p + 1) side rest ++ cond (same_role side g.0) (k ∷ []) []) one)
  where
    by_test : (b : Bool) → places_from (p + 1) side (rest ++ (g ∷ [])) ≡ places_from (p + 1) side rest ++ cond (same_role side g.0) ((p + suc (length rest)) ∷ []) []
        → cond b (p ∷ places_from (p + 1) side (rest ++ (g ∷ []))) (places_from (p + 1) side (rest ++ (g ∷ [])))
        ≡ cond b (p ∷ places_from (p + 1) side rest) (places_from (p + 1) side rest) ++ cond (same_role side g.0) ((p + suc (length rest)) ∷ []) []
    by_test true more = ap (λ t. p ∷ t) more
    by_test false more = more

-- what is numbered and what came later, by the place
pub numbered_at : (side : Role) (all : List (Role × List ℕ)) (n q : ℕ) → slice_get (places side all) n ≡ Some q → (d : Role × List ℕ)
    → numbered side n all ≡ Some (get_or all q d).1
numbered_at side all n q h d =
    let r = at_place 0 n q side all h in
    let same : q - 0 ≡ q = omega arith in r.gives d ∙ ap (λ k. Some (get_or all k d).1) same

pub place_within : (side : Role) (all : List (Role × List ℕ)) (n q : ℕ) → slice_get (places side all) n ≡ Some q → q < length all
place_within side all n q h = let r = at_place 0 n q side all h in let below = r.below in omega (arith, below)

pub later_at : (side : Role) (all : List (Role × List ℕ)) (n q : ℕ) → slice_get (places side all) n ≡ Some q → later side n all ≡ Some (length all - (q + 1))
later_at side all n q h = ap (λ o. option_map (λ place. length all - (place + 1)) o) h

pub record HasPlace (side : Role) (all : List (Role × List ℕ)) (n behind : ℕ) : Type 0 where
  pub place : ℕ
  pub is : slice_get (places side all) n ≡ Some place
  pub behind_is : length all - (place + 1) ≡ behind

pub has_place : (side : Role) (all : List (Role × List ℕ)) (n behind : ℕ) → later side n all ≡ Some behind → HasPlace side all n behind
has_place side all n behind h = by_option (slice_get (places side all) n) refl h
  where
    by_option : (o : Option ℕ) → slice_get (places side all) n ≡ o → option_map (λ place. length all - (place + 1)) o ≡ Some behind → HasPlace side all n behind
    by_option None is h = cc
    by_option (Some q) is h = record { place = q; is = is; behind_is = cc }

-- the first number at or behind a bound on the place
pub oldest_is : (side : Role) (all : List (Role × List ℕ)) (most first number : ℕ) → first ≡ (length all - most) - 1
    → IsPartitionPoint (λ y. ltb y first ≡ true) (λ y. ltb y first ≡ false) (places side all) number
    → IsOldest side most all (then_some (ltb number (length (places side all))) number)
oldest_is side all most first number bound split = by_test (ltb number (length (places side all))) refl
  where
    before : (k behind : ℕ) → k < number → later side k all ≡ Some behind → most < behind
    before k behind lt h =
        let r = has_place side all k behind h in
        let at : get_or (places side all) k 0 ≡ r.place = get_or_from_slice_get (places side all) k r.place 0 r.is in
        let low = ltb-true (get_or (places side all) k 0) first (split.0 k 0 (omega arith) lt) in
        let far = r.behind_is in
        omega (arith, at, low, far, bound)

    by_test : (b : Bool) → ltb number (length (places side all)) ≡ b → IsOldest side most all (then_some b number)
    by_test true is =
        let within = ltb-true number (length (places side all)) is in
        let q = get_or (places side all) number 0 in
        let high = ltb-false q first (split.1 number 0 (omega arith) within) in
        ((length all - (q + 1), later_at side all number q (slice_get-get_or (places side all) number 0 within), omega (arith, high, bound)), before)
    by_test false is =
        let past = ltb-false number (length (places side all)) is in
        λ k behind h.
        let r = has_place side all k behind h in
        let within = slice_get_within (places side all) k r.place r.is in
        before k behind (omega (arith, past, within)) h

pub parted : (side : Role) (all : List (Role × List ℕ)) (shown : List ℕ) (first : ℕ) → shown ≡ places side all → IsPartitionedBy (λ y. ltb y first) shown
parted side all shown first is =
    subst (λ t. IsPartitionedBy (λ y. ltb y first) t) (sym is) (IsPartitionedBy-ltb (λ y. y) (places side all) first (rising 0 side all))

pub oldest_read : (side : Role) (all : List (Role × List ℕ)) (shown : List ℕ) (most first number : ℕ) (found : Option ℕ) → shown ≡ places side all
    → first ≡ (length all - most) - 1 → IsPartitionPoint (λ y. ltb y first ≡ true) (λ y. ltb y first ≡ false) shown number
    → found ≡ then_some (ltb number (length shown)) number → IsOldest side most all found
oldest_read side all shown most first number found is bound split read =
    let here = oldest_is side all most first number bound (subst (λ t. IsPartitionPoint (λ y. ltb y first ≡ true) (λ y. ltb y first ≡ false) t number) is split) in
    subst (λ o. IsOldest side most all o) (sym (read ∙ ap (λ t. then_some (ltb number (length t)) number) is)) here
