-- Lemmas on rings.
use Rattle.std.proofs.Common.{◌≡◌, ℕ, suc, ◌+◌, ◌-◌, ◌<◌, ◌≤◌, ◌⊎◌, inl, inr, ltb, cond, true, false, List, [], ◌∷◌, ◌++◌, length, get_or, take, drop, Option, Some, None, refl, sym, ap, ◌∙◌, arith}
use Rattle.std.specs.List.{slice_get}
use Rattle.std.specs.Borrow.{MutBor}
use Rattle.std.specs.Option.{option_copied_mut}
use Rattle.std.proofs.lemmas.Bool.{cases_lt}
use Rattle.std.proofs.lemmas.Bool.Decides.{nat_tests}
use Rattle.std.proofs.lemmas.Option.{slice_get-get_or}
use Rattle.std.proofs.lemmas.List.{length_push}
use Rattle.mt_windows.specs.declared.flight.Flight.{Flight}

-- ---- the number that stands so many places from the back
pub back_there : (xs : List ℕ) (b : ℕ) → b < length xs → cond (ltb b (length xs)) (slice_get xs (length xs - b - 1)) None ≡ Some (get_or xs (length xs - b - 1) 0)
back_there xs b l =
    let yes : ltb b (length xs) ≡ true = grind (arith, nat_tests) in
    ap (λ t. cond t (slice_get xs (length xs - b - 1)) None) yes ∙ slice_get-get_or xs (length xs - b - 1) 0 (omega (arith, l))

pub back_missing : (xs : List ℕ) (b : ℕ) → length xs ≤ b → cond (ltb b (length xs)) (slice_get xs (length xs - b - 1)) None ≡ None
back_missing xs b l =
    let no : ltb b (length xs) ≡ false = grind (arith, nat_tests) in
    ap (λ t. cond t (slice_get xs (length xs - b - 1)) None) no

pub back_none : (xs : List ℕ) (b : ℕ) (o : Option ℕ) → o ≡ cond (ltb b (length xs)) (slice_get xs (length xs - b - 1)) None → o ≡ None → length xs ≤ b
back_none xs b o is none = by_size (cases_lt b (length xs))
  where
    by_size : (b < length xs) ⊎ (length xs ≤ b) → length xs ≤ b
    by_size (inl l) = absurd (let e = sym none ∙ is ∙ back_there xs b l in cc)
    by_size (inr l) = l

pub back_some : (xs : List ℕ) (b : ℕ) (o : Option ℕ) (x : ℕ) → o ≡ cond (ltb b (length xs)) (slice_get xs (length xs - b - 1)) None → o ≡ Some x → (b < length xs) × (x ≡ get_or xs (length xs - b - 1) 0)
back_some xs b o x is some = by_size (cases_lt b (length xs))
  where
    by_size : (b < length xs) ⊎ (length xs ≤ b) → (b < length xs) × (x ≡ get_or xs (length xs - b - 1) 0)
    by_size (inl l) = (l, let e = sym some ∙ is ∙ back_there xs b l in cc)
    by_size (inr l) = absurd (let e = sym some ∙ is ∙ back_missing xs b l in cc)

-- ---- a place that is there is not missing
pub missing_flight : (xs : List Flight) (k : ℕ) (o : Option (MutBor Flight)) → k < length xs → option_copied_mut o ≡ slice_get xs k → o ≡ None → ⊥
missing_flight xs k o l is none =
    let there = slice_get-get_or xs k (record { slot = None; earliest = 0; latest = 0 }) l in
    let e : None ≡ slice_get xs k = sym (ap option_copied_mut none) ∙ is in
    let f : None ≡ Some (get_or xs k (record { slot = None; earliest = 0; latest = 0 })) = e ∙ there in
    absurd (cc)

-- ---- a full ring turns by one place
pub turned : {X : Type 0} (xs : List X) (x : X) → slice_get xs 0 ≡ Some x → drop (length (drop 1 xs ++ x ∷ []) - length xs) (drop 1 xs ++ x ∷ []) ≡ drop 1 xs ++ take 1 xs
turned [] x h = absurd (cc)
turned (y ∷ xs) x h =
    let none : length (xs ++ x ∷ []) - suc (length xs) ≡ 0 = omega (arith, length_push xs x) in
    let same : y ≡ x = (cc) in
    ap (λ n. drop n (xs ++ x ∷ [])) none ∙ ap (λ z. xs ++ z ∷ []) (sym same)

pub length_turned : {X : Type 0} (xs : List X) → length (drop 1 xs ++ take 1 xs) ≡ length xs
length_turned [] = refl
length_turned (x ∷ xs) = length_push xs x ∙ (let e : length xs + 1 ≡ suc (length xs) = omega arith in e)

-- ---- a ring that has room keeps all when one more is put behind
pub pushed : (xs : List ℕ) (x room : ℕ) → length xs < room → drop (length (xs ++ x ∷ []) - room) (xs ++ x ∷ []) ≡ xs ++ x ∷ []
pushed xs x room less =
    let none : length (xs ++ x ∷ []) - room ≡ 0 = omega (arith, length_push xs x) in
    ap (λ n. drop n (xs ++ x ∷ [])) none
