-- Lemmas on numbers that were seen.
use Rattle.std.proofs.Common.{◌≡◌, ◌≢◌, ℕ, zero, suc, ◌+◌, ◌/◌, ◌%◌, ◌<◌, ◌≤◌, ◌⊎◌, inl, inr, Bool, true, false, not, eqb, ltb, ◌||◌, ◌&&◌, List, [], ◌∷◌, get_or, replicate, None, unwrap_or, refl, sym, ap, ◌∙◌, subst, arith}
use Rattle.std.specs.Int.{bit_at}
use Rattle.std.proofs.lemmas.Bool.{cases_eq}
use Rattle.std.proofs.lemmas.Bool.Decides.{nat_tests}
use Rattle.std.proofs.lemmas.Nat.Bits.{bit_at-zero}
use Rattle.mt_windows.specs.BitsView.{is_set}
use Rattle.mt_windows.specs.Noted.{greatest_of, is_noted, is_seen}
use Rattle.mt_windows.specs.NotedView.{Marks, Covers, Notes}

-- no number above the greatest was noted
pub above_all : (noted : List ℕ) (n : ℕ) → unwrap_or (greatest_of noted) 0 < n → is_noted n noted ≡ false
above_all [] n h = refl
above_all (m ∷ noted) n h =
    let rest = above_all noted n (omega (arith, h)) in
    let other : eqb n m ≡ false = grind (arith, nat_tests) in
    ap (λ b. b || is_noted n noted) other ∙ rest

-- nothing was noted yet
pub none_noted : (noted : List ℕ) → greatest_of noted ≡ None → noted ≡ []
none_noted [] h = refl
none_noted (n ∷ noted) h = absurd (cc)

-- ---- the bits
-- two of the last 512 numbers have different places
pub same_number : (n m top : ℕ) → n ≤ top → top < n + 512 → m ≤ top → top < m + 512 → n % 512 ≡ m % 512 → n ≡ m
same_number n m top a b c d e = omega (arith, a, b, c, d, e)

pub other_place : (n m top : ℕ) → n ≤ top → top < n + 512 → m ≤ top → top < m + 512 → n ≢ m → eqb (n % 512) (m % 512) ≡ false
other_place n m top a b c d ne = let other : n % 512 ≢ m % 512 = λ q. ne (same_number n m top a b c d q) in grind (arith, nat_tests)

pub no_bit : (count k : ℕ) → is_set (replicate count 0) k ≡ false
no_bit count k = ap (λ w. eqb (bit_at w (k % 64)) 1) (no_word count (k / 64) 0) ∙ ap (λ b. eqb b 1) (bit_at-zero (k % 64))
  where
    no_word : (count j z : ℕ) → get_or (replicate count z) j z ≡ z
    no_word zero j z = refl
    no_word (suc count) zero z = refl
    no_word (suc count) (suc j) z = no_word count j z

-- all bits are cleared: the numbers that were noted are too old
pub covers_none : (count top : ℕ) (noted : List ℕ) → unwrap_or (greatest_of noted) 0 + 512 ≤ top → Covers (replicate count 0) top noted
covers_none count top noted old n le near = no_bit count (n % 512) ∙ sym (above_all noted n (omega (arith, old, near)))

pub covers_nothing : (count : ℕ) → Covers (replicate count 0) 0 []
covers_nothing count n le near = no_bit count (n % 512)

-- one number further, which was not noted
pub covers_next : (xs ys : List ℕ) (top : ℕ) (noted : List ℕ) → unwrap_or (greatest_of noted) 0 ≤ top → Covers xs top noted → ((k : ℕ) → is_set ys k ≡ (not (eqb k ((top + 1) % 512)) && is_set xs k)) → Covers ys (top + 1) noted
covers_next xs ys top noted above h cleared n le near = by_number (cases_eq n (top + 1))
  where
    by_number : (n ≡ top + 1) ⊎ (n ≡ top + 1 → ⊥) → is_set ys (n % 512) ≡ is_noted n noted
    by_number (inl e) =
        let here : eqb (n % 512) ((top + 1) % 512) ≡ true = (let f = ap (λ m. m % 512) e in grind (arith, nat_tests)) in
        cleared (n % 512) ∙ ap (λ b. not b && is_set xs (n % 512)) here ∙ sym (above_all noted n (omega (arith, e, above)))
    by_number (inr ne) =
        let other = other_place n (top + 1) (top + 1) le near (omega arith) (omega arith) ne in
        cleared (n % 512) ∙ ap (λ b. not b && is_set xs (n % 512)) other ∙ h n (omega (arith, le, ne)) (omega (arith, near))

-- a number is marked
pub covers_marked : (xs ys : List ℕ) (top number : ℕ) (noted : List ℕ) → number ≤ top → top < number + 512 → Covers xs top noted → ((k : ℕ) → is_set ys k ≡ (eqb k (number % 512) || is_set xs k)) → Covers ys top (number ∷ noted)
covers_marked xs ys top number noted below close h marked n le near = by_number (cases_eq n number)
  where
    by_number : (n ≡ number) ⊎ (n ≡ number → ⊥) → is_set ys (n % 512) ≡ is_noted n (number ∷ noted)
    by_number (inl e) =
        let here : eqb (n % 512) (number % 512) ≡ true = (let f = ap (λ m. m % 512) e in grind (arith, nat_tests)) in
        let same : eqb n number ≡ true = grind (arith, nat_tests) in
        marked (n % 512) ∙ ap (λ b. b || is_set xs (n % 512)) here ∙ sym (ap (λ b. b || is_noted n noted) same)
    by_number (inr ne) =
        let other = other_place n number top le near below close ne in
        let unlike : eqb n number ≡ false = grind (arith, nat_tests) in
        marked (n % 512) ∙ ap (λ b. b || is_set xs (n % 512)) other ∙ h n le near ∙ sym (ap (λ b. b || is_noted n noted) unlike)

-- a number that is too old to be marked
pub covers_old : (xs : List ℕ) (top number : ℕ) (noted : List ℕ) → number + 512 ≤ top → Covers xs top noted → Covers xs top (number ∷ noted)
covers_old xs top number noted old h n le near =
    let unlike : eqb n number ≡ false = grind (arith, nat_tests) in
    h n le near ∙ sym (ap (λ b. b || is_noted n noted) unlike)

-- ---- what is asked
pub not_above : (s : Marks) (noted : List ℕ) (t number : ℕ) → Notes s noted → unwrap_or s.greatest 0 < number → false ≡ is_seen t noted number
not_above s noted t number h above =
    sym (ap (λ b. b && ltb (unwrap_or (greatest_of noted) 0) (number + t)) (above_all noted number (subst (λ o. unwrap_or o 0 < number) h.greatest_is above)))

pub not_recent : (s : Marks) (noted : List ℕ) (t number : ℕ) → Notes s noted → number + t ≤ unwrap_or s.greatest 0 → false ≡ is_seen t noted number
not_recent s noted t number h old = no_and (is_noted number noted) (ltb (unwrap_or (greatest_of noted) 0) (number + t)) (let le = subst (λ o. number + t ≤ unwrap_or o 0) h.greatest_is old in grind (arith, nat_tests))
  where
    no_and : (a b : Bool) → b ≡ false → false ≡ a && b
    no_and true b e = sym e
    no_and false b e = refl

pub not_any : (s : Marks) (noted : List ℕ) (t number : ℕ) → Notes s noted → s.greatest ≡ None → false ≡ is_seen t noted number
not_any s noted t number h none = ap (λ xs. is_seen t xs number) (sym (none_noted noted (sym h.greatest_is ∙ none)))

pub within : (s : Marks) (noted : List ℕ) (n : ℕ) → Notes s noted → n ≤ unwrap_or s.greatest 0 → unwrap_or s.greatest 0 < n + 512 → is_set s.recent (n % 512) ≡ is_seen 512 noted n
within s noted n h le near =
    let recent : ltb (unwrap_or (greatest_of noted) 0) (n + 512) ≡ true = (let e = subst (λ o. unwrap_or o 0 < n + 512) h.greatest_is near in grind (arith, nat_tests)) in
    h.recent_are n le near ∙ and_yes (is_noted n noted) (ltb (unwrap_or (greatest_of noted) 0) (n + 512)) recent
  where
    and_yes : (a b : Bool) → b ≡ true → a ≡ (a && b)
    and_yes true b e = sym e
    and_yes false b e = refl
