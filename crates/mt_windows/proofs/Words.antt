-- Lemmas on bits in words.
use Rattle.std.proofs.Common.{◌≡◌, ◌≢◌, ℕ, ◌*◌, ◌/◌, ◌%◌, ◌^◌, ◌-◌, ◌<◌, ◌⊎◌, inl, inr, true, false, not, eqb, ◌||◌, ◌&&◌, List, length, get_or, set, bit_and, bit_or, w64, sym, ap, ◌∙◌, arith}
use Rattle.std.specs.Int.{bit_at}
use Rattle.std.proofs.lemmas.List.{get_or-set_same, get_or-set_other}
use Rattle.std.proofs.lemmas.Bool.{cases_eq}
use Rattle.std.proofs.lemmas.Bool.Decides.{nat_tests}
use Rattle.std.proofs.lemmas.Nat.Bits.{bit_at_set_same, bit_at_set_other, bit_at_clear_same, bit_at_clear_other}
use Rattle.mt_windows.specs.BitsView.{is_set}

same_place : (k place : ℕ) → k / 64 ≡ place / 64 → k % 64 ≡ place % 64 → k ≡ place
same_place k place e f = omega (arith, e, f)

pub set_at : (ws : List ℕ) (place word : ℕ) → place / 64 < length ws → word ≡ get_or ws (place / 64) 0 → (k : ℕ)
    → is_set (set ws (place / 64) (bit_or word (1 * 2 ^ (place % 64) % 18446744073709551616))) k ≡ (eqb k place || is_set ws k)
set_at ws place word l read k = by_word (cases_eq (k / 64) (place / 64))
  where
    later : ℕ
    later = bit_or word (1 * 2 ^ (place % 64) % 18446744073709551616)

    within : place % 64 < 64
    within = omega arith

    here : k / 64 ≡ place / 64 → is_set (set ws (place / 64) later) k ≡ eqb (bit_at later (k % 64)) 1
    here e = ap (λ j. eqb (bit_at (get_or (set ws (place / 64) later) j 0) (k % 64)) 1) e ∙ ap (λ v. eqb (bit_at v (k % 64)) 1) (get_or-set_same ws (place / 64) later 0 l)

    by_bit : k / 64 ≡ place / 64 → (k % 64 ≡ place % 64) ⊎ (k % 64 ≡ place % 64 → ⊥) → is_set (set ws (place / 64) later) k ≡ (eqb k place || is_set ws k)
    by_bit e (inl f) =
        let whole = same_place k place e f in
        let yes : eqb k place ≡ true = grind (arith, nat_tests) in
        here e ∙ ap (λ j. eqb (bit_at later j) 1) f ∙ ap (λ b. eqb b 1) (bit_at_set_same w64 word (place % 64) within) ∙ sym (ap (λ b. b || is_set ws k) yes)
    by_bit e (inr nf) =
        let no : eqb k place ≡ false = (let other : k ≢ place = λ q. nf (ap (λ j. j % 64) q) in grind (arith, nat_tests)) in
        here e ∙ ap (λ b. eqb b 1) (bit_at_set_other w64 word (place % 64) within (k % 64) nf) ∙ ap (λ v. eqb (bit_at v (k % 64)) 1) (read ∙ ap (λ j. get_or ws j 0) (sym e)) ∙ sym (ap (λ b. b || is_set ws k) no)

    by_word : (k / 64 ≡ place / 64) ⊎ (k / 64 ≡ place / 64 → ⊥) → is_set (set ws (place / 64) later) k ≡ (eqb k place || is_set ws k)
    by_word (inl e) = by_bit e (cases_eq (k % 64) (place % 64))
    by_word (inr ne) =
        let no : eqb k place ≡ false = (let other : k ≢ place = λ q. ne (ap (λ j. j / 64) q) in grind (arith, nat_tests)) in
        ap (λ v. eqb (bit_at v (k % 64)) 1) (get_or-set_other ws (place / 64) (k / 64) later 0 ne) ∙ sym (ap (λ b. b || is_set ws k) no)

pub clear_at : (ws : List ℕ) (place word : ℕ) → place / 64 < length ws → word ≡ get_or ws (place / 64) 0 → (k : ℕ)
    → is_set (set ws (place / 64) (bit_and word (18446744073709551615 - 1 * 2 ^ (place % 64) % 18446744073709551616))) k ≡ (not (eqb k place) && is_set ws k)
clear_at ws place word l read k = by_word (cases_eq (k / 64) (place / 64))
  where
    later : ℕ
    later = bit_and word (18446744073709551615 - 1 * 2 ^ (place % 64) % 18446744073709551616)

    within : place % 64 < 64
    within = omega arith

    here : k / 64 ≡ place / 64 → is_set (set ws (place / 64) later) k ≡ eqb (bit_at later (k % 64)) 1
    here e = ap (λ j. eqb (bit_at (get_or (set ws (place / 64) later) j 0) (k % 64)) 1) e ∙ ap (λ v. eqb (bit_at v (k % 64)) 1) (get_or-set_same ws (place / 64) later 0 l)

    by_bit : k / 64 ≡ place / 64 → (k % 64 ≡ place % 64) ⊎ (k % 64 ≡ place % 64 → ⊥) → is_set (set ws (place / 64) later) k ≡ (not (eqb k place) && is_set ws k)
    by_bit e (inl f) =
        let whole = same_place k place e f in
        let yes : eqb k place ≡ true = grind (arith, nat_tests) in
        here e ∙ ap (λ j. eqb (bit_at later j) 1) f ∙ ap (λ b. eqb b 1) (bit_at_clear_same w64 word (place % 64) within) ∙ sym (ap (λ b. not b && is_set ws k) yes)
    by_bit e (inr nf) =
        let no : eqb k place ≡ false = (let other : k ≢ place = λ q. nf (ap (λ j. j % 64) q) in grind (arith, nat_tests)) in
        here e ∙ ap (λ b. eqb b 1) (bit_at_clear_other w64 word (place % 64) within (k % 64) (omega arith) nf) ∙ ap (λ v. eqb (bit_at v (k % 64)) 1) (read ∙ ap (λ j. get_or ws j 0) (sym e)) ∙ sym (ap (λ b. not b && is_set ws k) no)

    by_word : (k / 64 ≡ place / 64) ⊎ (k / 64 ≡ place / 64 → ⊥) → is_set (set ws (place / 64) later) k ≡ (not (eqb k place) && is_set ws k)
    by_word (inl e) = by_bit e (cases_eq (k % 64) (place % 64))
    by_word (inr ne) =
        let no : eqb k place ≡ false = (let other : k ≢ place = λ q. ne (ap (λ j. j / 64) q) in grind (arith, nat_tests)) in
        ap (λ v. eqb (bit_at v (k % 64)) 1) (get_or-set_other ws (place / 64) (k / 64) later 0 ne) ∙ sym (ap (λ b. not b && is_set ws k) no)
