-- A lemma on the oldest request without an answer: it is there, and can be answered.
use Rattle.std.proofs.Common.{◌≡◌, ℕ, suc, ◌+◌, Bool, true, false, cond, List, [], ◌∷◌, Option, Some, refl, sym, ap, ◌∙◌, arith}
use Rattle.soft_sync.specs.Exchanges.{Exchange, behind, behind_from, is_given, with_answer, giving}

-- the place of a request, and that its answer is given once it is
abbrev IsFound : ℕ → List Exchange → ℕ → Type 0
IsFound first xs number =
    (place : ℕ) × (number ≡ first + place) × (is_given place (with_answer place giving xs) ≡ true)

by_answer : (first : ℕ) (x : Exchange) (xs : List Exchange) (number : ℕ) (b : Bool) → x.answer.is_given ≡ b
    → cond x.answer.is_given (behind_from (first + 1) xs) (Some first) ≡ Some number
    → (behind_from (first + 1) xs ≡ Some number → IsFound (first + 1) xs number)
    → IsFound first (x ∷ xs) number
by_answer first x xs number true is e later =
    let r = later (sym (ap (λ b. cond b (behind_from (first + 1) xs) (Some first)) is) ∙ e) in
    (suc r.0, omega (arith, r.1), r.2)
by_answer first x xs number false is e later = (0, here (sym (ap (λ b. cond b (behind_from (first + 1) xs) (Some first)) is) ∙ e), refl)
  where
    here : (let one : Option ℕ = Some first in one ≡ Some number) → number ≡ first + 0
    here h = let same : first ≡ number = cc in omega (arith, same)

found : (first : ℕ) (xs : List Exchange) (number : ℕ) → behind_from first xs ≡ Some number → IsFound first xs number
found first [] number e = cc
found first (x ∷ xs) number e = by_answer first x xs number x.answer.is_given refl e (found (first + 1) xs number)

pub given : (xs : List Exchange) (number : ℕ) → behind xs ≡ Some number → is_given number (with_answer number giving xs) ≡ true
given xs number e =
    let r = found 0 xs number e in
    let same : number ≡ r.0 = omega (arith, r.1) in
    ap (λ n. is_given n (with_answer n giving xs)) same ∙ r.2
