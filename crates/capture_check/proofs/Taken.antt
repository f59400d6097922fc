-- Flags that are taken one by one of an iterator over flags, each with its place.
use Rattle.std.proofs.Common.{◌≡◌, ℕ, ◌+◌, Bool, List, [], ◌∷◌, ◌++◌, length, slice_get, Some, sym, ap, ◌∙◌, append-nil, arith}
use Rattle.std.specs.List.{enumerate_from}
use Rattle.std.specs.Iterator.{Yields, YieldsFirst}
use Rattle.std.proofs.lemmas.List.FromFn.{length-enumerate_from}
use Rattle.mt_base.proofs.Lists.{heads}

-- what was taken, and what is left
taken_and_left : {S A : Type 0} (left : S → List A) (xs : List A) (s t : S) → Yields (YieldsFirst left) s xs t → left s ≡ xs ++ left t
taken_and_left left [] s t taken = ap left taken
taken_and_left left (x ∷ xs) s t taken = taken.1 ∙ ap (λ r. x ∷ r) (taken_and_left left xs taken.0 t taken.2)

-- the next flag, where so many were taken
pub record IsFlag (flags : List Bool) (n k offset : ℕ) (flag : Bool) : Type 0 where
  pub place : offset ≡ n + k
  pub flag_is : slice_get flags k ≡ Some flag

next_flag : (flags : List Bool) (n : ℕ) (taken : List (ℕ × Bool)) (offset : ℕ) (flag : Bool) (left : List (ℕ × Bool)) → enumerate_from n flags ≡ taken ++ (offset, flag) ∷ left → IsFlag flags n (length taken) offset flag
next_flag [] n [] offset flag left e = absurd (cc)
next_flag [] n (x ∷ taken) offset flag left e = absurd (cc)
next_flag (f ∷ flags) n [] offset flag left e =
    let same = (heads (n, f) (offset, flag) (enumerate_from (n + 1) flags) left e).0 in
    record { place = let o : offset ≡ n = sym (ap (λ (p : ℕ × Bool). p.0) same) in omega (arith, o); flag_is = ap (λ (p : ℕ × Bool). Some p.1) same }
next_flag (f ∷ flags) n (x ∷ taken) offset flag left e =
    let rest = next_flag flags (n + 1) taken offset flag left ((heads (n, f) x (enumerate_from (n + 1) flags) (taken ++ (offset, flag) ∷ left) e).1) in
    record { place = omega (arith, rest.place); flag_is = rest.flag_is }

-- the flag that is taken next of an iterator over flags, each with its place
pub yielded_flag : {S : Type 0} (left : S → List (ℕ × Bool)) (flags : List Bool) (all first now next : S) (taken : List (ℕ × Bool)) (offset : ℕ) (flag : Bool)
    → left all ≡ enumerate_from 0 flags → first ≡ all → Yields (YieldsFirst left) first taken now → left now ≡ (offset, flag) ∷ left next
    → IsFlag flags 0 (length taken) offset flag
yielded_flag left flags all first now next taken offset flag all_is first_is steps step =
    next_flag flags 0 taken offset flag (left next)
    (sym all_is ∙ sym (ap left first_is) ∙ taken_and_left left taken first now steps ∙ ap (λ r. taken ++ r) step)

-- where none is left, all were taken
pub yielded_all : {S : Type 0} (left : S → List (ℕ × Bool)) (flags : List Bool) (all first now : S) (taken : List (ℕ × Bool))
    → left all ≡ enumerate_from 0 flags → first ≡ all → Yields (YieldsFirst left) first taken now → left now ≡ [] → length taken ≡ length flags
yielded_all left flags all first now taken all_is first_is steps none =
    let whole : enumerate_from 0 flags ≡ taken =
    sym all_is ∙ sym (ap left first_is) ∙ taken_and_left left taken first now steps ∙ ap (λ r. taken ++ r) none ∙ append-nil taken in
    sym (ap length whole) ∙ length-enumerate_from 0 flags
