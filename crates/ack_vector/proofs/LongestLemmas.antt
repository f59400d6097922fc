-- Lemmas on the elements that are written for flags.
use Rattle.std.proofs.Common.{◌≡◌, ℕ, zero, suc, ◌+◌, ◌/◌, ◌%◌, ◌<◌, ◌≤◌, Bool, true, false, List, [], ◌∷◌, ◌++◌, length, drop, replicate, All, inl, inr, refl, sym, ap, ◌∙◌, subst, arith, lit<}
use Rattle.std.proofs.lemmas.List.{length-replicate, length-take, length-drop, take-append-drop}
use Rattle.std.proofs.lemmas.List.Elements.{All-cons}
use Rattle.mt_base.proofs.Stretches.{stretch_some, longest_is, longest_one, first_is}
use Rattle.ack_vector.specs.Elements.{IsGood, run_of, flags_in, flags_of, Spell}
use Rattle.mt_base.specs.Longest.{longest}
use Rattle.ack_vector.specs.Longest.{element, elements_within, elements_of, HoldLongest}

-- how many flags may be left makes no difference
within_enough : (j k : ℕ) (fs : List Bool) → length fs ≤ j → length fs ≤ k
    → elements_within j fs ≡ elements_within k fs
within_enough zero zero fs h i = refl
within_enough zero (suc k) [] h i = refl
within_enough zero (suc k) (f ∷ fs) h i = absurd (omega arith)
within_enough (suc j) zero [] h i = refl
within_enough (suc j) zero (f ∷ fs) h i = absurd (omega arith)
within_enough (suc j) (suc k) [] h i = refl
within_enough (suc j) (suc k) (f ∷ fs) h i =
    let n = longest f (f ∷ fs) in
    let some = stretch_some 63 f fs (lit< tt) in
    let long = length-drop n (f ∷ fs) in
    ap (λ es. element f n ∷ es) (within_enough j k (drop n (f ∷ fs)) (omega arith) (omega arith))

-- the first element of what is written, and the others
pub elements_of-cons : (f : Bool) (fs : List Bool)
    → elements_of (f ∷ fs) ≡ element f (longest f (f ∷ fs))
    ∷ elements_of (drop (longest f (f ∷ fs)) (f ∷ fs))
unfolding elements_of
elements_of-cons f fs =
    let n = longest f (f ∷ fs) in
    let some = stretch_some 63 f fs (lit< tt) in
    let rest = drop n (f ∷ fs) in
    let long = length-drop n (f ∷ fs) in
    ap (λ es. element f n ∷ es) (within_enough (length fs) (length rest) rest (omega arith)
    (omega arith))

pub elements_of-nil : elements_of [] ≡ []
unfolding elements_of
elements_of-nil = refl

-- what is written holds the longest stretches
holds_within : (k : ℕ) (fs : List Bool) → length fs ≤ k → HoldLongest (elements_of fs) fs
holds_within k [] h = let none = elements_of-nil in rw none refl
holds_within zero (f ∷ fs) h = absurd (omega arith)
holds_within (suc k) (f ∷ fs) h =
    let n = longest f (f ∷ fs) in
    let some = stretch_some 63 f fs (lit< tt) in
    let long = length-drop n (f ∷ fs) in
    let first = elements_of-cons f fs in
    let rest = holds_within k (drop n (f ∷ fs)) (omega arith) in
    rw first (f, n, refl, some, longest_is f (f ∷ fs), rest)

pub holds : (fs : List Bool) → HoldLongest (elements_of fs) fs
holds fs = holds_within (length fs) fs (omega arith)

-- no other elements hold the longest stretches
pub holds_one : (es : List ℕ) (fs : List Bool) → HoldLongest es fs → es ≡ elements_of fs
holds_one [] fs none = sym (ap elements_of none ∙ elements_of-nil)
holds_one (e ∷ es) fs h =
    let b = h.0 in
    let n = h.1 in
    let first = first_is b n fs h.3 h.4.equal in
    let long = longest_one b n fs h.4 in
    let rest = holds_one es (drop n fs) h.5 in
    let a : e ∷ es ≡ element b (longest b fs) ∷ elements_of (drop (longest b fs) fs) =
    cc (h.2, rest, ap (λ k. element b k) long, ap (λ k. elements_of (drop k fs)) long) in
    a ∙ ap (λ x. element b (longest b x) ∷ elements_of (drop (longest b x) x)) first.1
    ∙ sym (elements_of-cons b first.0) ∙ ap elements_of (sym first.1)

-- an element is good and has the run that it is written for
element_good : (b : Bool) (n : ℕ) → n ≤ 63 → IsGood (element b n)
element_good true n h = inl (omega arith)
element_good false n h = inr (omega arith)

pub element_small : (b : Bool) (n : ℕ) → n ≤ 63 → element b n < 256
element_small true n h = omega arith
element_small false n h = omega arith

element_flags : (b : Bool) (n : ℕ) → n ≤ 63 → flags_in (run_of (element b n)) ≡ replicate n b
element_flags true n h =
    let state : n / 64 ≡ 0 = omega arith in
    let count : n % 64 ≡ n = omega arith in
    rw (state, count) refl
element_flags false n h =
    let state : (192 + n) / 64 ≡ 3 = omega arith in
    let count : (192 + n) % 64 ≡ n = omega arith in
    rw (state, count) refl

-- elements that hold the longest stretches spell the flags
holds_good : (es : List ℕ) (fs : List Bool) → HoldLongest es fs → All IsGood es
holds_good [] fs h = λ k d below. absurd (omega arith)
holds_good (e ∷ es) fs h =
    All-cons IsGood e es (subst IsGood (sym h.2) (element_good h.0 h.1 h.4.short))
    (holds_good es (drop h.1 fs) h.5)

holds_flags : (es : List ℕ) (fs : List Bool) → HoldLongest es fs → fs ≡ flags_of es
holds_flags [] fs h = h
holds_flags (e ∷ es) fs h =
    let b = h.0 in
    let n = h.1 in
    sym (take-append-drop n fs) ∙ ap (λ x. x ++ drop n fs) h.4.equal
    ∙ ap (λ x. replicate n b ++ x) (holds_flags es (drop n fs) h.5)
    ∙ ap (λ x. x ++ flags_of es) (sym (element_flags b n h.4.short))
    ∙ ap (λ x. flags_in (run_of x) ++ flags_of es) (sym h.2)

pub holds_spell : (es : List ℕ) (fs : List Bool) → HoldLongest es fs → Spell es fs
holds_spell es fs h = record { good = holds_good es fs h; flags_are = holds_flags es fs h }

-- and are no more than the flags
pub holds_length : (es : List ℕ) (fs : List Bool) → HoldLongest es fs → length es ≤ length fs
holds_length [] fs h = omega arith
holds_length (e ∷ es) fs h =
    let n = h.1 in
    let rest = holds_length es (drop n fs) h.5 in
    let some : 0 < n = h.3 in
    let equal = ap length h.4.equal in
    omega (arith, rest, equal, length-drop n fs, length-take n fs, length-replicate n h.0)
