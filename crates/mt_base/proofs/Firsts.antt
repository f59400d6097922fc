-- The first element of a list that passes a test.
use Rattle.std.proofs.Common.{◌≡◌, ℕ, ◌+◌, ◌<◌, ◌⊎◌, inl, inr, Bool, true, false, List, [], ◌∷◌, ◌++◌, length, take, drop, get_or, Some, None, refl, sym, ap, ◌∙◌, arith}
use Rattle.std.specs.List.{All, position_from}
use Rattle.std.proofs.lemmas.Bool.{cases_Bool}
use Rattle.std.proofs.lemmas.List.{length-take-le, take-append-drop, drop_more}
use Rattle.std.proofs.lemmas.List.Elements.{All-cons, All-nil, All-head, All-tail}

-- no element passes
abbrev pub NonePasses : (ℕ → Bool) → List ℕ → Type 0
NonePasses test xs = All (λ x. test x ≡ false) xs

-- the first that passes, with those before it and behind it
pub record First (test : ℕ → Bool) (xs : List ℕ) : Type 0 where
  pub front : List ℕ
  pub element : ℕ
  pub rest : List ℕ
  pub xs_are : xs ≡ front ++ (element ∷ rest)
  pub before : NonePasses test front
  pub passes : test element ≡ true

-- its place
pub first_at : (test : ℕ → Bool) (front rest : List ℕ) (x i : ℕ) → NonePasses test front → test x ≡ true → position_from test i (front ++ (x ∷ rest)) ≡ Some (i + length front)
first_at test [] rest x i off on = rw on (ap Some (omega arith))
first_at test (y ∷ front) rest x i off on =
    let off_y : test y ≡ false = All-head (λ x. test x ≡ false) y front off in
    let later = first_at test front rest x (i + 1) (All-tail (λ x. test x ≡ false) y front off) on in
    let n : i + 1 + length front ≡ i + length (y ∷ front) = omega arith in
    rw off_y (later ∙ ap Some n)

pub none_at : (test : ℕ → Bool) (xs : List ℕ) (i : ℕ) → NonePasses test xs → position_from test i xs ≡ None
none_at test [] i off = refl
none_at test (x ∷ xs) i off =
    let off_x : test x ≡ false = All-head (λ x. test x ≡ false) x xs off in
    rw off_x (none_at test xs (i + 1) (All-tail (λ x. test x ≡ false) x xs off))

-- no element passes, or there is a first that does
pub first_or : (test : ℕ → Bool) (xs : List ℕ) → NonePasses test xs ⊎ First test xs
first_or test [] = inl (All-nil (λ x. test x ≡ false))
first_or test (x ∷ xs) = elim (cases_Bool (test x)) [
  | inl on ↦ inr (record { front = []; element = x; rest = xs; xs_are = refl; before = All-nil (λ x. test x ≡ false); passes = on })
  | inr off ↦ elim (first_or test xs) [
    | inl none ↦ inl (All-cons (λ x. test x ≡ false) x xs off none)
    | inr f ↦ inr (record {
      front = x ∷ f.front;
      element = f.element;
      rest = f.rest;
      xs_are = ap (λ t. x ∷ t) f.xs_are;
      before = All-cons (λ x. test x ≡ false) x f.front off f.before;
      passes = f.passes;
    })
  ]
]

-- the place of the element at k, where it passes and none before it does
pub found_at : (test : ℕ → Bool) (xs : List ℕ) (k : ℕ) → k < length xs → NonePasses test (take k xs) → test (get_or xs k 0) ≡ true → position_from test 0 xs ≡ Some k
found_at test xs k within off on =
    let whole : xs ≡ take k xs ++ (get_or xs k 0 ∷ drop (k + 1) xs) = sym (take-append-drop k xs) ∙ ap (λ t. take k xs ++ t) (drop_more xs k 0 within) in
    let long : length (take k xs) ≡ k = length-take-le k xs (omega arith) in
    ap (position_from test 0) whole ∙ first_at test (take k xs) (drop (k + 1) xs) (get_or xs k 0) 0 off on ∙ ap Some (omega (arith, long))
