-- Lemmas on lists by their items: the ends of a list, and the item at a place of a join, of copies
-- and of a list read from its end.
use Rattle.std.proofs.Common.{◌≡◌, ℕ, zero, suc, ◌-◌, ◌<◌, ◌≤◌, List, [], ◌∷◌, ◌++◌, length, reverse, replicate, slice_get, Some, refl, sym, ap, ◌∙◌, arith, add-one}
use Rattle.std.proofs.lemmas.List.{reverse-append, replicate-append-replicate}

-- a list without items
pub nothing : {X : Type 0} (xs : List X) → length xs ≡ 0 → xs ≡ []
nothing [] h = refl
nothing (x ∷ xs) h = absurd (omega arith)

-- equal lists have equal first items, and equal others
pub heads : {X : Type 0} (x y : X) (xs ys : List X) → x ∷ xs ≡ y ∷ ys → (x ≡ y) × (xs ≡ ys)
heads x y xs ys e = (cc, cc)

-- a place in the first of two joined lists
pub slice_get-append-left : {X : Type 0} (xs ys : List X) (i : ℕ) → i < length xs
    → slice_get (xs ++ ys) i ≡ slice_get xs i
slice_get-append-left [] ys i h = absurd (omega arith)
slice_get-append-left (x ∷ xs) ys zero h = refl
slice_get-append-left (x ∷ xs) ys (suc i) h = slice_get-append-left xs ys i (omega arith)

-- a place in the second of two joined lists
pub slice_get-append-right : {X : Type 0} (xs ys : List X) (i : ℕ) → length xs ≤ i
    → slice_get (xs ++ ys) i ≡ slice_get ys (i - length xs)
slice_get-append-right [] ys i h = ap (slice_get ys) (omega arith)
slice_get-append-right (x ∷ xs) ys zero h = absurd (omega arith)
slice_get-append-right (x ∷ xs) ys (suc i) h =
    slice_get-append-right xs ys i (omega arith) ∙ ap (slice_get ys) (omega arith)

-- a place among copies
pub slice_get-replicate : {X : Type 0} (n : ℕ) (x : X) (i : ℕ) → i < n
    → slice_get (replicate n x) i ≡ Some x
slice_get-replicate zero x i h = absurd (omega arith)
slice_get-replicate (suc n) x zero h = refl
slice_get-replicate (suc n) x (suc i) h = slice_get-replicate n x i (omega arith)

-- copies read from their end
pub reverse-replicate : {X : Type 0} (n : ℕ) (x : X) → reverse (replicate n x) ≡ replicate n x
reverse-replicate zero x = refl
reverse-replicate (suc n) x =
    let last : replicate (suc n) x ≡ replicate n x ++ x ∷ [] =
    ap (λ k. replicate k x) (sym (add-one n)) ∙ sym (replicate-append-replicate n 1 x) in
    ap reverse last ∙ reverse-append (replicate n x) (x ∷ [])
    ∙ ap (λ t. x ∷ t) (reverse-replicate n x)
