-- Lists of entries that grow by one, and places in them.
use Rattle.std.proofs.Common.{◌≡◌, ◌≢◌, ℕ, zero, suc, ◌<◌, ◌+◌, ◌⊎◌, inl, inr, List, [], ◌∷◌, ◌++◌, length, take, get_or, refl, sym, ap, ◌∙◌, arith}
use Rattle.mt_base.proofs.Lists.{heads}
use Rattle.capture_check.specs.declared.entry.Entry.{Entry}

-- a place in a list with one entry more is that entry's, or one before it
pub snoc : {X : Type 0} (xs before : List X) (e x : X) (after : List X) → xs ++ e ∷ [] ≡ before ++ x ∷ after → ((xs ≡ before) × (e ≡ x)) ⊎ ((rest : List X) × (xs ≡ before ++ x ∷ rest))
snoc [] [] e x after h = inl (refl, (heads e x [] after h).0)
snoc [] (b ∷ []) e x after h = let parts = (heads e b [] (x ∷ after) h).1 in cc
snoc [] (b ∷ c ∷ bs) e x after h = let parts = (heads e b [] (c ∷ (bs ++ x ∷ after)) h).1 in cc
snoc (y ∷ ys) [] e x after h = inr (ys, ap (λ z. z ∷ ys) (heads y x (ys ++ e ∷ []) after h).0)
snoc (y ∷ ys) (b ∷ bs) e x after h =
    let parts = heads y b (ys ++ e ∷ []) (bs ++ x ∷ after) h in
    elim (snoc ys bs e x after parts.1) [
      | inl end ↦ inl (ap (λ z. z ∷ ys) parts.0 ∙ ap (λ zs. b ∷ zs) end.0, end.1)
      | inr more ↦ inr (more.0, ap (λ z. z ∷ ys) parts.0 ∙ ap (λ zs. b ∷ zs) more.1)
    ]

-- the entry at an index, and those before it
pub at_place : (xs : List Entry) (i : ℕ) (d : Entry) → i < length xs → (rest : List Entry) × (xs ≡ take i xs ++ get_or xs i d ∷ rest) × (take (suc i) xs ≡ take i xs ++ get_or xs i d ∷ []) × (length (take i xs) ≡ i)
at_place [] i d within = absurd (omega arith)
at_place (x ∷ xs) zero d within = (xs, refl, refl, refl)
at_place (x ∷ xs) (suc i) d within =
    let p = at_place xs i d (omega arith) in
    (p.0, ap (λ l. x ∷ l) p.1, ap (λ l. x ∷ l) p.2, ap suc p.3)

pub one_further : (xs : List Entry) (i : ℕ) (x : Entry) → i < length xs → x ≡ get_or xs i x → take i xs ++ x ∷ [] ≡ take (i + 1) xs
one_further xs i x within is =
    let p = at_place xs i x within in
    let next : i + 1 ≡ suc i = omega arith in
    ap (λ e. take i xs ++ e ∷ []) is ∙ sym p.2 ∙ ap (λ n. take n xs) (sym next)

-- two places in one list: the same, or one before the other
pub data Places (xs ys : List Entry) (x y : Entry) (a b : List Entry) : Type 0 where
  same : xs ≡ ys → x ≡ y → a ≡ b → Places xs ys x y a b
  sooner : (rest : List Entry) → ys ≡ xs ++ x ∷ rest → a ≡ rest ++ y ∷ b → Places xs ys x y a b
  later : (rest : List Entry) → xs ≡ ys ++ y ∷ rest → b ≡ rest ++ x ∷ a → Places xs ys x y a b

shifted : (z w : Entry) (xs ys : List Entry) (x y : Entry) (a b : List Entry) → z ≡ w → Places xs ys x y a b → Places (z ∷ xs) (w ∷ ys) x y a b
shifted z w xs ys x y a b e (same lists entries ends) = same (ap (λ v. v ∷ xs) e ∙ ap (λ l. w ∷ l) lists) entries ends
shifted z w xs ys x y a b e (sooner rest is ends) = sooner rest (ap (λ v. v ∷ ys) (sym e) ∙ ap (λ l. z ∷ l) is) ends
shifted z w xs ys x y a b e (later rest is ends) = later rest (ap (λ v. v ∷ xs) e ∙ ap (λ l. w ∷ l) is) ends

pub two_places : (xs ys : List Entry) (x y : Entry) (a b : List Entry) → xs ++ x ∷ a ≡ ys ++ y ∷ b → Places xs ys x y a b
two_places [] [] x y a b e = let parts = heads x y a b e in same refl parts.0 parts.1
two_places [] (w ∷ ys) x y a b e = let parts = heads x w a (ys ++ y ∷ b) e in sooner ys (ap (λ v. v ∷ ys) (sym parts.0)) parts.1
two_places (z ∷ xs) [] x y a b e = let parts = heads z y (xs ++ x ∷ a) b e in later xs (ap (λ v. v ∷ xs) parts.0) (sym parts.1)
two_places (z ∷ xs) (w ∷ ys) x y a b e =
    let parts = heads z w (xs ++ x ∷ a) (ys ++ y ∷ b) e in
    shifted z w xs ys x y a b parts.0 (two_places xs ys x y a b parts.1)

-- lists that end with one entry each
pub last_same : (xs ys : List Entry) (x y : Entry) → xs ++ x ∷ [] ≡ ys ++ y ∷ [] → (xs ≡ ys) × (x ≡ y)
last_same xs ys x y e = by_place (two_places xs ys x y [] [] e)
  where
    by_place : Places xs ys x y [] [] → (xs ≡ ys) × (x ≡ y)
    by_place (same lists entries ends) = (lists, entries)
    by_place (sooner [] is ends) = cc
    by_place (sooner (z ∷ rest) is ends) = cc
    by_place (later [] is ends) = cc
    by_place (later (z ∷ rest) is ends) = cc

pub not_empty : (xs : List Entry) (x : Entry) → xs ++ x ∷ [] ≢ []
not_empty [] x e = cc
not_empty (y ∷ xs) x e = cc
