-- Lists that are the front of another or picked from another, and lists cut in two.
use Rattle.std.proofs.Common.{◌≡◌, ℕ, List, [], ◌∷◌, ◌++◌, length, take, drop, refl, sym, ap, subst, ◌∙◌, append_assoc, append-nil}
use Rattle.std.specs.List.{flat_map}
use Rattle.std.proofs.lemmas.Grind.{flat_map-append}
use Rattle.std.proofs.lemmas.List.{take-append-drop, drop_at}
use Rattle.mt_base.specs.Prefix.{IsPrefixOf, IsPickOf, none, taken, passed}

-- ---- fronts

pub front-same : {A : Type 0} (xs : List A) → IsPrefixOf xs xs
front-same xs = ([], sym (append-nil xs))

pub front-append : {A : Type 0} (xs ys : List A) → IsPrefixOf xs (xs ++ ys)
front-append xs ys = (ys, refl)

pub front-trans : {A : Type 0} (xs ys zs : List A) → IsPrefixOf xs ys → IsPrefixOf ys zs → IsPrefixOf xs zs
front-trans xs ys zs h k = (h.0 ++ k.0, k.1 ∙ ap (λ x. x ++ k.0) h.1 ∙ append_assoc xs h.0 k.0)

pub front-at : {A : Type 0} (xs vs ys ws : List A) → xs ≡ vs → ys ≡ ws → IsPrefixOf xs ys → IsPrefixOf vs ws
front-at xs vs ys ws same also h = (h.0, sym also ∙ h.1 ∙ ap (λ x. x ++ h.0) same)

pub front-behind : {A : Type 0} (zs xs ys : List A) → IsPrefixOf xs ys → IsPrefixOf (zs ++ xs) (zs ++ ys)
front-behind zs xs ys h = (h.0, ap (λ y. zs ++ y) h.1 ∙ sym (append_assoc zs xs h.0))

-- what is made of each element of a front is a front
pub front-flat_map : {A B : Type 0} (f : A → List B) (xs ys : List A) → IsPrefixOf xs ys → IsPrefixOf (flat_map f xs) (flat_map f ys)
front-flat_map f xs ys h = (flat_map f h.0, ap (flat_map f) h.1 ∙ flat_map-append f xs h.0)

-- a front of a list, and a front of the rest behind it
pub front-next : {A : Type 0} (n : ℕ) (xs ys : List A) → IsPrefixOf xs ys → IsPrefixOf (xs ++ take n (drop (length xs) ys)) ys
front-next n xs ys h =
    let rest : drop (length xs) ys ≡ h.0 = ap (drop (length xs)) h.1 ∙ drop_at xs h.0 (length xs) refl in (
      drop n h.0,
      h.1 ∙ ap (λ x. xs ++ x) (sym (take-append-drop n h.0)) ∙ sym (append_assoc xs (take n h.0) (drop n h.0))
          ∙ ap (λ x. xs ++ take n x ++ drop n h.0) (sym rest),
    )

-- two lists that join to nothing
pub nothing_first : {A : Type 0} (xs ys : List A) → xs ++ ys ≡ [] → xs ≡ []
nothing_first [] ys h = refl
nothing_first (x ∷ xs) ys h = cc

pub nothing_second : {A : Type 0} (xs ys : List A) → xs ++ ys ≡ [] → ys ≡ []
nothing_second [] ys h = h
nothing_second (x ∷ xs) ys h = cc

-- xs ends within the first part, or in the second
pub data Cut {A : Type 0} (xs ys old new : List A) : Type 0 where
  first : (m : List A) → old ≡ xs ++ m → ys ≡ m ++ new → Cut xs ys old new
  second : (m : List A) → xs ≡ old ++ m → new ≡ m ++ ys → Cut xs ys old new

cut_more : {A : Type 0} (x : A) (xs ys old new : List A) → Cut xs ys old new → Cut (x ∷ xs) ys (x ∷ old) new
cut_more x xs ys old new (first m a b) = first m (ap (λ l. x ∷ l) a) b
cut_more x xs ys old new (second m a b) = second m (ap (λ l. x ∷ l) a) b

pub cut_in_two : {A : Type 0} (xs ys old new : List A) → old ++ new ≡ xs ++ ys → Cut xs ys old new
cut_in_two [] ys old new h = first old refl (sym h)
cut_in_two (x ∷ xs) ys [] new h = second (x ∷ xs) refl h
cut_in_two {A} (x ∷ xs) ys (o ∷ old) new h =
    let same : o ≡ x = cc in
    let rest : old ++ new ≡ xs ++ ys = cc in
    let P : A → Type 0 = λ a. Cut (x ∷ xs) ys (a ∷ old) new in
    subst P (sym same) (cut_more x xs ys old new (cut_in_two xs ys old new rest))

-- ---- picks

pub pick-same : {A : Type 0} (xs : List A) → IsPickOf xs xs
pick-same [] = none
pick-same (x ∷ xs) = taken x xs xs (pick-same xs)

pub pick-nothing : {A : Type 0} (xs : List A) → IsPickOf [] xs
pick-nothing [] = none
pick-nothing (x ∷ xs) = passed x [] xs (pick-nothing xs)

pub pick-append : {A : Type 0} (xs ys us vs : List A) → IsPickOf xs ys → IsPickOf us vs → IsPickOf (xs ++ us) (ys ++ vs)
pick-append _ _ us vs none q = q
pick-append _ _ us vs (taken x xs ys p) q = taken x (xs ++ us) (ys ++ vs) (pick-append xs ys us vs p q)
pick-append _ _ us vs (passed x xs ys p) q = passed x (xs ++ us) (ys ++ vs) (pick-append xs ys us vs p q)

pub pick-trans : {A : Type 0} (xs ys zs : List A) → IsPickOf xs ys → IsPickOf ys zs → IsPickOf xs zs
pick-trans xs _ _ p none = p
pick-trans xs _ _ p (passed z ys zs q) = passed z xs zs (pick-trans xs ys zs p q)
pick-trans _ _ _ (taken _ xs _ p) (taken z ys zs q) = taken z xs zs (pick-trans xs ys zs p q)
pick-trans _ _ _ (passed _ xs _ p) (taken z ys zs q) = passed z xs zs (pick-trans xs ys zs p q)

pub pick-at : {A : Type 0} (xs vs ys ws : List A) → xs ≡ vs → ys ≡ ws → IsPickOf xs ys → IsPickOf vs ws
pick-at {A} xs vs ys ws same also h =
    let P : List A → Type 0 = λ l. IsPickOf l ys in
    let Q : List A → Type 0 = λ l. IsPickOf vs l in
    subst Q also (subst P same h)
