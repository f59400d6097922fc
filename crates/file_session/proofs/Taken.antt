-- The first of some messages, and answers by their cases.
use Rattle.std.proofs.Common.{◌≡◌, Bool, true, false, List, [], ◌∷◌, Some, None, Result, Ok, Err, IsErrOf, slice_get, refl, sym, ap, ◌∙◌}

pub none_left : {A : Type 0} (xs : List A) → None ≡ slice_get xs 0 → xs ≡ []
none_left [] h = refl
none_left (x ∷ xs) h = absurd (let no : None ≡ Some x = h in cc)

pub first_left : {A : Type 0} (x : A) (xs : List A) → Some x ≡ slice_get xs 0 → (rest : List A) × (xs ≡ x ∷ rest)
first_left x [] h = absurd (let no : Some x ≡ None = h in cc)
first_left x (y ∷ ys) h = let same : y ≡ x = cc in (ys, ap (λ z. z ∷ ys) same)

pub same_err : {A B E : Type 0} (x e : E) → IsErrOf {T = A} (Err x) e → IsErrOf {T = B} (Err x) e
same_err x e h = let same : x ≡ e = let k : Err x ≡ Err e = h in cc in ap Err same

pub no_err : {A E : Type 0} (x : A) (e : E) → ¬ IsErrOf (Ok x) e
no_err x e h = let no : Ok x ≡ Err e = h in cc

pub not_false : {E : Type 0} (b : Bool) → b ≡ true → ¬ (◌≡◌ {A = Result Bool E} (Ok b) (Ok false))
not_false b is h = let a : b ≡ false = cc in let no : true ≡ false = sym is ∙ a in cc

pub err_not_false : {E : Type 0} (e : E) → ¬ (◌≡◌ {A = Result Bool E} (Err e) (Ok false))
err_not_false e h = cc
