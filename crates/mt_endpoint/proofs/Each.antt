-- Lists of which each element stands where it may.
use Rattle.std.proofs.Common.{List, [], ◌∷◌, ◌++◌, sym, subst, append_assoc, append-nil}
use Rattle.mt_endpoint.specs.Orders.{EachMay}

pub each-append : {A : Type 0} (may : List A → A → Type 0) (before xs ys : List A) → EachMay may before xs → EachMay may (before ++ xs) ys → EachMay may before (xs ++ ys)
each-append may before [] ys h k = subst (λ b. EachMay may b ys) (append-nil before) k
each-append may before (x ∷ xs) ys h k =
    (h.0, each-append may (before ++ x ∷ []) xs ys h.1 (subst (λ b. EachMay may b ys) (sym (append_assoc before (x ∷ []) xs)) k))

pub each_at : {A : Type 0} (may : List A → A → Type 0) (before xs : List A) (y : A) (ys : List A) → EachMay may before (xs ++ y ∷ ys) → may (before ++ xs) y
each_at may before [] y ys h = subst (λ b. may b y) (sym (append-nil before)) h.0
each_at may before (x ∷ xs) y ys h = subst (λ b. may b y) (append_assoc before (x ∷ []) xs) (each_at may (before ++ x ∷ []) xs y ys h.1)
