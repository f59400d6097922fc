-- Lemmas on the first id with a fault, in a list of ids.
use Rattle.std.proofs.Common.{◌≡◌, ℕ, zero, suc, ◌+◌, Bool, true, false, cond, not, nat_eq, List, [], ◌∷◌, ◌++◌, take, drop, All, slice_get, Option, Some, None, refl, sym, ap, ◌∙◌, subst}
use Rattle.std.specs.Prelude.{◌||◌, is_some, IsSome}
use Rattle.std.specs.Cmp.{nat_eq_equiv}
use Rattle.std.specs.List.{IsDistinct, find, list_any}
use Rattle.std.specs.Option.{option_or}
use Rattle.std.specs.Map.{lookup, keys_of}
use Rattle.std.proofs.lemmas.List.{append_assoc, append-nil}
use Rattle.std.proofs.lemmas.List.Elements.{All-push, All-head, All-tail, All-cons, All-nil}
use Rattle.std.proofs.lemmas.Map.Keys.{IsDistinct-push}
use Rattle.soft_sync.specs.Words.{first_repeated}
use Rattle.soft_sync.proofs.Answering.{take_more}

-- ---- the first one that passes a test

pub found_at : (p : ℕ → Bool) (ids : List ℕ) (i id : ℕ) → slice_get ids i ≡ Some id → All (λ x. p x ≡ false) (take i ids) → p id ≡ true → find p ids ≡ Some id
found_at p [] i id is before passes = cc
found_at p (x ∷ ids) zero id is before passes = let f : x ≡ id = cc in ap (λ y. cond (p y) (Some y) (find p ids)) f ∙ ap (λ b. cond b (Some id) (find p ids)) passes
found_at p (x ∷ ids) (suc i) id is before passes =
    ap (λ b. cond b (Some x) (find p ids)) (All-head (λ y. p y ≡ false) x (take i ids) before)
    ∙ found_at p ids i id is (All-tail (λ y. p y ≡ false) x (take i ids) before) passes

pub none_found : (p : ℕ → Bool) (ids : List ℕ) → All (λ x. p x ≡ false) ids → find p ids ≡ None
none_found p [] none = refl
none_found p (x ∷ ids) none =
    ap (λ b. cond b (Some x) (find p ids)) (All-head (λ y. p y ≡ false) x ids none) ∙ none_found p ids (All-tail (λ y. p y ≡ false) x ids none)

pub none_passes : (p : ℕ → Bool) (ids : List ℕ) → find p ids ≡ None → All (λ x. p x ≡ false) ids
none_passes p [] h = All-nil (λ y. p y ≡ false)
none_passes p (x ∷ ids) h = by (p x) refl h (none_passes p ids)
  where
    by : (b : Bool) → p x ≡ b → cond b (Some x) (find p ids) ≡ None → (find p ids ≡ None → All (λ y. p y ≡ false) ids) → All (λ y. p y ≡ false) (x ∷ ids)
    by true is h others = cc
    by false is h others = All-cons (λ y. p y ≡ false) x ids is (others h)

pub passes_more : (p : ℕ → Bool) (ids : List ℕ) (i id : ℕ) → slice_get ids i ≡ Some id → p id ≡ false → All (λ x. p x ≡ false) (take i ids) → All (λ x. p x ≡ false) (take (i + 1) ids)
passes_more p ids i id is not before = subst (All (λ x. p x ≡ false)) (sym (take_more i ids id is)) (All-push (λ x. p x ≡ false) (take i ids) id before not)

-- ---- the first one that stands before it too

pub any-append : (p : ℕ → Bool) (xs ys : List ℕ) → list_any p (xs ++ ys) ≡ (list_any p xs || list_any p ys)
any-append p [] ys = refl
any-append p (x ∷ xs) ys = by (p x) (any-append p xs ys)
  where
    by : (b : Bool) → list_any p (xs ++ ys) ≡ (list_any p xs || list_any p ys) → (b || list_any p (xs ++ ys)) ≡ ((b || list_any p xs) || list_any p ys)
    by true h = refl
    by false h = h

pub any_left : (p : ℕ → Bool) (xs ys : List ℕ) → list_any p xs ≡ true → list_any p (xs ++ ys) ≡ true
any_left p xs ys h = any-append p xs ys ∙ ap (λ b. b || list_any p ys) h

pub any_right : (p : ℕ → Bool) (xs ys : List ℕ) → list_any p xs ≡ false → list_any p ys ≡ true → list_any p (xs ++ ys) ≡ true
any_right p xs ys h k = any-append p xs ys ∙ ap (λ b. b || list_any p ys) h ∙ k

pub any_neither : (p : ℕ → Bool) (xs ys : List ℕ) → list_any p xs ≡ false → list_any p ys ≡ false → list_any p (xs ++ ys) ≡ false
any_neither p xs ys h k = any-append p xs ys ∙ ap (λ b. b || list_any p ys) h ∙ k

pub any_flipped : (id : ℕ) (xs : List ℕ) → list_any (λ y. nat_eq y id) xs ≡ list_any (nat_eq id) xs
any_flipped id [] = refl
any_flipped id (x ∷ xs) = ap (λ b. b || list_any (λ y. nat_eq y id) xs) (nat_eq_equiv.symm x id) ∙ ap (λ b. nat_eq id x || b) (any_flipped id xs)

pub repeated-append : (seen xs ys : List ℕ) → first_repeated seen (xs ++ ys) ≡ option_or (first_repeated seen xs) (first_repeated (seen ++ xs) ys)
repeated-append seen [] ys = ap (λ t. first_repeated t ys) (sym (append-nil seen))
repeated-append seen (x ∷ xs) ys = by (list_any (nat_eq x) seen) (repeated-append (seen ++ (x ∷ [])) xs ys)
  where
    by : (b : Bool) → first_repeated (seen ++ (x ∷ [])) (xs ++ ys) ≡ option_or (first_repeated (seen ++ (x ∷ [])) xs) (first_repeated ((seen ++ (x ∷ [])) ++ xs) ys)
        → cond b (Some x) (first_repeated (seen ++ (x ∷ [])) (xs ++ ys)) ≡ option_or (cond b (Some x) (first_repeated (seen ++ (x ∷ [])) xs)) (first_repeated (seen ++ (x ∷ xs)) ys)
    by true h = refl
    by false h = h ∙ ap (λ t. option_or (first_repeated (seen ++ (x ∷ [])) xs) (first_repeated t ys)) (append_assoc seen (x ∷ []) xs)

split : (k : ℕ) (xs : List ℕ) (x : ℕ) → slice_get xs k ≡ Some x → xs ≡ take k xs ++ (x ∷ drop (suc k) xs)
split k [] x h = cc
split zero (y ∷ xs) x h = let f : y ≡ x = cc in ap (λ z. z ∷ xs) f
split (suc k) (y ∷ xs) x h = ap (λ t. y ∷ t) (split k xs x h)

pub repeated_at : (seen ids : List ℕ) (i id : ℕ) → slice_get ids i ≡ Some id → first_repeated seen (take i ids) ≡ None → list_any (nat_eq id) (seen ++ take i ids) ≡ true → first_repeated seen ids ≡ Some id
repeated_at seen ids i id is none any =
    ap (λ t. first_repeated seen t) (split i ids id is) ∙ repeated-append seen (take i ids) (id ∷ drop (suc i) ids)
    ∙ ap (λ o. option_or o (first_repeated (seen ++ take i ids) (id ∷ drop (suc i) ids))) none
    ∙ ap (λ b. cond b (Some id) (first_repeated ((seen ++ take i ids) ++ (id ∷ [])) (drop (suc i) ids))) any

pub unrepeated_more : (seen ids : List ℕ) (i id : ℕ) → slice_get ids i ≡ Some id → first_repeated seen (take i ids) ≡ None → list_any (nat_eq id) (seen ++ take i ids) ≡ false
    → first_repeated seen (take (i + 1) ids) ≡ None
unrepeated_more seen ids i id is none any =
    ap (λ t. first_repeated seen t) (take_more i ids id is) ∙ repeated-append seen (take i ids) (id ∷ [])
    ∙ ap (λ o. option_or o (first_repeated (seen ++ take i ids) (id ∷ []))) none
    ∙ ap (λ b. cond b (Some id) None) any

pub not_seen : (seen ids : List ℕ) (id : ℕ) → first_repeated seen (id ∷ ids) ≡ None → (list_any (nat_eq id) seen ≡ false) × (first_repeated (seen ++ (id ∷ [])) ids ≡ None)
not_seen seen ids id = by (list_any (nat_eq id) seen)
  where
    by : (b : Bool) → cond b (Some id) (first_repeated (seen ++ (id ∷ [])) ids) ≡ None → (b ≡ false) × (first_repeated (seen ++ (id ∷ [])) ids ≡ None)
    by true h = cc
    by false h = (refl, h)

pub none_either : (o p : Option ℕ) → option_or o p ≡ None → (o ≡ None) × (p ≡ None)
none_either None p h = (refl, h)
none_either (Some x) p h = cc

-- ids that stand once, and not among those listed, stand once behind these
pub unlisted : (ks seen ids : List ℕ) → first_repeated seen ids ≡ None → All (λ id. list_any (nat_eq id) ks ≡ false) ids → first_repeated (ks ++ seen) ids ≡ None
unlisted ks seen [] h none = refl
unlisted ks seen (id ∷ ids) h none =
    let lacks = λ (x : ℕ). list_any (nat_eq x) ks ≡ false in
    let n = not_seen seen ids id h in
    let any : list_any (nat_eq id) (ks ++ seen) ≡ false = any-append (nat_eq id) ks seen ∙ ap (λ b. b || list_any (nat_eq id) seen) (All-head lacks id ids none) ∙ n.0 in
    ap (λ b. cond b (Some id) (first_repeated ((ks ++ seen) ++ (id ∷ [])) ids)) any
    ∙ ap (λ t. first_repeated t ids) (append_assoc ks seen (id ∷ [])) ∙ unlisted ks (seen ++ (id ∷ [])) ids n.1 (All-tail lacks id ids none)

pub distinct_then : (seen ids : List ℕ) → IsDistinct nat_eq seen → first_repeated seen ids ≡ None → IsDistinct nat_eq (seen ++ ids)
distinct_then seen [] distinct h = subst (IsDistinct nat_eq) (sym (append-nil seen)) distinct
distinct_then seen (id ∷ ids) distinct h =
    let n = not_seen seen ids id h in
    subst (IsDistinct nat_eq) (append_assoc seen (id ∷ []) ids) (distinct_then (seen ++ (id ∷ [])) ids (IsDistinct-push nat_eq_equiv seen id distinct n.0) n.1)

-- ---- ids among keys

module _ {X : Type 0} where
  pub no_entry : (id : ℕ) (es : List (ℕ × X)) → list_any (nat_eq id) (keys_of es) ≡ false → lookup (nat_eq id) es ≡ None
  no_entry id [] h = refl
  no_entry id (e ∷ es) h = by (nat_eq id e.0) h (no_entry id es)
    where
      by : (b : Bool) → (b || list_any (nat_eq id) (keys_of es)) ≡ false → (list_any (nat_eq id) (keys_of es) ≡ false → lookup (nat_eq id) es ≡ None) → cond b (Some e.1) (lookup (nat_eq id) es) ≡ None
      by true h others = cc
      by false h others = others h

  pub no_key : (id : ℕ) (es : List (ℕ × X)) → lookup (nat_eq id) es ≡ None → list_any (nat_eq id) (keys_of es) ≡ false
  no_key id [] h = refl
  no_key id (e ∷ es) h = by (nat_eq id e.0) h (no_key id es)
    where
      by : (b : Bool) → cond b (Some e.1) (lookup (nat_eq id) es) ≡ None → (lookup (nat_eq id) es ≡ None → list_any (nat_eq id) (keys_of es) ≡ false) → (b || list_any (nat_eq id) (keys_of es)) ≡ false
      by true h others = cc
      by false h others = others h

  -- an id with an entry is among the keys
  pub has_key : (id : ℕ) (es : List (ℕ × X)) → IsSome (lookup (nat_eq id) es) → list_any (nat_eq id) (keys_of es) ≡ true
  has_key id es some = by (list_any (nat_eq id) (keys_of es)) refl
    where
      by : (b : Bool) → list_any (nat_eq id) (keys_of es) ≡ b → list_any (nat_eq id) (keys_of es) ≡ true
      by true e = e
      by false e = absurd (let clash = sym (ap is_some (no_entry id es e)) ∙ some in cc)
