-- Lists that are the front of another, and lists that are picked from another.
use Rattle.std.specs.Prelude.{◌≡◌, List, [], ◌∷◌, ◌++◌}

-- the first elements of ys, and no other
abbrev pub IsPrefixOf : {A : Type 0} → List A → List A → Type 0
IsPrefixOf {A} xs ys = (rest : List A) × (ys ≡ xs ++ rest)

-- some of ys, in their order
pub data IsPickOf {A : Type 0} : List A → List A → Type 0 where
  none : IsPickOf [] []
  taken : (x : A) (xs ys : List A) → IsPickOf xs ys → IsPickOf (x ∷ xs) (x ∷ ys)
  passed : (x : A) (xs ys : List A) → IsPickOf xs ys → IsPickOf xs (x ∷ ys)
