-- What an iterator has left, taken one by one.
use Rattle.std.proofs.Common.{◌≡◌, List, [], ◌∷◌, None, ap, ◌∙◌}
use Rattle.std.specs.Iterator.{Yields, YieldsFirst}

-- when nothing is left, all was taken
pub all_taken : {S A : Type 0} (left : S → List A) (xs : List A) (s t u : S) → Yields (YieldsFirst left) s xs t → YieldsFirst left t None u → left s ≡ xs
all_taken left [] s t u taken none = ap left taken ∙ none.0
all_taken left (x ∷ xs) s t u taken none = taken.1 ∙ ap (λ r. x ∷ r) (all_taken left xs taken.0 t u taken.2 none)
