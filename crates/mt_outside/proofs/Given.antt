-- Lemmas on what the forms in memory give.
use Rattle.std.proofs.Common.{◌≡◌, ℕ, List, [], ◌∷◌, ◌++◌, false, ◌==◌, min, length, take, Some, ap, ◌∙◌}
use Rattle.std.specs.List.{concat}
use Rattle.std.specs.Prelude.{slice_get, unwrap_or}
use Rattle.std.proofs.Math.Nat.{min_comm}
use Rattle.std.proofs.lemmas.List.{append-nil, take_min}
use Rattle.std.proofs.lemmas.List.Folds.{concat-append}
use Rattle.mt_outside.specs.Memory.{take_of}

-- pieces joined, with one more at their end
pub concat_more : (pieces : List (List ℕ)) (piece : List ℕ) → concat (pieces ++ piece ∷ []) ≡ concat pieces ++ piece
concat_more pieces piece = concat-append pieces (piece ∷ []) ∙ ap (λ p. concat pieces ++ p) (append-nil piece)

-- what fits of the first datagram, where it isn't empty
pub first_taken : (left : List (List ℕ)) (datagram : List ℕ) (room n : ℕ) → Some datagram ≡ slice_get left 0 → false ≡ (length datagram == 0) → n ≡ min (length datagram) room → Some (take n datagram) ≡ take_of room left
first_taken [] datagram room n is some fits = search
first_taken ([] ∷ left) datagram room n is some fits = search
first_taken ((byte ∷ bytes) ∷ left) datagram room n is some fits =
    ap Some (ap (λ k. take k datagram) (fits ∙ min_comm (length datagram) room) ∙ take_min room datagram ∙ ap (λ d. take room (unwrap_or d [])) is)
