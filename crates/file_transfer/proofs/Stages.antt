-- Lemmas on what is made at a stage.
use Rattle.std.proofs.Common.{◌≡◌, ℕ, zero, suc, ◌+◌, ◌<◌, List, [], ◌∷◌, ◌++◌, length, map, take, drop, Bool, true, false, not, Option, Some, None, refl, sym, ap, ◌∙◌, subst, arith}
use Rattle.std.specs.Prelude.{IsTrue, is_some, slice_index_or, Contains}
use Rattle.std.proofs.lemmas.List.{drop_more, length-map}
use Rattle.file_messages.specs.Files.{Message, File}
use Rattle.file_transfer.specs.Own.{Own}
use Rattle.file_transfer.specs.Sending.{MadeAt, waiting}
use Rattle.file_transfer.specs.declared.outgoing.Stage.{Stage}

pub none_waits : (draft : Option Message) → is_some draft ≡ false → draft ≡ None
none_waits None is = refl
none_waits (Some m) is = cc

pub not_true : (b : Bool) → IsTrue (not b) → b ≡ false
not_true true h = cc
not_true false h = refl

-- where no message waits, at this stage
pub made_at : (stage wanted : Stage) (draft : Option Message) (owns : List Own) (made at : ℕ) (sent : List Message) (files : List File) → stage ≡ wanted → draft ≡ None → MadeAt stage owns made at (sent ++ waiting draft) files → MadeAt wanted owns made at (sent ++ []) files
made_at stage wanted draft owns made at sent files here none m =
    subst (λ s. MadeAt s owns made at (sent ++ []) files) here (subst (λ d. MadeAt stage owns made at (sent ++ waiting d) files) none m)

-- the file at a place is the first of those from there on
pub from_there : (owns : List Own) (made : ℕ) (own : Own) → made < length owns → own ≡ slice_index_or owns made own → drop made owns ≡ own ∷ drop (made + 1) owns
from_there owns made own few is = drop_more owns made own few ∙ ap (λ o. o ∷ drop (made + 1) owns) (sym is)

path_at : (owns : List Own) (made : ℕ) (own : Own) → made < length owns → own ≡ slice_index_or owns made own → (d : List ℕ) → slice_index_or (map (λ (own : Own). own.path) owns) made d ≡ own.path
path_at [] made own few is d = absurd (omega (arith, few))
path_at (o ∷ owns) zero own few is d = ap (λ (own : Own). own.path) (sym is)
path_at (o ∷ owns) (suc made) own few is d = path_at owns made own (omega (arith, few)) is d

pub own_path : (owns : List Own) (made : ℕ) (own : Own) (path : List ℕ) → made < length owns → own ≡ slice_index_or owns made own → path ≡ own.path → Contains (map (λ (own : Own). own.path) owns) path
own_path owns made own path few is same =
    let size : length (map (λ (own : Own). own.path) owns) ≡ length owns = length-map owns (λ (own : Own). own.path) in
    (made, omega (arith, size, few), path_at owns made own few is path ∙ sym same)
