-- What a test decides.
use Rattle.std.proofs.Common.{◌⊎◌, inl, inr, Bool, true, false, refl}
use Rattle.std.specs.Bool.{Decides}

-- what it decides holds or does not
pub holds_or_not : {P : Type 0} (b : Bool) → Decides b P → P ⊎ (P → ⊥)
holds_or_not true h = inl (h.0 refl)
holds_or_not false h = inr (λ p. let holds = h.1 p in cc)
