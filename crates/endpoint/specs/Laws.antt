-- By which law the links of an end keep.
use Rattle.std.specs.Prelude.{◌↔◌, Option, Some, None}
use Rattle.mt_base.specs.Trace.{Trace}
use Rattle.carrier.specs.Entries as link
use Rattle.endpoint.specs.Kept.{Kept}

-- a link keeps the same law as before
abbrev pub SameLaw : {L : Type 0} → (L → Trace link.Entry → Type 0) → L → L → Type 0
SameLaw law old new = (t : Trace link.Entry) → law new t ↔ law old t

-- so does the link that an end may have; it has none where it had none
abbrev pub KeepsLaw : {L : Type 0} → (L → Trace link.Entry → Type 0) → Option L → Option L → Type 0
KeepsLaw law None None = Unit {0}
KeepsLaw law (Some old) (Some new) = SameLaw law old new
KeepsLaw law None (Some new) = ⊥
KeepsLaw law (Some old) None = ⊥

-- an end has a link, which keeps the law of this one
abbrev pub HasLawOf : {L : Type 0} → (L → Trace link.Entry → Type 0) → L → Option L → Type 0
HasLawOf law given None = ⊥
HasLawOf law given (Some l) = SameLaw law given l

-- both links of an end keep the laws that they kept
pub record KeepsLaws {C P : Type 0} (carrier_law : C → Trace link.Entry → Type 0) (post_law : P → Trace link.Entry → Type 0) (old new : Kept C P) : Type 0 where
  pub reliable : KeepsLaw carrier_law old.reliable new.reliable
  pub lossy : KeepsLaw post_law old.lossy new.lossy
