-- By which law the links of both ends keep.
use Rattle.mt_base.specs.declared.kinds.Role.{Role}
use Rattle.mt_base.specs.Trace.{Trace}
use Rattle.carrier.specs.Entries as link
use Rattle.endpoint.specs.Laws.{KeepsLaws}
use Rattle.end_pair.specs.Joined.{Joined, end_of}

-- each end's links keep the laws that they kept
abbrev pub PairKeepsLaws : {C P : Type 0} → (C → Trace link.Entry → Type 0) → (P → Trace link.Entry → Type 0) → Joined C P → Joined C P → Type 0
PairKeepsLaws carrier_law post_law old new =
    (side : Role) → KeepsLaws carrier_law post_law (end_of side old) (end_of side new)
