-- The law by which the links of an end keep, over several calls.
use Rattle.std.proofs.Common.{Option, Some, None}
use Rattle.mt_base.specs.Trace.{Trace}
use Rattle.carrier.specs.Entries as link
use Rattle.endpoint.specs.Kept.{Kept}
use Rattle.endpoint.specs.Laws.{KeepsLaw, KeepsLaws}

keeps_same : {L : Type 0} (law : L → Trace link.Entry → Type 0) (l : Option L) → KeepsLaw law l l
keeps_same law None = tt
keeps_same law (Some l) = λ t. (λ h. h, λ h. h)

keeps_then : {L : Type 0} (law : L → Trace link.Entry → Type 0) (first second third : Option L) → KeepsLaw law first second → KeepsLaw law second third → KeepsLaw law first third
keeps_then law None None None one two = tt
keeps_then law None None (Some c) one two = absurd two
keeps_then law None (Some b) third one two = absurd one
keeps_then law (Some a) None third one two = absurd one
keeps_then law (Some a) (Some b) None one two = absurd two
keeps_then law (Some a) (Some b) (Some c) one two = λ t. (λ h. (one t).0 ((two t).0 h), λ h. (two t).1 ((one t).1 h))

pub laws_same : {C P : Type 0} (carrier_law : C → Trace link.Entry → Type 0) (post_law : P → Trace link.Entry → Type 0) (end : Kept C P) → KeepsLaws carrier_law post_law end end
laws_same carrier_law post_law end = record { reliable = keeps_same carrier_law end.reliable; lossy = keeps_same post_law end.lossy }

pub laws_then : {C P : Type 0} (carrier_law : C → Trace link.Entry → Type 0) (post_law : P → Trace link.Entry → Type 0) (first second third : Kept C P) → KeepsLaws carrier_law post_law first second → KeepsLaws carrier_law post_law second third → KeepsLaws carrier_law post_law first third
laws_then carrier_law post_law first second third one two = record {
  reliable = keeps_then carrier_law first.reliable second.reliable third.reliable one.reliable two.reliable;
  lossy = keeps_then post_law first.lossy second.lossy third.lossy one.lossy two.lossy;
}
