-- The law by which a link keeps, from call to call.
use Rattle.std.proofs.Common.{Option, Some, None}
use Rattle.mt_base.specs.Trace.{Trace}
use Rattle.carrier.specs.Entries as link
use Rattle.endpoint.specs.Laws.{KeepsLaw, SameLaw}

-- ---- one link

pub same_law : {L : Type 0} (law : L → Trace link.Entry → Type 0) (l : L) → SameLaw law l l
same_law law l t = (λ h. h, λ h. h)

pub law_then : {L : Type 0} (law : L → Trace link.Entry → Type 0) (first second third : L) → SameLaw law first second → SameLaw law second third → SameLaw law first third
law_then law first second third one two t = (λ h. (one t).0 ((two t).0 h), λ h. (two t).1 ((one t).1 h))

-- ---- the link that an end may have

pub keeps_same : {L : Type 0} (law : L → Trace link.Entry → Type 0) (l : Option L) → KeepsLaw law l l
keeps_same law None = tt
keeps_same law (Some l) = same_law law l

pub keeps_then : {L : Type 0} (law : L → Trace link.Entry → Type 0) (first second third : Option L) → KeepsLaw law first second → KeepsLaw law second third → KeepsLaw law first third
keeps_then law None None None one two = tt
keeps_then law None None (Some c) one two = absurd two
keeps_then law None (Some b) third one two = absurd one
keeps_then law (Some a) None third one two = absurd one
keeps_then law (Some a) (Some b) None one two = absurd two
keeps_then law (Some a) (Some b) (Some c) one two = law_then law a b c one two
