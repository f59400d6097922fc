use Rattle.std.proofs.Common.{ℕ, ◌≤◌, List, length, All, sym, ap, ◌∙◌, eqb, subst}
use Rattle.mt_windows.specs.declared.limits.TheConstants.{DATAGRAM}
use Rattle.lossy_mode.proofs.RingLemmas.{length-parts_of, parts_short}
use Rattle.lossy_mode.proofs.part_ring.PartRing.is_empty.Goals as goal

pub returns-clause-none : goal.returns-clause-none
returns-clause-none c =
    c.is_empty.ensures ∙ ap (λ n. eqb n 0) (sym (length-parts_of c.self.inside.lengths.items c.self.inside.bytes.items) ∙ ap length c.self.view_is)

pub returns-clause-short : goal.returns-clause-short
returns-clause-short c =
    subst (All (λ (part : List ℕ). length part ≤ DATAGRAM)) c.self.view_is
    (parts_short c.self.inside.lengths.items c.self.inside.bytes.items c.self.invariant.stored.short)
