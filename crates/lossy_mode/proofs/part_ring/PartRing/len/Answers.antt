use Rattle.std.proofs.Common.{sym, ◌∙◌, ap, length}
use Rattle.lossy_mode.proofs.RingLemmas.{length-parts_of}
use Rattle.lossy_mode.proofs.part_ring.PartRing.len.Goals as goal

pub returns-clause-count : goal.returns-clause-count
returns-clause-count c =
    c.len.ensures.len ∙ sym (length-parts_of c.self.inside.lengths.items c.self.inside.bytes.items) ∙ ap length c.self.view_is
