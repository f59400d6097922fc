use Rattle.std.proofs.Common.{ap, arith, length, length-drop}
use Rattle.carrier.proofs.perfect_carrier.PerfectCarrierCarrier.poll.Goals as goal

pub returns-clause-load : goal.returns-clause-load
returns-clause-load c =
    omega (arith, ap (λ s. length s.waiting) c.send.ensures.kept, ap (λ s. length s.waiting) c.self.view_is, length-drop 1000 c.self.inside.waiting.items)
