use Rattle.std.proofs.Common.{◌∙◌, ap, arith, rules}
use Rattle.mt_windows.specs.Arrived.{has_part}
use Rattle.ack_vector.specs.Longest.{elements_of}
use Rattle.link_machine.proofs.FlagLemmas.{said_of}
use Rattle.udp1_core.proofs.head.write_flags.Goals as goal

pub returns-clause-elements : goal.returns-clause-elements
returns-clause-elements c parts n h =
    let told = c.write_elements.ensures.elements in
    told.3 ∙ ap elements_of (said_of _ (has_part c.args.got.now.peer parts) c.args.from c.args.count told.0
    (λ k flag small said. search rules) told.2 told.1 (omega arith))
