use Rattle.std.proofs.Common.{◌+◌, ◌-◌, ◌∙◌, ap, arith, rules}
use Rattle.mt_windows.specs.declared.limits.TheConstants.{TELL}
use Rattle.mt_windows.specs.Noted.{is_seen}
use Rattle.ack_vector.specs.Longest.{elements_of}
use Rattle.link_machine.proofs.FlagLemmas.{said_of}
use Rattle.lossy_mode.proofs.head.write_vector.Goals as goal

pub returns-clause-elements : goal.returns-clause-elements
returns-clause-elements c numbers h =
    let told = c.write_elements.ensures.elements in
    told.3 ∙ ap elements_of (said_of _ (is_seen TELL numbers) c.args.from (c.args.last + 1 - c.args.from) told.0
    (λ k flag small said. search rules) told.2 (omega (arith, told.1)) (omega arith))
