use Rattle.std.proofs.Common.{sym, ap, ◌∙◌}
use Rattle.carrier.specs.Sending.{hears_telling, settles}
use Rattle.link_machine.specs.Wire.{layout_of, telling_in}
use Rattle.link_machine.specs.declared.told.Told.{Told}
use Rattle.udp1_core.specs.FirstLayout.{first_wire}
use Rattle.udp1_core.proofs.Tellings.{nothing_told}
use Rattle.udp1_core.proofs.first.FirstWireLayout.settle.Goals as goal

pub returns-in-Nothing-clause-settles : goal.returns-in-Nothing-clause-settles
returns-in-Nothing-clause-settles c wait delay own peer acts h =
    let layout = layout_of first_wire wait delay own peer in
    nothing_told layout acts _ (ap (λ (t : Told). hears_telling layout acts (telling_in first_wire.flags t)) c.in-Nothing.is)

pub returns-in-Upto-clause-settles : goal.returns-in-Upto-clause-settles
returns-in-Upto-clause-settles c wait delay own peer acts h =
    let layout = layout_of first_wire wait delay own peer in
    c.settle_named.ensures.settles wait delay own peer acts h
    ∙ sym (ap (λ (t : Told). settles layout acts (hears_telling layout acts (telling_in first_wire.flags t))) c.in-Upto.is)
