use Rattle.std.proofs.Common.{sym, ap, ◌∙◌, subst}
use Rattle.ack_vector.specs.Elements.{flags_of}
use Rattle.mt_windows.specs.SendingView.{Sends}
use Rattle.carrier.specs.Layout.{Upto}
use Rattle.carrier.specs.Sending.{hears_named, settles}
use Rattle.link_machine.specs.Wire.{layout_of}
use Rattle.udp1_core.specs.FirstLayout.{first_wire}
use Rattle.udp1_core.proofs.Tellings.{nothing_told}
use Rattle.udp1_core.proofs.settle.settle_named.Goals as goal

pub returns-in-Some-clause-settles : goal.returns-in-Some-clause-settles
returns-in-Some-clause-settles c wait delay own peer acts h =
    let layout = layout_of first_wire wait delay own peer in
    let same = sym (c.read.ensures wait delay own peer acts h) ∙ c.in-Some.is in
    c.settle.ensures.settles wait delay own peer acts h
    ∙ sym (ap (λ o. settles layout acts (hears_named layout acts (Upto c.args.named (flags_of c.args.elements.now)) o)) same)

pub returns-in-Some-clause-sends : goal.returns-in-Some-clause-sends
returns-in-Some-clause-sends c wait delay own peer acts h =
    let layout = layout_of first_wire wait delay own peer in
    let same = sym (c.read.ensures wait delay own peer acts h) ∙ c.in-Some.is in
    subst (λ o. Sends c.settle.new.window own (hears_named layout acts (Upto c.args.named (flags_of c.args.elements.now)) o)) (sym same)
    (c.settle.ensures.sends wait delay own peer acts h)

pub returns-in-None-clause-settles : goal.returns-in-None-clause-settles
returns-in-None-clause-settles c wait delay own peer acts h =
    let layout = layout_of first_wire wait delay own peer in
    let same = sym (c.read.ensures wait delay own peer acts h) ∙ c.in-None.is in
    nothing_told layout acts _ (ap (hears_named layout acts (Upto c.args.named (flags_of c.args.elements.now))) same)

pub returns-in-None-clause-sends : goal.returns-in-None-clause-sends
returns-in-None-clause-sends c wait delay own peer acts h =
    let layout = layout_of first_wire wait delay own peer in
    let same = sym (c.read.ensures wait delay own peer acts h) ∙ c.in-None.is in
    subst (λ o. Sends c.args.window.now own (hears_named layout acts (Upto c.args.named (flags_of c.args.elements.now)) o)) (sym same) h
