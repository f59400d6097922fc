use Rattle.std.proofs.Common.{sym, ap, subst}
use Rattle.carrier.specs.Sending.{hears_telling}
use Rattle.link_machine.specs.Wire.{telling_in}
use Rattle.link_machine.specs.declared.told.Told.{Told}
use Rattle.udp2_core.specs.SecondLayout.{second_wire}
use Rattle.udp2_core.specs.SettleView.{Settles, layout_from}
use Rattle.udp2_core.proofs.Tellings.{settles_nothing}
use Rattle.udp2_core.proofs.second.SecondWireLayout.settle.Goals as goal

pub returns-in-Nothing-clause-settles : goal.returns-in-Nothing-clause-settles
returns-in-Nothing-clause-settles c wait delay own peer acts h =
    (settles_nothing own _ acts _ (ap (λ (t : Told). hears_telling (layout_from own) acts (telling_in second_wire.flags t)) c.in-Nothing.is) h).settled_is

pub returns-in-Nothing-clause-sends : goal.returns-in-Nothing-clause-sends
returns-in-Nothing-clause-sends c wait delay own peer acts h =
    (settles_nothing own _ acts _ (ap (λ (t : Told). hears_telling (layout_from own) acts (telling_in second_wire.flags t)) c.in-Nothing.is) h).sends

pub returns-in-Last-clause-settles : goal.returns-in-Last-clause-settles
returns-in-Last-clause-settles c wait delay own peer acts h =
    (subst (λ (t : Told). Settles own c.settle_last.result c.settle_last.new.window acts (hears_telling (layout_from own) acts (telling_in second_wire.flags t))) (sym c.in-Last.is) (c.settle_last.ensures.settles own acts h)).settled_is

pub returns-in-Last-clause-sends : goal.returns-in-Last-clause-sends
returns-in-Last-clause-sends c wait delay own peer acts h =
    (subst (λ (t : Told). Settles own c.settle_last.result c.settle_last.new.window acts (hears_telling (layout_from own) acts (telling_in second_wire.flags t))) (sym c.in-Last.is) (c.settle_last.ensures.settles own acts h)).sends

pub returns-in-From-clause-settles : goal.returns-in-From-clause-settles
returns-in-From-clause-settles c wait delay own peer acts h =
    (subst (λ (t : Told). Settles own c.settle_from.result c.settle_from.new.window acts (hears_telling (layout_from own) acts (telling_in second_wire.flags t))) (sym c.in-From.is) (c.settle_from.ensures.settles own acts h)).settled_is

pub returns-in-From-clause-sends : goal.returns-in-From-clause-sends
returns-in-From-clause-sends c wait delay own peer acts h =
    (subst (λ (t : Told). Settles own c.settle_from.result c.settle_from.new.window acts (hears_telling (layout_from own) acts (telling_in second_wire.flags t))) (sym c.in-From.is) (c.settle_from.ensures.settles own acts h)).sends
