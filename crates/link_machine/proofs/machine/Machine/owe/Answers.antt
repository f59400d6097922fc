use Rattle.std.proofs.Common.{sym, subst}
use Rattle.link_machine.specs.MachineView.{Stands}
use Rattle.link_machine.proofs.Steps.{owes_more, at_layout, same_receiver}
use Rattle.link_machine.proofs.machine.Machine.owe.Goals as goal

pub returns-clause-trace : goal.returns-clause-trace
returns-clause-trace g c t h =
    let m = c.self.inside in
    let now = subst (λ m. Stands g.L.WireLayout.wire m t) (sym c.self.view_is) h in
    let p = c.owe.ensures in
    let same = same_receiver g.L.WireLayout.wire (record { moment = m.moment; sender = m.sender; receiver = m.receiver }) c.owe.new.self p.config in
    at_layout _ _ _ _ same (owes_more _ _ c.owe.new.self t c.args.count (p.stands _ _ _ _ now.hears) now)
