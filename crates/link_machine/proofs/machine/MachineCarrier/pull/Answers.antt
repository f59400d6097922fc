use Rattle.std.proofs.Common.{sym, subst}
use Rattle.mt_windows.specs.ArrivedView.{left_of}
use Rattle.link_machine.specs.MachineView.{Stands}
use Rattle.link_machine.proofs.Steps.{pulls, at_layout, same_receiver}
use Rattle.link_machine.proofs.machine.MachineCarrier.pull.Goals as goal

pub returns-clause-trace : goal.returns-clause-trace
returns-clause-trace g c t h =
    let m = c.self.inside in
    let now = subst (λ m. Stands g.L.WireLayout.wire m t) (sym c.self.view_is) h in
    let p = c.pull.ensures in
    let same = same_receiver g.L.WireLayout.wire (record { moment = m.moment; sender = m.sender; receiver = m.receiver }) c.pull.new.self p.config in
    at_layout _ _ _ _ same (pulls _ _ c.pull.new.self t (left_of m.receiver.inbox) _ c.pull.result _ p.count p.bytes (p.next _ _ _ _ now.hears) (p.stands _ _ _ _ now.hears) now)
