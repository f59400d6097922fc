use Rattle.std.proofs.Common.{◌<◌, sym, subst, arith}
use Rattle.std.proofs.lemmas.List.Elements.{All-from_get_or}
use Rattle.link_machine.specs.MachineView.{Stands}
use Rattle.link_machine.proofs.Steps.{where_ok, gives, at_layout, same_sender}
use Rattle.link_machine.proofs.machine.MachineCarrier.give.Goals.{in-Ok, in-Err}
use Rattle.link_machine.proofs.machine.MachineCarrier.give.Goals as goal

pub returns-clause-trace : goal.returns-clause-trace
returns-clause-trace g c = elim c.match-give.branch [
  | in-Ok w ↦ rw (w.result-is) (λ t h.
      let m = c.self.inside in
      let now = subst (λ m. Stands g.L.WireLayout.wire m t) (sym c.self.view_is) h in
      let p = c.give.ensures in
      let speaks = where_ok c.give.result _ w.in-Ok.is p.stands _ _ _ now.sends in
      let good = All-from_get_or (λ b. b < 256) c.args.bytes.now 0 (λ i within. omega (arith, c.type_inv.bytes i)) in
      let same = same_sender g.L.WireLayout.wire (record { moment = m.moment; sender = m.sender; receiver = m.receiver }) c.give.new.self p.config in
      at_layout _ _ _ _ same (gives _ _ c.give.new.self t c.args.bytes.now speaks speaks.sends.queue_bound good now))
  | in-Err w ↦ rw (w.result-is) tt
]
