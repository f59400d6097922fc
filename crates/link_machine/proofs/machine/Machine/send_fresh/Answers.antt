use Rattle.std.proofs.Common.{◌+◌, arith, refl, None, Some, sym, subst, ap, ◌∙◌}
use Rattle.mt_base.specs.Trace.{◌▷◌}
use Rattle.mt_windows.specs.Sending.Act.{Cut}
use Rattle.carrier.specs.LayoutLaw.{IsCarried}
use Rattle.link_machine.specs.ReceiverView.{Hears}
use Rattle.link_machine.specs.SenderView.{Speaks, timer_begun}
use Rattle.link_machine.specs.MachineView.{Machine, layout_at, datagram_with, tells_beside, fresh_load, owed_after}
use Rattle.link_machine.proofs.Written.{sealed_part, front_carried}
use Rattle.mt_windows.specs.declared.limits.TheConstants.{DATAGRAM}
use Rattle.link_machine.proofs.Rests.{behind_part, same_later}
use Rattle.link_machine.proofs.machine.Machine.send_fresh.Goals as goal

pub returns-clause-bytes : goal.returns-clause-bytes
returns-clause-bytes g c acts told timer got n floor owed speaks hears =
    let m = c.self.inside in
    let wire = g.L.WireLayout.wire in
    let now = subst (λ m. Hears m.receiver got n floor owed) (sym c.self.view_is) hears in
    let says = subst (λ m. Speaks m.sender acts told timer) (sym c.self.view_is) speaks in
    let cut = c.cut_into.ensures.bytes acts told timer says in
    let numbers = c.next_numbers-numbers.result in
    sealed_part wire c.is_wire.ensures (wire.told m.receiver.config.peer got floor) (tells_beside (Some numbers) owed) None None
    (fresh_load m.sender.config.own acts) numbers _ c.head-head.new.out _ _ c.finish.new.out c.head-head.result c.cut_into.result c.finish.result
    (c.next_numbers-numbers.ensures acts told timer says) refl (c.head-head.ensures.text got n floor owed now) cut.0 cut.1 c.finish.ensures.text
    ∙ ap (λ (m : Machine). wire.spell (datagram_with (layout_at wire m) got floor owed None (Some (fresh_load m.sender.config.own acts)))) c.self.view_is

pub returns-clause-carried : goal.returns-clause-carried
returns-clause-carried g c acts told timer speaks =
    let m = c.self.inside in
    let wire = g.L.WireLayout.wire in
    let says = subst (λ m. Speaks m.sender acts told timer) (sym c.self.view_is) speaks in
    subst (λ m. IsCarried (layout_at wire m) (fresh_load m.sender.config.own acts)) c.self.view_is
    (front_carried wire m.sender.config.wait m.receiver.config.delay m.sender.config.own m.receiver.config.peer
    (fresh_load m.sender.config.own acts) c.cut_into.result c.cut_into.new.out
    c.cut_into.ensures.fits c.cut_into.ensures.good (c.cut_into.ensures.bytes acts told
    timer says).1)

pub returns-clause-sends : goal.returns-clause-sends
returns-clause-sends g c acts told timer speaks =
    let says = subst (λ m. Speaks m.sender acts told timer) (sym c.self.view_is) speaks in
    subst (λ m. Speaks c.cut_into.new.self.sender (acts ▷ Cut) told (timer_begun (layout_at g.L.WireLayout.wire m) acts
    timer m.moment)) c.self.view_is
    (c.cut_into.ensures.stands c.self.inside.receiver.config.delay c.self.inside.receiver.config.peer acts
    told timer says)

pub returns-clause-hears : goal.returns-clause-hears
returns-clause-hears g c got n floor owed hears =
    subst (λ r. Hears r got n floor (owed_after owed)) (sym c.cut_into.ensures.receiver)
    (c.head-head.ensures.stands got n floor owed (subst (λ m. Hears m.receiver got n floor
    owed) (sym c.self.view_is) hears))

pub returns-clause-rest : goal.returns-clause-rest
returns-clause-rest g c =
    let head = c.head-head.result in
    let n = c.cut_into.result in
    let mid = c.head-head.new.out in
    c.finish.ensures.rest
    ∙ same_later _ c.args.out.now (head + n) c.finish.result c.finish.ensures.whole
    (behind_part mid c.cut_into.new.out DATAGRAM head n c.head-head.array_long
    (omega (arith, c.head-head.ensures.bound, c.cut_into.ensures.fits)) c.cut_into.auto.out c.cut_into.ensures.rest
    ∙ same_later mid c.args.out.now head (head + n) (omega arith) c.head-head.ensures.rest)
