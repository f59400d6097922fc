use Rattle.std.proofs.Common.{length, ◌+◌, arith, ap₂, Some, sym, subst, ap, ◌∙◌}
use Rattle.mt_base.specs.Trace.{◌▷◌}
use Rattle.mt_windows.specs.Sending.Act.{Resent}
use Rattle.mt_windows.specs.Sending.{cuts, piece}
use Rattle.mt_windows.specs.SendingView.{limits}
use Rattle.carrier.specs.Due.{own_floor}
use Rattle.carrier.specs.LayoutLaw.{IsCarried}
use Rattle.link_machine.specs.declared.numbers.Numbers.{Numbers}
use Rattle.link_machine.specs.ReceiverView.{Hears}
use Rattle.link_machine.specs.SenderView.{Speaks}
use Rattle.link_machine.specs.MachineView.{Machine, layout_at, datagram_with, tells_beside, again_load, owed_after}
use Rattle.link_machine.proofs.Written.{sealed_part, front_carried, part_back, both_numbers, near_place}
use Rattle.mt_windows.specs.declared.limits.TheConstants.{DATAGRAM}
use Rattle.link_machine.proofs.Rests.{behind_part, same_later}
use Rattle.link_machine.proofs.machine.Machine.send_again.Goals as goal

pub returns-clause-bytes : goal.returns-clause-bytes
returns-clause-bytes g c p acts told timer got n floor owed part_is speaks hears =
    let m = c.self.inside in
    let wire = g.L.WireLayout.wire in
    let now = subst (λ m. Hears m.receiver got n floor owed) (sym c.self.view_is) hears in
    let says = subst (λ m. Speaks m.sender acts told timer) (sym c.self.view_is) speaks in
    let whole : Machine = record { moment = m.moment; sender = m.sender; receiver = m.receiver } in
    let above = Some (own_floor (layout_at wire whole) acts) in
    let here = part_is ∙ ap (λ m. m.sender.config.own + p) (sym c.self.view_is) in
    let cut = c.resend_into.ensures.bytes acts told timer says in
    let numbers : Numbers = record { part = c.args.part; transmission = c.next_numbers.result.transmission } in
    let place = ap (piece limits acts) (part_back c.args.part _ p here) in
    sealed_part wire c.is_wire.ensures (wire.told m.receiver.config.peer got floor) (tells_beside (Some numbers) owed) above (Some c.floor.result)
    (again_load m.sender.config.own p acts) numbers _ c.head-head.new.out _ _ c.finish.new.out c.head-head.result c.resend_into.result c.finish.result
    (ap₂ both_numbers here (ap (λ n. n.transmission) (c.next_numbers.ensures acts told timer says)))
    (ap Some (c.floor.ensures m.receiver.config.delay m.receiver.config.peer acts told timer says)) (c.head-head.ensures.text got n floor owed now)
    (cut.0 ∙ ap length place) (cut.1 ∙ place) c.finish.ensures.text
    ∙ ap (λ (m : Machine). wire.spell (datagram_with (layout_at wire m) got floor owed (Some (own_floor (layout_at wire m) acts)) (Some (again_load m.sender.config.own p acts)))) c.self.view_is

pub returns-clause-carried : goal.returns-clause-carried
returns-clause-carried g c p acts told timer part_is speaks =
    let m = c.self.inside in
    let wire = g.L.WireLayout.wire in
    let says = subst (λ m. Speaks m.sender acts told timer) (sym c.self.view_is) speaks in
    let here = part_is ∙ ap (λ m. m.sender.config.own + p) (sym c.self.view_is) in
    subst (λ m. IsCarried (layout_at wire m) (again_load m.sender.config.own p acts)) c.self.view_is
    (front_carried wire m.sender.config.wait m.receiver.config.delay m.sender.config.own m.receiver.config.peer
    (again_load m.sender.config.own p acts) c.resend_into.result c.resend_into.new.out
    c.resend_into.ensures.fits c.resend_into.ensures.good
    ((c.resend_into.ensures.bytes acts told timer says).1 ∙ ap (piece limits acts) (part_back c.args.part _ p here)))

pub returns-clause-sends : goal.returns-clause-sends
returns-clause-sends g c p acts told timer part_is speaks =
    let says = subst (λ m. Speaks m.sender acts told timer) (sym c.self.view_is) speaks in
    let here = part_is ∙ ap (λ m. m.sender.config.own + p) (sym c.self.view_is) in
    subst (λ k. Speaks c.resend_into.new.self.sender (acts ▷ Resent k) told timer) (part_back c.args.part _ p here)
    (c.resend_into.ensures.stands acts told timer says)

pub returns-clause-hears : goal.returns-clause-hears
returns-clause-hears g c got n floor owed hears =
    subst (λ r. Hears r got n floor (owed_after owed)) (sym c.resend_into.ensures.receiver)
    (c.head-head.ensures.stands got n floor owed (subst (λ m. Hears m.receiver got n floor
    owed) (sym c.self.view_is) hears))

pub returns-clause-near : goal.returns-clause-near
returns-clause-near g c p acts told timer part_is speaks =
    let says = subst (λ m. Speaks m.sender acts told timer) (sym c.self.view_is) speaks in
    near_place c.args.part c.self.inside.sender.config.own (cuts acts) p (part_is
    ∙ ap (λ m. m.sender.config.own + p) (sym c.self.view_is)) (c.resend_into.ensures.near acts told
    timer says)

pub returns-clause-rest : goal.returns-clause-rest
returns-clause-rest g c =
    let head = c.head-head.result in
    let n = c.resend_into.result in
    let mid = c.head-head.new.out in
    c.finish.ensures.rest
    ∙ same_later _ c.args.out.now (head + n) c.finish.result c.finish.ensures.whole
    (behind_part mid c.resend_into.new.out DATAGRAM head n c.head-head.array_long
    (omega (arith, c.head-head.ensures.bound, c.resend_into.ensures.fits)) c.resend_into.auto.out c.resend_into.ensures.rest
    ∙ same_later mid c.args.out.now head (head + n) (omega arith) c.head-head.ensures.rest)
