use Rattle.std.proofs.Common.{[], ◌≡◌, take, if◌then◌else◌, None, Some, sym, subst, ◌∙◌}
use Rattle.carrier.specs.Due.{is_pressing}
use Rattle.link_machine.specs.ReceiverView.{Hears}
use Rattle.link_machine.specs.MachineView.{layout_at, datagram_with}
use Rattle.link_machine.proofs.Written.{sealed_bare, told_where}
use Rattle.link_machine.proofs.Rests.{same_later}
use Rattle.link_machine.proofs.machine.Machine.tell.Goals as goal

pub returns-clause-bytes : goal.returns-clause-bytes
returns-clause-bytes g c got n floor owed hears =
    let m = c.self.inside in
    let wire = g.L.WireLayout.wire in
    let now = subst (λ m. Hears m.receiver got n floor owed) (sym c.self.view_is) hears in
    let written = c.head-length.ensures.text got n floor owed now in
    let text = sealed_bare wire c.is_wire.ensures (wire.told m.receiver.config.peer got floor) None _ c.head-length.new.out c.finish.new.out c.head-length.result c.finish.result written c.finish.ensures.text in
    subst (λ m. Some (take c.finish.result c.finish.new.out) ≡ (if is_pressing (layout_at wire m) owed m.moment
    then Some (wire.spell (datagram_with (layout_at wire m) got floor owed None None)) else None)) c.self.view_is
    (told_where _ c.finish.result c.finish.new.out _ (sym (c.ack_is_due.ensures m.sender.config.wait
    m.sender.config.own got n floor owed now) ∙ c.if-not-ack_is_due.false) text)

pub returns-clause-hears : goal.returns-clause-hears
returns-clause-hears g c got n floor owed hears =
    let m = c.self.inside in
    let wire = g.L.WireLayout.wire in
    let after = c.head-length.new.self in
    let now = subst (λ m. Hears m.receiver got n floor owed) (sym c.self.view_is) hears in
    let pressing = sym (c.ack_is_due.ensures m.sender.config.wait m.sender.config.own got n floor owed now) ∙ c.if-not-ack_is_due.false in
    subst (λ m. Hears after got n floor (if is_pressing (layout_at wire m) owed m.moment then [] else owed)) c.self.view_is
    (subst (λ b. Hears after got n floor (if b then [] else owed)) (sym pressing) (c.head-length.ensures.stands got n floor owed now))

pub returns-clause-rest : goal.returns-clause-rest
returns-clause-rest g c =
    c.finish.ensures.rest
    ∙ same_later c.head-length.new.out c.args.out.now c.head-length.result c.finish.result
    c.finish.ensures.whole c.head-length.ensures.rest
