use Rattle.std.proofs.Common.{◌≡◌, Some, sym, ap, ◌∙◌, subst, arith, rules}
use Rattle.hold_queue.specs.Held.{weight, without}
use Rattle.hold_queue.specs.Stored.{held_in}
use Rattle.hold_queue.proofs.Releasing.{weight_without}
use Rattle.hold_queue.proofs.hold.Hold.drop_all.Goals as goal

pub invariant_of-self : goal.invariant_of-self
invariant_of-self c =
    let m = c.self.inside.rings in
    let counted = (c.self.invariant).3 in
    let within = (c.self.invariant).4 in
    let fewer = weight_without c.args.id (held_in m.records.items m.bytes.items) in
    let e = c.close_up.ensures in
    let held = ap weight e.held in
    let is = c.weight-self-inside.ensures ∙ sym e.dense in
    (e.stored, e.room.0, e.room.1, is, omega (arith, is, held, fewer, counted, within))
