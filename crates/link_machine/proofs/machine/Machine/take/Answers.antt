use Rattle.std.proofs.Common.{refl, ◌++◌, ◌∷◌, [], Some, sym, ap, ◌∙◌, subst, if◌then◌else◌}
use Rattle.carrier.specs.Receiving.{receives, floor_shown, owes}
use Rattle.carrier.specs.Sending.{hears, timer_told}
use Rattle.carrier.specs.Law.{answer_load}
use Rattle.link_machine.specs.ContentsView.{shown_by}
use Rattle.link_machine.specs.ReceiverView.{Hears, load_of}
use Rattle.link_machine.specs.SenderView.{Speaks}
use Rattle.link_machine.specs.MachineView.{layout_at}
use Rattle.link_machine.proofs.machine.Machine.take.Goals as goal

pub returns-clause-answer : goal.returns-clause-answer
returns-clause-answer g c got n floor owed hears =
    let m = c.self.inside in
    let now = subst (λ m. Hears m.receiver got n floor owed) (sym c.self.view_is) hears in
    c.take.ensures.answer m.sender.config.wait m.sender.config.own got n floor owed now
    ∙ ap (λ m. answer_load (layout_at g.L.WireLayout.wire m) got n (load_of c.args.contents.now.load)) c.self.view_is

pub returns-clause-sends : goal.returns-clause-sends
returns-clause-sends g c acts told timer speaks =
    let m = c.self.inside in
    let shown = Some (shown_by g.L.WireLayout.wire.flags c.args.contents.now) in
    let now = subst (λ m. Speaks m.sender acts told timer) (sym c.self.view_is) speaks in
    subst (λ m. Speaks c.hear.new.self (hears (layout_at g.L.WireLayout.wire m) acts shown) c.args.contents.now.window (timer_told (layout_at g.L.WireLayout.wire m) timer acts (hears (layout_at g.L.WireLayout.wire m) acts shown) m.moment)) c.self.view_is
    (c.hear.ensures.stands m.receiver.config.delay m.receiver.config.peer acts told timer now)

pub returns-clause-hears : goal.returns-clause-hears
returns-clause-hears g c got n floor owed hears =
    let m = c.self.inside in
    let s = shown_by g.L.WireLayout.wire.flags c.args.contents.now in
    let now = subst (λ m. Hears m.receiver got n floor owed) (sym c.self.view_is) hears in
    subst (λ m. Hears c.take.new.self (receives (layout_at g.L.WireLayout.wire m) got n (Some s)) n (floor_shown (layout_at g.L.WireLayout.wire m) got n (receives (layout_at g.L.WireLayout.wire m) got n (Some s)) floor (Some s)) (if owes (layout_at g.L.WireLayout.wire m) got n (Some s) then owed ++ m.moment ∷ [] else owed)) c.self.view_is
    (c.take.ensures.stands m.sender.config.wait m.sender.config.own got n floor owed s refl refl now)
