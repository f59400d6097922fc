use Rattle.std.proofs.Common.{◌≡◌, ◌≤◌, ap, sym, subst, arith}
use Rattle.link_machine.specs.MachineView.{Machine, Stands, layout_at}
use Rattle.link_machine.proofs.Steps.{at_layout, same_sender}
use Rattle.link_machine.proofs.Polls.{Chose, chose, silent, stands_again, stands_fresh, stands_telling}
use Rattle.link_machine.proofs.machine.MachineCarrier.poll.Goals as goal

pub returns-in-Silent-clause-trace : goal.returns-in-Silent-clause-trace
returns-in-Silent-clause-trace g c t h =
    let i = c.self.inside in
    let m : Machine = record { moment = i.moment; sender = i.sender; receiver = i.receiver } in
    let n : Machine = record {
      moment = c.max-self-inside.result;
      sender =
          c.choose.new.self;
      receiver = i.receiver;
    } in
    let p = c.choose.ensures in
    let some_own : 1 ≤ n.sender.config.own = omega (arith, ap (λ k. k.own) p.config, c.self.invariant.some_own) in
    let some_peer = c.self.invariant.some_peer in
    let same : layout_at g.L.WireLayout.wire m ≡ layout_at g.L.WireLayout.wire n = same_sender g.L.WireLayout.wire m c.choose.new.self p.config in
    let now = at_layout _ _ m t same (subst (λ m. Stands g.L.WireLayout.wire m t) (sym c.self.view_is) h) in
    let chosen = subst (Chose g.L.WireLayout.wire n t) c.in-Silent.is
    (chose g.L.WireLayout.wire m n t _ same (p.choice i.receiver.config.delay i.receiver.config.peer) (p.stands i.receiver.config.delay
    i.receiver.config.peer) now) in
    silent g.L.WireLayout.wire c.is_wire.ensures n.sender.config.wait i.receiver.config.delay n.sender.config.own i.receiver.config.peer some_own some_peer m n t c.args.now
    c.max-self-inside.ensures now chosen.means chosen.speaks now.hears

pub returns-in-Again-clause-trace : goal.returns-in-Again-clause-trace
returns-in-Again-clause-trace g c t h =
    let i = c.self.inside in
    let m : Machine = record { moment = i.moment; sender = i.sender; receiver = i.receiver } in
    let n : Machine = record {
      moment = c.max-self-inside.result;
      sender =
          c.choose.new.self;
      receiver = i.receiver;
    } in
    let p = c.choose.ensures in
    let some_own : 1 ≤ n.sender.config.own = omega (arith, ap (λ k. k.own) p.config, c.self.invariant.some_own) in
    let some_peer = c.self.invariant.some_peer in
    let same : layout_at g.L.WireLayout.wire m ≡ layout_at g.L.WireLayout.wire n = same_sender g.L.WireLayout.wire m c.choose.new.self p.config in
    let now = at_layout _ _ m t same (subst (λ m. Stands g.L.WireLayout.wire m t) (sym c.self.view_is) h) in
    let chosen = subst (Chose g.L.WireLayout.wire n t) c.in-Again.is
    (chose g.L.WireLayout.wire m n t _ same (p.choice i.receiver.config.delay i.receiver.config.peer) (p.stands i.receiver.config.delay
    i.receiver.config.peer) now) in
    let q = c.send_again.ensures in
    let place = chosen.means.1 in
    stands_again g.L.WireLayout.wire c.is_wire.ensures m n c.send_again.new.self some_own some_peer t c.args.now c.max-self-inside.ensures q.moment
    q.layout now
    c.in-Again.part _ chosen (q.carried _ _ _ _ place chosen.speaks)
    (p.unsettled c.in-Again.part c.in-Again.is) (q.near _ _ _ _ place chosen.speaks)
    (q.bytes _ _ _ _ _ _ _ _ place chosen.speaks now.hears) (q.sends _ _ _ _ place chosen.speaks)
    (q.hears _ _ _ _ now.hears)

pub returns-in-Fresh-clause-trace : goal.returns-in-Fresh-clause-trace
returns-in-Fresh-clause-trace g c t h =
    let i = c.self.inside in
    let m : Machine = record { moment = i.moment; sender = i.sender; receiver = i.receiver } in
    let n : Machine = record {
      moment = c.max-self-inside.result;
      sender =
          c.choose.new.self;
      receiver = i.receiver;
    } in
    let p = c.choose.ensures in
    let some_own : 1 ≤ n.sender.config.own = omega (arith, ap (λ k. k.own) p.config, c.self.invariant.some_own) in
    let some_peer = c.self.invariant.some_peer in
    let same : layout_at g.L.WireLayout.wire m ≡ layout_at g.L.WireLayout.wire n = same_sender g.L.WireLayout.wire m c.choose.new.self p.config in
    let now = at_layout _ _ m t same (subst (λ m. Stands g.L.WireLayout.wire m t) (sym c.self.view_is) h) in
    let chosen = subst (Chose g.L.WireLayout.wire n t) c.in-Fresh.is
    (chose g.L.WireLayout.wire m n t _ same (p.choice i.receiver.config.delay i.receiver.config.peer) (p.stands i.receiver.config.delay
    i.receiver.config.peer) now) in
    let q = c.send_fresh.ensures in
    stands_fresh g.L.WireLayout.wire c.is_wire.ensures m n c.send_fresh.new.self some_own some_peer t c.args.now c.max-self-inside.ensures q.moment
    q.layout now
    _ chosen (q.carried _ _ _ chosen.speaks) (q.bytes _ _ _ _ _ _ _ chosen.speaks now.hears)
    (q.sends _ _ _ chosen.speaks) (q.hears _ _ _ _ now.hears)

pub returns-in-Telling-clause-trace : goal.returns-in-Telling-clause-trace
returns-in-Telling-clause-trace g c t h =
    let i = c.self.inside in
    let m : Machine = record { moment = i.moment; sender = i.sender; receiver = i.receiver } in
    let n : Machine = record {
      moment = c.max-self-inside.result;
      sender =
          c.choose.new.self;
      receiver = i.receiver;
    } in
    let p = c.choose.ensures in
    let some_own : 1 ≤ n.sender.config.own = omega (arith, ap (λ k. k.own) p.config, c.self.invariant.some_own) in
    let some_peer = c.self.invariant.some_peer in
    let same : layout_at g.L.WireLayout.wire m ≡ layout_at g.L.WireLayout.wire n = same_sender g.L.WireLayout.wire m c.choose.new.self p.config in
    let now = at_layout _ _ m t same (subst (λ m. Stands g.L.WireLayout.wire m t) (sym c.self.view_is) h) in
    let chosen = subst (Chose g.L.WireLayout.wire n t) c.in-Telling.is
    (chose g.L.WireLayout.wire m n t _ same (p.choice i.receiver.config.delay i.receiver.config.peer) (p.stands i.receiver.config.delay
    i.receiver.config.peer) now) in
    let q = c.tell.ensures in
    stands_telling g.L.WireLayout.wire c.is_wire.ensures m n c.tell.new.self some_own some_peer t c.args.now c.max-self-inside.ensures q.moment q.layout now
    _ chosen (q.bytes _ _ _ _ now.hears) q.sender (q.hears _ _ _ _ now.hears)
