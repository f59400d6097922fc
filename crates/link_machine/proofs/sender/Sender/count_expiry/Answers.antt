use Rattle.std.proofs.Common.{◌≡◌, ◌+◌, true, false, cond, sym, ap, ◌∙◌, subst}
use Rattle.carrier.specs.Sending.{Timer, expires}
use Rattle.link_machine.specs.SenderView.{Speaks, layout_out}
use Rattle.link_machine.proofs.Sendings.{and_both, still_open}
use Rattle.link_machine.proofs.sender.Sender.count_expiry.Goals as goal

pub returns-then-not-expires-clause-expires : goal.returns-then-not-expires-clause-expires
returns-then-not-expires-clause-expires g c delay peer acts told timer h =
    and_both _ _ _ (still_open _ timer.expiries c.requires.open (ap (λ (x : Timer). x.expiries) h.timer_is)) (c.if-not-expires.ensures delay peer acts told timer h)

pub returns-then-not-expires-clause-stands : goal.returns-then-not-expires-clause-stands
returns-then-not-expires-clause-stands g c delay peer acts told timer h =
    let layout = layout_out g.L.WireLayout.wire c.args.self.now delay peer in
    let none : false ≡ expires layout timer acts c.args.at =
    and_both _ _ _ (still_open _ timer.expiries c.requires.open (ap (λ (x : Timer). x.expiries) h.timer_is)) (c.if-not-expires.ensures delay peer acts told timer h) in
    let counted : Timer = record { start = c.args.at; expiries = timer.expiries + 1 } in
    subst (λ x. Speaks c.args.self.now acts told x) (ap (λ b. cond b counted timer) none) h

pub returns-clause-expires : goal.returns-clause-expires
returns-clause-expires g c delay peer acts told timer h =
    and_both _ _ _ (still_open _ timer.expiries c.requires.open (ap (λ (x : Timer). x.expiries) h.timer_is)) (c.if-not-expires.ensures delay peer acts told timer h)

pub returns-clause-stands : goal.returns-clause-stands
returns-clause-stands g c delay peer acts told timer h =
    let layout = layout_out g.L.WireLayout.wire c.args.self.now delay peer in
    let there : true ≡ expires layout timer acts c.args.at =
    and_both _ _ _ (still_open _ timer.expiries c.requires.open (ap (λ (x : Timer). x.expiries) h.timer_is)) (c.if-not-expires.ensures delay peer acts told timer h) in
    let counted : Timer = record { start = c.args.at; expiries = timer.expiries + 1 } in
    let now = subst (λ s. Speaks s acts told timer) (sym c.self.view_is) h in
    let more : record { start = c.args.at; expiries = c.self.inside.clock.expiries + 1 } ≡ counted = ap (λ (x : Timer). record { start = c.args.at; expiries = x.expiries + 1 }) now.timer_is in
    record {
      sends = now.sends;
      window_is = now.window_is;
      timer_is = more ∙ ap (λ b. cond b counted timer) there;
    }
