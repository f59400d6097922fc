use Rattle.std.proofs.Common.{◌≡◌, true, false, None, sym, ap, ◌∙◌, subst, take, option_map}
use Rattle.std.specs.Option.{IsSome}
use Rattle.mt_base.specs.Trace.{◌▷◌}
use Rattle.carrier.specs.Entries.{Polled}
use Rattle.link_core.specs.CoreView.{Stands, condition_of}
use Rattle.udp_open.specs.LinkView.{Link, StandsLink, is_closed_state}
use Rattle.udp_open.specs.OpeningView.{Handshake}
use Rattle.udp_open.proofs.LinkSteps.{sends_same, polls_closed, polls_machine, polls_owed}
use Rattle.udp_open.proofs.link.UdpLink.poll_open.Goals as goal

pub returns-then-not-owes-clause-trace : goal.returns-then-not-owes-clause-trace
returns-then-not-owes-clause-trace c t h =
    let i = c.self.inside in
    let l : Link = record { opening = i.opening; core = i.core } in
    let now = subst (λ (l : Link). StandsLink l t) (sym c.self.view_is) h in
    let some = subst (λ (l : Link). IsSome (l.opening).agreement) (sym c.self.view_is) c.requires.opens in
    let passed = c.pass.ensures in
    let at = c.moment.ensures.value ∙ ap (λ (o : Handshake). o.moment) passed in
    let out = option_map (λ n. take n c.poll.new.out) c.poll.result in
    subst (λ (o : Handshake). StandsLink (record { opening = o; core = c.poll.new.self }) (t ▷ Polled c.args.now out)) (sym passed)
    (polls_machine l c.poll.new.self t c.args.now out some (sym c.owes.ensures ∙ c.if-not-owes.true)
    (λ u stands. subst (λ k. Stands c.poll.new.self (u ▷ Polled k out)) at (c.poll.ensures.trace u stands)) c.poll.ensures.layout now)

pub returns-clause-trace : goal.returns-clause-trace
returns-clause-trace c t h =
    let i = c.self.inside in
    let l : Link = record { opening = i.opening; core = i.core } in
    let now = subst (λ (l : Link). StandsLink l t) (sym c.self.view_is) h in
    let some = subst (λ (l : Link). IsSome (l.opening).agreement) (sym c.self.view_is) c.requires.opens in
    let closed = subst (λ (l : Link). is_closed_state (condition_of l.core) ≡ false) (sym c.self.view_is) (sym c.is_closed.ensures ∙ c.if-is_closed.false) in
    let x = c.poll-2.ensures in
    let out = option_map (λ n. take n c.poll-2.new.out) c.poll-2.result in
    polls_owed l c.poll-2.new.self t c.args.now out some (sym c.owes.ensures ∙ c.if-not-owes.false) closed x.settings x.agreement (x.follows t out now.follows (sends_same out)) (x.due t now.follows) now

pub returns-then-is_closed-clause-trace : goal.returns-then-is_closed-clause-trace
returns-then-is_closed-clause-trace c t h =
    let i = c.self.inside in
    let l : Link = record { opening = i.opening; core = i.core } in
    let now = subst (λ (l : Link). StandsLink l t) (sym c.self.view_is) h in
    let some = subst (λ (l : Link). IsSome (l.opening).agreement) (sym c.self.view_is) c.requires.opens in
    let closed = subst (λ (l : Link). is_closed_state (condition_of l.core) ≡ true) (sym c.self.view_is) (sym c.is_closed.ensures ∙ c.if-is_closed.true) in
    subst (λ (o : Handshake). StandsLink (record { opening = o; core = i.core }) (t ▷ Polled c.args.now None)) (sym c.pass-then-is_closed.ensures)
    (polls_closed l t c.args.now some (sym c.owes.ensures ∙ c.if-not-owes.false) closed now)
