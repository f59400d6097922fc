use Rattle.std.proofs.Common.{◌≡◌, ◌<◌, true, false, refl, sym, ap, ◌∙◌, subst, arith}
use Rattle.std.specs.Option.{IsSome}
use Rattle.std.proofs.lemmas.List.Elements.{All-from_get_or}
use Rattle.mt_base.specs.Trace.{◌▷◌}
use Rattle.carrier.specs.Entries.{In}
use Rattle.carrier.specs.declared.state.Took.TheVariants.{Ignored}
use Rattle.carrier.specs.declared.state.Reason.TheVariants as reason
use Rattle.link_core.specs.CoreView.{Stands, condition_of}
use Rattle.udp_open.specs.LinkTrace.{copies, tellings, with_entries}
use Rattle.udp_open.specs.LinkView.{Link, StandsLink, is_closed_state}
use Rattle.udp_open.specs.OpeningView.{Handshake, Follows}
use Rattle.udp_open.specs.declared.settings.OpenSettings.{OpenSettings}
use Rattle.udp_open.proofs.LinkSteps.{answers_same, takes_in, ignores, refuses, hears_open}
use Rattle.udp_open.proofs.Second.{no_packet}
use Rattle.udp_open.proofs.link.UdpLink.input_open.Goals as goal

pub returns-then-is_for_machine-clause-trace : goal.returns-then-is_for_machine-clause-trace
returns-then-is_for_machine-clause-trace c t h =
    let i = c.self.inside in
    let l : Link = record { opening = i.opening; core = i.core } in
    let now = subst (λ (l : Link). StandsLink l t) (sym c.self.view_is) h in
    let good = All-from_get_or (λ b. b < 256) c.args.datagram.now 0 (λ k within. omega (arith, c.type_inv.datagram k)) in
    let some = subst (λ (l : Link). IsSome (l.opening).agreement) (sym c.self.view_is) c.requires.opens in
    let passed = c.pass.ensures in
    let at = c.moment.ensures.value ∙ ap (λ (o : Handshake). o.moment) passed in
    subst (λ (o : Handshake). StandsLink (record { opening = o; core = c.input.new.self }) (t ▷ In c.args.now c.args.datagram.now c.input.result)) (sym passed)
    (takes_in l c.input.new.self t c.args.now c.args.datagram.now c.input.result some good (λ a is. sym (c.is_for_machine.ensures a is) ∙ c.if-is_for_machine.true)
    (λ u stands. subst (λ k. Stands c.input.new.self (u ▷ In k c.args.datagram.now c.input.result)) at (c.input.ensures.trace u stands)) c.input.ensures.layout now)

pub returns-then-is_closed-clause-trace : goal.returns-then-is_closed-clause-trace
returns-then-is_closed-clause-trace c t h =
    let i = c.self.inside in
    let l : Link = record { opening = i.opening; core = i.core } in
    let now = subst (λ (l : Link). StandsLink l t) (sym c.self.view_is) h in
    let some = subst (λ (l : Link). IsSome (l.opening).agreement) (sym c.self.view_is) c.requires.opens in
    let closed = subst (λ (l : Link). is_closed_state (condition_of l.core) ≡ true) (sym c.self.view_is) (sym c.is_closed.ensures ∙ c.if-is_closed.true) in
    subst (λ (o : Handshake). StandsLink (record { opening = o; core = i.core }) (t ▷ In c.args.now c.args.datagram.now (Ignored reason.LinkClosed))) (sym c.pass-then-is_closed.ensures)
    (ignores l t c.args.now c.args.datagram.now some (λ a is. sym (c.is_for_machine.ensures a is) ∙ c.if-is_for_machine.false) closed now)

pub returns-then-not-is_of_opening-clause-trace : goal.returns-then-not-is_of_opening-clause-trace
returns-then-not-is_of_opening-clause-trace c t h =
    let i = c.self.inside in
    let l : Link = record { opening = i.opening; core = i.core } in
    let now = subst (λ (l : Link). StandsLink l t) (sym c.self.view_is) h in
    let good = All-from_get_or (λ b. b < 256) c.args.datagram.now 0 (λ k within. omega (arith, c.type_inv.datagram k)) in
    let some = subst (λ (l : Link). IsSome (l.opening).agreement) (sym c.self.view_is) c.requires.opens in
    let closed = subst (λ (l : Link). is_closed_state (condition_of l.core) ≡ false) (sym c.self.view_is) (sym c.is_closed.ensures ∙ c.if-is_closed.false) in
    subst (λ (o : Handshake). StandsLink (record { opening = o; core = i.core }) (t ▷ In c.args.now c.args.datagram.now no_packet)) (sym c.pass-then-not-is_of_opening.ensures)
    (refuses l t c.args.now c.args.datagram.now some good
    (λ a is. sym (c.is_for_machine.ensures a is) ∙ c.if-is_for_machine.false)
    (λ a is. sym (c.is_of_opening.ensures a is) ∙ c.if-not-is_of_opening.true) closed now)

pub returns-in-Used-clause-trace : goal.returns-in-Used-clause-trace
returns-in-Used-clause-trace c t h =
    let i = c.self.inside in
    let l : Link = record { opening = i.opening; core = i.core } in
    let n : Link = c.owe_tellings.new.self in
    let now = subst (λ (l : Link). StandsLink l t) (sym c.self.view_is) h in
    let some = subst (λ (l : Link). IsSome (l.opening).agreement) (sym c.self.view_is) c.requires.opens in
    let closed = subst (λ (l : Link). is_closed_state (condition_of l.core) ≡ false) (sym c.self.view_is) (sym c.is_closed.ensures ∙ c.if-is_closed.false) in
    let x = c.input-took.ensures in
    let b = c.owe_tellings.ensures in
    hears_open l n t c.args.now c.args.datagram.now c.input-took.result some (λ a is. sym (c.is_of_opening.ensures a is) ∙ c.if-not-is_of_opening.false) closed
    (ap (λ (o : Handshake). o.settings) b.opening ∙ x.settings)
    (λ a is. ap (λ (o : Handshake). o.agreement) b.opening ∙ x.stays a is)
    (subst (λ (o : Handshake). Follows o (t ▷ In c.args.now c.args.datagram.now c.input-took.result)) (sym b.opening) (x.follows t _ now.follows (answers_same _)))
    (x.answer t now.follows)
    (λ u stands. subst (λ r. Stands n.core (with_entries u (copies (i.opening).settings.role r))) (sym c.in-Used.is) (subst (λ (s : OpenSettings). Stands n.core (with_entries u (tellings s.role))) x.settings (b.stands u stands)))
    b.layout now

pub returns-in-Ignored-clause-trace : goal.returns-in-Ignored-clause-trace
returns-in-Ignored-clause-trace c t h =
    let i = c.self.inside in
    let l : Link = record { opening = i.opening; core = i.core } in
    let n : Link = record { opening = c.input-took.new.self; core = i.core } in
    let now = subst (λ (l : Link). StandsLink l t) (sym c.self.view_is) h in
    let some = subst (λ (l : Link). IsSome (l.opening).agreement) (sym c.self.view_is) c.requires.opens in
    let closed = subst (λ (l : Link). is_closed_state (condition_of l.core) ≡ false) (sym c.self.view_is) (sym c.is_closed.ensures ∙ c.if-is_closed.false) in
    let x = c.input-took.ensures in
    hears_open l n t c.args.now c.args.datagram.now c.input-took.result some (λ a is. sym (c.is_of_opening.ensures a is) ∙ c.if-not-is_of_opening.false) closed
    x.settings x.stays (x.follows t _ now.follows (answers_same _)) (x.answer t now.follows)
    (λ u stands. subst (λ r. Stands i.core (with_entries u (copies (i.opening).settings.role r))) (sym c.in-Ignored.is) stands) refl now
