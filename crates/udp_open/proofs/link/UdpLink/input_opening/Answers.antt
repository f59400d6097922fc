use Rattle.std.proofs.Common.{sym, ap, ◌∙◌, subst}
use Rattle.mt_base.specs.Trace.{Start, ◌▷◌}
use Rattle.carrier.specs.Entries.{In, given}
use Rattle.link_core.specs.CoreView.{Stands, link_layout}
use Rattle.udp_open.specs.declared.settings.OpenSettings.{OpenSettings}
use Rattle.udp_open.specs.LinkTrace.{begins, with_entries}
use Rattle.udp_open.specs.LinkView.{Link, StandsLink}
use Rattle.udp_open.specs.OpeningView.{Handshake, Follows, end_of}
use Rattle.udp_open.proofs.LinkSteps.{answers_same, hears_waiting, hears_agreeing}
use Rattle.udp_open.proofs.link.UdpLink.input_opening.Goals as goal

pub begin-requires : goal.begin-requires
begin-requires c = c.end.ensures.offered _ _ c.in-Agreed.is

pub returns-in-Agreed-clause-trace : goal.returns-in-Agreed-clause-trace
returns-in-Agreed-clause-trace c t h =
    let i = c.self.inside in
    let l : Link = record { opening = i.opening; core = i.core } in
    let n : Link = c.begin.new.self in
    let now = subst (λ (l : Link). StandsLink l t) (sym c.self.view_is) h in
    let x = c.input-took.ensures in
    let b = c.begin.ensures in
    let same = ap (λ (o : Handshake). o.settings) b.opening in
    hears_agreeing l n t c.args.now c.args.datagram.now c.input-took.result c.in-Agreed.version c.in-Agreed.peer_initial
    (ap (λ (l : Link). (l.opening).agreement) c.self.view_is ∙ c.requires.opens)
    (same ∙ x.settings) (ap (λ (o : Handshake). end_of o.agreement) b.opening ∙ sym c.end.ensures.value ∙ c.in-Agreed.is)
    (subst (λ (o : Handshake). Follows o (t ▷ In c.args.now c.args.datagram.now c.input-took.result)) (sym b.opening) (x.follows t _ now.follows (answers_same _)))
    (x.answer t now.follows)
    (λ stands good. subst (λ (s : OpenSettings). Stands n.core (with_entries Start (begins s.role (given t)))) x.settings (b.stands t stands good))
    (b.layout ∙ ap (λ (s : OpenSettings). link_layout s.initial c.in-Agreed.peer_initial c.in-Agreed.version) x.settings)
    now

pub returns-in-Waiting-clause-trace : goal.returns-in-Waiting-clause-trace
returns-in-Waiting-clause-trace c t h =
    let i = c.self.inside in
    let l : Link = record { opening = i.opening; core = i.core } in
    let now = subst (λ (l : Link). StandsLink l t) (sym c.self.view_is) h in
    let x = c.input-took.ensures in
    hears_waiting l c.input-took.new.self t c.args.now c.args.datagram.now c.input-took.result
    (ap (λ (l : Link). (l.opening).agreement) c.self.view_is ∙ c.requires.opens)
    x.settings (sym c.end.ensures.value ∙ c.in-Waiting.is)
    (x.follows t _ now.follows (answers_same _)) (x.answer t now.follows) now
