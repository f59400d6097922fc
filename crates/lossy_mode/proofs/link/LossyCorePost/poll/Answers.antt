use Rattle.std.proofs.Common.{◌≡◌, ℕ, List, take, Option, Some, option_map, refl, sym, ap, ◌∙◌, subst}
use Rattle.mt_base.specs.Trace.{◌▷◌}
use Rattle.carrier.specs.declared.state.LinkState.TheVariants.{Closed}
use Rattle.carrier.specs.Entries.{Polled}
use Rattle.udp_open.specs.declared.agreement.Agreement.{Agreement}
use Rattle.udp_open.specs.declared.settings.OpenSettings.{OpenSettings}
use Rattle.udp_open.specs.Handshake.{agreed}
use Rattle.udp_open.specs.OpeningView.{Handshake, Follows}
use Rattle.lossy_mode.specs.LossyView.{Lossy, OpenLink, StandsThin, condition_by, condition_of}
use Rattle.lossy_mode.proofs.Polls.{Sending, closed_at, condition_same, owes_out, polls_opening, polls_link}
use Rattle.lossy_mode.proofs.link.LossyCorePost.poll.Goals as goal

pub returns-in-Some-clause-trace : goal.returns-in-Some-clause-trace
returns-in-Some-clause-trace c t h =
    let i = c.self.inside in
    let l : Lossy = record { opening = i.opening; role = i.role; link = i.link } in
    let now = subst (λ (l : Lossy). StandsThin l t) (sym c.self.view_is) h in
    let out = take c.in-Some.length c.poll.new.out in
    polls_opening c.poll.new.self l c.pass.new.self t c.args.now out c.poll.ensures.settings now
    (c.in-Some.ensures.follows t (Some out) now.follows refl) c.pass.ensures (c.in-Some.ensures.due t now.follows)

pub returns-in-None-clause-trace : goal.returns-in-None-clause-trace
returns-in-None-clause-trace c t h =
    let i = c.self.inside in
    let l : Lossy = record { opening = i.opening; role = i.role; link = i.link } in
    let now = subst (λ (l : Lossy). StandsThin l t) (sym c.self.view_is) h in
    let out : Option (List ℕ) = option_map (λ n. take n c.send.new.out) c.send.result in
    let k = c.send.new.self.link in
    let q = c.poll.new.self in
    let raw : Sending q.settings q.agreement c.pass.new.self k out = record {
      moment_is = ap (λ (x : OpenLink). x.moment) c.send.ensures.others;
      arrivals_is = ap (λ (x : OpenLink). x.arrivals) c.send.ensures.others;
      bytes = c.send.ensures.bytes;
      parts = c.send.ensures.parts;
      next = c.send.ensures.next;
      owes = λ owed h. owes_out k.tellings owed (λ n. take n c.send.new.out) c.send.result (c.send.ensures.owes owed h);
    } in
    let sending = subst (λ (p : OpenLink). Sending i.opening.settings (agreed i.opening.settings t) p k out) c.pass.ensures
    (subst (λ (a : Option Agreement). Sending i.opening.settings a c.pass.new.self k out) (c.poll.ensures.agreement ∙ now.follows.agreement_is)
    (subst (λ (s : OpenSettings). Sending s q.agreement c.pass.new.self k out) c.poll.ensures.settings raw)) in
    polls_link c.send.new.self.opening c.send.new.self.role l k t c.args.now out
    (ap (λ (o : Handshake). o.settings) c.send.ensures.opening ∙ c.poll.ensures.settings) now
    (subst (λ (o : Handshake). Follows o (t ▷ Polled c.args.now out)) (sym c.send.ensures.opening) (c.in-None.ensures.follows t out now.follows tt))
    (c.in-None.ensures.due t now.follows) sending

pub returns-in-None-clause-stays_closed : goal.returns-in-None-clause-stays_closed
returns-in-None-clause-stays_closed c e h =
    let i = c.self.inside in
    let was = subst (λ (l : Lossy). condition_of l ≡ Closed e) (sym c.self.view_is) h in
    let closed = closed_at i.opening i.opening.agreement e was in
    let silent = c.poll.ensures.silent closed.0 closed.1 in (
      ap (λ (o : Handshake). condition_by o o.agreement) c.send.ensures.opening
          ∙ condition_same c.poll.new.self i.opening c.poll.ensures.agreement silent.0 ∙ was,
      c.send.ensures.waits (c.poll.ensures.agreement ∙ closed.0),
    )
