use Rattle.std.proofs.Common.{◌<◌, sym, ap, ◌∙◌, subst, arith}
use Rattle.std.proofs.lemmas.List.Elements.{All-from_get_or}
use Rattle.lossy_mode.specs.LossyView.{Lossy, StandsThin, condition_of}
use Rattle.lossy_mode.proofs.Steps.{posts, stays_alive}
use Rattle.lossy_mode.proofs.link.LossyCorePost.post.Goals as goal

pub returns-clause-trace : goal.returns-clause-trace
returns-clause-trace c t h =
    let i = c.self.inside in
    let l : Lossy = record { opening = i.opening; role = i.role; link = i.link } in
    let now = subst (λ (l : Lossy). StandsThin l t) (sym c.self.view_is) h in
    let good = All-from_get_or (λ b. b < 256) c.args.bytes.now 0 (λ k within. omega (arith, c.type_inv.bytes k)) in
    posts l c.push.new.self t c.args.bytes.now now c.push.ensures
    (stays_alive i.opening t now.follows (λ e is. c.in_default.not-Closed e (c.state.ensures ∙ sym (ap (λ (l : Lossy). condition_of l) c.self.view_is) ∙ is)))
    (omega (arith, c.if-queued.false, c.queued-queued.ensures)) c.requires.some c.requires.fits good
