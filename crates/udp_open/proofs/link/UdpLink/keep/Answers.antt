use Rattle.std.proofs.Common.{◌<◌, sym, ap, ◌∙◌, subst, arith}
use Rattle.std.proofs.lemmas.List.Elements.{All-from_get_or}
use Rattle.std.proofs.lemmas.Result.{on_ok_weaker}
use Rattle.udp_open.specs.LinkView.{Link, StandsLink}
use Rattle.udp_open.proofs.LinkSteps.{keeps}
use Rattle.udp_open.proofs.link.UdpLink.keep.Goals as goal

pub returns-clause-trace : goal.returns-clause-trace
returns-clause-trace c =
    on_ok_weaker c.give.result (λ step t h.
    let i = c.self.inside in
    let l : Link = record { opening = i.opening; core = i.core } in
    let now = subst (λ (l : Link). StandsLink l t) (sym c.self.view_is) h in
    let good = All-from_get_or (λ b. b < 256) c.args.bytes.now 0 (λ k within. omega (arith, c.type_inv.bytes k)) in
    keeps l c.give.new.self t c.args.bytes.now (ap (λ (l : Link). (l.opening).agreement) c.self.view_is ∙ c.requires.opens) step good now)
    c.give.ensures.trace
