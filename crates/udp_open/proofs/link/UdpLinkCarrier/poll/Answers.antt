use Rattle.std.proofs.Common.{sym, ◌∙◌, subst, take, option_map}
use Rattle.udp_open.proofs.LinkSteps.{none_at, sends_same, polls_waiting}
use Rattle.udp_open.specs.LinkView.{Link, StandsLink}
use Rattle.udp_open.proofs.link.UdpLinkCarrier.poll.Goals as goal

pub returns-in-Waiting-clause-trace : goal.returns-in-Waiting-clause-trace
returns-in-Waiting-clause-trace c t h =
    let i = c.self.inside in
    let l : Link = record { opening = i.opening; core = i.core } in
    let now = subst (λ (l : Link). StandsLink l t) (sym c.self.view_is) h in
    let x = c.poll.ensures in
    let out = option_map (λ n. take n c.poll.new.out) c.poll.result in
    polls_waiting l c.poll.new.self t c.args.now out (none_at (i.opening).agreement (sym c.end.ensures.value ∙ c.in-Waiting.is))
    x.settings x.agreement (x.follows t out now.follows (sends_same out)) (x.due t now.follows) now
