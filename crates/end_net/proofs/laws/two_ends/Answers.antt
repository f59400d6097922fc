use Rattle.mt_base.specs.declared.kinds.Kind.{Kind}
use Rattle.mt_base.specs.declared.kinds.Kind.TheVariants.{Reliable, Lossy}
use Rattle.mt_base.specs.declared.kinds.Role.{Role}
use Rattle.udp_open.specs.TwoLinks.{AgreesIn}
use Rattle.end_net.specs.Network.{steps}
use Rattle.end_net.proofs.OpenTunnels.{opened_at}
use Rattle.end_net.proofs.Places.{net_of}
use Rattle.end_net.proofs.laws.two_ends.Goals as goal

pub returns : goal.returns
returns c late settings w n =
    let net = net_of late settings (λ v h s. c.two_links.ensures.pulled late (settings Reliable) v h s, λ v h s. c.lossy_links_join.ensures.handed late (settings Lossy) v h s) w n in record {
      safe = c.two_ends_in_bytes.ensures w net;
      arrive = λ s. c.two_links.ensures.arrive late (settings Reliable) (steps Reliable w) n.reliable s;
      agree = by_kind;
      opened = opened_at w net;
    }
  where
    by_kind : (kind : Kind) (s : Role) → AgreesIn (settings kind) (steps kind w) s
    by_kind Reliable s = c.two_links.ensures.agree late (settings Reliable) (steps Reliable w) n.reliable s
    by_kind Lossy s = c.lossy_links_join.ensures.agree late (settings Lossy) (steps Lossy w) n.lossy s
