use Rattle.end_net.proofs.ByHand.{by_hand}
use Rattle.end_net.proofs.laws.a_network_by_hand.Goals as goal

pub returns : goal.returns
returns c = by_hand c.two_ends_by_hand.ensures.net c.a_link_opens.ensures.met c.a_lossy_link_carries_a_part.ensures.met
