use Rattle.udp1_packets.proofs.ByteLemmas.{opens_with}
use Rattle.udp1_packets.proofs.laws.opening_byte.Goals as goal

pub returns : goal.returns
returns c bytes p syn s is = opens_with bytes p syn s is
