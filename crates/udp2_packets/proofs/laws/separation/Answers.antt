use Rattle.std.proofs.Common.{inl, inr, arith}
use Rattle.udp1_packets.proofs.ByteLemmas.{opens_with}
use Rattle.udp2_packets.proofs.Theorems.{high_byte, low_byte}
use Rattle.udp2_packets.proofs.laws.separation.Goals as goal

pub returns-clause-high : goal.returns-clause-high
returns-clause-high c datagram p s = high_byte datagram p s

pub returns-clause-low : goal.returns-clause-low
returns-clause-low c datagram long low = low_byte datagram long low

pub returns-clause-apart : goal.returns-clause-apart
returns-clause-apart c bytes opening syn second s is t =
    let high = high_byte bytes second t in
    elim (opens_with bytes opening syn s is) [ inl one ↦ omega arith | inr five ↦ omega arith ]
