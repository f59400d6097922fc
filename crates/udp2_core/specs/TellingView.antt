-- A telling that has its place beside a part.
use Rattle.std.specs.Prelude.{◌≡◌, ◌≤◌, length, None}
use Rattle.udp2_packets.specs.Value.{Vector, Telling, NoTelling, AckTelling, VectorTelling}
use Rattle.udp2_packets.specs.Layout.{IsAck, IsVector}

-- a vector without a time, of at most 78 coded bytes
pub record IsShortVector (v : Vector) : Type 0 where
  pub vector_is : IsVector v
  pub timeless : v.stamp ≡ None
  pub short : length v.coded ≤ 78

abbrev pub IsShort : Telling → Type 0
IsShort NoTelling = Unit {0}
IsShort (AckTelling ack) = IsAck ack
IsShort (VectorTelling vector) = IsShortVector vector
