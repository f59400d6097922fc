-- The rule of a capture that speaks of acknowledgements: what an `out` tells as received are numbers
-- that datagrams of the other side showed which came. Numbers are those that stand in datagrams, of
-- 32 bits in the first layout and of 16 in the second, and go round.
use Rattle.std.specs.Prelude.{◌≡◌, ◌⊎◌, ℕ, ◌+◌, ◌%◌, ◌^◌, ◌<◌, ◌≤◌, Bool, true, List, ◌∷◌, ◌++◌, length, Option, Some, None}
use Rattle.mt_base.specs.declared.kinds.Role.{Role}
use Rattle.mt_base.specs.declared.kinds.Kind.{Kind}
use Rattle.mt_base.specs.Ends.{other}
use Rattle.ack_vector.specs.Elements.{flags_of as flags_of_elements}
use Rattle.coded_vector.specs.CodedBytes.{flags_of as flags_of_coded}
use Rattle.udp1_packets.specs.Value.{Syn, Body, SynBody, DataBody, FecBody, BareBody, Packet}
use Rattle.udp1_packets.specs.Layout.{Spells}
use Rattle.udp2_packets.specs.Value.{Telling, NoTelling, AckTelling, VectorTelling, Packet as SecondPacket}
use Rattle.udp2_packets.specs.Layout.{number_in, Spells as SpellsSecond}
use Rattle.capture_check.specs.declared.layout.Layout.{Layout}
use Rattle.capture_check.specs.declared.layout.Layout.TheVariants.{First, Second}
use Rattle.capture_check.specs.declared.entry.Entry.{Entry}
use Rattle.capture_check.specs.declared.entry.Entry.TheVariants.{Out, In}
use Rattle.capture_check.specs.Numbers.{HasOut}
use Rattle.capture_check.specs.Layouts.{IsOpening, Agreed}

-- ---- what a datagram shows

-- the number of the part in a packet of the first layout, SnSourceStart
abbrev pub start_in : Body → Option ℕ
start_in (SynBody syn) = None
start_in (DataBody vector aoa coded start bytes) = Some start
start_in (FecBody vector aoa coded start range index bytes) = Some start
start_in (BareBody vector aoa rest) = None

-- A datagram shows a number: that of its part in the first layout, DataSeqNum in the second.
abbrev pub Shows : Layout → List ℕ → ℕ → Type 0
Shows First datagram n =
    (packet : Packet) × Spells datagram packet × (start_in packet.body ≡ Some n)
Shows Second datagram n =
    (packet : SecondPacket) × SpellsSecond datagram packet × (number_in packet.body ≡ Some n)

-- ---- what a datagram tells as received

-- the elements of the vector in a packet of the first layout
abbrev pub elements_in : Body → Option (List ℕ)
elements_in (SynBody syn) = None
elements_in (DataBody vector aoa coded start bytes) = vector
elements_in (FecBody vector aoa coded start range index bytes) = vector
elements_in (BareBody vector aoa rest) = vector

-- A flag says that this number was received, and the last flag is that of the acknowledged number
-- (MS-RDPEUDP section 3.1.1.4).
pub record IsFlaggedUpTo (last : ℕ) (flags : List Bool) (n : ℕ) : Type 0 where
  pub front : List Bool
  pub back : List Bool
  pub parts : flags ≡ front ++ true ∷ back
  pub fits : n < 2 ^ 32
  pub number_is : (n + length back) % 2 ^ 32 ≡ last

-- A flag says that this number was received, and the first flag is that of the base number
-- (MS-RDPEUDP2 section 2.2.1.2.6).
pub record IsFlaggedFrom (base : ℕ) (flags : List Bool) (n : ℕ) : Type 0 where
  pub front : List Bool
  pub back : List Bool
  pub parts : flags ≡ front ++ true ∷ back
  pub number_is : n ≡ (base + length front) % 2 ^ 16

-- The number is SeqNum, or one of so many delayed ones before it (MS-RDPEUDP2 section 2.2.1.2.1).
pub record IsAcked (number delayed : ℕ) (n : ℕ) : Type 0 where
  pub before : ℕ
  pub few : before ≤ delayed
  pub fits : n < 2 ^ 16
  pub number_is : (n + before) % 2 ^ 16 ≡ number

-- what stands in a packet of the second layout tells this number
abbrev pub TellsSecond : Telling → ℕ → Type 0
TellsSecond NoTelling n = ⊥
TellsSecond (AckTelling ack) n = IsAcked ack.number (length ack.delays) n
TellsSecond (VectorTelling vector) n = IsFlaggedFrom vector.base (flags_of_coded vector.coded) n

-- a datagram tells this number as received
abbrev pub Tells : Layout → List ℕ → ℕ → Type 0
Tells First datagram n = (packet : Packet) × (elements : List ℕ) × Spells datagram packet
    × (elements_in packet.body ≡ Some elements)
    × IsFlaggedUpTo packet.ack (flags_of_elements elements) n
Tells Second datagram n =
    (packet : SecondPacket) × SpellsSecond datagram packet × TellsSecond packet.telling n

-- it acknowledges SeqNum 0, and the number is that
abbrev pub AcksZeroIn : Telling → ℕ → Type 0
AcksZeroIn NoTelling n = ⊥
AcksZeroIn (AckTelling ack) n = (ack.number ≡ 0) × (n ≡ 0)
AcksZeroIn (VectorTelling vector) n = ⊥

abbrev pub AcksZero : Layout → List ℕ → ℕ → Type 0
AcksZero First datagram n = ⊥
AcksZero Second datagram n =
    (packet : SecondPacket) × SpellsSecond datagram packet × AcksZeroIn packet.telling n

-- ---- what came

-- a datagram that is given after these entries is no opening, and its link agreed on this layout
abbrev pub HasLayout : Kind → List Entry → List ℕ → Layout → Type 0
HasLayout kind before datagram layout =
    ((syn : Syn) → ¬ IsOpening datagram syn) × Agreed kind before layout

-- it shows a number, in this layout
abbrev pub ShowsAfter : Kind → List Entry → List ℕ → ℕ → Type 0
ShowsAfter kind before datagram n =
    (layout : Layout) × HasLayout kind before datagram layout × Shows layout datagram n

-- a datagram of this side and kind came that shows this number: the `out` that an `in` names
pub record CameWith (side : Role) (kind : Kind) (entries : List Entry) (n : ℕ) : Type 0 where
  pub front : List Entry
  pub number : ℕ
  pub back : List Entry
  pub parts : entries ≡ front ++ In side kind number ∷ back
  pub given : HasOut side kind number front
  pub shows : ShowsAfter kind given.front given.datagram n

-- Rule 6: each number that an `out` tells as received came from the other side, except SeqNum 0
-- while no number came.
abbrev pub TellsWhatCame : List Entry → Entry → Type 0
TellsWhatCame before (Out side kind number datagram) =
    (layout : Layout) (n : ℕ) → HasLayout kind before datagram layout → Tells layout datagram n
    → CameWith (other side) kind before n
    ⊎ (AcksZero layout datagram n × ((m : ℕ) → ¬ CameWith (other side) kind before m))
TellsWhatCame before other = Unit {0}
