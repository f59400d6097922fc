-- The second layout (MS-RDPEUDP2 section 2.2): which datagrams spell a packet. All numbers stand
-- with their lowest byte first.
use Rattle.std.specs.Prelude.{◌≡◌, ℕ, ◌+◌, ◌-◌, ◌*◌, ◌^◌, ◌<◌, ◌≤◌, ◌==◌, min, Bool, not, List, [], ◌∷◌, ◌++◌, length, replicate, All, Option, Some, None, is_some, IfSome, if◌then◌else◌}
use Rattle.std.specs.Int.RustNames.{bit_and}
use Rattle.byteorder.specs.Endian.{little_bytes}
use Rattle.mt_base.specs.Writing.{joined}
use Rattle.mt_base.specs.Parts.{where_some}
use Rattle.udp2_packets.specs.Value.{Ack, Stamp, Vector, Telling, NoTelling, AckTelling, VectorTelling, Delay, Body, NoBody, DataBody, DummyBody, Packet}

-- ---- what a packet has

abbrev pub ack_in : Telling → Option Ack
ack_in NoTelling = None
ack_in (AckTelling ack) = Some ack
ack_in (VectorTelling vector) = None

abbrev pub vector_in : Telling → Option Vector
vector_in NoTelling = None
vector_in (AckTelling ack) = None
vector_in (VectorTelling vector) = Some vector

abbrev pub number_in : Body → Option ℕ
number_in NoBody = None
number_in (DataBody number part bytes) = Some number
number_in (DummyBody number rest) = number

abbrev pub part_in : Body → Option ℕ
part_in NoBody = None
part_in (DataBody number part bytes) = Some part
part_in (DummyBody number rest) = None

-- the bytes behind all fields, up to the packet's end
abbrev pub rest_in : Body → List ℕ
rest_in NoBody = []
rest_in (DataBody number part bytes) = bytes
rest_in (DummyBody number rest) = rest

-- ---- the header

-- one of these flags is set
abbrev pub has : ℕ → ℕ → Bool
has flags mask = not (bit_and flags mask == 0)

-- a flag, where something is so
abbrev pub flag_if : Bool → ℕ → ℕ
flag_if set flag = if set then flag else 0

-- ACK 0x001, DATA 0x004, ACKVEC 0x008, AOA 0x010, OVERHEADSIZE 0x040, DELAYACKINFO 0x100: each
-- says that its field is there
abbrev pub flags_for : Bool → Bool → Bool → Bool → Bool → Bool → ℕ
flags_for ack number vector aoa overhead delay =
    flag_if ack 0x001 + flag_if number 0x004 + flag_if vector 0x008 + flag_if aoa 0x010
    + flag_if overhead 0x040 + flag_if delay 0x100

abbrev pub flags : Packet → ℕ
flags p =
    flags_for (is_some (ack_in p.telling)) (is_some (number_in p.body))
    (is_some (vector_in p.telling)) (is_some p.aoa) (is_some p.overhead) (is_some p.delay)

-- the flags in the lower twelve bits, the logarithm of the window in the upper four
abbrev pub header : ℕ → ℕ → List ℕ
header flags log_window = little_bytes 2 (flags + 4096 * log_window)

-- ---- the fields in order

abbrev pub byte_field : ℕ → List (List ℕ)
byte_field byte = (byte ∷ []) ∷ []

abbrev pub number_field : ℕ → List (List ℕ)
number_field number = little_bytes 2 number ∷ []

-- an acknowledgement; one byte holds the number of delays in its lower four bits and their scale in
-- the upper four
abbrev pub ack_fields : Ack → List (List ℕ)
ack_fields a =
    little_bytes 2 a.number ∷ little_bytes 3 a.received_ts ∷ (a.gap ∷ [])
    ∷ ((length a.delays + 16 * a.scale) ∷ []) ∷ a.delays ∷ []

abbrev pub stamp_fields : Stamp → List (List ℕ)
stamp_fields s = little_bytes 3 s.time ∷ (s.gap ∷ []) ∷ []

-- a vector; one byte holds the number of coded bytes in its lower seven bits, and whether
-- there is a time in the highest
abbrev pub vector_fields : Vector → List (List ℕ)
vector_fields v =
    little_bytes 2 v.base ∷ ((length v.coded + flag_if (is_some v.stamp) 128) ∷ [])
    ∷ (where_some stamp_fields v.stamp ++ (v.coded ∷ []))

-- how long acknowledgements may be delayed
abbrev pub delay_fields : Delay → List (List ℕ)
delay_fields d = (d.most ∷ []) ∷ little_bytes 2 d.timeout ∷ []

-- The fields behind the header: the acknowledgement, the size of overhead, the delay, the
-- acknowledgement of acknowledgements, the number of a transmission, the vector, and the number of
-- a part.
abbrev pub announced_fields : Packet → List (List ℕ)
announced_fields p =
    where_some ack_fields (ack_in p.telling)
    ++ (where_some byte_field p.overhead
    ++ (where_some delay_fields p.delay
    ++ (where_some number_field p.aoa
    ++ (where_some number_field (number_in p.body)
    ++ (where_some vector_fields (vector_in p.telling)
    ++ where_some number_field (part_in p.body))))))

-- all fields, up to the bytes that end the packet
abbrev pub fields : Packet → List (List ℕ)
fields p = header (flags p) p.log_window ∷ announced_fields p

-- the packet without its prefix byte
abbrev pub text : Packet → List ℕ
text p = joined (fields p) ++ rest_in p.body

-- ---- the values that the layout has

abbrev pub IsBytes : List ℕ → Type 0
IsBytes bytes = All (λ b. b < 256) bytes

pub record IsAck (a : Ack) : Type 0 where
  pub number_fits : a.number < 2 ^ 16
  pub received_ts_fits : a.received_ts < 2 ^ 24
  pub gap_fits : a.gap < 2 ^ 8
  pub scale_fits : a.scale < 2 ^ 4
  pub few_delays : length a.delays < 2 ^ 4
  pub delays_are : IsBytes a.delays

abbrev pub IsStamp : Stamp → Type 0
IsStamp s = (s.time < 2 ^ 24) × (s.gap < 2 ^ 8)

pub record IsVector (v : Vector) : Type 0 where
  pub base_fits : v.base < 2 ^ 16
  pub stamp_is : IfSome v.stamp IsStamp
  pub few_coded : length v.coded < 2 ^ 7
  pub coded_are : IsBytes v.coded

abbrev pub IsDelay : Delay → Type 0
IsDelay d = (d.most < 2 ^ 8) × (d.timeout < 2 ^ 16)

-- the layout has this value
pub record IsPacket (p : Packet) : Type 0 where
  pub log_window_fits : p.log_window < 2 ^ 4
  pub ack_is : IfSome (ack_in p.telling) IsAck
  pub vector_is : IfSome (vector_in p.telling) IsVector
  pub overhead_fits : IfSome p.overhead (λ size. size < 2 ^ 8)
  pub delay_is : IfSome p.delay IsDelay
  pub aoa_fits : IfSome p.aoa (λ number. number < 2 ^ 16)
  pub number_fits : IfSome (number_in p.body) (λ number. number < 2 ^ 16)
  pub part_fits : IfSome (part_in p.body) (λ part. part < 2 ^ 16)
  pub rest_are : IsBytes (rest_in p.body)

-- ---- the prefix byte, and the exchange of two bytes

-- the packet type: 0 for data, 8 for a dummy
abbrev pub kind : Body → ℕ
kind NoBody = 0
kind (DataBody number part bytes) = 0
kind (DummyBody number rest) = 8

-- a reserved bit, the packet type in four bits, and the short length in the upper three: the
-- packet's length without the prefix byte where that is below 7, else 7
abbrev pub prefix : ℕ → ℕ → ℕ → ℕ
prefix reserved kind long = reserved + 2 * kind + 32 * min 7 long

-- the bytes at 0 and at 7 in each other's place
abbrev pub exchanged : List ℕ → List ℕ
exchanged (a ∷ b ∷ c ∷ d ∷ e ∷ f ∷ g ∷ h ∷ rest) = h ∷ b ∷ c ∷ d ∷ e ∷ f ∷ g ∷ a ∷ rest
exchanged bytes = bytes

-- A datagram that holds a packet of this type with this text, of at least two bytes: before the
-- exchange the prefix byte, the text, and bytes that fill it up to eight. The reserved bit and the
-- filling are any.
pub record Holds (datagram : List ℕ) (kind : ℕ) (text : List ℕ) : Type 0 where
  pub reserved : ℕ
  pub filling : List ℕ
  pub reserved_fits : reserved < 2
  pub kind_fits : kind < 16
  pub headed : 2 ≤ length text
  pub filled : length filling ≡ 7 - length text
  pub datagram_is : datagram ≡
      exchanged (prefix reserved kind (length text) ∷ (text ++ filling))

-- this datagram spells this packet
pub record Spells (datagram : List ℕ) (p : Packet) : Type 0 where
  pub is : IsPacket p
  pub holds : Holds datagram (kind p.body) (text p)
  pub short_enough : length datagram ≤ 1232

-- ---- what a writer writes: the reserved bit is 0, and zeros fill a short datagram

abbrev pub zeros : Packet → List ℕ
zeros p = replicate (7 - length (text p)) 0

-- the fields of a packet with the bytes that end it
abbrev pub all_fields : Packet → List (List ℕ)
all_fields p = fields p ++ (rest_in p.body ∷ [])

unfoldable pub written_fields : Packet → List (List ℕ)
written_fields p =
    (prefix 0 (kind p.body) (length (text p)) ∷ []) ∷ (all_fields p ++ (zeros p ∷ []))

unfoldable pub spelled : Packet → List ℕ
spelled p = exchanged (joined (written_fields p))

-- the fields alone, with a zero in the place of the prefix byte
unfoldable pub plain_fields : Packet → List (List ℕ)
plain_fields p = (0 ∷ []) ∷ all_fields p

-- the datagram that a writer makes of a text, for a packet of this type
unfoldable pub finished : ℕ → List ℕ → List ℕ
finished kind text =
    exchanged (prefix 0 kind (length text) ∷ (text ++ replicate (7 - length text) 0))
