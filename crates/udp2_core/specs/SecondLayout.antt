-- The second layout (MS-RDPEUDP2 section 2.2) as the layout of a reliable link.
use Rattle.std.specs.Prelude.{ℕ, zero, suc, ◌+◌, ◌-◌, ◌%◌, ◌^◌, Bool, true, false, ◌&&◌, min, max, List, [], ◌∷◌, length, drop, replicate, if◌then◌else◌, Option, Some, None, option_map, unwrap_or, Result, Ok, Err}
use Rattle.mt_windows.specs.Noted.{greatest_of, is_seen}
use Rattle.mt_windows.specs.declared.limits.TheConstants.{TELL}
use Rattle.coded_vector.specs.CodedBytes.{flags_of}
use Rattle.coded_vector.specs.Written.{coded_of}
use Rattle.carrier.specs.declared.second_layout.Refusal2.{Refusal2}
use Rattle.carrier.specs.declared.state.Reason.TheVariants as reason
use Rattle.carrier.specs.Layout.{Layout, Reading, Refuses, Shows, Load, Empty, Carries, Dummy, Telling as Told, Upto, From, Datagram, Carried}
use Rattle.link_machine.specs.declared.numbers.Numbers.{Numbers}
use Rattle.link_machine.specs.Flags.{flags_from}
use Rattle.link_machine.specs.Wire.{Wire, layout_of}
use Rattle.udp2_packets.specs.Value.{Telling, NoTelling, AckTelling, VectorTelling, Body, NoBody, DataBody, DummyBody, Packet}
use Rattle.udp2_packets.specs.Layout.{finished, spelled, text}
use Rattle.udp2_packets.specs.Reading.{reading}

-- ---- what a datagram shows

-- An acknowledgement tells its number and as many below it as there are delays; a vector tells of
-- the numbers from its base on.
abbrev pub telling_in : Telling → Option Told
telling_in NoTelling = None
telling_in (AckTelling ack) = Some (Upto ack.number (replicate (length ack.delays + 1) true))
telling_in (VectorTelling vector) = Some (From vector.base (flags_of vector.coded))

-- data carry a part; a dummy has a transmission's number or none
abbrev pub dummy_of : Option ℕ → Load
dummy_of None = Empty
dummy_of (Some number) = Dummy number

abbrev pub load_in : Body → Load
load_in NoBody = Empty
load_in (DataBody number part bytes) = Carries part number bytes
load_in (DummyBody number rest) = dummy_of number

abbrev pub packet_shows : Result Packet Refusal2 → Reading
packet_shows (Ok p) = Shows (record {
  window = Some (2 ^ p.log_window);
  telling = telling_in p.telling;
  floor = p.aoa;
  load = load_in p.body;
})
packet_shows (Err refusal) = Refuses (reason.Second refusal)

abbrev pub shows : List ℕ → Reading
shows datagram = packet_shows (reading datagram)

-- ---- what is told

-- of how many numbers one telling speaks where none of them is missing
abbrev pub ALL_SEEN : ℕ
ALL_SEEN = 16

-- the greatest transmission that was seen, or one less than the first
abbrev pub last_of : ℕ → List ℕ → ℕ
last_of first seen = unwrap_or (greatest_of seen) (first - 1)

-- so many numbers from one on were seen
abbrev pub all_seen : List ℕ → ℕ → ℕ → Bool
all_seen seen from zero = true
all_seen seen from (suc n) = is_seen TELL seen from && all_seen seen (from + 1) n

-- how many of the last numbers up to h an acknowledgement tells of: 16, or those from the first on
abbrev pub count_of : ℕ → ℕ → ℕ
count_of first h = min ALL_SEEN (h + 1 - first)

-- the least number that a vector tells of: of the last ones up to h, none below the first and the
-- floor
abbrev pub told_from : ℕ → ℕ → ℕ → ℕ
told_from first floor h = max (max first floor) (h + 1 - TELL)

-- Where the last numbers, 16 at most, were all seen, an acknowledgement of them; else a vector of
-- the last 512 at most. Where nothing was seen, the acknowledgement of the number below the first,
-- which none has.
abbrev pub telling_of : ℕ → ℕ → List ℕ → Told
telling_of first floor seen =
    let h = last_of first seen in
    let count = count_of first h in
    if all_seen seen (h + 1 - count) count then Upto h (replicate (max 1 count) true)
    else From (told_from first floor h)
    (flags_from (is_seen TELL seen) (told_from first floor h) (h + 1 - told_from first floor h))

-- ---- how a datagram is spelled

-- the numbers are shown modulo this
abbrev pub modulus : ℕ
modulus = 2 ^ 16

abbrev pub low : ℕ → ℕ
low n = n % modulus

-- an acknowledgement without times, or a vector without one
abbrev pub packet_telling : Told → Telling
packet_telling (Upto named flags) = AckTelling (record {
  number = low named;
  received_ts = 0;
  gap = 0;
  scale = 0;
  delays = replicate (length flags - 1) 0;
})
packet_telling (From named flags) =
    VectorTelling (record { base = low named; stamp = None; coded = coded_of flags })

abbrev pub telling_where : Bool → Told → Telling
telling_where tells telling = if tells then packet_telling telling else NoTelling

abbrev pub body_of : Option Carried → Body
body_of None = NoBody
body_of (Some c) = DataBody (low c.transmission) (low c.part) c.bytes

-- the packet with this telling, this floor and this body; the window is the 6th power of two
abbrev pub made_of : Telling → Option ℕ → Body → Packet
made_of telling floor body = record {
  log_window = 6;
  telling = telling;
  overhead = None;
  delay = None;
  aoa = option_map low floor;
  body = body;
}

abbrev pub packet_with : Datagram → Packet
packet_with d = made_of (telling_where d.tells d.telling) d.floor (body_of d.load)

-- the packet up to the bytes of its part
abbrev pub head_body : Option Numbers → Body
head_body None = NoBody
head_body (Some n) = DataBody (low n.transmission) (low n.part) []

abbrev pub head_packet : Told → Bool → Option ℕ → Option Numbers → Packet
head_packet telling tells floor numbers =
    made_of (telling_where tells telling) floor (head_body numbers)

-- ---- the layout

-- What the machine of a link asks of the second layout. The head of a datagram has a zero in the
-- place of the prefix byte, and what is done at the end makes a datagram of the fields behind it.
abbrev pub second_wire : Wire
second_wire = record {
  tells_parts = false;
  tell = TELL;
  modulus = modulus;
  read = shows;
  told = λ first r floor. telling_of first floor r.seen;
  spell = λ d. spelled (packet_with d);
  flags = flags_of;
  head = λ telling tells floor numbers. 0 ∷ text (head_packet telling tells floor numbers);
  finished = λ fields. finished 0 (drop 1 fields);
}

-- The layout at either end. Parts and transmissions are numbered from 1 on. The timer waits at least
-- 300 milliseconds, and one telling may be owed for 50.
abbrev pub second_layout : Layout
second_layout = layout_of second_wire 300 50 1 1
