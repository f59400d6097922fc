-- The first layout (MS-RDPEUDP section 2.2) as the layout of a reliable link.
use Rattle.std.specs.Prelude.{ℕ, ◌+◌, ◌-◌, ◌%◌, ◌^◌, Bool, true, max, List, [], if◌then◌else◌, Option, Some, None, option_map, unwrap_or, Result, Ok, Err}
use Rattle.mt_windows.specs.Arrived.{Parts, greatest_part, has_part}
use Rattle.mt_windows.specs.declared.limits.TheConstants.{WINDOW}
use Rattle.ack_vector.specs.Elements.{flags_of}
use Rattle.ack_vector.specs.Longest.{elements_of}
use Rattle.carrier.specs.declared.first_layout.Refusal1.{Refusal1}
use Rattle.carrier.specs.declared.state.Reason.TheVariants as reason
use Rattle.carrier.specs.Layout.{Layout, Reading, Refuses, Shows, Empty, Carries, Correction, Telling, Upto, From, Datagram, Carried, named_in}
use Rattle.link_machine.specs.declared.numbers.Numbers.{Numbers}
use Rattle.link_machine.specs.Flags.{flags_from}
use Rattle.link_machine.specs.Wire.{Wire, layout_of}
use Rattle.udp1_packets.specs.Value.{Body, SynBody, DataBody, FecBody, BareBody, Packet}
use Rattle.udp1_packets.specs.Layout.{spelled}
use Rattle.udp1_packets.specs.Reading.{packet_at}

-- ---- what a datagram shows

-- a vector tells of the numbers up to snSourceAck
abbrev pub telling_in : ℕ → Option (List ℕ) → Option Telling
telling_in ack None = None
telling_in ack (Some elements) = Some (Upto ack (flags_of elements))

-- an opening is refused: it is none of a link that is open
abbrev pub shown_by : ℕ → ℕ → Body → Reading
shown_by ack window (SynBody syn) = Refuses reason.NotOurs
shown_by ack window (DataBody vector aoa coded start bytes) = Shows (record {
  window = Some window;
  telling = telling_in ack vector;
  floor = aoa;
  load = Carries start coded bytes;
})
shown_by ack window (FecBody vector aoa coded start range index bytes) = Shows (record {
  window = Some window;
  telling = telling_in ack vector;
  floor = aoa;
  load = Correction;
})
shown_by ack window (BareBody vector aoa rest) = Shows (record {
  window = Some window;
  telling = telling_in ack vector;
  floor = aoa;
  load = Empty;
})

abbrev pub packet_shows : Result Packet Refusal1 → Reading
packet_shows (Ok p) = shown_by p.ack p.window p.body
packet_shows (Err refusal) = Refuses (reason.First refusal)

abbrev pub shows : List ℕ → Reading
shows datagram = packet_shows (packet_at (record { at = 0; bytes = datagram }))

-- ---- what is told

-- the least number that is told of: of the last ones up to y, none below the first and the floor
abbrev pub told_from : ℕ → ℕ → ℕ → ℕ
told_from first floor y = max (max first floor) (y + 1 - WINDOW)

-- the number that is named: the greatest accepted part, or one less than the first
abbrev pub named_of : ℕ → Parts → ℕ
named_of first parts = unwrap_or (greatest_part first parts) (first - 1)

-- flags say which parts up to it were accepted
abbrev pub telling_of : ℕ → ℕ → Parts → Telling
telling_of first floor parts =
    let y = named_of first parts in
    Upto y (flags_from (has_part first parts) (told_from first floor y) (y + 1 - told_from first floor y))

-- ---- how a datagram is spelled

-- the numbers are shown modulo this
abbrev pub modulus : ℕ
modulus = 2 ^ 32

abbrev pub low : ℕ → ℕ
low n = n % modulus

abbrev pub flags_in : Telling → List Bool
flags_in (Upto named flags) = flags
flags_in (From named flags) = flags

abbrev pub vector_in : Bool → Telling → Option (List ℕ)
vector_in tells telling = if tells then Some (elements_of (flags_in telling)) else None

-- a source packet where a part is carried, else a packet that only acknowledges
abbrev pub body_of : Datagram → Option Carried → Body
body_of d None = BareBody (vector_in d.tells d.telling) (option_map low d.floor) []
body_of d (Some c) =
    DataBody (vector_in d.tells d.telling) (option_map low d.floor) (low c.transmission) (low c.part) c.bytes

abbrev pub packet_with : Datagram → Packet
packet_with d = record {
  ack = low (named_in d.telling);
  window = WINDOW;
  marks = 0;
  body = body_of d d.load;
}

-- ---- the layout

-- a part of these numbers without its bytes
abbrev pub without_bytes : Numbers → Carried
without_bytes n = record { part = n.part; transmission = n.transmission; bytes = [] }

-- a datagram without the bytes of its part
abbrev pub bytes_left_out : Telling → Bool → Option ℕ → Option Numbers → Datagram
bytes_left_out telling tells floor numbers = record {
  telling = telling;
  tells = tells;
  floor = floor;
  load = option_map without_bytes numbers;
}

-- what the machine of a link asks of the first layout: a telling names the last number received
abbrev pub first_wire : Wire
first_wire = record {
  tells_parts = true;
  tell = 0;
  modulus = modulus;
  read = shows;
  told = λ peer r floor. telling_of peer floor r.parts;
  spell = λ d. spelled (packet_with d);
  flags = flags_of;
  head = λ telling tells floor numbers. spelled (packet_with (bytes_left_out telling tells floor numbers));
  finished = λ text. text;
}

-- the layout at an end whose parts are numbered from `own` on, and the other end's from `peer` on,
-- with this shortest wait of its timer and this delay of a telling
abbrev pub first_layout : ℕ → ℕ → ℕ → ℕ → Layout
first_layout = layout_of first_wire
