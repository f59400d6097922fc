-- The second layout reads back what it spells.
use Rattle.std.proofs.Common.{◌≡◌, ℕ, suc, ◌+◌, ◌-◌, ◌^◌, ◌<◌, ◌≤◌, ◌⊎◌, inl, inr, Bool, true, false, List, [], ◌∷◌, length, drop, replicate, take, Option, Some, None, refl, sym, ap, ◌∙◌, subst, arith, Ok}
use Rattle.std.specs.Option.{IfSome, option_map}
use Rattle.std.proofs.Math.Nat.{mod-lt}
use Rattle.std.proofs.lemmas.List.{length-replicate, length-take}
use Rattle.std.proofs.lemmas.List.Elements.{All-nil, All-cons}
use Rattle.mt_base.proofs.Numbers.{zero_bytes}
use Rattle.coded_vector.specs.CodedBytes.{flags_of}
use Rattle.coded_vector.specs.Written.{bits_byte, coded_of, run_byte, HoldPieces, IsRun, IsSeven}
use Rattle.coded_vector.proofs.PieceLemmas.{bits_byte_small, holds, holds_flags, holds_length}
use Rattle.carrier.specs.Layout.{Carried, Datagram, Received, Shows, Telling, Upto, From}
use Rattle.carrier.specs.LayoutLaw.{IsCarried, datagram_of, shown_of, telling_shown}
use Rattle.udp2_packets.specs.Value.{Telling as PacketTelling, NoTelling, AckTelling, VectorTelling, Packet}
use Rattle.udp2_packets.specs.Layout.{ack_in, number_in, part_in, rest_in, vector_in, IsAck, IsBytes, IsPacket, IsVector, spelled}
use Rattle.udp2_packets.proofs.Theorems.{written_is_read}
use Rattle.link_machine.specs.Wire.{layout_of}
use Rattle.udp2_core.specs.SecondLayout.{body_of, load_in, low, made_of, packet_shows, packet_with, second_layout, second_wire, shows, telling_in, telling_where}
use Rattle.udp2_core.specs.TellingView.{IsShort}
use Rattle.udp2_core.proofs.Told.{IsTold, told_formed}

-- ---- coded bytes

-- the byte of a run, and that of seven flags
run_fits : (received : Bool) (n : ℕ) → n ≤ 63 → run_byte received n < 256
run_fits true n short = omega arith
run_fits false n short = omega arith

piece_fits : (c n : ℕ) (flags : List Bool) → IsRun c n flags ⊎ IsSeven c n flags → c < 256
piece_fits c n flags (inl run) =
    subst (λ x. x < 256) (sym run.byte_is) (run_fits run.received n run.longest.short)
piece_fits c n flags (inr seven) =
    let long : length (take 7 flags) ≡ 7 = omega (arith, length-take 7 flags, seven.enough) in
    let small : bits_byte (take 7 flags) < 2 ^ 7 =
    subst (λ m. bits_byte (take 7 flags) < 2 ^ m) long (bits_byte_small (take 7 flags)) in
    omega (arith, small, seven.byte_is)

pieces_fit : (cs : List ℕ) (flags : List Bool) → HoldPieces cs flags → IsBytes cs
pieces_fit [] flags h = All-nil (λ b. b < 256)
pieces_fit (c ∷ cs) flags h =
    All-cons (λ b. b < 256) c cs (piece_fits c h.0 flags h.1) (pieces_fit cs (drop h.0 flags) h.2)

-- what is written for flags are bytes
pub coded_bytes : (flags : List Bool) → IsBytes (coded_of flags)
coded_bytes flags = pieces_fit (coded_of flags) flags (holds flags)

-- what is written for at most 512 flags is short
pub coded_short : (flags : List Bool) → length flags ≤ 512 → length (coded_of flags) ≤ 78
coded_short flags few = omega (arith, holds_length (coded_of flags) flags (holds flags))

-- it spells these flags
pub coded_back : (flags : List Bool) → flags_of (coded_of flags) ≡ flags
coded_back flags = holds_flags (coded_of flags) flags (holds flags)

-- ---- a packet that tells what was seen and carries a part is one

-- a low part is below the modulus
pub low_fits : (n : ℕ) → low n < 2 ^ 16
low_fits n = mod-lt n (omega arith)

-- a telling that is well formed has its place beside a part
pub short_told : (tells : Bool) (telling : Telling) → IsTold telling
    → IsShort (telling_where tells telling)
short_told false telling told = tt
short_told true (Upto named flags) told =
    let z : ℕ = 0 in
    let few : length flags ≡ suc told.0 =
    ap length told.2 ∙ length-replicate (suc told.0) true in
    record {
      number_fits = low_fits named;
      received_ts_fits = omega arith;
      gap_fits = omega arith;
      scale_fits = omega arith;
      few_delays = omega (arith, length-replicate (length flags - 1) z, few, told.1);
      delays_are = zero_bytes (length flags - 1);
    }
short_told true (From named flags) told = record {
  vector_is = record {
    base_fits = low_fits named;
    stamp_is = tt;
    few_coded = omega (arith, coded_short flags told);
    coded_are = coded_bytes flags;
  };
  timeless = refl;
  short = coded_short flags told;
}

ack_good : (telling : PacketTelling) → IsShort telling → IfSome (ack_in telling) IsAck
ack_good NoTelling short = tt
ack_good (AckTelling ack) short = short
ack_good (VectorTelling vector) short = tt

vector_good : (telling : PacketTelling) → IsShort telling → IfSome (vector_in telling) IsVector
vector_good NoTelling short = tt
vector_good (AckTelling ack) short = tt
vector_good (VectorTelling vector) short = short.vector_is

-- a floor that is shown fits its field
floor_good : (floor : Option ℕ) → IfSome (option_map low floor) (λ n. n < 2 ^ 16)
floor_good None = tt
floor_good (Some n) = low_fits n

-- and so do the numbers of a part
number_good : (load : Option Carried) → IfSome (number_in (body_of load)) (λ n. n < 2 ^ 16)
number_good None = tt
number_good (Some c) = low_fits c.transmission

part_good : (load : Option Carried) → IfSome (part_in (body_of load)) (λ n. n < 2 ^ 16)
part_good None = tt
part_good (Some c) = low_fits c.part

-- a part's bytes are bytes
abbrev pub CarriesBytes : Option Carried → Type 0
CarriesBytes load = IfSome load (λ c. IsBytes c.bytes)

rest_good : (load : Option Carried) → CarriesBytes load → IsBytes (rest_in (body_of load))
rest_good None bytes = All-nil (λ b. b < 256)
rest_good (Some c) bytes = bytes

-- the packet with this telling, this floor and this part
abbrev pub made : PacketTelling → Option ℕ → Option Carried → Packet
made telling floor load = made_of telling floor (body_of load)

-- it is one
pub made_good : (telling : PacketTelling) (floor : Option ℕ) (load : Option Carried)
    → IsShort telling → CarriesBytes load → IsPacket (made telling floor load)
made_good telling floor load short bytes = record {
  log_window_fits = omega arith;
  ack_is = ack_good telling short;
  vector_is = vector_good telling short;
  overhead_fits = tt;
  delay_is = tt;
  aoa_fits = floor_good floor;
  number_fits = number_good load;
  part_fits = part_good load;
  rest_are = rest_good load bytes;
}

-- and so is the packet of a datagram
packet_good : (d : Datagram) → IsTold d.telling → CarriesBytes d.load → IsPacket (packet_with d)
packet_good d told bytes =
    made_good (telling_where d.tells d.telling) d.floor d.load (short_told d.tells d.telling told)
    bytes

-- ---- what it shows

-- an acknowledgement of so many numbers tells as many
flags_back : (below : ℕ) (flags : List Bool) → flags ≡ replicate (suc below) true
    → replicate (length (let z : ℕ = 0 in replicate (length flags - 1) z) + 1) true ≡ flags
flags_back below flags is =
    let z : ℕ = 0 in
    let count : length (replicate (length flags - 1) z) + 1 ≡ suc below =
    omega (arith, length-replicate (length flags - 1) z, ap length is, length-replicate (suc below) true) in
    ap (λ n. replicate n true) count ∙ sym is

-- the telling that is shown is the one that is meant
telling_back : (tells : Bool) (telling : Telling) → IsTold telling
    → telling_in (telling_where tells telling) ≡ telling_shown second_layout tells telling
telling_back false telling told = refl
telling_back true (Upto named flags) told =
    ap (λ fs. Some (Upto (low named) fs)) (flags_back told.0 flags told.2)
telling_back true (From named flags) told =
    ap (λ fs. Some (From (low named) fs)) (coded_back flags)

-- what a packet shows is what its datagram means
body_back : (d : Datagram) (load : Option Carried) → IsTold d.telling
    → packet_shows (Ok (packet_with (record d { load = load })))
    ≡ Shows (shown_of second_layout (record d { load = load }))
body_back d None told =
    ap (λ t. Shows (record { window = Some 64; telling = t; floor = option_map low d.floor; load = load_in (body_of None) }))
    (telling_back d.tells d.telling told)
body_back d (Some c) told =
    ap (λ t. Shows (record { window = Some 64; telling = t; floor = option_map low d.floor; load = load_in (body_of (Some c)) }))
    (telling_back d.tells d.telling told)

-- a datagram whose telling is well formed is read back
reads_back : (d : Datagram) → IsTold d.telling → CarriesBytes d.load
    → shows (spelled (packet_with d)) ≡ Shows (shown_of second_layout d)
reads_back d told bytes =
    ap packet_shows (written_is_read (packet_with d) (packet_good d told bytes))
    ∙ body_back d d.load told

-- a part that is sent has bytes
carried_bytes : (load : Option Carried) → IfSome load (IsCarried second_layout) → CarriesBytes load
carried_bytes None is = tt
carried_bytes (Some c) is = is.1

-- what is told is read back, whatever is carried beside it
pub read_back : (wait delay own peer : ℕ) (r : Received) (above : ℕ) (tells : Bool) (floor : Option ℕ) (load : Option Carried)
    → (let layout = layout_of second_wire wait delay own peer in
    IfSome load (IsCarried layout)
    → (let d = datagram_of layout r above tells floor load in
    layout.read (layout.spell d) ≡ Shows (shown_of layout d)))
read_back wait delay own peer r above tells floor load is =
    let d = datagram_of (layout_of second_wire wait delay own peer) r above tells floor load in
    reads_back d (told_formed peer above r.seen) (carried_bytes load is)
