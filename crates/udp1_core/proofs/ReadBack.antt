-- The first layout reads back what it spells.
use Rattle.std.proofs.Common.{◌≡◌, ℕ, ◌+◌, ◌-◌, ◌^◌, ◌<◌, ◌≤◌, Bool, true, false, bit_and, length, Option, Some, None, refl, sym, ap, ◌∙◌, arith}
use Rattle.std.specs.Prelude.{if◌then◌else◌}
use Rattle.std.specs.Option.{IfSome, option_map}
use Rattle.std.proofs.Math.Nat.{mod-lt}
use Rattle.std.proofs.lemmas.List.Elements.{All-nil}
use Rattle.mt_windows.specs.Arrived.{Parts, has_part}
use Rattle.mt_windows.specs.declared.limits.TheConstants.{WINDOW}
use Rattle.ack_vector.specs.Longest.{elements_of}
use Rattle.ack_vector.proofs.LongestLemmas.{holds, holds_spell, holds_length}
use Rattle.carrier.specs.Layout.{Carried, Carries, Datagram, Empty, Load, Reading, Received, Shows, Telling, Upto, From, named_in, with_named}
use Rattle.carrier.specs.LayoutLaw.{IsCarried, datagram_of, shown_of}
use Rattle.udp1_packets.specs.Layout.{IsBody, IsBytes, IsPacket, IsTold, IsVector, mark_mask, spelled}
use Rattle.udp1_packets.proofs.Theorems.{written_spells}
use Rattle.link_machine.proofs.FlagLemmas.{length-flags_from}
use Rattle.udp1_core.specs.FirstLayout.{first_layout, flags_in, low, body_of, named_of, packet_with, shown_by, shows, telling_in, telling_of, told_from, vector_in}
use Rattle.udp1_core.proofs.Shown.{shows_packet}

-- ---- the flags that are told

-- a telling has at most as many flags as the window
abbrev pub IsShort : Telling → Type 0
IsShort telling = length (flags_in telling) ≤ 64

-- numbers up to y from a place that lies at most a window below
few_from : (from y : ℕ) → y + 1 - 64 ≤ from → y + 1 - from ≤ 64
few_from from y h = omega arith

-- what is told is short
pub telling_short : (first floor : ℕ) (parts : Parts)
    → IsShort (telling_of first floor parts)
telling_short first floor parts =
    let y = named_of first parts in
    let from = told_from first floor y in
    let long = length-flags_from (has_part first parts) from (y + 1 - from) in
    omega (arith, long, few_from from y (omega arith))

-- ---- a packet that tells of flags and carries a part is one

-- a low part is below the modulus
low_fits : (n : ℕ) → low n < 2 ^ 32
low_fits n = mod-lt n (omega arith)

-- the elements of flags that are told are a vector
vector_good : (tells : Bool) (telling : Telling) → IsShort telling
    → IsVector (vector_in tells telling)
vector_good false telling short = tt
vector_good true telling short =
    let flags = flags_in telling in
    let held = holds flags in
    let few = holds_length (elements_of flags) flags held in
    (omega (arith, few, short), (holds_spell (elements_of flags) flags held).good)

-- a floor that is shown fits its field
floor_good : (floor : Option ℕ) → IfSome (option_map low floor) (λ n. n < 2 ^ 32)
floor_good None = tt
floor_good (Some n) = low_fits n

-- a vector and a floor that are shown keep their rules
told_good : (d : Datagram) → IsShort d.telling
    → IsTold (vector_in d.tells d.telling) (option_map low d.floor)
told_good d short = record {
  vector_is = vector_good d.tells d.telling short;
  aoa_fits = floor_good d.floor;
}

-- a part's bytes are bytes
abbrev CarriesBytes : Option Carried → Type 0
CarriesBytes load = IfSome load (λ c. IsBytes c.bytes)

-- what stands behind the header keeps its rules
body_good : (d : Datagram) (load : Option Carried) → IsShort d.telling → CarriesBytes load
    → IsBody (body_of d load)
body_good d None short bytes = (told_good d short, All-nil (λ b. b < 256))
body_good d (Some c) short bytes =
    (told_good d short, low_fits c.transmission, low_fits c.part, bytes)

-- no marks lie within every mask
marks_none : (d : Datagram) (load : Option Carried)
    → bit_and 0 (mark_mask (body_of d load)) ≡ 0
marks_none d None = refl
marks_none d (Some c) = refl

-- the packet of a datagram is one
packet_good : (d : Datagram) → IsShort d.telling → CarriesBytes d.load
    → IsPacket (packet_with d)
packet_good d short bytes = record {
  ack_fits = low_fits (named_in d.telling);
  window_fits = omega arith;
  marks_within = marks_none d d.load;
  body_is = body_good d d.load short bytes;
}

-- ---- what it shows

-- the numbers up to one are told
abbrev pub IsUpto : Telling → Type 0
IsUpto (Upto named flags) = Unit {0}
IsUpto (From named flags) = ⊥

-- the flags that are told are those of the elements
telling_back : (tells : Bool) (telling : Telling) → IsUpto telling
    → telling_in (low (named_in telling)) (vector_in tells telling)
    ≡ (if tells then Some (with_named (low (named_in telling)) telling) else None)
telling_back false telling upto = refl
telling_back true (Upto named flags) upto =
    ap (λ fs. Some (Upto (low named) fs))
    (sym (holds_spell (elements_of flags) flags (holds flags)).flags_are)
telling_back true (From named flags) upto = absurd upto

-- what is shown with this telling and this load
abbrev shown : Datagram → Option Telling → Load → Reading
shown d telling load = Shows (record {
  window = Some WINDOW;
  telling = telling;
  floor = option_map low d.floor;
  load = load;
})

-- what a packet shows is what its datagram means
body_back : (wait delay own peer : ℕ) (d : Datagram) (load : Option Carried)
    → IsUpto d.telling
    → shown_by (low (named_in d.telling)) WINDOW (body_of d load)
    ≡ Shows (shown_of (first_layout wait delay own peer) (record d { load = load }))
body_back wait delay own peer d None upto =
    ap (λ t. shown d t Empty) (telling_back d.tells d.telling upto)
body_back wait delay own peer d (Some c) upto =
    ap (λ t. shown d t (Carries (low c.part) (low c.transmission) c.bytes))
    (telling_back d.tells d.telling upto)

-- a datagram whose telling is short is read back
pub reads_back : (wait delay own peer : ℕ) (d : Datagram) → IsUpto d.telling
    → IsShort d.telling → IfSome d.load (λ c. IsBytes c.bytes)
    → shows (spelled (packet_with d)) ≡ Shows (shown_of (first_layout wait delay own peer) d)
reads_back wait delay own peer d upto short bytes =
    let p = packet_with d in
    shows_packet (spelled p) p (written_spells p (packet_good d short bytes))
    ∙ body_back wait delay own peer d d.load upto

-- a part that is sent has bytes
carried_bytes : (wait delay own peer : ℕ) (load : Option Carried)
    → IfSome load (IsCarried (first_layout wait delay own peer)) → CarriesBytes load
carried_bytes wait delay own peer None is = tt
carried_bytes wait delay own peer (Some c) is = is.1

-- what is told is read back, whatever is carried beside it
pub read_back : (wait delay own peer : ℕ) (r : Received) (above : ℕ) (tells : Bool)
    (floor : Option ℕ) (load : Option Carried)
    → IfSome load (IsCarried (first_layout wait delay own peer))
    → (let l = first_layout wait delay own peer in
    let d = datagram_of l r above tells floor load in
    l.read (l.spell d) ≡ Shows (shown_of l d))
read_back wait delay own peer r above tells floor load is =
    let d = datagram_of (first_layout wait delay own peer) r above tells floor load in
    reads_back wait delay own peer d tt (telling_short peer above r.parts)
    (carried_bytes wait delay own peer load is)
