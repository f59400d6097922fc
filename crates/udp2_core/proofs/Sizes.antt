-- How many bytes a datagram of the second layout has.
use Rattle.std.proofs.Common.{◌≡◌, ℕ, ◌+◌, ◌-◌, ◌*◌, ◌<◌, ◌≤◌, Bool, List, [], ◌∷◌, ◌++◌, length, Option, Some, None, refl, ap, ◌∙◌, arith}
use Rattle.std.specs.Option.{IfSome}
use Rattle.std.proofs.lemmas.List.{length-append, length-replicate}
use Rattle.byteorder.specs.Endian.{little_bytes}
use Rattle.byteorder.specs.Numbers.{length-bytes_low_first}
use Rattle.mt_base.specs.Parts.{where_some}
use Rattle.mt_base.specs.Writing.{joined}
use Rattle.mt_base.proofs.Fill.{joined-append}
use Rattle.carrier.specs.Layout.{Carried, Received}
use Rattle.carrier.specs.LayoutLaw.{IsCarried, datagram_of}
use Rattle.carrier.specs.Receiving.{shown_in}
use Rattle.udp2_packets.specs.Layout.{IsAck, ack_fields, ack_in, announced_fields, flags, header, number_field, number_in, part_in, rest_in, spelled, text, vector_fields, vector_in, written_fields, zeros}
use Rattle.udp2_packets.specs.Value.{Ack, Stamp, Telling as PacketTelling, NoTelling, AckTelling, VectorTelling, Packet}
use Rattle.udp2_packets.proofs.Frames.{reading_short}
use Rattle.udp2_packets.proofs.WriterLemmas.{length-exchanged, written_is}
use Rattle.link_machine.specs.Wire.{layout_of}
use Rattle.link_machine.specs.WireLaw.{bytes_of}
use Rattle.udp2_core.specs.SecondLayout.{body_of, packet_shows, second_layout, second_wire, shows, telling_where}
use Rattle.udp2_core.specs.TellingView.{IsShort}
use Rattle.udp2_core.proofs.ReadBack.{made, short_told}
use Rattle.udp2_core.proofs.Told.{told_formed}

-- ---- the parts

-- a number
number_size : (number : Option ℕ) → length (joined (where_some number_field number)) ≤ 2
number_size None = omega arith
number_size (Some n) = omega (arith, length-bytes_low_first 0 2 n, length-append (little_bytes 2 n) [])

-- an acknowledgement
ack_size : (ack : Ack) → IsAck ack → length (joined (ack_fields ack)) ≤ 22
ack_size ack good =
    let sizes = length ack.delays + 16 * ack.scale in
    omega (
      arith,
      good.few_delays,
      length-bytes_low_first 0 2 ack.number,
      length-bytes_low_first 0 3 ack.received_ts,
      length-append ack.delays [],
      length-append (little_bytes 3 ack.received_ts) (ack.gap ∷ sizes ∷ (ack.delays ++ [])),
      length-append (little_bytes 2 ack.number)
          (little_bytes 3 ack.received_ts ++ (ack.gap ∷ sizes ∷ (ack.delays ++ []))),
    )

-- a vector without a time
bare_size : (base : ℕ) (stamp : Option Stamp) (coded : List ℕ) → stamp ≡ None → length coded ≤ 78
    → length (joined (vector_fields (record { base = base; stamp = stamp; coded = coded }))) ≤ 81
bare_size base None coded timeless short =
    omega (
      arith,
      short,
      length-bytes_low_first 0 2 base,
      length-append coded [],
      length-append (little_bytes 2 base) ((length coded + 0) ∷ (coded ++ [])),
    )
bare_size base (Some stamp) coded timeless short = absurd (cc)

-- of which there is one at most
telling_size : (telling : PacketTelling) → IsShort telling
    → length (joined (where_some ack_fields (ack_in telling)))
    + length (joined (where_some vector_fields (vector_in telling))) ≤ 81
telling_size NoTelling short = omega arith
telling_size (AckTelling ack) short = omega (arith, ack_size ack short)
telling_size (VectorTelling vector) short =
    omega (arith, bare_size vector.base vector.stamp vector.coded short.timeless short.short)

-- groups of fields
two_groups : (xs ys : List (List ℕ)) → length (joined (xs ++ ys)) ≡ length (joined xs) + length (joined ys)
two_groups xs ys = ap length (joined-append xs ys) ∙ length-append (joined xs) (joined ys)

-- ---- the whole

rest_size : (load : Option Carried) → length (rest_in (body_of load)) ≡ length (bytes_of load)
rest_size None = refl
rest_size (Some c) = refl

-- a packet has at most 89 bytes beside those of the part that it carries
pub text_size : (telling : PacketTelling) (floor : Option ℕ) (load : Option Carried) → IsShort telling
    → length (text (made telling floor load)) ≤ 89 + length (bytes_of load)
text_size telling floor load short =
    let p = made telling floor load in
    let ack = where_some ack_fields (ack_in p.telling) in
    let aoa = where_some number_field p.aoa in
    let number = where_some number_field (number_in p.body) in
    let vector = where_some vector_fields (vector_in p.telling) in
    let part = where_some number_field (part_in p.body) in
    omega (
      arith,
      telling_size telling short,
      number_size p.aoa,
      number_size (number_in p.body),
      number_size (part_in p.body),
      rest_size load,
      two_groups vector part,
      two_groups number (vector ++ part),
      two_groups aoa (number ++ (vector ++ part)),
      two_groups ack (aoa ++ (number ++ (vector ++ part))),
      length-bytes_low_first 0 2 (flags p + 4096 * 6),
      length-append (header (flags p) 6) (joined (announced_fields p)),
      length-append (header (flags p) 6 ++ joined (announced_fields p)) (rest_in p.body),
    )

-- the bytes of a datagram are its prefix byte, the packet, and what fills it up to eight
spelled_size : (p : Packet) → length (spelled p) ≡ 1 + length (text p) + (7 - length (text p))
unfolding spelled
spelled_size p =
    let z : ℕ = 0 in
    omega (
      arith,
      length-exchanged (joined (written_fields p)),
      ap length (written_is p),
      length-append (text p) (zeros p),
      length-replicate (7 - length (text p)) z,
    )

-- a datagram has at most 90 bytes beside those of the part that it carries
pub made_size : (telling : PacketTelling) (floor : Option ℕ) (load : Option Carried) → IsShort telling
    → length (spelled (made telling floor load)) ≤ 90 + length (bytes_of load)
made_size telling floor load short =
    omega (arith, text_size telling floor load short, spelled_size (made telling floor load))

-- a part has at most 1,000 bytes
part_size : (load : Option Carried) → IfSome load (IsCarried second_layout)
    → length (bytes_of load) ≤ 1000
part_size None is = omega arith
part_size (Some c) is = is.0

-- with a part that is sent it is short enough
pub made_short : (telling : PacketTelling) (floor : Option ℕ) (load : Option Carried)
    → IsShort telling → IfSome load (IsCarried second_layout)
    → length (spelled (made telling floor load)) ≤ 1132
made_short telling floor load short is =
    omega (arith, made_size telling floor load short, part_size load is)

-- a datagram is short enough to carry a part and what was received
pub short_enough : (wait delay own peer : ℕ) (r : Received) (above : ℕ) (tells : Bool) (floor : Option ℕ) (load : Option Carried)
    → (let layout = layout_of second_wire wait delay own peer in
    IfSome load (IsCarried layout)
    → length (layout.spell (datagram_of layout r above tells floor load)) ≤ 1132)
short_enough wait delay own peer r above tells floor load is =
    let d = datagram_of (layout_of second_wire wait delay own peer) r above tells floor load in
    made_short (telling_where tells d.telling) floor load
    (short_told tells d.telling (told_formed peer above r.seen)) is

-- fewer than eight bytes show nothing
pub tiny : (datagram : List ℕ) → length datagram < 8 → shown_in (shows datagram) ≡ None
tiny datagram few = ap (λ r. shown_in (packet_shows r)) (reading_short datagram few)
