-- How many bytes a datagram of the first layout has.
use Rattle.std.proofs.Common.{◌≡◌, ℕ, ◌+◌, ◌-◌, ◌%◌, ◌≤◌, Bool, true, false, List, [], ◌∷◌, ◌++◌, length, replicate, Option, Some, None, ap, arith}
use Rattle.std.specs.Option.{IfSome, option_map}
use Rattle.std.proofs.lemmas.Nat.{mod_below}
use Rattle.std.proofs.lemmas.List.{length-append, length-replicate}
use Rattle.byteorder.specs.Endian.{big_bytes}
use Rattle.byteorder.specs.Numbers.{length-bytes_high_first}
use Rattle.mt_base.specs.Writing.{joined}
use Rattle.mt_base.proofs.Fill.{joined-append}
use Rattle.ack_vector.specs.Longest.{elements_of}
use Rattle.ack_vector.proofs.LongestLemmas.{holds, holds_length}
use Rattle.carrier.specs.Layout.{Carried, Datagram, Telling, named_in, Received}
use Rattle.carrier.specs.LayoutLaw.{IsCarried, datagram_of}
use Rattle.mt_windows.specs.declared.limits.TheConstants.{WINDOW}
use Rattle.udp1_packets.specs.Layout.{aoa_fields, flags, spelled, to_four, vector_fields, zeros_after}
use Rattle.udp1_core.specs.FirstLayout.{first_layout, flags_in, low, packet_with, vector_in}
use Rattle.udp1_core.proofs.ReadBack.{IsShort, telling_short}

-- ---- the parts

-- a vector of at most 64 elements, with what fills its last unit
vector_size : (tells : Bool) (telling : Telling) → IsShort telling
    → (let vector = vector_in tells telling in
    length (joined (vector_fields vector (zeros_after vector))) ≤ 69)
vector_size false telling short = omega arith
vector_size true telling short =
    let elements = elements_of (flags_in telling) in
    let few = holds_length elements (flags_in telling) (holds (flags_in telling)) in
    let count = to_four (2 + length elements) in
    let nil : ℕ = 0 in
    let fill = replicate count nil in
    omega (
      arith,
      short,
      few,
      mod_below (4 - (2 + length elements) % 4) 4 (omega arith),
      length-bytes_high_first 2 (length elements),
      length-replicate count nil,
      length-append (big_bytes 2 (length elements)) (elements ++ (fill ++ [])),
      length-append elements (fill ++ []),
      length-append fill [],
    )

-- an acknowledgement of acknowledgements
aoa_size : (aoa : Option ℕ) → length (joined (aoa_fields aoa)) ≤ 4
aoa_size None = omega arith
aoa_size (Some n) = omega (arith, length-bytes_high_first 4 n, length-append (big_bytes 4 n) [])

-- the header
header_size : (ack window word : ℕ) (fields : List (List ℕ))
    → length (joined (big_bytes 4 ack ∷ big_bytes 2 window ∷ big_bytes 2 word ∷ fields))
    ≡ 8 + length (joined fields)
header_size ack window word fields =
    omega (
      arith,
      length-bytes_high_first 4 ack,
      length-bytes_high_first 2 window,
      length-bytes_high_first 2 word,
      length-append (big_bytes 4 ack)
          (big_bytes 2 window ++ (big_bytes 2 word ++ joined fields)),
      length-append (big_bytes 2 window) (big_bytes 2 word ++ joined fields),
      length-append (big_bytes 2 word) (joined fields),
    )

-- the numbers before data, and the data
data_size : (coded start : ℕ) (bytes : List ℕ)
    → length (joined (big_bytes 4 coded ∷ big_bytes 4 start ∷ bytes ∷ []))
    ≡ 8 + length bytes
data_size coded start bytes =
    omega (
      arith,
      length-bytes_high_first 4 coded,
      length-bytes_high_first 4 start,
      length-append (big_bytes 4 coded) (big_bytes 4 start ++ (bytes ++ [])),
      length-append (big_bytes 4 start) (bytes ++ []),
      length-append bytes [],
    )

-- two groups of fields and what follows them
groups_size : (xs ys zs : List (List ℕ))
    → length (joined (xs ++ (ys ++ zs)))
    ≡ length (joined xs) + length (joined ys) + length (joined zs)
groups_size xs ys zs =
    omega (
      arith,
      ap length (joined-append xs (ys ++ zs)),
      length-append (joined xs) (joined (ys ++ zs)),
      ap length (joined-append ys zs),
      length-append (joined ys) (joined zs),
    )

-- ---- the whole

-- the bytes of a part that is carried
abbrev pub bytes_in : Option Carried → List ℕ
bytes_in None = []
bytes_in (Some c) = c.bytes

-- a datagram with this load has at most 89 bytes beside those of the part
spelled_size : (d : Datagram) (load : Option Carried) → IsShort d.telling
    → length (spelled (packet_with (record d { load = load }))) ≤ 89 + length (bytes_in load)
spelled_size d None short =
    let vector = vector_in d.tells d.telling in
    let aoa = option_map low d.floor in
    let word = flags (packet_with (record d { load = None })) in
    let told = vector_fields vector (zeros_after vector) in
    omega (
      arith,
      header_size (low (named_in d.telling)) WINDOW word (told ++ (aoa_fields aoa ++ [] ∷ [])),
      groups_size told (aoa_fields aoa) ([] ∷ []),
      vector_size d.tells d.telling short,
      aoa_size aoa,
    )
spelled_size d (Some c) short =
    let vector = vector_in d.tells d.telling in
    let aoa = option_map low d.floor in
    let word = flags (packet_with (record d { load = Some c })) in
    let told = vector_fields vector (zeros_after vector) in
    let tail = big_bytes 4 (low c.transmission) ∷ big_bytes 4 (low c.part) ∷ c.bytes ∷ [] in
    omega (
      arith,
      header_size (low (named_in d.telling)) WINDOW word (told ++ (aoa_fields aoa ++ tail)),
      groups_size told (aoa_fields aoa) tail,
      data_size (low c.transmission) (low c.part) c.bytes,
      vector_size d.tells d.telling short,
      aoa_size aoa,
    )

-- a datagram has at most 89 bytes beside those of the part that it carries
pub datagram_size : (d : Datagram) → IsShort d.telling
    → length (spelled (packet_with d)) ≤ 89 + length (bytes_in d.load)
datagram_size d short = spelled_size d d.load short

-- a part has at most 1,000 bytes
part_size : (wait delay own peer : ℕ) (load : Option Carried)
    → IfSome load (IsCarried (first_layout wait delay own peer)) → length (bytes_in load) ≤ 1000
part_size wait delay own peer None is = omega arith
part_size wait delay own peer (Some c) is = is.0

-- a datagram is short enough to carry a part and what was received
pub short_enough : (wait delay own peer : ℕ) (r : Received) (above : ℕ) (tells : Bool)
    (floor : Option ℕ) (load : Option Carried)
    → IfSome load (IsCarried (first_layout wait delay own peer))
    → (let l = first_layout wait delay own peer in
    length (l.spell (datagram_of l r above tells floor load)) ≤ 1132)
short_enough wait delay own peer r above tells floor load is =
    let d = datagram_of (first_layout wait delay own peer) r above tells floor load in
    let size = datagram_size d (telling_short peer above r.parts) in
    let part = part_size wait delay own peer load is in
    omega (arith, size, part)
