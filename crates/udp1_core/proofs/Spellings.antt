-- How the bytes of a datagram begin with what stands before the data.
use Rattle.std.proofs.Common.{◌≡◌, ℕ, List, [], ◌∷◌, ◌++◌, Option, Some, sym, ap, ◌∙◌, append_assoc, append-nil}
use Rattle.std.specs.Option.{option_map}
use Rattle.byteorder.specs.Endian.{big_bytes}
use Rattle.mt_base.specs.Writing.{joined}
use Rattle.carrier.specs.Layout.{Carried, Datagram}
use Rattle.udp1_packets.specs.Value.{DataBody, Packet}
use Rattle.udp1_packets.specs.Layout.{aoa_fields, flags, spelled, vector_fields, zeros_after}
use Rattle.udp1_core.specs.FirstLayout.{low, packet_with, vector_in}

-- one more field in front
before_one : (field : List ℕ) (fields fewer : List (List ℕ)) (bytes : List ℕ)
    → joined fields ≡ joined fewer ++ bytes
    → joined (field ∷ fields) ≡ joined (field ∷ fewer) ++ bytes
before_one field fields fewer bytes is =
    ap (λ t. field ++ t) is ∙ sym (append_assoc field (joined fewer) bytes)

-- more fields in front
before_many : (front fields fewer : List (List ℕ)) (bytes : List ℕ)
    → joined fields ≡ joined fewer ++ bytes
    → joined (front ++ fields) ≡ joined (front ++ fewer) ++ bytes
before_many [] fields fewer bytes is = is
before_many (f ∷ front) fields fewer bytes is =
    before_one f (front ++ fields) (front ++ fewer) bytes
    (before_many front fields fewer bytes is)

-- the bytes of a packet of data stand behind the same packet with none
pub data_behind : (p : Packet) (vector : Option (List ℕ)) (aoa : Option ℕ) (coded start : ℕ)
    (bytes : List ℕ)
    → spelled (record p { body = DataBody vector aoa coded start bytes })
    ≡ spelled (record p { body = DataBody vector aoa coded start [] }) ++ bytes
data_behind p vector aoa coded start bytes =
    let ack = big_bytes 4 p.ack in
    let window = big_bytes 2 p.window in
    let word = big_bytes 2 (flags (record p { body = DataBody vector aoa coded start [] })) in
    let told = vector_fields vector (zeros_after vector) in
    let tail : List ℕ → List (List ℕ) =
    λ t. big_bytes 4 coded ∷ big_bytes 4 start ∷ t ∷ [] in
    let body : List ℕ → List (List ℕ) = λ t. told ++ (aoa_fields aoa ++ tail t) in
    let numbers : joined (tail bytes) ≡ joined (tail []) ++ bytes =
    before_one (big_bytes 4 coded) (big_bytes 4 start ∷ bytes ∷ []) (big_bytes 4 start ∷ [] ∷ [])
    bytes (before_one (big_bytes 4 start) (bytes ∷ []) ([] ∷ []) bytes (append-nil bytes)) in
    let behind : joined (body bytes) ≡ joined (body []) ++ bytes =
    before_many told (aoa_fields aoa ++ tail bytes) (aoa_fields aoa ++ tail []) bytes
    (before_many (aoa_fields aoa) (tail bytes) (tail []) bytes numbers) in
    before_one ack (window ∷ word ∷ body bytes) (window ∷ word ∷ body []) bytes
    (before_one window (word ∷ body bytes) (word ∷ body []) bytes
    (before_one word (body bytes) (body []) bytes behind))

-- the bytes of a part stand behind the same datagram with none
pub part_behind : (d : Datagram) (c : Carried)
    → spelled (packet_with (record d { load = Some c }))
    ≡ spelled (packet_with (record d { load = Some (record c { bytes = [] }) })) ++ c.bytes
part_behind d c =
    data_behind (packet_with d) (vector_in d.tells d.telling) (option_map low d.floor)
    (low c.transmission) (low c.part) c.bytes
