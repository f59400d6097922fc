-- The text of a datagram up to the bytes of its part.
use Rattle.std.proofs.Common.{◌≡◌, ℕ, zero, suc, ◌+◌, ◌-◌, ◌<◌, ◌≤◌, Bool, List, [], ◌∷◌, ◌++◌, length, take, drop, max, Option, Some, None, refl, sym, ap, ◌∙◌, subst, arith}
use Rattle.std.proofs.lemmas.List.{length-drop, length-take}
use Rattle.std.proofs.lemmas.List.Elements.{All-nil}
use Rattle.carrier.specs.Layout.{Telling, Carried}
use Rattle.link_machine.specs.declared.numbers.Numbers.{Numbers}
use Rattle.udp2_packets.specs.Value.{Telling as PacketTelling, Packet}
use Rattle.udp2_packets.specs.Layout.{IsPacket, finished, spelled, text}
use Rattle.udp2_packets.proofs.WriterLemmas.{length-finished}
use Rattle.udp2_core.specs.SecondLayout.{head_body, head_packet, made_of, telling_where}
use Rattle.udp2_core.specs.TellingView.{IsShort}
use Rattle.udp2_core.proofs.ReadBack.{made_good}
use Rattle.udp2_core.proofs.Sizes.{made_size, text_size}

-- ---- the packet without the bytes of its part

-- a part of these numbers without its bytes
abbrev pub without_bytes : Numbers → Carried
without_bytes n = record { part = n.part; transmission = n.transmission; bytes = [] }

abbrev pub head_made : PacketTelling → Option ℕ → Option Numbers → Packet
head_made telling floor numbers = made_of telling floor (head_body numbers)

-- it is a packet
pub head_good : (p : Packet) (telling : PacketTelling) (floor : Option ℕ) (numbers : Option Numbers)
    → p ≡ head_made telling floor numbers → IsShort telling → IsPacket p
head_good p telling floor numbers is short = subst IsPacket (sym is) (by_numbers numbers)
  where
    by_numbers : (n : Option Numbers) → IsPacket (head_made telling floor n)
    by_numbers None = made_good telling floor None short tt
    by_numbers (Some n) =
        made_good telling floor (Some (without_bytes n)) short (All-nil (λ b. b < 256))

-- its fields are short
pub head_size : (p : Packet) (telling : PacketTelling) (floor : Option ℕ) (numbers : Option Numbers)
    → p ≡ head_made telling floor numbers → IsShort telling → length (text p) ≤ 89
head_size p telling floor numbers is short = subst (λ q. length (text q) ≤ 89) (sym is) (by_numbers numbers)
  where
    by_numbers : (n : Option Numbers) → length (text (head_made telling floor n)) ≤ 89
    by_numbers None = text_size telling floor None short
    by_numbers (Some n) = text_size telling floor (Some (without_bytes n)) short

-- and so is its datagram
pub head_short : (p : Packet) (telling : PacketTelling) (floor : Option ℕ) (numbers : Option Numbers)
    → p ≡ head_made telling floor numbers → IsShort telling → length (spelled p) ≤ 90
head_short p telling floor numbers is short = subst (λ q. length (spelled q) ≤ 90) (sym is) (by_numbers numbers)
  where
    by_numbers : (n : Option Numbers) → length (spelled (head_made telling floor n)) ≤ 90
    by_numbers None = made_size telling floor None short
    by_numbers (Some n) = made_size telling floor (Some (without_bytes n)) short

-- what was written of a packet is the head of the datagram that it is
pub head_written : (p : Packet) (shown : PacketTelling) (told : Telling) (tells : Bool) (floor : Option ℕ)
    (numbers : Option Numbers) (n : ℕ) (out new : List ℕ)
    → p ≡ head_made shown floor numbers → shown ≡ telling_where tells told
    → (n ≡ length (0 ∷ text p)) × (new ≡ (0 ∷ text p) ++ drop n out)
    → (let head = 0 ∷ text (head_packet told tells floor numbers) in
    (n ≡ length head) × (new ≡ head ++ drop n out))
head_written p shown told tells floor numbers n out new is same written =
    subst (λ q. (n ≡ length (0 ∷ text q)) × (new ≡ (0 ∷ text q) ++ drop n out))
    (is ∙ ap (λ t. head_made t floor numbers) same) written

-- ---- the datagram that is made of a text

-- the place of the prefix byte is there, whatever the text
pub behind_place : (long : ℕ) (out : List ℕ) → drop 1 (take (max long 1) out) ≡ drop 1 (take long out)
behind_place zero [] = refl
behind_place zero (b ∷ out) = refl
behind_place (suc n) out =
    let same : max (suc n) 1 ≡ suc n = omega arith in ap (λ m. drop 1 (take m out)) same

-- it is longer than the text, by less than eight bytes
pub datagram_size : (kind long : ℕ) (out : List ℕ) → long ≤ length out
    → (long ≤ length (finished kind (drop 1 (take long out))))
    × (length (finished kind (drop 1 (take long out))) ≤ long + 8)
datagram_size kind long out within =
    let behind = drop 1 (take long out) in
    let size : length behind ≡ long - 1 =
    omega (arith, length-drop 1 (take long out), length-take long out, within) in
    (omega (arith, length-finished kind behind, size), omega (arith, length-finished kind behind, size))
