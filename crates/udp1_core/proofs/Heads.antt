-- The text of a datagram up to the bytes of its part: the flags that it tells, and its packet.
use Rattle.std.proofs.Common.{◌≡◌, ℕ, ◌≤◌, Bool, List, ◌++◌, length, drop, All, Option, Some, None, option_map, ap, ◌∙◌, subst, arith}
use Rattle.ack_vector.specs.Elements.{IsGood}
use Rattle.ack_vector.specs.Longest.{elements_of}
use Rattle.ack_vector.proofs.LongestLemmas.{holds, holds_length, holds_spell}
use Rattle.mt_windows.specs.Arrived.{Parts}
use Rattle.mt_windows.specs.declared.limits.TheConstants.{WINDOW}
use Rattle.link_machine.specs.declared.numbers.Numbers.{Numbers}
use Rattle.udp1_packets.specs.Layout.{spelled}
use Rattle.udp1_packets.specs.Value.{Packet}
use Rattle.udp1_core.specs.ContentsView.{head_body}
use Rattle.udp1_core.specs.FirstLayout.{bytes_left_out, low, named_of, packet_with, telling_of, vector_in}

-- ---- the flags that are told

-- the elements of as many flags as a window has have a place
pub elements_fit : (flags : List Bool) → length flags ≤ WINDOW → length (elements_of flags) ≤ WINDOW
elements_fit flags short =
    omega (arith, holds_length (elements_of flags) flags (holds flags), short)

-- the elements that are written are good
pub elements_good : (flags : List Bool) → All IsGood (elements_of flags)
elements_good flags = (holds_spell (elements_of flags) flags (holds flags)).good

-- ---- the packet

abbrev pub head_with : ℕ → Option (List ℕ) → Option ℕ → Option Numbers → Packet
head_with y vector aoa numbers =
    record { ack = low y; window = WINDOW; marks = 0; body = head_body vector aoa numbers }

-- the packet of these parts is that of the layout
pub head_is : (peer : ℕ) (parts : Parts) (floor : ℕ) (tells : Bool) (above : Option ℕ)
    (numbers : Option Numbers) (y : ℕ) (vector : Option (List ℕ))
    → y ≡ named_of peer parts
    → vector ≡ vector_in tells (telling_of peer floor parts)
    → head_with y vector (option_map low above) numbers
    ≡ packet_with (bytes_left_out (telling_of peer floor parts) tells above numbers)
head_is peer parts floor tells above None y vector named is =
    ap (λ m. head_with m vector (option_map low above) None) named
    ∙ ap (λ v. head_with (named_of peer parts) v (option_map low above) None) is
head_is peer parts floor tells above (Some n) y vector named is =
    ap (λ m. head_with m vector (option_map low above) (Some n)) named
    ∙ ap (λ v. head_with (named_of peer parts) v (option_map low above) (Some n)) is

-- what was written of a packet is written of the same packet
pub same_written : (p q : Packet) (n : ℕ) (out new : List ℕ) → p ≡ q
    → (n ≡ length (spelled p)) × (new ≡ spelled p ++ drop n out)
    → (n ≡ length (spelled q)) × (new ≡ spelled q ++ drop n out)
same_written p q n out new same is =
    subst (λ x. (n ≡ length (spelled x)) × (new ≡ spelled x ++ drop n out)) same is
