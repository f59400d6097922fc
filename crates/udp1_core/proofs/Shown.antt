-- What the answer of the reader of packets says of a datagram, and what its flags tell.
use Rattle.std.proofs.Common.{◌≡◌, ℕ, Bool, false, List, Result, Ok, Err, refl, ap}
use Rattle.std.specs.Option.{unwrap_or}
use Rattle.std.specs.Result.{IfOk, IfErr}
use Rattle.ack_vector.specs.Numbers.{flag_told}
use Rattle.carrier.specs.declared.first_layout.Refusal1.{Refusal1}
use Rattle.carrier.specs.declared.state.Reason.TheVariants as reason
use Rattle.carrier.specs.Layout.{Refuses, Upto, tells}
use Rattle.udp1_packets.specs.declared.packet.Packet1.{Packet1}
use Rattle.udp1_packets.specs.Faults.{Refused}
use Rattle.udp1_packets.specs.Layout.{Spells}
use Rattle.udp1_packets.specs.Reading.{Answers, packet_at}
use Rattle.udp1_packets.specs.Value.{Packet}
use Rattle.udp1_packets.specs.Views.{packet_of}
use Rattle.udp1_packets.proofs.Theorems.{meaning}
use Rattle.udp1_core.specs.FirstLayout.{packet_shows, shows}

-- what is spelled is read
pub spelled_is : (bytes : List ℕ) (p : Packet) → Spells bytes p
    → packet_at (record { at = 0; bytes = bytes }) ≡ Ok p
spelled_is bytes p spells = meaning.reads p bytes spells

-- a fault is the answer
pub refused_is : (bytes : List ℕ) (e : Refusal1) → Refused bytes e
    → packet_at (record { at = 0; bytes = bytes }) ≡ Err e
refused_is bytes e fault = meaning.refuses e bytes fault

-- what the reader answered is what reading gives
pub answers : (bytes : List ℕ) (r : Result Packet1 Refusal1)
    → IfOk r (λ p. Spells bytes (packet_of p)) → IfErr r (Refused bytes)
    → Answers packet_of r (packet_at (record { at = 0; bytes = bytes }))
answers bytes (Ok p) found refused = spelled_is bytes (packet_of p) found
answers bytes (Err e) found refused = refused_is bytes e refused

-- a datagram that was read shows what its packet does
pub shows_packet : (bytes : List ℕ) (p : Packet) → Spells bytes p
    → shows bytes ≡ packet_shows (Ok p)
shows_packet bytes p spells = ap packet_shows (spelled_is bytes p spells)

-- a datagram that was refused is refused so
pub shows_refusal : (bytes : List ℕ) (e : Refusal1) → Refused bytes e
    → shows bytes ≡ Refuses (reason.First e)
shows_refusal bytes e fault = ap packet_shows (refused_is bytes e fault)

-- the flag of a number says whether it is told
pub flag_tells : (flags : List Bool) (named q : ℕ)
    → unwrap_or (flag_told flags named q) false ≡ tells (Upto named flags) q
flag_tells flags named q = refl
