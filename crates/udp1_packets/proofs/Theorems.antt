-- What reading gives, in the words of the layout and the faults, and what follows of both.
use Rattle.std.proofs.Common.{◌≡◌, ℕ, ◌+◌, ◌<◌, ◌≤◌, List, [], length, get_or, replicate, Option, Some, None, Result, Ok, Err, refl, ap, subst, arith}
use Rattle.std.specs.Result.{IfOk, IfErr, IsOk, IsOkAnd}
use Rattle.std.proofs.lemmas.List.{length-replicate}
use Rattle.std.proofs.lemmas.List.Elements.{All-from_get_or}
use Rattle.mt_base.specs.Reading.{Left}
use Rattle.mt_base.specs.Writing.{Spot, puts}
use Rattle.mt_base.specs.declared.errors.NoRoom.{NoRoom}
use Rattle.mt_base.proofs.Numbers.{zero_bytes}
use Rattle.mt_base.proofs.Fill.{puts_fit}
use Rattle.mt_base.proofs.Fields.{not_both, ok_is}
use Rattle.mt_base.proofs.Meanings.{Meaning, was_spelled, was_fault, one_value}
use Rattle.carrier.specs.declared.first_layout.Refusal1.{Refusal1}
use Rattle.udp1_packets.specs.declared.packet.Packet1.{Packet1}
use Rattle.udp1_packets.specs.Value.{Body, SynBody, DataBody, FecBody, BareBody, Packet}
use Rattle.udp1_packets.specs.Layout.{IsBytes, IsPacket, Fills, Allows, Spells, zeros_after, zeros, to_four, written_fields, spelled}
use Rattle.udp1_packets.specs.Reading.{packet_at, Answers}
use Rattle.udp1_packets.specs.Faults.{Refused}
use Rattle.udp1_packets.specs.Views.{packet_of}
use Rattle.mt_base.proofs.FrontFields.{left_at as at}
use Rattle.udp1_packets.proofs.VectorLemmas.{fill_from}
use Rattle.udp1_packets.proofs.Decided.{decided, spelled_reads, fault_answer}

-- what bytes mean: what is spelled is read, each fault is the answer, and there is one of both
pub meaning : Meaning (λ bytes. packet_at (at 0 bytes)) (λ p bytes. Spells bytes p) Refused
meaning = record {
  reads = λ p bytes s. spelled_reads bytes p s;
  refuses = λ r bytes f. fault_answer bytes r f;
  decides = λ bytes good. decided bytes good;
}

-- ---- what a writer spells

zeros_fill : (vector : Option (List ℕ)) → Fills vector (zeros_after vector)
zeros_fill None = refl
zeros_fill (Some es) = let n = to_four (2 + length es) in fill_from es (replicate n 0) (length-replicate n 0) (zero_bytes n)

zeros_allowed : (body : Body) → Allows body (zeros body)
zeros_allowed (SynBody s) = (refl, refl)
zeros_allowed (DataBody vector aoa coded start bytes) = (zeros_fill vector, refl)
zeros_allowed (FecBody vector aoa coded start range index bytes) = (zeros_fill vector, refl, zero_bytes 2)
zeros_allowed (BareBody vector aoa rest) = (zeros_fill vector, refl)

-- what a writer spells for a packet spells it
pub written_spells : (p : Packet) → IsPacket p → Spells (spelled p) p
written_spells p is = record { choice = zeros p.body; allowed = zeros_allowed p.body; is = is; bytes_are = refl }

-- and nothing else
pub written_means : (p q : Packet) → IsPacket p → Spells (spelled p) q → q ≡ p
written_means p q is s = one_value meaning q p (spelled p) s (written_spells p is)

-- a writer whose bytes fit does not refuse
never_refused : {P : Type 0} (p : Packet) (out : List ℕ) (first : Spot) (e : NoRoom) → first ≡ record { before = []; after = out } → puts (written_fields p) first ≡ Err e → length (spelled p) ≤ length out → P
never_refused p out first e starts refused fits =
    let room : length (spelled p) ≤ length first.after = omega (arith, fits, ap length (ap (λ (x : Spot). x.after) starts)) in
    let done = puts_fit (written_fields p) first room in
    not_both done.0 e done.1 refused

-- a writer that refuses only where a field does not fit is done where all bytes fit
pub fits_by : (p : Packet) (out : List ℕ) (r : Result ℕ NoRoom) → IfErr r (λ e. puts (written_fields p) (record { before = []; after = out }) ≡ Err e) → length (spelled p) ≤ length out → IsOk r
fits_by p out (Ok n) refused fits = refl
fits_by p out (Err e) refused fits = never_refused p out (record { before = []; after = out }) e refl refused fits

-- ---- the same of what a reader answered

found_by : (bytes : List ℕ) (r : Result Packet1 Refusal1) → IsBytes bytes → Answers packet_of r (packet_at (at 0 bytes)) → IfOk r (λ p. Spells bytes (packet_of p))
found_by bytes (Ok p) good is = was_spelled meaning (packet_of p) bytes good is
found_by bytes (Err e) good is = tt

only_by : (bytes : List ℕ) (r : Result Packet1 Refusal1) → Answers packet_of r (packet_at (at 0 bytes)) → (p : Packet) → Spells bytes p → IsOkAnd r (λ q. packet_of q ≡ p)
only_by bytes (Ok q) is p s = ok_is (packet_of q) p is (spelled_reads bytes p s)
only_by bytes (Err e) is p s = not_both p e (spelled_reads bytes p s) is

fault_by : (bytes : List ℕ) (r : Result Packet1 Refusal1) → IsBytes bytes → Answers packet_of r (packet_at (at 0 bytes)) → IfErr r (Refused bytes)
fault_by bytes (Ok p) good is = tt
fault_by bytes (Err e) good is = was_fault meaning e bytes good is

pub record Answered (bytes : List ℕ) (r : Result Packet1 Refusal1) : Type 0 where
  pub found : IfOk r (λ p. Spells bytes (packet_of p))
  pub only : (p : Packet) → Spells bytes p → IsOkAnd r (λ q. packet_of q ≡ p)
  pub refused : IfErr r (Refused bytes)

pub answered : (bytes : List ℕ) (s : Left) (r : Result Packet1 Refusal1) → ((i : ℕ) → get_or bytes i 0 < 256) → s ≡ at 0 bytes → Answers packet_of r (packet_at s) → Answered bytes r
answered bytes s r byte starts is =
    let good : IsBytes bytes = All-from_get_or (λ b. b < 256) bytes 0 (λ i within. byte i) in
    let exact = subst (λ s. Answers packet_of r (packet_at s)) starts is in
    record { found = found_by bytes r good exact; only = only_by bytes r exact; refused = fault_by bytes r good exact }
