-- Why a datagram holds no packet of the second layout: the first fault in the order of the checks.
-- Places are those before the exchange of two bytes, with the prefix byte at 0.
use Rattle.std.specs.Prelude.{◌≡◌, ◌≢◌, ◌⊎◌, ℕ, ◌+◌, ◌/◌, ◌<◌, true, false, List, ◌∷◌, ◌++◌, length}
use Rattle.mt_base.specs.Parts.{Cut}
use Rattle.carrier.specs.declared.second_layout.Refusal2.{Refusal2}
use Rattle.carrier.specs.declared.second_layout.Refusal2.TheVariants as refusal
use Rattle.udp2_packets.specs.Value.{NoBody, Packet}
use Rattle.udp2_packets.specs.Layout.{has, header, kind, fields, text, IsPacket, exchanged, Holds}

-- The short length in this first byte is below 2, or it is below 7 and the datagram has more than
-- 8 bytes.
abbrev pub IsWrongLength : ℕ → ℕ → Type 0
IsWrongLength first long = (first / 32 < 2) ⊎ ((first / 32 < 7) × (8 < long))

-- a packet of a type that is known, with these flags and this logarithm of the window
abbrev pub Headed : List ℕ → ℕ → ℕ → ℕ → List ℕ → Type 0
Headed datagram kind flags log_window rest =
    ((kind ≡ 0) ⊎ (kind ≡ 8)) × (flags < 4096) × (log_window < 16)
    × Holds datagram kind (header flags log_window ++ rest)

-- the first fault of a datagram
pub data Refused (datagram : List ℕ) (r : Refusal2) : Type 0 where
  too_short : length datagram < 8 → r ≡ refusal.Short (record { at = 0; need = 8 })
      → Refused datagram r
  wrong_length : (first : ℕ) (rest : List ℕ) → first < 256 → 7 < length datagram
      → exchanged datagram ≡ first ∷ rest → IsWrongLength first (length datagram)
      → r ≡ refusal.ShortLength 0 → Refused datagram r
  wrong_type : (kind : ℕ) (text : List ℕ) → Holds datagram kind text → kind ≢ 0 → kind ≢ 8
      → r ≡ refusal.BadType 0 → Refused datagram r
  unknown_flag : (kind flags log_window : ℕ) (rest : List ℕ)
      → Headed datagram kind flags log_window rest → has flags 0xEA2 ≡ true
      → r ≡ refusal.UnknownFlag 1 → Refused datagram r
  two_tellings : (kind flags log_window : ℕ) (rest : List ℕ)
      → Headed datagram kind flags log_window rest → has flags 0xEA2 ≡ false
      → has flags 0x001 ≡ true → has flags 0x008 ≡ true
      → r ≡ refusal.AckAndVector 1 → Refused datagram r
  field_cut : (p : Packet) (bytes : List ℕ) → IsPacket p → Holds datagram (kind p.body) bytes
      → Cut refusal.Short (fields p) 1 bytes r → Refused datagram r
  trailing : (p : Packet) (b : ℕ) (rest : List ℕ) → IsPacket p → p.body ≡ NoBody
      → Holds datagram 0 (text p ++ (b ∷ rest))
      → r ≡ refusal.Trailing (1 + length (text p)) → Refused datagram r
