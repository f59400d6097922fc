-- The channel PDUs that an end holds, in the order in which they came.
use Rattle.std.specs.Prelude.{◌==◌, ℕ, ◌+◌, List, [], ◌∷◌, ◌++◌, length, drop, Option, Some, None, if◌then◌else◌}

-- a PDU of this channel, with the place that it came at
pub record Pdu : Type 0 where
  pub id : ℕ
  pub at : ℕ
  pub bytes : List ℕ

abbrev pub pdu_of : ℕ → ℕ → List ℕ → Pdu
pdu_of id at bytes = record { id = id; at = at; bytes = bytes }

-- what PDUs count: their bytes, and 16 more for each
abbrev pub weight : List Pdu → ℕ
weight [] = 0
weight (pdu ∷ pdus) = (16 + length pdu.bytes) + weight pdus

-- the oldest PDU of a channel
abbrev pub oldest : ℕ → List Pdu → Option Pdu
oldest id [] = None
oldest id (pdu ∷ pdus) = if pdu.id == id then Some pdu else oldest id pdus

-- all PDUs but the oldest of a channel
abbrev pub without_oldest : ℕ → List Pdu → List Pdu
without_oldest id [] = []
without_oldest id (pdu ∷ pdus) = if pdu.id == id then pdus else pdu ∷ without_oldest id pdus

-- all PDUs but those of a channel
abbrev pub without : ℕ → List Pdu → List Pdu
without id [] = []
without id (pdu ∷ pdus) = if pdu.id == id then without id pdus else pdu ∷ without id pdus

-- a buffer with the bytes of a PDU at its front; it stays as it was where there is none
abbrev pub with_bytes : Option Pdu → List ℕ → List ℕ
with_bytes None buffer = buffer
with_bytes (Some pdu) buffer = pdu.bytes ++ drop (length pdu.bytes) buffer
