-- The lists of PDUs that carry a message on a channel.
use Rattle.std.specs.Prelude.{◌≡◌, ℕ, ◌≤◌, List, length, flat_map, All}
use Rattle.dvc_pdus.specs.Value.{Pdu, Caps, CreateRequest, CreateResponse, DataFirst, Data, CompressedFirst, Compressed, Close, SyncRequest, SyncResponse, spelled}
use Rattle.dvc_channels.specs.Pieces.{pieces_of}
use Rattle.dvc_channels.specs.Cutting.{IsCut}

-- a PDU with a piece of a message of this channel, in at most 1,600 bytes
abbrev pub IsOn : ℕ → Pdu → Type 0
IsOn id (Caps version charges) = ⊥
IsOn id (CreateRequest other priority name) = ⊥
IsOn id (CreateResponse other status) = ⊥
IsOn id (DataFirst other total bytes) = (other ≡ id) × (length (spelled (DataFirst other total bytes)) ≤ 1600)
IsOn id (Data other bytes) = (other ≡ id) × (length (spelled (Data other bytes)) ≤ 1600)
IsOn id (CompressedFirst other total bytes) = ⊥
IsOn id (Compressed other bytes) = ⊥
IsOn id (Close other) = ⊥
IsOn id (SyncRequest flags tunnels lists) = ⊥
IsOn id (SyncResponse types) = ⊥

-- these PDUs carry this message on this channel
pub record Carries (id : ℕ) (pdus : List Pdu) (message : List ℕ) : Type 0 where
  pub each : All (IsOn id) pdus
  pub pieces : IsCut (flat_map pieces_of pdus) message
