-- The frames that carry channel PDUs on the main stream: kind 3, the PDU's length in two bytes, the
-- lowest first, and the PDU. They stand in place of the transport of MS-RDPBCGR.
use Rattle.std.specs.Prelude.{◌≡◌, ℕ, ◌+◌, ◌*◌, ◌==◌, ◌&&◌, Bool, true, false, List, ◌∷◌, ◌++◌, length, Option, None, Some, Result, Ok, Err, if◌then◌else◌}
use Rattle.byteorder.specs.Endian.{little_bytes}
use Rattle.mt_base.specs.declared.kinds.Role.{Role}
use Rattle.dvc_pdus.specs.declared.pdu.DvcRefusal.{DvcRefusal}
use Rattle.dvc_pdus.specs.Value.{Pdu, Caps, CreateRequest, CreateResponse, DataFirst, Data, CompressedFirst, Compressed, Close, SyncRequest, SyncResponse, IsPdu, spelled}
use Rattle.dvc_pdus.specs.Reading.{reading}

-- the frame of a PDU
unfoldable pub framed : Pdu → List ℕ
framed pdu = 3 ∷ little_bytes 2 (length (spelled pdu)) ++ spelled pdu

-- The PDUs that the ends of this session exchange: capabilities, create requests and their answers,
-- and data that are whole messages. Any other is a fault here: no frame has it.
abbrev pub is_spoken : Pdu → Bool
is_spoken (Caps version charges) = true
is_spoken (CreateRequest id priority name) = true
is_spoken (CreateResponse id status) = true
is_spoken (DataFirst id total bytes) = false
is_spoken (Data id bytes) = true
is_spoken (CompressedFirst id total bytes) = false
is_spoken (Compressed id bytes) = false
is_spoken (Close id) = false
is_spoken (SyncRequest flags tunnels lists) = false
is_spoken (SyncResponse types) = false

-- a PDU that an end of this session may send
abbrev pub IsSpoken : Role → Pdu → Type 0
IsSpoken from pdu = IsPdu from pdu × (is_spoken pdu ≡ true)

-- the PDU that was read, if it was one that these ends exchange
abbrev pub read_pdu : Result Pdu DvcRefusal → Option Pdu
read_pdu (Ok pdu) = if is_spoken pdu then Some pdu else None
read_pdu (Err refusal) = None

-- the PDU of the one whole frame that these bytes of this end are
unfoldable pub frame_of : Role → List ℕ → Option Pdu
frame_of from (kind ∷ low ∷ high ∷ pdu) =
    if kind == 3 && (low + 256 * high) == length pdu then read_pdu (reading from pdu) else None
frame_of from bytes = None
