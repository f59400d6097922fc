-- Messages as the data PDUs of a channel make them (MS-RDPEDYC section 3.1.5.1.4): a message that
-- fits one Data PDU is that one; a longer one begins with a DataFirst, which tells its length, and
-- Data PDUs fill it.
use Rattle.std.specs.Prelude.{◌==◌, ℕ, List, [], ◌∷◌, ◌++◌, length, Option, Some, None, if◌then◌else◌}
use Rattle.dvc_pdus.specs.Value.{Pdu, Caps, CreateRequest, CreateResponse, DataFirst, Data, CompressedFirst, Compressed, Close, SyncRequest, SyncResponse}

-- a data PDU as a piece of a message
pub data Piece : Type 0 where
  -- the first bytes of a message, and how many bytes the whole message has
  First : (total : ℕ) (bytes : List ℕ) → Piece
  -- further bytes of the message under way; a whole message where none is
  Next : (bytes : List ℕ) → Piece

-- the piece that a PDU brings: none where it is compressed, or no data
abbrev pub pieces_of : Pdu → List Piece
pieces_of (Caps version charges) = []
pieces_of (CreateRequest id priority name) = []
pieces_of (CreateResponse id status) = []
pieces_of (DataFirst id total bytes) = First total bytes ∷ []
pieces_of (Data id bytes) = Next bytes ∷ []
pieces_of (CompressedFirst id total bytes) = []
pieces_of (Compressed id bytes) = []
pieces_of (Close id) = []
pieces_of (SyncRequest flags tunnels lists) = []
pieces_of (SyncResponse types) = []

-- a message under way: how many bytes it has in all, and those that came
pub record Part : Type 0 where
  pub total : ℕ
  pub bytes : List ℕ

-- these bytes as a message under way: none where they are all
abbrev pub part_of : ℕ → List ℕ → Option Part
part_of total bytes = if total == length bytes then None else Some (record { total = total; bytes = bytes })

-- and as a whole message: none where some bytes are missing
abbrev pub whole_of : ℕ → List ℕ → List (List ℕ)
whole_of total bytes = if total == length bytes then bytes ∷ [] else []

-- the message under way behind a piece
abbrev pub goes_on : Option Part → Piece → Option Part
goes_on part (First total bytes) = part_of total bytes
goes_on None (Next bytes) = None
goes_on (Some part) (Next bytes) = part_of part.total (part.bytes ++ bytes)

-- the message that a piece makes whole
abbrev pub ended_by : Option Part → Piece → List (List ℕ)
ended_by part (First total bytes) = whole_of total bytes
ended_by None (Next bytes) = bytes ∷ []
ended_by (Some part) (Next bytes) = whole_of part.total (part.bytes ++ bytes)

-- the message under way behind pieces
abbrev pub under_way_from : Option Part → List Piece → Option Part
under_way_from part [] = part
under_way_from part (piece ∷ pieces) = under_way_from (goes_on part piece) pieces

-- the messages that pieces make whole, in order
abbrev pub messages_from : Option Part → List Piece → List (List ℕ)
messages_from part [] = []
messages_from part (piece ∷ pieces) = ended_by part piece ++ messages_from (goes_on part piece) pieces

abbrev pub under_way : List Piece → Option Part
under_way pieces = under_way_from None pieces

abbrev pub messages : List Piece → List (List ℕ)
messages pieces = messages_from None pieces
