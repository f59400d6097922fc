-- The layouts of channel PDUs (MS-RDPEDYC section 2.2): which bytes spell a PDU. A writer has a
-- choice where a size is wider than needed or where bits and bytes have no meaning.
use Rattle.std.specs.Prelude.{◌≡◌, ℕ, ◌+◌, ◌*◌, ◌^◌, ◌<◌, ◌≤◌, List, [], ◌∷◌, length}
use Rattle.byteorder.specs.Endian.{little_bytes}
use Rattle.mt_base.specs.Writing.{joined}
use Rattle.mt_base.specs.declared.kinds.Role.{Role}
use Rattle.dvc_pdus.specs.Value.{Pdu, Caps, CreateRequest, CreateResponse, DataFirst, Data, CompressedFirst, Compressed, Close, SyncRequest, SyncResponse, Fits, charge_fields, sync_length, lists_fields, type_fields}

-- What a writer may choose: the codes of the id's size and of the size of a message's length, the
-- two bits of the header byte where the command gives them no meaning, and the pad byte. A PDU
-- without an id has bits without a meaning in place of that code.
pub record Choice : Type 0 where
  pub size : ℕ
  pub wide : ℕ
  pub unnamed : ℕ
  pub pad : ℕ

-- the header byte: the command in the upper four bits, two bits of the command's own, and the code
-- of the id's size in the lowest two
abbrev pub first_byte : ℕ → ℕ → ℕ → List ℕ
first_byte command own size = (command * 16 + own * 4 + size) ∷ []

-- an id or a length in the size of a code: 1, 2 or 4 bytes for 0, 1 or 2
abbrev pub id_in : ℕ → ℕ → List ℕ
id_in size id = little_bytes (2 ^ size) id

-- the code has a size, and the number fits it
abbrev pub IsSizeOf : ℕ → ℕ → Type 0
IsSizeOf size id = (size < 3) × (id < 256 ^ 2 ^ size)

-- the fields of a PDU in order
abbrev pub layout : Choice → Pdu → List (List ℕ)
layout c (Caps version charges) =
    first_byte 5 c.unnamed c.size ∷ (c.pad ∷ []) ∷ little_bytes 2 version ∷ charge_fields charges
layout c (CreateRequest id priority name) =
    first_byte 1 priority c.size ∷ id_in c.size id ∷ name ∷ (0 ∷ []) ∷ []
layout c (CreateResponse id status) =
    first_byte 1 c.unnamed c.size ∷ id_in c.size id ∷ little_bytes 4 status ∷ []
layout c (DataFirst id total bytes) =
    first_byte 2 c.wide c.size ∷ id_in c.size id ∷ id_in c.wide total ∷ bytes ∷ []
layout c (Data id bytes) = first_byte 3 c.unnamed c.size ∷ id_in c.size id ∷ bytes ∷ []
layout c (CompressedFirst id total bytes) =
    first_byte 6 c.wide c.size ∷ id_in c.size id ∷ id_in c.wide total ∷ bytes ∷ []
layout c (Compressed id bytes) = first_byte 7 c.unnamed c.size ∷ id_in c.size id ∷ bytes ∷ []
layout c (Close id) = first_byte 4 c.unnamed c.size ∷ id_in c.size id ∷ []
layout c (SyncRequest flags tunnels lists) =
    first_byte 8 c.unnamed c.size ∷ (c.pad ∷ []) ∷ little_bytes 4 (sync_length lists)
    ∷ little_bytes 2 flags ∷ little_bytes 2 tunnels ∷ lists_fields lists
layout c (SyncResponse types) =
    first_byte 9 c.unnamed c.size ∷ (c.pad ∷ []) ∷ little_bytes 4 (length types) ∷ type_fields types

-- a choice that the layout of this PDU has
abbrev pub Allows : Choice → Pdu → Type 0
Allows c (Caps version charges) = (c.unnamed < 4) × (c.size < 4) × (c.pad < 256)
Allows c (CreateRequest id priority name) = IsSizeOf c.size id
Allows c (CreateResponse id status) = (c.unnamed < 4) × IsSizeOf c.size id
Allows c (DataFirst id total bytes) = IsSizeOf c.size id × IsSizeOf c.wide total
Allows c (Data id bytes) = (c.unnamed < 4) × IsSizeOf c.size id
Allows c (CompressedFirst id total bytes) = IsSizeOf c.size id × IsSizeOf c.wide total
Allows c (Compressed id bytes) = (c.unnamed < 4) × IsSizeOf c.size id
Allows c (Close id) = (c.unnamed < 4) × IsSizeOf c.size id
Allows c (SyncRequest flags tunnels lists) = (c.unnamed < 4) × (c.size < 4) × (c.pad < 256)
Allows c (SyncResponse types) = (c.unnamed < 4) × (c.size < 4) × (c.pad < 256)

-- these bytes spell this PDU of this end
pub record Spells (from : Role) (bytes : List ℕ) (pdu : Pdu) : Type 0 where
  pub choice : Choice
  pub allowed : Allows choice pdu
  pub fits : Fits from pdu
  pub bytes_are : bytes ≡ joined (layout choice pdu)

-- these bytes are this PDU of this end: they spell it, and are at most 1,600
abbrev pub Encodes : Role → List ℕ → Pdu → Type 0
Encodes from bytes pdu = Spells from bytes pdu × (length bytes ≤ 1600)
