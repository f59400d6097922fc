-- Channel PDUs as values of lists and numbers, and the bytes that a writer spells for them
-- (MS-RDPEDYC section 2.2).
use Rattle.std.specs.Prelude.{◌≡◌, ◌==◌, ℕ, ◌+◌, ◌*◌, ◌^◌, ◌<◌, ◌≤◌, Bool, not, List, [], ◌∷◌, ◌++◌, length, map, flat_map, All, Option, None, Some, nat_lt, if◌then◌else◌, bit_and}
use Rattle.byteorder.specs.Endian.{little_bytes}
use Rattle.mt_base.specs.Writing.{joined}
use Rattle.mt_base.specs.declared.kinds.Role.{Role}
use Rattle.mt_base.specs.declared.kinds.Role.TheVariants.{Server, Client}
use Rattle.mt_base.specs.declared.kinds.Kind.{Kind}
use Rattle.mt_base.specs.declared.kinds.Kind.TheVariants.{Reliable, Lossy}

-- a list of a Soft-Sync request: the kind of a tunnel, and the channels that move to it
pub record ChannelList : Type 0 where
  pub kind : Kind
  pub ids : List ℕ

pub data Pdu : Type 0 where
  Caps : (version : ℕ) (charges : Option (List ℕ)) → Pdu
  CreateRequest : (id priority : ℕ) (name : List ℕ) → Pdu
  CreateResponse : (id status : ℕ) → Pdu
  DataFirst : (id total : ℕ) (bytes : List ℕ) → Pdu
  Data : (id : ℕ) (bytes : List ℕ) → Pdu
  CompressedFirst : (id total : ℕ) (bytes : List ℕ) → Pdu
  Compressed : (id : ℕ) (bytes : List ℕ) → Pdu
  Close : (id : ℕ) → Pdu
  SyncRequest : (flags tunnels : ℕ) (lists : List ChannelList) → Pdu
  SyncResponse : (types : List Kind) → Pdu

-- the code of the smallest size that an id fits: 0, 1 and 2 for one, two and four bytes
abbrev pub size_code : ℕ → ℕ
size_code id = if nat_lt id (2 ^ 8) then 0 else if nat_lt id (2 ^ 16) then 1 else 2

-- a number in its smallest size
abbrev pub smallest : ℕ → List ℕ
smallest id =
    if nat_lt id (2 ^ 8) then little_bytes 1 id
    else if nat_lt id (2 ^ 16) then little_bytes 2 id
    else little_bytes 4 id

-- The header byte: the command in the upper four bits, then two bits of its own, then the id's
-- size. Capabilities and Soft-Sync have no id.
abbrev pub header : ℕ → ℕ → ℕ → List ℕ
header command own id = (command * 16 + own * 4 + size_code id) ∷ []

-- the priority charges, two bytes each
abbrev pub charge_fields : Option (List ℕ) → List (List ℕ)
charge_fields None = []
charge_fields (Some charges) = map (little_bytes 2) charges

-- the code of a kind of tunnel (section 2.2.5.1.1)
abbrev pub tunnel_type : Kind → ℕ
tunnel_type Reliable = 1
tunnel_type Lossy = 3

-- the tunnel types, four bytes each
abbrev pub type_field : Kind → List ℕ
type_field kind = little_bytes 4 (tunnel_type kind)

abbrev pub type_fields : List Kind → List (List ℕ)
type_fields types = map type_field types

-- channel ids, four bytes each
abbrev pub id_fields : List ℕ → List (List ℕ)
id_fields ids = map (little_bytes 4) ids

-- a list of channels: its tunnel's type, how many ids, and the ids
abbrev pub list_fields : ChannelList → List (List ℕ)
list_fields l = type_field l.kind ∷ little_bytes 2 (length l.ids) ∷ id_fields l.ids

-- the lists, one behind the other
abbrev pub lists_fields : List ChannelList → List (List ℕ)
lists_fields lists = flat_map list_fields lists

-- what a Soft-Sync request tells as its Length: its own four bytes, and all that follows
abbrev pub sync_length : List ChannelList → ℕ
sync_length lists = 8 + length (joined (lists_fields lists))

-- the fields of a PDU in order
abbrev pub fields : Pdu → List (List ℕ)
fields (Caps version charges) =
    (0x50 ∷ []) ∷ (0 ∷ []) ∷ little_bytes 2 version ∷ charge_fields charges
fields (CreateRequest id priority name) = header 1 priority id ∷ smallest id ∷ name ∷ (0 ∷ []) ∷ []
fields (CreateResponse id status) = header 1 0 id ∷ smallest id ∷ little_bytes 4 status ∷ []
fields (DataFirst id total bytes) =
    header 2 (size_code total) id ∷ smallest id ∷ smallest total ∷ bytes ∷ []
fields (Data id bytes) = header 3 0 id ∷ smallest id ∷ bytes ∷ []
fields (CompressedFirst id total bytes) =
    header 6 (size_code total) id ∷ smallest id ∷ smallest total ∷ bytes ∷ []
fields (Compressed id bytes) = header 7 0 id ∷ smallest id ∷ bytes ∷ []
fields (Close id) = header 4 0 id ∷ smallest id ∷ []
fields (SyncRequest flags tunnels lists) =
    (0x80 ∷ []) ∷ (0 ∷ []) ∷ little_bytes 4 (sync_length lists) ∷ little_bytes 2 flags ∷ little_bytes 2 tunnels
    ∷ lists_fields lists
fields (SyncResponse types) =
    (0x90 ∷ []) ∷ (0 ∷ []) ∷ little_bytes 4 (length types) ∷ type_fields types

-- the bytes that a writer spells for a PDU
abbrev pub spelled : Pdu → List ℕ
spelled pdu = joined (fields pdu)

-- a byte that a name may have
abbrev pub IsNameByte : ℕ → Type 0
IsNameByte b = (0x20 ≤ b) × (b ≤ 0x7E)

-- a name of a channel
abbrev pub IsName : List ℕ → Type 0
IsName name = (1 ≤ length name) × (length name ≤ 255) × All IsNameByte name

-- bytes
abbrev pub AreBytes : List ℕ → Type 0
AreBytes bytes = All (λ b. b < 2 ^ 8) bytes

-- a list of channels
abbrev pub IsList : ChannelList → Type 0
IsList l = (length l.ids < 2 ^ 16) × All (λ id. id < 2 ^ 32) l.ids

-- the flag CHANNEL_LIST_PRESENT is set: lists follow, one for each tunnel
abbrev pub lists_follow : ℕ → Bool
lists_follow flags = not (bit_and flags 2 == 0)

-- how many lists a Soft-Sync request has, by its flags and its number of tunnels
abbrev pub list_count : ℕ → ℕ → ℕ
list_count flags tunnels = if lists_follow flags then tunnels else 0

-- the layout has this value, as a PDU of this end
abbrev pub Fits : Role → Pdu → Type 0
Fits from (Caps version None) = version < 2 ^ 16
Fits from (Caps version (Some charges)) =
    (version < 2 ^ 16) × (length charges ≡ 4) × All (λ c. c < 2 ^ 16) charges
Fits Server (CreateRequest id priority name) = (id < 2 ^ 32) × (priority < 4) × IsName name
Fits Client (CreateRequest id priority name) = ⊥
Fits Server (CreateResponse id status) = ⊥
Fits Client (CreateResponse id status) = (id < 2 ^ 32) × (status < 2 ^ 32)
Fits from (DataFirst id total bytes) =
    (id < 2 ^ 32) × (total < 2 ^ 32) × AreBytes bytes × (length bytes ≤ total)
Fits from (Data id bytes) = (id < 2 ^ 32) × AreBytes bytes
Fits from (CompressedFirst id total bytes) = (id < 2 ^ 32) × (total < 2 ^ 32) × AreBytes bytes
Fits from (Compressed id bytes) = (id < 2 ^ 32) × AreBytes bytes
Fits from (Close id) = id < 2 ^ 32
Fits from (SyncRequest flags tunnels lists) =
    (flags < 2 ^ 16) × (tunnels < 2 ^ 16) × (length lists ≡ list_count flags tunnels) × All IsList lists
    × (sync_length lists < 2 ^ 32)
Fits from (SyncResponse types) = length types < 2 ^ 32

-- a PDU that an end may send: the layout has it, in at most 1,600 bytes
abbrev pub IsPdu : Role → Pdu → Type 0
IsPdu from pdu = Fits from pdu × (length (spelled pdu) ≤ 1600)

-- the list of these channels, where there are some
abbrev pub list_to : Kind → List ℕ → List ChannelList
list_to kind ids = if length ids == 0 then [] else record { kind = kind; ids = ids } ∷ []

-- The Soft-Sync request that moves these channels to a reliable tunnel and those to a lossy one: the
-- flags TCP_FLUSHED and CHANNEL_LIST_PRESENT, and a list for each tunnel that gets a channel.
abbrev pub lists_of : List ℕ → List ℕ → List ChannelList
lists_of reliable lossy = list_to Reliable reliable ++ list_to Lossy lossy

abbrev pub sync_request : List ℕ → List ℕ → Pdu
sync_request reliable lossy =
    SyncRequest 3 (length (lists_of reliable lossy)) (lists_of reliable lossy)
