-- Why bytes are no channel PDU: the first fault in the order of the fields. Each case says what
-- stands before the fault, and so keeps its rules, and what is wrong behind it.
use Rattle.std.specs.Prelude.{◌≡◌, ◌≢◌, ◌⊎◌, ℕ, ◌+◌, ◌*◌, ◌^◌, ◌<◌, ◌≤◌, List, ◌∷◌, ◌++◌, length, map, flat_map, All, Some, None}
use Rattle.byteorder.specs.Endian.{little_bytes}
use Rattle.mt_base.specs.Writing.{joined}
use Rattle.mt_base.specs.declared.kinds.Role.{Role}
use Rattle.mt_base.specs.declared.kinds.Role.TheVariants.{Server, Client}
use Rattle.mt_base.specs.declared.kinds.Kind.{Kind}
use Rattle.dvc_pdus.specs.declared.pdu.DvcRefusal.{DvcRefusal}
use Rattle.dvc_pdus.specs.declared.pdu.DvcRefusal.TheVariants as refusal
use Rattle.dvc_pdus.specs.Value.{Pdu, Caps, CreateRequest, CreateResponse, DataFirst, Data, CompressedFirst, Compressed, Close, SyncRequest, SyncResponse, ChannelList, IsNameByte, IsList, type_field, list_fields, list_count}
use Rattle.dvc_pdus.specs.Layout.{Spells, first_byte, id_in, IsSizeOf}

-- a field of `need` bytes is cut short at this place
abbrev pub Cut : ℕ → ℕ → List ℕ → DvcRefusal → Type 0
Cut at need bytes r = (length bytes < need) × (r ≡ refusal.Short (record { at = at; need = need }))

-- The first fault of a name at this place: the first byte that is none of a name, also a zero byte
-- that ends nothing; a 256th byte; or no end.
pub data RefusedName (at : ℕ) (bytes : List ℕ) (r : DvcRefusal) : Type 0 where
  wrong_byte : (good rest : List ℕ) (b : ℕ) → All IsNameByte good → length good < 256
      → (IsNameByte b → ⊥) → (b ≡ 0 → length good ≡ 0) → bytes ≡ good ++ (b ∷ rest)
      → r ≡ refusal.BadName (at + length good) → RefusedName at bytes r
  too_many : (good rest : List ℕ) → All IsNameByte good → length good ≡ 256 → bytes ≡ good ++ rest
      → r ≡ refusal.BadName (at + 255) → RefusedName at bytes r
  not_ended : All IsNameByte bytes → length bytes < 256
      → r ≡ refusal.NameNotEnded (at + length bytes) → RefusedName at bytes r

-- a header byte, and what stands behind it
abbrev pub Headed : List ℕ → ℕ → ℕ → ℕ → List ℕ → Type 0
Headed bytes command own size rest = (own < 4) × (size < 4) × (bytes ≡ first_byte command own size ++ rest)

-- no PDU has this command
abbrev pub IsUnknown : ℕ → Type 0
IsUnknown command = (command < 16) × ((command ≡ 0) ⊎ (9 < command))

-- an id stands behind the header byte of this command
abbrev pub HasId : ℕ → Type 0
HasId command = (1 ≤ command) × (command ≤ 7) × (command ≢ 5)

-- a message's length stands behind the id of this command
abbrev pub HasLength : ℕ → Type 0
HasLength command = (command ≡ 2) ⊎ (command ≡ 6)

-- a pad byte stands behind the header byte of this command
abbrev pub HasPad : ℕ → Type 0
HasPad command = (command ≡ 5) ⊎ (command ≡ 8) ⊎ (command ≡ 9)

-- a header byte of a command with an id, the id, and what stands behind it
pub record Named (bytes : List ℕ) (command own size : ℕ) (rest : List ℕ) : Type 0 where
  pub id : ℕ
  pub fits : IsSizeOf size id
  pub bytes_are : Headed bytes command own size (id_in size id ++ rest)

-- The first fault among so many items at this place: good ones stand in front, and then what is
-- wrong with the next.
pub record Among {A : Type 0} (text : A → List ℕ) (Good : A → Type 0) (Fault : ℕ → List ℕ → DvcRefusal → Type 0) (count at : ℕ) (bytes : List ℕ) (r : DvcRefusal) : Type 0 where
  pub before : List A
  pub rest : List ℕ
  pub good : All Good before
  pub fewer : length before < count
  pub bytes_are : bytes ≡ flat_map text before ++ rest
  pub fault : Fault (at + length (flat_map text before)) rest r

-- the first fault of a tunnel's type at this place
pub data RefusedType (at : ℕ) (bytes : List ℕ) (r : DvcRefusal) : Type 0 where
  type_cut : Cut at 4 bytes r → RefusedType at bytes r
  type_unknown : (code : ℕ) (rest : List ℕ) → code < 2 ^ 32 → code ≢ 1 → code ≢ 3
      → bytes ≡ little_bytes 4 code ++ rest → r ≡ refusal.BadTunnelType at → RefusedType at bytes r

-- the first fault of a list of channels at this place
pub data RefusedList (at : ℕ) (bytes : List ℕ) (r : DvcRefusal) : Type 0 where
  list_type : RefusedType at bytes r → RefusedList at bytes r
  count_cut : (kind : Kind) (rest : List ℕ) → bytes ≡ type_field kind ++ rest → Cut (at + 4) 2 rest r
      → RefusedList at bytes r
  list_id : (kind : Kind) (count : ℕ) (rest : List ℕ) → count < 2 ^ 16
      → bytes ≡ type_field kind ++ (little_bytes 2 count ++ rest)
      → Among (little_bytes 4) (λ id. id < 2 ^ 32) (λ at. Cut at 4) count (at + 6) rest r
      → RefusedList at bytes r

-- a Soft-Sync request up to its Length, which counts itself and all that follows
pub record Counted (bytes rest : List ℕ) : Type 0 where
  pub own : ℕ
  pub size : ℕ
  pub pad : ℕ
  pub pad_fits : pad < 256
  pub fits : 4 + length rest < 2 ^ 32
  pub bytes_are : Headed bytes 8 own size (pad ∷ (little_bytes 4 (4 + length rest) ++ rest))

-- and up to its number of tunnels
abbrev pub Listed : List ℕ → ℕ → ℕ → List ℕ → Type 0
Listed bytes flags tunnels rest =
    (flags < 2 ^ 16) × (tunnels < 2 ^ 16) × Counted bytes (little_bytes 2 flags ++ (little_bytes 2 tunnels ++ rest))

-- the bytes of a list of channels
abbrev pub list_bytes : ChannelList → List ℕ
list_bytes l = joined (list_fields l)

-- nothing can stand behind the last field of this PDU
abbrev pub IsClosed : Pdu → Type 0
IsClosed (Caps version None) = ⊥
IsClosed (Caps version (Some charges)) = Unit {0}
IsClosed (CreateRequest id priority name) = Unit {0}
IsClosed (CreateResponse id status) = Unit {0}
IsClosed (DataFirst id total bytes) = ⊥
IsClosed (Data id bytes) = ⊥
IsClosed (CompressedFirst id total bytes) = ⊥
IsClosed (Compressed id bytes) = ⊥
IsClosed (Close id) = Unit {0}
IsClosed (SyncRequest flags tunnels lists) = ⊥
IsClosed (SyncResponse types) = Unit {0}

-- priority charges, one behind the other
abbrev pub charges_in : List ℕ → List ℕ
charges_in charges = joined (map (little_bytes 2) charges)

-- The first fault of a PDU in its fields. A Soft-Sync request has its Length among them, so what
-- stands behind its lists is a case of its own.
pub data RefusedFields (from : Role) (bytes : List ℕ) (r : DvcRefusal) : Type 0 where
  header_cut : Cut 0 1 bytes r → RefusedFields from bytes r
  unknown : (command own size : ℕ) (rest : List ℕ) → IsUnknown command
      → Headed bytes command own size rest → r ≡ refusal.UnknownCommand 0
      → RefusedFields from bytes r
  id_unknown : (command own : ℕ) (rest : List ℕ) → HasId command → Headed bytes command own 3 rest
      → r ≡ refusal.BadCbId 0 → RefusedFields from bytes r
  length_unknown : (command size : ℕ) (rest : List ℕ) → HasLength command → size < 3
      → Headed bytes command 3 size rest → r ≡ refusal.BadLen 0 → RefusedFields from bytes r
  id_cut : (command own size : ℕ) (rest : List ℕ) → HasId command → (HasLength command → own < 3) → size < 3
      → Headed bytes command own size rest → Cut 1 (2 ^ size) rest r → RefusedFields from bytes r
  length_cut : (command own size : ℕ) (rest : List ℕ) → HasLength command → own < 3
      → Named bytes command own size rest → Cut (1 + 2 ^ size) (2 ^ own) rest r → RefusedFields from bytes r
  too_small : (own size total : ℕ) (rest : List ℕ) → IsSizeOf own total
      → Named bytes 2 own size (id_in own total ++ rest) → total < length rest
      → r ≡ refusal.LengthTooSmall (1 + 2 ^ size) → RefusedFields from bytes r
  name_wrong : (own size : ℕ) (rest : List ℕ) → from ≡ Server → Named bytes 1 own size rest
      → RefusedName (1 + 2 ^ size) rest r → RefusedFields from bytes r
  status_cut : (own size : ℕ) (rest : List ℕ) → from ≡ Client → Named bytes 1 own size rest
      → Cut (1 + 2 ^ size) 4 rest r → RefusedFields from bytes r
  pad_cut : (command own size : ℕ) (rest : List ℕ) → HasPad command → Headed bytes command own size rest
      → Cut 1 1 rest r → RefusedFields from bytes r
  version_cut : (own size pad : ℕ) (rest : List ℕ) → pad < 256
      → Headed bytes 5 own size (pad ∷ rest) → Cut 2 2 rest r → RefusedFields from bytes r
  charge_cut : (own size pad version : ℕ) (before rest : List ℕ) → pad < 256 → version < 2 ^ 16
      → All (λ c. c < 2 ^ 16) before → length before < 4 → 0 < length before + length rest
      → Headed bytes 5 own size (pad ∷ (little_bytes 2 version ++ (charges_in before ++ rest)))
      → Cut (4 + 2 * length before) 2 rest r → RefusedFields from bytes r
  sync_length_cut : (own size pad : ℕ) (rest : List ℕ) → pad < 256
      → Headed bytes 8 own size (pad ∷ rest) → Cut 2 4 rest r → RefusedFields from bytes r
  sync_length_wrong : (own size pad told : ℕ) (rest : List ℕ) → pad < 256 → told < 2 ^ 32
      → Headed bytes 8 own size (pad ∷ (little_bytes 4 told ++ rest)) → told ≢ 4 + length rest
      → r ≡ refusal.SyncLength 2 → RefusedFields from bytes r
  flags_cut : (rest : List ℕ) → Counted bytes rest → Cut 6 2 rest r → RefusedFields from bytes r
  tunnels_cut : (flags : ℕ) (rest : List ℕ) → flags < 2 ^ 16 → Counted bytes (little_bytes 2 flags ++ rest)
      → Cut 8 2 rest r → RefusedFields from bytes r
  list_wrong : (flags tunnels : ℕ) (rest : List ℕ) → Listed bytes flags tunnels rest
      → Among list_bytes IsList RefusedList (list_count flags tunnels) 10 rest r → RefusedFields from bytes r
  lists_trailing : (flags tunnels : ℕ) (lists : List ChannelList) (b : ℕ) (rest : List ℕ)
      → All IsList lists → length lists ≡ list_count flags tunnels
      → Listed bytes flags tunnels (flat_map list_bytes lists ++ (b ∷ rest))
      → r ≡ refusal.Trailing (10 + length (flat_map list_bytes lists)) → RefusedFields from bytes r
  types_count_cut : (own size pad : ℕ) (rest : List ℕ) → pad < 256
      → Headed bytes 9 own size (pad ∷ rest) → Cut 2 4 rest r → RefusedFields from bytes r
  type_wrong : (own size pad count : ℕ) (rest : List ℕ) → pad < 256 → count < 2 ^ 32
      → Headed bytes 9 own size (pad ∷ (little_bytes 4 count ++ rest))
      → Among type_field (λ k. Unit {0}) RefusedType count 6 rest r → RefusedFields from bytes r
  trailing : (pdu : Pdu) (text rest : List ℕ) (b : ℕ) → Spells from text pdu → IsClosed pdu
      → bytes ≡ text ++ (b ∷ rest) → r ≡ refusal.Trailing (length text)
      → RefusedFields from bytes r

-- why these bytes are no channel PDU of this end: too many, or the first fault in their fields
pub data Refused (from : Role) (bytes : List ℕ) (r : DvcRefusal) : Type 0 where
  too_long : 1600 < length bytes → r ≡ refusal.TooLong 1600 → Refused from bytes r
  in_fields : length bytes ≤ 1600 → RefusedFields from bytes r → Refused from bytes r
