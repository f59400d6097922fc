-- What bytes are as a channel PDU of the end that wrote them: the PDU, or the first fault in the
-- order of the fields (MS-RDPEDYC section 2.2).
use Rattle.std.specs.Prelude.{◌≡◌, ℕ, zero, suc, ◌+◌, ◌/◌, ◌%◌, Bool, ◌&&◌, not, eqb, List, [], ◌∷◌, length, take, slice_index, nat_lt, if◌then◌else◌, Option, Some, None, Result, Ok, Err}
use Rattle.std.specs.List.{position_from}
use Rattle.mt_base.specs.declared.errors.Short.{Short}
use Rattle.mt_base.specs.declared.kinds.Role.{Role}
use Rattle.mt_base.specs.declared.kinds.Role.TheVariants.{Server, Client}
use Rattle.mt_base.specs.declared.kinds.Kind.{Kind}
use Rattle.mt_base.specs.declared.kinds.Kind.TheVariants.{Reliable, Lossy}
use Rattle.mt_base.specs.Reading.{Left, past, big, little}
use Rattle.dvc_pdus.specs.declared.command.Command.{Command}
use Rattle.dvc_pdus.specs.declared.command.Command.TheVariants as command
use Rattle.dvc_pdus.specs.declared.pdu.DvcRefusal.{DvcRefusal}
use Rattle.dvc_pdus.specs.declared.pdu.DvcRefusal.TheVariants as refusal
use Rattle.dvc_pdus.specs.Value.{Pdu, Caps, CreateRequest, CreateResponse, DataFirst, Data, CompressedFirst, Compressed, Close, SyncRequest, SyncResponse, ChannelList, list_count}

infixl 10 ◌>>=◌
-- the next part, where the one before it was read
abbrev pub ◌>>=◌ : {A B : Type 0} → Result A DvcRefusal → (A → Result B DvcRefusal) → Result B DvcRefusal
(Ok x) >>= next = next x
(Err e) >>= next = Err e

-- a field that is cut short is a refusal
abbrev pub cut : {A : Type 0} → Result (A × Left) Short → Result (A × Left) DvcRefusal
cut (Ok x) = Ok x
cut (Err e) = Err (refusal.Short e)

-- the command that a code names
abbrev pub command_of : ℕ → Option Command
command_of code =
    if eqb code 1 then Some command.Create
    else if eqb code 2 then Some command.DataFirst
    else if eqb code 3 then Some command.Data
    else if eqb code 4 then Some command.Close
    else if eqb code 5 then Some command.Capabilities
    else if eqb code 6 then Some command.CompressedFirst
    else if eqb code 7 then Some command.Compressed
    else if eqb code 8 then Some command.SyncRequest
    else if eqb code 9 then Some command.SyncResponse
    else None

-- a channel id, in the size that the header byte tells
unfoldable pub id_at : ℕ → Left → Result (ℕ × Left) DvcRefusal
id_at size s =
    if eqb size 0 then cut (little 1 s)
    else if eqb size 1 then cut (little 2 s)
    else if eqb size 2 then cut (little 4 s)
    else Err (refusal.BadCbId 0)

-- An id that a message's length stands behind. A length of no size is told before the id is read.
unfoldable pub leading_id_at : ℕ → ℕ → Left → Result (ℕ × Left) DvcRefusal
leading_id_at wide size s =
    if nat_lt size 3 && eqb wide 3 then Err (refusal.BadLen 0) else id_at size s

-- the length of a message, in the size that the header byte tells
unfoldable pub length_at : ℕ → Left → Result (ℕ × Left) DvcRefusal
length_at wide s =
    if eqb wide 0 then cut (little 1 s)
    else if eqb wide 1 then cut (little 2 s)
    else if eqb wide 2 then cut (little 4 s)
    else Err (refusal.BadLen 0)

-- nothing stands after the last field
unfoldable pub ended : Pdu → Left → Result Pdu DvcRefusal
ended pdu s = if nat_lt 0 (length s.bytes) then Err (refusal.Trailing s.at) else Ok pdu

-- a byte that a name may have
abbrev pub is_name_byte : ℕ → Bool
is_name_byte b = not (nat_lt b 0x20) && not (nat_lt 0x7E b)

-- A name and the zero byte behind it, by the place of the first byte that is none of the name: a
-- zero byte ends a name that isn't empty, and each other byte is wrong. A name has at most 255
-- bytes, so its end is one of the first 256 bytes.
unfoldable pub name_to : Option ℕ → Left → Result (List ℕ × Left) DvcRefusal
name_to (Some end) s =
    if nat_lt 0 end && eqb (slice_index s.bytes end) 0
    then Ok (take end s.bytes, past (end + 1) s)
    else Err (refusal.BadName (s.at + end))
name_to None s =
    if nat_lt (length s.bytes) 256 then Err (refusal.NameNotEnded (s.at + length s.bytes))
    else Err (refusal.BadName (s.at + 255))

unfoldable pub name_at : Left → Result (List ℕ × Left) DvcRefusal
name_at s = name_to (position_from (λ b. not (is_name_byte b)) 0 (take 256 s.bytes)) s

-- nothing, or the four priority charges of two bytes each
unfoldable pub charges_at : Left → Result (Option (List ℕ) × Left) DvcRefusal
charges_at s = if eqb (length s.bytes) 0 then Ok (None, s) else do
  first ← cut (little 2 s)
  second ← cut (little 2 first.1)
  third ← cut (little 2 second.1)
  fourth ← cut (little 2 third.1)
  Ok (Some (first.0 ∷ second.0 ∷ third.0 ∷ fourth.0 ∷ []), fourth.1)

-- so many items, one behind the other
unfoldable pub items_at : {A : Type 0} → (Left → Result (A × Left) DvcRefusal) → ℕ → Left → Result (List A × Left) DvcRefusal
items_at read zero s = Ok ([], s)
items_at read (suc n) s = do
  first ← read s
  others ← items_at read n first.1
  Ok (first.0 ∷ others.0, others.1)

-- the items that an iterator over so many of them has left; none, where they are cut short
abbrev pub items_in : {A : Type 0} → (Left → Result (A × Left) DvcRefusal) → ℕ → List ℕ → List A
items_in read zero bytes = []
items_in read (suc n) bytes = elim (read (record { at = 0; bytes = bytes })) [
  | Ok first ↦ first.0 ∷ items_in read n (first.1).bytes
  | Err e ↦ []
]

-- a channel id of a list
unfoldable pub number_at : Left → Result (ℕ × Left) DvcRefusal
number_at s = cut (little 4 s)

-- the kind of a tunnel, by the code of its type
abbrev pub kind_of : ℕ → Option Kind
kind_of code = if eqb code 1 then Some Reliable else if eqb code 3 then Some Lossy else None

-- the kind, or the code at this place has none
abbrev pub known_kind : ℕ → Left → Option Kind → Result (Kind × Left) DvcRefusal
known_kind at s (Some kind) = Ok (kind, s)
known_kind at s None = Err (refusal.BadTunnelType at)

unfoldable pub kind_at : Left → Result (Kind × Left) DvcRefusal
kind_at s = do
  code ← cut (little 4 s)
  known_kind s.at code.1 (kind_of code.0)

-- a list of channels: its tunnel's type, how many ids, and the ids
unfoldable pub list_at : Left → Result (ChannelList × Left) DvcRefusal
list_at s = do
  kind ← kind_at s
  count ← cut (little 2 kind.1)
  ids ← items_at number_at count.0 count.1
  Ok (record { kind = kind.0; ids = ids.0 }, ids.1)

-- the Length of a Soft-Sync request, which counts its own four bytes and all that follows
unfoldable pub sync_length_at : Left → Result (ℕ × Left) DvcRefusal
sync_length_at s = do
  told ← cut (little 4 s)
  if eqb told.0 (4 + length (told.1).bytes) then Ok told else Err (refusal.SyncLength s.at)

-- The bodies: what follows the header byte. `own` are the header's two bits of the command's own,
-- `size` tells the size of the id.
unfoldable pub capabilities_at : Left → Result Pdu DvcRefusal
capabilities_at s = do
  pad ← cut (big 1 s)
  version ← cut (little 2 pad.1)
  charges ← charges_at version.1
  ended (Caps version.0 charges.0) charges.1

unfoldable pub create_request_at : ℕ → ℕ → Left → Result Pdu DvcRefusal
create_request_at own size s = do
  id ← id_at size s
  name ← name_at id.1
  ended (CreateRequest id.0 own name.0) name.1

unfoldable pub create_response_at : ℕ → Left → Result Pdu DvcRefusal
create_response_at size s = do
  id ← id_at size s
  status ← cut (little 4 id.1)
  ended (CreateResponse id.0 status.0) status.1

-- no more bytes than the message has
unfoldable pub within : ℕ → ℕ → ℕ → List ℕ → Result Pdu DvcRefusal
within at id total bytes =
    if nat_lt total (length bytes) then Err (refusal.LengthTooSmall at)
    else Ok (DataFirst id total bytes)

unfoldable pub data_first_at : ℕ → ℕ → Left → Result Pdu DvcRefusal
data_first_at own size s = do
  id ← leading_id_at own size s
  total ← length_at own id.1
  within (id.1).at id.0 total.0 (total.1).bytes

unfoldable pub data_at : ℕ → Left → Result Pdu DvcRefusal
data_at size s = do
  id ← id_at size s
  Ok (Data id.0 (id.1).bytes)

unfoldable pub compressed_first_at : ℕ → ℕ → Left → Result Pdu DvcRefusal
compressed_first_at own size s = do
  id ← leading_id_at own size s
  total ← length_at own id.1
  Ok (CompressedFirst id.0 total.0 (total.1).bytes)

unfoldable pub compressed_at : ℕ → Left → Result Pdu DvcRefusal
compressed_at size s = do
  id ← id_at size s
  Ok (Compressed id.0 (id.1).bytes)

unfoldable pub close_at : ℕ → Left → Result Pdu DvcRefusal
close_at size s = do
  id ← id_at size s
  ended (Close id.0) id.1

unfoldable pub sync_request_at : Left → Result Pdu DvcRefusal
sync_request_at s = do
  pad ← cut (big 1 s)
  told ← sync_length_at pad.1
  flags ← cut (little 2 told.1)
  tunnels ← cut (little 2 flags.1)
  lists ← items_at list_at (list_count flags.0 tunnels.0) tunnels.1
  ended (SyncRequest flags.0 tunnels.0 lists.0) lists.1

unfoldable pub sync_response_at : Left → Result Pdu DvcRefusal
sync_response_at s = do
  pad ← cut (big 1 s)
  count ← cut (little 4 pad.1)
  types ← items_at kind_at count.0 count.1
  ended (SyncResponse types.0) types.1

-- the body that a command has when this end wrote it
unfoldable pub body_at : Role → Option Command → ℕ → ℕ → Left → Result Pdu DvcRefusal
body_at from None own size s = Err (refusal.UnknownCommand 0)
body_at Server (Some command.Create) own size s = create_request_at own size s
body_at Client (Some command.Create) own size s = create_response_at size s
body_at from (Some command.DataFirst) own size s = data_first_at own size s
body_at from (Some command.Data) own size s = data_at size s
body_at from (Some command.Close) own size s = close_at size s
body_at from (Some command.Capabilities) own size s = capabilities_at s
body_at from (Some command.CompressedFirst) own size s = compressed_first_at own size s
body_at from (Some command.Compressed) own size s = compressed_at size s
body_at from (Some command.SyncRequest) own size s = sync_request_at s
body_at from (Some command.SyncResponse) own size s = sync_response_at s

-- the header byte and the body
unfoldable pub pdu_at : Role → Left → Result Pdu DvcRefusal
pdu_at from s = do
  first ← cut (big 1 s)
  body_at from (command_of (first.0 / 16)) (first.0 / 4 % 4) (first.0 % 4) first.1

-- what bytes are; more than 1,600 of them are refused before anything is looked at
unfoldable pub reading : Role → List ℕ → Result Pdu DvcRefusal
reading from bytes =
    if nat_lt 1600 (length bytes) then Err (refusal.TooLong 1600)
    else pdu_at from (record { at = 0; bytes = bytes })

-- What a reader of a part returned, seen by `view`, and what it left are what reading gives. After
-- a refusal nothing is said of the cursor.
abbrev pub Reads : {X Y : Type 0} → (X → Y) → Left → Result X DvcRefusal → Result (Y × Left) DvcRefusal → Type 0
Reads view new (Ok x) read = read ≡ Ok (view x, new)
Reads view new (Err e) read = read ≡ Err e

-- what a reader returned, seen by `view`, is what reading gives
abbrev pub Answers : {X Y : Type 0} → (X → Y) → Result X DvcRefusal → Result Y DvcRefusal → Type 0
Answers view (Ok x) read = read ≡ Ok (view x)
Answers view (Err e) read = read ≡ Err e
