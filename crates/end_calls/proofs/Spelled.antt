-- What a writer spells for a channel PDU is bytes.
use Rattle.std.proofs.Common.{ℕ, zero, suc, ◌+◌, ◌*◌, ◌^◌, ◌<◌, Bool, true, false, cond, nat_lt, List, [], ◌∷◌, map, length, Option, Some, None, arith}
use Rattle.std.specs.Int.{byte_at, bytes_low_first}
use Rattle.std.specs.List.{All}
use Rattle.std.proofs.lemmas.List.Elements.{All-append, All-cons, All-nil, All-head, All-tail}
use Rattle.mt_base.specs.Writing.{joined}
use Rattle.mt_base.specs.declared.kinds.Kind.{Kind}
use Rattle.mt_base.specs.declared.kinds.Role.{Role}
use Rattle.mt_base.specs.declared.kinds.Role.TheVariants.{Server, Client}
use Rattle.mt_base.proofs.Numbers.{IsBytes, zero_bytes}
use Rattle.dvc_pdus.specs.Value.{ChannelList, Pdu, Caps, CreateRequest, CreateResponse, DataFirst, Data, CompressedFirst, Compressed, Close, SyncRequest, SyncResponse, size_code, smallest, header, charge_fields, tunnel_type, type_fields, list_fields, lists_fields, sync_length, fields, spelled, IsNameByte, Fits}
use Rattle.tunnel_pdus.specs.Value.{Frame, Request, Response, Channel, protocol_code, frame_fields, pdu_fields, FitsFrame, FitsPdu}
use Rattle.tunnel_pdus.specs.Value as tunnel
use Rattle.end_calls.proofs.Each.{Each, each-append}

abbrev IsByte : ℕ → Type 0
IsByte b = b < 256

-- the lowest so many bytes of a number, the lowest first
abbrev low : ℕ → ℕ → List ℕ
low k n = bytes_low_first 0 k n

byte_small : (i n : ℕ) → byte_at i n < 256
byte_small zero n = omega arith
byte_small (suc i) n = omega arith

low_bytes : (i k n : ℕ) → IsBytes (bytes_low_first i k n)
low_bytes i zero n = All-nil IsByte
low_bytes i (suc k) n = All-cons IsByte (byte_at i n) (bytes_low_first (suc i) k n) (byte_small i n) (low_bytes (suc i) k n)

little_are : (k n : ℕ) → IsBytes (low k n)
little_are k n = low_bytes 0 k n

one_byte : (b : ℕ) → b < 256 → IsBytes (b ∷ [])
one_byte b h = All-cons IsByte b [] h (All-nil IsByte)

either : (b : Bool) (xs ys : List ℕ) → IsBytes xs → IsBytes ys → IsBytes (cond b xs ys)
either true xs ys h k = h
either false xs ys h k = k

smallest_are : (id : ℕ) → IsBytes (smallest id)
smallest_are id = either (nat_lt id (2 ^ 8)) _ _ (little_are 1 id) (either (nat_lt id (2 ^ 16)) _ _ (little_are 2 id) (little_are 4 id))

code_small : (id : ℕ) → size_code id < 3
code_small id = by_first (nat_lt id (2 ^ 8)) (nat_lt id (2 ^ 16)) where
  by_first : (b c : Bool) → cond b 0 (cond c 1 2) < 3
  by_first true c = omega arith
  by_first false true = omega arith
  by_first false false = omega arith

header_is : (command own id : ℕ) → command < 16 → own < 4 → IsBytes (header command own id)
header_is command own id h k = one_byte (command * 16 + own * 4 + size_code id) (omega (arith, h, k, code_small id))

all_joined : (fs : List (List ℕ)) → Each IsBytes fs → IsBytes (joined fs)
all_joined [] h = All-nil IsByte
all_joined (f ∷ fs) h = All-append IsByte f (joined fs) h.0 (all_joined fs h.1)

littles : (k : ℕ) (ns : List ℕ) → Each IsBytes (map (low k) ns)
littles k [] = tt
littles k (n ∷ ns) = (little_are k n, littles k ns)

type_all : (types : List Kind) → Each IsBytes (type_fields types)
type_all [] = tt
type_all (kind ∷ types) = (little_are 4 (tunnel_type kind), type_all types)

lists_all : (lists : List ChannelList) → Each IsBytes (lists_fields lists)
lists_all [] = tt
lists_all (l ∷ lists) =
    each-append IsBytes (list_fields l) (lists_fields lists) (little_are 4 (tunnel_type l.kind), (little_are 2 (length l.ids), littles 4 l.ids)) (lists_all lists)

charges_all : (charges : Option (List ℕ)) → Each IsBytes (charge_fields charges)
charges_all None = tt
charges_all (Some charges) = littles 2 charges

name_bytes : (name : List ℕ) → All IsNameByte name → IsBytes name
name_bytes [] h = All-nil IsByte
name_bytes (b ∷ name) h = let first : IsNameByte b = All-head IsNameByte b name h in All-cons IsByte b name (omega (arith, first.1)) (name_bytes name (All-tail IsNameByte b name h))

fields_are : (from : Role) (pdu : Pdu) → Fits from pdu → Each IsBytes (fields pdu)
fields_are from (Caps version charges) fits = (one_byte 80 (omega arith), (one_byte 0 (omega arith), (little_are 2 version, charges_all charges)))
fields_are Server (CreateRequest id priority name) fits = (header_is 1 priority id (omega arith) fits.1, (smallest_are id, (name_bytes name fits.2.2, (one_byte 0 (omega arith), tt))))
fields_are Client (CreateRequest id priority name) fits = absurd fits
fields_are Server (CreateResponse id status) fits = absurd fits
fields_are Client (CreateResponse id status) fits = (header_is 1 0 id (omega arith) (omega arith), (smallest_are id, (little_are 4 status, tt)))
fields_are from (DataFirst id total bytes) fits = (header_is 2 (size_code total) id (omega arith) (omega (arith, code_small total)), (smallest_are id, (smallest_are total, (fits.2, tt))))
fields_are from (Data id bytes) fits = (header_is 3 0 id (omega arith) (omega arith), (smallest_are id, (fits.1, tt)))
fields_are from (CompressedFirst id total bytes) fits = (header_is 6 (size_code total) id (omega arith) (omega (arith, code_small total)), (smallest_are id, (smallest_are total, (fits.2, tt))))
fields_are from (Compressed id bytes) fits = (header_is 7 0 id (omega arith) (omega arith), (smallest_are id, (fits.1, tt)))
fields_are from (Close id) fits = (header_is 4 0 id (omega arith) (omega arith), (smallest_are id, tt))
fields_are from (SyncRequest flags tunnels lists) fits =
    (one_byte 128 (omega arith), (one_byte 0 (omega arith), (little_are 4 (sync_length lists), (little_are 2 flags, (little_are 2 tunnels, lists_all lists)))))
fields_are from (SyncResponse types) fits = (one_byte 144 (omega arith), (one_byte 0 (omega arith), (little_are 4 (length types), type_all types)))

pub spelled_bytes : (from : Role) (pdu : Pdu) → Fits from pdu → IsBytes (spelled pdu)
spelled_bytes from pdu fits = all_joined (fields pdu) (fields_are from pdu fits)

-- and at least one
pub spelled_some : (pdu : Pdu) → 0 < length (spelled pdu)
spelled_some (Caps version charges) = omega arith
spelled_some (CreateRequest id priority name) = omega arith
spelled_some (CreateResponse id status) = omega arith
spelled_some (DataFirst id total bytes) = omega arith
spelled_some (Data id bytes) = omega arith
spelled_some (CompressedFirst id total bytes) = omega arith
spelled_some (Compressed id bytes) = omega arith
spelled_some (Close id) = omega arith
spelled_some (SyncRequest flags tunnels lists) = omega arith
spelled_some (SyncResponse types) = omega arith

-- ---- frames and tunnel PDUs

frame_fields_are : (f : Frame) → FitsFrame f → Each IsBytes (frame_fields f)
frame_fields_are (Request id kind cookie) fits =
    (one_byte 1 (omega arith), (little_are 2 24, (little_are 4 id, (little_are 2 (protocol_code kind), (zero_bytes 2, (fits.1.1, tt))))))
frame_fields_are (Response id hr) fits = (one_byte 2 (omega arith), (little_are 2 8, (little_are 4 id, (little_are 4 hr, tt))))
frame_fields_are (Channel bytes) fits = (one_byte 3 (omega arith), (little_are 2 (length bytes), (fits.2, tt)))

pub frame_bytes : (f : Frame) → FitsFrame f → IsBytes (joined (frame_fields f))
frame_bytes f fits = all_joined (frame_fields f) (frame_fields_are f fits)

pdu_fields_are : (pdu : tunnel.Pdu) → FitsPdu pdu → Each IsBytes (pdu_fields pdu)
pdu_fields_are (tunnel.CreateRequest id cookie) fits =
    (one_byte 0 (omega arith), (little_are 2 24, (one_byte 4 (omega arith), (little_are 4 id, (zero_bytes 4, (fits.1.1, tt))))))
pdu_fields_are (tunnel.CreateResponse hr) fits = (one_byte 1 (omega arith), (little_are 2 4, (one_byte 4 (omega arith), (little_are 4 hr, tt))))
pdu_fields_are (tunnel.Data bytes) fits = (one_byte 2 (omega arith), (little_are 2 (length bytes), (one_byte 4 (omega arith), (fits.1, tt))))

pub pdu_bytes : (pdu : tunnel.Pdu) → FitsPdu pdu → IsBytes (joined (pdu_fields pdu))
pdu_bytes pdu fits = all_joined (pdu_fields pdu) (pdu_fields_are pdu fits)
