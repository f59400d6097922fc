-- What is spelled is read.
use Rattle.std.proofs.Common.{◌≡◌, ℕ, ◌+◌, ◌*◌, ◌<◌, List, [], ◌∷◌, ◌++◌, length, map, Some, None, Ok, refl, sym, ap, ◌∙◌, subst, arith, append_assoc, append-nil}
use Rattle.std.specs.List.{All, flat_map}
use Rattle.std.proofs.lemmas.List.{length-append}
use Rattle.std.proofs.lemmas.List.Elements.{All-cons, All-nil}
use Rattle.byteorder.specs.Endian.{little_bytes}
use Rattle.mt_base.specs.Writing.{joined}
use Rattle.mt_base.specs.declared.kinds.Role.{Role}
use Rattle.mt_base.specs.declared.kinds.Role.TheVariants.{Server, Client}
use Rattle.mt_base.specs.declared.kinds.Kind.{Kind}
use Rattle.mt_base.proofs.FrontFields.{left_at}
use Rattle.dvc_pdus.specs.Value.{Pdu, Caps, CreateRequest, CreateResponse, DataFirst, Data, CompressedFirst, Compressed, Close, SyncRequest, SyncResponse, ChannelList, type_field, list_count, sync_length}
use Rattle.dvc_pdus.specs.Reading.{◌>>=◌, ended, items_at, list_at, pdu_at}
use Rattle.dvc_pdus.specs.Layout.{first_byte, id_in, Spells}
use Rattle.dvc_pdus.specs.Faults.{IsClosed, Listed, list_bytes}
use Rattle.dvc_pdus.proofs.Items.{items_read}
use Rattle.dvc_pdus.proofs.SyncItems.{kind_item, list_item, joined_map, joined_lists}
use Rattle.dvc_pdus.proofs.Parts.{ended_none}
use Rattle.dvc_pdus.proofs.Bodies.{data_reads, compressed_reads, close_reads, data_first_reads, compressed_first_reads, within_fits, request_reads, response_reads, capabilities_bare, capabilities_read}
use Rattle.dvc_pdus.proofs.SyncBodies.{lists_on, request_lists, response_types}
use Rattle.dvc_pdus.proofs.Headers.{headed_reads, request_body, response_body, data_first_body, data_body, close_body, capabilities_body, compressed_first_body, compressed_body, sync_request_body, sync_response_body}

small_size : (size : ℕ) → size < 3 → size < 4
small_size size h = omega arith

pub charges_length : (charges : List ℕ) → length (joined (map (little_bytes 2) charges)) ≡ 2 * length charges
charges_length [] = refl
charges_length (c ∷ charges) = let e = charges_length charges in omega (arith, e)

-- each kind of tunnel has a type
each_kind : (types : List Kind) → All (λ k. Unit {0}) types
each_kind [] = All-nil (λ k. Unit {0})
each_kind (kind ∷ types) = All-cons (λ k. Unit {0}) kind types tt (each_kind types)

-- a PDU that ends is read up to its end
pub closed_reads : (from : Role) (text : List ℕ) (pdu : Pdu) → Spells from text pdu → IsClosed pdu → (rest : List ℕ) → pdu_at from (left_at 0 (text ++ rest)) ≡ ended pdu (left_at (length text) rest)
closed_reads from text (Caps version None) s closed rest = absurd closed
closed_reads from text (Caps version (Some charges)) s closed rest =
    let c = s.choice in
    let body = joined (map (little_bytes 2) charges) in
    let whole : text ++ rest ≡ first_byte 5 c.unnamed c.size ++ (c.pad ∷ (little_bytes 2 version ++ (body ++ rest))) = ap (λ t. t ++ rest) s.bytes_are in
    let place : 12 ≡ length text = omega (arith, ap length s.bytes_are, charges_length charges, s.fits.1) in
    headed_reads from (text ++ rest) 5 c.unnamed c.size (c.pad ∷ (little_bytes 2 version ++ (body ++ rest))) (omega arith) (s.allowed.0, s.allowed.1, whole)
    ∙ capabilities_body from c.unnamed c.size (left_at 1 (c.pad ∷ (little_bytes 2 version ++ (body ++ rest))))
    ∙ capabilities_read c.pad version charges s.allowed.2 s.fits.0 s.fits.1 s.fits.2 rest ∙ ap (λ n. ended (Caps version (Some charges)) (left_at n rest)) place
closed_reads Server text (CreateRequest id priority name) s closed rest =
    let c = s.choice in
    let front = id_in c.size id in
    let whole : text ++ rest ≡ first_byte 1 priority c.size ++ (front ++ ((name ++ (0 ∷ [])) ++ rest)) = ap (λ t. t ++ rest) s.bytes_are ∙ simp append_assoc in
    let place : 1 + length front + length (name ++ (0 ∷ [])) ≡ length text = omega (arith, ap length s.bytes_are, length-append front (name ++ (0 ∷ []))) in
    headed_reads Server (text ++ rest) 1 priority c.size (front ++ ((name ++ (0 ∷ [])) ++ rest)) (omega arith) (s.fits.1, small_size c.size s.allowed.0, whole)
    ∙ request_body priority c.size (left_at 1 (front ++ ((name ++ (0 ∷ [])) ++ rest)))
    ∙ request_reads priority c.size id name s.allowed s.fits.2 1 rest ∙ ap (λ n. ended (CreateRequest id priority name) (left_at n rest)) place
closed_reads Client text (CreateRequest id priority name) s closed rest = absurd s.fits
closed_reads Server text (CreateResponse id status) s closed rest = absurd s.fits
closed_reads Client text (CreateResponse id status) s closed rest =
    let c = s.choice in
    let front = id_in c.size id in
    let whole : text ++ rest ≡ first_byte 1 c.unnamed c.size ++ (front ++ (little_bytes 4 status ++ rest)) = ap (λ t. t ++ rest) s.bytes_are ∙ simp append_assoc in
    let place : 1 + length front + length (little_bytes 4 status) ≡ length text = omega (arith, ap length s.bytes_are, length-append front (little_bytes 4 status)) in
    headed_reads Client (text ++ rest) 1 c.unnamed c.size (front ++ (little_bytes 4 status ++ rest)) (omega arith) (s.allowed.0, small_size c.size s.allowed.1.0, whole)
    ∙ response_body c.unnamed c.size (left_at 1 (front ++ (little_bytes 4 status ++ rest)))
    ∙ response_reads c.size id status s.allowed.1 s.fits.1 1 rest ∙ ap (λ n. ended (CreateResponse id status) (left_at n rest)) place
closed_reads from text (DataFirst id total bytes) s closed rest = absurd closed
closed_reads from text (Data id bytes) s closed rest = absurd closed
closed_reads from text (CompressedFirst id total bytes) s closed rest = absurd closed
closed_reads from text (Compressed id bytes) s closed rest = absurd closed
closed_reads from text (Close id) s closed rest =
    let c = s.choice in
    let front = id_in c.size id in
    let whole : text ++ rest ≡ first_byte 4 c.unnamed c.size ++ (front ++ rest) = ap (λ t. t ++ rest) (s.bytes_are ∙ ap (λ t. first_byte 4 c.unnamed c.size ++ t) (append-nil front)) in
    let place : 1 + length front ≡ length text = omega (arith, ap length s.bytes_are, ap length (append-nil front)) in
    headed_reads from (text ++ rest) 4 c.unnamed c.size (front ++ rest) (omega arith) (s.allowed.0, small_size c.size s.allowed.1.0, whole)
    ∙ close_body from c.unnamed c.size (left_at 1 (front ++ rest)) ∙ close_reads c.size id s.allowed.1 1 rest ∙ ap (λ n. ended (Close id) (left_at n rest)) place
closed_reads from text (SyncRequest flags tunnels lists) s closed rest = absurd closed
closed_reads from text (SyncResponse types) s closed rest =
    let c = s.choice in
    let all = flat_map type_field types in
    let is : text ≡ first_byte 9 c.unnamed c.size ++ (c.pad ∷ (little_bytes 4 (length types) ++ all)) = s.bytes_are ∙ ap (λ t. first_byte 9 c.unnamed c.size ++ (c.pad ∷ (little_bytes 4 (length types) ++ t))) (joined_map type_field types) in
    let place : 6 + length all ≡ length text = omega (arith, ap length is) in
    headed_reads from (text ++ rest) 9 c.unnamed c.size (c.pad ∷ (little_bytes 4 (length types) ++ (all ++ rest))) (omega arith) (s.allowed.0, s.allowed.1, ap (λ t. t ++ rest) is)
    ∙ sync_response_body from c.unnamed c.size (left_at 1 (c.pad ∷ (little_bytes 4 (length types) ++ (all ++ rest))))
    ∙ response_types c.pad (length types) (all ++ rest) s.allowed.2 s.fits
    ∙ ap (λ r. r >>= λ types. ended (SyncResponse types.0) types.1) (items_read kind_item types (each_kind types) 6 rest)
    ∙ ap (λ n. ended (SyncResponse types) (left_at n rest)) place

closed_is_read : (from : Role) (text : List ℕ) (pdu : Pdu) → Spells from text pdu → IsClosed pdu → pdu_at from (left_at 0 text) ≡ Ok pdu
closed_is_read from text pdu s closed =
    ap (λ t. pdu_at from (left_at 0 t)) (sym (append-nil text)) ∙ closed_reads from text pdu s closed [] ∙ ended_none pdu (length text)

-- a Soft-Sync request is read up to its lists
pub listed_reads : (from : Role) (bytes : List ℕ) (flags tunnels : ℕ) (rest : List ℕ) → Listed bytes flags tunnels rest → pdu_at from (left_at 0 bytes) ≡ lists_on flags tunnels (left_at 10 rest)
listed_reads from bytes flags tunnels rest (f, t, c) =
    let behind = little_bytes 2 flags ++ (little_bytes 2 tunnels ++ rest) in
    headed_reads from bytes 8 c.own c.size (c.pad ∷ (little_bytes 4 (4 + length behind) ++ behind)) (omega arith) c.bytes_are
    ∙ sync_request_body from c.own c.size (left_at 1 (c.pad ∷ (little_bytes 4 (4 + length behind) ++ behind)))
    ∙ request_lists c.pad flags tunnels rest c.pad_fits f t c.fits

-- its Length counts itself and all that follows
spelled_listed : (from : Role) (bytes : List ℕ) (flags tunnels : ℕ) (lists : List ChannelList) → Spells from bytes (SyncRequest flags tunnels lists) → Listed bytes flags tunnels (flat_map list_bytes lists)
spelled_listed from bytes flags tunnels lists s =
    let c = s.choice in
    let all = flat_map list_bytes lists in
    let behind = little_bytes 2 flags ++ (little_bytes 2 tunnels ++ all) in
    let long : sync_length lists ≡ 4 + length behind = omega (arith, ap length (joined_lists lists)) in
    let whole : bytes ≡ first_byte 8 c.unnamed c.size ++ (c.pad ∷ (little_bytes 4 (4 + length behind) ++ behind)) =
    s.bytes_are ∙ ap (λ t. first_byte 8 c.unnamed c.size ++ (c.pad ∷ (little_bytes 4 (sync_length lists) ++ (little_bytes 2 flags ++ (little_bytes 2 tunnels ++ t))))) (joined_lists lists)
    ∙ ap (λ n. first_byte 8 c.unnamed c.size ++ (c.pad ∷ (little_bytes 4 n ++ behind))) long in
    let fits = s.fits.4 in (
      s.fits.0,
      s.fits.1,
      record { own = c.unnamed; size = c.size; pad = c.pad; pad_fits = s.allowed.2; fits = omega (arith, long, fits); bytes_are = (s.allowed.0, s.allowed.1, whole) },
    )

-- what is spelled is read, at any length
pub spelled_reads : (from : Role) (bytes : List ℕ) (pdu : Pdu) → Spells from bytes pdu → pdu_at from (left_at 0 bytes) ≡ Ok pdu
spelled_reads from bytes (Caps version None) s =
    let c = s.choice in
    headed_reads from bytes 5 c.unnamed c.size (c.pad ∷ (little_bytes 2 version ++ [])) (omega arith) (s.allowed.0, s.allowed.1, s.bytes_are)
    ∙ capabilities_body from c.unnamed c.size (left_at 1 (c.pad ∷ (little_bytes 2 version ++ []))) ∙ capabilities_bare c.pad version s.allowed.2 s.fits
spelled_reads from bytes (Caps version (Some charges)) s = closed_is_read from bytes (Caps version (Some charges)) s tt
spelled_reads from bytes (CreateRequest id priority name) s = closed_is_read from bytes (CreateRequest id priority name) s tt
spelled_reads from bytes (CreateResponse id status) s = closed_is_read from bytes (CreateResponse id status) s tt
spelled_reads from bytes (DataFirst id total content) s =
    let c = s.choice in
    let behind = id_in c.size id ++ (id_in c.wide total ++ content) in
    let whole : bytes ≡ first_byte 2 c.wide c.size ++ behind = s.bytes_are ∙ ap (λ t. first_byte 2 c.wide c.size ++ (id_in c.size id ++ (id_in c.wide total ++ t))) (append-nil content) in
    headed_reads from bytes 2 c.wide c.size behind (omega arith) (small_size c.wide s.allowed.1.0, small_size c.size s.allowed.0.0, whole)
    ∙ data_first_body from c.wide c.size (left_at 1 behind) ∙ data_first_reads c.wide c.size id total s.allowed.0 s.allowed.1 1 content
    ∙ within_fits (1 + length (id_in c.size id)) id total content s.fits.3
spelled_reads from bytes (Data id content) s =
    let c = s.choice in
    let whole : bytes ≡ first_byte 3 c.unnamed c.size ++ (id_in c.size id ++ content) =
    s.bytes_are ∙ ap (λ t. first_byte 3 c.unnamed c.size ++ (id_in c.size id ++ t)) (append-nil content) in
    headed_reads from bytes 3 c.unnamed c.size (id_in c.size id ++ content) (omega arith) (s.allowed.0, small_size c.size s.allowed.1.0, whole)
    ∙ data_body from c.unnamed c.size (left_at 1 (id_in c.size id ++ content)) ∙ data_reads c.size id s.allowed.1 1 content
spelled_reads from bytes (CompressedFirst id total content) s =
    let c = s.choice in
    let behind = id_in c.size id ++ (id_in c.wide total ++ content) in
    let whole : bytes ≡ first_byte 6 c.wide c.size ++ behind = s.bytes_are ∙ ap (λ t. first_byte 6 c.wide c.size ++ (id_in c.size id ++ (id_in c.wide total ++ t))) (append-nil content) in
    headed_reads from bytes 6 c.wide c.size behind (omega arith) (small_size c.wide s.allowed.1.0, small_size c.size s.allowed.0.0, whole)
    ∙ compressed_first_body from c.wide c.size (left_at 1 behind) ∙ compressed_first_reads c.wide c.size id total s.allowed.0 s.allowed.1 1 content
spelled_reads from bytes (Compressed id content) s =
    let c = s.choice in
    let whole : bytes ≡ first_byte 7 c.unnamed c.size ++ (id_in c.size id ++ content) =
    s.bytes_are ∙ ap (λ t. first_byte 7 c.unnamed c.size ++ (id_in c.size id ++ t)) (append-nil content) in
    headed_reads from bytes 7 c.unnamed c.size (id_in c.size id ++ content) (omega arith) (s.allowed.0, small_size c.size s.allowed.1.0, whole)
    ∙ compressed_body from c.unnamed c.size (left_at 1 (id_in c.size id ++ content)) ∙ compressed_reads c.size id s.allowed.1 1 content
spelled_reads from bytes (Close id) s = closed_is_read from bytes (Close id) s tt
spelled_reads from bytes (SyncRequest flags tunnels lists) s =
    let all = flat_map list_bytes lists in
    let read : items_at list_at (list_count flags tunnels) (left_at 10 (all ++ [])) ≡ Ok (lists, left_at (10 + length all) []) =
    ap (λ n. items_at list_at n (left_at 10 (all ++ []))) (sym s.fits.2) ∙ items_read list_item lists s.fits.3 10 [] in
    listed_reads from bytes flags tunnels (all ++ []) (subst (Listed bytes flags tunnels) (sym (append-nil all)) (spelled_listed from bytes flags tunnels lists s))
    ∙ ap (λ r. r >>= λ lists. ended (SyncRequest flags tunnels lists.0) lists.1) read ∙ ended_none (SyncRequest flags tunnels lists) (10 + length all)
spelled_reads from bytes (SyncResponse types) s = closed_is_read from bytes (SyncResponse types) s tt
