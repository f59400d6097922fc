-- The pieces of messages that were sent are in order, and each is taken where those before it came.
use Rattle.std.proofs.Common.{◌≡◌, ℕ, ◌+◌, ◌≤◌, Bool, true, false, eqb, cond, List, [], ◌∷◌, ◌++◌, flat_map, length, map, Option, Some, None, refl, ap, subst}
use Rattle.std.proofs.lemmas.Bool.{le-ltb}
use Rattle.mt_base.specs.declared.kinds.Role.{Role}
use Rattle.mt_base.specs.Trace.{Trace, Start, ◌▷◌}
use Rattle.dvc_pdus.specs.Value.{Pdu, Caps, CreateRequest, CreateResponse, DataFirst, Data, CompressedFirst, Compressed, Close, SyncRequest, SyncResponse}
use Rattle.dvc_channels.specs.declared.answers.ChannelRefusal.TheVariants as refusal
use Rattle.dvc_channels.specs.Pieces.{Piece, First, Next, Part, pieces_of, under_way, under_way_from, goes_on}
use Rattle.dvc_channels.specs.Cutting.{IsCut, lone, at_once, filled, AreCut, none, more, MayFollow, InOrder}
use Rattle.dvc_channels.specs.Acts.{data_refusal}
use Rattle.dvc_channels.proofs.Making.{cuts_make}
use Rattle.dvc_channels.proofs.Sending.{sent_are_cut}
use Rattle.mt_endpoint.specs.Acts.{Act}
use Rattle.mt_endpoint.specs.Channels.{message_to}
use Rattle.mt_endpoint.specs.Moving.{outward}
use Rattle.mt_endpoint.specs.World.{sent_on}
use Rattle.soft_sync.specs.declared.kinds.Path.{Path}
use Rattle.mt_endpoint.proofs.Fitting.{Fits, Fitting}
use Rattle.mt_endpoint.proofs.Items.{View, sends, syncs, answers, plain, view}
use Rattle.mt_endpoint.proofs.Sent.{cut}

-- ---- messages that were sent have at most 1,048,576 bytes, and their pieces tell no more

abbrev pub AreLimited : List (List ℕ) → Type 0
AreLimited [] = Unit {0}
AreLimited (message ∷ sent) = (length message ≤ 1048576) × AreLimited sent

pub limited-append : (xs ys : List (List ℕ)) → AreLimited xs → AreLimited ys → AreLimited (xs ++ ys)
limited-append [] ys h k = k
limited-append (x ∷ xs) ys h k = (h.0, limited-append xs ys h.1 k)

limited_message : (b c : Bool) (message : List ℕ) → length message ≤ 1048576 → AreLimited (cond b (cond c (message ∷ []) []) [])
limited_message true true message h = (h, tt)
limited_message true false message h = tt
limited_message false c message h = tt

limited_none : (b : Bool) (messages : List (List ℕ)) → messages ≡ [] → AreLimited (cond b messages [])
limited_none true [] h = tt
limited_none true (x ∷ xs) h = cc
limited_none false messages h = tt

limited_step : (is_on : Path → Bool) (role : Role) (id : ℕ) (s : Trace Act) (act : Act) → View role s act → Fits role s act → AreLimited (cond (is_on (outward id s)) (message_to id act) [])
limited_step is_on role id s _ (sends made message) f = limited_message (is_on (outward id s)) (eqb made id) message f.0.1
limited_step is_on role id s _ (syncs reliable lossy) f = limited_none (is_on (outward id s)) [] refl
limited_step is_on role id s _ (answers named) f = limited_none (is_on (outward id s)) [] refl
limited_step is_on role id s _ (plain act items a b no_message) f = limited_none (is_on (outward id s)) (message_to id act) (no_message id)

pub all_limited : (is_on : Path → Bool) (role : Role) (id : ℕ) (s : Trace Act) → Fitting role s → AreLimited (sent_on is_on id s)
all_limited is_on role id Start f = tt
all_limited is_on role id (s ▷ act) f =
    limited-append (sent_on is_on id s) (cond (is_on (outward id s)) (message_to id act) []) (all_limited is_on role id s f.1) (limited_step is_on role id s act (view role s act) f.0)

abbrev pub TellsFew : Piece → Type 0
TellsFew (First total bytes) = total ≤ 1048576
TellsFew (Next bytes) = Unit {0}

abbrev pub TellFew : List Piece → Type 0
TellFew [] = Unit {0}
TellFew (piece ∷ pieces) = TellsFew piece × TellFew pieces

few-append : (xs ys : List Piece) → TellFew xs → TellFew ys → TellFew (xs ++ ys)
few-append [] ys h k = k
few-append (x ∷ xs) ys h k = (h.0, few-append xs ys h.1 k)

few_next : (further : List (List ℕ)) → TellFew (map Next further)
few_next [] = tt
few_next (bytes ∷ further) = (tt, few_next further)

few_cut : (pieces : List Piece) (message : List ℕ) → IsCut pieces message → length message ≤ 1048576 → TellFew pieces
few_cut _ _ (lone bytes) h = (tt, tt)
few_cut _ _ (at_once bytes) h = (h, tt)
few_cut _ _ (filled first middle last some) h = (h, few_next (middle ++ last ∷ []))

few_cuts : (pieces : List Piece) (messages : List (List ℕ)) → AreCut pieces messages → AreLimited messages → TellFew pieces
few_cuts _ _ none h = tt
few_cuts _ _ (more pieces rest message messages one others) h = few-append pieces rest (few_cut pieces message one h.0) (few_cuts rest messages others h.1)

-- ---- what comes next of pieces in order

next_in_order : (part : Option Part) (xs : List Piece) (piece : Piece) (ys : List Piece) → InOrder part (xs ++ piece ∷ ys) → MayFollow (under_way_from part xs) piece
next_in_order part [] piece ys h = h.0
next_in_order part (x ∷ xs) piece ys h = next_in_order (goes_on part x) xs piece ys h.1

next_few : (xs : List Piece) (piece : Piece) (ys : List Piece) → TellFew (xs ++ piece ∷ ys) → TellsFew piece
next_few [] piece ys h = h.0
next_few (x ∷ xs) piece ys h = next_few xs piece ys h.1

first_taken : (id made total : ℕ) (bytes : List ℕ) (part : Option Part) → MayFollow part (First total bytes) → total ≤ 1048576 → data_refusal id part (DataFirst made total bytes) ≡ None
first_taken id made total bytes None h k = ap (λ b. cond b (Some (refusal.MessageTooLong id total)) None) (le-ltb 1048576 total k)
first_taken id made total bytes (Some part) h k = absurd h

next_taken : (id made : ℕ) (bytes : List ℕ) (part : Option Part) → MayFollow part (Next bytes) → data_refusal id part (Data made bytes) ≡ None
next_taken id made bytes None h = refl
next_taken id made bytes (Some part) h = ap (λ b. cond b (Some (refusal.MoreThanLength id)) None) (le-ltb part.total (length part.bytes + length bytes) h)

-- a PDU that brings no piece is never refused so
no_piece_taken : (id : ℕ) (part : Option Part) (pdu : Pdu) → pieces_of pdu ≡ [] → data_refusal id part pdu ≡ None
no_piece_taken id None (DataFirst made total bytes) h = absurd (let no : First total bytes ∷ [] ≡ [] = h in cc)
no_piece_taken id (Some part) (DataFirst made total bytes) h = absurd (let no : First total bytes ∷ [] ≡ [] = h in cc)
no_piece_taken id (Some part) (Data made bytes) h = absurd (let no : Next bytes ∷ [] ≡ [] = h in cc)
no_piece_taken id part pdu h = refl

-- a PDU whose pieces stand behind those that came
pub taken_next : (id : ℕ) (came : List Piece) (pdu : Pdu) (rest : List Piece) → InOrder None (came ++ (pieces_of pdu ++ rest)) → TellFew (came ++ (pieces_of pdu ++ rest)) → data_refusal id (under_way came) pdu ≡ None
taken_next id came (DataFirst made total bytes) rest h k =
    first_taken id made total bytes (under_way came) (next_in_order None came (First total bytes) rest h) (next_few came (First total bytes) rest k)
taken_next id came (Data made bytes) rest h k = next_taken id made bytes (under_way came) (next_in_order None came (Next bytes) rest h)
taken_next id came (Caps version charges) rest h k = no_piece_taken id (under_way came) (Caps version charges) refl
taken_next id came (CreateRequest made priority name) rest h k = no_piece_taken id (under_way came) (CreateRequest made priority name) refl
taken_next id came (CreateResponse made status) rest h k = no_piece_taken id (under_way came) (CreateResponse made status) refl
taken_next id came (CompressedFirst made total bytes) rest h k = no_piece_taken id (under_way came) (CompressedFirst made total bytes) refl
taken_next id came (Compressed made bytes) rest h k = no_piece_taken id (under_way came) (Compressed made bytes) refl
taken_next id came (Close made) rest h k = no_piece_taken id (under_way came) (Close made) refl
taken_next id came (SyncRequest flags tunnels lists) rest h k = no_piece_taken id (under_way came) (SyncRequest flags tunnels lists) refl
taken_next id came (SyncResponse types) rest h k = no_piece_taken id (under_way came) (SyncResponse types) refl

-- where these and what follows are the pieces of messages that were sent
pub limited_taken : (id : ℕ) (sent : List (List ℕ)) (came : List Piece) (pdu : Pdu) (rest : List Piece) → AreLimited sent → flat_map pieces_of (cut id sent) ≡ came ++ (pieces_of pdu ++ rest) → data_refusal id (under_way came) pdu ≡ None
limited_taken id sent came pdu rest limited split =
    let cuts = sent_are_cut id sent in
    let few = few_cuts (flat_map pieces_of (cut id sent)) sent cuts limited in
    let in_order = (cuts_make (flat_map pieces_of (cut id sent)) sent cuts).in_order in
    taken_next id came pdu rest (subst (InOrder None) split in_order) (subst TellFew split few)

pub sent_taken : (is_on : Path → Bool) (role : Role) (id : ℕ) (s : Trace Act) (came : List Piece) (pdu : Pdu) (rest : List Piece) → Fitting role s → flat_map pieces_of (cut id (sent_on is_on id s)) ≡ came ++ (pieces_of pdu ++ rest)
    → data_refusal id (under_way came) pdu ≡ None
sent_taken is_on role id s came pdu rest f split = limited_taken id (sent_on is_on id s) came pdu rest (all_limited is_on role id s f) split
