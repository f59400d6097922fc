-- What was done to a table of channels, and what became of the channels by it.
use Rattle.std.specs.Prelude.{◌≡◌, ◌≢◌, ◌==◌, ℕ, ◌+◌, ◌<◌, ◌≤◌, List, [], ◌∷◌, ◌++◌, length, drop, flat_map, nat_lt, Option, Some, None, Result, Ok, Err, if◌then◌else◌}
use Rattle.mt_base.specs.Trace.{Trace, Start, ◌▷◌}
use Rattle.dvc_pdus.specs.Value.{Pdu, Caps, CreateRequest, CreateResponse, DataFirst, Data, CompressedFirst, Compressed, Close, SyncRequest, SyncResponse}
use Rattle.dvc_channels.specs.Pieces.{Piece, Part, pieces_of, under_way, messages, messages_from}
use Rattle.dvc_channels.specs.declared.answers.ChannelState.{ChannelState}
use Rattle.dvc_channels.specs.declared.answers.ChannelState.TheVariants.{Unknown, Asked, Open, Refused, Closed}
use Rattle.dvc_channels.specs.declared.answers.CreateRefusal.{CreateRefusal}
use Rattle.dvc_channels.specs.declared.answers.CreateRefusal.TheVariants as create
use Rattle.dvc_channels.specs.declared.answers.ChannelRefusal.{ChannelRefusal}
use Rattle.dvc_channels.specs.declared.answers.ChannelRefusal.TheVariants as refusal
use Rattle.dvc_channels.specs.declared.answers.Accepted.{Accepted}
use Rattle.dvc_channels.specs.declared.answers.Accepted.TheVariants.{Whole, Inside, Dropped}

pub data Act : Type 0 where
  -- a channel of this id and name was created
  Made : (id : ℕ) (name : List ℕ) → Act
  -- the client answered for it with this status
  Answered : (id status : ℕ) → Act
  -- this data PDU came for it
  Came : (id : ℕ) (pdu : Pdu) → Act
  -- this message of it was taken
  Took : (id : ℕ) (message : List ℕ) → Act
  -- it was closed
  Ended : (id : ℕ) → Act

-- the ids of the channels created, in order
abbrev pub ids : Trace Act → List ℕ
ids Start = []
ids (t ▷ Made id name) = ids t ++ id ∷ []
ids (t ▷ act) = ids t

-- a channel is created where bit 31 of the status is clear (section 2.2.2.2)
abbrev pub answered : ℕ → ChannelState
answered status = if nat_lt status 2147483648 then Open else Refused

-- the state of a channel
abbrev pub state : Trace Act → ℕ → ChannelState
state Start id = Unknown
state (t ▷ Made other name) id = if other == id then Asked else state t id
state (t ▷ Answered other status) id = if other == id then answered status else state t id
state (t ▷ Ended other) id = if other == id then Closed else state t id
state (t ▷ act) id = state t id

-- its name
abbrev pub name_of : Trace Act → ℕ → Option (List ℕ)
name_of Start id = None
name_of (t ▷ Made other name) id = if other == id then Some name else name_of t id
name_of (t ▷ act) id = name_of t id

-- the pieces that a PDU brings to a channel in this state
abbrev pub brought : ChannelState → Pdu → List Piece
brought Unknown pdu = []
brought Asked pdu = []
brought Open pdu = pieces_of pdu
brought Refused pdu = []
brought Closed pdu = []

-- the pieces that came for a channel while it was open, in order
abbrev pub arrived : Trace Act → ℕ → List Piece
arrived Start id = []
arrived (t ▷ Came other pdu) id = if other == id then arrived t id ++ brought (state t id) pdu else arrived t id
arrived (t ▷ act) id = arrived t id

-- the messages taken, in order
abbrev pub taken : Trace Act → ℕ → List (List ℕ)
taken Start id = []
taken (t ▷ Took other message) id = if other == id then taken t id ++ message ∷ [] else taken t id
taken (t ▷ act) id = taken t id

-- the messages delivered: those that the pieces make whole, in order
abbrev pub delivered : Trace Act → ℕ → List (List ℕ)
delivered t id = messages (arrived t id)

-- and of these the ones that were not taken yet
abbrev pub untaken : Trace Act → ℕ → List (List ℕ)
untaken t id = drop (length (taken t id)) (delivered t id)

-- messages by their bytes, each with 64 more
abbrev pub weight : List (List ℕ) → ℕ
weight [] = 0
weight (message ∷ messages) = length message + 64 + weight messages

-- all messages that were not taken yet, so counted
abbrev pub waiting : Trace Act → ℕ
waiting t = weight (flat_map (untaken t) (ids t))

-- a channel in this state takes data: it is open, or is closed and drops them
abbrev pub TakesData : ChannelState → Type 0
TakesData Unknown = ⊥
TakesData Asked = ⊥
TakesData Open = Unit {0}
TakesData Refused = ⊥
TakesData Closed = Unit {0}

-- a data PDU with at most 1,600 bytes of data, and with no more bytes than the length that it tells
abbrev pub IsData : Pdu → Type 0
IsData (Caps version charges) = ⊥
IsData (CreateRequest id priority name) = ⊥
IsData (CreateResponse id status) = ⊥
IsData (DataFirst id total bytes) = (length bytes ≤ total) × (length bytes ≤ 1600)
IsData (Data id bytes) = length bytes ≤ 1600
IsData (CompressedFirst id total bytes) = length bytes ≤ 1600
IsData (Compressed id bytes) = length bytes ≤ 1600
IsData (Close id) = ⊥
IsData (SyncRequest flags tunnels lists) = ⊥
IsData (SyncResponse types) = ⊥

-- why an open channel with this message under way does not take a data PDU
abbrev pub data_refusal : ℕ → Option Part → Pdu → Option ChannelRefusal
data_refusal id None (DataFirst other total bytes) =
    if nat_lt 1048576 total then Some (refusal.MessageTooLong id total) else None
data_refusal id (Some part) (DataFirst other total bytes) = Some (refusal.FirstInside id)
data_refusal id (Some part) (Data other bytes) =
    if nat_lt part.total (length part.bytes + length bytes) then Some (refusal.MoreThanLength id) else None
data_refusal id part pdu = None

-- why a channel in this state does not take a data PDU
abbrev pub refusal_in : ChannelState → ℕ → Option Part → Pdu → Option ChannelRefusal
refusal_in Unknown id part pdu = Some (refusal.UnknownChannel id)
refusal_in Asked id part pdu = Some (refusal.UnknownChannel id)
refusal_in Open id part pdu = data_refusal id part pdu
refusal_in Refused id part pdu = Some (refusal.UnknownChannel id)
refusal_in Closed id part pdu = None

-- why a data PDU is refused: the first cause
abbrev pub refusal_of : Trace Act → ℕ → Pdu → Option ChannelRefusal
refusal_of t id pdu = refusal_in (state t id) id (under_way (arrived t id)) pdu

-- what became of pieces that made these messages whole
abbrev pub what_came : List Piece → List (List ℕ) → Accepted
what_came [] whole = Dropped
what_came (piece ∷ pieces) [] = Inside
what_came (piece ∷ pieces) (message ∷ whole) = Whole

-- what became of a data PDU
abbrev pub accepted_as : Trace Act → ℕ → Pdu → Accepted
accepted_as t id pdu =
    let pieces = brought (state t id) pdu in what_came pieces (messages_from (under_way (arrived t id)) pieces)

-- The answer to a data PDU: what became of it where nothing refuses it, and else the first cause. Want
-- of memory comes only where nothing refuses a PDU that brings data.
abbrev pub IsAnswer : Trace Act → ℕ → Pdu → Result Accepted ChannelRefusal → Type 0
IsAnswer t id pdu (Ok accepted) = (refusal_of t id pdu ≡ None) × (accepted ≡ accepted_as t id pdu)
IsAnswer t id pdu (Err refusal.NoMemory) = (refusal_of t id pdu ≡ None) × (brought (state t id) pdu ≢ [])
IsAnswer t id pdu (Err r) = refusal_of t id pdu ≡ Some r

-- Why a channel is not created: there was one of this id, or else there are 256. Want of memory comes
-- only where it is neither.
abbrev pub WhyNotMade : Trace Act → ℕ → CreateRefusal → Type 0
WhyNotMade t id create.Known = state t id ≢ Unknown
WhyNotMade t id (create.TooMany limit) = (state t id ≡ Unknown) × (length (ids t) ≡ 256) × (limit ≡ 256)
WhyNotMade t id create.NoMemory = (state t id ≡ Unknown) × (length (ids t) < 256)

-- why an answer is not taken: there is no channel of this id, or it was answered before
abbrev pub WhyNotAnswered : Trace Act → ℕ → ChannelRefusal → Type 0
WhyNotAnswered t id (refusal.UnknownChannel other) = (other ≡ id) × (state t id ≡ Unknown)
WhyNotAnswered t id (refusal.KnownChannel other) = (other ≡ id) × (state t id ≢ Unknown) × (state t id ≢ Asked)
WhyNotAnswered t id (refusal.FirstInside other) = ⊥
WhyNotAnswered t id (refusal.MoreThanLength other) = ⊥
WhyNotAnswered t id (refusal.MessageTooLong other total) = ⊥
WhyNotAnswered t id refusal.NoMemory = ⊥

-- why a channel is not closed: it does not take data either
abbrev pub WhyNotClosed : Trace Act → ℕ → ChannelRefusal → Type 0
WhyNotClosed t id (refusal.UnknownChannel other) = (other ≡ id) × (TakesData (state t id) → ⊥)
WhyNotClosed t id (refusal.KnownChannel other) = ⊥
WhyNotClosed t id (refusal.FirstInside other) = ⊥
WhyNotClosed t id (refusal.MoreThanLength other) = ⊥
WhyNotClosed t id (refusal.MessageTooLong other total) = ⊥
WhyNotClosed t id refusal.NoMemory = ⊥
