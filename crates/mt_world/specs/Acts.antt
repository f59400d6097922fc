-- What happens at one end of a session: the calls made of it, and the acts that these are.
use Rattle.std.specs.Prelude.{ℕ, ◌==◌, ◌^◌, Bool, true, false, List, [], ◌∷◌, ◌++◌, length, take, drop, fold, Option, None, Some, nat_lt, if◌then◌else◌}
use Rattle.std.specs.List.{flat_map}
use Rattle.mt_base.specs.declared.kinds.Role.{Role}
use Rattle.mt_base.specs.declared.kinds.Role.TheVariants.{Server, Client}
use Rattle.mt_base.specs.Ends.{other}
use Rattle.mt_base.specs.Trace.{Trace, Start, ◌▷◌}
use Rattle.dvc_pdus.specs.Value.{Pdu, Caps, CreateRequest, CreateResponse, DataFirst, Data, CompressedFirst, Compressed, Close, SyncRequest, SyncResponse}
use Rattle.mt_world.specs.declared.channel.ChannelState.{ChannelState}
use Rattle.mt_world.specs.declared.channel.ChannelState.TheVariants.{Unknown, Asked, Open, Refused}
use Rattle.mt_world.specs.Frames.{framed, frame_of}

-- a call of an end
pub data Entry : Type 0 where
  -- the end was made
  Made : Entry
  -- the server created a channel
  Opened : (id : ℕ) (name : List ℕ) → Entry
  -- a message was sent on a channel
  Sent : (id : ℕ) (message : List ℕ) → Entry
  -- these bytes of the main stream were offered, of which so many were taken
  MainIn : (offered : List ℕ) (count : ℕ) → Entry
  -- these bytes were taken for the main stream, into room for so many
  MainOut : (room : ℕ) (bytes : List ℕ) → Entry
  -- a whole message was handed out
  Took : (id : ℕ) (message : List ℕ) → Entry

-- What a call did: a step of the end's own, or one PDU read in full. One call that takes bytes is
-- as many acts as PDUs end in them.
pub data Act : Type 0 where
  Began : Act
  Opens : (id : ℕ) (name : List ℕ) → Act
  Sends : (id : ℕ) (message : List ℕ) → Act
  Reads : Pdu → Act

-- the acts so far, and the bytes of a frame that is under way
pub record Past : Type 0 where
  pub acts : Trace Act
  pub part : List ℕ

-- one more act
abbrev pub with_act : Past → Act → Past
with_act p act = record { acts = p.acts ▷ act; part = p.part }

-- one more byte, which may end a frame
abbrev pub with_frame : Past → List ℕ → Option Pdu → Past
with_frame p part None = record { acts = p.acts; part = part }
with_frame p part (Some pdu) = record { acts = p.acts ▷ Reads pdu; part = [] }

unfoldable pub with_byte : Role → Past → ℕ → Past
with_byte role p byte = with_frame p (p.part ++ byte ∷ []) (frame_of (other role) (p.part ++ byte ∷ []))

-- the acts that calls are
abbrev pub past : Role → Trace Entry → Past
past role Start = record { acts = Start; part = [] }
past role (t ▷ Made) = with_act (past role t) Began
past role (t ▷ Opened id name) = with_act (past role t) (Opens id name)
past role (t ▷ Sent id message) = with_act (past role t) (Sends id message)
past role (t ▷ MainIn offered count) = fold (with_byte role) (past role t) (take count offered)
past role (t ▷ MainOut room bytes) = past role t
past role (t ▷ Took id message) = past role t

-- what an end writes when it has read a PDU: the client answers capabilities and create requests
-- (MS-RDPEDYC sections 3.2.5.1.1 and 3.2.5.1.2). PDUs that these ends do not exchange are never read.
abbrev pub reply : Pdu → Role → List Pdu
reply (Caps version charges) Server = []
reply (Caps version charges) Client = Caps 3 None ∷ []
reply (CreateRequest id priority name) role = CreateResponse id 0 ∷ []
reply (CreateResponse id status) role = []
reply (Data id bytes) role = []
reply (DataFirst made total bytes) role = []
reply (CompressedFirst made total bytes) role = []
reply (Compressed made bytes) role = []
reply (Close made) role = []
reply (SyncRequest flags tunnels lists) role = []
reply (SyncResponse types) role = []

-- the PDUs that an act adds to what its end writes
abbrev pub adds : Act → Role → List Pdu
adds Began Server = Caps 3 (Some (0 ∷ 0 ∷ 0 ∷ 0 ∷ [])) ∷ []
adds Began Client = []
adds (Opens id name) role = CreateRequest id 0 name ∷ []
adds (Sends id message) role = Data id message ∷ []
adds (Reads pdu) role = reply pdu role

-- all PDUs that an end writes, in order
abbrev pub outgoing : Role → Trace Act → List Pdu
outgoing role Start = []
outgoing role (t ▷ act) = outgoing role t ++ adds act role

-- the bytes that an end writes on the main stream
unfoldable pub written : Role → Trace Act → List ℕ
written role acts = flat_map framed (outgoing role acts)

-- all PDUs that an end has read in full, in order
abbrev pub reads : Trace Act → List Pdu
reads Start = []
reads (t ▷ Reads pdu) = reads t ++ pdu ∷ []
reads (t ▷ act) = reads t

-- the messages of a channel that were sent, in order
abbrev pub sent : ℕ → Trace Act → List (List ℕ)
sent id Start = []
sent id (t ▷ Sends made message) = if made == id then sent id t ++ message ∷ [] else sent id t
sent id (t ▷ act) = sent id t

-- the message that a PDU brings to a channel, if it brings one
abbrev pub message_in : ℕ → Pdu → List (List ℕ)
message_in id (Data made bytes) = if made == id then bytes ∷ [] else []
message_in id (Caps version charges) = []
message_in id (CreateRequest made priority name) = []
message_in id (CreateResponse made status) = []
message_in id (DataFirst made total bytes) = []
message_in id (CompressedFirst made total bytes) = []
message_in id (Compressed made bytes) = []
message_in id (Close made) = []
message_in id (SyncRequest flags tunnels lists) = []
message_in id (SyncResponse types) = []

-- the messages of a channel that came, in order
abbrev pub delivered : ℕ → Trace Act → List (List ℕ)
delivered id Start = []
delivered id (t ▷ Reads pdu) = delivered id t ++ message_in id pdu
delivered id (t ▷ act) = delivered id t

-- the names of the channels that were made, in order of their ids 1, 2, 3 and so on
abbrev pub names : Trace Act → List (List ℕ)
names Start = []
names (t ▷ Opens id name) = names t ++ name ∷ []
names (t ▷ act) = names t

-- the other end's capabilities were read
abbrev pub is_ready : Trace Act → Bool
is_ready Start = false
is_ready (t ▷ Reads (Caps version charges)) = true
is_ready (t ▷ act) = is_ready t

-- what an answer makes of a channel: bit 31 of the status is clear where it was created
abbrev pub answered : ℕ → ChannelState
answered status = if nat_lt status (2 ^ 31) then Open else Refused

-- the state of a channel after a PDU that was read
abbrev pub told : Pdu → ℕ → ChannelState → ChannelState
told (CreateRequest made priority name) id state = if made == id then Open else state
told (CreateResponse made status) id state = if made == id then answered status else state
told (Caps version charges) id state = state
told (Data made bytes) id state = state
told (DataFirst made total bytes) id state = state
told (CompressedFirst made total bytes) id state = state
told (Compressed made bytes) id state = state
told (Close made) id state = state
told (SyncRequest flags tunnels lists) id state = state
told (SyncResponse types) id state = state

-- the state of a channel
abbrev pub channel : ℕ → Trace Act → ChannelState
channel id Start = Unknown
channel id (t ▷ Began) = channel id t
channel id (t ▷ Opens made name) = if made == id then Asked else channel id t
channel id (t ▷ Sends made message) = channel id t
channel id (t ▷ Reads pdu) = told pdu id (channel id t)

-- the bytes that were taken from an end for the main stream
abbrev pub given : Trace Entry → List ℕ
given Start = []
given (t ▷ MainOut room bytes) = given t ++ bytes
given (t ▷ entry) = given t

-- the bytes of the main stream that an end took
abbrev pub taken : Trace Entry → List ℕ
taken Start = []
taken (t ▷ MainIn offered count) = taken t ++ take count offered
taken (t ▷ entry) = taken t

-- the messages of a channel that were handed out
abbrev pub took : ℕ → Trace Entry → List (List ℕ)
took id Start = []
took id (t ▷ Took made message) = if made == id then took id t ++ message ∷ [] else took id t
took id (t ▷ entry) = took id t

-- the bytes that an end wrote and that were not taken yet
abbrev pub unsent : Role → Trace Entry → List ℕ
unsent role t = drop (length (given t)) (written role (past role t).acts)

-- the messages of a channel that came and were not handed out yet
abbrev pub waiting : ℕ → Role → Trace Entry → List (List ℕ)
waiting id role t = drop (length (took id t)) (delivered id (past role t).acts)
