-- Which PDUs of the other end are faults: the first cause in the order of looking.
use Rattle.std.specs.Prelude.{ℕ, nat_le, nat_eq, Bool, true, false, not, ◌&&◌, ◌||◌, List, [], ◌∷◌, length, is_some, Option, Some, None, if◌then◌else◌}
use Rattle.std.specs.Option.{option_or}
use Rattle.std.specs.List.{list_any}
use Rattle.mt_base.specs.declared.kinds.Kind.{Kind}
use Rattle.mt_base.specs.declared.kinds.Kind.TheVariants.{Reliable, Lossy}
use Rattle.mt_base.specs.declared.kinds.Role.{Role}
use Rattle.mt_base.specs.declared.kinds.Role.TheVariants.{Server, Client}
use Rattle.mt_base.specs.Trace.{Trace}
use Rattle.dvc_pdus.specs.Value.{Pdu, ChannelList}
use Rattle.dvc_channels.specs.declared.answers.ChannelRefusal.{ChannelRefusal}
use Rattle.dvc_channels.specs.declared.answers.ChannelRefusal.TheVariants as refusal
use Rattle.dvc_channels.specs.declared.answers.ChannelState.{ChannelState}
use Rattle.dvc_channels.specs.declared.answers.ChannelState.TheVariants as state
use Rattle.dvc_channels.specs.Acts.{refusal_of}
use Rattle.soft_sync.specs.declared.kinds.Kinds.{Kinds}
use Rattle.soft_sync.specs.declared.kinds.Path.{Path}
use Rattle.soft_sync.specs.declared.kinds.Path.TheVariants.{Main, Tunnel}
use Rattle.soft_sync.specs.Exchanges.{Request, listed}
use Rattle.mt_endpoint.specs.Acts.{Act, Heard, TunnelAsked, TunnelAnswered, Spoken, Drawn, CreateAsked, CreateAnswered, Nothing, Carried}
use Rattle.mt_endpoint.specs.Said.{Said, Capable, Creates, Created, Brings, Ends, Moves, Moved, said}
use Rattle.mt_endpoint.specs.Channels.{table, channel, is_known, is_closed, is_ready}
use Rattle.mt_endpoint.specs.Tunnels.{asked, answer, is_open}
use Rattle.mt_endpoint.specs.Moving.{made, read, all_told, read_by, inward, unanswered_in, channels_listed}

pub data Why : Type 0 where
  -- a PDU that doesn't come there
  Unexpected : Why
  -- a Soft-Sync answer to no request, or one that names a kind that the request doesn't, or twice
  BadSyncAnswer : Why
  -- a Soft-Sync request lists a channel that was never made
  SyncUnknown : (id : ℕ) → Why
  -- the table of channels refuses the PDU
  Channel : (why : ChannelRefusal) → Why
  -- data or a close on the main stream behind the word of the channel
  TooLateOnMain : (id : ℕ) → Why

abbrev pub when : Bool → Why → Option Why
when true why = Some why
when false why = None

-- ---- channels

-- there is no channel of this id that takes data
abbrev pub is_taken_in : ChannelState → Bool
is_taken_in state.Unknown = false
is_taken_in state.Asked = false
is_taken_in state.Open = true
is_taken_in state.Refused = false
is_taken_in state.Closed = true

abbrev pub unknown_fault : Role → Trace Act → ℕ → Option Why
unknown_fault role t id = when (not (is_taken_in (channel role id t))) (Channel (refusal.UnknownChannel id))

-- the channel's word was read, and it isn't closed
abbrev pub is_moved : Path → Bool
is_moved Main = false
is_moved (Tunnel kind) = true

-- a close comes on the main stream also for a channel whose data are on the lossy tunnel
abbrev pub is_moved_whole : Path → Bool
is_moved_whole Main = false
is_moved_whole (Tunnel Reliable) = true
is_moved_whole (Tunnel Lossy) = false

abbrev pub late_fault : Role → Trace Act → ℕ → Bool → Option Why
late_fault role t id moved = when (moved && not (is_closed role id t)) (TooLateOnMain id)

-- the table refuses data
abbrev pub because : Option ChannelRefusal → Option Why
because None = None
because (Some why) = Some (Channel why)

abbrev pub data_fault : Role → Trace Act → ℕ → Pdu → Option Why
data_fault role t id pdu = because (refusal_of (table role t) id pdu)

-- the client's answer for a channel
abbrev pub answer_fault : ChannelState → ℕ → Option Why
answer_fault state.Unknown id = Some (Channel (refusal.UnknownChannel id))
answer_fault state.Asked id = None
answer_fault state.Open id = Some (Channel (refusal.KnownChannel id))
answer_fault state.Refused id = Some (Channel (refusal.KnownChannel id))
answer_fault state.Closed id = Some (Channel (refusal.KnownChannel id))

-- ---- Soft-Sync

-- the first id at fault: one that stood before, in this request or an earlier one, or that was never made
abbrev pub ids_fault : Role → Trace Act → List ℕ → List (ℕ × Kind) → Option Why
ids_fault role t seen [] = None
ids_fault role t seen ((id, kind) ∷ channels) =
    if list_any (nat_eq id) seen || is_some (listed id (read t)) then Some Unexpected
    else if is_known role id t then ids_fault role t (id ∷ seen) channels
    else Some (SyncUnknown id)

abbrev pub request_fault : Role → Trace Act → List ChannelList → Option Why
request_fault Server t lists = Some Unexpected
request_fault Client t lists =
    if nat_le 256 (length (all_told read_by t)) then Some Unexpected else ids_fault Client t [] (channels_listed lists)

-- an answer names each kind that its request names at most once, and no other
abbrev pub is_answer_to : Kinds → List Kind → Bool
is_answer_to named [] = true
is_answer_to named (Reliable ∷ kinds) = named.reliable && is_answer_to (record named { reliable = false }) kinds
is_answer_to named (Lossy ∷ kinds) = named.lossy && is_answer_to (record named { lossy = false }) kinds

abbrev pub answers_fault : List Request → List Kind → Option Why
answers_fault [] kinds = Some BadSyncAnswer
answers_fault (request ∷ requests) kinds = when (not (is_answer_to request.named kinds)) BadSyncAnswer

abbrev pub response_fault : Role → Trace Act → List Kind → Option Why
response_fault Server t kinds = answers_fault (unanswered_in (made t)) kinds
response_fault Client t kinds = Some Unexpected

-- ---- the main stream

abbrev pub said_fault : Role → Trace Act → Pdu → Said → Option Why
said_fault role t pdu (Capable version) = None
said_fault Server t pdu (Creates id name) = Some Unexpected
said_fault Client t pdu (Creates id name) = when (is_known Client id t) (Channel (refusal.KnownChannel id))
said_fault Server t pdu (Created id status) = answer_fault (channel Server id t) id
said_fault Client t pdu (Created id status) = Some Unexpected
said_fault role t pdu (Brings id) =
    option_or (unknown_fault role t id) (option_or (late_fault role t id (is_moved (inward id t))) (data_fault role t id pdu))
said_fault role t pdu (Ends id) =
    option_or (unknown_fault role t id) (late_fault role t id (is_moved_whole (inward id t)))
said_fault role t pdu (Moves lists) = request_fault role t lists
said_fault role t pdu (Moved kinds) = response_fault role t kinds

-- the first PDU tells capabilities, and no other does
abbrev pub is_capable : Said → Bool
is_capable (Capable version) = true
is_capable (Creates id name) = false
is_capable (Created id status) = false
is_capable (Brings id) = false
is_capable (Ends id) = false
is_capable (Moves lists) = false
is_capable (Moved kinds) = false

abbrev pub spoken_fault : Role → Trace Act → Pdu → Option Why
spoken_fault role t pdu =
    if is_ready t then (if is_capable (said pdu) then Some Unexpected else said_fault role t pdu (said pdu))
    else when (not (is_capable (said pdu))) Unexpected

abbrev pub main_fault : Role → Trace Act → Heard → Option Why
main_fault Server t (TunnelAsked id kind cookie) = Some Unexpected
main_fault Client t (TunnelAsked id kind cookie) = when (is_some (asked kind t)) Unexpected
main_fault Server t (TunnelAnswered id hr) = None
main_fault Client t (TunnelAnswered id hr) = Some Unexpected
main_fault role t (Spoken pdu) = spoken_fault role t pdu

-- ---- the reliable tunnel

abbrev pub carried_fault : Role → Trace Act → Said → Option Why
carried_fault role t (Capable version) = Some Unexpected
carried_fault role t (Creates id name) = Some Unexpected
carried_fault role t (Created id status) = Some Unexpected
carried_fault role t (Brings id) = unknown_fault role t id
carried_fault role t (Ends id) = unknown_fault role t id
carried_fault role t (Moves lists) = Some Unexpected
carried_fault role t (Moved kinds) = Some Unexpected

abbrev pub tunnel_fault : Role → Trace Act → Drawn → Option Why
tunnel_fault Server t (CreateAsked id cookie) = None
tunnel_fault Client t (CreateAsked id cookie) = Some Unexpected
tunnel_fault Server t (CreateAnswered hr) = Some Unexpected
tunnel_fault Client t (CreateAnswered hr) = when (is_some (answer Reliable t)) Unexpected
tunnel_fault role t Nothing = None
tunnel_fault role t (Carried bytes pdu) =
    if is_open role Reliable t then carried_fault role t (said pdu) else Some Unexpected

-- a PDU that is released is refused by its channel
abbrev pub release_fault_of : Role → Trace Act → Pdu → Said → Option Why
release_fault_of role t pdu (Capable version) = None
release_fault_of role t pdu (Creates id name) = None
release_fault_of role t pdu (Created id status) = None
release_fault_of role t pdu (Brings id) = data_fault role t id pdu
release_fault_of role t pdu (Ends id) = None
release_fault_of role t pdu (Moves lists) = None
release_fault_of role t pdu (Moved kinds) = None

abbrev pub release_fault : Role → Trace Act → Pdu → Option Why
release_fault role t pdu = release_fault_of role t pdu (said pdu)
