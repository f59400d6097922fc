-- The channels of an end: which acts are what to its table of channels.
use Rattle.std.specs.Prelude.{ℕ, Bool, true, false, ◌||◌, List, [], ◌∷◌, ◌++◌, length, nat_eq, nat_lt, if◌then◌else◌}
use Rattle.mt_base.specs.declared.kinds.Role.{Role}
use Rattle.mt_base.specs.declared.kinds.Role.TheVariants.{Server, Client}
use Rattle.mt_base.specs.Trace.{Trace, Start, ◌▷◌}
use Rattle.dvc_pdus.specs.Value.{Pdu, Caps}
use Rattle.dvc_channels.specs.declared.answers.ChannelState.{ChannelState}
use Rattle.dvc_channels.specs.declared.answers.ChannelState.TheVariants as state
use Rattle.dvc_channels.specs.Acts.{Act as Change, Made, Answered, Came, Took, Ended}
use Rattle.dvc_channels.specs.Acts as channels
use Rattle.mt_endpoint.specs.Acts.{Act, Opens, Sends, Takes, Closes, Hears, Releases, Spoken}
use Rattle.mt_endpoint.specs.Said.{Said, Capable, Creates, Created, Brings, Ends, Moves, Moved, said}

-- the PDUs that come by an act: one of the main stream as it is read, one of a tunnel as it is
-- released
abbrev pub came : Act → List Pdu
came (Hears (Spoken pdu)) = pdu ∷ []
came (Releases kind at bytes pdu) = pdu ∷ []
came act = []

-- a client takes a channel that the server creates, where it has fewer than 256
abbrev pub has_place : Trace Change → Bool
has_place t = nat_lt (length (channels.ids t)) 256

-- what a PDU is to the table of channels
abbrev pub with_said : Role → Pdu → Said → Trace Change → Trace Change
with_said role pdu (Capable version) t = t
with_said Server pdu (Creates id name) t = t
with_said Client pdu (Creates id name) t = if has_place t then t ▷ Made id name ▷ Answered id 0 else t
with_said role pdu (Created id status) t = t ▷ Answered id status
with_said role pdu (Brings id) t = t ▷ Came id pdu
with_said role pdu (Ends id) t = t ▷ Ended id
with_said role pdu (Moves lists) t = t
with_said role pdu (Moved kinds) t = t

abbrev pub with_pdus : Role → List Pdu → Trace Change → Trace Change
with_pdus role [] t = t
with_pdus role (pdu ∷ pdus) t = with_pdus role pdus (with_said role pdu (said pdu) t)

-- what was done to the table of channels
abbrev pub table : Role → Trace Act → Trace Change
table role Start = Start
table role (t ▷ Opens id name) = table role t ▷ Made id name
table role (t ▷ Takes id message) = table role t ▷ Took id message
table role (t ▷ Closes id) = table role t ▷ Ended id
table role (t ▷ act) = with_pdus role (came act) (table role t)

-- the state of a channel
abbrev pub channel : Role → ℕ → Trace Act → ChannelState
channel role id t = channels.state (table role t) id

abbrev pub is_open_in : ChannelState → Bool
is_open_in state.Unknown = false
is_open_in state.Asked = false
is_open_in state.Open = true
is_open_in state.Refused = false
is_open_in state.Closed = false

abbrev pub is_open : Role → ℕ → Trace Act → Bool
is_open role id t = is_open_in (channel role id t)

abbrev pub is_closed_in : ChannelState → Bool
is_closed_in state.Unknown = false
is_closed_in state.Asked = false
is_closed_in state.Open = false
is_closed_in state.Refused = false
is_closed_in state.Closed = true

abbrev pub is_closed : Role → ℕ → Trace Act → Bool
is_closed role id t = is_closed_in (channel role id t)

-- it was created at this end
abbrev pub is_known_in : ChannelState → Bool
is_known_in state.Unknown = false
is_known_in state.Asked = true
is_known_in state.Open = true
is_known_in state.Refused = true
is_known_in state.Closed = true

abbrev pub is_known : Role → ℕ → Trace Act → Bool
is_known role id t = is_known_in (channel role id t)

-- the messages of a channel that were delivered, and those that were sent
abbrev pub delivered : Role → ℕ → Trace Act → List (List ℕ)
delivered role id t = channels.delivered (table role t) id

abbrev pub message_to : ℕ → Act → List (List ℕ)
message_to id (Sends made message) = if nat_eq made id then message ∷ [] else []
message_to id act = []

abbrev pub sent : ℕ → Trace Act → List (List ℕ)
sent id Start = []
sent id (t ▷ act) = sent id t ++ message_to id act

-- the other end's capabilities were read
abbrev pub tells_capabilities : List Pdu → Bool
tells_capabilities [] = false
tells_capabilities (Caps version charges ∷ pdus) = true
tells_capabilities (pdu ∷ pdus) = tells_capabilities pdus

abbrev pub is_ready : Trace Act → Bool
is_ready Start = false
is_ready (t ▷ act) = is_ready t || tells_capabilities (came act)
