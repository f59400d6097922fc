-- What an end leaves aside, and counts.
use Rattle.std.specs.Prelude.{ℕ, ◌+◌, min, Bool, true, false, ◌&&◌, List, [], ◌∷◌, ◌++◌, is_some, Option, Some, None, if◌then◌else◌}
use Rattle.std.specs.List.{flat_map}
use Rattle.mt_base.specs.declared.kinds.Kind.{Kind}
use Rattle.mt_base.specs.declared.kinds.Kind.TheVariants.{Reliable, Lossy}
use Rattle.mt_base.specs.declared.kinds.Role.{Role}
use Rattle.mt_base.specs.declared.kinds.Role.TheVariants.{Server, Client}
use Rattle.mt_base.specs.Trace.{Trace, Start, ◌▷◌}
use Rattle.carrier.specs.declared.state.Took.{Took}
use Rattle.carrier.specs.declared.state.Took.TheVariants.{Used, Ignored}
use Rattle.carrier.specs.declared.state.Reason.{Reason}
use Rattle.carrier.specs.declared.state.Reason.TheVariants as reason
use Rattle.dvc_pdus.specs.Value.{Pdu, CompressedFirst, Compressed}
use Rattle.dvc_channels.specs.declared.answers.ChannelState.{ChannelState}
use Rattle.dvc_channels.specs.declared.answers.ChannelState.TheVariants as state
use Rattle.mt_endpoint.specs.Acts.{Act, Closes, Hears, Draws, Misses, Releases, Discards, Drawn, CreateAsked, CreateAnswered, Nothing, Carried}
use Rattle.mt_endpoint.specs.Said.{Said, Brings, Ends, said}
use Rattle.mt_endpoint.specs.Channels.{came, channel, is_open}
use Rattle.mt_endpoint.specs.Holding.{Held, held, only, channel_of, is_held, without_first}
use Rattle.mt_endpoint.specs.Tunnels.{answer}
use Rattle.end_calls.specs.declared.counters.Counters.{Counters}
use Rattle.end_calls.specs.Calls.{Entry, WireIn, acts}

-- why a PDU or a part was left aside
pub data Drop : Type 0 where
  ByCompression : Drop
  ByClose : Drop
  ByLoss : Drop

abbrev pub is_compressed : Pdu → Bool
is_compressed (CompressedFirst id total bytes) = true
is_compressed (Compressed id bytes) = true
is_compressed pdu = false

-- a PDU that brings data
abbrev pub is_data_in : Said → Bool
is_data_in (Brings id) = true
is_data_in other = false

-- data that are left aside for another reason than that they are compressed
abbrev pub drop_for : Drop → Pdu → List Drop
drop_for why pdu = (if is_compressed pdu then ByCompression else why) ∷ []

-- data of a channel in this state: an open one leaves the compressed ones aside, a closed one all
abbrev pub dropped_in : ChannelState → Pdu → List Drop
dropped_in state.Unknown pdu = []
dropped_in state.Asked pdu = []
dropped_in state.Open pdu = if is_compressed pdu then ByCompression ∷ [] else []
dropped_in state.Refused pdu = []
dropped_in state.Closed pdu = drop_for ByClose pdu

abbrev pub dropped_of : Role → Trace Act → Pdu → Option ℕ → List Drop
dropped_of role t pdu None = []
dropped_of role t pdu (Some id) = if is_data_in (said pdu) then dropped_in (channel role id t) pdu else []

abbrev pub dropped : Role → Trace Act → Pdu → List Drop
dropped role t pdu = dropped_of role t pdu (channel_of pdu)

-- what is held of a channel as it closes
abbrev pub of_held : Held → List Drop
of_held h = if is_data_in (said h.pdu) then drop_for ByClose h.pdu else []

abbrev pub all_held : Role → Trace Act → ℕ → List Held
all_held role t id = only id (held role Reliable t) ++ only id (held role Lossy t)

abbrev pub left_behind : Role → Trace Act → ℕ → List Held → List Drop
left_behind role t id queue = if is_open role id t then flat_map of_held queue else []

abbrev pub of_channel : Role → Trace Act → Option ℕ → List Held
of_channel role t None = []
of_channel role t (Some id) = all_held role t id

-- the same without the first that is held of the tunnel of this kind, which is the PDU released
abbrev pub all_of : Kind → Option ℕ → Role → Trace Act → List Held
all_of kind None role t = []
all_of Reliable (Some id) role t = only id (without_first (Some id) (held role Reliable t)) ++ only id (held role Lossy t)
all_of Lossy (Some id) role t = only id (held role Reliable t) ++ only id (without_first (Some id) (held role Lossy t))

-- a close that comes
abbrev pub closed_by : Role → Trace Act → Said → List Held → List Drop
closed_by role t (Ends id) queue = left_behind role t id queue
closed_by role t other queue = []

abbrev pub is_closed_state : ChannelState → Bool
is_closed_state state.Unknown = false
is_closed_state state.Asked = false
is_closed_state state.Open = false
is_closed_state state.Refused = false
is_closed_state state.Closed = true

abbrev pub is_of_closed : Role → Trace Act → Option ℕ → Bool
is_of_closed role t None = false
is_of_closed role t (Some id) = is_closed_state (channel role id t)

-- a channel PDU that the lossy link brings and that isn't held
abbrev pub lost : Role → Trace Act → Pdu → List Drop
lost role t pdu = drop_for (if is_data_in (said pdu) && is_of_closed role t (channel_of pdu) then ByClose else ByLoss) pdu

abbrev pub of_lossy : Role → Trace Act → Drawn → List Drop
of_lossy Server t (CreateAsked id cookie) = []
of_lossy Client t (CreateAsked id cookie) = ByLoss ∷ []
of_lossy Server t (CreateAnswered hr) = ByLoss ∷ []
of_lossy Client t (CreateAnswered hr) = if is_some (answer Lossy t) then ByLoss ∷ [] else []
of_lossy role t Nothing = []
of_lossy role t (Carried bytes pdu) = if is_held role Lossy t bytes pdu (held role Lossy t) then [] else lost role t pdu

-- a channel PDU that the reliable link brings and that isn't held: its channel is closed
abbrev pub of_reliable : Role → Trace Act → Drawn → List Drop
of_reliable role t (CreateAsked id cookie) = []
of_reliable role t (CreateAnswered hr) = []
of_reliable role t Nothing = []
of_reliable role t (Carried bytes pdu) = if is_of_closed role t (channel_of pdu) then dropped role t pdu else []

-- what an act leaves aside
abbrev pub drops_by : Role → Trace Act → Act → List Drop
drops_by role t (Closes id) = left_behind role t id (all_held role t id)
drops_by role t (Draws Reliable at drawn) = of_reliable role t drawn
drops_by role t (Draws Lossy at drawn) = of_lossy role t drawn
drops_by role t Misses = ByLoss ∷ []
drops_by role t (Releases kind at bytes pdu) =
    dropped role t pdu ++ closed_by role t (said pdu) (all_of kind (channel_of pdu) role t)
drops_by role t (Discards at bytes pdu) = ByLoss ∷ []
drops_by role t (Hears heard) =
    flat_map (λ pdu. dropped role t pdu ++ closed_by role t (said pdu) (of_channel role t (channel_of pdu))) (came (Hears heard))
drops_by role t act = []

abbrev pub drops : Role → Trace Act → List Drop
drops role Start = []
drops role (t ▷ act) = drops role t ++ drops_by role t act

-- ---- the counts

abbrev pub is_same : Drop → Drop → Bool
is_same ByCompression ByCompression = true
is_same ByCompression ByClose = false
is_same ByCompression ByLoss = false
is_same ByClose ByCompression = false
is_same ByClose ByClose = true
is_same ByClose ByLoss = false
is_same ByLoss ByCompression = false
is_same ByLoss ByClose = false
is_same ByLoss ByLoss = true

abbrev pub count_of : Drop → List Drop → ℕ
count_of why [] = 0
count_of why (d ∷ drops) = (if is_same why d then 1 else 0) + count_of why drops

abbrev pub is_ignored : Took → Bool
is_ignored Used = false
is_ignored (Ignored why) = true

abbrev pub is_fec_reason : Reason → Bool
is_fec_reason reason.FecDropped = true
is_fec_reason why = false

abbrev pub is_fec : Took → Bool
is_fec Used = false
is_fec (Ignored why) = is_fec_reason why

-- how many datagrams were answered so
abbrev pub answers : (Took → Bool) → Trace Entry → ℕ
answers is_it Start = 0
answers is_it (t ▷ WireIn kind now datagram took load brought pulls parts lack) = answers is_it t + (if is_it took then 1 else 0)
answers is_it (t ▷ entry) = answers is_it t

-- a count stops at the greatest u64
abbrev pub told_count : ℕ → ℕ
told_count n = min n 18446744073709551615

abbrev pub counters : Role → Trace Entry → Counters
counters role t =
    let dropped_so_far = drops role (acts role t) in record {
      ignored = told_count (answers is_ignored t);
      fec = told_count (answers is_fec t);
      compressed = told_count (count_of ByCompression dropped_so_far);
      lossy = told_count (count_of ByLoss dropped_so_far);
      closed = told_count (count_of ByClose dropped_so_far);
    }
