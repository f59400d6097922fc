-- The calls that an end can have had: the law of its trace.
use Rattle.std.specs.Prelude.{◌≡◌, ℕ, ◌+◌, ◌<◌, ◌≤◌, ◌^◌, List, length, take, All, slice_get, true, Some}
use Rattle.mt_base.specs.declared.kinds.Role.{Role}
use Rattle.mt_base.specs.declared.kinds.Role.TheVariants.{Server}
use Rattle.mt_base.specs.Trace.{Trace, Start, ◌▷◌}
use Rattle.dvc_pdus.specs.Value.{Data, IsPdu, IsName}
use Rattle.mt_world.specs.declared.channel.ChannelState.TheVariants.{Open}
use Rattle.mt_world.specs.Acts.{Entry, Made, Opened, Sent, MainIn, MainOut, Took, past, channel, names, is_ready, unsent, waiting}

-- each is a byte
abbrev pub IsBytes : List ℕ → Type 0
IsBytes bytes = All (λ b. b < 2 ^ 8) bytes

-- the channels that a session may have
abbrev pub channel_limit : ℕ
channel_limit = 1

-- An end is made at most once, and first. The server alone creates channels, once it has read the
-- client's capabilities, up to the limit, with the next id and a name. A message is
-- sent on an open channel and fits one data PDU. All bytes that are offered are taken. What is taken
-- for the main stream is the front of what was written and not taken before. A message that is
-- handed out is the first that came and was not handed out before.
abbrev pub EndTrace : Role → Trace Entry → Type 0
EndTrace role Start = Unit {0}
EndTrace role (t ▷ Made) = (t ≡ Start) × EndTrace role t
EndTrace role (t ▷ Opened id name) =
    (role ≡ Server) × (id ≡ length (names (past role t).acts) + 1) × (id ≤ channel_limit) × IsName name × (is_ready (past role t).acts ≡ true) × EndTrace role t
EndTrace role (t ▷ Sent id message) =
    (channel id (past role t).acts ≡ Open) × IsPdu role (Data id message) × EndTrace role t
EndTrace role (t ▷ MainIn offered count) = IsBytes offered × (count ≡ length offered) × EndTrace role t
EndTrace role (t ▷ MainOut room bytes) = (bytes ≡ take room (unsent role t)) × EndTrace role t
EndTrace role (t ▷ Took id message) = (slice_get (waiting id role t) 0 ≡ Some message) × EndTrace role t
