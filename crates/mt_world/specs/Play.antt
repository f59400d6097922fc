-- Play: what the lines of a script do, as a list of calls of both sides and an end.
use Rattle.std.specs.Prelude.{ℕ, ◌+◌, ◌==◌, ◌&&◌, ◌||◌, Bool, true, false, not, List, [], ◌∷◌, length, take, fold, nat_lt, nat_le, Option, None, Some, Result, Ok, Err}
use Rattle.std.specs.List.{position_from}
use Rattle.mt_base.specs.declared.kinds.Role.{Role}
use Rattle.mt_base.specs.declared.kinds.Role.TheVariants.{Server, Client}
use Rattle.mt_base.specs.Ends.{other}
use Rattle.mt_base.specs.Trace.{Trace, Start, ◌▷◌}
use Rattle.mt_script.specs.declared.event.Event.{Event}
use Rattle.mt_script.specs.declared.event.Event.TheVariants as event
use Rattle.mt_script.specs.declared.event.Line.{Line}
use Rattle.mt_world.specs.declared.channel.ChannelState.{ChannelState}
use Rattle.mt_world.specs.declared.channel.ChannelState.TheVariants as state
use Rattle.mt_world.specs.declared.refusal.OpenRefusal.{OpenRefusal}
use Rattle.mt_world.specs.declared.refusal.OpenRefusal.TheVariants as open_refusal
use Rattle.mt_world.specs.declared.refusal.SendRefusal.{SendRefusal}
use Rattle.mt_world.specs.declared.refusal.SendRefusal.TheVariants as send_refusal
use Rattle.mt_world.specs.declared.refusal.Refused.TheVariants as refused
use Rattle.mt_world.specs.declared.refusal.StepRefusal.{StepRefusal}
use Rattle.mt_world.specs.declared.refusal.StepRefusal.TheVariants as step
use Rattle.mt_world.specs.Acts.{Entry, Act, Made, Opened, Sent, MainIn, MainOut, Took, names, is_ready, channel, unsent, waiting}
use Rattle.mt_world.specs.Ends.{channel_limit}
use Rattle.mt_world.specs.Net.{at, acts_of}

-- the first cause that there is
infixl 40 ◌or_else◌
abbrev pub ◌or_else◌ : {A : Type 0} → Option A → Option A → Option A
(Some cause) or_else later = Some cause
None or_else later = later

-- a cause where a test says so
abbrev pub when : {A : Type 0} → Bool → A → Option A
when true cause = Some cause
when false cause = None

-- a byte that a name may not have
abbrev pub is_wrong : ℕ → Bool
is_wrong b = nat_lt b 0x20 || nat_lt 0x7E b

-- the place of a name's fault: its first wrong byte among the first 255, 0 where it is empty, 255
-- where more bytes follow
abbrev pub name_fault : List ℕ → Option ℕ
name_fault name =
    when (length name == 0) 0 or_else position_from is_wrong 0 (take 255 name) or_else when (nat_lt 255 (length name)) 255

abbrev pub bad_name : Option ℕ → Option OpenRefusal
bad_name None = None
bad_name (Some place) = Some (open_refusal.BadName place)

-- the bytes that a message may have
abbrev pub message_limit : ℕ
message_limit = 1598

-- why the server does not create a channel of this name
abbrev pub open_refusal_of : Trace Act → List ℕ → Option OpenRefusal
open_refusal_of acts name =
    when (not (is_ready acts)) open_refusal.NotReady or_else bad_name (name_fault name)
    or_else when (nat_le channel_limit (length (names acts))) (open_refusal.TooMany channel_limit)

-- why an end does not send on a channel in this state
abbrev pub state_refusal : ChannelState → Option SendRefusal
state_refusal state.Unknown = Some send_refusal.UnknownChannel
state_refusal state.Asked = Some send_refusal.NotOpen
state_refusal state.Open = None
state_refusal state.Refused = Some send_refusal.NotOpen

-- why an end does not send this message
abbrev pub send_refusal_of : Trace Act → ℕ → List ℕ → Option SendRefusal
send_refusal_of acts id message =
    state_refusal (channel id acts)
    or_else when (nat_lt message_limit (length message)) (send_refusal.MessageTooLong message_limit)

-- an `open` line made a channel of this id
abbrev pub is_made : ℕ → Trace Act → Bool
is_made id acts = nat_le 1 id && nat_le id (length (names acts))

-- the refusal of a step, where there is a cause
abbrev pub refused_open : Option OpenRefusal → Option StepRefusal
refused_open None = None
refused_open (Some cause) = Some (step.Refused (refused.Open cause))

abbrev pub refused_send : Option SendRefusal → Option StepRefusal
refused_send None = None
refused_send (Some cause) = Some (step.Refused (refused.Send cause))

-- the list goes on, unless there is a cause against it
abbrev pub unless : {A : Type 0} → Option StepRefusal → A → Result A StepRefusal
unless None list = Ok list
unless (Some cause) list = Err cause

-- the calls that an event makes, or why it is refused
abbrev pub calls : Trace (Role × Entry) → Event → Result (Trace (Role × Entry)) StepRefusal
calls w (event.Open name) =
    unless (refused_open (open_refusal_of (acts_of Server w) name))
    (w ▷ (Server, Opened (length (names (acts_of Server w)) + 1) name))
calls w (event.Send side id message) =
    unless (when (not (is_made id (acts_of Server w))) step.UnknownChannel or_else refused_send (send_refusal_of (acts_of side w) id message))
    (w ▷ (side, Sent id message))
calls w (event.Main side) =
    let bytes = unsent side (at side w) in
    Ok (w ▷ (side, MainOut (length bytes) bytes) ▷ (other side, MainIn bytes (length bytes)))

-- these messages of a channel are handed out
abbrev pub handed_out : ℕ → Trace Entry → List (List ℕ) → Trace Entry
handed_out id t messages = fold (λ u message. u ▷ Took id message) t messages

-- these messages of a channel are handed out at a side
abbrev pub handed : Role → ℕ → Trace (Role × Entry) → List (List ℕ) → Trace (Role × Entry)
handed side id w messages = fold (λ v message. v ▷ (side, Took id message)) w messages

-- all whole messages at a side are handed out, in order of channel id
abbrev pub all_taken : Role → Trace (Role × Entry) → Trace (Role × Entry)
all_taken side w = fold (λ v id. handed side id v (waiting id side (at side v))) w (1 ∷ [])

-- After the calls of an event all whole messages are handed out, the server's first.
abbrev pub then_taken : Result (Trace (Role × Entry)) StepRefusal → Result (Trace (Role × Entry)) StepRefusal
then_taken (Ok w) = Ok (all_taken Client (all_taken Server w))
then_taken (Err cause) = Err cause

-- the list after an event, or why it is refused
abbrev pub played : Trace (Role × Entry) → Event → Result (Trace (Role × Entry)) StepRefusal
played w e = then_taken (calls w e)

-- both ends were made
abbrev pub start : Trace (Role × Entry)
start = Start ▷ (Server, Made) ▷ (Client, Made)

-- how a script ends
pub data Ending : Type 0 where
  Done : Ending
  RefusedAt : (line : ℕ) (cause : StepRefusal) → Ending

-- the list that the lines of a script give from w on, and how they end
abbrev pub play : Trace (Role × Entry) → List Line → Trace (Role × Entry) × Ending
play w [] = (w, Done)
play w (next ∷ lines) =
    elim (played w next.event) [ Ok v ↦ play v lines | Err cause ↦ (w, RefusedAt next.number cause) ]
