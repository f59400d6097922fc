-- Why a step of an end's own is refused: the first cause, in the order of the refusals. What a queue
-- holds is counted as it stands in it: whole frames on the main stream, whole tunnel PDUs in a link.
use Rattle.std.specs.Prelude.{ℕ, ◌+◌, ◌-◌, ◌==◌, nat_lt, nat_le, Bool, true, false, not, ◌||◌, List, [], ◌∷◌, length, take, map, option_map, is_some, Option, Some, None}
use Rattle.std.specs.Option.{option_or}
use Rattle.std.specs.List.{flat_map, position_from}
use Rattle.mt_base.specs.declared.kinds.Kind.{Kind}
use Rattle.mt_base.specs.declared.kinds.Kind.TheVariants.{Reliable, Lossy}
use Rattle.mt_base.specs.declared.kinds.Role.{Role}
use Rattle.mt_base.specs.declared.kinds.Role.TheVariants.{Server}
use Rattle.mt_base.specs.Trace.{Trace}
use Rattle.mt_windows.specs.declared.limits.TheConstants.{QUEUE, WINDOW}
use Rattle.dvc_pdus.specs.Value.{Pdu, Caps, Close, CreateRequest, sync_request}
use Rattle.dvc_channels.specs.Acts as channels
use Rattle.dvc_channels.specs.Fragments.{fragments_of}
use Rattle.dvc_channels.specs.declared.answers.ChannelState.{ChannelState}
use Rattle.dvc_channels.specs.declared.answers.ChannelState.TheVariants as state
use Rattle.soft_sync.specs.declared.kinds.Path.{Path}
use Rattle.soft_sync.specs.declared.kinds.Path.TheVariants.{Main, Tunnel}
use Rattle.soft_sync.specs.Words.{Words, why_not}
use Rattle.tunnel_cookies.specs.declared.entry.IssueRefusal.{IssueRefusal}
use Rattle.tunnel_cookies.specs.declared.entry.IssueRefusal.TheVariants as issue
use Rattle.tunnel_cookies.specs.Entries.{Entries, entry_of}
use Rattle.mt_endpoint.specs.Acts.{Act, Hears, Heard, Spoken, TunnelAsked, Carried}
use Rattle.mt_endpoint.specs.Channels.{table, channel, is_open, is_ready}
use Rattle.mt_endpoint.specs.Moving.{made, read, outward}
use Rattle.mt_endpoint.specs.Tunnels.{asked, issued, is_live, silence, first_told}
use Rattle.mt_endpoint.specs.Writing.{framed, tunneled}
use Rattle.dvc_pdus.specs.Value.{spelled}
use Rattle.end_calls.specs.declared.fault.Fault.{Fault}
use Rattle.end_calls.specs.declared.refusal.SendRefusal.{SendRefusal}
use Rattle.end_calls.specs.declared.refusal.SendRefusal.TheVariants as send
use Rattle.end_calls.specs.declared.refusal.OpenRefusal.{OpenRefusal}
use Rattle.end_calls.specs.declared.refusal.OpenRefusal.TheVariants as opening
use Rattle.end_calls.specs.declared.refusal.AskRefusal.{AskRefusal}
use Rattle.end_calls.specs.declared.refusal.AskRefusal.TheVariants as ask
use Rattle.end_calls.specs.declared.refusal.MoveRefusal.{MoveRefusal}
use Rattle.end_calls.specs.declared.refusal.MoveRefusal.TheVariants as move
use Rattle.end_calls.specs.declared.refusal.CloseRefusal.{CloseRefusal}
use Rattle.end_calls.specs.declared.refusal.CloseRefusal.TheVariants as close
use Rattle.end_calls.specs.declared.limits.TheConstants.{MAIN_QUEUE, RESERVE, CONTROL, MESSAGE, LOSSY_MESSAGE}
use Rattle.end_calls.specs.Stops.{answers_owed}

-- the first cause that there is
infixl 40 ◌or_else◌
abbrev pub ◌or_else◌ : {A : Type 0} → Option A → Option A → Option A
first or_else later = option_or first later

abbrev pub when : {A : Type 0} → Bool → A → Option A
when true cause = Some cause
when false cause = None

abbrev pub because : {A B : Type 0} → (A → B) → Option A → Option B
because wrap cause = option_map wrap cause

-- ---- queues

-- so many bytes more would pass the limit
abbrev pub passes : ℕ → ℕ → ℕ → Bool
passes queued more limit = nat_lt limit (queued + more)

-- what control PDUs may fill of the main queue, and of a reliable link's
abbrev pub main_limit : Trace Act → ℕ
main_limit t = MAIN_QUEUE - (CONTROL + answers_owed t)

abbrev pub link_limit : ℕ
link_limit = QUEUE - CONTROL

-- and what messages may
abbrev pub main_message_limit : ℕ
main_message_limit = MAIN_QUEUE - RESERVE

abbrev pub link_message_limit : ℕ
link_message_limit = QUEUE - RESERVE

abbrev pub frame_size : Heard → ℕ
frame_size heard = length (framed heard)

abbrev pub frames_size : List Pdu → ℕ
frames_size pdus = length (flat_map (λ pdu. framed (Spoken pdu)) pdus)

abbrev pub tunnel_size : List Pdu → ℕ
tunnel_size pdus = length (flat_map (λ pdu. tunneled (Carried (spelled pdu) pdu)) pdus)

-- ---- a channel is created

-- a byte that a name may not have
abbrev pub is_wrong : ℕ → Bool
is_wrong byte = nat_lt byte 0x20 || nat_lt 0x7E byte

-- the place of a name's fault: 0 where it is empty, else its first wrong byte among the first 255, or
-- 255 where more follow
abbrev pub name_fault : List ℕ → Option ℕ
name_fault name =
    when (length name == 0) 0 or_else position_from is_wrong 0 (take 255 name) or_else when (nat_lt 255 (length name)) 255

abbrev pub next_id : Trace Act → ℕ
next_id t = length (channels.ids (table Server t)) + 1

abbrev pub why_not_opened : Option Fault → Trace Act → ℕ → List ℕ → Option OpenRefusal
why_not_opened broken t queued name =
    because opening.Broken broken or_else when (not (is_ready t)) opening.NotReady
    or_else because opening.BadName (name_fault name) or_else when (nat_lt 256 (next_id t)) (opening.TooMany 256)
    or_else when (passes queued (frame_size (Spoken (CreateRequest (next_id t) 0 name))) (main_limit t)) (opening.QueueFull queued (main_limit t))

-- ---- a message is sent

abbrev pub why_not_in : {A : Type 0} → A → A → A → ChannelState → Option A
why_not_in unknown not_open closed state.Unknown = Some unknown
why_not_in unknown not_open closed state.Asked = Some not_open
why_not_in unknown not_open closed state.Open = None
why_not_in unknown not_open closed state.Refused = Some not_open
why_not_in unknown not_open closed state.Closed = Some closed

-- the expiries of the silent tunnel that a path goes through
abbrev pub silence_on : Trace Act → Path → Option ℕ
silence_on t Main = None
silence_on t (Tunnel kind) = silence kind t

abbrev pub too_long_for : Path → ℕ → Bool
too_long_for Main size = false
too_long_for (Tunnel Reliable) size = false
too_long_for (Tunnel Lossy) size = nat_lt LOSSY_MESSAGE size

-- what the queues of a path hold: unsent bytes of the main stream, the load of the reliable link, and
-- the parts that wait in the lossy one
pub record Loads : Type 0 where
  pub unsent : ℕ
  pub reliable : ℕ
  pub lossy : ℕ

abbrev pub full_for : Loads → Path → List Pdu → Option SendRefusal
full_for loads Main pdus =
    when (passes loads.unsent (frames_size pdus) main_message_limit) (send.QueueFull loads.unsent main_message_limit)
full_for loads (Tunnel Reliable) pdus =
    when (passes loads.reliable (tunnel_size pdus) link_message_limit) (send.QueueFull loads.reliable link_message_limit)
full_for loads (Tunnel Lossy) pdus = when (nat_le WINDOW loads.lossy) (send.QueueFull loads.lossy WINDOW)

abbrev pub why_not_sent : Option Fault → Role → Trace Act → Loads → ℕ → List ℕ → Option SendRefusal
why_not_sent broken role t loads id message =
    because send.Broken broken
    or_else why_not_in send.UnknownChannel send.NotOpen send.ChannelClosed (channel role id t)
    or_else because send.TunnelSilent (silence_on t (outward id t))
    or_else when (nat_lt MESSAGE (length message)) (send.MessageTooLong MESSAGE)
    or_else when (too_long_for (outward id t) (length message)) (send.TooLongForLossy LOSSY_MESSAGE)
    or_else full_for loads (outward id t) (fragments_of id message)

-- ---- a tunnel is asked for

abbrev pub why_not_issued : ℕ → Entries → Option IssueRefusal
why_not_issued id entries = when (is_some (entry_of id entries)) issue.Known or_else when (nat_le 16 (length entries)) (issue.TooMany 16)

abbrev pub why_not_asked : Option Fault → Trace Act → ℕ → Kind → ℕ → List ℕ → Option AskRefusal
why_not_asked broken t queued kind id cookie =
    because ask.Broken broken or_else when (is_some (asked kind t)) ask.AlreadyAsked
    or_else because ask.Issue (why_not_issued id (issued t))
    or_else when (passes queued (frame_size (TunnelAsked id kind cookie)) (main_limit t)) (ask.QueueFull queued (main_limit t))

-- ---- channels are moved

-- the version that the client's capabilities tell, 0 before they are read
abbrev pub version_in : Act → Option ℕ
version_in (Hears (Spoken (Caps version charges))) = Some version
version_in act = None

abbrev pub or_zero : Option ℕ → ℕ
or_zero None = 0
or_zero (Some version) = version

-- the words, by the acts
abbrev pub words : Trace Act → Words
words t = record {
  version = or_zero (first_told version_in t);
  opened = record { reliable = is_live Server Reliable t; lossy = is_live Server Lossy t };
  channels = map (λ id. (id, is_open Server id t)) (channels.ids (table Server t));
  made = made t;
  read = read t;
}

abbrev pub why_not_moved : Option Fault → Trace Act → ℕ → List ℕ → List ℕ → Option MoveRefusal
why_not_moved broken t queued reliable lossy =
    because move.Broken broken or_else because move.Sync (why_not reliable lossy (words t))
    or_else when (passes queued (frame_size (Spoken (sync_request reliable lossy))) (main_limit t)) (move.QueueFull queued (main_limit t))

-- ---- a channel is closed

-- a close never goes through a lossy tunnel
abbrev pub silence_for_close : Trace Act → Path → Option ℕ
silence_for_close t Main = None
silence_for_close t (Tunnel Reliable) = silence Reliable t
silence_for_close t (Tunnel Lossy) = None

abbrev pub full_for_close : Trace Act → Loads → Path → ℕ → Option CloseRefusal
full_for_close t loads Main id =
    when (passes loads.unsent (frame_size (Spoken (Close id))) (main_limit t)) (close.QueueFull loads.unsent (main_limit t))
full_for_close t loads (Tunnel Reliable) id =
    when (passes loads.reliable (tunnel_size (Close id ∷ [])) link_limit) (close.QueueFull loads.reliable link_limit)
full_for_close t loads (Tunnel Lossy) id =
    when (passes loads.unsent (frame_size (Spoken (Close id))) (main_limit t)) (close.QueueFull loads.unsent (main_limit t))

abbrev pub why_not_closed : Option Fault → Role → Trace Act → Loads → ℕ → Option CloseRefusal
why_not_closed broken role t loads id =
    because close.Broken broken
    or_else why_not_in close.UnknownChannel close.NotOpen close.ChannelClosed (channel role id t)
    or_else because close.TunnelSilent (silence_for_close t (outward id t))
    or_else full_for_close t loads (outward id t) id
