-- The path of a close, and what is written on a path.
use Rattle.std.specs.Prelude.{ℕ, ◌+◌, ◌≤◌, List, ◌++◌, length, Option}
use Rattle.mt_base.specs.declared.kinds.Kind.TheVariants.{Reliable, Lossy}
use Rattle.mt_base.specs.declared.kinds.Role.{Role}
use Rattle.mt_base.specs.Trace.{Trace}
use Rattle.mt_base.specs.Writing.{joined}
use Rattle.soft_sync.specs.declared.kinds.Path.{Path}
use Rattle.soft_sync.specs.declared.kinds.Path.TheVariants.{Main, Tunnel}
use Rattle.tunnel_pdus.specs.Value.{Channel, Data, frame_fields, pdu_fields}
use Rattle.mt_endpoint.specs.Acts.{Act}
use Rattle.mt_endpoint.specs.Channels.{channel}
use Rattle.mt_endpoint.specs.Moving.{outward}
use Rattle.end_calls.specs.declared.fault.Fault.{Fault}
use Rattle.end_calls.specs.declared.limits.TheConstants.{MAIN_QUEUE}
use Rattle.end_calls.specs.declared.refusal.CloseRefusal.{CloseRefusal}
use Rattle.end_calls.specs.declared.refusal.CloseRefusal.TheVariants as close
use Rattle.end_calls.specs.Refusing.{◌or_else◌, because, link_limit, main_limit, passes, silence_for_close, when, why_not_in, Loads}
use Rattle.end_session.specs.Outgoing.{Outgoing, waiting_for, with_bytes}

-- a close never goes through a lossy tunnel
abbrev pub closing_path : Path → Path
closing_path Main = Main
closing_path (Tunnel Reliable) = Tunnel Reliable
closing_path (Tunnel Lossy) = Main

-- there is room on a path for a channel PDU of so many bytes
abbrev pub HasRoom : Path → ℕ → Outgoing → Type 0
HasRoom Main size o = length o.main + (3 + size) ≤ MAIN_QUEUE
HasRoom (Tunnel kind) size o = length (waiting_for kind o) + (4 + size) ≤ 3072

-- the bytes of a channel PDU are written on a path
abbrev pub written_on : Path → List ℕ → Outgoing → Outgoing
written_on Main pdu o = record o { main = o.main ++ joined (frame_fields (Channel pdu)) }
written_on (Tunnel kind) pdu o = with_bytes kind (joined (pdu_fields (Data pdu))) o

-- ---- why a channel isn't closed

-- the causes that are looked at before the queue
abbrev pub before_closing : Option Fault → Role → Trace Act → ℕ → Option CloseRefusal
before_closing broken role t id =
    because close.Broken broken or_else why_not_in close.UnknownChannel close.NotOpen close.ChannelClosed (channel role id t)
    or_else because close.TunnelSilent (silence_for_close t (outward id t))

-- the queue of a path has no room for so many bytes, which a header is put before
abbrev pub full_for_size : Trace Act → Loads → Path → ℕ → Option CloseRefusal
full_for_size t loads Main size =
    when (passes loads.unsent (size + 3) (main_limit t)) (close.QueueFull loads.unsent (main_limit t))
full_for_size t loads (Tunnel kind) size =
    when (passes loads.reliable (size + 4) link_limit) (close.QueueFull loads.reliable link_limit)

-- what the queues hold: what waits of the main stream, the load of the reliable link, and parts in the
-- lossy one
abbrev pub loads_of : Outgoing → ℕ → ℕ → Loads
loads_of o load parts = record { unsent = length o.main; reliable = load; lossy = parts }
