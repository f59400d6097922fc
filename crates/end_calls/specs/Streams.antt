-- From bytes to acts. An end reads two streams, the main one and that of its reliable link, each value
-- as soon as its last byte has come; and the parts of its lossy link, each a value of its own.
use Rattle.std.specs.Prelude.{ℕ, ◌+◌, ◌==◌, not, min, nat_eq, Bool, false, List, [], ◌∷◌, ◌++◌, length, drop, is_some, option_map, Option, Some, None, Result, Ok, Err, if◌then◌else◌}
use Rattle.std.specs.Cmp.Lexicographic.{pointwise}
use Rattle.mt_base.specs.declared.kinds.Kind.{Kind}
use Rattle.mt_base.specs.declared.kinds.Kind.TheVariants.{Reliable, Lossy}
use Rattle.mt_base.specs.declared.kinds.Role.{Role}
use Rattle.mt_base.specs.declared.kinds.Role.TheVariants.{Server, Client}
use Rattle.mt_base.specs.Ends.{other}
use Rattle.mt_base.specs.Trace.{Trace, Start}
use Rattle.dvc_pdus.specs.declared.pdu.DvcRefusal.{DvcRefusal}
use Rattle.dvc_pdus.specs.Value.{Pdu}
use Rattle.dvc_pdus.specs.Reading as dvc
use Rattle.tunnel_pdus.specs.declared.part.Part.{Part}
use Rattle.tunnel_pdus.specs.declared.part.Part.TheVariants.{Whole, More}
use Rattle.tunnel_pdus.specs.declared.part.TunnelRefusal.{TunnelRefusal}
use Rattle.tunnel_pdus.specs.Value as tunnel
use Rattle.tunnel_pdus.specs.Reading.{reading, frame_reading}
use Rattle.tunnel_cookies.specs.declared.entry.Entry.{Entry}
use Rattle.tunnel_cookies.specs.declared.entry.Verdict.{Verdict}
use Rattle.tunnel_cookies.specs.declared.entry.Verdict.TheVariants as verdict
use Rattle.tunnel_cookies.specs.Entries.{entry_of}
use Rattle.mt_endpoint.specs.Acts.{Act, Hears, Draws, Judges, Misses, Heard, TunnelAsked, TunnelAnswered, Spoken, Drawn, CreateAsked, CreateAnswered, Nothing, Carried}
use Rattle.mt_endpoint.specs.Tunnels.{issued, link_of}
use Rattle.mt_base.specs.Ends.{same_kind}
use Rattle.mt_endpoint.specs.Faults.{Why, main_fault, tunnel_fault}
use Rattle.mt_endpoint.specs.Faults as why
use Rattle.mt_endpoint.specs.Growing.{grown}
use Rattle.mt_endpoint.specs.Writing.{carried}
use Rattle.end_calls.specs.declared.fault.Place.{Place}
use Rattle.end_calls.specs.declared.fault.Place.TheVariants as place
use Rattle.end_calls.specs.declared.fault.Fault.{Fault}
use Rattle.end_calls.specs.declared.fault.Fault.TheVariants as fault

-- a stream as far as it was read: where the value under way begins, and its bytes so far
pub record Under : Type 0 where
  pub at : ℕ
  pub bytes : List ℕ

-- the acts so far, both streams, and the fault that ended them
pub record Past : Type 0 where
  pub acts : Trace Act
  pub main : Under
  pub tunnel : Under
  pub broken : Option Fault

abbrev pub none_yet : Under
none_yet = record { at = 0; bytes = [] }

abbrev pub nothing : Past
nothing = record { acts = Start; main = none_yet; tunnel = none_yet; broken = None }

abbrev pub is_broken : Past → Bool
is_broken p = is_some p.broken

-- ---- faults

-- a place as it is told: the greatest u64 stands for all above it
abbrev pub told_place : ℕ → ℕ
told_place at = min at 18446744073709551615

abbrev pub on_main : ℕ → Place
on_main at = place.Main (told_place at)

abbrev pub in_tunnel : ℕ → Place
in_tunnel at = place.Reliable (told_place at)

abbrev pub fault_at : Place → Why → Fault
fault_at place why.Unexpected = fault.Unexpected place
fault_at place why.BadSyncAnswer = fault.BadSyncAnswer place
fault_at place (why.SyncUnknown id) = fault.SyncUnknown place id
fault_at place (why.Channel refusal) = fault.Channel place refusal
fault_at place (why.TooLateOnMain id) = fault.TooLateOnMain place id

abbrev pub breaks : Fault → Past → Past
breaks f p = record p { broken = Some f }

-- an act with what it makes due; a PDU that was held can have a fault as it is released
abbrev pub grows : Role → Act → Past → Past
grows role act p =
    let g = grown role p.acts act in
    record p { acts = g.acts; broken = option_map (λ (f : ℕ × Why). fault_at (in_tunnel f.0) f.1) g.fault }

-- a PDU that was read: its fault, or its act
abbrev pub reads : Role → Place → Option Why → Act → Past → Past
reads role place (Some w) act p = breaks (fault_at place w) p
reads role place None act p = grows role act p

-- ---- the main stream

abbrev pub spoken_by : Result Pdu DvcRefusal → Result Heard DvcRefusal
spoken_by (Ok pdu) = Ok (Spoken pdu)
spoken_by (Err refusal) = Err refusal

-- what a frame says, or why its channel PDU can't be read
abbrev pub heard_by : Role → tunnel.Frame → Result Heard DvcRefusal
heard_by role (tunnel.Request id kind cookie) = Ok (TunnelAsked id kind cookie)
heard_by role (tunnel.Response id hr) = Ok (TunnelAnswered id hr)
heard_by role (tunnel.Channel bytes) = spoken_by (dvc.reading (other role) bytes)

abbrev pub reads_heard : Role → ℕ → Result Heard DvcRefusal → Past → Past
reads_heard role at (Err refusal) p = breaks (fault.Pdu (on_main at) refusal) p
reads_heard role at (Ok heard) p = reads role (on_main at) (main_fault role p.acts heard) (Hears heard) p

-- the bytes of the value under way, and what they are
abbrev pub main_reads : Role → List ℕ → Result (Part tunnel.Frame) TunnelRefusal → Past → Past
main_reads role bytes (Ok (More need)) p = record p { main = record { at = p.main.at; bytes = bytes } }
main_reads role bytes (Ok (Whole frame used)) p =
    reads_heard role p.main.at (heard_by role frame) (record p { main = record { at = p.main.at + length bytes; bytes = [] } })
main_reads role bytes (Err refusal) p = breaks (fault.Stream (on_main p.main.at) refusal) p

-- one byte more; a broken end reads nothing
unfoldable pub with_main : Role → Past → ℕ → Past
with_main role p byte =
    if is_broken p then p
    else let bytes = p.main.bytes ++ byte ∷ [] in main_reads role bytes (frame_reading bytes) p

-- ---- tunnels

abbrev pub carried_by : List ℕ → Result Pdu DvcRefusal → Result Drawn DvcRefusal
carried_by bytes (Ok pdu) = Ok (Carried bytes pdu)
carried_by bytes (Err refusal) = Err refusal

-- what a tunnel PDU brings, or why its data are no channel PDU
abbrev pub drawn_by : Role → tunnel.Pdu → Result Drawn DvcRefusal
drawn_by role (tunnel.CreateRequest id cookie) = Ok (CreateAsked id cookie)
drawn_by role (tunnel.CreateResponse hr) = Ok (CreateAnswered hr)
drawn_by role (tunnel.Data []) = Ok Nothing
drawn_by role (tunnel.Data (byte ∷ bytes)) = carried_by (byte ∷ bytes) (dvc.reading (other role) (byte ∷ bytes))

-- the verdict on a link of this kind that asks with this cookie, by the entry of the id that it tells
abbrev pub by_spender : ℕ → Option ℕ → Verdict
by_spender link None = verdict.Opened
by_spender link (Some spender) = if nat_eq spender link then verdict.Again else verdict.Spent spender

abbrev pub verdict_by : Kind → List ℕ → Option Entry → Verdict
verdict_by kind cookie None = verdict.Unknown
verdict_by kind cookie (Some e) =
    if not (pointwise nat_eq cookie e.cookie) then verdict.WrongCookie
    else if not (same_kind kind e.kind) then verdict.WrongKind
    else by_spender (link_of kind) e.spender

-- the act of a PDU that is pulled: a server judges a create request
abbrev pub judged : Kind → ℕ → Trace Act → Bool → ℕ → List ℕ → Act
judged kind at t is_full id cookie = Judges kind at id cookie (verdict_by kind cookie (entry_of id (issued t))) is_full

abbrev pub drawing : Role → Kind → ℕ → Trace Act → Bool → Drawn → Act
drawing Server kind at t is_full (CreateAsked id cookie) = judged kind at t is_full id cookie
drawing Client kind at t is_full (CreateAsked id cookie) = Draws kind at (CreateAsked id cookie)
drawing role kind at t is_full (CreateAnswered hr) = Draws kind at (CreateAnswered hr)
drawing role kind at t is_full Nothing = Draws kind at Nothing
drawing role kind at t is_full (Carried bytes pdu) = Draws kind at (Carried bytes pdu)

abbrev pub reads_drawn : Role → ℕ → Result Drawn DvcRefusal → Past → Past
reads_drawn role at (Err refusal) p = breaks (fault.Pdu (in_tunnel at) refusal) p
reads_drawn role at (Ok drawn) p =
    reads role (in_tunnel at) (tunnel_fault role p.acts drawn) (drawing role Reliable at p.acts false drawn) p

abbrev pub tunnel_reads : Role → List ℕ → Result (Part tunnel.Pdu) TunnelRefusal → Past → Past
tunnel_reads role bytes (Ok (More need)) p = record p { tunnel = record { at = p.tunnel.at; bytes = bytes } }
tunnel_reads role bytes (Ok (Whole pdu used)) p =
    reads_drawn role p.tunnel.at (drawn_by role pdu) (record p { tunnel = record { at = p.tunnel.at + length bytes; bytes = [] } })
tunnel_reads role bytes (Err refusal) p = breaks (fault.Stream (in_tunnel p.tunnel.at) refusal) p

-- one byte more of the reliable link
unfoldable pub with_tunnel : Role → Past → ℕ → Past
with_tunnel role p byte =
    if is_broken p then p
    else let bytes = p.tunnel.bytes ++ byte ∷ [] in tunnel_reads role bytes (reading bytes) p

-- what a part of the lossy link brings, where it is one whole tunnel PDU
abbrev pub if_ok : Result Drawn DvcRefusal → Option Drawn
if_ok (Ok drawn) = Some drawn
if_ok (Err refusal) = None

abbrev pub if_whole : Role → ℕ → Result (Part tunnel.Pdu) TunnelRefusal → Option Drawn
if_whole role size (Ok (Whole pdu used)) = if used == size then if_ok (drawn_by role pdu) else None
if_whole role size (Ok (More need)) = None
if_whole role size (Err refusal) = None

-- the act of a part: its PDU is pulled, or it is missed; nothing in it is a fault
abbrev pub missed_or : Role → Trace Act → Bool → Option Drawn → Act
missed_or role t is_full None = Misses
missed_or role t is_full (Some drawn) = drawing role Lossy 0 t is_full drawn

-- one part more of the lossy link, which may be full for an answer
unfoldable pub with_part : Role → Past → List ℕ → Bool → Past
with_part role p bytes is_full =
    if is_broken p then p
    else grows role (missed_or role p.acts is_full (if_whole role (length bytes) (reading bytes))) p

-- what was written into a tunnel between two pasts
abbrev pub written : Kind → Role → Past → Past → List Drawn
written kind role p q = drop (length (carried kind role p.acts)) (carried kind role q.acts)
