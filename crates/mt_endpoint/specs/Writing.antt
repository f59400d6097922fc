-- What an end writes: frames on the main stream, and tunnel PDUs into its links.
use Rattle.std.specs.Prelude.{ℕ, Bool, true, false, List, [], ◌∷◌, ◌++◌, map, flat_map, Option, Some, None, if◌then◌else◌}
use Rattle.mt_base.specs.declared.kinds.Kind.{Kind}
use Rattle.mt_base.specs.declared.kinds.Kind.TheVariants.{Reliable, Lossy}
use Rattle.mt_base.specs.declared.kinds.Role.{Role}
use Rattle.mt_base.specs.declared.kinds.Role.TheVariants.{Server, Client}
use Rattle.mt_base.specs.Trace.{Trace, Start, ◌▷◌}
use Rattle.mt_base.specs.Writing.{joined}
use Rattle.dvc_pdus.specs.Value.{Pdu, Caps, CreateRequest, CreateResponse, Close, SyncResponse, spelled, sync_request}
use Rattle.dvc_channels.specs.Fragments.{fragments_of}
use Rattle.tunnel_pdus.specs.Value.{Frame, frame_fields, pdu_fields}
use Rattle.tunnel_pdus.specs.Value as tunnel
use Rattle.tunnel_cookies.specs.declared.entry.Verdict.{Verdict}
use Rattle.tunnel_cookies.specs.declared.entry.Verdict.TheVariants as verdict
use Rattle.soft_sync.specs.declared.kinds.Kinds.{Kinds}
use Rattle.soft_sync.specs.declared.kinds.Path.{Path}
use Rattle.soft_sync.specs.declared.kinds.Path.TheVariants.{Main, Tunnel}
use Rattle.mt_endpoint.specs.Acts.{Act, Began, Opens, Sends, Asks, Attaches, Repeats, Refuses, Syncs, Closes, Draws, Judges, Answers, Heard, TunnelAsked, TunnelAnswered, Spoken, Drawn, CreateAsked, CreateAnswered, Nothing, Carried}
use Rattle.mt_endpoint.specs.Said.{Said, Capable, Creates, Created, Brings, Ends, Moves, Moved, said}
use Rattle.mt_endpoint.specs.Channels.{came, table, has_place, is_closed}
use Rattle.mt_endpoint.specs.Tunnels.{Request, asked, answer, is_silent}
use Rattle.mt_base.specs.Ends.{same_kind}
use Rattle.mt_endpoint.specs.Moving.{outward}

-- one thing that is written
pub data Written : Type 0 where
  OnMain : (heard : Heard) → Written
  Into : (kind : Kind) (drawn : Drawn) → Written

-- a channel PDU on a path
abbrev pub on_path : Path → Pdu → Written
on_path Main pdu = OnMain (Spoken pdu)
on_path (Tunnel kind) pdu = Into kind (Carried (spelled pdu) pdu)

-- a close never goes through a lossy tunnel
abbrev pub closing : Path → ℕ → Written
closing Main id = OnMain (Spoken (Close id))
closing (Tunnel Reliable) id = on_path (Tunnel Reliable) (Close id)
closing (Tunnel Lossy) id = OnMain (Spoken (Close id))

-- the server begins with its capabilities, version 3 without priorities
abbrev pub began : Role → List Written
began Server = OnMain (Spoken (Caps 3 (Some (0 ∷ 0 ∷ 0 ∷ 0 ∷ [])))) ∷ []
began Client = []

-- the client asks through the tunnel for what the server asked it
abbrev pub create_request : Role → Kind → Option Request → List Written
create_request Server kind request = []
create_request Client kind None = []
create_request Client kind (Some request) = Into kind (CreateAsked request.id request.cookie) ∷ []

-- the frame by which the client tells what became of a tunnel
abbrev pub told_of : Option Request → ℕ → List Written
told_of None hr = []
told_of (Some request) hr = OnMain (TunnelAnswered request.id hr) ∷ []

abbrev pub unless : {A : Type 0} → Bool → List A → List A
unless true xs = []
unless false xs = xs

-- E_ACCESSDENIED (MS-ERREF section 2.1.1), by which creations are refused
abbrev pub DENIED : ℕ
DENIED = 2147942405

abbrev pub create_code : Verdict → ℕ
create_code verdict.Opened = 0
create_code verdict.Again = 0
create_code verdict.Unknown = DENIED
create_code verdict.WrongCookie = DENIED
create_code verdict.WrongKind = DENIED
create_code (verdict.Spent link) = DENIED

-- how a tunnel is full for one more part: a reliable one has room kept for such PDUs
abbrev pub is_full_for : Kind → Bool → Bool
is_full_for Reliable is_full = false
is_full_for Lossy is_full = is_full

-- the kinds of an answer, reliable first
abbrev pub types_of : Kinds → List Kind
types_of kinds = (if kinds.reliable then Reliable ∷ [] else []) ++ (if kinds.lossy then Lossy ∷ [] else [])

-- what a channel PDU that comes is answered with: the client answers capabilities and creations; and
-- either end answers the close of a channel that it has not closed
abbrev pub reply : Role → Trace Act → Said → List Written
reply Server t (Capable version) = []
reply Client t (Capable version) = OnMain (Spoken (Caps 3 None)) ∷ []
reply Server t (Creates id name) = []
reply Client t (Creates id name) =
    OnMain (Spoken (CreateResponse id (if has_place (table Client t) then 0 else DENIED))) ∷ []
reply role t (Created id status) = []
reply role t (Brings id) = []
reply role t (Ends id) = unless (is_closed role id t) (closing (outward id t) id ∷ [])
reply role t (Moves lists) = []
reply role t (Moved kinds) = []

abbrev pub replies : Role → Trace Act → List Pdu → List Written
replies role t pdus = flat_map (λ pdu. reply role t (said pdu)) pdus

-- the client tells the first answer that it draws from a tunnel
abbrev pub told_first : Role → Kind → Trace Act → Option ℕ → ℕ → List Written
told_first Server kind t before hr = []
told_first Client kind t None hr = told_of (asked kind t) hr
told_first Client kind t (Some before) hr = []

-- what an act writes
abbrev pub adds : Role → Trace Act → Act → List Written
adds role t Began = began role
adds role t (Opens id name) = OnMain (Spoken (CreateRequest id 0 name)) ∷ []
adds role t (Sends id message) = map (on_path (outward id t)) (fragments_of id message)
adds role t (Asks kind id cookie) = OnMain (TunnelAsked id kind cookie) ∷ []
adds role t (Attaches kind) = create_request role kind (asked kind t)
adds role t (Repeats is_full) = unless is_full (create_request role Lossy (asked Lossy t))
adds role t (Refuses kind hr) = told_of (asked kind t) hr
adds role t (Syncs reliable lossy) = OnMain (Spoken (sync_request reliable lossy)) ∷ []
adds role t (Closes id) = closing (outward id t) id ∷ []
adds role t (Draws kind at (CreateAnswered hr)) = told_first role kind t (answer kind t) hr
adds role t (Judges kind at id cookie verdict is_full) =
    unless (is_full_for kind is_full) (Into kind (CreateAnswered (create_code verdict)) ∷ [])
adds role t (Answers named) = OnMain (Spoken (SyncResponse (types_of named))) ∷ []
adds role t act = replies role t (came act)

-- the frames among these
abbrev pub on_main : List Written → List Heard
on_main [] = []
on_main (OnMain heard ∷ written) = heard ∷ on_main written
on_main (Into kind drawn ∷ written) = on_main written

-- and the PDUs for a tunnel; a silent one gets none
abbrev pub into : Kind → Bool → List Written → List Drawn
into kind silent [] = []
into kind silent (OnMain heard ∷ written) = into kind silent written
into kind silent (Into made drawn ∷ written) =
    if same_kind kind made then unless silent (drawn ∷ []) ++ into kind silent written else into kind silent written

-- all frames that an end writes on the main stream, and all PDUs that it writes into a tunnel
abbrev pub spoken : Role → Trace Act → List Heard
spoken role Start = []
spoken role (t ▷ act) = spoken role t ++ on_main (adds role t act)

abbrev pub carried : Kind → Role → Trace Act → List Drawn
carried kind role Start = []
carried kind role (t ▷ act) = carried kind role t ++ into kind (is_silent kind t) (adds role t act)

-- their bytes
abbrev pub frame_of : Heard → Frame
frame_of (TunnelAsked id kind cookie) = tunnel.Request id kind cookie
frame_of (TunnelAnswered id hr) = tunnel.Response id hr
frame_of (Spoken pdu) = tunnel.Channel (spelled pdu)

abbrev pub tunnel_pdu_of : Drawn → tunnel.Pdu
tunnel_pdu_of (CreateAsked id cookie) = tunnel.CreateRequest id cookie
tunnel_pdu_of (CreateAnswered hr) = tunnel.CreateResponse hr
tunnel_pdu_of Nothing = tunnel.Data []
tunnel_pdu_of (Carried bytes pdu) = tunnel.Data bytes

abbrev pub framed : Heard → List ℕ
framed heard = joined (frame_fields (frame_of heard))

abbrev pub tunneled : Drawn → List ℕ
tunneled drawn = joined (pdu_fields (tunnel_pdu_of drawn))

abbrev pub main_bytes : Role → Trace Act → List ℕ
main_bytes role t = flat_map framed (spoken role t)

abbrev pub tunnel_bytes : Kind → Role → Trace Act → List ℕ
tunnel_bytes kind role t = flat_map tunneled (carried kind role t)
