-- Two ends of a session, step by step, and what is safe about them.
use Rattle.std.specs.Prelude.{◌≡◌, ℕ, ◌+◌, ◌<◌, ◌≤◌, nat_eq, Bool, true, false, not, List, [], ◌∷◌, ◌++◌, length, None, Option, Some, if◌then◌else◌}
use Rattle.std.specs.List.{list_any}
use Rattle.mt_base.specs.declared.kinds.Kind.{Kind}
use Rattle.mt_base.specs.declared.kinds.Kind.TheVariants.{Reliable, Lossy}
use Rattle.mt_base.specs.declared.kinds.Role.{Role}
use Rattle.mt_base.specs.declared.kinds.Role.TheVariants.{Server, Client}
use Rattle.mt_base.specs.Ends.{other}
use Rattle.mt_base.specs.Trace.{Trace, Start, ◌▷◌}
use Rattle.mt_base.specs.Prefix.{IsPrefixOf, IsPickOf}
use Rattle.tunnel_cookies.specs.Entries.{IsVerdict, entry_of}
use Rattle.dvc_pdus.specs.Value.{IsName}
use Rattle.dvc_channels.specs.Acts as channels
use Rattle.soft_sync.specs.declared.kinds.Path.{Path}
use Rattle.soft_sync.specs.declared.kinds.Path.TheVariants.{Main, Tunnel}
use Rattle.mt_endpoint.specs.Acts.{Act, Began, Opens, Sends, Takes, Asks, Attaches, Repeats, Refuses, Syncs, Closes, Silences, Hears, Draws, Judges, Misses, Answers, Releases, Discards, Heard, Drawn, CreateAsked, CreateAnswered, Nothing, Carried}
use Rattle.mt_endpoint.specs.Channels.{table, is_open, is_ready, delivered, sent, message_to}
use Rattle.mt_endpoint.specs.Tunnels.{Request, asked, is_attached, is_silent, is_live, refusal, answer, issued, link_of}
use Rattle.mt_base.specs.Ends.{same_kind}
use Rattle.soft_sync.specs.Exchanges.{listed}
use Rattle.mt_endpoint.specs.Moving.{outward, made, all_told}
use Rattle.mt_endpoint.specs.Writing.{spoken, carried}
use Rattle.mt_endpoint.specs.Faults.{main_fault, tunnel_fault}
use Rattle.mt_endpoint.specs.Growing.{grown}

-- an end is made first, and once
abbrev pub is_begun : Trace Act → Bool
is_begun Start = false
is_begun (t ▷ act) = true

abbrev pub begins : Act → Bool
begins Began = true
begins act = false

-- the path carries: it isn't a silent tunnel
abbrev pub IsLoud : Trace Act → Path → Type 0
IsLoud t Main = Unit {0}
IsLoud t (Tunnel kind) = is_silent kind t ≡ false

-- something of this channel can be written
pub record IsWritable (role : Role) (t : Trace Act) (id : ℕ) : Type 0 where
  pub is_open_channel : is_open role id t ≡ true
  pub loud : IsLoud t (outward id t)

abbrev pub IsAsked : Option Request → Type 0
IsAsked None = ⊥
IsAsked (Some request) = Unit {0}

-- a tunnel may get its link, or be refused
pub record IsFree (role : Role) (kind : Kind) (t : Trace Act) : Type 0 where
  pub asked : IsAsked (asked kind t)
  pub unattached : is_attached kind t ≡ false
  pub unrefused : refusal role kind t ≡ None

-- channels that may move: open ones, each once, which no earlier request listed
abbrev pub MayMove : Trace Act → List ℕ → Type 0
MayMove t [] = Unit {0}
MayMove t (id ∷ ids) =
    (is_open Server id t ≡ true) × (listed id (made t) ≡ None) × (list_any (nat_eq id) ids ≡ false) × MayMove t ids

-- a kind with ids has a live tunnel
abbrev pub HasTunnel : Trace Act → Kind → List ℕ → Type 0
HasTunnel t kind [] = Unit {0}
HasTunnel t kind (id ∷ ids) = is_live Server kind t ≡ true

-- (each request lists a channel that no earlier one did, so there are never more than 256)
pub record IsMove (t : Trace Act) (reliable lossy : List ℕ) : Type 0 where
  pub some : 0 < length (reliable ++ lossy)
  pub may_move : MayMove t (reliable ++ lossy)
  pub reliable_is_open : HasTunnel t Reliable reliable
  pub lossy_is_open : HasTunnel t Lossy lossy

-- a message for a lossy tunnel has at most 990 bytes
abbrev pub ShortOn : Path → List ℕ → Type 0
ShortOn Main message = Unit {0}
ShortOn (Tunnel Reliable) message = Unit {0}
ShortOn (Tunnel Lossy) message = length message ≤ 990

-- a close goes through a reliable tunnel that carries, or on the main stream
abbrev pub IsLoudForClose : Trace Act → Path → Type 0
IsLoudForClose t Main = Unit {0}
IsLoudForClose t (Tunnel Reliable) = is_silent Reliable t ≡ false
IsLoudForClose t (Tunnel Lossy) = Unit {0}

-- a server judges each create request that it pulls
abbrev pub IsJudged : Role → Drawn → Type 0
IsJudged Server (CreateAsked id cookie) = ⊥
IsJudged Client (CreateAsked id cookie) = Unit {0}
IsJudged role (CreateAnswered hr) = Unit {0}
IsJudged role Nothing = Unit {0}
IsJudged role (Carried bytes pdu) = Unit {0}

-- the steps of an end's own: each keeps what its call asks for
abbrev pub IsStep : Role → Trace Act → Act → Type 0
IsStep role t Began = Unit {0}
IsStep role t (Opens id name) =
    (role ≡ Server) × (is_ready t ≡ true) × (id ≡ length (channels.ids (table Server t)) + 1) × (id ≤ 256) × IsName name
IsStep role t (Sends id message) = IsWritable role t id × (length message ≤ 1048576) × ShortOn (outward id t) message
IsStep role t (Takes id message) =
    (rest : List (List ℕ)) × (channels.untaken (table role t) id ≡ message ∷ rest)
IsStep role t (Asks kind id cookie) =
    (role ≡ Server) × (asked kind t ≡ None) × (entry_of id (issued t) ≡ None) × (length cookie ≡ 16)
IsStep role t (Attaches kind) = IsFree role kind t
IsStep role t (Repeats is_full) = (role ≡ Client) × (is_attached Lossy t ≡ true) × (answer Lossy t ≡ None)
IsStep role t (Refuses kind hr) = (role ≡ Client) × IsFree Client kind t × (1 ≤ hr)
IsStep role t (Syncs reliable lossy) = (role ≡ Server) × IsMove t reliable lossy
IsStep role t (Closes id) = (is_open role id t ≡ true) × IsLoudForClose t (outward id t)
IsStep role t (Silences kind expiries) = is_attached kind t ≡ true
IsStep role t (Hears heard) = Unit {0}
IsStep role t (Draws kind at drawn) = IsJudged role drawn
IsStep role t (Judges kind at id cookie verdict is_full) =
    (role ≡ Server) × IsVerdict (link_of kind) kind cookie (entry_of id (issued t)) verdict
IsStep role t Misses = Unit {0}
-- what others make due is no step
IsStep role t (Answers named) = ⊥
IsStep role t (Releases kind at bytes pdu) = ⊥
IsStep role t (Discards at bytes pdu) = ⊥

-- ---- what comes

abbrev pub heard_in : Act → List Heard
heard_in (Hears heard) = heard ∷ []
heard_in act = []

abbrev pub drawn_in : Kind → Act → List Drawn
drawn_in kind (Draws made at drawn) = if same_kind kind made then drawn ∷ [] else []
drawn_in kind (Judges made at id cookie verdict is_full) = if same_kind kind made then CreateAsked id cookie ∷ [] else []
drawn_in kind act = []

-- all frames that an end read, and all PDUs that it pulled from a tunnel
abbrev pub hears : Trace Act → List Heard
hears t = all_told heard_in t

abbrev pub draws : Kind → Trace Act → List Drawn
draws kind t = all_told (drawn_in kind) t

-- what comes left the other end: by the main stream and the reliable link all of it, in order; by the
-- lossy link some of it, in order
abbrev pub HasCome : Role → Trace Act → Trace Act → Act → Type 0
HasCome role here there act =
    IsPrefixOf (hears here ++ heard_in act) (spoken (other role) there)
    × IsPrefixOf (draws Reliable here ++ drawn_in Reliable act) (carried Reliable (other role) there)
    × IsPickOf (draws Lossy here ++ drawn_in Lossy act) (carried Lossy (other role) there)

-- the acts of a side
abbrev pub side : Role → Trace (Role × Act) → Trace Act
side role Start = Start
side Server (w ▷ (Server, act)) = (grown Server (side Server w) act).acts
side Server (w ▷ (Client, act)) = side Server w
side Client (w ▷ (Server, act)) = side Client w
side Client (w ▷ (Client, act)) = (grown Client (side Client w) act).acts

-- two ends of a session: each keeps what its calls ask for, and takes what left the other
abbrev pub NetOfActs : Trace (Role × Act) → Type 0
NetOfActs Start = Unit {0}
NetOfActs (w ▷ (role, act)) =
    (begins act ≡ not (is_begun (side role w))) × IsStep role (side role w) act
    × HasCome role (side role w) (side (other role) w) act × NetOfActs w

-- ---- what is safe

-- no step has a fault
abbrev pub fault_of : Role → Trace Act → Act → Type 0
fault_of role t (Hears heard) = main_fault role t heard ≡ None
fault_of role t (Draws Reliable at drawn) = tunnel_fault role t drawn ≡ None
fault_of role t act = Unit {0}

abbrev pub Faultless : Trace (Role × Act) → Type 0
Faultless Start = Unit {0}
Faultless (w ▷ (role, act)) =
    fault_of role (side role w) act × ((grown role (side role w) act).fault ≡ None) × Faultless w

-- the messages that were sent on a path
abbrev pub sent_on : (Path → Bool) → ℕ → Trace Act → List (List ℕ)
sent_on is_on id Start = []
sent_on is_on id (t ▷ act) = sent_on is_on id t ++ (if is_on (outward id t) then message_to id act else [])

abbrev pub is_lossy : Path → Bool
is_lossy Main = false
is_lossy (Tunnel kind) = same_kind Lossy kind

abbrev pub is_sure : Path → Bool
is_sure path = not (is_lossy path)

-- Where the sender has not moved the channel to the lossy tunnel, what is delivered is the front of
-- what was sent. Where it has, it is the front of what was sent before that, or all of that and then
-- some of what was sent afterwards, in order.
pub data IsDelivered (before after delivered : List (List ℕ)) : Type 0 where
  front : IsPrefixOf delivered before → IsDelivered before after delivered
  picked : (some : List (List ℕ)) → delivered ≡ before ++ some → IsPickOf some after → IsDelivered before after delivered

abbrev pub IsSafe : Path → List (List ℕ) → List (List ℕ) → List (List ℕ) → List (List ℕ) → Type 0
IsSafe Main sent before after delivered = IsPrefixOf delivered sent
IsSafe (Tunnel Reliable) sent before after delivered = IsPrefixOf delivered sent
IsSafe (Tunnel Lossy) sent before after delivered = IsDelivered before after delivered

-- what the one end sent on a channel and the other delivered
abbrev pub SafeWay : Role → ℕ → Trace Act → Trace Act → Type 0
SafeWay role id from to =
    IsSafe (outward id from) (sent id from) (sent_on is_sure id from) (sent_on is_lossy id from) (delivered role id to)

pub record Safe (w : Trace (Role × Act)) : Type 0 where
  pub to_client : (id : ℕ) → SafeWay Client id (side Server w) (side Client w)
  pub to_server : (id : ℕ) → SafeWay Server id (side Client w) (side Server w)
  pub faultless : Faultless w
