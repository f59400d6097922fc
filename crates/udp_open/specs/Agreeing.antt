-- Two ends that open a link with each other over a network that loses, copies and reorders
-- datagrams, and makes none.
use Rattle.std.specs.Prelude.{◌≡◌, ℕ, ◌<◌, ◌^◌, Bool, true, false, min, List, length, Some, Result, Ok, Err}
use Rattle.mt_base.specs.declared.kinds.Role.{Role}
use Rattle.mt_base.specs.declared.kinds.Role.TheVariants.{Server, Client}
use Rattle.mt_base.specs.Ends.{other}
use Rattle.mt_base.specs.Trace.{Trace, Start, ◌▷◌}
use Rattle.carrier.specs.declared.state.Reason.{Reason}
use Rattle.carrier.specs.Entries.{Entry, In, Polled}
use Rattle.carrier.specs.Joined.{Step, At, half, SentAgo}
use Rattle.udp1_packets.specs.Layout.{IsBytes}
use Rattle.udp1_packets.specs.Value.{Body, SynBody, DataBody, FecBody, BareBody, Packet}
use Rattle.udp_open.specs.declared.settings.OpenSettings.{OpenSettings}
use Rattle.udp_open.specs.declared.agreement.Agreement.{Agreement}
use Rattle.udp_open.specs.Handshake.{shown, opening_due}
use Rattle.udp_open.specs.OpeningView.{IsOffered}

-- ---- openings on the way

abbrev pub is_syn : Body → Bool
is_syn (SynBody syn) = true
is_syn (DataBody vector aoa coded start bytes) = false
is_syn (FecBody vector aoa coded start range index bytes) = false
is_syn (BareBody vector aoa rest) = false

abbrev pub shows_syn : Result Packet Reason → Bool
shows_syn (Ok p) = is_syn p.body
shows_syn (Err why) = false

-- a SYN or a SYN+ACK
abbrev pub is_opening : List ℕ → Bool
is_opening datagram = shows_syn (shown datagram)

-- whatever else an end sends, a SYN or a SYN+ACK is what its opening has due
abbrev pub SendsDue : OpenSettings → Trace Entry → Type 0
SendsDue settings Start = Unit {0}
SendsDue settings (t ▷ Polled now (Some out)) =
    (is_opening out ≡ true → opening_due settings t now ≡ Some out) × SendsDue settings t
SendsDue settings (t ▷ e) = SendsDue settings t

-- each SYN or SYN+ACK that came at an end was sent by the other one before
abbrev pub WasSent : Trace Step → Type 0
WasSent Start = Unit {0}
WasSent (w ▷ At side (In now datagram took)) =
    (is_opening datagram ≡ true → (k : ℕ) × SentAgo (other side) w k datagram) × WasSent w
WasSent (w ▷ e) = WasSent w

-- 32 bytes
abbrev pub IsHash : List ℕ → Type 0
IsHash hash = (length hash ≡ 32) × IsBytes hash

-- two ends with these settings, joined so; the hashes are looked at where a SYN shows them
pub record Meet (settings : Role → OpenSettings) (w : Trace Step) : Type 0 where
  pub roles : (s : Role) → (settings s).role ≡ s
  pub versions : (s : Role) → IsOffered (settings s).version
  pub initials : (s : Role) → (settings s).initial < 2 ^ 32
  pub hashes : (s : Role) → (settings s).version ≡ 0x0101 → IsHash (settings s).cookie_hash
  pub sends : (s : Role) → SendsDue (settings s) (half s w)
  pub sent : WasSent w

-- ---- what they agree on

-- the lower of their versions, and the initial number of the other one
pub record AgreesWith (settings : Role → OpenSettings) (s : Role) (a : Agreement) : Type 0 where
  pub version_is : a.version ≡ min (settings Server).version (settings Client).version
  pub peer_is : a.peer_initial ≡ (settings (other s)).initial
