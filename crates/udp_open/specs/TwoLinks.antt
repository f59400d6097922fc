-- Two ends of one link, which opens and then changes to its machines, joined by a network that loses,
-- copies and reorders datagrams, and makes none.
use Rattle.std.specs.Prelude.{◌≡◌, ℕ, ◌+◌, ◌<◌, ◌≤◌, ◌^◌, min, List, [], ◌∷◌, ◌++◌, IfSome}
use Rattle.mt_base.specs.declared.kinds.Kind.TheVariants.{Reliable}
use Rattle.mt_base.specs.declared.kinds.Role.{Role}
use Rattle.mt_base.specs.declared.kinds.Role.TheVariants.{Server, Client}
use Rattle.mt_base.specs.Ends.{other}
use Rattle.mt_base.specs.Trace.{Trace, Start, ◌▷◌}
use Rattle.mt_windows.specs.Arrived.{passed}
use Rattle.carrier.specs.Entries.{Entry, given, pulled}
use Rattle.carrier.specs.Layout.{Layout}
use Rattle.carrier.specs.Joined.{Step, At, half, Timely}
use Rattle.carrier.specs.TwoLinks.{AllRead, SettledArrive, arrived_from}
use Rattle.link_core.specs.JoinedCores.{ahead, link_layouts, room}
use Rattle.udp_open.specs.declared.settings.OpenSettings.{OpenSettings}
use Rattle.udp_open.specs.Handshake.{agreed}
use Rattle.udp_open.specs.OpeningView.{IsOffered}
use Rattle.udp_open.specs.Agreeing.{AgreesWith, IsHash}
use Rattle.udp_open.specs.LinkTrace.{tells, LinkFaithful}
use Rattle.udp_open.specs.LinkView.{Link, StandsLink}

-- ---- the premises

-- the lower of the versions that the ends offer
abbrev pub lower_version : (Role → OpenSettings) → ℕ
lower_version settings = min (settings Server).version (settings Client).version

-- A server and a client of a reliable link, with these settings. Each keeps the law of a link that
-- opens. Of the datagrams that are sent on the link fewer than `late` overtake one that comes. The
-- hashes are looked at where a SYN shows them.
pub record LinkNet (late : ℕ) (settings : Role → OpenSettings) (w : Trace Step) : Type 0 where
  pub roles : (s : Role) → (settings s).role ≡ s
  pub kinds : (s : Role) → (settings s).kind ≡ Reliable
  pub versions : (s : Role) → IsOffered (settings s).version
  pub initials : (s : Role) → (settings s).initial < 2 ^ 32
  pub hashes : (s : Role) → (settings s).version ≡ 0x0101 → IsHash (settings s).cookie_hash
  pub in_time : ahead (lower_version settings) + late ≤ room (lower_version settings)
  pub faithful : (s : Role) → LinkFaithful (settings s) (half s w)
  pub timely : Timely late w

-- ---- the machines

-- calls at one end, one after the other
abbrev pub with_steps : Trace Step → Role → List Entry → Trace Step
with_steps w side [] = w
with_steps w side (e ∷ es) = with_steps (w ▷ At side e) side es

-- what the calls at both ends tell their machines, in the same order
abbrev pub machines : (Role → OpenSettings) → Trace Step → Trace Step
machines settings Start = Start
machines settings (w ▷ At side e) =
    with_steps (machines settings w) side
    (tells (settings side) (half side w) (agreed (settings side) (half side w)) e)

-- the layouts of the machines, by what the ends agree on
abbrev pub layouts_of : (Role → OpenSettings) → Role → Layout
layouts_of settings =
    link_layouts (settings Server).initial (settings Client).initial (lower_version settings)

-- ---- what holds

-- what this end agreed on is the lower of the two versions, and the initial number of the other end
abbrev pub AgreesIn : (Role → OpenSettings) → Trace Step → Role → Type 0
AgreesIn settings w s = IfSome (agreed (settings s) (half s w)) (AgreesWith settings s)

-- each datagram that came at a machine came in time, and was read as it was meant
abbrev pub MachinesRead : ℕ → (Role → OpenSettings) → Trace Step → Type 0
MachinesRead late settings w =
    Timely late (machines settings w) × AllRead late (layouts_of settings) (machines settings w)

-- each part that is settled at this end was accepted at the other, with the same bytes
abbrev pub PartsArrive : (Role → OpenSettings) → Trace Step → Role → Type 0
PartsArrive settings w s = SettledArrive (layouts_of settings) (machines settings w) s

-- what the other end passed is the beginning of what was given to this link
abbrev pub LinkPassed : (Role → OpenSettings) → Trace Step → Role → Type 0
LinkPassed settings w s =
    (more : List ℕ)
    × (given (half s w) ≡ passed (arrived_from (layouts_of settings) (machines settings w) s)
    ++ more)

-- so is what was pulled of it
abbrev pub LinkPulled : Trace Step → Role → Type 0
LinkPulled w s = (more : List ℕ) × (given (half s w) ≡ pulled (half (other s) w) ++ more)

-- ---- two links of the code

abbrev pub settings_of : Link → Link → Role → OpenSettings
settings_of server client Server = (server.opening).settings
settings_of server client Client = (client.opening).settings

-- These links stand for the two ends of one.
pub record JoinedLinks (late : ℕ) (server client : Link) (w : Trace Step) : Type 0 where
  pub roles : (s : Role) → (settings_of server client s).role ≡ s
  pub kinds : (s : Role) → (settings_of server client s).kind ≡ Reliable
  pub versions : (s : Role) → IsOffered (settings_of server client s).version
  pub initials : (s : Role) → (settings_of server client s).initial < 2 ^ 32
  pub hashes : (s : Role) → (settings_of server client s).version ≡ 0x0101 → IsHash (settings_of server client s).cookie_hash
  pub server_stands : StandsLink server (half Server w)
  pub client_stands : StandsLink client (half Client w)
  pub in_time : ahead (lower_version (settings_of server client)) + late ≤ room (lower_version (settings_of server client))
  pub timely : Timely late w
