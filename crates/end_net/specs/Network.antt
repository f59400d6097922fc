-- Two ends of a session with their links, over a network.
use Rattle.std.specs.Prelude.{◌≡◌, ℕ, true, List, [], ◌∷◌, ◌++◌, length, drop}
use Rattle.mt_base.specs.declared.kinds.Kind.{Kind}
use Rattle.mt_base.specs.declared.kinds.Kind.TheVariants.{Reliable, Lossy}
use Rattle.mt_base.specs.declared.kinds.Role.{Role}
use Rattle.mt_base.specs.declared.kinds.Role.TheVariants.{Server}
use Rattle.mt_base.specs.Trace.{Trace, Start, ◌▷◌}
use Rattle.carrier.specs.Entries as link
use Rattle.carrier.specs.Joined.{Step}
use Rattle.udp_open.specs.declared.settings.OpenSettings.{OpenSettings}
use Rattle.udp_open.specs.TwoLinks.{AgreesIn, LinkNet, PartsArrive, with_steps}
use Rattle.lossy_mode.specs.TwoLossy.{LossyNet}
use Rattle.mt_endpoint.specs.Tunnels.{is_open}
use Rattle.end_calls.specs.Calls.{Entry}
use Rattle.end_calls.specs.Law.{EndTrace}
use Rattle.end_calls.specs.Links.{linked}
use Rattle.end_calls.specs.Net.{Safe, acts_of, at}
use Rattle.end_wires.specs.MainStreams.{MainInOrder}
use Rattle.end_net.specs.Opened.{HasOpened}

-- ---- the links

-- the entries of a trace, the first one first
abbrev pub entries : {A : Type 0} → Trace A → List A
entries Start = []
entries (t ▷ entry) = entries t ++ entry ∷ []

-- the calls that a call of an end makes of its link of this kind
abbrev pub made_by : Kind → Role → Trace Entry → Entry → List link.Entry
made_by kind role t entry = drop (length (entries (linked kind role t))) (entries (linked kind role (t ▷ entry)))

-- the calls of both links of this kind, in the order of the calls of the ends
abbrev pub steps : Kind → Trace (Role × Entry) → Trace Step
steps kind Start = Start
steps kind (w ▷ (side, entry)) = with_steps (steps kind w) side (made_by kind side (at side w) entry)

-- ---- the premises

-- Both sides keep the law of an end. The main streams lose nothing. Both links of each kind, with these settings,
-- keep the law of such a link, over a network that loses, copies and reorders datagrams and makes none; fewer than
-- `late` datagrams of a link overtake one that comes.
pub record Network (late : ℕ) (settings : Kind → Role → OpenSettings) (w : Trace (Role × Entry)) : Type 0 where
  pub ends : (role : Role) → EndTrace role (at role w)
  pub main : MainInOrder w
  pub reliable : LinkNet late (settings Reliable) (steps Reliable w)
  pub lossy : LossyNet late (settings Lossy) (steps Lossy w)

-- ---- what holds

-- On each channel and in each direction what is delivered was sent, neither end has a fault but want of memory, and
-- what waits and what is held keeps its limits; a part that is settled at one end of the reliable link was accepted
-- at the other, with its bytes; where an end of a link agreed, it has the version and the initial number that the
-- other has; and a tunnel that is open at an end was opened by a request that the server issued, which opened no
-- other.
pub record SafeNetwork (settings : Kind → Role → OpenSettings) (w : Trace (Role × Entry)) : Type 0 where
  pub safe : Safe w
  pub arrive : (s : Role) → PartsArrive (settings Reliable) (steps Reliable w) s
  pub agree : (kind : Kind) (s : Role) → AgreesIn (settings kind) (steps kind w) s
  pub opened : (role : Role) (kind : Kind) → is_open role kind (acts_of role w) ≡ true → HasOpened kind (acts_of Server w)
