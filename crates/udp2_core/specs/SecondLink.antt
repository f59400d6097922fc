-- Two second machines at the ends of one link.
use Rattle.std.specs.Prelude.{ℕ, ◌+◌, ◌≤◌, ◌^◌}
use Rattle.mt_base.specs.declared.kinds.Role.{Role}
use Rattle.mt_base.specs.declared.kinds.Role.TheVariants.{Server, Client}
use Rattle.mt_base.specs.Trace.{Trace}
use Rattle.mt_windows.specs.declared.limits.TheConstants.{SPAN, TELL}
use Rattle.carrier.specs.Layout.{Layout}
use Rattle.carrier.specs.Law.{Faithful}
use Rattle.carrier.specs.Joined.{Step, half, Timely}
use Rattle.udp2_core.specs.SecondLayout.{second_layout}
use Rattle.udp2_core.specs.MachineView.{Machine, Stands}

-- both ends have the same layout
abbrev pub second_layouts : Role → Layout
second_layouts s = second_layout

-- The two ends of such a link, joined by a network: each keeps the law of its layout, and fewer
-- than `late` datagrams were sent on the link after one that comes.
pub record SecondLink (late : ℕ) (w : Trace Step) : Type 0 where
  pub in_time : SPAN + TELL + late ≤ 2 ^ 15
  pub faithful : (s : Role) → Faithful second_layout (half s w)
  pub timely : Timely late w

-- These machines stand for the two ends of such a link.
pub record JoinedMachines (late : ℕ) (server client : Machine) (w : Trace Step) : Type 0 where
  pub server_stands : Stands server (half Server w)
  pub client_stands : Stands client (half Client w)
  pub in_time : SPAN + TELL + late ≤ 2 ^ 15
  pub timely : Timely late w
