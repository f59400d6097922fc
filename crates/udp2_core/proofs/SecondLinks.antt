-- The layouts of the two ends of a link belong together.
use Rattle.std.proofs.Common.{ℕ, ◌+◌, ◌≤◌, ◌^◌, refl, arith}
use Rattle.mt_base.specs.declared.kinds.Role.{Role}
use Rattle.mt_base.specs.declared.kinds.Role.TheVariants.{Server, Client}
use Rattle.mt_base.specs.Trace.{Trace}
use Rattle.mt_windows.specs.declared.limits.TheConstants.{SPAN, TELL}
use Rattle.carrier.specs.Law.{Faithful}
use Rattle.carrier.specs.LayoutLaw.{IsLayout}
use Rattle.carrier.specs.Joined.{Step, half}
use Rattle.carrier.specs.Faithful.{HasRoom}
use Rattle.carrier.specs.TwoLinks.{Enough, Margins, Net}
use Rattle.udp2_core.specs.MachineView.{Machine}
use Rattle.udp2_core.specs.SecondLayout.{second_layout}
use Rattle.udp2_core.specs.SecondLink.{JoinedMachines, SecondLink, second_layouts}
use Rattle.udp2_core.proofs.IsLayout.{is_layout}

-- the layout of a link is one
pub second_lawful : IsLayout second_layout
second_lawful = is_layout 300 50 1 1 (omega arith) (omega arith)

-- the layout of one end leaves room for its parts
pub has_room : HasRoom second_layout
has_room = record { lawful = second_lawful; some_part = omega arith; half_window = omega arith }

enough : (late : ℕ) → SPAN + TELL + late ≤ 2 ^ 15
    → Enough late (2 ^ 15) second_layout.tells_parts second_layout.bounds
enough late in_time = record {
  some_window = omega arith;
  two_windows = omega arith;
  window_and_late = omega (arith, in_time);
  told_and_late = omega (arith, in_time);
}

pub margins : (late : ℕ) → SPAN + TELL + late ≤ 2 ^ 15 → Margins late second_layouts
margins late in_time = record {
  layout = λ s. second_lawful;
  kinds = λ s. refl;
  reads = λ s datagram. refl;
  faces = λ s. refl;
  bounds = λ s. refl;
  room = 2 ^ 15;
  modulus = λ s. refl;
  enough = λ s. enough late in_time;
  numbers = λ s. omega arith;
}

-- so two joined ends are a net
pub net : (late : ℕ) (w : Trace Step) → SecondLink late w → Net late second_layouts w
net late w h = record { margins = margins late h.in_time; faithful = h.faithful; timely = h.timely }

-- machines that stand for the ends of a link are such ends
pub machines_join : (late : ℕ) (server client : Machine) (w : Trace Step)
    → JoinedMachines late server client w → SecondLink late w
machines_join late server client w h =
    record { in_time = h.in_time; faithful = faithful; timely = h.timely }
  where
    faithful : (s : Role) → Faithful second_layout (half s w)
    faithful Server = h.server_stands.faithful
    faithful Client = h.client_stands.faithful
