-- What a telling of transmissions does to a send window.
use Rattle.std.specs.Prelude.{◌≡◌, ℕ, ◌-◌, ◌&&◌, Bool, nat_le, if◌then◌else◌}
use Rattle.mt_base.specs.Trace.{Trace, ◌▷◌}
use Rattle.mt_windows.specs.Sending.{Act, ToldTransmission, is_recent}
use Rattle.mt_windows.specs.SendingView.{Outbox, Sends, limits}
use Rattle.carrier.specs.Layout.{Layout}
use Rattle.carrier.specs.Sending.{settles}
use Rattle.link_machine.specs.Wire.{layout_of}
use Rattle.udp2_core.specs.SecondLayout.{second_wire}

-- the layout of an end whose numbers begin so; waits and the other end's numbers settle nothing
abbrev pub layout_from : ℕ → Layout
layout_from first = layout_of second_wire 0 0 first 1

-- whether the transmission with this number is one of the last ones
abbrev pub is_recent_number : ℕ → ℕ → Trace Act → Bool
is_recent_number first number acts = nat_le first number && is_recent limits acts (number - first)

-- what is done and heard after a telling of the transmission with this number, where it is one of
-- the last ones
abbrev pub tells_recent : ℕ → ℕ → Trace Act → Trace Act
tells_recent first number acts =
    if is_recent_number first number acts then acts ▷ ToldTransmission (number - first) else acts

-- this window stands for what was done and heard afterwards, and this says whether a part became
-- settled by that
pub record Settles (first : ℕ) (is_settled : Bool) (w : Outbox) (acts after : Trace Act) : Type 0 where
  pub sends : Sends w first after
  pub settled_is : is_settled ≡ settles (layout_from first) acts after
