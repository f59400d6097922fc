-- The layouts of the two ends of a link belong together.
use Rattle.std.proofs.Common.{◌≡◌, ℕ, ◌+◌, ◌<◌, ◌≤◌, ◌*◌, ◌^◌, List, refl, subst, arith}
use Rattle.mt_base.specs.declared.kinds.Role.{Role}
use Rattle.mt_base.specs.declared.kinds.Role.TheVariants.{Server, Client}
use Rattle.mt_base.specs.Ends.{other}
use Rattle.mt_base.specs.Trace.{Trace}
use Rattle.mt_windows.specs.declared.limits.TheConstants.{WINDOW}
use Rattle.carrier.specs.LayoutLaw.{IsLayout}
use Rattle.carrier.specs.Law.{Faithful}
use Rattle.carrier.specs.Joined.{Step, half}
use Rattle.carrier.specs.Faithful.{HasRoom}
use Rattle.carrier.specs.TwoLinks.{Enough, Margins, Net}
use Rattle.udp1_core.specs.MachineView.{Machine, link_layout}
use Rattle.udp1_core.specs.FirstLink.{FirstLink, JoinedMachines, link_layouts}
use Rattle.udp1_core.proofs.FirstIsLayout.{is_layout}

-- the layout of one end leaves room for its parts
pub has_room : (own peer version : ℕ) → HasRoom (link_layout own peer version)
has_room own peer version = record {
  lawful = is_layout _ _ _ _ (omega arith) (omega arith);
  some_part = omega arith;
  half_window = omega arith;
}

pub margins : (late server client version : ℕ) → server < 2 ^ 32 → client < 2 ^ 32 → WINDOW + late ≤ 2 ^ 31
    → Margins late (link_layouts server client version)
margins late server client version server_number client_number in_time = record {
  layout = layout;
  kinds = kinds;
  reads = reads;
  faces = faces;
  bounds = bounds;
  room = 2 ^ 31;
  modulus = modulus;
  enough = enough;
  numbers = numbers;
}
  where
    layout : (s : Role) → IsLayout (link_layouts server client version s)
    layout Server = is_layout _ _ _ _ (omega arith) (omega arith)
    layout Client = is_layout _ _ _ _ (omega arith) (omega arith)

    kinds : (s : Role) → (link_layouts server client version s).tells_parts ≡ (link_layouts server client version (other s)).tells_parts
    kinds Server = refl
    kinds Client = refl

    reads : (s : Role) (datagram : List ℕ) → (link_layouts server client version s).read datagram ≡ (link_layouts server client version (other s)).read datagram
    reads Server datagram = refl
    reads Client datagram = refl

    faces : (s : Role) → (link_layouts server client version s).own ≡ (link_layouts server client version (other s)).peer
    faces Server = refl
    faces Client = refl

    bounds : (s : Role) → (link_layouts server client version s).bounds ≡ (link_layouts server client version (other s)).bounds
    bounds Server = refl
    bounds Client = refl

    modulus : (s : Role) → (link_layouts server client version s).modulus ≡ 2 * 2 ^ 31
    modulus Server = refl
    modulus Client = refl

    enough : (s : Role) → Enough late (2 ^ 31) (link_layouts server client version s).tells_parts (link_layouts server client version s).bounds
    enough Server = record { some_window = omega arith; two_windows = omega arith; window_and_late = in_time; told_and_late = omega (arith, in_time) }
    enough Client = record { some_window = omega arith; two_windows = omega arith; window_and_late = in_time; told_and_late = omega (arith, in_time) }

    numbers : (s : Role) → (link_layouts server client version s).own ≤ (link_layouts server client version s).bounds.windows.numbers
    numbers Server = omega (arith, server_number)
    numbers Client = omega (arith, client_number)

-- so two joined ends are a net
pub net : (late server client version : ℕ) (w : Trace Step) → FirstLink late server client version w → Net late (link_layouts server client version) w
net late server client version w h = record {
  margins = margins late server client version h.server_number h.client_number h.in_time;
  faithful = h.faithful;
  timely = h.timely;
}

-- machines that stand for the ends of a link are such ends
pub machines_join : (late a b version : ℕ) (server client : Machine) (w : Trace Step) → JoinedMachines late a b version server client w → FirstLink late a b version w
machines_join late a b version server client w h = record {
  server_number = h.server_number;
  client_number = h.client_number;
  in_time = h.in_time;
  faithful = faithful;
  timely = h.timely;
}
  where
    faithful : (s : Role) → Faithful (link_layouts a b version s) (half s w)
    faithful Server = subst (λ l. Faithful l (half Server w)) h.server_layout h.server_stands.faithful
    faithful Client = subst (λ l. Faithful l (half Client w)) h.client_layout h.client_stands.faithful
