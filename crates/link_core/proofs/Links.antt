-- What a link of whatever version has in common with those of its layout.
use Rattle.std.proofs.Common.{◌≡◌, ℕ, ◌+◌, ◌<◌, ◌≤◌, ◌^◌, Bool, true, false, if◌then◌else◌, refl, ap, subst, ◌∙◌}
use Rattle.mt_base.specs.declared.kinds.Role.{Role}
use Rattle.mt_base.specs.declared.kinds.Role.TheVariants.{Server, Client}
use Rattle.mt_base.specs.Trace.{Trace}
use Rattle.mt_windows.specs.SendingView.{limits}
use Rattle.mt_windows.specs.declared.limits.TheConstants.{SPAN, TELL, WINDOW}
use Rattle.carrier.specs.declared.limits.TheConstants.{EXPIRIES}
use Rattle.carrier.specs.Law.{Faithful}
use Rattle.carrier.specs.Joined.{Step, half}
use Rattle.carrier.specs.Faithful.{HasRoom}
use Rattle.carrier.specs.TwoLinks.{Margins, Net}
use Rattle.udp1_core.specs.FirstLink.{link_layouts as first_layouts}
use Rattle.udp1_core.specs.MachineView.{link_layout as first_link_layout}
use Rattle.udp1_core.proofs.FirstLinks.{has_room as first_has_room, margins as first_margins}
use Rattle.udp2_core.specs.SecondLayout.{second_layout}
use Rattle.udp2_core.specs.SecondLink.{second_layouts}
use Rattle.udp2_core.proofs.SecondLinks.{has_room as second_has_room, margins as second_margins}
use Rattle.link_core.specs.CoreView.{Core, is_second, link_layout}
use Rattle.link_core.specs.JoinedCores.{JoinedCores, OneLink, ahead, link_layouts, room}

-- the layout of one end leaves room for its parts
pub has_room : (own peer version : ℕ) → HasRoom (link_layout own peer version)
has_room own peer version = by_test (is_second version)
  where
    by_test : (b : Bool) → HasRoom (if b then second_layout else first_link_layout own peer version)
    by_test true = second_has_room
    by_test false = first_has_room own peer version

-- whatever the version, the limits of the windows are the same, and so many expiries are survived
pub windows_is : (own peer version : ℕ) → (link_layout own peer version).bounds.windows ≡ limits
windows_is own peer version = by_test (is_second version)
  where
    by_test : (b : Bool) → (if b then second_layout else first_link_layout own peer version).bounds.windows ≡ limits
    by_test true = refl
    by_test false = refl

pub expiries_is : (own peer version : ℕ) → (link_layout own peer version).bounds.expiries ≡ EXPIRIES
expiries_is own peer version = by_test (is_second version)
  where
    by_test : (b : Bool) → (if b then second_layout else first_link_layout own peer version).bounds.expiries ≡ EXPIRIES
    by_test true = refl
    by_test false = refl

-- a version of the first layout has that layout
pub first_is : (own peer version : ℕ) → is_second version ≡ false → link_layout own peer version ≡ first_link_layout own peer version
first_is own peer version h = ap (λ b. if b then second_layout else first_link_layout own peer version) h

pub margins : (late server client version : ℕ) → server < 2 ^ 32 → client < 2 ^ 32
    → ahead version + late ≤ room version → Margins late (link_layouts server client version)
margins late server client version server_number client_number in_time = by_test (is_second version) in_time
  where
    by_test : (b : Bool) → (if b then SPAN + TELL else WINDOW) + late ≤ (if b then 2 ^ 15 else 2 ^ 31)
        → Margins late (if b then second_layouts else first_layouts server client version)
    by_test true h = second_margins late h
    by_test false h = first_margins late server client version server_number client_number h

-- so two joined ends are a net
pub net : (late server client version : ℕ) (w : Trace Step) → OneLink late server client version w
    → Net late (link_layouts server client version) w
net late server client version w h = record {
  margins = margins late server client version h.server_number h.client_number h.in_time;
  faithful = h.faithful;
  timely = h.timely;
}

-- the layouts of the two ends are those of a link
pub server_is : (server client version : ℕ) → link_layout server client version ≡ link_layouts server client version Server
server_is server client version = by_test (is_second version)
  where
    by_test : (b : Bool) → (if b then second_layout else first_link_layout server client version)
        ≡ (if b then second_layouts else first_layouts server client version) Server
    by_test true = refl
    by_test false = refl

pub client_is : (server client version : ℕ) → link_layout client server version ≡ link_layouts server client version Client
client_is server client version = by_test (is_second version)
  where
    by_test : (b : Bool) → (if b then second_layout else first_link_layout client server version)
        ≡ (if b then second_layouts else first_layouts server client version) Client
    by_test true = refl
    by_test false = refl

-- links that stand for the ends of a link are such ends
pub cores_join : (late a b version : ℕ) (server client : Core) (w : Trace Step)
    → JoinedCores late a b version server client w → OneLink late a b version w
cores_join late a b version server client w h = record {
  server_number = h.server_number;
  client_number = h.client_number;
  in_time = h.in_time;
  faithful = faithful;
  timely = h.timely;
}
  where
    faithful : (s : Role) → Faithful (link_layouts a b version s) (half s w)
    faithful Server = subst (λ l. Faithful l (half Server w)) (h.server_layout ∙ server_is a b version) h.server_stands.faithful
    faithful Client = subst (λ l. Faithful l (half Client w)) (h.client_layout ∙ client_is a b version) h.client_stands.faithful
