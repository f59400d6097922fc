-- Two links of one version at the ends of one link.
use Rattle.std.specs.Prelude.{◌≡◌, ℕ, ◌+◌, ◌<◌, ◌≤◌, ◌^◌, if◌then◌else◌}
use Rattle.mt_base.specs.declared.kinds.Role.{Role}
use Rattle.mt_base.specs.declared.kinds.Role.TheVariants.{Server, Client}
use Rattle.mt_base.specs.Trace.{Trace}
use Rattle.mt_windows.specs.declared.limits.TheConstants.{SPAN, TELL, WINDOW}
use Rattle.carrier.specs.Layout.{Layout}
use Rattle.carrier.specs.Law.{Faithful}
use Rattle.carrier.specs.Joined.{Step, half, Timely}
use Rattle.udp1_core.specs.FirstLink.{link_layouts as first_layouts}
use Rattle.udp2_core.specs.SecondLink.{second_layouts}
use Rattle.link_core.specs.CoreView.{Core, Stands, is_second, layout_of, link_layout}

-- the layouts of the two ends of a link of this version, with these initial numbers of the server and
-- of the client
abbrev pub link_layouts : ℕ → ℕ → ℕ → Role → Layout
link_layouts server client version =
    if is_second version then second_layouts else first_layouts server client version

-- How many numbers a telling, or what is sent behind it, may speak of past the last one told, and
-- half of those that are shown by different low parts.
abbrev pub ahead : ℕ → ℕ
ahead version = if is_second version then SPAN + TELL else WINDOW

abbrev pub room : ℕ → ℕ
room version = if is_second version then 2 ^ 15 else 2 ^ 31

-- The two ends of such a link, joined by a network: each keeps the law of its layout, and fewer
-- than `late` datagrams were sent on the link after one that comes.
pub record OneLink (late server client version : ℕ) (w : Trace Step) : Type 0 where
  pub server_number : server < 2 ^ 32
  pub client_number : client < 2 ^ 32
  pub in_time : ahead version + late ≤ room version
  pub faithful : (s : Role) → Faithful (link_layouts server client version s) (half s w)
  pub timely : Timely late w

-- These links stand for the two ends of such a link.
pub record JoinedCores (late initial_server initial_client version : ℕ) (server client : Core) (w : Trace Step) : Type 0 where
  pub server_number : initial_server < 2 ^ 32
  pub client_number : initial_client < 2 ^ 32
  pub server_layout : layout_of server ≡ link_layout initial_server initial_client version
  pub client_layout : layout_of client ≡ link_layout initial_client initial_server version
  pub server_stands : Stands server (half Server w)
  pub client_stands : Stands client (half Client w)
  pub in_time : ahead version + late ≤ room version
  pub timely : Timely late w
