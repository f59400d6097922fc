-- Two first machines at the ends of one link.
use Rattle.std.specs.Prelude.{◌≡◌, ℕ, ◌+◌, ◌<◌, ◌≤◌, ◌^◌}
use Rattle.mt_base.specs.declared.kinds.Role.{Role}
use Rattle.mt_base.specs.declared.kinds.Role.TheVariants.{Server, Client}
use Rattle.mt_base.specs.Trace.{Trace}
use Rattle.mt_windows.specs.declared.limits.TheConstants.{WINDOW}
use Rattle.carrier.specs.Layout.{Layout}
use Rattle.carrier.specs.Law.{Faithful}
use Rattle.carrier.specs.Joined.{Step, half, Timely}
use Rattle.udp1_core.specs.MachineView.{Machine, layout_of, link_layout, Stands}

-- the layouts of the two ends of a link of this version, with these initial numbers of the server and
-- of the client
abbrev pub link_layouts : ℕ → ℕ → ℕ → Role → Layout
link_layouts server client version Server = link_layout server client version
link_layouts server client version Client = link_layout client server version

-- The two ends of such a link, joined by a network: each keeps the law of its layout, and fewer
-- than `late` datagrams were sent on the link after one that comes.
pub record FirstLink (late server client version : ℕ) (w : Trace Step) : Type 0 where
  pub server_number : server < 2 ^ 32
  pub client_number : client < 2 ^ 32
  pub in_time : WINDOW + late ≤ 2 ^ 31
  pub faithful : (s : Role) → Faithful (link_layouts server client version s) (half s w)
  pub timely : Timely late w

-- These machines stand for the two ends of such a link.
pub record JoinedMachines (late initial_server initial_client version : ℕ) (server client : Machine) (w : Trace Step) : Type 0 where
  pub server_number : initial_server < 2 ^ 32
  pub client_number : initial_client < 2 ^ 32
  pub server_layout : layout_of server ≡ link_layout initial_server initial_client version
  pub client_layout : layout_of client ≡ link_layout initial_client initial_server version
  pub server_stands : Stands server (half Server w)
  pub client_stands : Stands client (half Client w)
  pub in_time : WINDOW + late ≤ 2 ^ 31
  pub timely : Timely late w
