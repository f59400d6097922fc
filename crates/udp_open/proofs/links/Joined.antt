-- Two links of the code that stand for the two ends of one.
use Rattle.std.proofs.Common.{ℕ}
use Rattle.mt_base.specs.declared.kinds.Role.{Role}
use Rattle.mt_base.specs.declared.kinds.Role.TheVariants.{Server, Client}
use Rattle.mt_base.specs.Trace.{Trace}
use Rattle.carrier.specs.Joined.{Step, half}
use Rattle.udp_open.specs.LinkTrace.{LinkFaithful}
use Rattle.udp_open.specs.LinkView.{Link}
use Rattle.udp_open.specs.TwoLinks.{JoinedLinks, LinkNet, settings_of}

-- they meet what the law of two links asks
pub links_join : (late : ℕ) (server client : Link) (w : Trace Step) → JoinedLinks late server client w
    → LinkNet late (settings_of server client) w
links_join late server client w h = record {
  roles = h.roles;
  kinds = h.kinds;
  versions = h.versions;
  initials = h.initials;
  hashes = h.hashes;
  in_time = h.in_time;
  faithful = faithful;
  timely = h.timely;
} where
  faithful : (s : Role) → LinkFaithful (settings_of server client s) (half s w)
  faithful Server = (h.server_stands).faithful
  faithful Client = (h.client_stands).faithful
