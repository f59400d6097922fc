-- One lossy link that opens, and on which a part comes that was posted before it had opened.
use Rattle.std.specs.Prelude.{ℕ, true, List, [], ◌∷◌, Some}
use Rattle.mt_base.specs.declared.kinds.Kind.TheVariants.{Lossy}
use Rattle.mt_base.specs.declared.kinds.Role.{Role}
use Rattle.mt_base.specs.declared.kinds.Role.TheVariants.{Server, Client}
use Rattle.mt_base.specs.Trace.{Trace, Start, ◌▷◌}
use Rattle.carrier.specs.declared.state.Took.TheVariants.{Used}
use Rattle.carrier.specs.Entries.{In, Next, Polled, Posted}
use Rattle.carrier.specs.Joined.{Step, At}
use Rattle.udp1_packets.specs.Layout.{spelled}
use Rattle.udp_open.specs.declared.settings.OpenSettings.{OpenSettings}
use Rattle.udp_open.specs.declared.agreement.Agreement.{Agreement}
use Rattle.udp_open.specs.Handshake.{syn, syn_ack}
use Rattle.udp_open.specs.OneLink.{one_part}

-- The server offers version 1 and the client version 2. The server's first number is 2^32, which is
-- shown as 0.
abbrev pub lossy_settings : Role → OpenSettings
lossy_settings Server = record {
  role = Server;
  kind = Lossy;
  version = 1;
  initial = 0xFFFFFFFF;
  cookie_hash = [];
}
lossy_settings Client = record {
  role = Client;
  kind = Lossy;
  version = 2;
  initial = 100;
  cookie_hash = [];
}

-- what the server agrees on
abbrev pub lossy_agreement : Agreement
lossy_agreement = record { version = 1; peer_initial = 100; extended = true }

abbrev pub lossy_syn : List ℕ
lossy_syn = spelled (syn (lossy_settings Client))

abbrev pub lossy_syn_ack : List ℕ
lossy_syn_ack = spelled (syn_ack (lossy_settings Server) lossy_agreement)

abbrev pub one_lossy : Trace Step
one_lossy =
    Start
    ▷ At Server (Posted (0x41 ∷ []))
    ▷ At Client (Polled 0 (Some lossy_syn))
    ▷ At Server (In 10 lossy_syn Used)
    ▷ At Server (Polled 10 (Some lossy_syn_ack))
    ▷ At Server (Polled 10 (Some one_part))
    ▷ At Client (In 20 lossy_syn_ack Used)
    ▷ At Client (In 20 one_part Used)
    ▷ At Client (Next (Some (0x41 ∷ [])))
