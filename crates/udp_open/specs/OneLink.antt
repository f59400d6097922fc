-- One link that opens, and on which a byte arrives that was given before it had opened.
use Rattle.std.specs.Prelude.{ℕ, true, List, [], ◌∷◌, Some}
use Rattle.mt_base.specs.declared.kinds.Kind.TheVariants.{Reliable}
use Rattle.mt_base.specs.declared.kinds.Role.{Role}
use Rattle.mt_base.specs.declared.kinds.Role.TheVariants.{Server, Client}
use Rattle.mt_base.specs.Trace.{Trace, Start, ◌▷◌}
use Rattle.carrier.specs.declared.state.Took.TheVariants.{Used}
use Rattle.carrier.specs.Entries.{Gave, In, Polled, Pulled}
use Rattle.carrier.specs.Joined.{Step, At}
use Rattle.udp1_packets.specs.Layout.{spelled}
use Rattle.udp_open.specs.declared.settings.OpenSettings.{OpenSettings}
use Rattle.udp_open.specs.declared.agreement.Agreement.{Agreement}
use Rattle.udp_open.specs.Handshake.{syn, syn_ack}

-- The server offers version 1 and the client version 2. The server's first number is 2^32, which is
-- shown as 0.
abbrev pub one_settings : Role → OpenSettings
one_settings Server = record {
  role = Server;
  kind = Reliable;
  version = 1;
  initial = 0xFFFFFFFF;
  cookie_hash = [];
}
one_settings Client = record {
  role = Client;
  kind = Reliable;
  version = 2;
  initial = 100;
  cookie_hash = [];
}

-- what each end agrees on
abbrev pub one_agreement : Role → Agreement
one_agreement Server = record { version = 1; peer_initial = 100; extended = true }
one_agreement Client = record { version = 1; peer_initial = 0xFFFFFFFF; extended = true }

abbrev pub one_syn : List ℕ
one_syn = spelled (syn (one_settings Client))

abbrev pub one_syn_ack : List ℕ
one_syn_ack = spelled (syn_ack (one_settings Server) (one_agreement Server))

-- The first part, with its byte 0x41, behind the last number received, the window and the flags.
abbrev pub one_part : List ℕ
one_part =
    0x00 ∷ 0x00 ∷ 0x00 ∷ 0x64 ∷ 0x00 ∷ 0x40 ∷ 0x00 ∷ 0x08
    ∷ 0x00 ∷ 0x00 ∷ 0x00 ∷ 0x00 ∷ 0x00 ∷ 0x00 ∷ 0x00 ∷ 0x00 ∷ 0x41 ∷ []

abbrev pub one_link : Trace Step
one_link =
    Start
    ▷ At Server (Gave (0x41 ∷ []))
    ▷ At Client (Polled 0 (Some one_syn))
    ▷ At Server (In 10 one_syn Used)
    ▷ At Server (Polled 10 (Some one_syn_ack))
    ▷ At Server (Polled 10 (Some one_part))
    ▷ At Client (In 20 one_syn_ack Used)
    ▷ At Client (In 20 one_part Used)
    ▷ At Client (Pulled 10 (0x41 ∷ []))
