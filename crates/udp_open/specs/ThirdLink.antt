-- One link of version 0x0101 that opens, at which each opening comes twice, and on which a byte arrives.
use Rattle.std.specs.Prelude.{ℕ, true, List, [], ◌∷◌, replicate, Some}
use Rattle.mt_base.specs.declared.kinds.Kind.TheVariants.{Reliable}
use Rattle.mt_base.specs.declared.kinds.Role.{Role}
use Rattle.mt_base.specs.declared.kinds.Role.TheVariants.{Server, Client}
use Rattle.mt_base.specs.Trace.{Trace, Start, ◌▷◌}
use Rattle.carrier.specs.declared.second_layout.Refusal2.TheVariants as refusal
use Rattle.carrier.specs.declared.state.Reason.TheVariants as reason
use Rattle.carrier.specs.declared.state.Took.TheVariants.{Used, Ignored}
use Rattle.carrier.specs.Entries.{Gave, In, Polled, Pulled}
use Rattle.carrier.specs.Joined.{Step, At}
use Rattle.udp1_packets.specs.Layout.{spelled}
use Rattle.udp_open.specs.declared.settings.OpenSettings.{OpenSettings}
use Rattle.udp_open.specs.declared.agreement.Agreement.{Agreement}
use Rattle.udp_open.specs.Handshake.{syn, syn_ack}

-- both ends offer version 0x0101, and have the same hash
abbrev pub third_initial : Role → ℕ
third_initial Server = 0xFFFFFFFF
third_initial Client = 100

abbrev pub third_settings : Role → OpenSettings
third_settings s = record {
  role = s;
  kind = Reliable;
  version = 0x0101;
  initial = third_initial s;
  cookie_hash = replicate 32 0;
}

-- what each end agrees on
abbrev pub third_agreement : Role → Agreement
third_agreement Server = record { version = 0x0101; peer_initial = 100; extended = true }
third_agreement Client = record { version = 0x0101; peer_initial = 0xFFFFFFFF; extended = true }

abbrev pub third_syn : List ℕ
third_syn = spelled (syn (third_settings Client))

abbrev pub third_syn_ack : List ℕ
third_syn_ack = spelled (syn_ack (third_settings Server) (third_agreement Server))

-- The first part, with its byte 0x41 in the place of the prefix byte 0xE0, which stands last: data under
-- the flags 0x004 and the window 2^6, transmission 1, part 1.
abbrev pub third_part : List ℕ
third_part = 0x41 ∷ 0x04 ∷ 0x60 ∷ 0x01 ∷ 0x00 ∷ 0x01 ∷ 0x00 ∷ 0xE0 ∷ []

-- The copy of the SYN is answered; that of the SYN+ACK is no packet to the client.
abbrev pub third_link : Trace Step
third_link =
    Start
    ▷ At Server (Gave (0x41 ∷ []))
    ▷ At Client (Polled 0 (Some third_syn))
    ▷ At Server (In 10 third_syn Used)
    ▷ At Server (In 11 third_syn Used)
    ▷ At Server (Polled 11 (Some third_syn_ack))
    ▷ At Server (Polled 11 (Some third_syn_ack))
    ▷ At Server (Polled 11 (Some third_part))
    ▷ At Client (In 20 third_syn_ack Used)
    ▷ At Client (In 21 third_syn_ack (Ignored (reason.Second (refusal.ShortLength 0))))
    ▷ At Client (In 22 third_part Used)
    ▷ At Client (Pulled 10 (0x41 ∷ []))
