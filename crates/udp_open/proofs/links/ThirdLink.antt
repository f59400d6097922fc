-- A small link of version 0x0101 meets what is asked of two joined links.
use Rattle.std.proofs.Common.{◌≡◌, inr, ◌<◌, ◌^◌, [], ◌∷◌, Some, refl, lit<, lit≤}
use Rattle.mt_base.proofs.Numbers.{zero_bytes}
use Rattle.mt_base.specs.Nearness.{nearest}
use Rattle.mt_base.specs.declared.kinds.Role.{Role}
use Rattle.mt_base.specs.declared.kinds.Role.TheVariants.{Server, Client}
use Rattle.mt_base.specs.Trace.{Start, ◌▷◌}
use Rattle.carrier.specs.Entries.{Gave, Owed}
use Rattle.carrier.specs.Law.{Faithful}
use Rattle.carrier.specs.Joined.{half, Timely}
use Rattle.udp1_packets.specs.Reading.{body_at, packet_at, opening_at, syn_with, mtu_at, version_at, block32_at, extension_at, extended_at, zeros_at, told_at, vector_where, number_where, rest_at, data_at}
use Rattle.udp2_packets.specs.Layout.{spelled, written_fields}
use Rattle.udp_open.specs.Handshake.{agreed}
use Rattle.udp_open.specs.LinkTrace.{machine_layout, LinkFaithful}
use Rattle.udp_open.specs.TwoLinks.{LinkNet}
use Rattle.udp_open.proofs.links.OneLink.{no_byte, one_byte}
use Rattle.udp_open.specs.ThirdLink.{third_agreement, third_initial, third_link, third_settings}

pub third_agrees : (s : Role) → agreed (third_settings s) (half s third_link) ≡ Some (third_agreement s)
unfolding packet_at body_at opening_at syn_with mtu_at version_at block32_at extension_at extended_at zeros_at told_at vector_where number_where rest_at data_at
third_agrees Server = refl
third_agrees Client = refl

-- the law of each machine, and then of its link, the last call first
server_begun : Faithful (machine_layout (third_settings Server) (third_agreement Server)) (Start ▷ Gave (0x41 ∷ []))
server_begun = (lit≤ tt, one_byte, tt)

client_begun : Faithful (machine_layout (third_settings Client) (third_agreement Client)) (Start ▷ Gave [] ▷ Owed 2)
client_begun = (lit≤ tt, no_byte, tt)

third_faithful : (s : Role) → LinkFaithful (third_settings s) (half s third_link)
unfolding nearest packet_at body_at opening_at syn_with mtu_at version_at block32_at extension_at extended_at zeros_at told_at vector_where number_where rest_at data_at spelled written_fields Rattle.udp2_packets.specs.Reading.reading Rattle.udp2_packets.specs.Reading.packet_at Rattle.udp2_packets.specs.Reading.end_of Rattle.udp2_packets.specs.Reading.is_dummy Rattle.udp2_packets.specs.Reading.header_at Rattle.udp2_packets.specs.Reading.checked Rattle.udp2_packets.specs.Reading.fields_at Rattle.udp2_packets.specs.Reading.announced_at Rattle.udp2_packets.specs.Reading.ack_at Rattle.udp2_packets.specs.Reading.ack_where Rattle.udp2_packets.specs.Reading.byte_where Rattle.udp2_packets.specs.Reading.delay_where Rattle.udp2_packets.specs.Reading.number_where Rattle.udp2_packets.specs.Reading.vector_where Rattle.udp2_packets.specs.Reading.vector_at Rattle.udp2_packets.specs.Reading.stamp_where Rattle.udp2_packets.specs.Reading.body_at
third_faithful Server =
    (refl, (refl, server_begun), (refl, server_begun, (refl, server_begun, (refl, server_begun, (refl, server_begun, (tt, (lit≤ tt, one_byte), tt))))))
third_faithful Client =
    (tt, (refl, (refl, client_begun)), (refl, (refl, client_begun), (refl, client_begun, (refl, client_begun, (refl, (lit≤ tt, no_byte), tt)))))

third_timely : Timely 1024 third_link
third_timely = (
  λ _. (0, lit< tt, (refl, refl)),
  (
    λ _. (1, lit< tt, (refl, refl)),
    (
      λ _. (1, lit< tt, (refl, refl)),
      (λ _. (0, lit< tt, (refl, refl)), (λ _. (0, lit< tt, (refl, refl)), tt)),
    ),
  ),
)

pub third_net : LinkNet 1024 third_settings third_link
third_net = record {
  roles = λ s. refl;
  kinds = λ s. refl;
  versions = λ s. inr (inr refl);
  initials = initials;
  hashes = λ s _. (refl, zero_bytes 32);
  in_time = lit≤ tt;
  faithful = third_faithful;
  timely = third_timely;
}
  where
    initials : (s : Role) → third_initial s < 2 ^ 32
    initials Server = lit< tt
    initials Client = lit< tt
