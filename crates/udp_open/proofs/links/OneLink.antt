-- A small link meets what is asked of two joined links.
use Rattle.std.proofs.Common.{◌≡◌, inl, inr, ◌<◌, ◌^◌, [], ◌∷◌, All, Some, refl, arith, lit<, lit≤}
use Rattle.std.proofs.lemmas.List.Elements.{All-cons, All-nil}
use Rattle.mt_base.specs.Nearness.{nearest}
use Rattle.mt_base.specs.declared.kinds.Kind.TheVariants.{Reliable}
use Rattle.mt_base.specs.declared.kinds.Role.{Role}
use Rattle.mt_base.specs.declared.kinds.Role.TheVariants.{Server, Client}
use Rattle.mt_base.specs.Trace.{Start, ◌▷◌}
use Rattle.carrier.specs.Entries.{Gave, Owed}
use Rattle.carrier.specs.Law.{Faithful}
use Rattle.carrier.specs.Joined.{half, Timely}
use Rattle.udp1_packets.specs.Reading.{body_at, data_at, number_where, packet_at, rest_at, told_at, vector_where, opening_at, syn_with, mtu_at, version_at, block32_at, extension_at, extended_at, zeros_at}
use Rattle.udp_open.specs.Handshake.{agreed}
use Rattle.udp_open.specs.Agreeing.{IsHash}
use Rattle.udp_open.specs.OpeningView.{IsOffered}
use Rattle.udp_open.specs.LinkTrace.{machine_layout, LinkFaithful}
use Rattle.udp_open.specs.TwoLinks.{LinkNet}
use Rattle.udp_open.specs.OneLink.{one_agreement, one_link, one_settings}

pub one_agrees : (s : Role) → agreed (one_settings s) (half s one_link) ≡ Some (one_agreement s)
unfolding packet_at body_at opening_at syn_with mtu_at version_at block32_at extension_at extended_at zeros_at told_at vector_where number_where rest_at data_at
one_agrees Server = refl
one_agrees Client = refl

pub one_byte : All (λ b. b < 256) (0x41 ∷ [])
one_byte = All-cons (λ b. b < 256) 0x41 [] (lit< tt) (All-nil (λ b. b < 256))

pub no_byte : All (λ b. b < 256) []
no_byte = All-nil (λ b. b < 256)

-- the law of each machine, and then of its link, the last call first
server_begun : Faithful (machine_layout (one_settings Server) (one_agreement Server)) (Start ▷ Gave (0x41 ∷ []))
server_begun = (lit≤ tt, one_byte, tt)

client_begun : Faithful (machine_layout (one_settings Client) (one_agreement Client)) (Start ▷ Gave [] ▷ Owed 2)
client_begun = (lit≤ tt, no_byte, tt)

one_faithful : (s : Role) → LinkFaithful (one_settings s) (half s one_link)
unfolding nearest packet_at body_at opening_at syn_with mtu_at version_at block32_at extension_at extended_at zeros_at told_at vector_where number_where rest_at data_at
one_faithful Server =
    (refl, (refl, server_begun), (refl, server_begun, (refl, server_begun, (tt, (lit≤ tt, one_byte), tt))))
one_faithful Client =
    (tt, (refl, (refl, client_begun)), (refl, (refl, client_begun), (refl, client_begun, (refl, (lit≤ tt, no_byte), tt))))

one_timely : Timely 1024 one_link
one_timely = (λ _. (0, lit< tt, (refl, refl)), (λ _. (1, lit< tt, (refl, refl)), (λ _. (0, lit< tt, (refl, refl)), tt)))

pub one_net : LinkNet 1024 one_settings one_link
one_net = record {
  roles = roles;
  kinds = kinds;
  versions = versions;
  initials = initials;
  hashes = hashes;
  in_time = lit≤ tt;
  faithful = one_faithful;
  timely = one_timely;
}
  where
    roles : (s : Role) → (one_settings s).role ≡ s
    roles Server = refl
    roles Client = refl

    kinds : (s : Role) → (one_settings s).kind ≡ Reliable
    kinds Server = refl
    kinds Client = refl

    versions : (s : Role) → IsOffered (one_settings s).version
    versions Server = inl refl
    versions Client = inr (inl refl)

    hashes : (s : Role) → (one_settings s).version ≡ 0x0101 → IsHash (one_settings s).cookie_hash
    hashes Server is = absurd (omega (arith, is))
    hashes Client is = absurd (omega (arith, is))

    initials : (s : Role) → (one_settings s).initial < 2 ^ 32
    initials Server = lit< tt
    initials Client = lit< tt
