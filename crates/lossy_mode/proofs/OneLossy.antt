-- A small lossy link meets what is asked of two joined ones.
use Rattle.std.proofs.Common.{◌≡◌, inl, inr, ◌<◌, ◌^◌, [], ◌∷◌, All, refl, lit<, lit≤}
use Rattle.std.proofs.lemmas.List.Elements.{All-cons, All-nil}
use Rattle.mt_base.specs.Nearness.{nearest}
use Rattle.mt_base.specs.declared.kinds.Role.{Role}
use Rattle.mt_base.specs.declared.kinds.Role.TheVariants.{Server, Client}
use Rattle.carrier.specs.Joined.{half, Timely}
use Rattle.udp1_packets.specs.Reading.{body_at, data_at, number_where, packet_at, rest_at, told_at, vector_where, opening_at, syn_with, mtu_at, version_at, block32_at, extension_at, extended_at, zeros_at}
use Rattle.udp_open.specs.OpeningView.{IsFirst}
use Rattle.lossy_mode.specs.OneLossy.{lossy_settings, one_lossy}
use Rattle.lossy_mode.specs.Thin.{Thin}
use Rattle.lossy_mode.specs.TwoLossy.{LossyNet}

one_byte : All (λ b. b < 256) (0x41 ∷ [])
one_byte = All-cons (λ b. b < 256) 0x41 [] (lit< tt) (All-nil (λ b. b < 256))

one_thin : (s : Role) → Thin (lossy_settings s) (half s one_lossy)
unfolding nearest packet_at body_at opening_at syn_with mtu_at version_at block32_at extension_at extended_at zeros_at told_at vector_where number_where rest_at data_at
one_thin Server = (refl, (refl, (refl, ((refl, lit< tt, lit≤ tt, lit≤ tt, one_byte), tt))))
one_thin Client = (refl, (refl, (refl, (refl, tt))))

one_timely : Timely 1024 one_lossy
one_timely = (λ _. (0, lit< tt, (refl, refl)), (λ _. (1, lit< tt, (refl, refl)), (λ _. (0, lit< tt, (refl, refl)), tt)))

pub one_net : LossyNet 1024 lossy_settings one_lossy
one_net = record {
  roles = roles;
  kind = refl;
  versions = versions;
  initials = initials;
  in_time = lit≤ tt;
  thin = one_thin;
  timely = one_timely;
}
  where
    roles : (s : Role) → (lossy_settings s).role ≡ s
    roles Server = refl
    roles Client = refl

    versions : (s : Role) → IsFirst (lossy_settings s).version
    versions Server = inl refl
    versions Client = inr refl

    initials : (s : Role) → (lossy_settings s).initial < 2 ^ 32
    initials Server = lit< tt
    initials Client = lit< tt
