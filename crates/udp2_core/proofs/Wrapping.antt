-- A small world whose numbers of 16 bits wrap meets what is asked of two joined ends.
use Rattle.std.proofs.Common.{◌≡◌, ℕ, zero, suc, ◌*◌, ◌^◌, ◌<◌, ◌≤◌, true, List, [], ◌∷◌, All, refl, arith, lit<, lit≤}
use Rattle.std.proofs.lemmas.List.Elements.{All-cons, All-nil}
use Rattle.mt_base.specs.declared.kinds.Role.{Role}
use Rattle.mt_base.specs.declared.kinds.Role.TheVariants.{Server, Client}
use Rattle.mt_base.specs.Ends.{other}
use Rattle.mt_base.specs.Nearness.{nearest}
use Rattle.mt_windows.specs.Arrived.{passed}
use Rattle.mt_windows.specs.Sending.{settled}
use Rattle.carrier.specs.Receiving.{accepted}
use Rattle.carrier.specs.Law.{Faithful}
use Rattle.carrier.specs.LayoutLaw.{IsLayout}
use Rattle.carrier.specs.Joined.{half, Timely}
use Rattle.carrier.specs.TwoLinks.{Enough, Margins, Net, acts_of, windows_of}
use Rattle.udp2_packets.specs.Layout.{spelled, written_fields}
use Rattle.udp2_packets.specs.Reading.{ack_at, ack_where, announced_at, body_at, byte_where, checked, delay_where, end_of, fields_at, header_at, is_dummy, number_where, packet_at, reading, stamp_where, vector_at, vector_where}
use Rattle.coded_vector.specs.Written.{coded_of}
use Rattle.udp2_core.specs.Wrapping.{numbered, wrapping_layouts, wrapping_world}
use Rattle.udp2_core.proofs.IsLayout.{is_layout}

-- ---- the ends

wrapping_margins : Margins 1024 wrapping_layouts
wrapping_margins = record {
  layout = layout;
  kinds = kinds;
  reads = reads;
  faces = faces;
  bounds = bounds;
  room = 2 ^ 15;
  modulus = modulus;
  enough = enough;
  numbers = numbers;
}
  where
    layout : (s : Role) → IsLayout (wrapping_layouts s)
    layout Server = is_layout 300 50 65535 1 (lit≤ tt) (lit≤ tt)
    layout Client = is_layout 300 50 1 65535 (lit≤ tt) (lit≤ tt)

    kinds : (s : Role) → (wrapping_layouts s).tells_parts ≡ (wrapping_layouts (other s)).tells_parts
    kinds Server = refl
    kinds Client = refl

    reads : (s : Role) (d : List ℕ) → (wrapping_layouts s).read d ≡ (wrapping_layouts (other s)).read d
    reads Server d = refl
    reads Client d = refl

    faces : (s : Role) → (wrapping_layouts s).own ≡ (wrapping_layouts (other s)).peer
    faces Server = refl
    faces Client = refl

    bounds : (s : Role) → (wrapping_layouts s).bounds ≡ (wrapping_layouts (other s)).bounds
    bounds Server = refl
    bounds Client = refl

    modulus : (s : Role) → (wrapping_layouts s).modulus ≡ 2 * 2 ^ 15
    modulus Server = refl
    modulus Client = refl

    enough : (s : Role) → Enough 1024 (2 ^ 15) (wrapping_layouts s).tells_parts (wrapping_layouts s).bounds
    enough Server = record { some_window = lit< tt; two_windows = lit≤ tt; window_and_late = lit≤ tt; told_and_late = lit≤ tt }
    enough Client = record { some_window = lit< tt; two_windows = lit≤ tt; window_and_late = lit≤ tt; told_and_late = lit≤ tt }

    numbers : (s : Role) → (wrapping_layouts s).own ≤ (wrapping_layouts s).bounds.windows.numbers
    numbers Server = lit≤ tt
    numbers Client = lit≤ tt

-- ---- the world

one_byte : (byte : ℕ) → byte < 256 → All (λ b. b < 256) (byte ∷ [])
one_byte byte small = All-cons (λ b. b < 256) byte [] small (All-nil (λ b. b < 256))

server_faithful : Faithful (numbered 65535 1) (half Server wrapping_world)
unfolding nearest spelled written_fields coded_of reading packet_at end_of is_dummy header_at checked fields_at announced_at ack_at ack_where byte_where delay_where number_where vector_where vector_at stamp_where body_at
server_faithful =
    (refl, (refl, (refl, (lit≤ tt, one_byte 0x43 (lit< tt), (refl, (refl, (lit≤ tt, one_byte 0x42 (lit< tt), (refl, (lit≤ tt, one_byte 0x41 (lit< tt), tt)))))))))

client_faithful : Faithful (numbered 1 65535) (half Client wrapping_world)
unfolding nearest spelled written_fields coded_of reading packet_at end_of is_dummy header_at checked fields_at announced_at ack_at ack_where byte_where delay_where number_where vector_where vector_at stamp_where body_at
client_faithful = (refl, (refl, (refl, (refl, (refl, (refl, (refl, (refl, tt))))))))

wrapping_timely : Timely 1024 wrapping_world
wrapping_timely =
    (λ _. (0, lit< tt, (refl, refl)), (λ _. (0, lit< tt, (refl, refl)), (λ _. (0, lit< tt, (refl, refl)), (λ _. (1, lit< tt, (refl, refl)), (λ _. (1, lit< tt, (refl, refl)), (λ _. (0, lit< tt, (refl, refl)), tt))))))

pub wrapping_net : Net 1024 wrapping_layouts wrapping_world
wrapping_net = record { margins = wrapping_margins; faithful = faithful; timely = wrapping_timely }
  where
    faithful : (s : Role) → Faithful (wrapping_layouts s) (half s wrapping_world)
    faithful Server = server_faithful
    faithful Client = client_faithful

pub wrapping_passes : passed (accepted (wrapping_layouts Client) (half Client wrapping_world)) ≡ 0x41 ∷ 0x42 ∷ 0x43 ∷ []
unfolding nearest reading packet_at end_of is_dummy header_at checked fields_at announced_at ack_at ack_where byte_where delay_where number_where vector_where vector_at stamp_where body_at
wrapping_passes = refl

pub wrapping_settles : (p : ℕ) → p < 3 → settled (windows_of wrapping_layouts Server) (acts_of wrapping_layouts wrapping_world Server) p ≡ true
unfolding nearest reading packet_at end_of is_dummy header_at checked fields_at announced_at ack_at ack_where byte_where delay_where number_where vector_where vector_at stamp_where body_at
wrapping_settles zero less = refl
wrapping_settles (suc zero) less = refl
wrapping_settles (suc (suc zero)) less = refl
wrapping_settles (suc (suc (suc p))) less = absurd (omega (arith, less))
