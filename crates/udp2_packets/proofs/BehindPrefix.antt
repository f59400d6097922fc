-- The packet behind its prefix byte: it is read where it stands, each fault in it is the answer, and
-- bytes behind a header are a packet or have a fault.
use Rattle.std.proofs.Common.{◌≡◌, ℕ, ◌+◌, ◌*◌, ◌/◌, ◌%◌, ◌^◌, ◌<◌, ◌≤◌, Bool, true, false, not, ◌&&◌, cond, List, [], ◌∷◌, ◌++◌, length, Option, Some, None, Result, Ok, Err, refl, sym, ap, ◌∙◌, subst, arith, append_assoc, append-nil}
use Rattle.std.specs.Option.{is_some, IfSome}
use Rattle.std.proofs.lemmas.Bool.{true≢false, false≢true, lt-ltb}
use Rattle.std.proofs.lemmas.List.Elements.{All-nil}
use Rattle.mt_base.specs.Reading.{Left}
use Rattle.mt_base.specs.Writing.{joined}
use Rattle.mt_base.proofs.Numbers.{IsBytes}
use Rattle.mt_base.proofs.FrontFields.{left_at, little_reads}
use Rattle.carrier.specs.declared.second_layout.Refusal2.{Refusal2}
use Rattle.carrier.specs.declared.second_layout.Refusal2.TheVariants as refusal
use Rattle.udp2_packets.specs.Value.{Ack, Vector, Telling, NoTelling, AckTelling, VectorTelling, Body, NoBody, DataBody, DummyBody, Packet}
use Rattle.udp2_packets.specs.Layout.{ack_in, vector_in, number_in, part_in, rest_in, has, flags_for, flags, header, announced_fields, fields, text, IsPacket}
use Rattle.mt_base.specs.Parts.{◌>>=◌, Cut}
use Rattle.udp2_packets.specs.Reading.{Announced, telling, body_at, fields_at, checked, header_at}
use Rattle.mt_base.proofs.Chains
use Rattle.mt_base.proofs.Chains.{split, in_first, in_second, only_cut, cut_second, cut_behind, Decided}
use Rattle.udp2_packets.proofs.Pieces.{fields_of, AnnouncedGood, announced_part}
use Rattle.udp2_packets.proofs.Words.{Shows, shows, word_is}

-- ---- what the flags announce, of a packet

abbrev pub dummy_of : Body → Bool
dummy_of NoBody = false
dummy_of (DataBody number part bytes) = false
dummy_of (DummyBody number rest) = true

abbrev announced_in : Packet → Announced
announced_in p = record { ack = ack_in p.telling; overhead = p.overhead; delay = p.delay; aoa = p.aoa; number = number_in p.body; vector = vector_in p.telling; part = part_in p.body }

shown : (p : Packet) → Shows (is_some (ack_in p.telling)) (is_some (number_in p.body)) (is_some (vector_in p.telling)) (is_some p.aoa) (is_some p.overhead) (is_some p.delay) (flags p)
shown p = shows (is_some (ack_in p.telling)) (is_some (number_in p.body)) (is_some (vector_in p.telling)) (is_some p.aoa) (is_some p.overhead) (is_some p.delay)

part_there : (body : Body) → is_some (part_in body) ≡ (is_some (number_in body) && not (dummy_of body))
part_there NoBody = refl
part_there (DataBody number part bytes) = refl
part_there (DummyBody None rest) = refl
part_there (DummyBody (Some number) rest) = refl

good : (p : Packet) → IsPacket p → AnnouncedGood (dummy_of p.body) (flags p) (announced_in p)
good p is =
    let s = shown p in
    let part : is_some (part_in p.body) ≡ (has (flags p) 0x004 && not (dummy_of p.body)) = part_there p.body ∙ ap (λ b. b && not (dummy_of p.body)) (sym s.number) in
    ((sym s.ack, is.ack_is), ((sym s.overhead, is.overhead_fits), ((sym s.delay, is.delay_is), ((sym s.aoa, is.aoa_fits), ((sym s.number, is.number_fits), ((sym s.vector, is.vector_is), ((part, is.part_fits), refl)))))))

one_telling : (t : Telling) → (is_some (ack_in t) && is_some (vector_in t)) ≡ false
one_telling NoTelling = refl
one_telling (AckTelling ack) = refl
one_telling (VectorTelling vector) = refl

-- ---- the header

pub header_reads : (dummy : Bool) (flags log_window : ℕ) → flags < 4096 → log_window < 16 → (rest : List ℕ)
    → header_at dummy (left_at 1 (header flags log_window ++ rest)) ≡ (checked flags >>= λ f. fields_at dummy f log_window (left_at 3 rest))
unfolding header_at
header_reads dummy flags log_window small few rest =
    let low : (flags + 4096 * log_window) % 4096 ≡ flags = omega arith in
    let high : (flags + 4096 * log_window) / 4096 ≡ log_window = omega arith in
    ap (λ q. q >>= λ x. checked (x.0 % 4096) >>= λ f. fields_at dummy f (x.0 / 4096) x.1) (little_reads refusal.Short 2 (flags + 4096 * log_window) (omega arith) 1 rest)
    ∙ ap (λ n. checked n >>= λ f. fields_at dummy f ((flags + 4096 * log_window) / 4096) (left_at 3 rest)) low ∙ ap (λ n. checked flags >>= λ f. fields_at dummy f n (left_at 3 rest)) high

pub checked_known : (flags : ℕ) → has flags 0xEA2 ≡ false → (has flags 0x001 && has flags 0x008) ≡ false → checked flags ≡ Ok flags
unfolding checked
checked_known flags known one = rw (known, one) refl

pub checked_unknown : (flags : ℕ) → has flags 0xEA2 ≡ true → checked flags ≡ Err (refusal.UnknownFlag 1)
unfolding checked
checked_unknown flags unknown = rw unknown refl

pub checked_both : (flags : ℕ) → has flags 0xEA2 ≡ false → has flags 0x001 ≡ true → has flags 0x008 ≡ true → checked flags ≡ Err (refusal.AckAndVector 1)
unfolding checked
checked_both flags known ack vector = rw (known, ack, vector) refl

-- the header of a packet
packet_header : (p : Packet) → IsPacket p → (rest : List ℕ)
    → header_at (dummy_of p.body) (left_at 1 (header (flags p) p.log_window ++ rest)) ≡ fields_at (dummy_of p.body) (flags p) p.log_window (left_at 3 rest)
packet_header p is rest =
    let s = shown p in
    let one : (has (flags p) 0x001 && has (flags p) 0x008) ≡ false = ap (λ b. b && has (flags p) 0x008) s.ack ∙ ap (λ b. is_some (ack_in p.telling) && b) s.vector ∙ one_telling p.telling in
    header_reads (dummy_of p.body) (flags p) p.log_window s.small is.log_window_fits rest
    ∙ ap (λ q. q >>= λ f. fields_at (dummy_of p.body) f p.log_window (left_at 3 rest)) (checked_known (flags p) s.unknown one)

-- ---- the fields

abbrev made : ℕ → Announced → Body → Packet
made log_window a body = record { log_window = log_window; telling = telling a.ack a.vector; overhead = a.overhead; delay = a.delay; aoa = a.aoa; body = body }

abbrev behind_fields : Bool → ℕ → Announced × Left → Result Packet Refusal2
behind_fields dummy log_window a = body_at dummy (a.0).number (a.0).part a.1 >>= λ body. Ok (made log_window a.0 body)

fields_read : (dummy : Bool) (flags log_window : ℕ) (a : Announced) → AnnouncedGood dummy flags a → (at : ℕ) (rest : List ℕ)
    → fields_at dummy flags log_window (left_at at (joined (fields_of a) ++ rest)) ≡ behind_fields dummy log_window (a, left_at (at + length (joined (fields_of a))) rest)
unfolding fields_at
fields_read dummy flags log_window a g at rest = ap (λ q. q >>= λ x. behind_fields dummy log_window x) ((announced_part dummy flags).reads a g at rest)

fields_cut : (dummy : Bool) (flags log_window : ℕ) (a : Announced) → AnnouncedGood dummy flags a → (at : ℕ) (bytes : List ℕ) (r : Refusal2) → Cut refusal.Short (fields_of a) at bytes r
    → fields_at dummy flags log_window (left_at at bytes) ≡ Err r
unfolding fields_at
fields_cut dummy flags log_window a g at bytes r c = ap (λ q. q >>= λ x. behind_fields dummy log_window x) ((announced_part dummy flags).cuts a g at bytes r c)

body_reads : (body : Body) (at : ℕ) → body_at (dummy_of body) (number_in body) (part_in body) (left_at at (rest_in body)) ≡ Ok body
unfolding body_at
body_reads NoBody at = refl
body_reads (DataBody number part bytes) at = refl
body_reads (DummyBody number rest) at = refl

body_trails : (body : Body) → body ≡ NoBody → (at b : ℕ) (rest : List ℕ) → body_at (dummy_of body) (number_in body) (part_in body) (left_at at (b ∷ rest)) ≡ Err (refusal.Trailing at)
unfolding body_at
body_trails NoBody is at b rest = ap (λ t. cond t (Err (refusal.Trailing at)) (Ok NoBody)) (lt-ltb 0 (length (b ∷ rest)) (omega arith))
body_trails (DataBody number part bytes) is at b rest = cc
body_trails (DummyBody number others) is at b rest = cc

told_again : (t : Telling) → telling (ack_in t) (vector_in t) ≡ t
told_again NoTelling = refl
told_again (AckTelling ack) = refl
told_again (VectorTelling vector) = refl

-- ---- what is spelled is read

pub packet_reads : (p : Packet) → IsPacket p → header_at (dummy_of p.body) (left_at 1 (text p)) ≡ Ok p
packet_reads p is =
    let whole : text p ≡ header (flags p) p.log_window ++ (joined (announced_fields p) ++ rest_in p.body) = append_assoc (header (flags p) p.log_window) (joined (announced_fields p)) (rest_in p.body) in
    ap (λ t. header_at (dummy_of p.body) (left_at 1 t)) whole ∙ packet_header p is (joined (announced_fields p) ++ rest_in p.body)
    ∙ fields_read (dummy_of p.body) (flags p) p.log_window (announced_in p) (good p is) 3 (rest_in p.body)
    ∙ ap (λ q. q >>= λ body. Ok (made p.log_window (announced_in p) body)) (body_reads p.body (3 + length (joined (announced_fields p))))
    ∙ ap (λ t. Ok (record { log_window = p.log_window; telling = t; overhead = p.overhead; delay = p.delay; aoa = p.aoa; body = p.body })) (told_again p.telling)

pub packet_cuts : (p : Packet) → IsPacket p → (bytes : List ℕ) (r : Refusal2) → 2 ≤ length bytes → Cut refusal.Short (fields p) 1 bytes r → header_at (dummy_of p.body) (left_at 1 bytes) ≡ Err r
packet_cuts p is bytes r enough c =
    let front = header (flags p) p.log_window in
    elim (split (front ∷ []) (announced_fields p) c.front c.field c.behind c.fields_are) [
      | in_first between e ↦
          (let only = only_cut front c.front c.field between e in
          absurd (omega (arith, c.few, ap length only.1, ap length (c.bytes_are ∙ ap (λ t. joined t ++ c.rest) only.0))))
      | in_second between e h ↦
          (let second = cut_second (front ∷ []) (announced_fields p) between 1 bytes r c e h in
          ap (λ t. header_at (dummy_of p.body) (left_at 1 t)) second.0 ∙ packet_header p is (joined between ++ c.rest)
          ∙ fields_cut (dummy_of p.body) (flags p) p.log_window (announced_in p) (good p is) 3 (joined between ++ c.rest) r second.1)
    ]

pub packet_trails : (p : Packet) → IsPacket p → p.body ≡ NoBody → (b : ℕ) (rest : List ℕ) → header_at (dummy_of p.body) (left_at 1 (text p ++ (b ∷ rest))) ≡ Err (refusal.Trailing (1 + length (text p)))
packet_trails p is none b rest =
    let all = joined (announced_fields p) in
    let no_rest : rest_in p.body ≡ [] = ap rest_in none in
    let short : text p ≡ header (flags p) p.log_window ++ all = ap (λ t. (header (flags p) p.log_window ++ all) ++ t) no_rest ∙ append-nil (header (flags p) p.log_window ++ all) in
    let whole : text p ++ (b ∷ rest) ≡ header (flags p) p.log_window ++ (all ++ (b ∷ rest)) = ap (λ t. t ++ (b ∷ rest)) short ∙ append_assoc (header (flags p) p.log_window) all (b ∷ rest) in
    let place : 3 + length all ≡ 1 + length (text p) = omega (arith, ap length short) in
    ap (λ t. header_at (dummy_of p.body) (left_at 1 t)) whole ∙ packet_header p is (all ++ (b ∷ rest))
    ∙ fields_read (dummy_of p.body) (flags p) p.log_window (announced_in p) (good p is) 3 (b ∷ rest)
    ∙ ap (λ q. q >>= λ body. Ok (made p.log_window (announced_in p) body)) (body_trails p.body none (3 + length all) b rest)
    ∙ ap (λ n. Err (refusal.Trailing n)) place

-- ---- bytes behind a header are a packet or have a fault

data Bodied (dummy : Bool) (number part : Option ℕ) (rest : List ℕ) : Type 0 where
  whole : (body : Body) → number_in body ≡ number → part_in body ≡ part → dummy_of body ≡ dummy → rest_in body ≡ rest → Bodied dummy number part rest
  more : (b : ℕ) (others : List ℕ) → rest ≡ b ∷ others → number ≡ None → part ≡ None → dummy ≡ false → Bodied dummy number part rest

bodied : (dummy : Bool) (number part : Option ℕ) (rest : List ℕ) → is_some part ≡ (is_some number && not dummy) → Bodied dummy number part rest
bodied true number None rest h = whole (DummyBody number rest) refl refl refl refl
bodied true None (Some part) rest h = absurd (true≢false h)
bodied true (Some number) (Some part) rest h = absurd (true≢false h)
bodied false None None [] h = whole NoBody refl refl refl refl
bodied false None None (b ∷ others) h = more b others refl refl refl refl
bodied false None (Some part) rest h = absurd (true≢false h)
bodied false (Some number) None rest h = absurd (false≢true h)
bodied false (Some number) (Some part) rest h = whole (DataBody number part rest) refl refl refl refl

told_by : (ack : Option Ack) (vector : Option Vector) → (is_some ack && is_some vector) ≡ false → (ack_in (telling ack vector) ≡ ack) × (vector_in (telling ack vector) ≡ vector)
told_by (Some ack) (Some vector) h = absurd (true≢false h)
told_by (Some ack) None h = (refl, refl)
told_by None (Some vector) h = (refl, refl)
told_by None None h = (refl, refl)

-- a packet of what the flags announce
record IsOf (dummy : Bool) (flags_are log_window : ℕ) (a : Announced) (rest : List ℕ) (p : Packet) : Type 0 where
  pub is : IsPacket p
  pub dummy_is : dummy_of p.body ≡ dummy
  pub fields_is : fields p ≡ header flags_are log_window ∷ fields_of a
  pub rest_is : rest_in p.body ≡ rest

is_of : (dummy : Bool) (flags_are log_window : ℕ) (a : Announced) → flags_are < 4096 → log_window < 16 → has flags_are 0xEA2 ≡ false → (has flags_are 0x001 && has flags_are 0x008) ≡ false
    → AnnouncedGood dummy flags_are a → (body : Body) (rest : List ℕ) → number_in body ≡ a.number → part_in body ≡ a.part → dummy_of body ≡ dummy → rest_in body ≡ rest → IsBytes rest
    → IsOf dummy flags_are log_window a rest (made log_window a body)
is_of dummy flags_are log_window a small few known one g body rest number_is part_is dummy_is rest_is bytes =
    let one_of : (is_some a.ack && is_some a.vector) ≡ false = ap (λ b. b && is_some a.vector) g.0.0 ∙ ap (λ b. has flags_are 0x001 && b) g.1.1.1.1.1.0.0 ∙ one in
    let told = told_by a.ack a.vector one_of in
    let p = made log_window a body in
    let a_is : announced_in p ≡ a = rw (told.0, told.1, number_is, part_is) refl in
    let word : flags p ≡ flags_are =
    flags_same (told_in told.0 ∙ g.0.0) (ap is_some number_is ∙ g.1.1.1.1.0.0) (ap is_some told.1 ∙ g.1.1.1.1.1.0.0) g.1.1.1.0.0 g.1.0.0 g.1.1.0.0 ∙ word_is flags_are small known in
    record {
      is = record {
        log_window_fits = few;
        ack_is = subst (λ o. IfSome o Rattle.udp2_packets.specs.Layout.IsAck) (sym told.0) g.0.1;
        vector_is = subst (λ o. IfSome o Rattle.udp2_packets.specs.Layout.IsVector) (sym told.1) g.1.1.1.1.1.0.1;
        overhead_fits = g.1.0.1;
        delay_is = g.1.1.0.1;
        aoa_fits = g.1.1.1.0.1;
        number_fits = subst (λ o. IfSome o (λ number. number < 2 ^ 16)) (sym number_is) g.1.1.1.1.0.1;
        part_fits = subst (λ o. IfSome o (λ part. part < 2 ^ 16)) (sym part_is) g.1.1.1.1.1.1.0.1;
        rest_are = subst IsBytes (sym rest_is) bytes;
      };
      dummy_is = dummy_is;
      fields_is = ap (λ w. header w log_window ∷ announced_fields p) word ∙ ap (λ x. header flags_are log_window ∷ fields_of x) a_is;
      rest_is = rest_is;
    }
  where
    told_in : {x y : Option Ack} → x ≡ y → is_some x ≡ is_some y
    told_in e = ap is_some e

    flags_same : {a1 n1 v1 o1 h1 d1 a2 n2 v2 o2 h2 d2 : Bool} → a1 ≡ a2 → n1 ≡ n2 → v1 ≡ v2 → o1 ≡ o2 → h1 ≡ h2 → d1 ≡ d2 → flags_for a1 n1 v1 o1 h1 d1 ≡ flags_for a2 n2 v2 o2 h2 d2
    flags_same e1 e2 e3 e4 e5 e6 = cc

-- bytes behind a header with known flags
pub data Behind (dummy : Bool) (bytes : List ℕ) : Type 0 where
  packet : (p : Packet) → IsPacket p → dummy_of p.body ≡ dummy → bytes ≡ text p → Behind dummy bytes
  field_cut : (p : Packet) (r : Refusal2) → IsPacket p → dummy_of p.body ≡ dummy → Cut refusal.Short (fields p) 1 bytes r → Behind dummy bytes
  trailing : (p : Packet) (b : ℕ) (others : List ℕ) → IsPacket p → p.body ≡ NoBody → dummy ≡ false → bytes ≡ text p ++ (b ∷ others) → Behind dummy bytes

pub behind_or : (dummy : Bool) (flags_are log_window : ℕ) (rest : List ℕ) → flags_are < 4096 → log_window < 16 → has flags_are 0xEA2 ≡ false → (has flags_are 0x001 && has flags_are 0x008) ≡ false
    → IsBytes rest → Behind dummy (header flags_are log_window ++ rest)
behind_or dummy flags_are log_window rest small few known one bytes = by_fields ((announced_part dummy flags_are).decides 3 rest bytes)
  where
    front : List ℕ
    front = header flags_are log_window

    part_is : (a : Announced) → AnnouncedGood dummy flags_are a → is_some a.part ≡ (is_some a.number && not dummy)
    part_is a g = g.1.1.1.1.1.1.0.0 ∙ ap (λ b. b && not dummy) (sym g.1.1.1.1.0.0)

    no_bytes : IsBytes []
    no_bytes = All-nil (λ b. b < 256)

    joined_is : (a : Announced) (p : Packet) (last : List ℕ) → IsOf dummy flags_are log_window a last p → text p ≡ header flags_are log_window ++ (joined (fields_of a) ++ last)
    joined_is a p last of =
        ap (λ t. joined t ++ rest_in p.body) of.fields_is ∙ ap (λ t. joined (header flags_are log_window ∷ fields_of a) ++ t) of.rest_is
        ∙ append_assoc (header flags_are log_window) (joined (fields_of a)) last

    with_body : (a : Announced) (last : List ℕ) → AnnouncedGood dummy flags_are a → rest ≡ joined (fields_of a) ++ last → IsBytes last → Bodied dummy a.number a.part last → Behind dummy (header flags_are log_window ++ rest)
    with_body a last g is good_last (whole body number_is part_is dummy_is rest_is) =
        let of = is_of dummy flags_are log_window a small few known one g body last number_is part_is dummy_is rest_is good_last in
        packet (made log_window a body) of.is of.dummy_is (ap (λ t. header flags_are log_window ++ t) is ∙ sym (joined_is a (made log_window a body) last of))
    with_body a last g is good_last (more b others last_is no_number no_part no_dummy) =
        let of = is_of dummy flags_are log_window a small few known one g NoBody [] (sym no_number) (sym no_part) (sym no_dummy) refl (All-nil (λ b. b < 256)) in
        let p = made log_window a NoBody in
        trailing p b others of.is refl no_dummy
        (ap (λ t. header flags_are log_window ++ t) (is ∙ ap (λ t. joined (fields_of a) ++ t) last_is)
        ∙ sym (append_assoc (header flags_are log_window) (joined (fields_of a)) (b ∷ others))
        ∙ ap (λ t. t ++ (b ∷ others)) (ap (λ t. header flags_are log_window ++ t) (sym (append-nil (joined (fields_of a)))) ∙ sym (joined_is a p [] of)))

    with_cut : (a : Announced) (r : Refusal2) → AnnouncedGood dummy flags_are a → Cut refusal.Short (fields_of a) 3 rest r → Bodied dummy a.number a.part [] → Behind dummy (header flags_are log_window ++ rest)
    with_cut a r g c (whole body number_is part_is dummy_is rest_is) =
        let of = is_of dummy flags_are log_window a small few known one g body [] number_is part_is dummy_is rest_is (All-nil (λ b. b < 256)) in
        let cut : Cut refusal.Short (header flags_are log_window ∷ fields_of a) 1 (header flags_are log_window ++ rest) r = cut_behind (header flags_are log_window ∷ []) (fields_of a) 1 (header flags_are log_window ++ rest) rest r refl c in
        field_cut (made log_window a body) r of.is of.dummy_is (subst (λ fs. Cut refusal.Short fs 1 (header flags_are log_window ++ rest) r) (sym of.fields_is) cut)
    with_cut a r g c (more b others last_is no_number no_part no_dummy) = cc

    by_fields : Decided refusal.Short fields_of (AnnouncedGood dummy flags_are) 3 rest → Behind dummy (header flags_are log_window ++ rest)
    by_fields (Chains.begins a last g is good_last) = with_body a last g is good_last (bodied dummy a.number a.part last (part_is a g))
    by_fields (Chains.cut_short a r g c) = with_cut a r g c (bodied dummy a.number a.part [] (part_is a g))
