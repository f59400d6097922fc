-- The parts of a packet behind its header: each is read where it stands, is cut short in one of its
-- fields, and does either at any bytes.
use Rattle.std.proofs.Common.{◌≡◌, ℕ, ◌+◌, ◌*◌, ◌/◌, ◌%◌, ◌^◌, ◌<◌, Bool, true, false, not, ◌&&◌, ltb, List, [], ◌∷◌, ◌++◌, length, take, replicate, Option, Some, None, refl, sym, ap, ◌∙◌, inl, inr, arith}
use Rattle.std.specs.Option.{is_some}
use Rattle.std.proofs.lemmas.Bool.{lt-ltb, le-ltb, cases_lt}
use Rattle.std.proofs.lemmas.List.{length-replicate}
use Rattle.byteorder.specs.Endian.{big_number, little_number, little_bytes}
use Rattle.byteorder.specs.Numbers.{length-bytes_low_first}
use Rattle.mt_base.specs.Reading.{block, big, little}
use Rattle.mt_base.specs.Parts.{where_some}
use Rattle.mt_base.proofs.Numbers.{IsBytes, zero_bytes}
use Rattle.mt_base.proofs.Fields.{field_refuses, byte_law, little_law, block_law, byte_or, little_or, block_or}
use Rattle.carrier.specs.declared.second_layout.Refusal2.TheVariants as refusal
use Rattle.udp2_packets.specs.Value.{Ack, Stamp, Vector, Delay}
use Rattle.udp2_packets.specs.Layout.{has, flag_if, byte_field, number_field, ack_fields, stamp_fields, vector_fields, delay_fields, IsAck, IsStamp, IsVector, IsDelay}
use Rattle.udp2_packets.specs.Reading.{cut, number_at, ack_at, stamp_at, stamp_where, vector_at, delay_at, ack_where, vector_where, delay_where, byte_where, number_where, Announced, announced_at}
use Rattle.mt_base.proofs.Chains.{Part, one_part, then_part, made_part, as_part, where_part, IsWhere}

-- ---- one field

little_part : (n : ℕ) → 0 < 256 ^ n → Part refusal.Short (λ s. cut (little n s)) (λ x. little_bytes n x ∷ []) (λ x. x < 256 ^ n)
little_part n positive =
    one_part (λ s. cut (little n s)) n (little_bytes n) (λ x. x < 256 ^ n) (little_law refusal.Short n) (field_refuses refusal.Short n (little_number n)) (little_or n) (λ x good. length-bytes_low_first 0 n x) 0 positive

byte_part : Part refusal.Short (λ s. cut (big 1 s)) (λ x. (x ∷ []) ∷ []) (λ x. x < 256)
byte_part = one_part (λ s. cut (big 1 s)) 1 (λ x. x ∷ []) (λ x. x < 256) (byte_law refusal.Short) (field_refuses refusal.Short 1 (big_number 1)) byte_or (λ x good. refl) 0 (omega arith)

zeros_are : (n : ℕ) → (length (let z : ℕ = 0 in replicate n z) ≡ n) × IsBytes (replicate n 0)
zeros_are n = (length-replicate n 0, zero_bytes n)

block_part : (n : ℕ) → Part refusal.Short (λ s. cut (block n s)) (λ x. x ∷ []) (λ x. (length x ≡ n) × IsBytes x)
block_part n =
    one_part (λ s. cut (block n s)) n (λ x. x) (λ x. (length x ≡ n) × IsBytes x) (block_law refusal.Short n) (field_refuses refusal.Short n (take n)) (block_or n) (λ x good. good.0) (replicate n 0) (zeros_are n)

number_part : Part refusal.Short number_at number_field (λ number. number < 2 ^ 16)
number_part = little_part 2 (omega arith)

-- ---- the delay and the time

pub delay_part : Part refusal.Short delay_at delay_fields IsDelay
unfolding delay_at
delay_part = as_part IsDelay (λ d f. (f.0, (f.1, refl))) (λ d g. (g.0, g.1.0))
    (then_part (λ (d : Delay). d.most) byte_part
    (λ (most : ℕ) (g : most < 256). made_part (λ (d : Delay). d.timeout) (λ (timeout : ℕ). record { most = most; timeout = timeout }) (λ timeout. refl) (little_part 2 (omega arith)))
    (λ most d g h. ap (λ (x : Delay). x.most) h.1))

pub stamp_part : Part refusal.Short stamp_at stamp_fields IsStamp
unfolding stamp_at
stamp_part = as_part IsStamp (λ s f. (f.0, (f.1, refl))) (λ s g. (g.0, g.1.0))
    (then_part (λ (s : Stamp). s.time) (little_part 3 (omega arith))
    (λ (time : ℕ) (g : time < 256 ^ 3). made_part (λ (s : Stamp). s.gap) (λ (gap : ℕ). record { time = time; gap = gap }) (λ gap. refl) byte_part)
    (λ time s g h. ap (λ (x : Stamp). x.time) h.1))

-- ---- the acknowledgement

abbrev sizes_of : Ack → ℕ
sizes_of a = length a.delays + 16 * a.scale

ack_good : (a : Ack) → IsAck a → (a.number < 256 ^ 2) × ((a.received_ts < 256 ^ 3) × ((a.gap < 256) × ((sizes_of a < 256) × (((length a.delays ≡ sizes_of a % 16) × IsBytes a.delays)
    × (a ≡ record { number = a.number; received_ts = a.received_ts; gap = a.gap; scale = sizes_of a / 16; delays = a.delays })))))
ack_good a f =
    let few = f.few_delays in
    let scale = f.scale_fits in
    let high : a.scale ≡ sizes_of a / 16 = omega arith in
    (f.number_fits, (f.received_ts_fits, (f.gap_fits, (omega arith, ((omega arith, f.delays_are), ap (λ n. record { number = a.number; received_ts = a.received_ts; gap = a.gap; scale = n; delays = a.delays }) high)))))

ack_fine : (a : Ack) → (a.number < 256 ^ 2) × ((a.received_ts < 256 ^ 3) × ((a.gap < 256) × ((sizes_of a < 256) × (((length a.delays ≡ sizes_of a % 16) × IsBytes a.delays)
    × (a ≡ record { number = a.number; received_ts = a.received_ts; gap = a.gap; scale = sizes_of a / 16; delays = a.delays }))))) → IsAck a
ack_fine a g =
    let sizes = g.1.1.1.0 in
    let few = g.1.1.1.1.0.0 in
    let scale : a.scale ≡ sizes_of a / 16 = ap (λ (x : Ack). x.scale) g.1.1.1.1.1 in
    record { number_fits = g.0; received_ts_fits = g.1.0; gap_fits = g.1.1.0; scale_fits = omega arith; few_delays = omega arith; delays_are = g.1.1.1.1.0.1 }

pub ack_part : Part refusal.Short ack_at ack_fields IsAck
unfolding ack_at
ack_part = as_part IsAck ack_good ack_fine
    (then_part (λ (a : Ack). a.number) (little_part 2 (omega arith)) (λ (number : ℕ) (g1 : number < 256 ^ 2).
    then_part (λ (a : Ack). a.received_ts) (little_part 3 (omega arith)) (λ (received_ts : ℕ) (g2 : received_ts < 256 ^ 3).
    then_part (λ (a : Ack). a.gap) byte_part (λ (gap : ℕ) (g3 : gap < 256).
    then_part (λ (a : Ack). length a.delays + 16 * a.scale) byte_part (λ (sizes : ℕ) (g4 : sizes < 256).
    made_part (λ (a : Ack). a.delays) (λ (delays : List ℕ). record { number = number; received_ts = received_ts; gap = gap; scale = sizes / 16; delays = delays }) (λ delays. refl) (block_part (sizes % 16)))
    (λ sizes a g h. (let scale : a.scale ≡ sizes / 16 = ap (λ (x : Ack). x.scale) h.1 in omega (arith, h.0.0))))
    (λ gap a g h. ap (λ (x : Ack). x.gap) h.1.1))
    (λ received_ts a g h. ap (λ (x : Ack). x.received_ts) h.1.1.1))
    (λ number a g h. ap (λ (x : Ack). x.number) h.1.1.1.1))

-- ---- the vector

abbrev size_of : Vector → ℕ
size_of v = length v.coded + flag_if (is_some v.stamp) 128

abbrev VectorGood : Vector → Type 0
VectorGood v = (v.base < 256 ^ 2) × ((size_of v < 256) × (IsWhere (not (ltb (size_of v) 128)) IsStamp v.stamp × (((length v.coded ≡ size_of v % 128) × IsBytes v.coded)
    × (v ≡ record { base = v.base; stamp = v.stamp; coded = v.coded }))))

stamp_there : (o : Option Stamp) (n : ℕ) → n < 128 → (n + flag_if (is_some o) 128 < 256) × (is_some o ≡ not (ltb (n + flag_if (is_some o) 128) 128)) × (n ≡ (n + flag_if (is_some o) 128) % 128)
stamp_there None n few = (omega arith, sym (ap not (lt-ltb (n + 0) 128 (omega arith))), omega arith)
stamp_there (Some s) n few = (omega arith, sym (ap not (le-ltb (n + 128) 128 (omega arith))), omega arith)

vector_good : (v : Vector) → IsVector v → VectorGood v
vector_good v f =
    let t = stamp_there v.stamp (length v.coded) f.few_coded in
    (f.base_fits, (t.0, ((t.1, f.stamp_is), ((t.2, f.coded_are), refl))))

vector_fine : (v : Vector) → VectorGood v → IsVector v
vector_fine v g = record { base_fits = g.0; stamp_is = g.1.1.0.1; few_coded = omega (arith, g.1.1.1.0.0); coded_are = g.1.1.1.0.1 }

size_is : (size : ℕ) (there : Bool) (n : ℕ) → size < 256 → there ≡ not (ltb size 128) → n ≡ size % 128 → n + flag_if there 128 ≡ size
size_is size there n small is long = elim (cases_lt size 128) [
  | inl h ↦ (let off : there ≡ false = is ∙ ap not (lt-ltb size 128 h) in ap (λ b. n + flag_if b 128) off ∙ (let e : n + 0 ≡ size = omega arith in e))
  | inr h ↦ (let on : there ≡ true = is ∙ ap not (le-ltb size 128 h) in ap (λ b. n + flag_if b 128) on ∙ (let e : n + 128 ≡ size = omega arith in e))
]

stamp_where_part : (there : Bool) → Part refusal.Short (stamp_where there) (where_some stamp_fields) (IsWhere there IsStamp)
unfolding stamp_where
stamp_where_part there = where_part there stamp_part

pub vector_part : Part refusal.Short vector_at vector_fields IsVector
unfolding vector_at
vector_part = as_part IsVector vector_good vector_fine
    (then_part (λ (v : Vector). v.base) (little_part 2 (omega arith)) (λ (base : ℕ) (g1 : base < 256 ^ 2).
    then_part (λ (v : Vector). length v.coded + flag_if (is_some v.stamp) 128) byte_part (λ (size : ℕ) (g2 : size < 256).
    then_part (λ (v : Vector). v.stamp) (stamp_where_part (not (ltb size 128))) (λ (stamp : Option Stamp) (g3 : IsWhere (not (ltb size 128)) IsStamp stamp).
    made_part (λ (v : Vector). v.coded) (λ (coded : List ℕ). record { base = base; stamp = stamp; coded = coded }) (λ coded. refl) (block_part (size % 128)))
    (λ stamp v g h. ap (λ (x : Vector). x.stamp) h.1))
    (λ size v g h. size_is size (is_some v.stamp) (length v.coded) g h.0.0 h.1.0.0))
    (λ base v g h. ap (λ (x : Vector). x.base) h.1.1.1))

-- ---- what the flags announce

ack_where_part : (there : Bool) → Part refusal.Short (ack_where there) (where_some ack_fields) (IsWhere there IsAck)
unfolding ack_where
ack_where_part there = where_part there ack_part

vector_where_part : (there : Bool) → Part refusal.Short (vector_where there) (where_some vector_fields) (IsWhere there IsVector)
unfolding vector_where
vector_where_part there = where_part there vector_part

delay_where_part : (there : Bool) → Part refusal.Short (delay_where there) (where_some delay_fields) (IsWhere there IsDelay)
unfolding delay_where
delay_where_part there = where_part there delay_part

byte_where_part : (there : Bool) → Part refusal.Short (byte_where there) (where_some byte_field) (IsWhere there (λ size. size < 2 ^ 8))
unfolding byte_where
byte_where_part there = where_part there byte_part

number_where_part : (there : Bool) → Part refusal.Short (number_where there) (where_some number_field) (IsWhere there (λ number. number < 2 ^ 16))
unfolding number_where
number_where_part there = where_part there number_part

abbrev pub fields_of : Announced → List (List ℕ)
fields_of a = where_some ack_fields a.ack ++ (where_some byte_field a.overhead ++ (where_some delay_fields a.delay ++ (where_some number_field a.aoa
    ++ (where_some number_field a.number ++ (where_some vector_fields a.vector ++ where_some number_field a.part)))))

abbrev pub AnnouncedGood : Bool → ℕ → Announced → Type 0
AnnouncedGood dummy flags a = IsWhere (has flags 0x001) IsAck a.ack × (IsWhere (has flags 0x040) (λ size. size < 2 ^ 8) a.overhead × (IsWhere (has flags 0x100) IsDelay a.delay
    × (IsWhere (has flags 0x010) (λ number. number < 2 ^ 16) a.aoa × (IsWhere (has flags 0x004) (λ number. number < 2 ^ 16) a.number × (IsWhere (has flags 0x008) IsVector a.vector
    × (IsWhere (has flags 0x004 && not dummy) (λ part. part < 2 ^ 16) a.part
    × (a ≡ record { ack = a.ack; overhead = a.overhead; delay = a.delay; aoa = a.aoa; number = a.number; vector = a.vector; part = a.part })))))))

pub announced_part : (dummy : Bool) (flags : ℕ) → Part refusal.Short (announced_at dummy flags) fields_of (AnnouncedGood dummy flags)
unfolding announced_at
announced_part dummy flags =
    then_part (λ (a : Announced). a.ack) (ack_where_part (has flags 0x001)) (λ (ack : Option Ack) (g1 : IsWhere (has flags 0x001) IsAck ack).
    then_part (λ (a : Announced). a.overhead) (byte_where_part (has flags 0x040)) (λ (overhead : Option ℕ) (g2 : IsWhere (has flags 0x040) (λ size. size < 2 ^ 8) overhead).
    then_part (λ (a : Announced). a.delay) (delay_where_part (has flags 0x100)) (λ (delay : Option Delay) (g3 : IsWhere (has flags 0x100) IsDelay delay).
    then_part (λ (a : Announced). a.aoa) (number_where_part (has flags 0x010)) (λ (aoa : Option ℕ) (g4 : IsWhere (has flags 0x010) (λ number. number < 2 ^ 16) aoa).
    then_part (λ (a : Announced). a.number) (number_where_part (has flags 0x004)) (λ (number : Option ℕ) (g5 : IsWhere (has flags 0x004) (λ number. number < 2 ^ 16) number).
    then_part (λ (a : Announced). a.vector) (vector_where_part (has flags 0x008)) (λ (vector : Option Vector) (g6 : IsWhere (has flags 0x008) IsVector vector).
    made_part (λ (a : Announced). a.part) (λ (part : Option ℕ). record { ack = ack; overhead = overhead; delay = delay; aoa = aoa; number = number; vector = vector; part = part }) (λ part. refl) (number_where_part (has flags 0x004 && not dummy)))
    (λ vector a g h. ap (λ (x : Announced). x.vector) h.1))
    (λ number a g h. ap (λ (x : Announced). x.number) h.1.1))
    (λ aoa a g h. ap (λ (x : Announced). x.aoa) h.1.1.1))
    (λ delay a g h. ap (λ (x : Announced). x.delay) h.1.1.1.1))
    (λ overhead a g h. ap (λ (x : Announced). x.overhead) h.1.1.1.1.1))
    (λ ack a g h. ap (λ (x : Announced). x.ack) h.1.1.1.1.1.1)
