-- What reading gives, in the words of the layout and the faults, and what follows of both.
use Rattle.std.proofs.Common.{◌≡◌, ◌⊎◌, inl, inr, ℕ, ◌+◌, ◌-◌, ◌*◌, ◌/◌, ◌%◌, ◌^◌, ◌<◌, ◌≤◌, Bool, true, false, ◌&&◌, slice_index, List, ◌∷◌, ◌++◌, length, get_or, Result, Ok, Err, refl, sym, ap, ◌∙◌, subst, arith}
use Rattle.std.specs.Result.{IfOk, IfErr, IsOkAnd}
use Rattle.std.proofs.lemmas.Bool.{cases_lt, cases_eq, cases_Bool, and_parts}
use Rattle.std.proofs.lemmas.List.{length-replicate}
use Rattle.std.proofs.lemmas.List.Elements.{All-from_get_or}
use Rattle.byteorder.specs.Endian.{little_bytes}
use Rattle.mt_base.proofs.Numbers.{IsBytes}
use Rattle.mt_base.proofs.FrontFields.{left_at}
use Rattle.mt_base.proofs.Fields.{Begins, little_or, as_err, not_both, ok_is}
use Rattle.mt_base.proofs.Meanings.{Meaning, was_spelled, was_fault}
use Rattle.carrier.specs.declared.second_layout.Refusal2.{Refusal2}
use Rattle.carrier.specs.declared.second_layout.Refusal2.TheVariants as refusal
use Rattle.udp2_packets.specs.Value.{Body, NoBody, DataBody, DummyBody, Packet}
use Rattle.udp2_packets.specs.Layout.{has, header, kind, text, zeros, exchanged, spelled, IsPacket, Holds, Spells}
use Rattle.udp2_packets.specs.Faults
use Rattle.udp2_packets.specs.Faults.{Refused, IsWrongLength, Headed}
use Rattle.udp2_packets.specs.declared.packet.Packet2.{Packet2}
use Rattle.udp2_packets.specs.Views.{packet_of}
use Rattle.mt_base.specs.Parts.{◌>>=◌}
use Rattle.udp2_packets.specs.Reading.{is_dummy, checked, fields_at, header_at, packet_at, reading, Answers}
use Rattle.udp2_packets.proofs.WriterLemmas.{length-exchanged, written_is}
use Rattle.udp2_packets.proofs.Frames
use Rattle.udp2_packets.proofs.Frames.{exchanged_of, reading_is, reading_short, end_wrong, no_dummy, dummy, neither, framed, Frame, frame_or}
use Rattle.udp2_packets.proofs.BehindPrefix
use Rattle.udp2_packets.proofs.BehindPrefix.{dummy_of, header_reads, checked_unknown, checked_both, packet_reads, packet_cuts, packet_trails, Behind, behind_or}

-- ---- what is spelled is read

typed : (body : Body) (first : ℕ) → first / 2 % 16 ≡ kind body → is_dummy first ≡ Ok (dummy_of body)
typed NoBody first is = no_dummy first is
typed (DataBody number part bytes) first is = no_dummy first is
typed (DummyBody number rest) first is = dummy first is

reads : (p : Packet) (datagram : List ℕ) → IsPacket p × Holds datagram (kind p.body) (text p) → reading datagram ≡ Ok p
reads p datagram s =
    let f = framed datagram (kind p.body) (text p) s.1 in
    f.reads ∙ ap (λ q. q >>= λ d. header_at d (left_at 1 (text p))) (typed p.body f.first f.kind_is) ∙ packet_reads p s.0

-- ---- a fault is the answer

length_wrong : (first : ℕ) (rest : List ℕ) → IsWrongLength first (length (first ∷ rest)) → packet_at (first ∷ rest) ≡ Err (refusal.ShortLength 0)
unfolding packet_at
length_wrong first rest wrong = rw (end_wrong first (length (first ∷ rest)) wrong) refl

-- behind a header of a type that is known
headed : (datagram : List ℕ) (k flags log_window : ℕ) (rest : List ℕ) (r : Refusal2) → Headed datagram k flags log_window rest → checked flags ≡ Err r → reading datagram ≡ Err r
headed datagram k flags log_window rest r h wrong =
    let f = framed datagram k (header flags log_window ++ rest) h.3 in
    f.reads ∙ elim h.0 [
      | inl zero ↦ ap (λ q. q >>= λ d. header_at d (left_at 1 (header flags log_window ++ rest))) (no_dummy f.first (f.kind_is ∙ zero)) ∙ at_header false
      | inr eight ↦ ap (λ q. q >>= λ d. header_at d (left_at 1 (header flags log_window ++ rest))) (dummy f.first (f.kind_is ∙ eight)) ∙ at_header true
    ]
  where
    at_header : (d : Bool) → header_at d (left_at 1 (header flags log_window ++ rest)) ≡ Err r
    at_header d = header_reads d flags log_window h.1 h.2 rest ∙ ap (λ q. q >>= λ f. fields_at d f log_window (left_at 3 rest)) wrong

refuses : (r : Refusal2) (datagram : List ℕ) → Refused datagram r → reading datagram ≡ Err r
refuses r datagram (Faults.too_short short is) = as_err (reading_short datagram short) is
refuses r datagram (Faults.wrong_length first rest small long back wrong is) =
    let same : length datagram ≡ length (first ∷ rest) = sym (length-exchanged datagram) ∙ ap length back in
    as_err (reading_is datagram (omega arith) ∙ ap packet_at back ∙ length_wrong first rest (subst (λ n. IsWrongLength first n) same wrong)) is
refuses r datagram (Faults.wrong_type k bytes h zero eight is) =
    let f = framed datagram k bytes h in
    as_err (f.reads ∙ ap (λ q. q >>= λ d. header_at d (left_at 1 bytes)) (neither f.first (λ e. zero (sym f.kind_is ∙ e)) (λ e. eight (sym f.kind_is ∙ e)))) is
refuses r datagram (Faults.unknown_flag k flags log_window rest h unknown is) = headed datagram k flags log_window rest r h (as_err (checked_unknown flags unknown) is)
refuses r datagram (Faults.two_tellings k flags log_window rest h known ack vector is) = headed datagram k flags log_window rest r h (as_err (checked_both flags known ack vector) is)
refuses r datagram (Faults.field_cut p bytes is h c) =
    let f = framed datagram (kind p.body) bytes h in
    f.reads ∙ ap (λ q. q >>= λ d. header_at d (left_at 1 bytes)) (typed p.body f.first f.kind_is) ∙ packet_cuts p is bytes r h.headed c
refuses r datagram (Faults.trailing p b rest is none h r_is) =
    let f = framed datagram 0 (text p ++ (b ∷ rest)) h in
    as_err (f.reads ∙ ap (λ q. q >>= λ d. header_at d (left_at 1 (text p ++ (b ∷ rest)))) (typed p.body f.first (f.kind_is ∙ sym (ap kind none))) ∙ packet_trails p is none b rest) r_is

-- ---- bytes are a packet or have a fault

abbrev Meant : List ℕ → Type 0
Meant datagram = ((p : Packet) × (IsPacket p × Holds datagram (kind p.body) (text p))) ⊎ ((r : Refusal2) × Refused datagram r)

kind_of : (body : Body) (d : Bool) (k : ℕ) → dummy_of body ≡ d → ((d ≡ false) × (k ≡ 0)) ⊎ ((d ≡ true) × (k ≡ 8)) → kind body ≡ k
kind_of NoBody d k is (inl h) = sym h.1
kind_of NoBody d k is (inr h) = absurd (Rattle.std.proofs.lemmas.Bool.false≢true (is ∙ h.0))
kind_of (DataBody number part bytes) d k is (inl h) = sym h.1
kind_of (DataBody number part bytes) d k is (inr h) = absurd (Rattle.std.proofs.lemmas.Bool.false≢true (is ∙ h.0))
kind_of (DummyBody number rest) d k is (inl h) = absurd (Rattle.std.proofs.lemmas.Bool.true≢false (is ∙ h.0))
kind_of (DummyBody number rest) d k is (inr h) = sym h.1

-- behind a prefix byte of a type that is known
typed_or : (datagram : List ℕ) (k : ℕ) (d : Bool) (bytes : List ℕ) → ((d ≡ false) × (k ≡ 0)) ⊎ ((d ≡ true) × (k ≡ 8)) → Holds datagram k bytes → IsBytes bytes → Meant datagram
typed_or datagram k d bytes type h good = by_word (little_or 2 bytes good)
  where
    known : (k ≡ 0) ⊎ (k ≡ 8)
    known = elim type [ inl e ↦ inl e.1 | inr e ↦ inr e.1 ]

    by_behind : (front rest : List ℕ) → bytes ≡ front ++ rest → Behind d (front ++ rest) → Meant datagram
    by_behind front rest is (BehindPrefix.packet p good_p d_is text_is) =
        inl (p, (good_p, subst (λ n. Holds datagram n (text p)) (sym (kind_of p.body d k d_is type)) (subst (λ t. Holds datagram k t) (is ∙ text_is) h)))
    by_behind front rest is (BehindPrefix.field_cut p r good_p d_is c) =
        inr (r, Faults.field_cut p (front ++ rest) good_p (subst (λ n. Holds datagram n (front ++ rest)) (sym (kind_of p.body d k d_is type)) (subst (λ t. Holds datagram k t) is h)) c)
    by_behind front rest is (BehindPrefix.trailing p b others good_p none d_is text_is) =
        let k_is : k ≡ 0 = sym (kind_of p.body d k (ap dummy_of none ∙ sym d_is) type) ∙ ap kind none in
        inr (_, Faults.trailing p b others good_p none (subst (λ n. Holds datagram n (text p ++ (b ∷ others))) k_is (subst (λ t. Holds datagram k t) (is ∙ text_is) h)) refl)

    by_flags : (flags log_window : ℕ) (rest : List ℕ) → flags < 4096 → log_window < 16 → bytes ≡ header flags log_window ++ rest → IsBytes rest → Meant datagram
    by_flags flags log_window rest small few is behind =
        let headed : Headed datagram k flags log_window rest = (known, small, few, subst (λ t. Holds datagram k t) is h) in
        elim (cases_Bool (has flags 0xEA2)) [
          | inl unknown ↦ inr (_, Faults.unknown_flag k flags log_window rest headed unknown refl)
          | inr all_known ↦ elim (cases_Bool (has flags 0x001 && has flags 0x008)) [
            | inl two ↦ (let parts = and_parts (has flags 0x001) (has flags 0x008) two in inr (_, Faults.two_tellings k flags log_window rest headed all_known parts.0 parts.1 refl))
            | inr one ↦ by_behind (header flags log_window) rest is (behind_or d flags log_window rest small few all_known one behind)
          ]
        ]

    by_word : (length bytes < 2) ⊎ Begins (little_bytes 2) (λ x. x < 256 ^ 2) bytes → Meant datagram
    by_word (inl few) = absurd (omega (arith, few, h.headed))
    by_word (inr b) =
        let small : b.value < 256 ^ 2 = b.good in
        let word : b.value ≡ b.value % 4096 + 4096 * (b.value / 4096) = omega arith in
        by_flags (b.value % 4096) (b.value / 4096) b.rest (omega arith) (omega arith) (b.bytes_are ∙ ap (λ w. little_bytes 2 w ++ b.rest) word) b.bytes_behind

decides : (datagram : List ℕ) → IsBytes datagram → Meant datagram
decides datagram good = elim (cases_lt (length datagram) 8) [
  | inl short ↦ inr (_, Faults.too_short short refl)
  | inr long ↦ by_frame long (frame_or datagram good long)
]
  where
    by_frame : 8 ≤ length datagram → Frame datagram → Meant datagram
    by_frame long (Frames.wrong first rest small back wrong) = inr (_, Faults.wrong_length first rest small (omega arith) back wrong refl)
    by_frame long (Frames.holds k bytes h good_bytes) = elim (cases_eq k 0) [
      | inl zero ↦ typed_or datagram k false bytes (inl (refl, zero)) h good_bytes
      | inr not_zero ↦ elim (cases_eq k 8) [
        | inl eight ↦ typed_or datagram k true bytes (inr (refl, eight)) h good_bytes
        | inr not_eight ↦ inr (_, Faults.wrong_type k bytes h not_zero not_eight refl)
      ]
    ]

-- what a datagram means, at any length
pub meaning : Meaning reading (λ p datagram. IsPacket p × Holds datagram (kind p.body) (text p)) Refused
meaning = record { reads = reads; refuses = refuses; decides = decides }

pub of_spelled : (p : Packet) (datagram : List ℕ) → Spells datagram p → IsPacket p × Holds datagram (kind p.body) (text p)
of_spelled p datagram s = (s.is, s.holds)

-- ---- what a writer spells

written_holds : (p : Packet) → IsPacket p → IsPacket p × Holds (spelled p) (kind p.body) (text p)
unfolding spelled
written_holds p is = (
  is,
  record {
    reserved = 0;
    filling = zeros p;
    reserved_fits = omega arith;
    kind_fits = few p.body;
    headed = omega arith;
    filled = (let n : ℕ = 0 in length-replicate (7 - length (text p)) n);
    datagram_is = ap exchanged (written_is p);
  },
)
  where
    few : (body : Body) → kind body < 16
    few NoBody = omega arith
    few (DataBody number part bytes) = omega arith
    few (DummyBody number rest) = omega arith

pub written_spells : (p : Packet) → IsPacket p → length (spelled p) ≤ 1232 → Spells (spelled p) p
written_spells p is short = record { is = is; holds = (written_holds p is).1; short_enough = short }

pub written_is_read : (p : Packet) → IsPacket p → reading (spelled p) ≡ Ok p
written_is_read p is = reads p (spelled p) (written_holds p is)

-- ---- the other layout's openings

pub high_byte : (datagram : List ℕ) (p : Packet) → Spells datagram p → 64 ≤ slice_index datagram 7
high_byte datagram p s = let f = framed datagram (kind p.body) (text p) s.holds in omega (arith, f.high, f.sent)

pub low_byte : (datagram : List ℕ) → 8 ≤ length datagram → slice_index datagram 7 < 64 → Refused datagram (refusal.ShortLength 0)
low_byte datagram long low =
    let x = exchanged_of datagram long in
    Faults.wrong_length (slice_index datagram 7) x.rest (omega arith) (omega arith) x.is (inl (omega arith)) refl

-- ---- the same of what a reader answered

found_by : (datagram : List ℕ) (r : Result Packet2 Refusal2) → IsBytes datagram → length datagram ≤ 1232 → Answers packet_of r (reading datagram) → IfOk r (λ p. Spells datagram (packet_of p))
found_by datagram (Ok p) good short is =
    let s = was_spelled meaning (packet_of p) datagram good is in
    record { is = s.0; holds = s.1; short_enough = short }
found_by datagram (Err e) good short is = tt

only_by : (datagram : List ℕ) (r : Result Packet2 Refusal2) → Answers packet_of r (reading datagram) → (p : Packet) → Spells datagram p → IsOkAnd r (λ q. packet_of q ≡ p)
only_by datagram (Ok q) is p s = ok_is (packet_of q) p is (reads p datagram (of_spelled p datagram s))
only_by datagram (Err e) is p s = not_both p e (reads p datagram (of_spelled p datagram s)) is

fault_by : (datagram : List ℕ) (r : Result Packet2 Refusal2) → IsBytes datagram → Answers packet_of r (reading datagram) → IfErr r (λ e. Refused datagram e)
fault_by datagram (Ok p) good is = tt
fault_by datagram (Err e) good is = was_fault meaning e datagram good is

pub record Answered (datagram : List ℕ) (r : Result Packet2 Refusal2) : Type 0 where
  pub found : IfOk r (λ p. Spells datagram (packet_of p))
  pub only : (p : Packet) → Spells datagram p → IsOkAnd r (λ q. packet_of q ≡ p)
  pub refused : IfErr r (λ e. Refused datagram e)

pub answered : (datagram : List ℕ) (r : Result Packet2 Refusal2) → ((i : ℕ) → get_or datagram i 0 < 256) → length datagram ≤ 1232 → Answers packet_of r (reading datagram) → Answered datagram r
answered datagram r byte short exact =
    let good : IsBytes datagram = All-from_get_or (λ b. b < 256) datagram 0 (λ i within. byte i) in
    record { found = found_by datagram r good short exact; only = only_by datagram r exact; refused = fault_by datagram r good exact }
