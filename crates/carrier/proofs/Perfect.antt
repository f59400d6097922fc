-- Lemmas on perfect links.
use Rattle.std.proofs.Common.{◌≡◌, ℕ, ◌+◌, ◌≤◌, min, max, List, [], ◌++◌, length, take, drop, refl, sym, ap, ◌∙◌, append_assoc, append-nil, arith}
use Rattle.std.proofs.lemmas.List.{take-append-le, drop-append-le, drop-drop, take-append-drop, length-take, length-drop, drop_min, take_min}
use Rattle.std.proofs.Math.Nat.{min_comm}
use Rattle.std.proofs.Math.Seq.{take-append-add, drop-append-add, drop-append_seam}
use borrow.Rule.Slice.PartMut.{put_mid, mid_of}
use Rattle.byteorder.specs.Endian.{little_bytes}
use Rattle.mt_base.specs.Trace.{Trace, ◌▷◌}
use Rattle.carrier.specs.declared.state.Took.{Took}
use Rattle.carrier.specs.declared.state.Took.TheVariants.{Used, Ignored}
use Rattle.carrier.specs.Entries.{Entry, In, pulled}
use Rattle.carrier.specs.Perfect.{spelled, number_of, bytes_of, unpulled, next_number, answer_by, answered}
use Rattle.carrier.specs.PerfectView.{Kept, CarrierStands, carrier_took}

-- ---- a datagram that is written

pub first_bytes : (n : ℕ) (xs : List ℕ) → take (min (length xs) n) xs ≡ take n xs
first_bytes n xs = ap (λ m. take m xs) (min_comm (length xs) n) ∙ take_min n xs

pub bytes_behind : (n : ℕ) (xs : List ℕ) → drop (min (length xs) n) xs ≡ drop n xs
bytes_behind n xs = ap (λ m. drop m xs) (min_comm (length xs) n) ∙ drop_min n xs

-- a buffer whose front was written and then its end
pub written : (number count : ℕ) (buffer old piece bytes : List ℕ) → buffer ≡ little_bytes 8 number ++ drop 8 old → count ≤ length piece → take count piece ≡ bytes → take (8 + count) (put_mid 8 1224 buffer piece) ≡ spelled number bytes
written number count buffer old piece bytes e within same =
    ap (λ b. take (8 + count) (put_mid 8 1224 b piece)) e
    ∙ take-append-add (little_bytes 8 number) (piece ++ drop 1224 (drop 8 old)) count
    ∙ ap (λ xs. little_bytes 8 number ++ xs) (take-append-le count piece (drop 1224 (drop 8 old)) within ∙ same)

-- and what stands behind the front and that end
pub behind : (number count : ℕ) (buffer old piece : List ℕ) → buffer ≡ little_bytes 8 number ++ drop 8 old → length old ≡ 1232 → length piece ≡ 1224 → count ≤ 1224
    → drop count piece ≡ drop count (mid_of 8 1224 buffer) → drop (8 + count) (put_mid 8 1224 buffer piece) ≡ drop (8 + count) old
behind number count buffer old piece e long size within same =
    let front = take 1224 (drop 8 old) in
    let end = drop 1224 (drop 8 old) in
    let fits : count ≤ length front = omega (arith, within, long, length-take 1224 (drop 8 old), length-drop 8 old) in
    ap (λ b. drop (8 + count) (put_mid 8 1224 b piece)) e
    ∙ drop-append-add (little_bytes 8 number) (piece ++ end) count
    ∙ drop-append-le count piece end (omega (arith, within, size))
    ∙ ap (λ xs. xs ++ end) (same ∙ ap (λ b. drop count (mid_of 8 1224 b)) e)
    ∙ sym (drop-append-le count front end fits)
    ∙ ap (drop count) (take-append-drop 1224 (drop 8 old))
    ∙ drop-drop count 8 old

-- ---- a carrier that takes a datagram

-- what it keeps to be pulled is what was not pulled
pub unpulled_is : (s : Kept) (t : Trace Entry) → CarrierStands s t → unpulled t ≡ s.arrived
unpulled_is s t h = ap (drop (length (pulled t))) (sym h.in_order) ∙ drop-append_seam (pulled t) s.arrived

pub answers : (s : Kept) (t : Trace Entry) (datagram : List ℕ) → CarrierStands s t → answer_by s.next (length s.arrived) (number_of datagram) (length (bytes_of datagram)) ≡ answered t datagram
answers s t datagram h =
    ap (λ n. answer_by n (length s.arrived) (number_of datagram) (length (bytes_of datagram))) h.next_is
    ∙ ap (λ xs. answer_by (next_number t) (length xs) (number_of datagram) (length (bytes_of datagram))) (sym (unpulled_is s t h))

pub takes : (s : Kept) (t : Trace Entry) (now last : ℕ) (datagram : List ℕ) (took : Took) → CarrierStands s t → last ≡ max s.last now → took ≡ answer_by s.next (length s.arrived) (number_of datagram) (length (bytes_of datagram)) → CarrierStands (carrier_took took (bytes_of datagram) (record s { last = last })) (t ▷ In now datagram took)
takes s t now last datagram Used h later e = record {
  waiting_is = h.waiting_is;
  sent_is = h.sent_is;
  in_order = sym (append_assoc (pulled t) s.arrived (bytes_of datagram)) ∙ ap (λ xs. xs ++ bytes_of datagram) h.in_order;
  next_is = ap (λ n. n + 1) h.next_is;
  last_is = later ∙ ap (λ m. max m now) h.last_is;
  faithful = (e ∙ answers s t datagram h, h.faithful);
}
takes s t now last datagram (Ignored why) h later e = record {
  waiting_is = h.waiting_is;
  sent_is = h.sent_is;
  in_order = h.in_order;
  next_is = h.next_is;
  last_is = later ∙ ap (λ m. max m now) h.last_is;
  faithful = (e ∙ answers s t datagram h, h.faithful);
}

pub takes_more : (s : Kept) (bytes : List ℕ) (took : Took) → (more : List ℕ) × ((carrier_took took bytes s).arrived ≡ s.arrived ++ more)
takes_more s bytes Used = (bytes, refl)
takes_more s bytes (Ignored why) = ([], sym (append-nil s.arrived))
