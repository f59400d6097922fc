-- The vector of a packet: what its reading gives at bytes that spell it and at each fault, and that
-- bytes spell it or have a fault.
use Rattle.std.proofs.Common.{◌≡◌, ◌⊎◌, inl, inr, ℕ, ◌+◌, ◌%◌, ◌^◌, ◌<◌, ◌≤◌, Bool, true, false, cond, ltb, List, [], ◌∷◌, ◌++◌, length, Option, Some, None, Ok, Err, refl, sym, ap, ◌∙◌, arith, append_assoc}
use Rattle.std.specs.List.{All, position_from}
use Rattle.std.specs.Option.{is_some}
use Rattle.std.proofs.lemmas.Bool.{cases_lt, lt-ltb, le-ltb, cond-true, cond-false, true≢false, false≢true}
use Rattle.std.proofs.lemmas.List.{length-append}
use Rattle.byteorder.specs.Endian.{big_bytes}
use Rattle.mt_base.proofs.Fields.{Begins, big_or, block_or}
use Rattle.mt_base.proofs.Firsts.{NonePasses, First, first_or, first_at, none_at}
use Rattle.ack_vector.specs.Elements.{IsGood}
use Rattle.carrier.specs.declared.first_layout.Refusal1.{Refusal1}
use Rattle.carrier.specs.declared.first_layout.Refusal1.TheVariants as refusal
use Rattle.udp1_packets.specs.Layout.{IsBytes, IsVector, Fills, to_four}
use Rattle.udp1_packets.specs.Reading.{states_to, elements_at, size_at, vector_at, vector_where}
use Rattle.udp1_packets.specs.Faults.{vector_bytes, Cut, RefusedVector, size_cut, too_long, elements_cut, state_wrong, fill_cut}
use Rattle.udp1_packets.proofs.States.{is_wrong, all_good, none_wrong, bad_passes, bad_from}
use Rattle.mt_base.proofs.FrontFields.{left_at as at}
use Rattle.udp1_packets.proofs.Pieces.{number_reads, number_cut, block_reads, block_cut}

-- ---- the size

size_read : (size : ℕ) → size < 256 ^ 2 → (n : ℕ) (rest : List ℕ) → size_at (at n (big_bytes 2 size ++ rest)) ≡ cond (ltb 2048 size) (Err (refusal.VectorTooLong n)) (Ok (size, at (n + 2) rest))
unfolding size_at
size_read size fits n rest = rw (number_reads 2 size fits n rest) refl

size_reads : (size : ℕ) → size ≤ 2048 → (n : ℕ) (rest : List ℕ) → size_at (at n (big_bytes 2 size ++ rest)) ≡ Ok (size, at (n + 2) rest)
size_reads size few n rest = size_read size (omega arith) n rest ∙ cond-false (ltb 2048 size) _ _ (le-ltb 2048 size few)

size_refused : (size : ℕ) → size < 2 ^ 16 → 2048 < size → (n : ℕ) (rest : List ℕ) → size_at (at n (big_bytes 2 size ++ rest)) ≡ Err (refusal.VectorTooLong n)
size_refused size fits many n rest = size_read size fits n rest ∙ cond-true (ltb 2048 size) _ _ (lt-ltb 2048 size many)

size_short : (n : ℕ) (rest : List ℕ) (r : Refusal1) → Cut n 2 rest r → size_at (at n rest) ≡ Err r
unfolding size_at
size_short n rest r fault = rw (number_cut 2 n rest r fault) refl

-- ---- the elements

elements_read : (es : List ℕ) (n : ℕ) (rest : List ℕ) → elements_at (length es) (at n (es ++ rest)) ≡ states_to (position_from is_wrong 0 es) es n (at (n + length es) rest)
unfolding elements_at
elements_read es n rest = rw (block_reads (length es) es refl n rest) refl

elements_reads : (es : List ℕ) → All IsGood es → (n : ℕ) (rest : List ℕ) → elements_at (length es) (at n (es ++ rest)) ≡ Ok (es, at (n + length es) rest)
elements_reads es good n rest =
    elements_read es n rest ∙ ap (λ o. states_to o es n (at (n + length es) rest)) (none_at is_wrong es 0 (all_good es good))

elements_refused : (good others : List ℕ) (e : ℕ) → All IsGood good → (IsGood e → ⊥) → (n : ℕ) (rest : List ℕ)
    → elements_at (length (good ++ (e ∷ others))) (at n ((good ++ (e ∷ others)) ++ rest)) ≡ Err (refusal.BadState (n + length good))
elements_refused good others e fine bad n rest =
    let es = good ++ (e ∷ others) in
    let place : 0 + length good ≡ length good = omega arith in
    elements_read es n rest ∙ ap (λ o. states_to o es n (at (n + length es) rest)) (first_at is_wrong good others e 0 (all_good good fine) (bad_passes e bad))
    ∙ ap (λ m. Err (refusal.BadState (n + m))) place

elements_short : (size n : ℕ) (rest : List ℕ) (r : Refusal1) → Cut n size rest r → elements_at size (at n rest) ≡ Err r
unfolding elements_at
elements_short size n rest r fault = rw (block_cut size n rest r fault) refl

-- ---- the vector

-- the bytes that fill the last unit are as many as bring the size to four
fill_length : (es padding : List ℕ) → (length padding < 4) × ((2 + length es + length padding) % 4 ≡ 0) × IsBytes padding → length padding ≡ to_four (2 + length es)
fill_length es padding h = count (length es) (length padding) h.0 h.1
  where
    count : (n k : ℕ) → k < 4 → (2 + n + k) % 4 ≡ 0 → k ≡ to_four (2 + n)
    count n k small even = omega arith

pub fill_from : (es padding : List ℕ) → length padding ≡ to_four (2 + length es) → IsBytes padding → Fills (Some es) padding
fill_from es padding is bytes = (small (length es) (length padding) is, even (length es) (length padding) is, bytes)
  where
    small : (n k : ℕ) → k ≡ to_four (2 + n) → k < 4
    small n k is = omega arith

    even : (n k : ℕ) → k ≡ to_four (2 + n) → (2 + n + k) % 4 ≡ 0
    even n k is = omega arith

vector_reads : (es padding : List ℕ) → (length es ≤ 2048) × All IsGood es → Fills (Some es) padding → (n : ℕ) (rest : List ℕ)
    → vector_at (at n (big_bytes 2 (length es) ++ (es ++ (padding ++ rest)))) ≡ Ok (es, at (n + 2 + length es + length padding) rest)
unfolding vector_at
vector_reads es padding good fills n rest =
    rw (
      size_reads (length es) good.0 n (es ++ (padding ++ rest)),
      elements_reads es good.1 (n + 2) (padding ++ rest),
      block_reads (to_four (2 + length es)) padding (fill_length es padding fills) (n + 2 + length es) rest,
    ) (ap (λ m. Ok (es, at (n + 2 + length es + m) rest)) (sym (fill_length es padding fills)))

pub vector_answer : (n : ℕ) (bytes : List ℕ) (r : Refusal1) → RefusedVector n bytes r → vector_at (at n bytes) ≡ Err r
unfolding vector_at
vector_answer n bytes r (size_cut fault) = rw (size_short n bytes r fault) refl
vector_answer n bytes r (too_long size rest fits many is r_is) = rw (is, size_refused size fits many n rest, r_is) refl
vector_answer n bytes r (elements_cut size rest few is fault) =
    rw (is, size_reads size few n rest, elements_short size (n + 2) rest r fault) refl
vector_answer n bytes r (state_wrong good others rest e (few, is) fine bad r_is) =
    rw (
      is,
      size_reads (length (good ++ (e ∷ others))) few n ((good ++ (e ∷ others)) ++ rest),
      elements_refused good others e fine bad (n + 2) rest,
      r_is,
    ) refl
vector_answer n bytes r (fill_cut es rest (few, is) good fault) =
    rw (
      is,
      size_reads (length es) few n (es ++ rest),
      elements_reads es good (n + 2) rest,
      block_cut (to_four (2 + length es)) (n + 2 + length es) rest r fault,
    ) refl

-- ---- a vector that may be there

pub vector_where_reads : (there : Bool) (vector : Option (List ℕ)) (padding : List ℕ) → is_some vector ≡ there → IsVector vector → Fills vector padding → (n : ℕ) (rest : List ℕ)
    → vector_where there (at n (vector_bytes vector padding ++ rest)) ≡ Ok (vector, at (n + length (vector_bytes vector padding)) rest)
unfolding vector_where
vector_where_reads false None padding h good fills n rest = ap (λ m. Ok (None, at m rest)) (let z : n ≡ n + 0 = omega arith in z)
vector_where_reads true None padding h good fills n rest = absurd (false≢true h)
vector_where_reads false (Some es) padding h good fills n rest = absurd (true≢false h)
vector_where_reads true (Some es) padding h good fills n rest =
    let whole : vector_bytes (Some es) padding ++ rest ≡ big_bytes 2 (length es) ++ (es ++ (padding ++ rest)) =
    ap (λ t. big_bytes 2 (length es) ++ t) (append_assoc es (padding ++ []) rest ∙ ap (λ t. es ++ t) (append_assoc padding [] rest)) in
    let place : n + 2 + length es + length padding ≡ n + length (vector_bytes (Some es) padding) = omega (arith, length-append es (padding ++ []), length-append padding []) in
    rw (whole, vector_reads es padding good fills n rest) (ap (λ m. Ok (Some es, at m rest)) place)

pub vector_where_refused : (there : Bool) → there ≡ true → (n : ℕ) (bytes : List ℕ) (r : Refusal1) → RefusedVector n bytes r → vector_where there (at n bytes) ≡ Err r
unfolding vector_where
vector_where_refused true on n bytes r fault = rw (vector_answer n bytes r fault) refl
vector_where_refused false on n bytes r fault = cc

-- bytes begin with a vector
pub record Vectored (there : Bool) (bytes : List ℕ) : Type 0 where
  pub vector : Option (List ℕ)
  pub padding : List ℕ
  pub rest : List ℕ
  pub there_is : is_some vector ≡ there
  pub good : IsVector vector
  pub fills : Fills vector padding
  pub bytes_are : bytes ≡ vector_bytes vector padding ++ rest
  pub bytes_behind : IsBytes rest

abbrev pub Decided : Bool → ℕ → List ℕ → Type 0
Decided there n bytes = ((r : Refusal1) × (there ≡ true) × RefusedVector n bytes r) ⊎ Vectored there bytes

vector_or : (n : ℕ) (bytes : List ℕ) → IsBytes bytes → Decided true n bytes
vector_or n bytes good = by_size (big_or 2 bytes good)
  where
    by_fill : (es rest : List ℕ) → length es ≤ 2048 → All IsGood es → bytes ≡ big_bytes 2 (length es) ++ (es ++ rest)
        → (length rest < to_four (2 + length es)) ⊎ Begins (λ x. x) (λ x. (length x ≡ to_four (2 + length es)) × IsBytes x) rest → Decided true n bytes
    by_fill es rest few fine is (inl short) = inl (_, refl, fill_cut es rest (few, is) fine (short, refl))
    by_fill es rest few fine is (inr p) = inr (record {
      vector = Some es;
      padding = p.value;
      rest = p.rest;
      there_is = refl;
      good = (few, fine);
      fills = fill_from es p.value p.good.0 p.good.1;
      bytes_are = is ∙ ap (λ t. big_bytes 2 (length es) ++ t) (ap (λ t. es ++ t) (p.bytes_are ∙ sym (append_assoc p.value [] p.rest)) ∙ sym (append_assoc es (p.value ++ []) p.rest));
      bytes_behind = p.bytes_behind;
    })

    by_states : (es rest : List ℕ) → length es ≤ 2048 → bytes ≡ big_bytes 2 (length es) ++ (es ++ rest) → IsBytes rest → NonePasses is_wrong es ⊎ First is_wrong es → Decided true n bytes
    by_states es rest few is behind (inl none) = by_fill es rest few (none_wrong es none) is (block_or (to_four (2 + length es)) rest behind)
    by_states es rest few is behind (inr f) =
        let whole : bytes ≡ big_bytes 2 (length (f.front ++ (f.element ∷ f.rest))) ++ ((f.front ++ (f.element ∷ f.rest)) ++ rest) = is ∙ ap (λ t. big_bytes 2 (length t) ++ (t ++ rest)) f.xs_are in
        inl (_, refl, state_wrong f.front f.rest rest f.element (omega (arith, few, ap length f.xs_are), whole) (none_wrong f.front f.before) (bad_from f.element f.passes) refl)

    by_elements : (size : ℕ) (rest : List ℕ) → size ≤ 2048 → bytes ≡ big_bytes 2 size ++ rest → (length rest < size) ⊎ Begins (λ x. x) (λ x. (length x ≡ size) × IsBytes x) rest → Decided true n bytes
    by_elements size rest few is (inl short) = inl (_, refl, elements_cut size rest few is (short, refl))
    by_elements size rest few is (inr b) =
        by_states b.value b.rest (omega (arith, few, b.good.0)) (is ∙ ap (λ m. big_bytes 2 m ++ rest) (sym b.good.0) ∙ ap (λ t. big_bytes 2 (length b.value) ++ t) b.bytes_are) b.bytes_behind (first_or is_wrong b.value)

    by_limit : (size : ℕ) (rest : List ℕ) → size < 2 ^ 16 → bytes ≡ big_bytes 2 size ++ rest → IsBytes rest → (2048 < size) ⊎ (size ≤ 2048) → Decided true n bytes
    by_limit size rest fits is behind (inl many) = inl (_, refl, too_long size rest fits many is refl)
    by_limit size rest fits is behind (inr few) = by_elements size rest few is (block_or size rest behind)

    by_size : (length bytes < 2) ⊎ Begins (big_bytes 2) (λ x. x < 256 ^ 2) bytes → Decided true n bytes
    by_size (inl short) = inl (_, refl, size_cut (short, refl))
    by_size (inr s) = by_limit s.value s.rest s.good s.bytes_are s.bytes_behind (cases_lt 2048 s.value)

pub vector_where_or : (there : Bool) (n : ℕ) (bytes : List ℕ) → IsBytes bytes → Decided there n bytes
vector_where_or false n bytes good = inr (record { vector = None; padding = []; rest = bytes; there_is = refl; good = tt; fills = refl; bytes_are = refl; bytes_behind = good })
vector_where_or true n bytes good = vector_or n bytes good
