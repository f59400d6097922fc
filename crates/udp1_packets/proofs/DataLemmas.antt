-- What stands behind the vector: an acknowledgement of acknowledgements, and the fields of data and
-- of forward error correction.
use Rattle.std.proofs.Common.{◌≡◌, ◌⊎◌, inl, inr, ℕ, ◌+◌, ◌^◌, ◌<◌, Bool, true, false, List, ◌++◌, length, Option, Some, None, Ok, Err, refl, ap, ◌∙◌, arith}
use Rattle.std.specs.Option.{is_some, IfSome}
use Rattle.std.proofs.lemmas.Bool.{true≢false, false≢true}
use Rattle.byteorder.specs.Endian.{big_bytes}
use Rattle.mt_base.specs.Writing.{joined}
use Rattle.mt_base.proofs.Fields.{Begins, big_or, block_or}
use Rattle.carrier.specs.declared.first_layout.Refusal1.{Refusal1}
use Rattle.udp1_packets.specs.Value.{DataBody, FecBody}
use Rattle.udp1_packets.specs.Layout.{IsBytes, aoa_fields}
use Rattle.udp1_packets.specs.Reading.{number_where, data_at, fec_at}
use Rattle.udp1_packets.specs.Faults.{Cut, RefusedData, coded_cut, start_cut, range_cut, index_cut, after_index_cut}
use Rattle.mt_base.proofs.FrontFields.{left_at as at}
use Rattle.udp1_packets.proofs.Pieces.{number_reads, number_cut, block_reads, block_cut, cut_at}

-- ---- a number that may be there

abbrev pub aoa_text : Option ℕ → List ℕ
aoa_text aoa = joined (aoa_fields aoa)

abbrev pub IsNumber : Bool → Option ℕ → Type 0
IsNumber there o = (is_some o ≡ there) × IfSome o (λ number. number < 2 ^ 32)

pub number_where_reads : (there : Bool) (o : Option ℕ) → IsNumber there o → (n : ℕ) (rest : List ℕ) → number_where there (at n (aoa_text o ++ rest)) ≡ Ok (o, at (n + length (aoa_text o)) rest)
unfolding number_where
number_where_reads false None h n rest = ap (λ m. Ok (None, at m rest)) (let z : n ≡ n + 0 = omega arith in z)
number_where_reads true None h n rest = absurd (false≢true h.0)
number_where_reads false (Some x) h n rest = absurd (true≢false h.0)
number_where_reads true (Some x) h n rest = rw (number_reads 4 x h.1 n rest) refl

pub number_where_refused : (there : Bool) → there ≡ true → (n : ℕ) (bytes : List ℕ) (r : Refusal1) → Cut n 4 bytes r → number_where there (at n bytes) ≡ Err r
unfolding number_where
number_where_refused true on n bytes r fault = rw (number_cut 4 n bytes r fault) refl
number_where_refused false on n bytes r fault = cc

pub number_where_or : (there : Bool) (bytes : List ℕ) → IsBytes bytes → ((there ≡ true) × (length bytes < 4)) ⊎ Begins aoa_text (IsNumber there) bytes
number_where_or false bytes good = inr (record { value = None; rest = bytes; good = (refl, tt); bytes_are = refl; bytes_behind = good })
number_where_or true bytes good = elim (big_or 4 bytes good) [
  | inl few ↦ inl (refl, few)
  | inr b ↦ inr (record { value = Some b.value; rest = b.rest; good = (refl, b.good); bytes_are = b.bytes_are; bytes_behind = b.bytes_behind })
]

-- ---- data

pub data_reads : (vector : Option (List ℕ)) (aoa : Option ℕ) (coded start : ℕ) → coded < 2 ^ 32 → start < 2 ^ 32 → (n : ℕ) (rest : List ℕ)
    → data_at vector aoa (at n (big_bytes 4 coded ++ (big_bytes 4 start ++ rest))) ≡ Ok (DataBody vector aoa coded start rest)
unfolding data_at
data_reads vector aoa coded start c s n rest =
    rw (number_reads 4 coded c n (big_bytes 4 start ++ rest), number_reads 4 start s (n + 4) rest) refl

pub data_answer : (vector : Option (List ℕ)) (aoa : Option ℕ) (n : ℕ) (bytes : List ℕ) (r : Refusal1) → RefusedData false n bytes r → data_at vector aoa (at n bytes) ≡ Err r
unfolding data_at
data_answer vector aoa n bytes r (coded_cut fault) = rw (number_cut 4 n bytes r fault) refl
data_answer vector aoa n bytes r (start_cut coded rest c is fault) = rw (is, number_reads 4 coded c n rest, number_cut 4 (n + 4) rest r fault) refl
data_answer vector aoa n bytes r (range_cut coded start rest (c, s, is) on fault) = absurd (false≢true on)
data_answer vector aoa n bytes r (index_cut coded start range rest (c, s, is) on g fault) = absurd (false≢true on)
data_answer vector aoa n bytes r (after_index_cut coded start range index rest (c, s, is) on g i fault) = absurd (false≢true on)

-- ---- forward error correction

pub fec_reads : (vector : Option (List ℕ)) (aoa : Option ℕ) (coded start range index : ℕ) (pad : List ℕ) → coded < 2 ^ 32 → start < 2 ^ 32 → range < 2 ^ 8 → index < 2 ^ 8 → length pad ≡ 2 → (n : ℕ) (rest : List ℕ)
    → fec_at vector aoa (at n (big_bytes 4 coded ++ (big_bytes 4 start ++ (big_bytes 1 range ++ (big_bytes 1 index ++ (pad ++ rest)))))) ≡ Ok (FecBody vector aoa coded start range index rest)
unfolding fec_at
fec_reads vector aoa coded start range index pad c s g i long n rest =
    rw (
      number_reads 4 coded c n (big_bytes 4 start ++ (big_bytes 1 range ++ (big_bytes 1 index ++ (pad ++ rest)))),
      number_reads 4 start s (n + 4) (big_bytes 1 range ++ (big_bytes 1 index ++ (pad ++ rest))),
      number_reads 1 range g (n + 4 + 4) (big_bytes 1 index ++ (pad ++ rest)),
      number_reads 1 index i (n + 4 + 4 + 1) (pad ++ rest),
      block_reads 2 pad long (n + 4 + 4 + 1 + 1) rest,
    ) refl

pub fec_answer : (vector : Option (List ℕ)) (aoa : Option ℕ) (n : ℕ) (bytes : List ℕ) (r : Refusal1) → RefusedData true n bytes r → fec_at vector aoa (at n bytes) ≡ Err r
unfolding fec_at
fec_answer vector aoa n bytes r (coded_cut fault) = rw (number_cut 4 n bytes r fault) refl
fec_answer vector aoa n bytes r (start_cut coded rest c is fault) = rw (is, number_reads 4 coded c n rest, number_cut 4 (n + 4) rest r fault) refl
fec_answer vector aoa n bytes r (range_cut coded start rest (c, s, is) on fault) =
    let place : n + 8 ≡ n + 4 + 4 = omega arith in
    rw (
      is,
      number_reads 4 coded c n (big_bytes 4 start ++ rest),
      number_reads 4 start s (n + 4) rest,
      number_cut 1 (n + 4 + 4) rest r (cut_at 1 rest r (n + 8) (n + 4 + 4) place fault),
    ) refl
fec_answer vector aoa n bytes r (index_cut coded start range rest (c, s, is) on g fault) =
    let place : n + 9 ≡ n + 4 + 4 + 1 = omega arith in
    rw (
      is,
      number_reads 4 coded c n (big_bytes 4 start ++ (big_bytes 1 range ++ rest)),
      number_reads 4 start s (n + 4) (big_bytes 1 range ++ rest),
      number_reads 1 range g (n + 4 + 4) rest,
      number_cut 1 (n + 4 + 4 + 1) rest r (cut_at 1 rest r (n + 9) (n + 4 + 4 + 1) place fault),
    ) refl
fec_answer vector aoa n bytes r (after_index_cut coded start range index rest (c, s, is) on g i fault) =
    let place : n + 10 ≡ n + 4 + 4 + 1 + 1 = omega arith in
    rw (
      is,
      number_reads 4 coded c n (big_bytes 4 start ++ (big_bytes 1 range ++ (big_bytes 1 index ++ rest))),
      number_reads 4 start s (n + 4) (big_bytes 1 range ++ (big_bytes 1 index ++ rest)),
      number_reads 1 range g (n + 4 + 4) (big_bytes 1 index ++ rest),
      number_reads 1 index i (n + 4 + 4 + 1) rest,
      block_cut 2 (n + 4 + 4 + 1 + 1) rest r (cut_at 2 rest r (n + 10) (n + 4 + 4 + 1 + 1) place fault),
    ) refl

-- ---- bytes begin with these fields, or have a fault

-- the two numbers before data
pub record Starts (bytes : List ℕ) : Type 0 where
  pub coded : ℕ
  pub start : ℕ
  pub rest : List ℕ
  pub coded_fits : coded < 2 ^ 32
  pub start_fits : start < 2 ^ 32
  pub bytes_are : bytes ≡ big_bytes 4 coded ++ (big_bytes 4 start ++ rest)
  pub bytes_behind : IsBytes rest

pub starts_or : (fec : Bool) (n : ℕ) (bytes : List ℕ) → IsBytes bytes → ((r : Refusal1) × RefusedData fec n bytes r) ⊎ Starts bytes
starts_or fec n bytes good = by_coded (big_or 4 bytes good)
  where
    by_start : (c : Begins (big_bytes 4) (λ x. x < 256 ^ 4) bytes) → (length c.rest < 4) ⊎ Begins (big_bytes 4) (λ x. x < 256 ^ 4) c.rest → ((r : Refusal1) × RefusedData fec n bytes r) ⊎ Starts bytes
    by_start c (inl few) = inl (_, start_cut c.value c.rest c.good c.bytes_are (few, refl))
    by_start c (inr s) = inr (record {
      coded = c.value;
      start = s.value;
      rest = s.rest;
      coded_fits = c.good;
      start_fits = s.good;
      bytes_are = c.bytes_are ∙ ap (λ t. big_bytes 4 c.value ++ t) s.bytes_are;
      bytes_behind = s.bytes_behind;
    })

    by_coded : (length bytes < 4) ⊎ Begins (big_bytes 4) (λ x. x < 256 ^ 4) bytes → ((r : Refusal1) × RefusedData fec n bytes r) ⊎ Starts bytes
    by_coded (inl few) = inl (_, coded_cut (few, refl))
    by_coded (inr c) = by_start c (big_or 4 c.rest c.bytes_behind)

-- and the two more and two bytes before those of forward error correction
pub record Corrects (bytes : List ℕ) : Type 0 where
  pub coded : ℕ
  pub start : ℕ
  pub range : ℕ
  pub index : ℕ
  pub pad : List ℕ
  pub rest : List ℕ
  pub coded_fits : coded < 2 ^ 32
  pub start_fits : start < 2 ^ 32
  pub range_fits : range < 2 ^ 8
  pub index_fits : index < 2 ^ 8
  pub pad_is : (length pad ≡ 2) × IsBytes pad
  pub bytes_are : bytes ≡ big_bytes 4 coded ++ (big_bytes 4 start ++ (big_bytes 1 range ++ (big_bytes 1 index ++ (pad ++ rest))))
  pub bytes_behind : IsBytes rest

pub corrects_or : (n : ℕ) (bytes : List ℕ) → IsBytes bytes → ((r : Refusal1) × RefusedData true n bytes r) ⊎ Corrects bytes
corrects_or n bytes good = by_start (starts_or true n bytes good)
  where
    by_pad : (c s g i : ℕ) (rest : List ℕ) → c < 2 ^ 32 → s < 2 ^ 32 → g < 2 ^ 8 → i < 2 ^ 8 → bytes ≡ big_bytes 4 c ++ (big_bytes 4 s ++ (big_bytes 1 g ++ (big_bytes 1 i ++ rest)))
        → (length rest < 2) ⊎ Begins (λ x. x) (λ x. (length x ≡ 2) × IsBytes x) rest → ((r : Refusal1) × RefusedData true n bytes r) ⊎ Corrects bytes
    by_pad c s g i rest cf sf gf if_ is (inl few) = inl (_, after_index_cut c s g i rest (cf, sf, is) refl gf if_ (few, refl))
    by_pad c s g i rest cf sf gf if_ is (inr p) = inr (record {
      coded = c;
      start = s;
      range = g;
      index = i;
      pad = p.value;
      rest = p.rest;
      coded_fits = cf;
      start_fits = sf;
      range_fits = gf;
      index_fits = if_;
      pad_is = p.good;
      bytes_are = is ∙ ap (λ t. big_bytes 4 c ++ (big_bytes 4 s ++ (big_bytes 1 g ++ (big_bytes 1 i ++ t)))) p.bytes_are;
      bytes_behind = p.bytes_behind;
    })

    by_index : (c s g : ℕ) (rest : List ℕ) → c < 2 ^ 32 → s < 2 ^ 32 → g < 2 ^ 8 → bytes ≡ big_bytes 4 c ++ (big_bytes 4 s ++ (big_bytes 1 g ++ rest))
        → (length rest < 1) ⊎ Begins (big_bytes 1) (λ x. x < 256 ^ 1) rest → ((r : Refusal1) × RefusedData true n bytes r) ⊎ Corrects bytes
    by_index c s g rest cf sf gf is (inl few) = inl (_, index_cut c s g rest (cf, sf, is) refl gf (few, refl))
    by_index c s g rest cf sf gf is (inr i) =
        by_pad c s g i.value i.rest cf sf gf i.good (is ∙ ap (λ t. big_bytes 4 c ++ (big_bytes 4 s ++ (big_bytes 1 g ++ t))) i.bytes_are) (block_or 2 i.rest i.bytes_behind)

    by_range : (s : Starts bytes) → (length s.rest < 1) ⊎ Begins (big_bytes 1) (λ x. x < 256 ^ 1) s.rest → ((r : Refusal1) × RefusedData true n bytes r) ⊎ Corrects bytes
    by_range s (inl few) = inl (_, range_cut s.coded s.start s.rest (s.coded_fits, s.start_fits, s.bytes_are) refl (few, refl))
    by_range s (inr g) =
        by_index s.coded s.start g.value g.rest s.coded_fits s.start_fits g.good (s.bytes_are ∙ ap (λ t. big_bytes 4 s.coded ++ (big_bytes 4 s.start ++ t)) g.bytes_are) (big_or 1 g.rest g.bytes_behind)

    by_start : ((r : Refusal1) × RefusedData true n bytes r) ⊎ Starts bytes → ((r : Refusal1) × RefusedData true n bytes r) ⊎ Corrects bytes
    by_start (inl fault) = inl fault
    by_start (inr s) = by_range s (big_or 1 s.rest s.bytes_behind)
