-- What the reading of each small part gives: at bytes that spell it, and where it is refused; and
-- that bytes spell it or are refused.
use Rattle.std.proofs.Common.{◌≡◌, ◌⊎◌, inl, inr, ℕ, zero, suc, ◌+◌, ◌^◌, ◌<◌, ◌≤◌, Bool, true, false, not, ◌||◌, cond, ltb, eqb, List, [], ◌∷◌, ◌++◌, length, take, drop, replicate, Option, Some, None, Result, Ok, Err, refl, sym, ap, ◌∙◌, subst, arith, append_assoc}
use Rattle.std.proofs.lemmas.Bool.{cases_lt, cases_Bool, lt-ltb, le-ltb, ltb-true, ltb-false, or_from, or_left, or_right, or_cases, or_parts, eq-eqb, ne_eqb, eqb-true, eqb-false, cond-true, cond-false}
use Rattle.std.proofs.lemmas.List.{length-append, take_at, drop_at, length-replicate}
use Rattle.std.proofs.lemmas.List.Elements.{All-cons, All-nil, All-head, All-tail}
use Rattle.byteorder.specs.Endian.{big_bytes}
use Rattle.mt_base.specs.Reading.{Left, block, big}
use Rattle.mt_base.proofs.Fields.{Begins, big_or, block_or, as_err}
use Rattle.mt_base.proofs.FrontFields
use Rattle.mt_base.proofs.FrontFields.{left_at as at, big_reads, big_cut}
use Rattle.mt_base.proofs.Firsts.{NonePasses, first_or, first_at, none_at}
use Rattle.carrier.specs.declared.first_layout.Refusal1.{Refusal1}
use Rattle.carrier.specs.declared.first_layout.Refusal1.TheVariants as refusal
use Rattle.udp1_packets.specs.Layout.{IsBytes, IsMtu, IsBlock}
use Rattle.udp1_packets.specs.Reading.{cut, mtu_at, block32_at, zeros_at, zeros_to}
use Rattle.udp1_packets.specs.Faults.{block_bytes, Cut, RefusedMtu, mtu_cut, mtu_wrong}

-- ---- numbers and blocks

pub number_reads : (width x : ℕ) → x < 256 ^ width → (n : ℕ) (rest : List ℕ) → cut (big width (at n (big_bytes width x ++ rest))) ≡ Ok (x, at (n + length (big_bytes width x)) rest)
number_reads width x h n rest = big_reads refusal.Short width x h n rest

pub number_cut : (width n : ℕ) (rest : List ℕ) (r : Refusal1) → Cut n width rest r → cut (big width (at n rest)) ≡ Err r
number_cut width n rest r fault = big_cut refusal.Short width n rest r fault

pub block_cut : (count n : ℕ) (rest : List ℕ) (r : Refusal1) → Cut n count rest r → cut (block count (at n rest)) ≡ Err r
block_cut count n rest r fault = FrontFields.block_cut refusal.Short count n rest r fault

-- bytes that are there are taken, whatever they are
pub block_reads : (count : ℕ) (xs : List ℕ) → length xs ≡ count → (n : ℕ) (rest : List ℕ) → cut (block count (at n (xs ++ rest))) ≡ Ok (xs, at (n + count) rest)
block_reads count xs long n rest =
    let enough : count ≤ length (xs ++ rest) = omega (arith, length-append xs rest) in
    ap (λ b. cut (cond b (Err (record { at = n; need = count })) (Ok (take count (xs ++ rest), at (n + count) (drop count (xs ++ rest)))))) (le-ltb (length (xs ++ rest)) count enough)
    ∙ same (take count (xs ++ rest)) xs (drop count (xs ++ rest)) rest (take_at xs rest count long) (drop_at xs rest count long)
  where
    same : (v x left rest : List ℕ) → v ≡ x → left ≡ rest → (let end : Result (List ℕ × Left) Refusal1 = Ok (v, at (n + count) left) in end ≡ Ok (x, at (n + count) rest))
    same v x left rest e f = rw (e, f) refl

-- a cut field by its place, written in another way
pub cut_at : (need : ℕ) (rest : List ℕ) (r : Refusal1) (m n : ℕ) → m ≡ n → Cut m need rest r → Cut n need rest r
cut_at need rest r m n same fault = subst (λ n. Cut n need rest r) same fault

-- ---- MTUs

abbrev outside : ℕ → Bool
outside mtu = ltb mtu 1132 || ltb 1232 mtu

mtu_read : (mtu : ℕ) → mtu < 256 ^ 2 → (n : ℕ) (rest : List ℕ) → mtu_at (at n (big_bytes 2 mtu ++ rest)) ≡ cond (outside mtu) (Err (refusal.BadMtu n)) (Ok (mtu, at (n + 2) rest))
unfolding mtu_at
mtu_read mtu fits n rest = rw (number_reads 2 mtu fits n rest) refl

pub mtu_reads : (mtu : ℕ) → IsMtu mtu → (n : ℕ) (rest : List ℕ) → mtu_at (at n (big_bytes 2 mtu ++ rest)) ≡ Ok (mtu, at (n + 2) rest)
mtu_reads mtu good n rest =
    mtu_read mtu (omega (arith, good.1)) n rest ∙ cond-false (outside mtu) _ _ (or_from (ltb mtu 1132) (ltb 1232 mtu) (le-ltb mtu 1132 good.0) (le-ltb 1232 mtu good.1))

mtu_is : (mtu : ℕ) → outside mtu ≡ false → IsMtu mtu
mtu_is mtu off = let parts = or_parts (ltb mtu 1132) (ltb 1232 mtu) off in (ltb-false mtu 1132 parts.0, ltb-false 1232 mtu parts.1)

mtu_is_not : (mtu : ℕ) → outside mtu ≡ true → IsMtu mtu → ⊥
mtu_is_not mtu on good = elim (or_cases (ltb mtu 1132) (ltb 1232 mtu) on) [
  | inl low ↦ omega (arith, ltb-true mtu 1132 low, good.0)
  | inr high ↦ omega (arith, ltb-true 1232 mtu high, good.1)
]

mtu_outside : (mtu : ℕ) → (IsMtu mtu → ⊥) → outside mtu ≡ true
mtu_outside mtu bad = elim (cases_Bool (outside mtu)) [
  | inl on ↦ on
  | inr off ↦ absurd (bad (mtu_is mtu off))
]

pub mtu_answer : (n : ℕ) (bytes : List ℕ) (r : Refusal1) → RefusedMtu n bytes r → mtu_at (at n bytes) ≡ Err r
unfolding mtu_at
mtu_answer n bytes r (mtu_cut fault) = rw (number_cut 2 n bytes r fault) refl
mtu_answer n bytes r (mtu_wrong mtu rest fits bad is r_is) =
    ap (λ t. mtu_at (at n t)) is ∙ mtu_read mtu fits n rest ∙ as_err (cond-true (outside mtu) _ _ (mtu_outside mtu bad)) r_is

pub mtu_or : (n : ℕ) (bytes : List ℕ) → IsBytes bytes → ((r : Refusal1) × RefusedMtu n bytes r) ⊎ Begins (big_bytes 2) IsMtu bytes
mtu_or n bytes good = elim (big_or 2 bytes good) [
  | inl few ↦ inl (refusal.Short (record { at = n; need = 2 }), mtu_cut (few, refl))
  | inr b ↦ elim (cases_Bool (outside b.value)) [
    | inl on ↦ inl (refusal.BadMtu n, mtu_wrong b.value b.rest b.good (mtu_is_not b.value on) b.bytes_are refl)
    | inr off ↦ inr (record { value = b.value; rest = b.rest; good = mtu_is b.value off; bytes_are = b.bytes_are; bytes_behind = b.bytes_behind })
  ]
]

-- ---- 32 bytes that may be there

pub block32_reads : (there : Bool) (o : Option (List ℕ)) → IsBlock there 32 o → (n : ℕ) (rest : List ℕ) → block32_at there (at n (block_bytes o ++ rest)) ≡ Ok (o, at (n + length (block_bytes o)) rest)
unfolding block32_at
block32_reads false None h n rest = ap (λ m. Ok (None, at m rest)) (let z : n ≡ n + 0 = omega arith in z)
block32_reads true None h n rest = absurd (Rattle.std.proofs.lemmas.Bool.false≢true h.0)
block32_reads false (Some xs) h n rest = absurd (Rattle.std.proofs.lemmas.Bool.true≢false h.0)
block32_reads true (Some xs) h n rest =
    let whole : block_bytes (Some xs) ++ rest ≡ xs ++ rest = append_assoc xs [] rest in
    let long : length (block_bytes (Some xs)) ≡ 32 = omega (arith, h.1.0, length-append xs []) in
    rw (whole, block_reads 32 xs h.1.0 n rest) (ap (λ m. Ok (Some xs, at (n + m) rest)) (sym long))

pub block32_cut : (there : Bool) → there ≡ true → (n : ℕ) (rest : List ℕ) (r : Refusal1) → Cut n 32 rest r → block32_at there (at n rest) ≡ Err r
unfolding block32_at
block32_cut true on n rest r fault = rw (block_cut 32 n rest r fault) refl
block32_cut false on n rest r fault = cc

pub block32_or : (there : Bool) (bytes : List ℕ) → IsBytes bytes → ((there ≡ true) × (length bytes < 32)) ⊎ Begins block_bytes (IsBlock there 32) bytes
block32_or false bytes good = inr (record { value = None; rest = bytes; good = (refl, tt); bytes_are = refl; bytes_behind = good })
block32_or true bytes good = elim (block_or 32 bytes good) [
  | inl few ↦ inl (refl, few)
  | inr b ↦ inr (record { value = Some b.value; rest = b.rest; good = (refl, b.good); bytes_are = b.bytes_are ∙ sym (append_assoc b.value [] b.rest); bytes_behind = b.bytes_behind })
]

-- ---- zeros up to the end

abbrev not_zero : ℕ → Bool
not_zero b = not (eqb b 0)

all_zero : (k : ℕ) → NonePasses not_zero (replicate k 0)
all_zero zero = All-nil (λ b. not_zero b ≡ false)
all_zero (suc k) = All-cons (λ b. not_zero b ≡ false) 0 (replicate k 0) refl (all_zero k)

pub zeros_read : (n k : ℕ) → zeros_at (at n (replicate k 0)) ≡ Ok k
unfolding zeros_at
zeros_read n k = ap (λ o. zeros_to o (at n (replicate k 0))) (none_at not_zero (replicate k 0) 0 (all_zero k)) ∙ ap Ok (length-replicate k 0)

pub zeros_wrong : (n k b : ℕ) (rest : List ℕ) → (b ≡ 0 → ⊥) → zeros_at (at n (replicate k 0 ++ (b ∷ rest))) ≡ Err (refusal.PaddingNotZero (n + k))
unfolding zeros_at
zeros_wrong n k b rest bad =
    let bytes : List ℕ = replicate k 0 ++ (b ∷ rest) in
    let nil : ℕ = 0 in
    let long : length (replicate k nil) ≡ k = length-replicate k nil in
    let place : 0 + length {A = ℕ} (replicate k 0) ≡ k = omega (arith, long) in
    ap (λ o. zeros_to o (at n bytes)) (first_at not_zero (replicate k 0) rest b 0 (all_zero k) (ap not (ne_eqb b 0 bad))) ∙ ap (λ m. Err (refusal.PaddingNotZero (n + m))) place

zero_is : (b : ℕ) → not_zero b ≡ false → b ≡ 0
zero_is b off = eqb-true b 0 (Rattle.std.proofs.lemmas.Bool.not-false (eqb b 0) off)

zeros_are : (xs : List ℕ) → NonePasses not_zero xs → xs ≡ replicate (length xs) 0
zeros_are [] off = refl
zeros_are (x ∷ xs) off =
    let first : x ≡ 0 = zero_is x (All-head (λ b. not_zero b ≡ false) x xs off) in
    let others = zeros_are xs (All-tail (λ b. not_zero b ≡ false) x xs off) in
    cons x 0 xs (replicate (length xs) 0) first others
  where
    cons : (a b : ℕ) (s t : List ℕ) → a ≡ b → s ≡ t → a ∷ s ≡ b ∷ t
    cons a b s t e f = rw (e, f) refl

-- zeros alone, or zeros and a byte that is none
pub data Padding (bytes : List ℕ) : Type 0 where
  all_zeros : (k : ℕ) → bytes ≡ replicate k 0 → Padding bytes
  not_all : (k b : ℕ) (rest : List ℕ) → (b ≡ 0 → ⊥) → bytes ≡ replicate k 0 ++ (b ∷ rest) → Padding bytes

pub padding_or : (bytes : List ℕ) → Padding bytes
padding_or bytes = elim (first_or not_zero bytes) [
  | inl none ↦ all_zeros (length bytes) (zeros_are bytes none)
  | inr f ↦ not_all (length f.front) f.element f.rest (not_zero_is f.element f.passes) (f.xs_are ∙ ap (λ t. t ++ (f.element ∷ f.rest)) (zeros_are f.front f.before))
]
  where
    not_zero_is : (b : ℕ) → not_zero b ≡ true → b ≡ 0 → ⊥
    not_zero_is b on z = eqb-false b 0 (Rattle.std.proofs.lemmas.Bool.not-true (eqb b 0) on) z
