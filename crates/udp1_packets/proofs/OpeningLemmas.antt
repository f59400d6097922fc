-- Openings: what the reading of the extension and of the whole gives, at bytes that spell it and at
-- each fault; and that bytes spell it or have a fault.
use Rattle.std.proofs.Common.{◌≡◌, ◌⊎◌, inl, inr, ℕ, ◌+◌, ◌^◌, ◌<◌, Bool, true, false, not, ◌&&◌, ◌||◌, cond, eqb, List, ◌++◌, length, Option, Some, None, Ok, Err, refl, ap, ◌∙◌, arith}
use Rattle.std.specs.Option.{is_some, IfSome}
use Rattle.std.proofs.lemmas.Bool.{cases_lt, cases_Bool, cases_eq, or_from, or_left, or_right, or_cases, or_parts, eq-eqb, ne_eqb, eqb-true, and_parts, and_from, and_left, cond-true, cond-false, not-true, true≢false, false≢true}
use Rattle.byteorder.specs.Endian.{big_bytes}
use Rattle.mt_base.specs.Writing.{joined}
use Rattle.mt_base.proofs.Fields.{Begins, big_or}
use Rattle.carrier.specs.declared.first_layout.Refusal1.{Refusal1}
use Rattle.carrier.specs.declared.first_layout.Refusal1.TheVariants as refusal
use Rattle.udp1_packets.specs.Value.{Extended}
use Rattle.udp1_packets.specs.Layout.{is_valid, IsBytes, IsVersion, IsBlock, IsExtended, extension_fields}
use Rattle.udp1_packets.specs.Reading.{is_version, version_at, extension_at, extended_at}
use Rattle.udp1_packets.specs.Faults.{block_bytes, Cut, RefusedExtension, flags_cut, version_cut, version_wrong, hash_cut}
use Rattle.mt_base.proofs.FrontFields.{left_at as at}
use Rattle.udp1_packets.proofs.Pieces.{number_reads, number_cut, cut_at, block32_reads, block32_cut, block32_or}

-- ---- the version

version_test : (v : ℕ) → IsVersion v → is_version v ≡ true
version_test v (inl one) = or_left (eqb v 1 || eqb v 2) (eqb v 0x101) (or_left (eqb v 1) (eqb v 2) (eq-eqb v 1 one))
version_test v (inr (inl two)) = or_left (eqb v 1 || eqb v 2) (eqb v 0x101) (or_right (eqb v 1) (eqb v 2) (eq-eqb v 2 two))
version_test v (inr (inr three)) = or_right (eqb v 1 || eqb v 2) (eqb v 0x101) (eq-eqb v 0x101 three)

version_is : (v : ℕ) → is_version v ≡ true → IsVersion v
version_is v on = elim (or_cases (eqb v 1 || eqb v 2) (eqb v 0x101) on) [
  | inl low ↦ elim (or_cases (eqb v 1) (eqb v 2) low) [ inl one ↦ inl (eqb-true v 1 one) | inr two ↦ inr (inl (eqb-true v 2 two)) ]
  | inr three ↦ inr (inr (eqb-true v 0x101 three))
]

version_is_not : (v : ℕ) → (IsVersion v → ⊥) → is_version v ≡ false
version_is_not v bad = elim (cases_Bool (is_version v)) [ inl on ↦ absurd (bad (version_is v on)) | inr off ↦ off ]

-- a version that is said to be valid is known, in a test
known : (valid : Bool) (v : ℕ) → (valid ≡ true → IsVersion v) → (valid && not (is_version v)) ≡ false
known false v h = refl
known true v h = ap not (version_test v (h refl))

known_from : (valid : Bool) (v : ℕ) → (valid && not (is_version v)) ≡ false → valid ≡ true → IsVersion v
known_from false v off on = absurd (false≢true on)
known_from true v off on = version_is v (Rattle.std.proofs.lemmas.Bool.not-false (is_version v) off)

unknown : (valid : Bool) (v : ℕ) → valid ≡ true → (IsVersion v → ⊥) → (valid && not (is_version v)) ≡ true
unknown false v on bad = cc
unknown true v on bad = ap not (version_is_not v bad)

unknown_from : (valid : Bool) (v : ℕ) → (valid && not (is_version v)) ≡ true → (valid ≡ true) × (IsVersion v → ⊥)
unknown_from valid v on =
    let parts = and_parts valid (not (is_version v)) on in
    (parts.0, λ good. Rattle.std.proofs.lemmas.Bool.both_ways (is_version v) (not-true (is_version v) parts.1) (version_test v good))

version_read : (valid : Bool) (v : ℕ) → v < 256 ^ 2 → (n : ℕ) (rest : List ℕ)
    → version_at valid (at n (big_bytes 2 v ++ rest)) ≡ cond (valid && not (is_version v)) (Err (refusal.BadVersion n)) (Ok (v, at (n + 2) rest))
unfolding version_at
version_read valid v fits n rest = rw (number_reads 2 v fits n rest) refl

version_reads : (valid : Bool) (v : ℕ) → v < 256 ^ 2 → (valid ≡ true → IsVersion v) → (n : ℕ) (rest : List ℕ) → version_at valid (at n (big_bytes 2 v ++ rest)) ≡ Ok (v, at (n + 2) rest)
version_reads valid v fits h n rest = version_read valid v fits n rest ∙ cond-false (valid && not (is_version v)) _ _ (known valid v h)

version_refused : (valid : Bool) (v : ℕ) → v < 256 ^ 2 → valid ≡ true → (IsVersion v → ⊥) → (n : ℕ) (rest : List ℕ) → version_at valid (at n (big_bytes 2 v ++ rest)) ≡ Err (refusal.BadVersion n)
version_refused valid v fits on bad n rest = version_read valid v fits n rest ∙ cond-true (valid && not (is_version v)) _ _ (unknown valid v on bad)

version_short : (valid : Bool) (n : ℕ) (rest : List ℕ) (r : Refusal1) → Cut n 2 rest r → version_at valid (at n rest) ≡ Err r
unfolding version_at
version_short valid n rest r fault = rw (number_cut 2 n rest r fault) refl

-- ---- the extension

-- whether a hash is there
abbrev hashed : Bool → ℕ → ℕ → Bool
hashed answer flags version = not answer && is_valid flags && eqb version 0x0101

extension_text : Extended → List ℕ
extension_text e = big_bytes 2 e.flags ++ (big_bytes 2 e.version ++ block_bytes e.hash)

ext_reads : (answer : Bool) (flags version : ℕ) (hash : Option (List ℕ)) → flags < 256 ^ 2 → version < 256 ^ 2 → (is_valid flags ≡ true → IsVersion version) → IsBlock (hashed answer flags version) 32 hash
    → (n : ℕ) (rest : List ℕ)
    → extension_at answer (at n (big_bytes 2 flags ++ (big_bytes 2 version ++ (block_bytes hash ++ rest)))) ≡ Ok (record { flags = flags; version = version; hash = hash }, at (n + 2 + 2 + length (block_bytes hash)) rest)
unfolding extension_at
ext_reads answer flags version hash f v known h n rest =
    rw (
      number_reads 2 flags f n (big_bytes 2 version ++ (block_bytes hash ++ rest)),
      version_reads (is_valid flags) version v known (n + 2) (block_bytes hash ++ rest),
      block32_reads (hashed answer flags version) hash h (n + 2 + 2) rest,
    ) refl

ext_answer : (answer : Bool) (n : ℕ) (bytes : List ℕ) (r : Refusal1) → RefusedExtension answer n bytes r → extension_at answer (at n bytes) ≡ Err r
unfolding extension_at
ext_answer answer n bytes r (flags_cut fault) = rw (number_cut 2 n bytes r fault) refl
ext_answer answer n bytes r (version_cut flags rest f is fault) =
    rw (is, number_reads 2 flags f n rest, version_short (is_valid flags) (n + 2) rest r fault) refl
ext_answer answer n bytes r (version_wrong flags version rest (f, v, is) on bad r_is) =
    rw (is, number_reads 2 flags f n (big_bytes 2 version ++ rest), version_refused (is_valid flags) version v on bad (n + 2) rest, r_is) refl
ext_answer answer n bytes r (hash_cut flags version rest (f, v, is) on fault) =
    let known : is_valid flags ≡ true → IsVersion version = λ _. three version (and_parts (not answer && is_valid flags) (eqb version 0x0101) on).1 in
    let place : n + 4 ≡ n + 2 + 2 = omega arith in
    rw (
      is,
      number_reads 2 flags f n (big_bytes 2 version ++ rest),
      version_reads (is_valid flags) version v known (n + 2) rest,
      block32_cut (hashed answer flags version) on (n + 2 + 2) rest r (cut_at 32 rest r (n + 4) (n + 2 + 2) place fault),
    ) refl
  where
    three : (v : ℕ) → eqb v 0x0101 ≡ true → IsVersion v
    three v on = inr (inr (eqb-true v 0x0101 on))

-- an extension, or why there is none
ext_or : (answer : Bool) (n : ℕ) (bytes : List ℕ) → IsBytes bytes → ((r : Refusal1) × RefusedExtension answer n bytes r) ⊎ Begins (λ e. joined (extension_fields (Some e))) (IsExtended answer) bytes
ext_or answer n bytes good = elim (big_or 2 bytes good) [
  | inl few ↦ inl (_, flags_cut (few, refl))
  | inr f ↦ by_version f (big_or 2 f.rest f.bytes_behind)
]
  where
    by_hash : (f : Begins (big_bytes 2) (λ x. x < 256 ^ 2) bytes) (v : Begins (big_bytes 2) (λ x. x < 256 ^ 2) f.rest) → bytes ≡ big_bytes 2 f.value ++ (big_bytes 2 v.value ++ v.rest)
        → (is_valid f.value ≡ true → IsVersion v.value)
        → ((hashed answer f.value v.value ≡ true) × (length v.rest < 32)) ⊎ Begins block_bytes (IsBlock (hashed answer f.value v.value) 32) v.rest
        → ((r : Refusal1) × RefusedExtension answer n bytes r) ⊎ Begins (λ e. joined (extension_fields (Some e))) (IsExtended answer) bytes
    by_hash f v whole known (inl short) = inl (_, hash_cut f.value v.value v.rest (f.good, v.good, whole) short.0 (short.1, refl))
    by_hash f v whole known (inr h) = inr (record {
      value = record { flags = f.value; version = v.value; hash = h.value };
      rest = h.rest;
      good = record { flags_fit = f.good; version_fits = v.good; version_known = known; hash_is = h.good };
      bytes_are = whole ∙ ap (λ t. big_bytes 2 f.value ++ (big_bytes 2 v.value ++ t)) h.bytes_are;
      bytes_behind = h.bytes_behind;
    })

    by_test : (f : Begins (big_bytes 2) (λ x. x < 256 ^ 2) bytes) (v : Begins (big_bytes 2) (λ x. x < 256 ^ 2) f.rest) → bytes ≡ big_bytes 2 f.value ++ (big_bytes 2 v.value ++ v.rest)
        → ((is_valid f.value && not (is_version v.value)) ≡ true) ⊎ ((is_valid f.value && not (is_version v.value)) ≡ false)
        → ((r : Refusal1) × RefusedExtension answer n bytes r) ⊎ Begins (λ e. joined (extension_fields (Some e))) (IsExtended answer) bytes
    by_test f v whole (inl on) = let bad = unknown_from (is_valid f.value) v.value on in inl (_, version_wrong f.value v.value v.rest (f.good, v.good, whole) bad.0 bad.1 refl)
    by_test f v whole (inr off) = by_hash f v whole (known_from (is_valid f.value) v.value off) (block32_or (hashed answer f.value v.value) v.rest v.bytes_behind)

    by_version : (f : Begins (big_bytes 2) (λ x. x < 256 ^ 2) bytes) → (length f.rest < 2) ⊎ Begins (big_bytes 2) (λ x. x < 256 ^ 2) f.rest
        → ((r : Refusal1) × RefusedExtension answer n bytes r) ⊎ Begins (λ e. joined (extension_fields (Some e))) (IsExtended answer) bytes
    by_version f (inl few) = inl (_, version_cut f.value f.rest f.good f.bytes_are (few, refl))
    by_version f (inr v) =
        by_test f v (f.bytes_are ∙ ap (λ t. big_bytes 2 f.value ++ t) v.bytes_are) (cases_Bool (is_valid f.value && not (is_version v.value)))

-- ---- an extension that may be there

abbrev pub extended_text : Option Extended → List ℕ
extended_text o = joined (extension_fields o)

pub extended_reads : (there answer : Bool) (o : Option Extended) → is_some o ≡ there → IfSome o (IsExtended answer) → (n : ℕ) (rest : List ℕ)
    → extended_at there answer (at n (extended_text o ++ rest)) ≡ Ok (o, at (n + length (extended_text o)) rest)
unfolding extended_at
extended_reads false answer None h good n rest = ap (λ m. Ok (None, at m rest)) (let z : n ≡ n + 0 = omega arith in z)
extended_reads true answer None h good n rest = absurd (false≢true h)
extended_reads false answer (Some e) h good n rest = absurd (true≢false h)
extended_reads true answer (Some e) h good n rest =
    let place : n + 2 + 2 + length (block_bytes e.hash) ≡ n + length (extended_text (Some e)) = omega arith in
    rw (ext_reads answer e.flags e.version e.hash good.flags_fit good.version_fits good.version_known good.hash_is n rest) (ap (λ m. Ok (Some e, at m rest)) place)

pub extended_refused : (there answer : Bool) → there ≡ true → (n : ℕ) (bytes : List ℕ) (r : Refusal1) → RefusedExtension answer n bytes r → extended_at there answer (at n bytes) ≡ Err r
unfolding extended_at
extended_refused false answer on n bytes r fault = cc
extended_refused true answer on n bytes r fault = rw (ext_answer answer n bytes r fault) refl

abbrev pub IsExtension : Bool → Bool → Option Extended → Type 0
IsExtension there answer o = (is_some o ≡ there) × IfSome o (IsExtended answer)

pub extended_or : (there answer : Bool) (n : ℕ) (bytes : List ℕ) → IsBytes bytes
    → ((r : Refusal1) × (there ≡ true) × RefusedExtension answer n bytes r) ⊎ Begins extended_text (IsExtension there answer) bytes
extended_or false answer n bytes good = inr (record { value = None; rest = bytes; good = (refl, tt); bytes_are = refl; bytes_behind = good })
extended_or true answer n bytes good = elim (ext_or answer n bytes good) [
  | inl fault ↦ inl (fault.0, refl, fault.1)
  | inr b ↦ inr (record { value = Some b.value; rest = b.rest; good = (refl, b.good); bytes_are = b.bytes_are; bytes_behind = b.bytes_behind })
]
