-- Words that spell bytes.
use Rattle.std.proofs.Common.{◌≡◌, ◌≢◌, ℕ, suc, zero, ◌<◌, ◌+◌, ◌-◌, ◌*◌, ◌/◌, ◌%◌, Bool, true, false, not, ltb, eqb, cond, ◌&&◌, List, [], ◌∷◌, length, get_or, Ok, Err, refl, sym, ap, subst, ◌∙◌, ◌⊎◌, inl, inr, codes, arith}
use Rattle.std.proofs.lemmas.Bool.{cases_lt, and_parts, eqb-true}
use Rattle.std.proofs.lemmas.Bool.Decides.{nat_tests}
use Rattle.std.proofs.lemmas.List.Elements.{All-nil, All-cons, All-head, All-tail}
use Rattle.std.proofs.lemmas.Slice.Eq.{bytes_eq-Decides}
use Rattle.std.specs.List.{list_all}
use Rattle.std.specs.Str.{bytes_eq}
use Rattle.hex.specs.Hex.{encode_with, encode_lower, lower_digits, decode_of}
use Rattle.hex.specs.Hex as hex
use Rattle.hex.specs.declared.error.FromHexError.{FromHexError}
use Rattle.hex.proofs.HexLemmas.{decode_of-encode_lower, decode_of-ok}
use Rattle.mt_script.specs.Spelling.{hex_text, IsBytes}
use Rattle.hex.specs.declared.error.FromHexError.TheVariants.{InvalidHexCharacter, OddLength, InvalidStringLength, OutOfMemory}
use Rattle.mt_script.specs.declared.fault.LineFault.{LineFault}
use Rattle.mt_script.specs.Reading.{is_lower_digit, is_lower_hex, decoding_fault, Spells}

-- each number below n passes a test
abbrev each_below : (ℕ → Bool) → ℕ → Bool
each_below p zero = true
each_below p (suc n) = p n && each_below p n

below_at : (p : ℕ → Bool) (n k : ℕ) → each_below p n ≡ true → k < n → p k ≡ true
below_at p zero k h lt = absurd (omega arith)
below_at p (suc n) k h lt =
    let parts = and_parts (p n) (each_below p n) h in
    elim (cases_lt k n) [
      | inl low ↦ below_at p n k parts.1 low
      | inr top ↦ let e : k ≡ n = omega arith in ap p e ∙ parts.0
    ]

-- the value of a lower case digit
value : ℕ → ℕ
value a = cond (ltb a 58) (a - 48) (a - 87)

reads_back : ℕ → Bool
reads_back a = cond (is_lower_digit a) (eqb (get_or lower_digits (value a) 0) a && ltb (value a) 16) true

all_read_back : each_below reads_back 103 ≡ true
unfolding value reads_back
all_read_back = refl

when_digit : (x y : Bool) → cond x y true ≡ true → x ≡ true → y ≡ true
when_digit true y h e = h
when_digit false y h e = cc

lower_small : (a : ℕ) → is_lower_digit a ≡ true → a < 103
lower_small a h = grind (arith, nat_tests)

-- a lower case digit is the digit of its value
digit_value : (a : ℕ) → is_lower_digit a ≡ true → (get_or lower_digits (value a) 0 ≡ a) × (value a < 16)
unfolding reads_back
digit_value a h =
    let ok = when_digit (is_lower_digit a) (eqb (get_or lower_digits (value a) 0) a && ltb (value a) 16) (below_at reads_back 103 a all_read_back (lower_small a h)) h in
    let parts = and_parts (eqb (get_or lower_digits (value a) 0) a) (ltb (value a) 16) ok in
    (eqb-true _ _ parts.0, (let small = parts.1 in grind (arith, nat_tests)))

-- each digit of the table is one
digit_lower : (v : ℕ) → v < 16 → is_lower_digit (get_or lower_digits v 0) ≡ true
digit_lower v h = below_at (λ w. is_lower_digit (get_or lower_digits w 0)) 16 v refl h

-- an even number of lower case digits is the text of some bytes
pub hex_bytes : (s : List ℕ) → length s % 2 ≡ 0 → list_all is_lower_digit s ≡ true → (m : List ℕ) × IsBytes m × (encode_lower m ≡ s)
unfolding encode_with
hex_bytes [] even h = ([], All-nil (λ b. b < 256), refl)
hex_bytes (a ∷ []) even h = absurd (omega arith)
hex_bytes (a ∷ b ∷ rest) even h =
    let p = and_parts (is_lower_digit a) (is_lower_digit b && list_all is_lower_digit rest) h in
    let q = and_parts (is_lower_digit b) (list_all is_lower_digit rest) p.1 in
    let da = digit_value a p.0 in
    let db = digit_value b q.0 in
    let ih = hex_bytes rest (omega arith) q.1 in
    let byte : ℕ = value a * 16 + value b in
    let high : byte / 16 ≡ value a = omega (arith, da.1, db.1) in
    let low : byte % 16 ≡ value b = omega (arith, da.1, db.1) in
    let first : get_or lower_digits (byte / 16) 0 ≡ a = ap (λ v. get_or lower_digits v 0) high ∙ da.0 in
    let second : get_or lower_digits (byte % 16) 0 ≡ b = ap (λ v. get_or lower_digits v 0) low ∙ db.0 in (
      byte ∷ ih.0,
      All-cons (λ x. x < 256) byte ih.0 (omega (arith, da.1, db.1)) ih.1,
      ap (λ x. x ∷ get_or lower_digits (byte % 16) 0 ∷ encode_lower ih.0) first ∙ ap (λ x. a ∷ x ∷ encode_lower ih.0) second ∙ ap (λ t. a ∷ b ∷ t) ih.2,
    )

both : (x y : Bool) → x ≡ true → y ≡ true → (x && y) ≡ true
both true y e h = h
both false y e h = cc

-- the text of bytes has lower case digits alone
pub lower_text : (m : List ℕ) → IsBytes m → list_all is_lower_digit (encode_lower m) ≡ true
unfolding encode_with
lower_text [] h = refl
lower_text (byte ∷ rest) h =
    let small : byte < 256 = All-head (λ x. x < 256) byte rest h in
    both _ _ (digit_lower (byte / 16) (omega arith)) (both _ _ (digit_lower (byte % 16) (omega arith)) (lower_text rest (All-tail (λ x. x < 256) byte rest h)))

some_text : (byte : ℕ) (rest : List ℕ) → not (eqb (length (encode_lower (byte ∷ rest))) 0) ≡ true
unfolding encode_with
some_text byte rest = grind (arith, nat_tests)

-- bytes in the words of the crate that decodes them
pub bytes_there : (m : List ℕ) → IsBytes m → hex.IsBytes m
bytes_there m h i =
    elim (cases_lt i (length m)) [
      | inl within ↦ h i 0 within
      | inr past ↦ let default : get_or m i 0 ≡ 0 = Rattle.std.proofs.lemmas.List.get_or_past m i 0 past in omega (arith, default)
    ]

-- what holds of a word that spells bytes: it is `-`, or digits that are decoded to those bytes
pub hex_reads : (word bytes : List ℕ) → IsBytes bytes → word ≡ hex_text bytes → (word ≡ codes "-") ⊎ ((is_lower_hex word ≡ true) × (decode_of word ≡ Ok bytes))
hex_reads word [] h is = inl is
hex_reads word (byte ∷ rest) h is =
    let digits : is_lower_hex (encode_lower (byte ∷ rest)) ≡ true = both _ _ (some_text byte rest) (lower_text (byte ∷ rest) h) in
    inr (ap is_lower_hex is ∙ digits, ap decode_of is ∙ decode_of-encode_lower (byte ∷ rest) (bytes_there (byte ∷ rest) h))

pub full_text : (word m : List ℕ) → is_lower_hex word ≡ true → encode_lower m ≡ word → word ≡ hex_text m
unfolding encode_with
full_text word [] h e = let none : is_lower_hex [] ≡ true = ap is_lower_hex e ∙ h in cc
full_text word (byte ∷ rest) h e = sym e

-- lower case digits that are decoded to bytes spell those bytes
pub hex_spelled : (word bytes : List ℕ) → is_lower_hex word ≡ true → decode_of word ≡ Ok bytes → IsBytes bytes × (word ≡ hex_text bytes)
hex_spelled word bytes h decodes =
    let parts = and_parts (not (eqb (length word) 0)) (list_all is_lower_digit word) h in
    let m = hex_bytes word (decode_of-ok word bytes decodes).0 parts.1 in
    let again : decode_of word ≡ Ok m.0 = ap decode_of (sym m.2) ∙ decode_of-encode_lower m.0 (bytes_there m.0 m.1) in
    let same : m.0 ≡ bytes = cc in
    (subst IsBytes same m.1, full_text word m.0 h m.2 ∙ ap hex_text same)

-- bytes that a word spells
abbrev pub SpelledBy : List ℕ → List ℕ → Type 0
SpelledBy word bytes = IsBytes bytes × (word ≡ hex_text bytes)

-- a word that is neither `-` nor of such digits spells no bytes
pub no_hex : (word bytes dash : List ℕ) → IsBytes bytes → word ≡ hex_text bytes → dash ≡ codes "-" → bytes_eq word dash ≡ false → is_lower_hex word ≡ false → ⊥
no_hex word bytes dash h is dash_is other digits =
    elim (hex_reads word bytes h is) [
      | inl none ↦ let same = (bytes_eq-Decides word dash).1 (none ∙ sym dash_is) in cc
      | inr reads ↦ let lower = reads.0 in cc
    ]

-- nor does one that isn't decoded
no_bytes : (word bytes : List ℕ) (e : FromHexError) → IsBytes bytes → word ≡ hex_text bytes → bytes_eq word (codes "-") ≡ false → decode_of word ≡ Err e → ⊥
no_bytes word bytes e h is other refused =
    elim (hex_reads word bytes h is) [
      | inl none ↦ let same = (bytes_eq-Decides word (codes "-")).1 none in cc
      | inr reads ↦ let decodes = reads.1 in cc
    ]

-- the answer of a word that isn't decoded
abbrev pub Unspelled : List ℕ → LineFault → Type 0
Unspelled word e = Spells {A = List ℕ} IsBytes hex_text word (Err e)

refused : (word : List ℕ) (e : FromHexError) → bytes_eq word (codes "-") ≡ false → decode_of word ≡ Err e → (bytes : List ℕ) → IsBytes bytes → word ≢ hex_text bytes
refused word e other h bytes m is = no_bytes word bytes e m is other h

pub not_decoded : (word : List ℕ) (e : FromHexError) → bytes_eq word (codes "-") ≡ false → (e ≡ OutOfMemory) ⊎ (decode_of word ≡ Err e) → Unspelled word (decoding_fault e)
not_decoded word e other (inl memory) = subst (λ x. Unspelled word (decoding_fault x)) (sym memory) tt
not_decoded word OutOfMemory other (inr h) = tt
not_decoded word (InvalidHexCharacter c index) other (inr h) = refused word (InvalidHexCharacter c index) other h
not_decoded word OddLength other (inr h) = refused word OddLength other h
not_decoded word InvalidStringLength other (inr h) = refused word InvalidStringLength other h
