-- Laws of the parts of a PDU: the id, a message's length, the name with its zero byte, and the end.
use Rattle.std.proofs.Common.{◌≡◌, ◌⊎◌, inl, inr, ℕ, zero, suc, ◌+◌, ◌-◌, ◌^◌, ◌<◌, ◌≤◌, Bool, true, false, not, ◌&&◌, cond, ltb, eqb, List, [], ◌∷◌, ◌++◌, length, take, drop, slice_index, Option, Some, None, Result, Ok, Err, refl, sym, ap, ◌∙◌, subst, arith, append_assoc}
use Rattle.std.specs.List.{All, position_from}
use Rattle.std.proofs.lemmas.Bool.{cases_eq, cases_lt, ltb-false, lt-ltb, le-ltb, eq-eqb, ne_eqb, and_parts, and_from, and_right, not_from_false, not-true, cases_Bool}
use Rattle.std.proofs.lemmas.List.{length-append, length-take, take-append-drop, take_all, take_at, drop_at, get_or_at, length-take-le}
use Rattle.std.proofs.Math.Seq.{take-append-add}
use Rattle.std.proofs.lemmas.List.Elements.{All-cons, All-nil, All-head, All-tail}
use Rattle.mt_base.specs.Reading.{Left, past}
use Rattle.mt_base.proofs.Fields.{Field, Plainly, Refuses, CutShort, behind, field_refuses, little_law, as_err, not_both, taken_by}
use Rattle.dvc_pdus.specs.declared.pdu.DvcRefusal.{DvcRefusal}
use Rattle.dvc_pdus.specs.declared.pdu.DvcRefusal.TheVariants as refusal
use Rattle.dvc_pdus.specs.Value.{Pdu, IsNameByte, IsName}
use Rattle.dvc_pdus.specs.Reading.{id_at, leading_id_at, length_at, ended, is_name_byte, name_to, name_at}
use Rattle.dvc_pdus.specs.Layout.{id_in, IsSizeOf}
use Rattle.dvc_pdus.specs.Faults.{Cut, RefusedName, wrong_byte, too_many, not_ended}
use Rattle.mt_base.proofs.FrontFields.{left_at}

-- ---- the id

-- what holds of the three sizes
three : (P : ℕ → Type 0) → P 0 → P 1 → P 2 → (size : ℕ) → size < 3 → P size
three P a b c zero h = a
three P a b c (suc zero) h = b
three P a b c (suc (suc zero)) h = c
three P a b c (suc (suc (suc n))) h = absurd (omega arith)

-- an id of each size
pub id_law : (size : ℕ) → size < 3 → Field (id_at size) (id_in size) (λ id. id < 256 ^ 2 ^ size)
unfolding id_at
id_law = three (λ size. Field (id_at size) (id_in size) (λ id. id < 256 ^ 2 ^ size)) (little_law refusal.Short 1) (little_law refusal.Short 2) (little_law refusal.Short 4)

cut_refused : (size : ℕ) → size < 3 → Refuses (id_at size) (CutShort refusal.Short (2 ^ size))
unfolding id_at
cut_refused = three (λ size. Refuses (id_at size) (CutShort refusal.Short (2 ^ size)))
    (field_refuses refusal.Short 1 _) (field_refuses refusal.Short 2 _) (field_refuses refusal.Short 4 _)

pub unknown_id : (s : Left) → id_at 3 s ≡ Err (refusal.BadCbId 0)
unfolding id_at
unknown_id s = refl

pub id_reads : (size id : ℕ) → IsSizeOf size id → (n : ℕ) (rest : List ℕ) → id_at size (left_at n (id_in size id ++ rest)) ≡ Ok (id, left_at (n + length (id_in size id)) rest)
id_reads size id h n rest = (id_law size h.0).again id (id_in size id) (h.1, refl) (left_at n (id_in size id ++ rest)) rest refl

pub cut_id : (size at : ℕ) (bytes : List ℕ) (r : DvcRefusal) → size < 3 → Cut at (2 ^ size) bytes r → id_at size (left_at at bytes) ≡ Err r
cut_id size at bytes r small fault = (cut_refused size small).answer (left_at at bytes) r fault

-- ---- the length of a message

-- it is read as an id is
pub length_as_id : (wide : ℕ) → wide < 3 → (s : Left) → length_at wide s ≡ id_at wide s
unfolding length_at id_at
length_as_id = three (λ wide. (s : Left) → length_at wide s ≡ id_at wide s) (λ s. refl) (λ s. refl) (λ s. refl)

-- where it has a size, the id before it is read as any other
pub leading_as_id : (wide size : ℕ) (s : Left) → wide < 3 → leading_id_at wide size s ≡ id_at size s
unfolding leading_id_at
leading_as_id wide size s h =
    ap (λ t. cond t (Err (refusal.BadLen 0)) (id_at size s)) (and_right (ltb size 3) (eqb wide 3) (ne_eqb wide 3 (λ e. omega arith)))

pub unknown_length : (size : ℕ) (s : Left) → size < 3 → leading_id_at 3 size s ≡ Err (refusal.BadLen 0)
unfolding leading_id_at
unknown_length size s h = rw (lt-ltb size 3 h) refl

pub unknown_leading_id : (wide : ℕ) (s : Left) → leading_id_at wide 3 s ≡ Err (refusal.BadCbId 0)
unfolding leading_id_at id_at
unknown_leading_id wide s = refl

-- ---- the end

pub ended_none : (pdu : Pdu) (at : ℕ) → ended pdu (record { at = at; bytes = [] }) ≡ Ok pdu
unfolding ended
ended_none pdu at = refl

pub ended_more : (pdu : Pdu) (at b : ℕ) (rest : List ℕ) → ended pdu (record { at = at; bytes = b ∷ rest }) ≡ Err (refusal.Trailing at)
unfolding ended
ended_more pdu at b rest = rw (lt-ltb 0 (length (b ∷ rest)) (omega arith)) refl

-- ---- the name

name_byte : (b : ℕ) → is_name_byte b ≡ true → IsNameByte b
name_byte b is =
    let parts = and_parts (not (ltb b 0x20)) (not (ltb 0x7E b)) is in
    (ltb-false b 0x20 (not-true (ltb b 0x20) parts.0), ltb-false 0x7E b (not-true (ltb 0x7E b) parts.1))

is_byte : (b : ℕ) → IsNameByte b → is_name_byte b ≡ true
is_byte b good =
    and_from (not (ltb b 0x20)) (not (ltb 0x7E b)) (not_from_false (ltb b 0x20) (le-ltb b 0x20 good.0)) (not_from_false (ltb 0x7E b) (le-ltb 0x7E b good.1))

no_byte : (b : ℕ) → is_name_byte b ≡ false → IsNameByte b → ⊥
no_byte b off good = not_both_ways (is_byte b good) off
  where
    not_both_ways : {t : Bool} → t ≡ true → t ≡ false → ⊥
    not_both_ways on off = cc

off_byte : (b : ℕ) → (IsNameByte b → ⊥) → is_name_byte b ≡ false
off_byte b bad =
    elim (cases_Bool (is_name_byte b)) [
      | inl on ↦ absurd (bad (name_byte b on))
      | inr off ↦ off
    ]

-- the bytes of a name, and the one that is none
record Stop (xs : List ℕ) (i k : ℕ) : Type 0 where
  good : List ℕ
  rest : List ℕ
  bad : ℕ
  xs_are : xs ≡ good ++ (bad ∷ rest)
  goods : All IsNameByte good
  off : IsNameByte bad → ⊥
  place : k ≡ i + length good

stop : (xs : List ℕ) (i k : ℕ) → position_from (λ b. not (is_name_byte b)) i xs ≡ Some k → Stop xs i k
stop [] i k is = cc
stop (x ∷ xs) i k is = at_first (is_name_byte x) refl is (stop xs (i + 1) k)
  where
    at_first : (t : Bool) → is_name_byte x ≡ t → cond (not t) (Some i) (position_from (λ b. not (is_name_byte b)) (i + 1) xs) ≡ Some k
        → (position_from (λ b. not (is_name_byte b)) (i + 1) xs ≡ Some k → Stop xs (i + 1) k) → Stop (x ∷ xs) i k
    at_first true on found later =
        let s = later found in
        record {
          good = x ∷ s.good;
          rest = s.rest;
          bad = s.bad;
          xs_are = ap (λ t. x ∷ t) s.xs_are;
          goods = All-cons IsNameByte x s.good (name_byte x on) s.goods;
          off = s.off;
          place = omega (arith, s.place);
        }
    at_first false off found later =
        let same : i ≡ k = cc in
        record { good = []; rest = xs; bad = x; xs_are = refl; goods = All-nil IsNameByte; off = no_byte x off; place = omega arith }

all_name : (xs : List ℕ) (i : ℕ) → position_from (λ b. not (is_name_byte b)) i xs ≡ None → All IsNameByte xs
all_name [] i is = All-nil IsNameByte
all_name (x ∷ xs) i is = at_first (is_name_byte x) refl is (all_name xs (i + 1))
  where
    at_first : (t : Bool) → is_name_byte x ≡ t → cond (not t) (Some i) (position_from (λ b. not (is_name_byte b)) (i + 1) xs) ≡ None
        → (position_from (λ b. not (is_name_byte b)) (i + 1) xs ≡ None → All IsNameByte xs) → All IsNameByte (x ∷ xs)
    at_first true on found later = All-cons IsNameByte x xs (name_byte x on) (later found)
    at_first false off found later = cc

stop_at : (good rest : List ℕ) (b i : ℕ) → All IsNameByte good → (IsNameByte b → ⊥) → position_from (λ b. not (is_name_byte b)) i (good ++ (b ∷ rest)) ≡ Some (i + length good)
stop_at [] rest b i goods off = rw (off_byte b off) (ap Some (omega arith))
stop_at (x ∷ good) rest b i goods off =
    let later = stop_at good rest b (i + 1) (All-tail IsNameByte x good goods) off in
    let n : i + 1 + length good ≡ i + length (x ∷ good) = omega arith in
    rw (is_byte x (All-head IsNameByte x good goods)) (later ∙ ap Some n)

no_stop : (xs : List ℕ) (i : ℕ) → All IsNameByte xs → position_from (λ b. not (is_name_byte b)) i xs ≡ None
no_stop [] i goods = refl
no_stop (x ∷ xs) i goods = rw (is_byte x (All-head IsNameByte x xs goods)) (no_stop xs (i + 1) (All-tail IsNameByte x xs goods))

-- the first byte that is none of a name, where the name has at most 255 bytes
end_is : (good rest : List ℕ) (b : ℕ) → All IsNameByte good → length good < 256 → (IsNameByte b → ⊥)
    → position_from (λ b. not (is_name_byte b)) 0 (take 256 (good ++ (b ∷ rest))) ≡ Some (length good)
end_is good rest b goods short off =
    let others = take (255 - length good) rest in
    let split : 256 ≡ length good + suc (255 - length good) = omega arith in
    let front : take 256 (good ++ (b ∷ rest)) ≡ good ++ (b ∷ others) = ap (λ n. take n (good ++ (b ∷ rest))) split ∙ take-append-add good (b ∷ rest) (suc (255 - length good)) in
    ap (position_from (λ b. not (is_name_byte b)) 0) front ∙ stop_at good others b 0 goods off ∙ ap Some (omega arith)

-- at a zero byte the name ends
name_ends : (k : ℕ) (s : Left) → 0 < k → slice_index s.bytes k ≡ 0 → name_to (Some k) s ≡ Ok (take k s.bytes, past (k + 1) s)
unfolding name_to
name_ends k s some byte =
    rw (and_from (ltb 0 k) (eqb (slice_index s.bytes k) 0) (lt-ltb 0 k some) (eq-eqb (slice_index s.bytes k) 0 byte)) refl

-- a name is read up to its zero byte
ends_at : (name text : List ℕ) → IsName name × (text ≡ name ++ (0 ∷ [])) → (s : Left) (rest : List ℕ) → s.bytes ≡ text ++ rest → name_at s ≡ Ok (name, behind s text rest)
unfolding name_at
ends_at name text good s rest is =
    let k = length name in
    let whole : s.bytes ≡ name ++ (0 ∷ rest) = is ∙ ap (λ t. t ++ rest) good.1 ∙ append_assoc name (0 ∷ []) rest in
    let at : position_from (λ b. not (is_name_byte b)) 0 (take 256 s.bytes) ≡ Some k =
    ap (λ t. position_from (λ b. not (is_name_byte b)) 0 (take 256 t)) whole ∙ end_is name rest 0 good.0.2 (omega (arith, good.0.1)) (λ h. omega (arith, h.0)) in
    let byte : slice_index s.bytes k ≡ 0 = ap (λ t. slice_index t k) whole ∙ get_or_at name 0 rest 0 k refl in
    let long : length text ≡ k + 1 = omega (arith, ap length good.1, length-append name (0 ∷ [])) in
    let front : take k s.bytes ≡ name = ap (take k) whole ∙ take_at name (0 ∷ rest) k refl in
    let back : drop (k + 1) s.bytes ≡ rest = ap (drop (k + 1)) is ∙ drop_at text rest (k + 1) long in
    ap (λ o. name_to o s) at ∙ name_ends k s (omega (arith, good.0.0)) byte ∙ same s (take k s.bytes) name (k + 1) (length text) (drop (k + 1) s.bytes) rest front (sym long) back
  where
    same : (s : Left) (v x : List ℕ) (n m : ℕ) (left rest : List ℕ) → v ≡ x → n ≡ m → left ≡ rest
        → (let end : Result (List ℕ × Left) DvcRefusal = Ok (v, record { at = s.at + n; bytes = left }) in end ≡ Ok (x, record { at = s.at + m; bytes = rest }))
    same s v x n m left rest e f g = rw (e, f, g) refl

-- each fault of a name is the answer
pub name_answer : (s : Left) (r : DvcRefusal) → RefusedName s.at s.bytes r → name_at s ≡ Err r
unfolding name_at name_to
name_answer s r (wrong_byte good rest b goods short off zero_first is r_is) =
    let k = length good in
    let at : position_from (λ b. not (is_name_byte b)) 0 (take 256 s.bytes) ≡ Some k =
    ap (λ t. position_from (λ b. not (is_name_byte b)) 0 (take 256 t)) is ∙ end_is good rest b goods short off in
    let byte : slice_index s.bytes k ≡ b = ap (λ t. slice_index t k) is ∙ get_or_at good b rest 0 k refl in
    let test : (ltb 0 k && eqb (slice_index s.bytes k) 0) ≡ false = not_ended k b (slice_index s.bytes k) byte zero_first in
    as_err (ap (λ o. name_to o s) at ∙ ap (λ b. cond b (Ok (take k s.bytes, past (k + 1) s)) (Err (refusal.BadName (s.at + k)))) test) r_is
  where
    not_ended : (k b c : ℕ) → c ≡ b → (b ≡ 0 → k ≡ 0) → (ltb 0 k && eqb c 0) ≡ false
    not_ended k b c same zero_first =
        elim (cases_eq b 0) [
          | inl z ↦ ap (λ t. t && eqb c 0) (le-ltb 0 k (omega (arith, zero_first z)))
          | inr n ↦ and_right (ltb 0 k) (eqb c 0) (ne_eqb c 0 (λ e. n (sym same ∙ e)))
        ]
name_answer s r (too_many good rest goods long is r_is) =
    let front : take 256 s.bytes ≡ good = ap (take 256) is ∙ take_at good rest 256 long in
    let none : position_from (λ b. not (is_name_byte b)) 0 (take 256 s.bytes) ≡ None = ap (position_from (λ b. not (is_name_byte b)) 0) front ∙ no_stop good 0 goods in
    let test : ltb (length s.bytes) 256 ≡ false = le-ltb (length s.bytes) 256 (omega (arith, ap length is, length-append good rest)) in
    as_err (ap (λ o. name_to o s) none ∙ ap (λ b. cond b (Err (refusal.NameNotEnded (s.at + length s.bytes))) (Err (refusal.BadName (s.at + 255)))) test) r_is
name_answer s r (not_ended goods short r_is) =
    let front : take 256 s.bytes ≡ s.bytes = take_all 256 s.bytes (omega arith) in
    let none : position_from (λ b. not (is_name_byte b)) 0 (take 256 s.bytes) ≡ None = ap (position_from (λ b. not (is_name_byte b)) 0) front ∙ no_stop s.bytes 0 goods in
    let test : ltb (length s.bytes) 256 ≡ true = lt-ltb (length s.bytes) 256 short in
    as_err (ap (λ o. name_to o s) none ∙ ap (λ b. cond b (Err (refusal.NameNotEnded (s.at + length s.bytes))) (Err (refusal.BadName (s.at + 255)))) test) r_is

-- bytes begin with a name and its end, or a name is refused
pub data NameOr (at : ℕ) (bytes : List ℕ) : Type 0 where
  named : (name rest : List ℕ) → IsName name → bytes ≡ (name ++ (0 ∷ [])) ++ rest → NameOr at bytes
  misnamed : (r : DvcRefusal) → RefusedName at bytes r → NameOr at bytes

pub named_or : (at : ℕ) (bytes : List ℕ) → NameOr at bytes
named_or at bytes = by_end (position_from (λ b. not (is_name_byte b)) 0 (take 256 bytes)) refl
  where
    no_end : All IsNameByte (take 256 bytes) → (length bytes < 256) ⊎ (256 ≤ length bytes) → NameOr at bytes
    no_end goods (inl h) = misnamed _ (not_ended (subst (All IsNameByte) (take_all 256 bytes (omega arith)) goods) h refl)
    no_end goods (inr h) = misnamed _ (too_many (take 256 bytes) (drop 256 bytes) goods (length-take-le 256 bytes h) (sym (take-append-drop 256 bytes)) refl)

    at_stop : (k : ℕ) (s : Stop (take 256 bytes) 0 k) → bytes ≡ s.good ++ (s.bad ∷ (s.rest ++ drop 256 bytes)) → length s.good < 256
        → ((s.bad ≡ 0) × (0 < length s.good)) ⊎ (s.bad ≡ 0 → length s.good ≡ 0) → NameOr at bytes
    at_stop k s whole short (inl h) =
        named s.good (s.rest ++ drop 256 bytes) (omega arith, omega arith, s.goods)
        (whole ∙ ap (λ b. s.good ++ (b ∷ (s.rest ++ drop 256 bytes))) h.0 ∙ sym (append_assoc s.good (0 ∷ []) (s.rest ++ drop 256 bytes)))
    at_stop k s whole short (inr h) = misnamed _ (wrong_byte s.good (s.rest ++ drop 256 bytes) s.bad s.goods short s.off h whole refl)

    zero_or : (n b : ℕ) → ((b ≡ 0) × (0 < n)) ⊎ (b ≡ 0 → n ≡ 0)
    zero_or n b =
        elim (cases_lt 0 n) [
          | inl h ↦ elim (cases_eq b 0) [ inl z ↦ inl (z, h) | inr d ↦ inr (λ z. absurd (d z)) ]
          | inr h ↦ inr (λ z. omega arith)
        ]

    by_end : (o : Option ℕ) → position_from (λ b. not (is_name_byte b)) 0 (take 256 bytes) ≡ o → NameOr at bytes
    by_end None is = no_end (all_name (take 256 bytes) 0 is) (cases_lt (length bytes) 256)
    by_end (Some k) is =
        let s = stop (take 256 bytes) 0 k is in
        at_stop k s (sym (take-append-drop 256 bytes) ∙ ap (λ t. t ++ drop 256 bytes) s.xs_are ∙ append_assoc s.good (s.bad ∷ s.rest) (drop 256 bytes))
        (omega (arith, ap length s.xs_are, length-append s.good (s.bad ∷ s.rest), length-take 256 bytes)) (zero_or (length s.good) s.bad)

-- a name with its zero byte
pub name_law : Field name_at (λ name. name ++ (0 ∷ [])) IsName
name_law = record {
  takes = λ s x good is. elim (named_or s.at s.bytes) [
    | named name rest fits whole ↦
        let text = name ++ (0 ∷ []) in
        taken_by name_at (Plainly (λ name. name ++ (0 ∷ [])) IsName) s x name text rest good is (fits, refl) whole (ends_at name text (fits, refl) s rest whole)
    | misnamed r fault ↦ not_both x r is (name_answer s r fault)
  ];
  again = ends_at;
}
