-- Lemmas on parts that stand in two rings.
use Rattle.std.proofs.Common.{◌≡◌, ℕ, ◌+◌, ◌-◌, ◌*◌, ◌≤◌, ◌<◌, suc, List, [], ◌∷◌, ◌++◌, length, take, drop, min, slice_get, Some, All, refl, sym, ap, ◌∙◌, subst, arith, length-append, length-drop, length-take}
use Rattle.std.specs.Option.{IfSome}
use Rattle.std.proofs.lemmas.List.{drop-append-le, length-take-le, take-append-le}
use Rattle.std.proofs.lemmas.List.Elements.{All-append, All-nil, All-cons, All-head, All-drop}
use Rattle.std.proofs.Math.Seq.{take-length}
use Rattle.mt_windows.specs.declared.limits.TheConstants.{DATAGRAM, WINDOW}
use Rattle.carrier.specs.PerfectThin.{first_part}
use Rattle.lossy_mode.specs.Rings.{IsStored, parts_of, total}

-- there are as many parts as lengths
pub length-parts_of : (lengths bytes : List ℕ) → length (parts_of lengths bytes) ≡ length lengths
length-parts_of [] bytes = refl
length-parts_of (n ∷ lengths) bytes = ap suc (length-parts_of lengths (drop n bytes))

all_behind : (P : ℕ → Type 0) (x : ℕ) (xs : List ℕ) → All P (x ∷ xs) → All P xs
all_behind P x xs h = All-drop P 1 (x ∷ xs) h

-- the bytes of short parts
sum_short : (lengths : List ℕ) → All (λ n. n ≤ DATAGRAM) lengths → total lengths ≤ 1232 * length lengths
sum_short [] h = omega arith
sum_short (n ∷ lengths) h =
    let first = All-head (λ n. n ≤ DATAGRAM) n lengths h in
    let rest = sum_short lengths (all_behind (λ n. n ≤ DATAGRAM) n lengths h) in
    omega (arith, first, rest)

-- one more part finds its place
pub has_place : (lengths bytes : List ℕ) → IsStored lengths bytes → length lengths < WINDOW → length bytes + DATAGRAM ≤ 78848
has_place lengths bytes s less = omega (arith, sum_short lengths s.short, s.total_is)

sum_behind : (lengths : List ℕ) (n : ℕ) → total (lengths ++ n ∷ []) ≡ total lengths + n
sum_behind [] n = omega arith
sum_behind (m ∷ lengths) n = omega (arith, sum_behind lengths n)

pub stored_push : (lengths bytes part : List ℕ) → IsStored lengths bytes → length part ≤ DATAGRAM → length lengths < WINDOW
    → IsStored (lengths ++ length part ∷ []) (bytes ++ part)
stored_push lengths bytes part s short less = record {
  short = All-append (λ n. n ≤ DATAGRAM) lengths (length part ∷ []) s.short (All-cons (λ n. n ≤ DATAGRAM) (length part) [] short (All-nil (λ n. n ≤ DATAGRAM)));
  total_is = omega (arith, sum_behind lengths (length part), s.total_is, length-append bytes part);
  few = omega (arith, length-append lengths (length part ∷ []), less);
}

pub pushed_parts : (lengths bytes part : List ℕ) → total lengths ≡ length bytes
    → parts_of (lengths ++ length part ∷ []) (bytes ++ part) ≡ parts_of lengths bytes ++ part ∷ []
pushed_parts [] [] part h = ap (λ p. p ∷ []) (take-length part)
pushed_parts [] (b ∷ bytes) part h = absurd (omega (arith, h))
pushed_parts (n ∷ lengths) bytes part h =
    let within : n ≤ length bytes = omega (arith, h) in
    ap (λ p. p ∷ parts_of (lengths ++ length part ∷ []) (drop n (bytes ++ part))) (take-append-le n bytes part within)
    ∙ ap (λ b. take n bytes ∷ parts_of (lengths ++ length part ∷ []) b) (drop-append-le n bytes part within)
    ∙ ap (λ ps. take n bytes ∷ ps) (pushed_parts lengths (drop n bytes) part (omega (arith, h, length-drop n bytes)))

pub stored_pop : (lengths rest bytes : List ℕ) (n : ℕ) → lengths ≡ n ∷ rest → IsStored lengths bytes
    → IsStored rest (drop n bytes)
stored_pop lengths rest bytes n e s =
    let whole : IsStored (n ∷ rest) bytes = subst (λ l. IsStored l bytes) e s in record {
      short = all_behind (λ m. m ≤ DATAGRAM) n rest whole.short;
      total_is = omega (arith, whole.total_is, length-drop n bytes);
      few = omega (arith, whole.few);
    }

-- ---- what the rings give

pub pushed_lengths : (lengths : List ℕ) (x room : ℕ) → length lengths < room
    → drop (length (lengths ++ x ∷ []) - room) (lengths ++ x ∷ []) ≡ lengths ++ x ∷ []
pushed_lengths lengths x room less =
    let none : length (lengths ++ x ∷ []) - room ≡ 0 = omega (arith, length-append lengths (x ∷ [])) in
    ap (λ n. drop n (lengths ++ x ∷ [])) none

pub filled_bytes : (bytes part : List ℕ) (n room : ℕ) → n ≡ min (length part) (room - length bytes) → length bytes + length part ≤ room
    → bytes ++ take n part ≡ bytes ++ part
filled_bytes bytes part n room e enough =
    let all : n ≡ length part = omega (arith, e) in
    ap (λ p. bytes ++ p) (ap (λ m. take m part) all ∙ take-length part)

-- the first length, and the rest
first_length : (lengths : List ℕ) (n : ℕ) → slice_get lengths 0 ≡ Some n → lengths ≡ n ∷ drop 1 lengths
first_length [] n h = cc
first_length (m ∷ lengths) n h = let same : m ≡ n = cc in ap (λ k. k ∷ lengths) same

pub popped_stored : (lengths bytes rest left : List ℕ) (n count : ℕ) → slice_get lengths 0 ≡ Some n → IsStored lengths bytes
    → rest ≡ drop 1 lengths → left ≡ drop count bytes → (n ≤ length bytes → count ≡ n) → IsStored rest left
popped_stored lengths bytes rest left n count first s e f all =
    let split = first_length lengths n first in
    let whole : IsStored (n ∷ drop 1 lengths) bytes = subst (λ l. IsStored l bytes) split s in
    let same = all (omega (arith, whole.total_is)) in
    let popped = stored_pop (n ∷ drop 1 lengths) (drop 1 lengths) bytes n refl whole in
    subst (λ l. IsStored l left) (sym e) (subst (λ b. IsStored (drop 1 lengths) b) (sym (f ∙ ap (λ m. drop m bytes) same)) popped)

-- no part is longer than its length
pub parts_short : (lengths bytes : List ℕ) → All (λ n. n ≤ DATAGRAM) lengths → All (λ (part : List ℕ). length part ≤ DATAGRAM) (parts_of lengths bytes)
parts_short [] bytes h = All-nil (λ (part : List ℕ). length part ≤ DATAGRAM)
parts_short (n ∷ lengths) bytes h =
    All-cons (λ (part : List ℕ). length part ≤ DATAGRAM) (take n bytes) (parts_of lengths (drop n bytes))
    (omega (arith, length-take n bytes, All-head (λ m. m ≤ DATAGRAM) n lengths h))
    (parts_short lengths (drop n bytes) (all_behind (λ m. m ≤ DATAGRAM) n lengths h))

-- the first length is within a buffer that has room for the first part
pub first_fits : (lengths bytes : List ℕ) (n room : ℕ) → slice_get lengths 0 ≡ Some n
    → IfSome (first_part (parts_of lengths bytes)) (λ part. length part ≤ room) → n ≤ length bytes → n ≤ room
first_fits [] bytes n room e fits h = absurd (cc)
first_fits (m ∷ lengths) bytes n room e fits h =
    let same : m ≡ n = cc in
    let whole = length-take-le m bytes (omega (arith, same, h)) in
    omega (arith, same, whole, fits)
