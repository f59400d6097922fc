-- Lemmas on the flags that coded bytes spell.
use Rattle.std.proofs.Common.{◌≡◌, ℕ, zero, suc, ◌+◌, ◌-◌, ◌*◌, ◌/◌, ◌%◌, ◌^◌, ◌==◌, ◌<◌, ◌≤◌, ◌⊎◌, inl, inr, Bool, true, false, ltb, leb, cond, List, [], ◌∷◌, ◌++◌, length, drop, replicate, slice_get, Option, Some, None, refl, sym, ap, ◌∙◌, arith, add-one, length-append}
use Rattle.std.specs.List.{enumerate_from}
use Rattle.std.proofs.lemmas.List.{length-replicate}
use Rattle.std.proofs.lemmas.Option.{slice_get_past}
use Rattle.std.proofs.lemmas.Bool.Decides.{nat_tests}
use Rattle.std.proofs.lemmas.Nat.{shr-shr}
use Rattle.mt_base.proofs.Lists.{slice_get-append-left, slice_get-append-right, slice_get-replicate}
use Rattle.coded_vector.specs.CodedBytes.{bits, flags_in, flags_of}
use Rattle.coded_vector.specs.CodedView.{flags_left}
use Rattle.coded_vector.specs.Numbers.{flag_told}

pub length-bits : (n c : ℕ) → length (bits n c) ≡ n
length-bits zero c = refl
length-bits (suc n) c = ap suc (length-bits n (c / 2))

-- a bit by its place
pub slice_get-bits : (n c k : ℕ) → k < n → slice_get (bits n c) k ≡ Some ((c / 2 ^ k) % 2 == 1)
slice_get-bits zero c k h = absurd (omega arith)
slice_get-bits (suc n) c zero h = let same : c ≡ c / 1 =
    omega arith in ap (λ x. Some (x % 2 == 1)) same
slice_get-bits (suc n) c (suc k) h =
    let next : c / 2 / 2 ^ k ≡ c / 2 ^ suc k = shr-shr c 1 k
    ∙ ap (λ j. c / 2 ^ j) (omega arith) in
    slice_get-bits n (c / 2) k (omega arith) ∙ ap (λ x. Some (x % 2 == 1)) next

-- the flags of a byte below 128, and of another
pub flags_in_low : (c : ℕ) → c < 128 → flags_in c ≡ bits 7 c
flags_in_low c h = let low : ltb c 128 ≡ true = grind (arith, nat_tests) in rw low refl

pub flags_in_high : (c : ℕ) → 128 ≤ c → flags_in c ≡ replicate (c % 64) (c / 64 == 3)
flags_in_high c h = let high : ltb c 128 ≡ false = grind (arith, nat_tests) in rw high refl

pub flag_low : (c k : ℕ) → c < 128 → k < length (flags_in c)
    → Some ((c / 2 ^ k) % 2 == 1) ≡ slice_get (flags_in c) k
flag_low c k h i =
    let low = flags_in_low c h in
    let within : k < 7 = omega (arith, ap length low, length-bits 7 c) in
    sym (ap (λ t. slice_get t k) low ∙ slice_get-bits 7 c k within)

pub flag_high : (c k : ℕ) → c < 256 → 128 ≤ c → k < length (flags_in c)
    → Some (leb 192 c) ≡ slice_get (flags_in c) k
flag_high c k fits h i =
    let high = flags_in_high c h in
    let within : k < c % 64 = omega (
      arith,
      ap length high,
      length-replicate (c % 64) (c / 64 == 3),
    ) in
    let state : leb 192 c ≡ (c / 64 == 3) = grind (arith, nat_tests) in
    ap Some state ∙ sym (ap (λ t. slice_get t k) high
    ∙ slice_get-replicate (c % 64) (c / 64 == 3) k within)

-- a flag within the first byte
pub flag_in_first : (all rest : List ℕ) (c k : ℕ) → all ≡ c ∷ rest → k < length (flags_in c)
    → slice_get (flags_of all) k ≡ slice_get (flags_in c) k
flag_in_first all rest c k is h =
    ap (λ t. slice_get (flags_of t) k) is ∙ slice_get-append-left (flags_in c) (flags_of rest) k h

-- a flag behind the first byte
pub flag_behind_first : (all rest : List ℕ) (c k count : ℕ) → all ≡ c ∷ rest
    → count ≡ length (flags_in c) → count ≤ k
    → slice_get (flags_of all) k ≡ slice_get (flags_of rest) (k - count)
flag_behind_first all rest c k count is counts h =
    ap (λ t. slice_get (flags_of t) k) is ∙ slice_get-append-right (flags_in c) (flags_of rest) k
    (omega (arith, counts))
    ∙ ap (λ n. slice_get (flags_of rest) (k - n)) (sym counts)

-- the flag of a number that is not below the base
pub told_flag : (flags : List Bool) (base number : ℕ) (flag : Option Bool) → base ≤ number
    → slice_get flags (number - base) ≡ flag → flag ≡ flag_told flags base number
told_flag flags base number flag h e =
    let above : leb base number ≡ true = grind (arith, nat_tests) in
    rw above (sym e)

drop_next : (flags : List Bool) (k : ℕ) (flag : Bool) → slice_get flags k ≡ Some flag
    → drop k flags ≡ flag ∷ drop (suc k) flags
drop_next [] k flag e = absurd (cc)
drop_next (f ∷ fs) zero flag e = let same : f ≡ flag = cc in ap (λ x. x ∷ fs) same
drop_next (f ∷ fs) (suc k) flag e = drop_next fs k flag e

drop_none : (flags : List Bool) (k : ℕ) → slice_get flags k ≡ None → drop k flags ≡ []
drop_none [] zero e = refl
drop_none [] (suc k) e = refl
drop_none (f ∷ fs) zero e = absurd (cc)
drop_none (f ∷ fs) (suc k) e = drop_none fs k e

flags_left_all : (cs : List ℕ) → flags_left 0 cs ≡ flags_of cs
flags_left_all [] = refl
flags_left_all (c ∷ cs) = refl

-- all flags of the first byte were taken
pub left_behind : (all rest : List ℕ) (c taken : ℕ) → all ≡ c ∷ rest
    → None ≡ slice_get (flags_in c) taken → flags_left taken all ≡ flags_left 0 rest
left_behind all rest c taken is none =
    ap (flags_left taken) is ∙ ap (λ t. t ++ flags_of rest)
    (drop_none (flags_in c) taken (sym none)) ∙ sym (flags_left_all rest)

-- the next flag of the first byte
pub left_next : (all rest : List ℕ) (c taken offset : ℕ) (flag : Bool) → all ≡ c ∷ rest
    → Some flag ≡ slice_get (flags_in c) taken
    → enumerate_from offset (flags_left taken all) ≡ (offset, flag)
    ∷ enumerate_from (offset + 1) (flags_left (taken + 1) all)
left_next all rest c taken offset flag is some =
    let next : drop taken (flags_in c) ≡ flag ∷ drop (taken + 1) (flags_in c) =
    drop_next (flags_in c) taken flag (sym some)
    ∙ ap (λ k. flag ∷ drop k (flags_in c)) (sym (add-one taken)) in
    ap (λ x. enumerate_from offset (flags_left taken x)) is
    ∙ ap (λ t. enumerate_from offset (t ++ flags_of rest)) next
    ∙ ap (λ x. (offset, flag) ∷ enumerate_from (offset + 1) (flags_left (taken + 1) x)) (sym is)

-- at most 63 flags for each byte
length-flags_in : (t : Bool) (c : ℕ) → length
    (cond t (bits 7 c) (replicate (c % 64) (c / 64 == 3))) ≤ 63
length-flags_in true c = omega (arith, length-bits 7 c)
length-flags_in false c = omega (arith, length-replicate (c % 64) (c / 64 == 3))

pub length-flags_of : (cs : List ℕ) → length (flags_of cs) ≤ 63 * length cs
length-flags_of [] = omega arith
length-flags_of (c ∷ cs) =
    omega (
      arith,
      length-flags_of cs,
      length-append (flags_in c) (flags_of cs),
      length-flags_in (ltb c 128) c,
    )

-- the flag with so many flags before it
pub flag_told_at : (before after : List Bool) (flag : Bool) (base number : ℕ)
    → base + length before ≡ number → flag_told (before ++ flag ∷ after) base number ≡ Some flag
flag_told_at before after flag base number is =
    let none : number - base - length before ≡ 0 = omega arith in
    let found : slice_get (before ++ flag ∷ after) (number - base) ≡ Some flag =
    slice_get-append-right before (flag ∷ after) (number - base) (omega arith)
    ∙ ap (slice_get (flag ∷ after)) none in
    sym (told_flag (before ++ flag ∷ after) base number (Some flag) (omega arith) found)

-- no flag
pub flag_untold : (flags : List Bool) (base number : ℕ)
    → (number < base) ⊎ (base + length flags ≤ number) → flag_told flags base number ≡ None
flag_untold flags base number (inl below) =
    let off : leb base number ≡ false = grind (arith, nat_tests) in
    rw off refl
flag_untold flags base number (inr above) =
    let on : leb base number ≡ true = grind (arith, nat_tests) in
    let far : length flags ≤ number - base = omega arith in
    rw on (slice_get_past flags (number - base) far)
