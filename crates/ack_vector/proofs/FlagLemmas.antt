-- Lemmas on the flags that elements spell.
use Rattle.std.proofs.Common.{◌≡◌, ℕ, ◌+◌, ◌-◌, ◌*◌, ◌/◌, ◌%◌, ◌==◌, ◌<◌, ◌≤◌, ◌⊎◌, inl, inr, Bool, true, false, List, [], ◌∷◌, ◌++◌, length, map, reverse, replicate, slice_get, Some, None, refl, sym, ap, ◌∙◌, append-nil, length-append, arith, leb}
use Rattle.std.specs.List.{flat_map}
use Rattle.std.proofs.lemmas.List.{reverse-append, length-reverse, length-replicate}
use Rattle.std.proofs.lemmas.Option.{slice_get_past}
use Rattle.std.proofs.lemmas.List.Concat.{flat_map-append}
use Rattle.mt_base.proofs.Lists.{slice_get-append-left, slice_get-append-right, slice_get-replicate, reverse-replicate}
use Rattle.std.proofs.lemmas.Bool.Decides.{nat_tests}
use Rattle.ack_vector.specs.Elements.{run_of, flags_in, flags_of}
use Rattle.ack_vector.specs.Numbers.{flag_told}

-- the flags of elements read from their end: first those of the last element
backwards : (es : List ℕ) (e : ℕ) → reverse (flags_of (es ++ e ∷ []))
    ≡ replicate (e % 64) (e / 64 == 0) ++ reverse (flags_of es)
backwards es e =
    let last = replicate (e % 64) (e / 64 == 0) in
    ap reverse (flat_map-append (λ x. flags_in (run_of x)) es (e ∷ [])
    ∙ ap (λ t. flags_of es ++ t) (append-nil last))
    ∙ reverse-append (flags_of es) last
    ∙ ap (λ t. t ++ reverse (flags_of es)) (reverse-replicate (e % 64) (e / 64 == 0))

-- a flag from the end, within the last element
pub flag_in_last : (all es : List ℕ) (e k : ℕ) → all ≡ es ++ e ∷ [] → k < e % 64
    → slice_get (reverse (flags_of all)) k ≡ Some (e / 64 == 0)
flag_in_last all es e k is h =
    ap (λ t. slice_get (reverse (flags_of t)) k) is ∙ ap (λ t. slice_get t k) (backwards es e)
    ∙ slice_get-append-left (replicate (e % 64) (e / 64 == 0)) (reverse (flags_of es)) k
    (omega (arith, length-replicate (e % 64) (e / 64 == 0)))
    ∙ slice_get-replicate (e % 64) (e / 64 == 0) k h

-- a flag from the end, before the last element
pub flag_before_last : (all es : List ℕ) (e k count : ℕ) → all ≡ es ++ e ∷ [] → count ≡ e % 64
    → count ≤ k → slice_get (reverse (flags_of all)) k
    ≡ slice_get (reverse (flags_of es)) (k - count)
flag_before_last all es e k count is counts h =
    let long = length-replicate (e % 64) (e / 64 == 0) in
    ap (λ t. slice_get (reverse (flags_of t)) k) is ∙ ap (λ t. slice_get t k) (backwards es e)
    ∙ slice_get-append-right (replicate (e % 64) (e / 64 == 0)) (reverse (flags_of es)) k
    (omega (arith, long))
    ∙ ap (λ n. slice_get (reverse (flags_of es)) (k - n)) (long ∙ sym counts)

-- the flag of a number that is not above the last
pub told_flag : (flags : List Bool) (last number : ℕ) (flag : Bool) → number ≤ last
    → slice_get (reverse flags) (last - number) ≡ Some flag
    → Some flag ≡ flag_told flags last number
told_flag flags last number flag h e =
    let below : leb number last ≡ true = grind (arith, nat_tests) in
    rw below (sym e)

-- the join of the runs' flags
pub flags_of-map : (es : List ℕ) → flags_of es ≡ flat_map flags_in (map run_of es)
flags_of-map [] = refl
flags_of-map (e ∷ es) = ap (λ t. flags_in (run_of e) ++ t) (flags_of-map es)

-- at most 63 flags for each element
pub length-flags_of : (es : List ℕ) → length (flags_of es) ≤ 63 * length es
length-flags_of [] = omega arith
length-flags_of (e ∷ es) =
    omega (
      arith,
      length-flags_of es,
      length-append (flags_in (run_of e)) (flags_of es),
      length-replicate (e % 64) (e / 64 == 0),
    )

-- the flag with so many flags behind it
pub flag_told_at : (before after : List Bool) (flag : Bool) (last number : ℕ)
    → number + length after ≡ last → flag_told (before ++ flag ∷ after) last number ≡ Some flag
flag_told_at before after flag last number is =
    let back = length-reverse after in
    let turned : reverse (before ++ flag ∷ after)
    ≡ (reverse after ++ flag ∷ []) ++ reverse before =
    reverse-append before (flag ∷ after) ∙ ap (λ t. t ++ reverse before)
    (reverse-append (flag ∷ []) after) in
    let ends : length (reverse after ++ flag ∷ []) ≡ length after + 1 =
    length-append (reverse after) (flag ∷ []) ∙ ap (λ n. n + 1) back in
    let place : last - number ≡ length after = omega arith in
    let none : last - number - length (reverse after) ≡ 0 = omega arith in
    let found : slice_get (reverse (before ++ flag ∷ after)) (last - number) ≡ Some flag =
    ap (λ t. slice_get t (last - number)) turned
    ∙ slice_get-append-left (reverse after ++ flag ∷ []) (reverse before) (last - number)
    (omega arith)
    ∙ slice_get-append-right (reverse after) (flag ∷ []) (last - number) (omega arith)
    ∙ ap (slice_get (flag ∷ [])) none in
    sym (told_flag (before ++ flag ∷ after) last number flag (omega arith) found)

-- no flag
pub flag_untold : (flags : List Bool) (last number : ℕ)
    → (last < number) ⊎ (number + length flags ≤ last) → flag_told flags last number ≡ None
flag_untold flags last number (inl above) =
    let off : leb number last ≡ false = grind (arith, nat_tests) in
    rw off refl
flag_untold flags last number (inr below) =
    let on : leb number last ≡ true = grind (arith, nat_tests) in
    let far : length (reverse flags) ≤ last - number = omega (arith, length-reverse flags) in
    rw on (slice_get_past (reverse flags) (last - number) far)
