-- Lemmas on flags of numbers that follow one another, and on their writing.
use Rattle.std.proofs.Common.{◌≡◌, ℕ, zero, suc, ◌+◌, ◌^◌, ◌<◌, ◌≤◌, Bool, List, [], ◌∷◌, ◌++◌, length, Ok, refl, sym, ap, ◌∙◌, subst, arith}
use Rattle.std.proofs.Math.Seq.{drop-append_seam}
use Rattle.std.proofs.lemmas.List.{length-append, length-drop}
use Rattle.mt_base.specs.Writing.{Spot, put}
use Rattle.mt_base.proofs.Bytes.{IsUnderWay}
use Rattle.mt_base.proofs.Fill.{put_filled}
use Rattle.link_machine.specs.Flags.{AreSaid, flags_from, size_of}

-- ---- what is said

-- there are as many flags as numbers
pub length-flags_from : (has : ℕ → Bool) (from n : ℕ) → length (flags_from has from n) ≡ n
length-flags_from has from zero = refl
length-flags_from has from (suc n) = ap suc (length-flags_from has (from + 1) n)

-- one number more
pub said_more : (says : ℕ → Bool → Type 0) (from ahead : ℕ) (flags : List Bool) (flag : Bool)
    → AreSaid says from flags → length flags ≡ ahead → says (from + ahead) flag
    → AreSaid says from (flags ++ flag ∷ [])
said_more says from ahead [] flag so_far long is =
    let here : from + ahead ≡ from = omega (arith, long) in (subst (λ n. says n flag) here is, tt)
said_more says from ahead (f ∷ flags) flag so_far long is =
    let there : from + ahead ≡ from + 1 + length flags = omega (arith, long) in
    (so_far.0, said_more says (from + 1) (length flags) flags flag so_far.1 refl (subst (λ n. says n flag) there is))

-- where only what a number has is said of it, the flags are those of the numbers
pub said_of : (says : ℕ → Bool → Type 0) (has : ℕ → Bool) (from count : ℕ) (flags : List Bool)
    → ((n : ℕ) (flag : Bool) → n < 2 ^ 64 → says n flag → flag ≡ has n)
    → AreSaid says from flags → length flags ≡ count → from + count ≤ 2 ^ 64
    → flags ≡ flags_from has from count
said_of says has from zero [] only said long few = refl
said_of says has from zero (flag ∷ flags) only said long few = absurd (omega (arith, long))
said_of says has from (suc count) [] only said long few = absurd (omega (arith, long))
said_of says has from (suc count) (flag ∷ flags) only said long few =
    ap (λ f. f ∷ flags) (only from flag (omega (arith, few)) said.0)
    ∙ ap (λ fs. has from ∷ fs)
    (said_of says has (from + 1) count flags only said.1 (omega (arith, long)) (omega (arith, few)))

-- ---- where it is written

-- the bytes of the buffer, on the way through what would be written
pub spot_way : (whole todo : List ℕ) (s : Spot) → s.before ++ todo ≡ whole
    → IsUnderWay whole todo (s.before ++ s.after) s
spot_way whole todo s so_far = record {
  so_far = so_far;
  behind = sym (drop-append_seam s.before s.after);
  fits = omega (arith, length-append s.before s.after);
}

-- a field stands before the place then, in a buffer of as many bytes
pub put_before : (field : List ℕ) (s t : Spot) → put field s ≡ Ok t → t.before ≡ s.before ++ field
put_before field s t written = ap (λ (x : Spot). x.before) (put_filled field s t written).1

pub put_size : (field : List ℕ) (s t : Spot) → put field s ≡ Ok t → size_of t ≡ size_of s
put_size field s t written =
    let one = put_filled field s t written in
    omega (
      arith,
      one.0,
      ap (λ (x : Spot). length x.before) one.1,
      length-append s.before field,
      ap (λ (x : Spot). length x.after) one.1,
      length-drop (length field) s.after,
    )
