-- Words of flags: numbers as sums of what they have under masks that share no bit.
use Rattle.std.proofs.Common.{◌≡◌, ℕ, ◌+◌, ◌*◌, ◌^◌, ◌<◌, ◌⊎◌, inl, inr, bit_and, bit_or, sym, ap, ◌∙◌, arith}
use Rattle.std.specs.Int.{bit_at}
use Rattle.std.specs.Int.Bits.{and_zero_r}
use Rattle.std.proofs.Math.Nat.{mod-eq_of_lt, zero-mul, one-mul}
use Rattle.std.proofs.lemmas.Bool.{cases_eq}
use Rattle.std.proofs.lemmas.Nat.{and_assoc, and_comm, or_disjoint, and_or_apart, and_mask}
use Rattle.std.proofs.lemmas.Nat.Bits.{same_from_bits, bit_at_and, bit_at_or, bit_at-zero, and_pow}

-- what a word has under two masks that share no bit
pub and_sum : (w m n : ℕ) → bit_and m n ≡ 0 → bit_and w (m + n) ≡ bit_and w m + bit_and w n
and_sum w m n off =
    ap (bit_and w) (sym (or_disjoint m n off)) ∙ same_from_bits (bit_and w (bit_or m n)) (bit_or (bit_and w m) (bit_and w n)) joined ∙ or_disjoint (bit_and w m) (bit_and w n) apart
  where
    joined : (i : ℕ) → bit_at (bit_and w (bit_or m n)) i ≡ bit_at (bit_or (bit_and w m) (bit_and w n)) i
    joined i = omega (arith, bit_at_and w (bit_or m n) i, bit_at_or m n i, bit_at_or (bit_and w m) (bit_and w n) i, bit_at_and w m i, bit_at_and w n i)

    apart : bit_and (bit_and w m) (bit_and w n) ≡ 0
    apart = same_from_bits (bit_and (bit_and w m) (bit_and w n)) 0
        (λ i. omega (arith, bit_at_and (bit_and w m) (bit_and w n) i, bit_at_and w m i, bit_at_and w n i, bit_at_and m n i, ap (λ x. bit_at x i) off, bit_at-zero i))

-- a number within a mask has nothing under another that shares no bit with it
pub apart_from : (mask other marks : ℕ) → bit_and marks mask ≡ marks → bit_and mask other ≡ 0 → bit_and marks other ≡ 0
apart_from mask other marks within off =
    ap (λ m. bit_and m other) (sym within) ∙ and_assoc other marks mask ∙ ap (bit_and marks) off ∙ and_zero_r marks

-- marks within a mask and a code outside it: what the sum has under a mask apart from the marks
pub shown : (mask marks code k : ℕ) → bit_and marks mask ≡ marks → bit_and mask code ≡ 0 → bit_and mask k ≡ 0 → bit_and (marks + code) k ≡ bit_and code k
shown mask marks code k within off_code off_k =
    let off : bit_and code marks ≡ 0 = and_comm code marks ∙ apart_from mask code marks within off_code in
    let sum : marks + code ≡ bit_or code marks = (let flip : marks + code ≡ code + marks = omega arith in flip) ∙ sym (or_disjoint code marks off) in
    ap (λ w. bit_and w k) sum ∙ and_or_apart k code marks (apart_from mask k marks within off_k)

-- and under the mask itself
pub kept : (mask marks code : ℕ) → bit_and marks mask ≡ marks → bit_and mask code ≡ 0 → bit_and (marks + code) mask ≡ marks
kept mask marks code within off_code =
    ap (λ w. bit_and w mask) (sym (or_disjoint marks code (apart_from mask code marks within off_code))) ∙ and_or_apart mask marks code (and_comm code mask ∙ off_code) ∙ within

-- a word of sixteen bits under the mask of all
pub whole_word : (w : ℕ) → w < 2 ^ 16 → bit_and w 0xFFFF ≡ w
whole_word w small = and_mask w 16 ∙ mod-eq_of_lt small

-- a flag is set or not
pub flag_or : (w k : ℕ) → (bit_and w (2 ^ k) ≡ 0) ⊎ (bit_and w (2 ^ k) ≡ 2 ^ k)
flag_or w k = elim (cases_eq (bit_at w k) 0) [
  | inl off ↦ inl (and_pow w k ∙ ap (λ b. b * 2 ^ k) off ∙ zero-mul (2 ^ k))
  | inr on ↦ inr (let one : bit_at w k ≡ 1 = omega arith in and_pow w k ∙ ap (λ b. b * 2 ^ k) one ∙ one-mul (2 ^ k))
]
