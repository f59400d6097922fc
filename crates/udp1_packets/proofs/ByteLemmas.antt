-- The low byte of an opening's word.
use Rattle.std.proofs.Common.{◌≡◌, ◌⊎◌, inl, inr, ℕ, ◌+◌, ◌%◌, Bool, true, false, bit_and, List, slice_index, sym, ap, ◌∙◌, arith}
use Rattle.std.specs.Option.{is_some}
use Rattle.std.specs.Int.Bits.{and_zero_r}
use Rattle.std.proofs.lemmas.Nat.{and_mod}
use Rattle.udp1_packets.specs.Value.{Syn, SynBody, Packet}
use Rattle.udp1_packets.specs.Layout.{Spells, flags, flag_if, announced, mark_mask}

-- marks of an opening have nothing in their low byte
low_marks : (marks : ℕ) → bit_and marks 0xE600 ≡ marks → marks % 256 ≡ 0
low_marks marks within = ap (λ m. m % 256) (sym within) ∙ and_mod marks 0xE600 8 ∙ and_zero_r (marks % 256)

low_word : (marks : ℕ) (a c e : Bool) → marks % 256 ≡ 0
    → ((marks + (0x0001 + flag_if a 0x0004 + flag_if c 0x0800 + flag_if e 0x1000)) % 256 ≡ 0x01) ⊎ ((marks + (0x0001 + flag_if a 0x0004 + flag_if c 0x0800 + flag_if e 0x1000)) % 256 ≡ 0x05)
low_word marks false false false h = inl (omega arith)
low_word marks false false true h = inl (omega arith)
low_word marks false true false h = inl (omega arith)
low_word marks false true true h = inl (omega arith)
low_word marks true false false h = inr (omega arith)
low_word marks true false true h = inr (omega arith)
low_word marks true true false h = inr (omega arith)
low_word marks true true true h = inr (omega arith)

-- the eighth byte is the low byte of the word
eighth : (bytes : List ℕ) (p : Packet) → Spells bytes p → slice_index bytes 7 ≡ flags p % 256
eighth bytes p s = ap (λ t. slice_index t 7) s.bytes_are

pub opens_with : (bytes : List ℕ) (p : Packet) (syn : Syn) → Spells bytes p → p.body ≡ SynBody syn → (slice_index bytes 7 ≡ 0x01) ⊎ (slice_index bytes 7 ≡ 0x05)
opens_with bytes p syn s is =
    let word : flags p % 256 ≡ (p.marks + announced (SynBody syn)) % 256 = ap (λ b. (p.marks + announced b) % 256) is in
    let within : bit_and p.marks 0xE600 ≡ p.marks = ap (λ b. bit_and p.marks (mark_mask b)) (sym is) ∙ s.is.marks_within in
    elim (low_word p.marks syn.answer (is_some syn.correlation) (is_some syn.extension) (low_marks p.marks within)) [
      | inl one ↦ inl (eighth bytes p s ∙ word ∙ one)
      | inr five ↦ inr (eighth bytes p s ∙ word ∙ five)
    ]
