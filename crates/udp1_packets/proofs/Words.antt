-- The word of flags: what it shows of a packet, and that it is the sum of what it shows.
use Rattle.std.proofs.Common.{◌≡◌, ℕ, ◌+◌, ◌^◌, ◌<◌, inl, inr, Bool, true, false, not, eqb, bit_and, bit_or, cond, refl, sym, ap, ◌∙◌, arith}
use Rattle.std.specs.Option.{is_some}
use Rattle.std.proofs.lemmas.Bool.{ne_eqb, eqb-true, not-false}
use Rattle.std.proofs.lemmas.Nat.{and_le_r, or_disjoint}
use Rattle.mt_base.proofs.Masks.{and_sum, apart_from, shown, kept, whole_word, flag_or}
use Rattle.udp1_packets.specs.Value.{Body, SynBody, DataBody, FecBody, BareBody}
use Rattle.udp1_packets.specs.Layout.{has, flag_if, announced, mark_mask}
use Rattle.udp1_packets.specs.Reading.{marks_in}

-- ---- what a word shows

has_is : (w k v : ℕ) (b : Bool) → bit_and w k ≡ v → not (eqb v 0) ≡ b → has w k ≡ b
has_is w k v b e f = ap (λ x. not (eqb x 0)) e ∙ f

-- a word that is marks within a mask and a code outside it shows what the code shows
shows : (mask marks code k : ℕ) (b : Bool) → bit_and marks mask ≡ marks → bit_and mask code ≡ 0 → bit_and mask k ≡ 0 → has code k ≡ b → has (marks + code) k ≡ b
shows mask marks code k b within off_code off_k is = has_is (marks + code) k (bit_and code k) b (shown mask marks code k within off_code off_k) is

small : (mask marks code : ℕ) → bit_and marks mask ≡ marks → mask + code < 2 ^ 16 → marks + code < 2 ^ 16
small mask marks code within fits = omega (arith, and_le_r marks mask, within)

-- the word of an opening
pub record ShowsSyn (w marks : ℕ) (answer correlation extension : Bool) : Type 0 where
  pub syn : has w 0x0001 ≡ true
  pub others : has w 0x01FA ≡ false
  pub answer_is : has w 0x0004 ≡ answer
  pub correlation_is : has w 0x0800 ≡ correlation
  pub extension_is : has w 0x1000 ≡ extension
  pub marks_are : marks_in w ≡ marks
  pub fits : w < 2 ^ 16

syn_by : (marks code : ℕ) (a c e : Bool) → bit_and marks 0xE600 ≡ marks → bit_and 0xE600 code ≡ 0 → 0xE600 + code < 2 ^ 16
    → has code 0x0001 ≡ true → has code 0x01FA ≡ false → has code 0x0004 ≡ a → has code 0x0800 ≡ c → has code 0x1000 ≡ e → ShowsSyn (marks + code) marks a c e
syn_by marks code a c e within off fits s o ha hc he =
    let syn : has (marks + code) 0x0001 ≡ true = shows 0xE600 marks code 0x0001 true within off refl s in
    record {
      syn = syn;
      others = shows 0xE600 marks code 0x01FA false within off refl o;
      answer_is = shows 0xE600 marks code 0x0004 a within off refl ha;
      correlation_is = shows 0xE600 marks code 0x0800 c within off refl hc;
      extension_is = shows 0xE600 marks code 0x1000 e within off refl he;
      marks_are = marks_syn (marks + code) syn ∙ kept 0xE600 marks code within off;
      fits = small 0xE600 marks code within fits;
    }
  where
    marks_syn : (w : ℕ) → has w 0x0001 ≡ true → marks_in w ≡ bit_and w 0xE600
    marks_syn w on = rw on refl

pub syn_word : (marks : ℕ) (a c e : Bool) → bit_and marks 0xE600 ≡ marks → ShowsSyn (marks + (0x0001 + flag_if a 0x0004 + flag_if c 0x0800 + flag_if e 0x1000)) marks a c e
syn_word marks false false false h = syn_by marks 0x0001 false false false h refl (omega arith) refl refl refl refl refl
syn_word marks false false true h = syn_by marks 0x1001 false false true h refl (omega arith) refl refl refl refl refl
syn_word marks false true false h = syn_by marks 0x0801 false true false h refl (omega arith) refl refl refl refl refl
syn_word marks false true true h = syn_by marks 0x1801 false true true h refl (omega arith) refl refl refl refl refl
syn_word marks true false false h = syn_by marks 0x0005 true false false h refl (omega arith) refl refl refl refl refl
syn_word marks true false true h = syn_by marks 0x1005 true false true h refl (omega arith) refl refl refl refl refl
syn_word marks true true false h = syn_by marks 0x0805 true true false h refl (omega arith) refl refl refl refl refl
syn_word marks true true true h = syn_by marks 0x1805 true true true h refl (omega arith) refl refl refl refl refl

-- the word of another packet: with data or without, with forward error correction or without
pub record ShowsTold (w marks : ℕ) (carried vector aoa : Bool) : Type 0 where
  pub syn : has w 0x0001 ≡ false
  pub data_is : has w 0x0008 ≡ carried
  pub vector_is : has w 0x0004 ≡ vector
  pub aoa_is : has w 0x0100 ≡ aoa
  pub marks_are : marks_in w ≡ marks
  pub fits : w < 2 ^ 16

told_by : (mask marks code : ℕ) (d v a : Bool) → bit_and marks mask ≡ marks → bit_and mask code ≡ 0 → mask + code < 2 ^ 16
    → bit_and mask 0x0001 ≡ 0 → bit_and mask 0x0008 ≡ 0 → bit_and mask 0x0004 ≡ 0 → bit_and mask 0x0100 ≡ 0
    → has code 0x0001 ≡ false → has code 0x0008 ≡ d → has code 0x0004 ≡ v → has code 0x0100 ≡ a → cond d 0xFEE2 0xFEF2 ≡ mask → ShowsTold (marks + code) marks d v a
told_by mask marks code d v a within off fits o_s o_d o_v o_a s hd hv ha is =
    let syn : has (marks + code) 0x0001 ≡ false = shows mask marks code 0x0001 false within off o_s s in
    let carried : has (marks + code) 0x0008 ≡ d = shows mask marks code 0x0008 d within off o_d hd in
    record {
      syn = syn;
      data_is = carried;
      vector_is = shows mask marks code 0x0004 v within off o_v hv;
      aoa_is = shows mask marks code 0x0100 a within off o_a ha;
      marks_are = marks_told (marks + code) d syn carried ∙ ap (bit_and (marks + code)) is ∙ kept mask marks code within off;
      fits = small mask marks code within fits;
    }
  where
    marks_told : (w : ℕ) (d : Bool) → has w 0x0001 ≡ false → has w 0x0008 ≡ d → marks_in w ≡ bit_and w (cond d 0xFEE2 0xFEF2)
    marks_told w true off on = rw (off, on) refl
    marks_told w false off on = rw (off, on) refl

pub data_word : (marks : ℕ) (v a : Bool) → bit_and marks 0xFEE2 ≡ marks → ShowsTold (marks + (0x0008 + flag_if v 0x0004 + flag_if a 0x0100)) marks true v a
data_word marks false false h = told_by 0xFEE2 marks 0x0008 true false false h refl (omega arith) refl refl refl refl refl refl refl refl refl
data_word marks false true h = told_by 0xFEE2 marks 0x0108 true false true h refl (omega arith) refl refl refl refl refl refl refl refl refl
data_word marks true false h = told_by 0xFEE2 marks 0x000C true true false h refl (omega arith) refl refl refl refl refl refl refl refl refl
data_word marks true true h = told_by 0xFEE2 marks 0x010C true true true h refl (omega arith) refl refl refl refl refl refl refl refl refl

pub fec_word : (marks : ℕ) (v a : Bool) → bit_and marks 0xFEE2 ≡ marks → ShowsTold (marks + (0x0018 + flag_if v 0x0004 + flag_if a 0x0100)) marks true v a
fec_word marks false false h = told_by 0xFEE2 marks 0x0018 true false false h refl (omega arith) refl refl refl refl refl refl refl refl refl
fec_word marks false true h = told_by 0xFEE2 marks 0x0118 true false true h refl (omega arith) refl refl refl refl refl refl refl refl refl
fec_word marks true false h = told_by 0xFEE2 marks 0x001C true true false h refl (omega arith) refl refl refl refl refl refl refl refl refl
fec_word marks true true h = told_by 0xFEE2 marks 0x011C true true true h refl (omega arith) refl refl refl refl refl refl refl refl refl

pub bare_word : (marks : ℕ) (v a : Bool) → bit_and marks 0xFEF2 ≡ marks → ShowsTold (marks + (flag_if v 0x0004 + flag_if a 0x0100)) marks false v a
bare_word marks false false h = told_by 0xFEF2 marks 0x0000 false false false h refl (omega arith) refl refl refl refl refl refl refl refl refl
bare_word marks false true h = told_by 0xFEF2 marks 0x0100 false false true h refl (omega arith) refl refl refl refl refl refl refl refl refl
bare_word marks true false h = told_by 0xFEF2 marks 0x0004 false true false h refl (omega arith) refl refl refl refl refl refl refl refl refl
bare_word marks true true h = told_by 0xFEF2 marks 0x0104 false true true h refl (omega arith) refl refl refl refl refl refl refl refl refl

-- whether a packet with data has forward error correction
pub no_fec : (marks : ℕ) (v a : Bool) → bit_and marks 0xFEE2 ≡ marks → has (marks + (0x0008 + flag_if v 0x0004 + flag_if a 0x0100)) 0x0010 ≡ false
no_fec marks false false h = shows 0xFEE2 marks 0x0008 0x0010 false h refl refl refl
no_fec marks false true h = shows 0xFEE2 marks 0x0108 0x0010 false h refl refl refl
no_fec marks true false h = shows 0xFEE2 marks 0x000C 0x0010 false h refl refl refl
no_fec marks true true h = shows 0xFEE2 marks 0x010C 0x0010 false h refl refl refl

pub with_fec : (marks : ℕ) (v a : Bool) → bit_and marks 0xFEE2 ≡ marks → has (marks + (0x0018 + flag_if v 0x0004 + flag_if a 0x0100)) 0x0010 ≡ true
with_fec marks false false h = shows 0xFEE2 marks 0x0018 0x0010 true h refl refl refl
with_fec marks false true h = shows 0xFEE2 marks 0x0118 0x0010 true h refl refl refl
with_fec marks true false h = shows 0xFEE2 marks 0x001C 0x0010 true h refl refl refl
with_fec marks true true h = shows 0xFEE2 marks 0x011C 0x0010 true h refl refl refl

-- ---- a word is what it shows

-- a flag of a word
flag_is : (w k : ℕ) → bit_and w (2 ^ k) ≡ flag_if (has w (2 ^ k)) (2 ^ k)
flag_is w k = elim (flag_or w k) [
  | inl off ↦ off ∙ sym (ap (λ b. flag_if b (2 ^ k)) (has_is w (2 ^ k) 0 false off refl))
  | inr on ↦ on ∙ sym (ap (λ b. flag_if b (2 ^ k)) (has_is w (2 ^ k) (2 ^ k) true on (ap not (ne_eqb (2 ^ k) 0 (λ e. omega (arith, Rattle.std.proofs.lemmas.Nat.pow_pos k, e))))))
]

no_flags : (w k : ℕ) → has w k ≡ false → bit_and w k ≡ 0
no_flags w k off = eqb-true (bit_and w k) 0 (not-false (eqb (bit_and w k) 0) off)

set_flag : (w k : ℕ) → has w (2 ^ k) ≡ true → bit_and w (2 ^ k) ≡ 2 ^ k
set_flag w k on = flag_is w k ∙ ap (λ b. flag_if b (2 ^ k)) on

pub syn_is : (w : ℕ) → w < 2 ^ 16 → has w 0x0001 ≡ true → has w 0x01FA ≡ false
    → w ≡ bit_and w 0xE600 + (0x0001 + flag_if (has w 0x0004) 0x0004 + flag_if (has w 0x0800) 0x0800 + flag_if (has w 0x1000) 0x1000)
syn_is w fits on off =
    let one : bit_and w 0x0001 ≡ 0x0001 = set_flag w 0 on in
    let none : bit_and w 0x01FA ≡ 0 = no_flags w 0x01FA off in
    let four = flag_is w 2 in
    let correlation = flag_is w 11 in
    let extension = flag_is w 12 in
    sum (bit_and w 0xE600) (bit_and w 0x0001) (bit_and w 0x01FA) (bit_and w 0x0004) (bit_and w 0x0800) (bit_and w 0x1000) (flag_if (has w 0x0004) 0x0004) (flag_if (has w 0x0800) 0x0800) (flag_if (has w 0x1000) 0x1000)
    (sym (whole_word w fits) ∙ and_sum w 0xEFFF 0x1000 refl) (and_sum w 0xE7FF 0x0800 refl) (and_sum w 0xE7FB 0x0004 refl) (and_sum w 0xE601 0x01FA refl) (and_sum w 0xE600 0x0001 refl)
    one none four correlation extension
  where
    sum : (m s o a c e fa fc fe : ℕ) → w ≡ bit_and w 0xEFFF + e → bit_and w 0xEFFF ≡ bit_and w 0xE7FF + c → bit_and w 0xE7FF ≡ bit_and w 0xE7FB + a → bit_and w 0xE7FB ≡ bit_and w 0xE601 + o → bit_and w 0xE601 ≡ m + s
        → s ≡ 1 → o ≡ 0 → a ≡ fa → c ≡ fc → e ≡ fe → w ≡ m + (0x0001 + fa + fc + fe)
    sum m s o a c e fa fc fe h1 h2 h3 h4 h5 h6 h7 h8 h9 h10 = omega arith

told_sum : (w : ℕ) → w < 2 ^ 16 → has w 0x0001 ≡ false → w ≡ bit_and w 0xFEE2 + bit_and w 0x0008 + bit_and w 0x0010 + flag_if (has w 0x0004) 0x0004 + flag_if (has w 0x0100) 0x0100
told_sum w fits off =
    sum (bit_and w 0xFEE2) (bit_and w 0x0001) (bit_and w 0x0008) (bit_and w 0x0010) (bit_and w 0x0004) (bit_and w 0x0100) (flag_if (has w 0x0004) 0x0004) (flag_if (has w 0x0100) 0x0100)
    (sym (whole_word w fits) ∙ and_sum w 0xFEFF 0x0100 refl) (and_sum w 0xFEFB 0x0004 refl) (and_sum w 0xFEEB 0x0010 refl) (and_sum w 0xFEE3 0x0008 refl) (and_sum w 0xFEE2 0x0001 refl)
    (no_flags w 0x0001 off) (flag_is w 2) (flag_is w 8)
  where
    sum : (m s d f v a fv fa : ℕ) → w ≡ bit_and w 0xFEFF + a → bit_and w 0xFEFF ≡ bit_and w 0xFEFB + v → bit_and w 0xFEFB ≡ bit_and w 0xFEEB + f → bit_and w 0xFEEB ≡ bit_and w 0xFEE3 + d → bit_and w 0xFEE3 ≡ m + s
        → s ≡ 0 → v ≡ fv → a ≡ fa → w ≡ m + d + f + fv + fa
    sum m s d f v a fv fa h1 h2 h3 h4 h5 h6 h7 h8 = omega arith

pub data_is : (w : ℕ) → w < 2 ^ 16 → has w 0x0001 ≡ false → has w 0x0008 ≡ true → has w 0x0010 ≡ false
    → w ≡ bit_and w 0xFEE2 + (0x0008 + flag_if (has w 0x0004) 0x0004 + flag_if (has w 0x0100) 0x0100)
data_is w fits syn carried fec =
    sum (bit_and w 0xFEE2) (bit_and w 0x0008) (bit_and w 0x0010) (flag_if (has w 0x0004) 0x0004) (flag_if (has w 0x0100) 0x0100) (told_sum w fits syn) (set_flag w 3 carried) (no_flags w 0x0010 fec)
  where
    sum : (m d f v a : ℕ) → w ≡ m + d + f + v + a → d ≡ 8 → f ≡ 0 → w ≡ m + (0x0008 + v + a)
    sum m d f v a h1 h2 h3 = omega arith

pub fec_is : (w : ℕ) → w < 2 ^ 16 → has w 0x0001 ≡ false → has w 0x0008 ≡ true → has w 0x0010 ≡ true
    → w ≡ bit_and w 0xFEE2 + (0x0018 + flag_if (has w 0x0004) 0x0004 + flag_if (has w 0x0100) 0x0100)
fec_is w fits syn carried fec =
    sum (bit_and w 0xFEE2) (bit_and w 0x0008) (bit_and w 0x0010) (flag_if (has w 0x0004) 0x0004) (flag_if (has w 0x0100) 0x0100) (told_sum w fits syn) (set_flag w 3 carried) (set_flag w 4 fec)
  where
    sum : (m d f v a : ℕ) → w ≡ m + d + f + v + a → d ≡ 8 → f ≡ 16 → w ≡ m + (0x0018 + v + a)
    sum m d f v a h1 h2 h3 = omega arith

pub bare_is : (w : ℕ) → w < 2 ^ 16 → has w 0x0001 ≡ false → has w 0x0008 ≡ false
    → w ≡ bit_and w 0xFEF2 + (flag_if (has w 0x0004) 0x0004 + flag_if (has w 0x0100) 0x0100)
bare_is w fits syn carried =
    sum (bit_and w 0xFEE2) (bit_and w 0xFEF2) (bit_and w 0x0008) (bit_and w 0x0010) (flag_if (has w 0x0004) 0x0004) (flag_if (has w 0x0100) 0x0100) (told_sum w fits syn) (no_flags w 0x0008 carried) (and_sum w 0xFEE2 0x0010 refl)
  where
    sum : (m n d f v a : ℕ) → w ≡ m + d + f + v + a → d ≡ 0 → n ≡ m + f → w ≡ n + (v + a)
    sum m n d f v a h1 h2 h3 = omega arith

-- marks under a mask lie within it
pub under_mask : (w mask : ℕ) → bit_and (bit_and w mask) mask ≡ bit_and w mask
under_mask w mask = Rattle.std.proofs.lemmas.Nat.and_assoc mask w mask ∙ ap (bit_and w) (Rattle.std.specs.Int.Bits.and_self mask)

-- ---- a word is written by joining flags

pub syn_code : (a c e : Bool) → bit_or (bit_or (bit_or 0x0001 (flag_if a 0x0004)) (flag_if c 0x0800)) (flag_if e 0x1000) ≡ 0x0001 + flag_if a 0x0004 + flag_if c 0x0800 + flag_if e 0x1000
syn_code false false false = refl
syn_code false false true = refl
syn_code false true false = refl
syn_code false true true = refl
syn_code true false false = refl
syn_code true false true = refl
syn_code true true false = refl
syn_code true true true = refl

pub told_code : (v a : Bool) → bit_or (flag_if v 0x0004) (flag_if a 0x0100) ≡ flag_if v 0x0004 + flag_if a 0x0100
told_code false false = refl
told_code false true = refl
told_code true false = refl
told_code true true = refl

pub data_code : (v a : Bool) → bit_or 0x0008 (flag_if v 0x0004 + flag_if a 0x0100) ≡ 0x0008 + flag_if v 0x0004 + flag_if a 0x0100
data_code false false = refl
data_code false true = refl
data_code true false = refl
data_code true true = refl

pub fec_code : (v a : Bool) → bit_or (bit_or 0x0008 0x0010) (flag_if v 0x0004 + flag_if a 0x0100) ≡ 0x0018 + flag_if v 0x0004 + flag_if a 0x0100
fec_code false false = refl
fec_code false true = refl
fec_code true false = refl
fec_code true true = refl

pub ruleset codes = (syn_code, data_code, fec_code)

-- the flags that announce a body have no mark among them
pub announced_apart : (body : Body) → bit_and (mark_mask body) (announced body) ≡ 0
announced_apart (SynBody s) = by_flags s.answer (is_some s.correlation) (is_some s.extension)
  where
    by_flags : (a c e : Bool) → bit_and 0xE600 (0x0001 + flag_if a 0x0004 + flag_if c 0x0800 + flag_if e 0x1000) ≡ 0
    by_flags false false false = refl
    by_flags false false true = refl
    by_flags false true false = refl
    by_flags false true true = refl
    by_flags true false false = refl
    by_flags true false true = refl
    by_flags true true false = refl
    by_flags true true true = refl
announced_apart (DataBody vector aoa coded start bytes) = by_flags (is_some vector) (is_some aoa)
  where
    by_flags : (v a : Bool) → bit_and 0xFEE2 (0x0008 + flag_if v 0x0004 + flag_if a 0x0100) ≡ 0
    by_flags false false = refl
    by_flags false true = refl
    by_flags true false = refl
    by_flags true true = refl
announced_apart (FecBody vector aoa coded start range index bytes) = by_flags (is_some vector) (is_some aoa)
  where
    by_flags : (v a : Bool) → bit_and 0xFEE2 (0x0018 + flag_if v 0x0004 + flag_if a 0x0100) ≡ 0
    by_flags false false = refl
    by_flags false true = refl
    by_flags true false = refl
    by_flags true true = refl
announced_apart (BareBody vector aoa rest) = by_flags (is_some vector) (is_some aoa)
  where
    by_flags : (v a : Bool) → bit_and 0xFEF2 (flag_if v 0x0004 + flag_if a 0x0100) ≡ 0
    by_flags false false = refl
    by_flags false true = refl
    by_flags true false = refl
    by_flags true true = refl

-- marks and the flags that announce a body are joined to their sum
pub word_is : (marks : ℕ) (body : Body) → bit_and marks (mark_mask body) ≡ marks → bit_or marks (announced body) ≡ marks + announced body
word_is marks body within = or_disjoint marks (announced body) (apart_from (mark_mask body) (announced body) marks within (announced_apart body))
