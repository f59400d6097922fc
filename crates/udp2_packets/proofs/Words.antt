-- The word of flags: what it shows of the fields that are there, and that it is the sum of what it
-- shows.
use Rattle.std.proofs.Common.{◌≡◌, ℕ, ◌+◌, ◌*◌, ◌%◌, ◌/◌, ◌^◌, ◌<◌, ◌≤◌, ◌⊎◌, inl, inr, Bool, true, false, not, ◌&&◌, eqb, ltb, bit_and, bit_or, cond, refl, sym, ap, ◌∙◌, arith}
use Rattle.std.proofs.Math.Nat.{mod-eq_of_lt}
use Rattle.std.proofs.lemmas.Bool.{and_parts, eqb-true, not-false, ltb-true}
use Rattle.std.proofs.lemmas.Nat.{and_mask}
use Rattle.mt_base.proofs.Masks.{and_sum, flag_or}
use Rattle.udp2_packets.specs.Layout.{has, flag_if, flags_for}

-- ---- what holds of all six answers

abbrev each : (Bool → Bool) → Bool
each f = f true && f false

each_is : (f : Bool → Bool) → each f ≡ true → (b : Bool) → f b ≡ true
each_is f all true = (and_parts (f true) (f false) all).0
each_is f all false = (and_parts (f true) (f false) all).1

abbrev every : (Bool → Bool → Bool → Bool → Bool → Bool → Bool) → Bool
every f = each (λ a. each (λ n. each (λ v. each (λ o. each (λ h. each (λ d. f a n v o h d))))))

every_is : (f : Bool → Bool → Bool → Bool → Bool → Bool → Bool) → every f ≡ true → (a n v o h d : Bool) → f a n v o h d ≡ true
every_is f all a n v o h d =
    each_is (λ d. f a n v o h d) (each_is (λ h. each (λ d. f a n v o h d)) (each_is (λ o. each (λ h. each (λ d. f a n v o h d))) (each_is (λ v. each (λ o. each (λ h. each (λ d. f a n v o h d))))
    (each_is (λ n. each (λ v. each (λ o. each (λ h. each (λ d. f a n v o h d))))) (each_is (λ a. each (λ n. each (λ v. each (λ o. each (λ h. each (λ d. f a n v o h d)))))) all a) n) v) o) h) d

abbrev same : Bool → Bool → Bool
same true b = b
same false b = not b

same_is : (a b : Bool) → same a b ≡ true → a ≡ b
same_is true b e = sym e
same_is false b e = sym (not-true-is b e)
  where
    not-true-is : (b : Bool) → not b ≡ true → b ≡ false
    not-true-is true e = cc
    not-true-is false e = refl

-- the word of these fields shows that they are there, and nothing else
pub record Shows (a n v o h d : Bool) (w : ℕ) : Type 0 where
  pub ack : has w 0x001 ≡ a
  pub number : has w 0x004 ≡ n
  pub vector : has w 0x008 ≡ v
  pub aoa : has w 0x010 ≡ o
  pub overhead : has w 0x040 ≡ h
  pub delay : has w 0x100 ≡ d
  pub unknown : has w 0xEA2 ≡ false
  pub small : w < 4096

pub shows : (a n v o h d : Bool) → Shows a n v o h d (flags_for a n v o h d)
shows a n v o h d = record {
  ack = same_is _ a (every_is (λ a n v o h d. same (has (flags_for a n v o h d) 0x001) a) refl a n v o h d);
  number = same_is _ n (every_is (λ a n v o h d. same (has (flags_for a n v o h d) 0x004) n) refl a n v o h d);
  vector = same_is _ v (every_is (λ a n v o h d. same (has (flags_for a n v o h d) 0x008) v) refl a n v o h d);
  aoa = same_is _ o (every_is (λ a n v o h d. same (has (flags_for a n v o h d) 0x010) o) refl a n v o h d);
  overhead = same_is _ h (every_is (λ a n v o h d. same (has (flags_for a n v o h d) 0x040) h) refl a n v o h d);
  delay = same_is _ d (every_is (λ a n v o h d. same (has (flags_for a n v o h d) 0x100) d) refl a n v o h d);
  unknown = same_is _ false (every_is (λ a n v o h d. same (has (flags_for a n v o h d) 0xEA2) false) refl a n v o h d);
  small = ltb-true (flags_for a n v o h d) 4096 (every_is (λ a n v o h d. ltb (flags_for a n v o h d) 4096) refl a n v o h d);
}

-- ---- a word is what it shows

flag_is : (w k : ℕ) (m : ℕ) → m ≡ 2 ^ k → 0 < m → bit_and w m ≡ flag_if (has w m) m
flag_is w k m is positive = elim (flag_at w k m is) [
  | inl off ↦ off ∙ sym (ap (λ b. flag_if (not b) m) (ap (λ x. eqb x 0) off))
  | inr on ↦ on ∙ sym (ap (λ b. flag_if (not b) m) (ap (λ x. eqb x 0) on ∙ Rattle.std.proofs.lemmas.Bool.ne_eqb m 0 (λ e. omega arith)))
]
  where
    flag_at : (w k m : ℕ) → m ≡ 2 ^ k → (bit_and w m ≡ 0) ⊎ (bit_and w m ≡ m)
    flag_at w k m is = Rattle.std.proofs.Common.subst (λ n. (bit_and w n ≡ 0) ⊎ (bit_and w n ≡ n)) (sym is) (flag_or w k)

-- a word of known flags
pub word_is : (w : ℕ) → w < 4096 → has w 0xEA2 ≡ false
    → flags_for (has w 0x001) (has w 0x004) (has w 0x008) (has w 0x010) (has w 0x040) (has w 0x100) ≡ w
word_is w small known =
    sum (bit_and w 0xEA2) (bit_and w 0x001) (bit_and w 0x004) (bit_and w 0x008) (bit_and w 0x010) (bit_and w 0x040) (bit_and w 0x100)
    (flag_if (has w 0x001) 0x001) (flag_if (has w 0x004) 0x004) (flag_if (has w 0x008) 0x008) (flag_if (has w 0x010) 0x010) (flag_if (has w 0x040) 0x040) (flag_if (has w 0x100) 0x100)
    (sym (and_mask w 12 ∙ mod-eq_of_lt small) ∙ and_sum w 0xEFF 0x100 refl) (and_sum w 0xEBF 0x040 refl) (and_sum w 0xEAF 0x010 refl) (and_sum w 0xEA7 0x008 refl) (and_sum w 0xEA3 0x004 refl) (and_sum w 0xEA2 0x001 refl)
    (eqb-true (bit_and w 0xEA2) 0 (not-false (eqb (bit_and w 0xEA2) 0) known))
    (flag_is w 0 1 refl (omega arith)) (flag_is w 2 4 refl (omega arith)) (flag_is w 3 8 refl (omega arith)) (flag_is w 4 16 refl (omega arith)) (flag_is w 6 64 refl (omega arith)) (flag_is w 8 256 refl (omega arith))
  where
    sum : (u a n v o h d fa fn fv fo fh fd : ℕ) → w ≡ bit_and w 0xEFF + d → bit_and w 0xEFF ≡ bit_and w 0xEBF + h → bit_and w 0xEBF ≡ bit_and w 0xEAF + o → bit_and w 0xEAF ≡ bit_and w 0xEA7 + v → bit_and w 0xEA7 ≡ bit_and w 0xEA3 + n → bit_and w 0xEA3 ≡ u + a
        → u ≡ 0 → a ≡ fa → n ≡ fn → v ≡ fv → o ≡ fo → h ≡ fh → d ≡ fd → fa + fn + fv + fo + fh + fd ≡ w
    sum u a n v o h d fa fn fv fo fh fd h1 h2 h3 h4 h5 h6 hu ha hn hv ho hh hd = omega arith
