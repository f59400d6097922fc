-- Lemmas on the coded bytes that are written for flags.
use Rattle.std.proofs.Common.{◌≡◌, ℕ, zero, suc, ◌+◌, ◌-◌, ◌*◌, ◌/◌, ◌%◌, ◌^◌, ◌==◌, ◌<◌, ◌≤◌, ◌||◌, ◌⊎◌, inl, inr, Bool, true, false, cond, eqb, ltb, leb, List, [], ◌∷◌, ◌++◌, length, take, drop, replicate, refl, sym, ap, ◌∙◌, subst, arith, lit<, lit≤}
use Rattle.std.proofs.lemmas.List.{length-replicate, length-take, length-drop, take-append-drop, take-replicate, take-take}
use Rattle.std.proofs.lemmas.Bool.{cases_lt}
use Rattle.std.proofs.Math.Nat.{pow-suc}
use Rattle.std.proofs.lemmas.Bool.Decides.{nat_tests}
use Rattle.mt_base.proofs.Stretches.{stretch_some, stretch_equal, stretch_greatest, longest_is, longest_one, first_is}
use Rattle.coded_vector.specs.CodedBytes.{bits, flags_in, flags_of}
use Rattle.mt_base.specs.Longest.{longest}
use Rattle.coded_vector.specs.Written.{run_byte, bits_byte, takes_run, next_count, next_byte, coded_within, coded_of, IsRun, IsSeven, HoldPieces}
use Rattle.coded_vector.proofs.FlagLemmas.{flags_in_low, flags_in_high}

cond_some : (b : Bool) (n : ℕ) → 0 < n → 0 < cond b n 7
cond_some true n h = h
cond_some false n h = lit< tt

-- the next byte holds some flags
pub next_count_some : (f : Bool) (fs : List Bool) → 0 < next_count f (f ∷ fs)
next_count_some f fs =
    cond_some (takes_run (longest f (f ∷ fs)) (length (f ∷ fs))) (longest f (f ∷ fs))
    (stretch_some 63 f fs (lit< tt))

-- how many flags may be left makes no difference
within_enough : (j k : ℕ) (fs : List Bool) → length fs ≤ j → length fs ≤ k
    → coded_within j fs ≡ coded_within k fs
within_enough zero zero fs h i = refl
within_enough zero (suc k) [] h i = refl
within_enough zero (suc k) (f ∷ fs) h i = absurd (omega arith)
within_enough (suc j) zero [] h i = refl
within_enough (suc j) zero (f ∷ fs) h i = absurd (omega arith)
within_enough (suc j) (suc k) [] h i = refl
within_enough (suc j) (suc k) (f ∷ fs) h i =
    let n = next_count f (f ∷ fs) in
    let some = next_count_some f fs in
    let long = length-drop n (f ∷ fs) in
    ap (λ cs. next_byte f (f ∷ fs) ∷ cs) (within_enough j k (drop n (f ∷ fs)) (omega arith)
    (omega arith))

-- the first byte of what is written, and the others
pub coded_of-cons : (f : Bool) (fs : List Bool)
    → coded_of (f ∷ fs) ≡ next_byte f (f ∷ fs) ∷ coded_of (drop (next_count f (f ∷ fs)) (f ∷ fs))
unfolding coded_of
coded_of-cons f fs =
    let n = next_count f (f ∷ fs) in
    let some = next_count_some f fs in
    let rest = drop n (f ∷ fs) in
    let long = length-drop n (f ∷ fs) in
    ap (λ cs. next_byte f (f ∷ fs) ∷ cs) (within_enough (length fs) (length rest) rest
    (omega arith) (omega arith))

pub coded_of-nil : coded_of [] ≡ []
unfolding coded_of
coded_of-nil = refl

-- when a run is written
abbrev pub Chosen : ℕ → ℕ → Type 0
Chosen n left = (7 ≤ n) ⊎ ((n ≡ left) ⊎ (left < 7))

chosen_by : (n left : ℕ) (a b c : Bool) → leb 7 n ≡ a → eqb n left ≡ b → ltb left 7 ≡ c
    → (a || b || c) ≡ true → Chosen n left
chosen_by n left true b c h i j e = inl (grind (arith, nat_tests))
chosen_by n left false true c h i j e = inr (inl (grind (arith, nat_tests)))
chosen_by n left false false true h i j e = inr (inr (grind (arith, nat_tests)))
chosen_by n left false false false h i j e = absurd (cc)

takes_chosen : (n left : ℕ) → takes_run n left ≡ true → Chosen n left
takes_chosen n left e = chosen_by n left (leb 7 n) (eqb n left) (ltb left 7) refl refl refl e

not_taken : (n left : ℕ) → takes_run n left ≡ false → (n < 7) × (7 ≤ left)
not_taken n left e = (grind (arith, nat_tests), grind (arith, nat_tests))

pub chosen_takes : (n left : ℕ) → Chosen n left → takes_run n left ≡ true
chosen_takes n left (inl h) = grind (arith, nat_tests)
chosen_takes n left (inr (inl h)) = grind (arith, nat_tests)
chosen_takes n left (inr (inr h)) = grind (arith, nat_tests)

seven_takes : (n left : ℕ) → n < 7 → 7 ≤ left → takes_run n left ≡ false
seven_takes n left h i = grind (arith, nat_tests)

-- what is written next holds the flags as the rule says
piece_by : (t : Bool) (f : Bool) (fs : List Bool)
    → takes_run (longest f (f ∷ fs)) (length (f ∷ fs)) ≡ t →
    IsRun (cond t (run_byte f (longest f (f ∷ fs))) (bits_byte (take 7 (f ∷ fs))))
    (cond t (longest f (f ∷ fs)) 7) (f ∷ fs)
    ⊎ IsSeven (cond t (run_byte f (longest f (f ∷ fs))) (bits_byte (take 7 (f ∷ fs))))
    (cond t (longest f (f ∷ fs)) 7) (f ∷ fs)
piece_by true f fs e = inl (record {
  received = f;
  byte_is = refl;
  some = stretch_some 63 f fs (lit< tt);
  longest = longest_is f (f ∷ fs);
  chosen = takes_chosen (longest f (f ∷ fs)) (length (f ∷ fs)) e;
})
piece_by false f fs e =
    let few = not_taken (longest f (f ∷ fs)) (length (f ∷ fs)) e in
    inr (record {
      seven = refl;
      enough = few.1;
      unequal = λ b equal.
          let first = first_is b 7 (f ∷ fs) (lit< tt) equal in
          let same : f ≡ b = cc in
          let most = stretch_greatest 63 7 f (f ∷ fs) (lit≤ tt)
          (subst (λ x. take 7 (f ∷ fs) ≡ replicate 7 x) (sym same) equal) in
          omega (arith, most, few.0);
      byte_is = refl;
    })

holds_within : (k : ℕ) (fs : List Bool) → length fs ≤ k → HoldPieces (coded_of fs) fs
holds_within k [] h = let none = coded_of-nil in rw none refl
holds_within zero (f ∷ fs) h = absurd (omega arith)
holds_within (suc k) (f ∷ fs) h =
    let n = next_count f (f ∷ fs) in
    let some = next_count_some f fs in
    let long = length-drop n (f ∷ fs) in
    let first = coded_of-cons f fs in
    let rest = holds_within k (drop n (f ∷ fs)) (omega arith) in
    rw first (n, piece_by (takes_run (longest f (f ∷ fs)) (length (f ∷ fs))) f fs refl, rest)

pub holds : (fs : List Bool) → HoldPieces (coded_of fs) fs
holds fs = holds_within (length fs) fs (omega arith)

-- a byte that holds the flags as the rule says is the next one
record IsNext (c n : ℕ) (fs : List Bool) : Type 0 where
  first : Bool
  others : List Bool
  fs_are : fs ≡ first ∷ others
  byte_is : c ≡ next_byte first fs
  count_is : n ≡ next_count first fs

run_next : (c n : ℕ) (fs : List Bool) → IsRun c n fs → IsNext c n fs
run_next c n fs run =
    let b = run.received in
    let cons = first_is b n fs run.some run.longest.equal in
    let long = longest_one b n fs run.longest in
    let takes : takes_run (longest b fs) (length fs) ≡ true =
    subst (λ k. takes_run k (length fs) ≡ true) long
    (chosen_takes n (length fs) run.chosen) in
    record {
      first = b;
      others = cons.0;
      fs_are = cons.1;
      byte_is = run.byte_is ∙ ap (run_byte b) long
          ∙ sym (ap (λ t. cond t (run_byte b (longest b fs)) (bits_byte (take 7 fs))) takes);
      count_is = long ∙ sym (ap (λ t. cond t (longest b fs) 7) takes);
    }

some_first : (fs : List Bool) → 0 < length fs → (f : Bool) × (rest : List Bool) × (fs ≡ f ∷ rest)
some_first [] h = absurd (omega arith)
some_first (f ∷ fs) h = (f, fs, refl)

-- a stretch of seven or more has seven equal flags
seven_equal : (b : Bool) (n : ℕ) (fs : List Bool) → 7 ≤ n → take n fs ≡ replicate n b
    → take 7 fs ≡ replicate 7 b
seven_equal b n fs h e =
    let seven : take 7 (take n fs) ≡ take 7 fs = take-take 7 n fs h in
    sym seven ∙ ap (take 7) e ∙ take-replicate 7 n b h

seven_next : (c n : ℕ) (fs : List Bool) → IsSeven c n fs → IsNext c n fs
seven_next c n fs seven =
    let cons = some_first fs (omega (arith, seven.enough)) in
    let b = cons.0 in
    let is = longest_is b fs in
    let short : longest b fs < 7 = below_seven b fs seven.unequal in
    let takes = seven_takes (longest b fs) (length fs) short seven.enough in
    record {
      first = b;
      others = cons.1;
      fs_are = cons.2;
      byte_is = seven.byte_is ∙ sym (ap (λ t. cond t (run_byte b (longest b fs))
          (bits_byte (take 7 fs))) takes);
      count_is = seven.seven ∙ sym (ap (λ t. cond t (longest b fs) 7) takes);
    }
  where
    below_seven : (b : Bool) (fs : List Bool)
        → ((received : Bool) → ¬ (take 7 fs ≡ replicate 7 received)) → longest b fs < 7
    below_seven b fs unequal = elim (cases_lt (longest b fs) 7) [
      | inl h ↦ h
      | inr h ↦ absurd (unequal b (seven_equal b (longest b fs) fs h (stretch_equal 63 b fs)))
    ]

next_of : (c n : ℕ) (fs : List Bool) → IsRun c n fs ⊎ IsSeven c n fs → IsNext c n fs
next_of c n fs (inl run) = run_next c n fs run
next_of c n fs (inr seven) = seven_next c n fs seven

-- no other bytes hold the flags as the rule says
pub holds_one : (cs : List ℕ) (fs : List Bool) → HoldPieces cs fs → cs ≡ coded_of fs
holds_one [] fs none = sym (ap coded_of none ∙ coded_of-nil)
holds_one (c ∷ cs) fs h =
    let n = h.0 in
    let next = next_of c n fs h.1 in
    let f = next.first in
    let rest = holds_one cs (drop n fs) h.2 in
    let a : c ∷ cs ≡ next_byte f fs ∷ coded_of (drop (next_count f fs) fs) =
    cc (next.byte_is, rest, ap (λ k. coded_of (drop k fs)) next.count_is) in
    a ∙ ap (λ x. next_byte f x ∷ coded_of (drop (next_count f x) x)) next.fs_are
    ∙ sym (coded_of-cons f next.others) ∙ ap coded_of (sym next.fs_are)

-- the flags of a run's byte
pub run_flags : (b : Bool) (n : ℕ) → n ≤ 63 → flags_in (run_byte b n) ≡ replicate n b
run_flags true n h =
    let state : (192 + n) / 64 ≡ 3 = omega arith in
    let count : (192 + n) % 64 ≡ n = omega arith in
    flags_in_high (192 + n) (omega arith) ∙ ap (λ x. replicate ((192 + n) % 64) (x == 3)) state
    ∙ ap (λ x. replicate x true) count
run_flags false n h =
    let state : (128 + n) / 64 ≡ 2 = omega arith in
    let count : (128 + n) % 64 ≡ n = omega arith in
    flags_in_high (128 + n) (omega arith) ∙ ap (λ x. replicate ((128 + n) % 64) (x == 3)) state
    ∙ ap (λ x. replicate x false) count

-- the bits of a byte that was made of them
bits-bits_byte : (fs : List Bool) → bits (length fs) (bits_byte fs) ≡ fs
bits-bits_byte [] = refl
bits-bits_byte (true ∷ fs) =
    let m = bits_byte fs in
    let low : (1 + 2 * m) % 2 ≡ 1 = omega arith in
    let high : (1 + 2 * m) / 2 ≡ m = omega arith in
    ap (λ x. (x == 1) ∷ bits (length fs) ((1 + 2 * m) / 2)) low
    ∙ ap (λ x. true ∷ bits (length fs) x) high ∙ ap (λ t. true ∷ t) (bits-bits_byte fs)
bits-bits_byte (false ∷ fs) =
    let m = bits_byte fs in
    let low : (0 + 2 * m) % 2 ≡ 0 = omega arith in
    let high : (0 + 2 * m) / 2 ≡ m = omega arith in
    ap (λ x. (x == 1) ∷ bits (length fs) ((0 + 2 * m) / 2)) low
    ∙ ap (λ x. false ∷ bits (length fs) x) high ∙ ap (λ t. false ∷ t) (bits-bits_byte fs)

pub bits_byte_small : (fs : List Bool) → bits_byte fs < 2 ^ length fs
bits_byte_small [] = lit< tt
bits_byte_small (true ∷ fs) = omega (arith, bits_byte_small fs, pow-suc 2 (length fs))
bits_byte_small (false ∷ fs) = omega (arith, bits_byte_small fs, pow-suc 2 (length fs))

-- the flags of a byte of seven
seven_flags : (fs : List Bool) → length fs ≡ 7 → flags_in (bits_byte fs) ≡ fs
seven_flags fs long =
    let small : bits_byte fs < 128 = subst (λ n. bits_byte fs < 2 ^ n) long
    (bits_byte_small fs) in
    flags_in_low (bits_byte fs) small ∙ ap (λ n. bits n (bits_byte fs)) (sym long)
    ∙ bits-bits_byte fs

-- a byte spells the flags that it holds
piece_flags : (c n : ℕ) (fs : List Bool) → IsRun c n fs ⊎ IsSeven c n fs → flags_in c ≡ take n fs
piece_flags c n fs (inl run) =
    ap flags_in run.byte_is ∙ run_flags run.received n run.longest.short ∙ sym run.longest.equal
piece_flags c n fs (inr seven) =
    let long : length (take 7 fs) ≡ 7 = omega (arith, length-take 7 fs, seven.enough) in
    ap flags_in seven.byte_is ∙ seven_flags (take 7 fs) long
    ∙ ap (λ k. take k fs) (sym seven.seven)

pub holds_flags : (cs : List ℕ) (fs : List Bool) → HoldPieces cs fs → flags_of cs ≡ fs
holds_flags [] fs h = sym h
holds_flags (c ∷ cs) fs h =
    let n = h.0 in
    ap (λ x. x ++ flags_of cs) (piece_flags c n fs h.1)
    ∙ ap (λ x. take n fs ++ x) (holds_flags cs (drop n fs) h.2) ∙ take-append-drop n fs

-- a byte holds some flags, and seven unless fewer than seven are left
record IsEnough (n : ℕ) (fs : List Bool) : Type 0 where
  some : 0 < n
  within : n ≤ length fs
  seven : (7 ≤ n) ⊎ (length fs < 7)

enough_of : (c n : ℕ) (fs : List Bool) → IsRun c n fs ⊎ IsSeven c n fs → IsEnough n fs
enough_of c n fs (inl run) =
    let within : n ≤ length fs = omega (
      arith,
      ap length run.longest.equal,
      length-take n fs,
      length-replicate n run.received,
    ) in
    record { some = run.some; within = within; seven = seven_or n (length fs) run.chosen }
  where
    seven_or : (n left : ℕ) → Chosen n left → (7 ≤ n) ⊎ (left < 7)
    seven_or n left (inl h) = inl h
    seven_or n left (inr (inl h)) = elim (cases_lt left 7)
        [ inl i ↦ inr i | inr i ↦ inl (omega arith) ]
    seven_or n left (inr (inr h)) = inr h
enough_of c n fs (inr seven) = record {
  some = omega (arith, seven.seven);
  within = omega (arith, seven.seven, seven.enough);
  seven = inl (omega (arith, seven.seven));
}

-- how many bytes there are
pub holds_length : (cs : List ℕ) (fs : List Bool) → HoldPieces cs fs
    → (length cs ≤ length fs) × (7 * length cs ≤ length fs + 36)
holds_length [] fs h = (omega arith, omega arith)
holds_length (c ∷ cs) fs h =
    let n = h.0 in
    let rest = holds_length cs (drop n fs) h.2 in
    let enough = enough_of c n fs h.1 in
    count_more (length cs) n (length fs) (length (drop n fs)) (length-drop n fs) enough.some
    enough.within enough.seven rest.0 rest.1
  where
    count_more : (m n left behind : ℕ) → behind ≡ left - n → 0 < n → n ≤ left
        → (7 ≤ n) ⊎ (left < 7) → m ≤ behind → 7 * m ≤ behind + 36
        → (suc m ≤ left) × (7 * suc m ≤ left + 36)
    count_more m n left behind is some within (inl h) few short = (omega arith, omega arith)
    count_more m n left behind is some within (inr h) few short = (omega arith, omega arith)
