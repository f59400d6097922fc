-- Numbers that flags and acknowledgements tell, where numbers go round.
use Rattle.std.proofs.Common.{◌≡◌, ℕ, zero, suc, ◌<◌, ◌≤◌, ◌+◌, ◌-◌, ◌*◌, ◌/◌, ◌%◌, ◌^◌, ◌==◌, inl, inr, Bool, true, List, [], ◌∷◌, ◌++◌, length, replicate, slice_get, nat_eq, IsFalse, Some, refl, sym, ap, subst, ◌∙◌, append_assoc, append-nil, length-append, arith}
use Rattle.std.proofs.lemmas.Bool.{cases_order, eqb-true, eq-eqb}
use Rattle.std.proofs.lemmas.List.{length-replicate}
use Rattle.std.proofs.lemmas.List.Concat.{flat_map-append}
use Rattle.std.proofs.lemmas.Option.{slice_get_within}
use Rattle.mt_base.proofs.Lists.{slice_get-append-left, slice_get-append-right, slice_get-replicate}
use Rattle.ack_vector.specs.Elements.{run_of, flags_in, flags_of}
use Rattle.ack_vector.proofs.FlagLemmas.{length-flags_of}
use Rattle.capture_check.specs.Arrivals.{has}
use Rattle.capture_check.specs.Tellings.{IsFlaggedUpTo, IsFlaggedFrom, IsAcked}

-- ---- flags at places

pub flag_at : (flags front back : List Bool) → flags ≡ front ++ true ∷ back → slice_get flags (length front) ≡ Some true
flag_at flags front back parts =
    let none : length front - length front ≡ 0 = omega arith in
    ap (λ l. slice_get l (length front)) parts ∙ slice_get-append-right front (true ∷ back) (length front) (omega arith) ∙ ap (slice_get (true ∷ back)) none

-- what stands before a flag and behind it
pub record Around (flags : List Bool) (place : ℕ) : Type 0 where
  pub front : List Bool
  pub back : List Bool
  pub parts : flags ≡ front ++ true ∷ back
  pub place_is : length front ≡ place

pub around : (flags : List Bool) (place : ℕ) → slice_get flags place ≡ Some true → Around flags place
around [] place at = absurd (cc)
around (f ∷ flags) zero at =
    let is : f ≡ true = cc in
    record { front = []; back = flags; parts = ap (λ b. b ∷ flags) is; place_is = refl }
around (f ∷ flags) (suc place) at =
    let a = around flags place at in
    record { front = f ∷ a.front; back = a.back; parts = ap (λ l. f ∷ l) a.parts; place_is = ap suc a.place_is }

around_long : (flags : List Bool) (place : ℕ) (a : Around flags place) → length flags ≡ length a.front + length (true ∷ a.back)
around_long flags place a = ap length a.parts ∙ length-append a.front (true ∷ a.back)

-- ---- numbers that go round

wraps : (x behind last : ℕ) → x + behind ≡ 2 ^ 32 + last → last < 2 ^ 32 → behind < 2 ^ 32 → (x % 2 ^ 32 + behind) % 2 ^ 32 ≡ last
wraps x behind last sum low few = omega arith

unwraps : (x n behind last : ℕ) → x + behind ≡ 2 ^ 32 + last → n < 2 ^ 32 → last < 2 ^ 32 → behind < 2 ^ 32 → (n + behind) % 2 ^ 32 ≡ last → x % 2 ^ 32 ≡ n
unwraps x n behind last sum fits low few is = omega arith

wraps16 : (x behind last : ℕ) → x + behind ≡ 2 ^ 16 + last → last < 2 ^ 16 → behind < 2 ^ 16 → (x % 2 ^ 16 + behind) % 2 ^ 16 ≡ last
wraps16 x behind last sum low few = omega arith

unwraps16 : (x n behind last : ℕ) → x + behind ≡ 2 ^ 16 + last → n < 2 ^ 16 → last < 2 ^ 16 → behind < 2 ^ 16 → (n + behind) % 2 ^ 16 ≡ last → x % 2 ^ 16 ≡ n
unwraps16 x n behind last sum fits low few is = omega arith

below_round : (x : ℕ) → x % 2 ^ 32 < 2 ^ 32
below_round x = omega arith

below_round16 : (x : ℕ) → x % 2 ^ 16 < 2 ^ 16
below_round16 x = omega arith

-- ---- an acknowledgement

pub acked_kept : (came : List ℕ) (number delayed first : ℕ) → number < 2 ^ 16 → delayed < 16 → first + delayed ≡ 2 ^ 16 + number
    → ((ahead : ℕ) → ahead < delayed + 1 → has came ((first + ahead) % 2 ^ 16) ≡ true) → (n : ℕ) → IsAcked number delayed n → has came n ≡ true
acked_kept came number delayed first low few sum all n a =
    let same = unwraps16 (first + (delayed - a.before)) n a.before number (omega (arith, a.few)) a.fits low (omega (arith, a.few)) a.number_is in
    subst (λ m. has came m ≡ true) same (all (delayed - a.before) (omega (arith, a.few)))

pub acked_at : (number delayed first ahead : ℕ) → number < 2 ^ 16 → delayed < 16 → first + delayed ≡ 2 ^ 16 + number → ahead < delayed + 1 → IsAcked number delayed ((first + ahead) % 2 ^ 16)
acked_at number delayed first ahead low few sum less =
    record {
      before = delayed - ahead;
      few = omega arith;
      fits = below_round16 (first + ahead);
      number_is = wraps16 (first + ahead) (delayed - ahead) number (omega arith) low (omega arith);
    }

-- the number before SeqNum 0
pub delayed_zero : (number delayed : ℕ) → number ≡ 0 → 0 < delayed → IsAcked number delayed (2 ^ 16 - 1)
delayed_zero number delayed is_zero some = record { before = 1; few = omega arith; fits = omega arith; number_is = omega arith }

-- ---- a vector up to a number, from its end

-- The elements behind those that are left tell numbers from `first` on, one round further, which
-- all came.
pub record ToldBack (elements : List ℕ) (last : ℕ) (came rest : List ℕ) (first : ℕ) : Type 0 where
  pub done : List ℕ
  pub parts : elements ≡ rest ++ done
  pub sum : first + length (flags_of done) ≡ 2 ^ 32 + last + 1
  pub all : (k : ℕ) → slice_get (flags_of done) k ≡ Some true → has came ((first + k) % 2 ^ 32) ≡ true

pub nothing_told : (elements : List ℕ) (last : ℕ) (came : List ℕ) (first : ℕ) → first ≡ 2 ^ 32 + last + 1 → ToldBack elements last came elements first
nothing_told elements last came first is =
    record { done = []; parts = sym (append-nil elements); sum = omega (arith, is); all = λ k at. absurd (cc) }

module _ (elements : List ℕ) (last : ℕ) (came rest before : List ℕ) (first e : ℕ) (last_one : rest ≡ before ++ e ∷ []) (few : length elements ≤ 2048) (t : ToldBack elements last came rest first) where
  whole : elements ≡ before ++ e ∷ t.done
  whole = t.parts ∙ ap (λ l. l ++ t.done) last_one ∙ append_assoc before (e ∷ []) t.done

  flags_whole : flags_of elements ≡ flags_of before ++ (replicate (e % 64) (e / 64 == 0) ++ flags_of t.done)
  flags_whole = ap flags_of whole ∙ flat_map-append (λ x. flags_in (run_of x)) before (e ∷ t.done)

  long : length (flags_of elements) ≡ length (flags_of before) + (e % 64 + length (flags_of t.done))
  long =
      let run = length-replicate (e % 64) (e / 64 == 0) in
      let parts = length-append (flags_of before) (replicate (e % 64) (e / 64 == 0) ++ flags_of t.done) in
      let rest_parts = length-append (replicate (e % 64) (e / 64 == 0)) (flags_of t.done) in
      ap length flags_whole ∙ omega arith

  all_few : length (flags_of elements) ≤ 63 * 2048
  all_few = omega (arith, length-flags_of elements)

  pub room : e % 64 ≤ first
  room = omega (arith, long, all_few, t.sum)

  pub step_back : (next : ℕ) → next + e % 64 ≡ first → (e / 64 ≡ 0 → (k : ℕ) → k < e % 64 → has came ((next + k) % 2 ^ 32) ≡ true) → ToldBack elements last came before next
  step_back next is run =
      record {
        done = e ∷ t.done;
        parts = whole;
        sum =
            let one = length-append (replicate (e % 64) (e / 64 == 0)) (flags_of t.done) in
            let run_long = length-replicate (e % 64) (e / 64 == 0) in
            let s = t.sum in
            omega arith;
        all = told;
      }
    where
      run_long : length (replicate (e % 64) (e / 64 == 0)) ≡ e % 64
      run_long = length-replicate (e % 64) (e / 64 == 0)

      in_run : (k : ℕ) → k < e % 64 → slice_get (flags_of (e ∷ t.done)) k ≡ Some true → has came ((next + k) % 2 ^ 32) ≡ true
      in_run k less at =
          let here = slice_get-append-left (replicate (e % 64) (e / 64 == 0)) (flags_of t.done) k (omega (arith, run_long)) ∙ slice_get-replicate (e % 64) (e / 64 == 0) k less in
          let yes : (e / 64 == 0) ≡ true = (let joined = sym here ∙ at in cc) in
          run (eqb-true (e / 64) 0 yes) k less

      behind : (k : ℕ) → e % 64 ≤ k → slice_get (flags_of (e ∷ t.done)) k ≡ Some true → has came ((next + k) % 2 ^ 32) ≡ true
      behind k more at =
          let there = slice_get-append-right (replicate (e % 64) (e / 64 == 0)) (flags_of t.done) k (omega (arith, run_long)) ∙ ap (λ n. slice_get (flags_of t.done) (k - n)) run_long in
          let same : first + (k - e % 64) ≡ next + k = omega arith in
          subst (λ n. has came (n % 2 ^ 32) ≡ true) same (t.all (k - e % 64) (sym there ∙ at))

      told : (k : ℕ) → slice_get (flags_of (e ∷ t.done)) k ≡ Some true → has came ((next + k) % 2 ^ 32) ≡ true
      told k at =
          elim (cases_order k (e % 64)) [
            | inl same ↦ behind k (omega arith) at
            | inr (inl less) ↦ in_run k less at
            | inr (inr more) ↦ behind k (omega arith) at
          ]

  pub flagged_at : (next ahead : ℕ) → last < 2 ^ 32 → next + e % 64 ≡ first → e / 64 ≡ 0 → ahead < e % 64 → IsFlaggedUpTo last (flags_of elements) ((next + ahead) % 2 ^ 32)
  flagged_at next ahead low is received less =
      let run_long = length-replicate (e % 64) (e / 64 == 0) in
      let front = flags_of before in
      let place : length front + ahead - length front ≡ ahead = omega arith in
      let yes : (e / 64 == 0) ≡ true = eq-eqb (e / 64) 0 received in
      let at : slice_get (flags_of elements) (length front + ahead) ≡ Some true =
      ap (λ l. slice_get l (length front + ahead)) flags_whole
      ∙ slice_get-append-right front (replicate (e % 64) (e / 64 == 0) ++ flags_of t.done) (length front + ahead) (omega arith)
      ∙ ap (slice_get (replicate (e % 64) (e / 64 == 0) ++ flags_of t.done)) place
      ∙ slice_get-append-left (replicate (e % 64) (e / 64 == 0)) (flags_of t.done) ahead (omega (arith, run_long))
      ∙ slice_get-replicate (e % 64) (e / 64 == 0) ahead less ∙ ap Some yes in
      let a = around (flags_of elements) (length front + ahead) at in
      let sides = around_long (flags_of elements) (length front + ahead) a in
      record {
        front = a.front;
        back = a.back;
        parts = a.parts;
        fits = below_round (next + ahead);
        number_is = wraps (next + ahead) (length a.back) last (omega (arith, sides, a.place_is, long, t.sum)) low (omega (arith, sides, all_few));
      }

no_elements : (xs : List ℕ) → length xs ≡ 0 → xs ≡ []
no_elements [] none = refl
no_elements (x ∷ xs) none = absurd (omega arith)

pub all_told : (elements : List ℕ) (last : ℕ) (came rest : List ℕ) (first : ℕ) → last < 2 ^ 32 → length elements ≤ 2048 → length rest ≡ 0 → ToldBack elements last came rest first
    → (n : ℕ) → IsFlaggedUpTo last (flags_of elements) n → has came n ≡ true
all_told elements last came rest first low few none t n f =
    let whole : elements ≡ t.done = t.parts ∙ ap (λ l. l ++ t.done) (no_elements rest none) in
    let sides = ap length f.parts ∙ length-append f.front (true ∷ f.back) in
    let same_long = ap (λ l. length (flags_of l)) whole in
    let at = ap (λ l. slice_get (flags_of l) (length f.front)) (sym whole) ∙ flag_at (flags_of elements) f.front f.back f.parts in
    let same = unwraps (first + length f.front) n (length f.back) last (omega (arith, sides, same_long, t.sum)) f.fits low (omega (arith, sides, length-flags_of elements)) f.number_is in
    subst (λ m. has came m ≡ true) same (t.all (length f.front) at)

-- ---- a vector from a number on

pub flagged_kept : (came : List ℕ) (base count : ℕ) (flags : List Bool) → length flags ≤ count → ((k : ℕ) → k < count → slice_get flags k ≡ Some true → has came ((base + k) % 2 ^ 16) ≡ true)
    → (n : ℕ) → IsFlaggedFrom base flags n → has came n ≡ true
flagged_kept came base count flags whole all n f =
    let at = flag_at flags f.front f.back f.parts in
    subst (λ m. has came m ≡ true) (sym f.number_is) (all (length f.front) (omega (arith, slice_get_within flags (length f.front) true at)) at)

pub flagged_from : (base place : ℕ) (flags : List Bool) → slice_get flags place ≡ Some true → IsFlaggedFrom base flags ((base + place) % 2 ^ 16)
flagged_from base place flags at =
    let a = around flags place at in
    record { front = a.front; back = a.back; parts = a.parts; number_is = ap (λ k. (base + k) % 2 ^ 16) (sym a.place_is) }

-- one flag more
pub further : (came : List ℕ) (base place : ℕ) (flags : List Bool) (flag : Bool) → slice_get flags place ≡ Some flag → (flag ≡ true → has came ((base + place) % 2 ^ 16) ≡ true)
    → ((k : ℕ) → k < place → slice_get flags k ≡ Some true → has came ((base + k) % 2 ^ 16) ≡ true) → (k : ℕ) → k < place + 1 → slice_get flags k ≡ Some true → has came ((base + k) % 2 ^ 16) ≡ true
further came base place flags flag is here below k less at =
    elim (cases_order k place) [
      | inl same ↦ (
          let yes : flag ≡ true = (let joined = sym is ∙ ap (slice_get flags) (sym same) ∙ at in cc) in
          subst (λ m. has came ((base + m) % 2 ^ 16) ≡ true) (sym same) (here yes)
          )
      | inr (inl low) ↦ below k low at
      | inr (inr high) ↦ absurd (omega arith)
    ]

pub some_delayed : (delayed : ℕ) → IsFalse (nat_eq delayed 0) → 0 < delayed
some_delayed zero fails = absurd (cc)
some_delayed (suc n) fails = omega arith
