-- Lemmas on the elements that flags decide.
use Rattle.std.proofs.Common.{◌≡◌, ◌≢◌, ℕ, zero, suc, ◌+◌, ◌%◌, ◌<◌, ◌≤◌, Bool, true, false, not, eqb, List, [], ◌∷◌, ◌++◌, length, replicate, Result, Ok, Err, inl, inr, refl, sym, ap, ◌∙◌, subst, append_assoc, append-nil, arith}
use mathlib.Core.Bool.{beq}
use Rattle.std.proofs.lemmas.Bool.{cases_lt}
use Rattle.std.proofs.lemmas.Bool.Decides.{nat_tests}
use Rattle.mt_base.specs.declared.errors.NoRoom.{NoRoom}
use Rattle.mt_base.specs.Writing.{Spot, put}
use Rattle.mt_base.proofs.Bytes.{big_bytes, big_bytes_1, IsUnderWay, under_way_on, under_way_short, put_none}
use Rattle.mt_base.proofs.Fill.{put_filled}
use Rattle.mt_base.specs.Longest.{IsLongest}
use Rattle.mt_base.proofs.Stretches.{drop_copies, copy_more, longest_full, longest_ended, longest_last, differs, equals}
use Rattle.ack_vector.specs.Longest.{element, elements_of, HoldLongest}
use Rattle.ack_vector.specs.RunWriting.{settled, decided, kept, Stands}
use Rattle.ack_vector.specs.declared.writer.RunWriter.{RunWriter}
use Rattle.ack_vector.proofs.LongestLemmas.{elements_of-nil, element_small, holds, holds_one}

-- the element of a stretch comes first
first_run : (n : ℕ) (b : Bool) (rest : List Bool) → 0 < n → IsLongest b n (replicate n b ++ rest)
    → elements_of (replicate n b ++ rest) ≡ element b n ∷ elements_of rest
first_run n b rest some longest =
    sym (holds_one (element b n ∷ elements_of rest) (replicate n b ++ rest) (
      b,
      n,
      refl,
      some,
      longest,
      subst (λ x. HoldLongest (elements_of rest) x) (sym (drop_copies n b rest)) (holds rest),
    ))

-- where it is full
full_run : (n : ℕ) (b : Bool) (rest : List Bool) → n ≡ 63
    → elements_of (replicate n b ++ rest) ≡ element b n ∷ elements_of rest
full_run n b rest full = first_run n b rest (omega arith) (longest_full n b rest full)

-- where another flag follows
ended_run : (n : ℕ) (b r : Bool) (later : List Bool) → 0 < n → n ≤ 63 → r ≢ b
    → elements_of (replicate n b ++ r ∷ later) ≡ element b n ∷ elements_of (r ∷ later)
ended_run n b r later some short other =
    first_run n b (r ∷ later) some (longest_ended n b r later short other)

-- where it is the last
last_run : (n : ℕ) (b : Bool) → 0 < n → n ≤ 63 → elements_of (replicate n b) ≡ element b n ∷ []
last_run n b some short =
    ap elements_of (sym (append-nil (replicate n b)))
    ∙ first_run n b [] some (longest_last n b short)
    ∙ ap (λ es. element b n ∷ es) elements_of-nil

element_count : (b : Bool) (n : ℕ) → n ≤ 63 → element b n % 64 ≡ n
element_count true n h = omega arith
element_count false n h = omega arith

-- a last element that may grow is not settled, a full one is
settled_short : (b : Bool) (n : ℕ) → n < 63 → settled (element b n ∷ []) ≡ []
settled_short b n short =
    let count = element_count b n (omega arith) in
    let less : eqb (element b n % 64) 63 ≡ false = grind (arith, nat_tests) in
    rw less refl

settled_full : (b : Bool) (n : ℕ) → n ≡ 63 → settled (element b n ∷ []) ≡ element b n ∷ []
settled_full b n full =
    let count = element_count b n (omega arith) in
    let all : eqb (element b n % 64) 63 ≡ true = grind (arith, nat_tests) in
    rw all refl

-- A writer that keeps n flags `b` goes on by the flag r: these elements are decided, and the
-- writer then keeps m flags `c`.
pub record IsStep (b : Bool) (n : ℕ) (r : Bool) (es : List ℕ) (c : Bool) (m : ℕ) : Type 0 where
  pub decides : decided (replicate n b ++ r ∷ []) ≡ es
  pub goes_on : (later : List Bool) → elements_of (replicate n b ++ r ∷ later)
      ≡ es ++ elements_of (replicate m c ++ later)

-- a stretch ends
pub step_ends : (n : ℕ) (b r : Bool) → 0 < n → n ≤ 62 → r ≢ b → IsStep b n r (element b n ∷ []) r 1
step_ends n b r some short other = record {
  decides = ap settled (ended_run n b r [] some (omega arith) other
      ∙ ap (λ es. element b n ∷ es) (last_run 1 r (omega arith) (omega arith)))
      ∙ ap (λ es. element b n ∷ es) (settled_short r 1 (omega arith));
  goes_on = λ later. ended_run n b r later some (omega arith) other;
}

-- a stretch is full
pub step_full : (n : ℕ) (b : Bool) → n ≡ 62 → IsStep b n b (element b 63 ∷ []) b 0
step_full n b almost =
    let full : n + 1 ≡ 63 = omega arith in record {
      decides = ap decided (copy_more n b [] ∙ append-nil (replicate (n + 1) b))
          ∙ ap settled (last_run (n + 1) b (omega arith) (omega arith))
          ∙ settled_full b (n + 1) full ∙ ap (λ k. element b k ∷ []) full;
      goes_on = λ later. ap elements_of (copy_more n b later) ∙ full_run (n + 1) b later full
          ∙ ap (λ k. element b k ∷ elements_of later) full;
    }

-- a stretch grows
pub step_grows : (n : ℕ) (b : Bool) → n < 62 → IsStep b n b [] b (n + 1)
step_grows n b short = record {
  decides = ap decided (copy_more n b [] ∙ append-nil (replicate (n + 1) b))
      ∙ ap settled (last_run (n + 1) b (omega arith) (omega arith))
      ∙ settled_short b (n + 1) (omega arith);
  goes_on = λ later. ap elements_of (copy_more n b later);
}

-- a stretch starts
pub step_starts : (n : ℕ) (b r : Bool) → n ≡ 0 → IsStep b n r [] r 1
step_starts n b r none = record {
  decides = ap (λ k. decided (replicate k b ++ r ∷ [])) none
      ∙ ap settled (last_run 1 r (omega arith) (omega arith)) ∙ settled_short r 1 (omega arith);
  goes_on = λ later. ap (λ k. elements_of (replicate k b ++ r ∷ later)) none;
}

-- the same steps by the test of two flags
pub ends_by : (n : ℕ) (b r : Bool) → not (beq b r) ≡ true → 0 < n → n ≤ 62
    → IsStep b n r (element b n ∷ []) r 1
ends_by n b r test some short = step_ends n b r some short (differs b r test)

pub full_by : (n : ℕ) (b r : Bool) → not (beq b r) ≡ false → n ≡ 62
    → IsStep b n r (element r 63 ∷ []) b 0
full_by n b r test almost =
    subst (λ x. IsStep b n x (element x 63 ∷ []) b 0) (equals b r test) (step_full n b almost)

pub grows_by : (n : ℕ) (b r : Bool) → not (beq b r) ≡ false → n < 62 → IsStep b n r [] b (n + 1)
grows_by n b r test short =
    subst (λ x. IsStep b n x [] b (n + 1)) (equals b r test) (step_grows n b short)

-- every flag is one of these steps
record SomeStep (b : Bool) (n : ℕ) (r : Bool) : Type 0 where
  es : List ℕ
  next : Bool
  many : ℕ
  step : IsStep b n r es next many

step_same : (n : ℕ) (b : Bool) → n ≤ 62 → SomeStep b n b
step_same n b h = elim (cases_lt n 62) [
  | inl short ↦ record { es = []; next = b; many = n + 1; step = step_grows n b short }
  | inr almost ↦ record { es = element b 63 ∷ []; next = b; many = 0; step = step_full n b (omega arith) }
]

step_other : (n : ℕ) (b r : Bool) → 0 < n → n ≤ 62 → r ≢ b → SomeStep b n r
step_other n b r some h other =
    record { es = element b n ∷ []; next = r; many = 1; step = step_ends n b r some h other }

step_of : (n : ℕ) (b r : Bool) → n ≤ 62 → SomeStep b n r
step_of zero b r h = record { es = []; next = r; many = 1; step = step_starts zero b r refl }
step_of (suc n) true true h = step_same (suc n) true h
step_of (suc n) false false h = step_same (suc n) false h
step_of (suc n) true false h = step_other (suc n) true false (omega arith) h (λ e. cc)
step_of (suc n) false true h = step_other (suc n) false true (omega arith) h (λ e. cc)

-- what a writer stands for after a step
pub stands_on : (w v : RunWriter) (r : Bool) (more : List ℕ) (flags : List Bool) (es : List ℕ)
    → IsStep w.received w.length r more v.received v.length → Stands w flags es
    → Stands v (flags ++ r ∷ []) (es ++ decided (kept w ++ r ∷ []))
stands_on w v r more flags es step stands = record {
  so_far = λ later.
      ap elements_of (append_assoc flags (r ∷ []) later) ∙ stands.so_far (r ∷ later)
      ∙ ap (λ x. es ++ x) (step.goes_on later)
      ∙ sym (append_assoc es more (elements_of (kept v ++ later)))
      ∙ ap (λ x. (es ++ x) ++ elements_of (kept v ++ later)) (sym step.decides);
}

-- an element written as a byte
pub byte_put : (b : Bool) (n byte : ℕ) (s : Spot) (r : Result Spot NoRoom) → n ≤ 63
    → byte ≡ element b n → put (big_bytes 1 byte) s ≡ r → put (element b n ∷ []) s ≡ r
byte_put b n byte s r short is written =
    let small : byte < 256 = subst (λ x. x < 256) (sym is) (element_small b n short) in
    ap (λ f. put f s) (ap (λ x. x ∷ []) (sym is) ∙ sym (big_bytes_1 byte small)) ∙ written

-- what a step writes
pub step_put : (b : Bool) (n : ℕ) (r : Bool) (c : Bool) (m : ℕ) (d : Bool) (k byte : ℕ) (s : Spot)
    (answer : Result Spot NoRoom) → IsStep b n r (element d k ∷ []) c m → k ≤ 63
    → byte ≡ element d k → put (big_bytes 1 byte) s ≡ answer
    → put (decided (replicate n b ++ r ∷ [])) s ≡ answer
step_put b n r c m d k byte s answer step short is written =
    ap (λ f. put f s) step.decides ∙ byte_put d k byte s answer short is written

pub step_none : (b : Bool) (n : ℕ) (r : Bool) (c : Bool) (m : ℕ) (s : Spot) → IsStep b n r [] c m
    → put (decided (replicate n b ++ r ∷ [])) s ≡ Ok s
step_none b n r c m s step = ap (λ f. put f s) step.decides ∙ put_none s

-- what is written at the end
pub last_put : (b : Bool) (n byte : ℕ) (s : Spot) (answer : Result Spot NoRoom) → 0 < n → n ≤ 62
    → byte ≡ element b n → put (big_bytes 1 byte) s ≡ answer
    → put (elements_of (replicate n b)) s ≡ answer
last_put b n byte s answer some short is written =
    ap (λ f. put f s) (last_run n b some (omega arith))
    ∙ byte_put b n byte s answer (omega arith) is written

pub last_none : (b : Bool) (n : ℕ) (s : Spot) → n ≡ 0 → put (elements_of (replicate n b)) s ≡ Ok s
last_none b n s none =
    ap (λ f. put f s) (ap (λ k. elements_of (replicate k b)) none ∙ elements_of-nil) ∙ put_none s

pub all_written : (w : RunWriter) (flags : List Bool) (es before : List ℕ) (s t : Spot)
    → Stands w flags es → s.before ≡ before ++ es → put (elements_of (kept w)) s ≡ Ok t
    → t.before ≡ before ++ elements_of flags
all_written w flags es before s t stands is written =
    let one = put_filled (elements_of (kept w)) s t written in
    ap (λ (x : Spot). x.before) one.1 ∙ ap (λ x. x ++ elements_of (kept w)) is
    ∙ append_assoc before es (elements_of (kept w))
    ∙ ap (λ x. before ++ (es ++ elements_of x)) (sym (append-nil (kept w)))
    ∙ ap (λ x. before ++ x) (sym (stands.so_far []))
    ∙ ap (λ x. before ++ elements_of x) (append-nil flags)

-- one flag more of a list
pub loop_on : (whole from : List ℕ) (w v : RunWriter) (r : Bool) (left behind : List Bool)
    (s t : Spot) → left ≡ r ∷ behind
    → IsUnderWay whole (elements_of (kept w ++ left)) from s
    → Stands v (kept w ++ r ∷ []) ([] ++ decided (kept w ++ r ∷ []))
    → put (decided (kept w ++ r ∷ [])) s ≡ Ok t
    → IsUnderWay whole (elements_of (kept v ++ behind)) from t
loop_on whole from w v r left behind s t is way stands written =
    under_way_on whole (decided (kept w ++ r ∷ [])) (elements_of (kept v ++ behind)) from s t
    (subst (λ x. IsUnderWay whole x from s) (ap (λ x. elements_of (kept w ++ x)) is
    ∙ ap elements_of (sym (append_assoc (kept w) (r ∷ []) behind)) ∙ stands.so_far behind) way)
    written

-- where its element finds no place, the list has more elements than there are places
pub loop_short : (whole from : List ℕ) (w : RunWriter) (r : Bool) (left behind : List Bool)
    (s : Spot) (e : NoRoom) → left ≡ r ∷ behind
    → IsUnderWay whole (elements_of (kept w ++ left)) from s
    → put (decided (kept w ++ r ∷ [])) s ≡ Err e → length from < length whole
loop_short whole from w r left behind s e is way refused =
    let some = step_of w.length w.received r (omega (arith, w.few)) in
    let rest = elements_of (replicate some.many some.next ++ behind) in
    under_way_short whole some.es rest from s e
    (subst (λ x. IsUnderWay whole x from s) (ap (λ x. elements_of (kept w ++ x)) is
    ∙ some.step.goes_on behind) way)
    (ap (λ f. put f s) (sym some.step.decides) ∙ refused)

-- a writer that went through the flags that it keeps
pub itself : (w : RunWriter) → Stands w (kept w) []
itself w = record { so_far = λ later. refl }
