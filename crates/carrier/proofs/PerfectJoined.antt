-- Lemmas on two perfect links that are joined: which parts one sent, and that what the other accepted
-- is made of them.
use Rattle.std.proofs.Common.{◌≡◌, ℕ, ◌+◌, ◌≤◌, ◌<◌, inl, inr, Bool, true, false, nat_le, nat_lt, ◌||◌, List, [], ◌∷◌, ◌++◌, length, take, drop, Some, None, unwrap_or, Result, Ok, Err, if◌then◌else◌, refl, sym, ap, ◌∙◌, subst, append_assoc, arith, length-append}
use Rattle.std.proofs.lemmas.List.{take-append-le, take-append-drop, length-take}
use Rattle.std.proofs.Math.Seq.{take-append_seam, drop-append_seam, take-length}
use Rattle.std.proofs.lemmas.Bool.Decides.{nat_tests}
use Rattle.byteorder.specs.Endian.{little_number}
use Rattle.byteorder.specs.Numbers.{little_number-reads_back}
use Rattle.mt_base.specs.Trace.{Trace, Start, ◌▷◌}
use Rattle.mt_base.specs.Writing.{joined}
use Rattle.mt_base.proofs.Fill.{joined-append}
use Rattle.mt_base.proofs.Fill.{joined-push}
use Rattle.mt_windows.specs.declared.limits.TheConstants.{DATAGRAM, NUMBERS, PART, QUEUE}
use Rattle.carrier.specs.declared.first_layout.Refusal1.TheVariants as refusal
use Rattle.carrier.specs.declared.state.Reason.{Reason}
use Rattle.carrier.specs.declared.state.Reason.TheVariants as reason
use Rattle.carrier.specs.declared.state.Took.TheVariants.{Used, Ignored}
use Rattle.carrier.specs.Entries.{Entry, Gave, In, Polled, Pulled, Owed, Posted, Next, given, pulled}
use Rattle.carrier.specs.Perfect.{PerfectFaithful, Comes, Sends, spelled, number_of, bytes_of, sent, waiting, may_send, due, next_number, passed, unpulled, answer_by}

-- ---- what was pulled and what was not

pub split_at : {A : Type 0} (front rest all : List A) → front ++ rest ≡ all → front ++ drop (length front) all ≡ all
split_at front rest all e = ap (λ xs. front ++ xs) (ap (drop (length front)) (sym e) ∙ drop-append_seam front rest) ∙ e

pub bytes_in_order : (t : Trace Entry) → PerfectFaithful t → pulled t ++ unpulled t ≡ passed t
bytes_in_order Start h = refl
bytes_in_order (t ▷ Gave bytes) h = bytes_in_order t h.2
bytes_in_order (t ▷ In now datagram Used) h =
    split_at (pulled t) (unpulled t ++ bytes_of datagram) (passed t ++ bytes_of datagram)
    (sym (append_assoc (pulled t) (unpulled t) (bytes_of datagram)) ∙ ap (λ xs. xs ++ bytes_of datagram) (bytes_in_order t h.1))
bytes_in_order (t ▷ In now datagram (Ignored why)) h = bytes_in_order t h.1
bytes_in_order (t ▷ Polled now out) h = bytes_in_order t h.1
bytes_in_order (t ▷ Pulled room bytes) h =
    split_at (pulled t ++ bytes) (drop room (unpulled t)) (passed t)
    (append_assoc (pulled t) bytes (drop room (unpulled t))
    ∙ ap (λ xs. pulled t ++ (xs ++ drop room (unpulled t))) h.0
    ∙ ap (λ xs. pulled t ++ xs) (take-append-drop room (unpulled t))
    ∙ bytes_in_order t h.1)
bytes_in_order (t ▷ Owed count) h = absurd h
bytes_in_order (t ▷ Posted bytes) h = absurd h
bytes_in_order (t ▷ Next bytes) h = absurd h

-- ---- what a datagram shows

abbrev cut_short : List ℕ → Bool → Result ℕ Reason
cut_short datagram b = if b then Err (reason.First (refusal.Short (record { at = 0; need = 8 }))) else Ok (little_number 8 datagram)

pub reads : (datagram : List ℕ) (number : ℕ) → length datagram ≤ DATAGRAM → 8 ≤ length datagram → little_number 8 datagram ≡ number → number_of datagram ≡ Ok number
reads datagram number short long e =
    let first : nat_lt DATAGRAM (length datagram) ≡ false = grind (arith, nat_tests) in
    let second : nat_lt (length datagram) 8 ≡ false = grind (arith, nat_tests) in
    ap (λ b. if b then Err reason.TooLong else cut_short datagram (nat_lt (length datagram) 8)) first
    ∙ ap (cut_short datagram) second ∙ ap Ok e

-- the datagram of a part shows its number
pub shows : (number : ℕ) (bytes : List ℕ) → number < NUMBERS → length bytes ≤ PART → number_of (spelled number bytes) ≡ Ok number
shows number bytes small short =
    reads (spelled number bytes) number (omega (arith, short)) (omega arith) (little_number-reads_back 8 number bytes (omega (arith, small)))

-- ---- which parts were sent

-- the parts that were sent, in order
abbrev pub cut : Trace Entry → List (List ℕ)
cut Start = []
cut (t ▷ Polled now (Some datagram)) = cut t ++ bytes_of datagram ∷ []
cut (t ▷ e) = cut t

pub cut_count : (t : Trace Entry) → length (cut t) ≡ sent t
cut_count Start = refl
cut_count (t ▷ Polled now (Some datagram)) = length-append (cut t) (bytes_of datagram ∷ []) ∙ ap (λ n. n + 1) (cut_count t)
cut_count (t ▷ Polled now None) = cut_count t
cut_count (t ▷ Gave bytes) = cut_count t
cut_count (t ▷ In now datagram took) = cut_count t
cut_count (t ▷ Pulled room bytes) = cut_count t
cut_count (t ▷ Owed count) = cut_count t
cut_count (t ▷ Posted bytes) = cut_count t
cut_count (t ▷ Next bytes) = cut_count t

-- the number that was read
abbrev read_value : Result ℕ Reason → ℕ
read_value (Ok number) = number
read_value (Err why) = 0

pub ok_same : (m n : ℕ) → ◌≡◌ {A = Result ℕ Reason} (Ok m) (Ok n) → m ≡ n
ok_same m n e = ap read_value e

-- a datagram that is one of some parts
pub record IsOf (parts : List (List ℕ)) (datagram : List ℕ) : Type 0 where
  pub number : ℕ
  pub shown : number_of datagram ≡ Ok number
  pub below : number < length parts
  pub part : take (number + 1) parts ≡ take number parts ++ bytes_of datagram ∷ []

-- it still is where more were sent
pub is_of_more : (parts more : List (List ℕ)) (datagram : List ℕ) → IsOf parts datagram → IsOf (parts ++ more) datagram
is_of_more parts more datagram h = record {
  number = h.number;
  shown = h.shown;
  below = omega (arith, h.below, length-append parts more);
  part = take-append-le (h.number + 1) parts more (omega (arith, h.below)) ∙ h.part
      ∙ ap (λ xs. xs ++ bytes_of datagram ∷ []) (sym (take-append-le h.number parts more (omega (arith, h.below))));
}

-- the last part is one
pub is_of_last : (parts : List (List ℕ)) (datagram : List ℕ) → number_of datagram ≡ Ok (length parts) → IsOf (parts ++ bytes_of datagram ∷ []) datagram
is_of_last parts datagram e = record {
  number = length parts;
  shown = e;
  below = omega (arith, length-append parts (bytes_of datagram ∷ []));
  part = ap (λ n. take n (parts ++ bytes_of datagram ∷ [])) (sym (length-append parts (bytes_of datagram ∷ [])))
      ∙ take-length (parts ++ bytes_of datagram ∷ [])
      ∙ ap (λ xs. xs ++ bytes_of datagram ∷ []) (sym (take-append_seam parts (bytes_of datagram ∷ [])));
}

-- ---- a perfect carrier that sends

pub may_number : (count number : ℕ) → may_send count number ≡ true → number < NUMBERS
may_number count number e = grind (arith, nat_tests)

-- what is due is the next part
pub due_is : (t : Trace Entry) (datagram : List ℕ) → Some datagram ≡ due t → (datagram ≡ spelled (sent t) (take PART (waiting t))) × (sent t < NUMBERS)
due_is t datagram e = by (may_send (length (waiting t)) (sent t)) refl e
  where
    by : (b : Bool) → may_send (length (waiting t)) (sent t) ≡ b → Some datagram ≡ (if b then Some (spelled (sent t) (take PART (waiting t))) else None) → (datagram ≡ spelled (sent t) (take PART (waiting t))) × (sent t < NUMBERS)
    by true f e = (ap (λ o. unwrap_or o []) e, may_number (length (waiting t)) (sent t) f)
    by false f e = absurd cc

-- the datagrams that were sent are the parts
pub are_parts : (a : Trace Entry) (datagram : List ℕ) → PerfectFaithful a → Sends a datagram → IsOf (cut a) datagram
are_parts Start datagram h s = absurd s
are_parts (t ▷ Polled now (Some out)) datagram h (inl same) =
    let is = due_is t out h.0 in
    let first : number_of out ≡ Ok (length (cut t)) =
    ap number_of is.0 ∙ shows (sent t) (take PART (waiting t)) is.1 (omega (arith, length-take PART (waiting t))) ∙ ap Ok (sym (cut_count t)) in
    subst (λ d. IsOf (cut t ++ bytes_of out ∷ []) d) same (is_of_last (cut t) out first)
are_parts (t ▷ Polled now (Some out)) datagram h (inr before) = is_of_more (cut t) (bytes_of out ∷ []) datagram (are_parts t datagram h.1 before)
are_parts (t ▷ Polled now None) datagram h s = are_parts t datagram h.1 s
are_parts (t ▷ Gave bytes) datagram h s = are_parts t datagram h.2 s
are_parts (t ▷ In now d took) datagram h s = are_parts t datagram h.1 s
are_parts (t ▷ Pulled room bytes) datagram h s = are_parts t datagram h.1 s
are_parts (t ▷ Owed count) datagram h s = absurd h
are_parts (t ▷ Posted bytes) datagram h s = absurd h
are_parts (t ▷ Next bytes) datagram h s = absurd h

-- the parts that were sent and what waits are what was given
pub all_given : (a : Trace Entry) → PerfectFaithful a → joined (cut a) ++ waiting a ≡ given a
all_given Start h = refl
all_given (t ▷ Gave bytes) h = sym (append_assoc (joined (cut t)) (waiting t) bytes) ∙ ap (λ xs. xs ++ bytes) (all_given t h.2)
all_given (t ▷ Polled now (Some out)) h =
    ap (λ xs. joined (cut t ++ xs ∷ []) ++ drop PART (waiting t)) (ap bytes_of (due_is t out h.0).0)
    ∙ ap (λ xs. xs ++ drop PART (waiting t)) (joined-push (cut t) (take PART (waiting t)))
    ∙ append_assoc (joined (cut t)) (take PART (waiting t)) (drop PART (waiting t))
    ∙ ap (λ xs. joined (cut t) ++ xs) (take-append-drop PART (waiting t))
    ∙ all_given t h.1
all_given (t ▷ Polled now None) h = all_given t h.1
all_given (t ▷ In now d took) h = all_given t h.1
all_given (t ▷ Pulled room bytes) h = all_given t h.1
all_given (t ▷ Owed count) h = absurd h
all_given (t ▷ Posted bytes) h = absurd h
all_given (t ▷ Next bytes) h = absurd h

-- ---- a perfect carrier that accepts

-- an accepted part is the next one
pub is_next : (next kept count : ℕ) (read : Result ℕ Reason) → Used ≡ answer_by next kept read count → read ≡ Ok next
is_next next kept count (Err why) e = absurd cc
is_next next kept count (Ok number) e = ap Ok (by (nat_lt number next) (nat_lt next number) refl refl e)
  where
    by : (a b : Bool) → nat_lt number next ≡ a → nat_lt next number ≡ b → Used ≡ (if a then Ignored reason.Old else (if b || (nat_le NUMBERS number || nat_lt QUEUE (kept + count)) then Ignored (reason.Beyond next) else Used)) → number ≡ next
    by true b f g e = absurd cc
    by false true f g e = absurd cc
    by false false f g e = grind (arith, nat_tests)

-- what was accepted are the first parts
pub first_parts : (a b : Trace Entry) → PerfectFaithful a → PerfectFaithful b → Comes a b → passed b ≡ joined (take (next_number b) (cut a))
first_parts a Start f h c = refl
first_parts a (t ▷ In now datagram Used) f h c =
    let d = are_parts a datagram f c.0 in
    let read = is_next (next_number t) (length (unpulled t)) (length (bytes_of datagram)) (number_of datagram) h.0 in
    let same : d.number ≡ next_number t = ok_same d.number (next_number t) (sym d.shown ∙ read) in
    let part = subst (λ m. take (m + 1) (cut a) ≡ take m (cut a) ++ bytes_of datagram ∷ []) same d.part in
    ap (λ xs. xs ++ bytes_of datagram) (first_parts a t f h.1 c.1)
    ∙ sym (joined-push (take (next_number t) (cut a)) (bytes_of datagram))
    ∙ ap joined (sym part)
first_parts a (t ▷ In now datagram (Ignored why)) f h c = first_parts a t f h.1 c.1
first_parts a (t ▷ Polled now out) f h c = first_parts a t f h.1 c
first_parts a (t ▷ Gave bytes) f h c = first_parts a t f h.2 c
first_parts a (t ▷ Pulled room bytes) f h c = first_parts a t f h.1 c
first_parts a (t ▷ Owed count) f h c = absurd h
first_parts a (t ▷ Posted bytes) f h c = absurd h
first_parts a (t ▷ Next bytes) f h c = absurd h

pub bytes_arrive : (a b : Trace Entry) → PerfectFaithful a → PerfectFaithful b → Comes a b → (rest : List ℕ) × (passed b ++ rest ≡ given a)
bytes_arrive a b f h c =
    let n = next_number b in
    let rest = joined (drop n (cut a)) ++ waiting a in (
      rest,
      ap (λ xs. xs ++ rest) (first_parts a b f h c)
          ∙ sym (append_assoc (joined (take n (cut a))) (joined (drop n (cut a))) (waiting a))
          ∙ ap (λ xs. xs ++ waiting a) (sym (joined-append (take n (cut a)) (drop n (cut a))) ∙ ap joined (take-append-drop n (cut a)))
          ∙ all_given a f,
    )

pub pulled_arrive : (a b : Trace Entry) → PerfectFaithful a → PerfectFaithful b → Comes a b → (rest : List ℕ) × (pulled b ++ rest ≡ given a)
pulled_arrive a b f h c =
    let all = bytes_arrive a b f h c in
    (unpulled b ++ all.0, sym (append_assoc (pulled b) (unpulled b) all.0) ∙ ap (λ xs. xs ++ all.0) (bytes_in_order b h) ∙ all.1)
