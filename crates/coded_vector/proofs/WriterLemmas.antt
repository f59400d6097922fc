-- Lemmas on the bytes that flags decide.
use Rattle.std.proofs.Common.{◌≡◌, ◌≢◌, ℕ, zero, suc, ◌+◌, ◌%◌, ◌^◌, ◌<◌, ◌≤◌, ◌⊎◌, inl, inr, Bool, true, false, not, cond, eqb, ltb, List, [], ◌∷◌, ◌++◌, length, take, drop, replicate, Some, None, slice_get, Result, Ok, Err, refl, sym, ap, ◌∙◌, subst, append_assoc, append-nil, arith, length-append}
use mathlib.Core.Bool.{beq}
use Rattle.std.proofs.Math.ListN.{set}
use Rattle.std.proofs.Math.Seq.{take-suc-set}
use Rattle.std.proofs.lemmas.List.{length-replicate, length-take, take_all, take-append-le, length-set}
use Rattle.std.proofs.lemmas.Bool.{cases_lt}
use Rattle.std.proofs.lemmas.Bool.Decides.{nat_tests}
use Rattle.mt_base.specs.declared.errors.NoRoom.{NoRoom}
use Rattle.mt_base.specs.Longest.{longest, IsLongest}
use Rattle.mt_base.specs.Writing.{Spot, put, puts, then_put, joined}
use Rattle.mt_base.proofs.Bytes.{big_bytes, big_bytes_1, IsUnderWay, under_way_on, under_way_short, put_none}
use Rattle.mt_base.proofs.Fill.{puts_filled, then_ok}
use Rattle.mt_base.proofs.Lists.{heads}
use Rattle.mt_base.proofs.Stretches.{first_of, drop_copies, copy_more, longest_full, longest_ended, longest_last, longest_is, stretch_greatest, stretch_equal, differs, equals}
use Rattle.coded_vector.specs.declared.writer.CodedWriter.{CodedWriter}
use Rattle.coded_vector.specs.CodedBytes.{flags_in}
use Rattle.coded_vector.specs.Written.{run_byte, bits_byte, coded_of, singles, IsRun, IsSeven, HoldPieces}
use Rattle.coded_vector.specs.CodedWriting.{settled, decided, kept, Stands}
use Rattle.coded_vector.proofs.PieceLemmas.{coded_of-cons, coded_of-nil, holds, holds_one, bits_byte_small, run_flags, chosen_takes}

-- a piece comes first
first_piece : (c n : ℕ) (fs rest : List Bool) → IsRun c n fs ⊎ IsSeven c n fs → drop n fs ≡ rest
    → coded_of fs ≡ c ∷ coded_of rest
first_piece c n fs rest piece behind =
    sym (holds_one (c ∷ coded_of rest) fs
    (n, piece, subst (λ x. HoldPieces (coded_of rest) x) (sym behind) (holds rest)))

run_piece : (n : ℕ) (b : Bool) (rest : List Bool) → 7 ≤ n → IsLongest b n (replicate n b ++ rest)
    → coded_of (replicate n b ++ rest) ≡ run_byte b n ∷ coded_of rest
run_piece n b rest some longest =
    first_piece (run_byte b n) n (replicate n b ++ rest) rest
    (inl (record { received = b; byte_is = refl; some = omega arith; longest = longest; chosen = inl some }))
    (drop_copies n b rest)

-- a run that is the last
last_piece : (n : ℕ) (b : Bool) → 0 < n → n ≤ 63 → coded_of (replicate n b) ≡ run_byte b n ∷ []
last_piece n b some short =
    let all : replicate n b ++ [] ≡ replicate n b = append-nil (replicate n b) in
    let long : n ≡ length (replicate n b ++ []) = sym (ap length all ∙ length-replicate n b) in
    ap coded_of (sym all) ∙ first_piece (run_byte b n) n (replicate n b ++ []) []
    (inl (record {
      received = b;
      byte_is = refl;
      some = some;
      longest = longest_last n b short;
      chosen = inr (inl long);
    }))
    (drop_copies n b []) ∙ ap (λ cs. run_byte b n ∷ cs) coded_of-nil

run_count : (b : Bool) (n : ℕ) → n ≤ 63 → run_byte b n % 64 ≡ n
run_count true n h = omega arith
run_count false n h = omega arith

run_high : (b : Bool) (n : ℕ) → 128 ≤ run_byte b n
run_high true n = omega arith
run_high false n = omega arith

pub run_small : (b : Bool) (n : ℕ) → n ≤ 63 → run_byte b n < 256
run_small true n h = omega arith
run_small false n h = omega arith

-- a last run that may grow is not settled, a full one is, and so is a byte of seven flags
settled_short : (b : Bool) (n : ℕ) → n < 63 → settled (run_byte b n ∷ []) ≡ []
settled_short b n short =
    let count = run_count b n (omega arith) in
    let high = run_high b n in
    let run : ltb (run_byte b n) 128 ≡ false = grind (arith, nat_tests) in
    let less : eqb (run_byte b n % 64) 63 ≡ false = grind (arith, nat_tests) in
    rw (run, less) refl

settled_full : (b : Bool) (n : ℕ) → n ≡ 63 → settled (run_byte b n ∷ []) ≡ run_byte b n ∷ []
settled_full b n full =
    let count = run_count b n (omega arith) in
    let high = run_high b n in
    let run : ltb (run_byte b n) 128 ≡ false = grind (arith, nat_tests) in
    let all : eqb (run_byte b n % 64) 63 ≡ true = grind (arith, nat_tests) in
    rw (run, all) refl

settled_seven : (c : ℕ) → c < 128 → settled (c ∷ []) ≡ c ∷ []
settled_seven c low = let bits : ltb c 128 ≡ true = grind (arith, nat_tests) in rw bits refl

run_long : (b : Bool) (n : ℕ) → n ≤ 63 → length (flags_in (run_byte b n)) ≡ n
run_long b n h = ap length (run_flags b n h) ∙ length-replicate n b

settled_before : (b : Bool) (n c : ℕ) → 7 ≤ n → n ≤ 63
    → settled (run_byte b n ∷ c ∷ []) ≡ run_byte b n ∷ settled (c ∷ [])
settled_before b n c some short =
    let long = run_long b n short in
    let enough : ltb (length (flags_in (run_byte b n))) 7 ≡ false = grind (arith, nat_tests) in
    rw enough refl

-- runs of fewer than seven flags are not settled
settled_few : (b : Bool) (n : ℕ) (cs : List ℕ) → n < 7 → settled (run_byte b n ∷ cs) ≡ []
settled_few b n [] few = settled_short b n (omega arith)
settled_few b n (c ∷ cs) few =
    let long = run_long b n (omega arith) in
    let less : ltb (length (flags_in (run_byte b n))) 7 ≡ true = grind (arith, nat_tests) in
    rw less refl

-- the first byte of fewer than seven flags is a run
pub few_first : (f : Bool) (fs : List Bool) → length (f ∷ fs) < 7
    → coded_of (f ∷ fs) ≡ run_byte f (longest f (f ∷ fs))
    ∷ coded_of (drop (longest f (f ∷ fs)) (f ∷ fs))
few_first f fs few =
    let n = longest f (f ∷ fs) in
    let takes = chosen_takes n (length (f ∷ fs)) (inr (inr few)) in
    coded_of-cons f fs
    ∙ ap (λ t. cond t (run_byte f n) (bits_byte (take 7 (f ∷ fs)))
    ∷ coded_of (drop (cond t n 7) (f ∷ fs))) takes

longest_within : (f : Bool) (fs : List Bool) → longest f fs ≤ length fs
longest_within f fs =
    let n = longest f fs in
    let is = longest_is f fs in
    omega (arith, ap length is.equal, length-take n fs, length-replicate n f)

decided_few : (fs : List Bool) → length fs < 7 → decided fs ≡ []
decided_few [] few = ap settled coded_of-nil
decided_few (f ∷ fs) few =
    let n = longest f (f ∷ fs) in
    let within = longest_within f (f ∷ fs) in
    ap settled (few_first f fs few)
    ∙ settled_few f n (coded_of (drop n (f ∷ fs))) (omega (arith, within, few))

drop_all : (n : ℕ) (fs rest : List Bool) → length fs ≡ n → drop n (fs ++ rest) ≡ rest
drop_all zero [] rest long = refl
drop_all zero (f ∷ fs) rest long = absurd (omega (arith, long))
drop_all (suc n) [] rest long = absurd (omega (arith, long))
drop_all (suc n) (f ∷ fs) rest long = drop_all n fs rest (omega (arith, long))

-- seven flags that are not all equal are a byte
seven_piece : (fs later : List Bool) → length fs ≡ 7
    → ((b : Bool) → ¬ (take 7 fs ≡ replicate 7 b))
    → coded_of (fs ++ later) ≡ bits_byte fs ∷ coded_of later
seven_piece fs later long unequal =
    let front : take 7 (fs ++ later) ≡ take 7 fs = take-append-le 7 fs later (omega (arith, long)) in
    let all : take 7 fs ≡ fs = take_all 7 fs (omega (arith, long)) in
    first_piece (bits_byte fs) 7 (fs ++ later) later
    (inr (record {
      seven = refl;
      enough = omega (arith, long, length-append fs later);
      unequal = λ b e. unequal b (sym front ∙ e);
      byte_is = ap bits_byte (sym (front ∙ all));
    }))
    (drop_all 7 fs later long)

-- the last flag of copies
last_of : (n : ℕ) (fs : List Bool) (b r : Bool) → length fs ≡ n
    → fs ++ r ∷ [] ≡ replicate (suc n) b → r ≡ b
last_of zero [] b r long e = (heads r b [] [] e).0
last_of zero (f ∷ fs) b r long e = absurd (omega (arith, long))
last_of (suc n) [] b r long e = absurd (omega (arith, long))
last_of (suc n) (f ∷ fs) b r long e =
    last_of n fs b r (omega (arith, long))
    (heads f b (fs ++ r ∷ []) (replicate (suc n) b) e).1

not_equal : (fs : List Bool) (r b : Bool) → length fs ≡ 6 → longest r (fs ++ r ∷ []) ≢ 7
    → ¬ (take 7 (fs ++ r ∷ []) ≡ replicate 7 b)
not_equal fs r b long test e =
    let size = length-append fs (r ∷ []) in
    let all : take 7 (fs ++ r ∷ []) ≡ fs ++ r ∷ [] = take_all 7 (fs ++ r ∷ []) (omega (arith, long, size)) in
    let same : r ≡ b = last_of 6 fs b r long (sym all ∙ e) in
    let most = stretch_greatest 63 7 r (fs ++ r ∷ []) (omega arith)
    (e ∙ ap (λ x. replicate 7 x) (sym same)) in
    let within = longest_within r (fs ++ r ∷ []) in
    test (omega (arith, most, within, long, size))

-- A writer that keeps some flags goes on by the flag r: these bytes are decided, and the writer
-- then keeps these flags.
pub record IsStep (k : List Bool) (r : Bool) (cs : List ℕ) (next : List Bool) : Type 0 where
  pub decides : decided (k ++ r ∷ []) ≡ cs
  pub goes_on : (later : List Bool) → coded_of (k ++ r ∷ later) ≡ cs ++ coded_of (next ++ later)

step_few : (k : List Bool) (r : Bool) → length k < 6 → IsStep k r [] (k ++ r ∷ [])
step_few k r few = record {
  decides = decided_few (k ++ r ∷ []) (omega (arith, few, length-append k (r ∷ [])));
  goes_on = λ later. ap coded_of (sym (append_assoc k (r ∷ []) later));
}

step_equal : (n : ℕ) (k : List Bool) (r : Bool) → n ≡ 7 → k ++ r ∷ [] ≡ replicate n r
    → IsStep k r [] (replicate n r)
step_equal n k r seven is = record {
  decides = ap decided is ∙ ap settled (last_piece n r (omega arith) (omega arith))
      ∙ settled_short r n (omega arith);
  goes_on = λ later. ap coded_of (sym (append_assoc k (r ∷ []) later) ∙ ap (λ x. x ++ later) is);
}

step_seven : (k : List Bool) (r : Bool) → length k ≡ 6 → longest r (k ++ r ∷ []) ≢ 7
    → IsStep k r (bits_byte (k ++ r ∷ []) ∷ []) []
step_seven k r long test =
    let all = k ++ r ∷ [] in
    let seven : length all ≡ 7 = omega (arith, long, length-append k (r ∷ [])) in
    let low : bits_byte all < 128 = subst (λ n. bits_byte all < 2 ^ n) seven (bits_byte_small all) in
    record {
      decides = ap decided (sym (append-nil all))
          ∙ ap settled (seven_piece all [] seven (λ b. not_equal k r b long test)
          ∙ ap (λ cs. bits_byte all ∷ cs) coded_of-nil) ∙ settled_seven (bits_byte all) low;
      goes_on = λ later. ap coded_of (sym (append_assoc k (r ∷ []) later))
          ∙ seven_piece all later seven (λ b. not_equal k r b long test);
    }

step_ends : (n : ℕ) (b r : Bool) → 7 ≤ n → n ≤ 62 → r ≢ b
    → IsStep (replicate n b) r (run_byte b n ∷ []) (r ∷ [])
step_ends n b r some short other = record {
  decides = ap settled (run_piece n b (r ∷ []) some (longest_ended n b r [] (omega arith) other)
      ∙ ap (λ cs. run_byte b n ∷ cs) (last_piece 1 r (omega arith) (omega arith)))
      ∙ settled_before b n (run_byte r 1) some (omega arith)
      ∙ ap (λ cs. run_byte b n ∷ cs) (settled_short r 1 (omega arith));
  goes_on = λ later. run_piece n b (r ∷ later) some (longest_ended n b r later (omega arith) other);
}

step_full : (n : ℕ) (b : Bool) → n ≡ 62 → IsStep (replicate n b) b (run_byte b 63 ∷ []) []
step_full n b almost =
    let full : n + 1 ≡ 63 = omega arith in record {
      decides = ap decided (copy_more n b [] ∙ append-nil (replicate (n + 1) b))
          ∙ ap settled (last_piece (n + 1) b (omega arith) (omega arith))
          ∙ settled_full b (n + 1) full ∙ ap (λ k. run_byte b k ∷ []) full;
      goes_on = λ later. ap coded_of (copy_more n b later)
          ∙ run_piece (n + 1) b later (omega arith) (longest_full (n + 1) b later full)
          ∙ ap (λ k. run_byte b k ∷ coded_of later) full;
    }

step_grows : (n : ℕ) (b : Bool) → n < 62 → IsStep (replicate n b) b [] (replicate (n + 1) b)
step_grows n b short = record {
  decides = ap decided (copy_more n b [] ∙ append-nil (replicate (n + 1) b))
      ∙ ap settled (last_piece (n + 1) b (omega arith) (omega arith))
      ∙ settled_short b (n + 1) (omega arith);
  goes_on = λ later. ap coded_of (copy_more n b later);
}

-- what a writer keeps
pub keeps_few : (n : ℕ) (flags : List Bool) (b : Bool) → n < 7
    → cond (ltb n 7) (take n flags) (replicate n b) ≡ take n flags
keeps_few n flags b few = let less : ltb n 7 ≡ true = grind (arith, nat_tests) in rw less refl

pub keeps_run : (n : ℕ) (flags : List Bool) (b : Bool) → 7 ≤ n
    → cond (ltb n 7) (take n flags) (replicate n b) ≡ replicate n b
keeps_run n flags b many = let more : ltb n 7 ≡ false = grind (arith, nat_tests) in rw more refl

pub kept_few : (w : CodedWriter) → w.count < 7 → kept w ≡ take w.count w.flags
kept_few w few = keeps_few w.count w.flags w.received few

pub kept_run : (w : CodedWriter) → 7 ≤ w.count → kept w ≡ replicate w.count w.received
kept_run w many = keeps_run w.count w.flags w.received many

pub kept_more : (flags : List Bool) (n : ℕ) (r : Bool) → n < length flags
    → take (n + 1) (set flags n r) ≡ take n flags ++ r ∷ []
kept_more flags n r h =
    let next : n + 1 ≡ suc n = omega arith in
    ap (λ k. take k (set flags n r)) next ∙ take-suc-set flags n r h

-- seven flags, the last of which is put in its place
seven_is : (flags : List Bool) (r : Bool) → length flags ≡ 7
    → take 6 flags ++ r ∷ [] ≡ set flags 6 r
seven_is flags r long =
    sym (take-suc-set flags 6 r (omega (arith, long)))
    ∙ take_all 7 (set flags 6 r) (omega (arith, long, length-set flags 6 r))

-- the steps of a writer
pub few_at : (w : CodedWriter) (r : Bool) → w.count < 6
    → IsStep (kept w) r [] (take w.count w.flags ++ r ∷ [])
few_at w r few =
    subst (λ k. IsStep k r [] (take w.count w.flags ++ r ∷ [])) (sym (kept_few w (omega arith)))
    (step_few (take w.count w.flags) r (omega (arith, length-take w.count w.flags)))

six : (w : CodedWriter) → w.count ≡ 6 → kept w ≡ take 6 w.flags
six w is = kept_few w (omega arith) ∙ ap (λ n. take n w.flags) is

pub equal_at : (w : CodedWriter) (r : Bool) → w.count ≡ 6 → longest r (set w.flags 6 r) ≡ 7
    → IsStep (kept w) r [] (replicate 7 r)
equal_at w r is test =
    let all = seven_is w.flags r w.seven in
    let seven = set w.flags 6 r in
    let same : seven ≡ replicate 7 r = sym (take_all 7 seven (omega (arith, w.seven, length-set w.flags 6 r)))
    ∙ subst (λ n. take n seven ≡ replicate n r) test (stretch_equal 63 r seven) in
    subst (λ k. IsStep k r [] (replicate 7 r)) (sym (six w is))
    (step_equal 7 (take 6 w.flags) r refl (all ∙ same))

pub seven_at : (w : CodedWriter) (r : Bool) → w.count ≡ 6 → longest r (set w.flags 6 r) ≢ 7
    → IsStep (kept w) r (bits_byte (set w.flags 6 r) ∷ []) []
seven_at w r is test =
    let all = seven_is w.flags r w.seven in
    subst (λ k. IsStep k r (bits_byte (set w.flags 6 r) ∷ []) []) (sym (six w is))
    (subst (λ x. IsStep (take 6 w.flags) r (bits_byte x ∷ []) []) all
    (step_seven (take 6 w.flags) r (omega (arith, length-take 6 w.flags, w.seven))
    (subst (λ x. longest r x ≢ 7) (sym all) test)))

pub ends_at : (w : CodedWriter) (r : Bool) → 7 ≤ w.count → not (beq w.received r) ≡ true
    → IsStep (kept w) r (run_byte w.received w.count ∷ []) (r ∷ [])
ends_at w r many test =
    subst (λ k. IsStep k r (run_byte w.received w.count ∷ []) (r ∷ [])) (sym (kept_run w many))
    (step_ends w.count w.received r many (omega (arith, w.few)) (differs w.received r test))

pub full_at : (w : CodedWriter) (r : Bool) → w.count ≡ 62 → not (beq w.received r) ≡ false
    → IsStep (kept w) r (run_byte r 63 ∷ []) []
full_at w r almost test =
    subst (λ k. IsStep k r (run_byte r 63 ∷ []) []) (sym (kept_run w (omega arith)))
    (subst (λ x. IsStep (replicate w.count w.received) x (run_byte x 63 ∷ []) [])
    (equals w.received r test) (step_full w.count w.received almost))

pub grows_at : (w : CodedWriter) (r : Bool) → 7 ≤ w.count → w.count < 62
    → not (beq w.received r) ≡ false
    → IsStep (kept w) r [] (replicate (w.count + 1) w.received)
grows_at w r many short test =
    subst (λ k. IsStep k r [] (replicate (w.count + 1) w.received)) (sym (kept_run w many))
    (subst (λ x. IsStep (replicate w.count w.received) x [] (replicate (w.count + 1) w.received))
    (equals w.received r test) (step_grows w.count w.received short))

-- what a writer stands for after a step
pub stands_on : (w v : CodedWriter) (r : Bool) (more : List ℕ) (next flags : List Bool)
    (cs : List ℕ) → IsStep (kept w) r more next → kept v ≡ next → Stands w flags cs
    → Stands v (flags ++ r ∷ []) (cs ++ decided (kept w ++ r ∷ []))
stands_on w v r more next flags cs step keeps stands = record {
  so_far = λ later.
      ap coded_of (append_assoc flags (r ∷ []) later) ∙ stands.so_far (r ∷ later)
      ∙ ap (λ x. cs ++ x) (step.goes_on later)
      ∙ sym (append_assoc cs more (coded_of (next ++ later)))
      ∙ ap (λ x. (cs ++ x) ++ coded_of (next ++ later)) (sym step.decides)
      ∙ ap (λ x. (cs ++ decided (kept w ++ r ∷ [])) ++ coded_of (x ++ later)) (sym keeps);
}

-- what a step writes
pub byte_put : (c byte : ℕ) (s : Spot) (answer : Result Spot NoRoom) → byte < 256 → byte ≡ c
    → put (big_bytes 1 byte) s ≡ answer → put (c ∷ []) s ≡ answer
byte_put c byte s answer small is written =
    ap (λ f. put f s) (ap (λ x. x ∷ []) (sym is) ∙ sym (big_bytes_1 byte small)) ∙ written

pub step_put : (k : List Bool) (r : Bool) (c : ℕ) (next : List Bool) (byte : ℕ) (s : Spot)
    (answer : Result Spot NoRoom) → IsStep k r (c ∷ []) next → byte < 256 → byte ≡ c
    → put (big_bytes 1 byte) s ≡ answer → put (decided (k ++ r ∷ [])) s ≡ answer
step_put k r c next byte s answer step small is written =
    ap (λ f. put f s) step.decides ∙ byte_put c byte s answer small is written

pub step_none : (k : List Bool) (r : Bool) (next : List Bool) (s : Spot) → IsStep k r [] next
    → put (decided (k ++ r ∷ [])) s ≡ Ok s
step_none k r next s step = ap (λ f. put f s) step.decides ∙ put_none s

-- the runs of fewer than seven flags, one after the other
few_next : (rest behind : List Bool) (f : Bool) (n : ℕ) → Some f ≡ slice_get rest 0
    → length rest < 7 → n ≡ longest f rest → behind ≡ drop n rest
    → coded_of rest ≡ run_byte f n ∷ coded_of behind
few_next rest behind f n first few long back =
    let cons = first_of f rest first in
    ap coded_of cons.1 ∙ few_first f cons.0 (subst (λ x. length x < 7) cons.1 few)
    ∙ ap (λ x. run_byte f (longest f x) ∷ coded_of (drop (longest f x) x)) (sym cons.1)
    ∙ ap (λ k. run_byte f k ∷ coded_of (drop k rest)) (sym long)
    ∙ ap (λ x. run_byte f n ∷ coded_of x) (sym back)

pub few_on : (rest behind : List Bool) (f : Bool) (n byte : ℕ) (s t : Spot)
    → Some f ≡ slice_get rest 0 → length rest < 7 → n ≡ longest f rest → byte < 256
    → byte ≡ run_byte f n → behind ≡ drop n rest → put (big_bytes 1 byte) s ≡ Ok t
    → puts (singles (coded_of rest)) s ≡ puts (singles (coded_of behind)) t
few_on rest behind f n byte s t first few long small is back written =
    ap (λ cs. puts (singles cs) s) (few_next rest behind f n first few long back)
    ∙ ap (λ x. then_put x (puts (singles (coded_of behind))))
    (byte_put (run_byte f n) byte s (Ok t) small is written)

pub few_refused : (rest : List Bool) (f : Bool) (n byte : ℕ) (s : Spot) (e : NoRoom)
    → Some f ≡ slice_get rest 0 → length rest < 7 → n ≡ longest f rest → byte < 256
    → byte ≡ run_byte f n → put (big_bytes 1 byte) s ≡ Err e
    → puts (singles (coded_of rest)) s ≡ Err e
few_refused rest f n byte s e first few long small is refused =
    ap (λ cs. puts (singles cs) s) (few_next rest (drop n rest) f n first few long refl)
    ∙ ap (λ x. then_put x (puts (singles (coded_of (drop n rest)))))
    (byte_put (run_byte f n) byte s (Err e) small is refused)

pub few_done : (rest : List Bool) (s : Spot) → None ≡ slice_get rest 0
    → puts (singles (coded_of rest)) s ≡ Ok s
few_done [] s none = ap (λ cs. puts (singles cs) s) coded_of-nil
few_done (f ∷ rest) s none = absurd (cc)

-- what is written at the end
then_none : (answer : Result Spot NoRoom) → then_put answer (puts []) ≡ answer
then_none (Ok s) = refl
then_none (Err e) = refl

pub last_put : (w : CodedWriter) (byte : ℕ) (s : Spot) (answer : Result Spot NoRoom)
    → 7 ≤ w.count → byte < 256 → byte ≡ run_byte w.received w.count
    → put (big_bytes 1 byte) s ≡ answer → puts (singles (coded_of (kept w))) s ≡ answer
last_put w byte s answer many small is written =
    let c = run_byte w.received w.count in
    ap (λ x. puts (singles (coded_of x)) s) (kept_run w many)
    ∙ ap (λ cs. puts (singles cs) s)
    (last_piece w.count w.received (omega arith) (omega (arith, w.few)))
    ∙ then_none (put (c ∷ []) s) ∙ byte_put c byte s answer small is written

pub last_few : (w : CodedWriter) (flags : List Bool) (s : Spot) (answer : Result Spot NoRoom)
    → w.count < 7 → flags ≡ take w.count w.flags → puts (singles (coded_of flags)) s ≡ answer
    → puts (singles (coded_of (kept w))) s ≡ answer
last_few w flags s answer few is written =
    ap (λ x. puts (singles (coded_of x)) s) (kept_few w few ∙ sym is) ∙ written

joined_singles : (cs : List ℕ) → joined (singles cs) ≡ cs
joined_singles [] = refl
joined_singles (c ∷ cs) = ap (λ t. c ∷ t) (joined_singles cs)

pub all_written : (w : CodedWriter) (flags : List Bool) (cs before : List ℕ) (s t : Spot)
    → Stands w flags cs → s.before ≡ before ++ cs → puts (singles (coded_of (kept w))) s ≡ Ok t
    → t.before ≡ before ++ coded_of flags
all_written w flags cs before s t stands is written =
    let last = coded_of (kept w) in
    let filled = puts_filled (singles last) s t written in
    filled.before_is ∙ ap (λ x. s.before ++ x) (joined_singles last) ∙ ap (λ x. x ++ last) is
    ∙ append_assoc before cs last
    ∙ ap (λ x. before ++ (cs ++ coded_of x)) (sym (append-nil (kept w)))
    ∙ ap (λ x. before ++ x) (sym (stands.so_far []))
    ∙ ap (λ x. before ++ coded_of x) (append-nil flags)

-- every flag is one of the steps of a writer
record SomeStep (w : CodedWriter) (r : Bool) : Type 0 where
  cs : List ℕ
  next : List Bool
  step : IsStep (kept w) r cs next

step_of : (w : CodedWriter) (r : Bool) → SomeStep w r
step_of w r = elim (cases_lt w.count 6) [
  | inl few ↦
      record { cs = []; next = take w.count w.flags ++ r ∷ []; step = few_at w r few }
  | inr more ↦ elim (cases_lt w.count 7) [
    | inl six ↦ at_six w r (omega arith)
    | inr many ↦ at_run w r many (beq w.received r) refl
  ]
]
  where
    at_six : (w : CodedWriter) (r : Bool) → w.count ≡ 6 → SomeStep w r
    at_six w r is =
        let short = longest_within r (set w.flags 6 r) in
        elim (cases_lt (longest r (set w.flags 6 r)) 7) [
          | inl less ↦
              record { cs = bits_byte (set w.flags 6 r) ∷ []; next = []; step = seven_at w r is (λ e. omega arith) }
          | inr all ↦
              record { cs = []; next = replicate 7 r; step = equal_at w r is (omega (arith, all, short, w.seven, length-set w.flags 6 r)) }
        ]

    at_run : (w : CodedWriter) (r : Bool) → 7 ≤ w.count → (same : Bool) → beq w.received r ≡ same
        → SomeStep w r
    at_run w r many false is =
        record { cs = run_byte w.received w.count ∷ []; next = r ∷ []; step = ends_at w r many (ap not is) }
    at_run w r many true is = elim (cases_lt w.count 62) [
      | inl short ↦
          record { cs = []; next = replicate (w.count + 1) w.received; step = grows_at w r many short (ap not is) }
      | inr almost ↦
          record { cs = run_byte r 63 ∷ []; next = []; step = full_at w r (omega (arith, almost, w.few)) (ap not is) }
    ]

-- one flag more of a list
pub loop_on : (whole from : List ℕ) (w v : CodedWriter) (r : Bool) (left behind : List Bool)
    (s t : Spot) → left ≡ r ∷ behind → IsUnderWay whole (coded_of (kept w ++ left)) from s
    → Stands v (kept w ++ r ∷ []) ([] ++ decided (kept w ++ r ∷ []))
    → put (decided (kept w ++ r ∷ [])) s ≡ Ok t
    → IsUnderWay whole (coded_of (kept v ++ behind)) from t
loop_on whole from w v r left behind s t is way stands written =
    under_way_on whole (decided (kept w ++ r ∷ [])) (coded_of (kept v ++ behind)) from s t
    (subst (λ x. IsUnderWay whole x from s) (ap (λ x. coded_of (kept w ++ x)) is
    ∙ ap coded_of (sym (append_assoc (kept w) (r ∷ []) behind)) ∙ stands.so_far behind) way)
    written

-- where its byte finds no place, the list has more bytes than there are places
pub loop_short : (whole from : List ℕ) (w : CodedWriter) (r : Bool) (left behind : List Bool)
    (s : Spot) (e : NoRoom) → left ≡ r ∷ behind
    → IsUnderWay whole (coded_of (kept w ++ left)) from s
    → put (decided (kept w ++ r ∷ [])) s ≡ Err e → length from < length whole
loop_short whole from w r left behind s e is way refused =
    let some = step_of w r in
    under_way_short whole some.cs (coded_of (some.next ++ behind)) from s e
    (subst (λ x. IsUnderWay whole x from s) (ap (λ x. coded_of (kept w ++ x)) is
    ∙ some.step.goes_on behind) way)
    (ap (λ f. put f s) (sym some.step.decides) ∙ refused)

-- a writer that went through the flags that it keeps
pub itself : (w : CodedWriter) → Stands w (kept w) []
itself w = record { so_far = λ later. refl }

-- bytes one after the other
pub bytes_on : (whole cs from : List ℕ) (s t : Spot) → IsUnderWay whole cs from s
    → puts (singles cs) s ≡ Ok t → IsUnderWay whole [] from t
bytes_on whole [] from s t way written =
    let same : s ≡ t = cc in
    subst (λ x. IsUnderWay whole [] from x) same way
bytes_on whole (c ∷ cs) from s t way written =
    let m = then_ok (put (c ∷ []) s) (puts (singles cs)) t written in
    bytes_on whole cs from m.0 t (under_way_on whole (c ∷ []) cs from s m.0 way m.1) m.2

short_at : (whole field cs from : List ℕ) (s : Spot) (e : NoRoom)
    → IsUnderWay whole (field ++ cs) from s → (answer : Result Spot NoRoom)
    → put field s ≡ answer
    → ((t : Spot) → IsUnderWay whole cs from t → puts (singles cs) t ≡ Err e
    → length from < length whole)
    → then_put answer (puts (singles cs)) ≡ Err e → length from < length whole
short_at whole field cs from s e way (Ok t) one later refused =
    later t (under_way_on whole field cs from s t way one) refused
short_at whole field cs from s e way (Err d) one later refused =
    under_way_short whole field cs from s d way one

pub bytes_short : (whole cs from : List ℕ) (s : Spot) (e : NoRoom) → IsUnderWay whole cs from s
    → puts (singles cs) s ≡ Err e → length from < length whole
bytes_short whole [] from s e way refused = absurd (cc)
bytes_short whole (c ∷ cs) from s e way refused =
    short_at whole (c ∷ []) cs from s e way (put (c ∷ []) s) refl
    (λ t next rest. bytes_short whole cs from t e next rest) refused

-- what is left to be written when no flag is left
pub end_way : (whole from : List ℕ) (w : CodedWriter) (left : List Bool) (s : Spot) → left ≡ []
    → IsUnderWay whole (coded_of (kept w ++ left)) from s
    → IsUnderWay whole (coded_of (kept w)) from s
end_way whole from w left s none way =
    subst (λ x. IsUnderWay whole x from s) (ap coded_of (ap (λ x. kept w ++ x) none
    ∙ append-nil (kept w))) way
