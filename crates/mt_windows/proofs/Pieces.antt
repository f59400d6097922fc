-- Lemmas on the bytes given and the parts cut from them.
use Rattle.std.proofs.Common.{◌≡◌, ℕ, zero, suc, ◌+◌, ◌<◌, ◌⊎◌, inl, inr, Bool, true, false, eqb, ltb, cond, ◌||◌, ◌&&◌, [], ◌∷◌, ◌++◌, length, take, drop, min, refl, sym, ap, ◌∙◌, arith, length-append, length-take}
use Rattle.std.proofs.lemmas.List.{get_or_append_left, get_or_push, take_min, take-append-le, take-append-drop}
use Rattle.std.proofs.Math.Seq.{take-add}
use Rattle.std.proofs.lemmas.Bool.Decides.{nat_tests}
use Rattle.mt_base.specs.Trace.{Trace, Start, ◌▷◌}
use Rattle.mt_base.specs.Writing.{joined}
use Rattle.mt_base.proofs.Fill.{joined-push}
use Rattle.mt_windows.specs.Sending.Act.{Gave, Cut, Resent, ToldPart, ToldTransmission}
use Rattle.mt_windows.specs.Sending.{Act, Limits, given, cuts, pieces, waiting, piece, part_of, is_recent, settled, sum_of, is_open, queued, WasTold}
use Rattle.mt_windows.proofs.Counts.{pieces_count, pieces_within}
use Rattle.mt_windows.proofs.Sendings.{and_both}

-- ---- laws
pub joined_front : (l : Limits) (t : Trace Act) → joined (pieces l t) ≡ take (length (joined (pieces l t))) (given t)
joined_front l Start = refl
joined_front l (t ▷ Gave b) = joined_front l t ∙ sym (take-append-le (length (joined (pieces l t))) (given t) b (pieces_within l t))
joined_front l (t ▷ Cut) =
    let done = joined (pieces l t) in
    let x = take l.part (drop (length done) (given t)) in
    let size : length x ≡ min l.part (length (drop (length done) (given t))) = length-take l.part (drop (length done) (given t)) in
    let short : take (length x) (drop (length done) (given t)) ≡ x = ap (λ n. take n (drop (length done) (given t))) size ∙ take_min l.part (drop (length done) (given t)) in
    joined-push (pieces l t) x
    ∙ ap (λ xs. xs ++ x) (joined_front l t) ∙ ap (λ xs. take (length done) (given t) ++ xs) (sym short)
    ∙ sym (take-add (length done) (length x) (given t))
    ∙ ap (λ n. take n (given t)) (sym (ap length (joined-push (pieces l t) x) ∙ length-append done x))
joined_front l (t ▷ Resent p) = joined_front l t
joined_front l (t ▷ ToldPart p) = joined_front l t
joined_front l (t ▷ ToldTransmission j) = joined_front l t

pub pieces_and_rest : (l : Limits) (t : Trace Act) → joined (pieces l t) ++ waiting l t ≡ given t
pieces_and_rest l t = ap (λ xs. xs ++ waiting l t) (joined_front l t) ∙ take-append-drop (length (joined (pieces l t))) (given t)

pub or_true : (a b : Bool) → a || b ≡ true → (a ≡ true) ⊎ (b ≡ true)
or_true true b h = inl refl
or_true false b h = inr h

pub told_settled : (l : Limits) (t : Trace Act) (p : ℕ) → settled l t p ≡ true → WasTold t p
told_settled l Start p h = absurd (cc)
told_settled l (t ▷ Gave b) p h = told_settled l t p h
told_settled l (t ▷ Cut) p h = told_settled l t p h
told_settled l (t ▷ Resent q) p h = told_settled l t p h
told_settled l (t ▷ ToldPart q) p h = by_case (told_settled l t p) (or_true (settled l t p) (eqb p q && ltb q (cuts t)) h)
  where
    by_case : (settled l t p ≡ true → WasTold t p) → (settled l t p ≡ true) ⊎ (eqb p q && ltb q (cuts t) ≡ true) → (p ≡ q) ⊎ WasTold t p
    by_case old (inl e) = inr (old e)
    by_case old (inr e) = let same = (and_both (eqb p q) (ltb q (cuts t)) e).0 in inl (grind (arith, nat_tests))
told_settled l (t ▷ ToldTransmission j) p h = by_case (told_settled l t p) (or_true (settled l t p) (is_recent l t j && eqb (part_of t j) p) h)
  where
    by_case : (settled l t p ≡ true → WasTold t p) → (settled l t p ≡ true) ⊎ (is_recent l t j && eqb (part_of t j) p ≡ true) → (part_of t j ≡ p) ⊎ WasTold t p
    by_case old (inl e) = inr (old e)
    by_case old (inr e) = let same = (and_both (is_recent l t j) (eqb (part_of t j) p) e).1 in inl (grind (arith, nat_tests))

pub sum_alike : (f g : ℕ → ℕ) (n : ℕ) → ((p : ℕ) → p < n → f p ≡ g p) → sum_of f n ≡ sum_of g n
sum_alike f g zero h = refl
sum_alike f g (suc n) h = omega (arith, sum_alike f g n (λ p l. h p (omega (arith, l))), h n (omega arith))

pub pieces_sum : (l : Limits) (t : Trace Act) → length (joined (pieces l t)) ≡ sum_of (λ p. length (piece l t p)) (cuts t)
pieces_sum l Start = refl
pieces_sum l (t ▷ Gave b) = pieces_sum l t
pieces_sum l (t ▷ Cut) =
    let x = take l.part (drop (length (joined (pieces l t))) (given t)) in
    let up : cuts t + 1 ≡ suc (cuts t) = omega arith in
    let old = sum_alike (λ p. length (piece l (t ▷ Cut) p)) (λ p. length (piece l t p)) (cuts t) (λ p less. ap length (get_or_append_left (pieces l t) (x ∷ []) [] p (omega (arith, less, pieces_count l t)))) in
    let new : length (piece l (t ▷ Cut) (cuts t)) ≡ length x = ap length (get_or_push (pieces l t) x [] (cuts t) (pieces_count l t)) in
    ap length (joined-push (pieces l t) x) ∙ length-append (joined (pieces l t)) x
    ∙ (let e : length (joined (pieces l t)) + length x ≡ sum_of (λ p. length (piece l (t ▷ Cut) p)) (cuts t) + length (piece l (t ▷ Cut) (cuts t)) = omega (arith, pieces_sum l t, old, new) in e)
    ∙ sym (ap (sum_of (λ p. length (piece l (t ▷ Cut) p))) up)
pieces_sum l (t ▷ Resent p) = pieces_sum l t
pieces_sum l (t ▷ ToldPart p) = pieces_sum l t
pieces_sum l (t ▷ ToldTransmission j) = pieces_sum l t

pub sum_split : (f : ℕ → Bool) (g : ℕ → ℕ) (n : ℕ) → sum_of (λ p. cond (f p) (g p) 0) n + sum_of (λ p. cond (f p) 0 (g p)) n ≡ sum_of g n
sum_split f g zero = refl
sum_split f g (suc n) = omega (arith, sum_split f g n, by_test (f n))
  where
    by_test : (b : Bool) → cond b (g n) 0 + cond b 0 (g n) ≡ g n
    by_test true = omega arith
    by_test false = omega arith

pub all_bytes : (l : Limits) (t : Trace Act) → queued l t + sum_of (λ p. cond (is_open l t p) 0 (length (piece l t p))) (cuts t) ≡ length (given t)
all_bytes l t =
    omega (arith, sum_split (is_open l t) (λ p. length (piece l t p)) (cuts t), pieces_sum l t, ap length (pieces_and_rest l t), length-append (joined (pieces l t)) (waiting l t))
