-- The bytes that an end hands out behind others.
use borrow.Rule.Slice.PartMut.{post_of}
use Rattle.std.proofs.Common.{◌≡◌, ℕ, ◌+◌, ◌-◌, ◌≤◌, List, [], ◌++◌, length, take, drop, replicate, Option, Some, None, sym, ap, ◌∙◌, arith, append-nil, length-append}
use Rattle.std.proofs.Math.Seq.{drop-length, take-append_seam, take-length}
use Rattle.std.proofs.lemmas.List.{length-drop, length-replicate, length-take, take_min}
use Rattle.end_pair.specs.Moving.{needed, up_to}

-- no more are needed than wait
pub few_needed : (limit : Option ℕ) (kept waiting : ℕ) → needed limit kept waiting ≤ waiting
few_needed None kept waiting = omega arith
few_needed (Some limit) kept waiting = omega arith

-- no more are offered than there are
pub few_offered : (limit : Option ℕ) (bytes : List ℕ) → length (up_to limit bytes) ≤ length bytes
few_offered None bytes = omega arith
few_offered (Some limit) bytes = omega (arith, length-take limit bytes)

whole_take : (n : ℕ) (xs : List ℕ) → length xs ≤ n → take n xs ≡ xs
whole_take n xs h = sym (take_min n xs) ∙ ap (λ k. take k xs) (omega (arith, h)) ∙ take-length xs

past : (kept : ℕ) (xs : List ℕ) → post_of kept (length xs - kept) xs ≡ []
past kept xs = ap (λ n. drop n (drop kept xs)) (sym (length-drop kept xs)) ∙ drop-length (drop kept xs)

-- zeros behind what was there are replaced by what was handed out
pub replaced : (size kept more : ℕ) (old now out items : List ℕ) → kept ≡ length old → now ≡ take (kept + more) old ++ replicate (kept + more - kept) 0 → length out ≡ more → size ≡ kept + more
    → take size ((take kept now ++ (out ++ post_of kept (length now - kept) now)) ++ drop (length (take kept now ++ (out ++ post_of kept (length now - kept) now))) items) ≡ old ++ out
replaced size kept more old now out items kept_is now_is out_is size_is =
    let zeros : List ℕ = replicate (kept + more - kept) 0 in
    let all : now ≡ old ++ zeros = now_is ∙ ap (λ xs. xs ++ zeros) (whole_take (kept + more) old (omega (arith, kept_is))) in
    let front : take kept now ≡ old = ap (take kept) all ∙ ap (λ n. take n (old ++ zeros)) kept_is ∙ take-append_seam old zeros in
    let none : post_of kept (length now - kept) now ≡ [] = past kept now in
    let new : take kept now ++ (out ++ post_of kept (length now - kept) now) ≡ old ++ out = ap (λ xs. xs ++ (out ++ post_of kept (length now - kept) now)) front ∙ ap (λ xs. old ++ (out ++ xs)) none ∙ ap (λ xs. old ++ xs) (append-nil out) in
    ap (λ xs. take size (xs ++ drop (length (take kept now ++ (out ++ post_of kept (length now - kept) now))) items)) new
    ∙ ap (λ n. take n ((old ++ out) ++ drop (length (take kept now ++ (out ++ post_of kept (length now - kept) now))) items)) (omega (arith, size_is, kept_is, out_is, length-append old out))
    ∙ take-append_seam (old ++ out) (drop (length (take kept now ++ (out ++ post_of kept (length now - kept) now))) items)

-- so long is what lies behind them
pub behind_long : (kept more : ℕ) (old now : List ℕ) → kept ≡ length old → now ≡ take (kept + more) old ++ replicate (kept + more - kept) 0 → length (take (length now - kept) (drop kept now)) ≡ more
behind_long kept more old now kept_is now_is =
    let zeros : List ℕ = replicate (kept + more - kept) 0 in
    let all : now ≡ old ++ zeros = now_is ∙ ap (λ xs. xs ++ zeros) (whole_take (kept + more) old (omega (arith, kept_is))) in
    let size : length now ≡ kept + more = omega (arith, ap (λ (xs : List ℕ). length xs) all, length-append old zeros, kept_is, length-replicate {A = ℕ} (kept + more - kept) 0) in
    omega (arith, length-take (length now - kept) (drop kept now), length-drop kept now, size)
