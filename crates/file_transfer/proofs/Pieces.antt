-- Lemmas on a piece of a file that is read bit by bit.
use Rattle.std.proofs.Common.{◌≡◌, ℕ, zero, suc, ◌+◌, ◌<◌, ◌≤◌, List, [], ◌++◌, ◌∷◌, length, take, drop, Option, Some, None, Result, Ok, Err, true, nat_lt, slice_set, rules, refl, sym, ap, ◌∙◌, add-one, arith, length-drop}
use Rattle.std.specs.Prelude.{IfOk, if◌then◌else◌}
use Rattle.std.proofs.lemmas.List.{append-nil, drop-drop, drop-take, drop_at, take-append-le, take_all, take-take, length-take-le}
use Rattle.std.proofs.Math.Seq.{take-add}
use Rattle.mt_outside.specs.Told.{added}
use Rattle.mt_outside.specs.Files.{Reads}
use Rattle.mt_outside.specs.declared.failed.Failed.{Failed}
use Rattle.file_transfer.specs.Reading.{Reaches, drafted}

pub reached : (content out room post : List ℕ) (from at n : ℕ) → at ≤ length room → n ≤ length out → 0 < length out → Reads content from n out → Reaches content from at n (take at room ++ (out ++ post))
reached content out room post from at n h k some r = record {
  bytes = ap (take n) (drop_at (take at room) (out ++ post) at (length-take-le at room h)) ∙ take-append-le n out post k ∙ r.bytes;
  within = r.within;
  some = λ there. r.some there some;
}

pub reached_ok : (result : Result ℕ Failed) (content out room post : List ℕ) (from at : ℕ) → at ≤ length room → 0 < length out → IfOk result (λ n. n ≤ length out) → IfOk result (λ n. Reads content from n out) → IfOk result (λ n. Reaches content from at n (take at room ++ (out ++ post)))
reached_ok (Ok n) content out room post from at h some bound r = reached content out room post from at n h bound some r
reached_ok (Err e) content out room post from at h some bound r = tt

-- bytes behind the first one
behind : (m : ℕ) (xs : List ℕ) → drop 1 (take (m + 1) xs) ≡ take m (drop 1 xs)
behind m xs = let e : m + 1 ≡ 1 + m = omega arith in ap (λ k. drop 1 (take k xs)) e ∙ drop-take 1 m xs

pub one_more : (content old new : List ℕ) (from count n : ℕ) → take (count + 1) new ≡ take (count + 1) old → take count (drop 1 old) ≡ take count (drop from content) → Reaches content (from + count) (count + 1) n new
    → take (count + n) (drop 1 new) ≡ take (count + n) (drop from content)
one_more content old new from count n front before r =
    let first : take count (drop 1 new) ≡ take count (drop from content) = sym (behind count new) ∙ ap (drop 1) front ∙ behind count old ∙ before in
    let there : drop count (drop 1 new) ≡ drop (count + 1) new = let e : 1 + count ≡ count + 1 = omega arith in drop-drop count 1 new ∙ ap (λ k. drop k new) e in
    let next : take n (drop count (drop 1 new)) ≡ take n (drop count (drop from content)) = ap (take n) there ∙ r.bytes ∙ ap (take n) (sym (drop-drop count from content)) in
    take-add count n (drop 1 new) ∙ ap (λ t. t ++ take n (drop count (drop 1 new))) first ∙ ap (λ t. take count (drop from content) ++ t) next ∙ sym (take-add count n (drop from content))

-- where the file ends, all of it is read
pub read_whole : (content : List ℕ) (from count room : ℕ) (bytes : List ℕ) → bytes ≡ take count (drop from content) → length content ≤ from + count → count ≤ room → bytes ≡ take room (drop from content)
read_whole content from count room bytes is ends fits =
    let short : length (drop from content) ≤ count = omega (arith, length-drop from content, ends) in
    let fits_too : length (drop from content) ≤ room = omega (arith, short, fits) in
    is ∙ take_all count (drop from content) short ∙ sym (take_all room (drop from content) fits_too)

pub front_kept : (old new first : List ℕ) (count : ℕ) → take (count + 1) new ≡ take (count + 1) old → take 1 old ≡ first → take 1 new ≡ first
front_kept old new first count now before =
    let few : 1 ≤ count + 1 = omega arith in
    sym (take-take 1 (count + 1) new few) ∙ ap (take 1) now ∙ take-take 1 (count + 1) old few ∙ before

-- the message of what was read behind its first byte
pub drafted_is : (n : ℕ) (room : List ℕ) → take 1 room ≡ 68 ∷ [] → n + 1 ≤ length room → (if nat_lt 0 n then Some (take (n + 1) room) else None) ≡ drafted (take n (drop 1 room))
drafted_is zero room first fits = refl
drafted_is (suc n) [] first fits = absurd (omega (arith, fits))
drafted_is (suc n) (x ∷ []) first fits = absurd (omega (arith, fits))
drafted_is (suc n) (x ∷ y ∷ room) first fits =
    let same : x ≡ 68 = cc in
    let above : nat_lt 0 (suc n) ≡ true = search rules in
    let whole : take (suc n + 1) (x ∷ y ∷ room) ≡ 68 ∷ y ∷ take n room = ap (λ k. take k (x ∷ y ∷ room)) (add-one (suc n)) ∙ ap (λ b. b ∷ y ∷ take n room) same in
    ap (λ b. if b then Some (take (suc n + 1) (x ∷ y ∷ room)) else None) above ∙ ap Some whole

pub piece_length : (n : ℕ) (room : List ℕ) → n + 1 ≤ length room → length (take n (drop 1 room)) ≡ n
piece_length n room fits = let few : n ≤ length (drop 1 room) = omega (arith, length-drop 1 room, fits) in length-take-le n (drop 1 room) few

pub first_set : (room : List ℕ) (x : ℕ) → 0 < length room → take 1 (slice_set room 0 x) ≡ x ∷ []
first_set [] x some = absurd (omega (arith, some))
first_set (y ∷ room) x some = refl

pub added_none : {A : Type 0} (told : Option (List A)) → added told [] ≡ told
added_none None = refl
added_none (Some list) = ap Some (append-nil list)
