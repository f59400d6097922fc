-- Lemmas on bytes that are read and written piece by piece.
use Rattle.std.proofs.Common.{◌≡◌, ℕ, ◌+◌, ◌-◌, ◌<◌, ◌≤◌, inl, inr, List, [], ◌++◌, ◌∷◌, length, take, drop, replicate, Option, Some, None, refl, sym, ap, ◌∙◌, append_assoc, arith, length-drop}
use Rattle.std.proofs.lemmas.Grind.{replicate_next}
use Rattle.std.proofs.lemmas.List.{drop-drop}
use Rattle.std.proofs.Math.Seq.{take-add, take-length}
use Rattle.mt_outside.specs.Faults.{Rose}
use Rattle.mt_outside.specs.Told.{added}
use Rattle.mt_outside.specs.Files.{Reads}

-- a rise after a count that didn't fall
pub rose_after : (a b c : ℕ) → a ≤ b → Rose b c → Rose a c
rose_after a b c later (inl above) = inl (omega (arith, later, above))
rose_after a b c later (inr top) = inr top

-- what is told twice is told as one
pub added-added : {A : Type 0} (told : Option (List A)) (one two : List A) → added (added told one) two ≡ added told (one ++ two)
added-added None one two = refl
added-added (Some list) one two = ap Some (append_assoc list one two)

-- copies of a name that are told, and then one more
pub names_more : (told next last : Option (List (List ℕ))) (name : List ℕ) (k : ℕ) → next ≡ added told (replicate k name) → last ≡ added next (name ∷ []) → last ≡ added told (replicate (k + 1) name)
names_more told next last name k before now =
    now ∙ ap (λ t. added t (name ∷ [])) before ∙ added-added told (replicate k name) (name ∷ []) ∙ ap (added told) (sym (replicate_next k name))

-- one more piece of bytes is written
pub writes_on : (start told next : Option (List ℕ)) (bytes rest left : List ℕ) (n : ℕ)
    → length rest ≤ length bytes → rest ≡ drop (length bytes - length rest) bytes → told ≡ added start (take (length bytes - length rest) bytes)
    → n ≤ length rest → next ≡ added told (take n rest) → left ≡ drop n rest
    → (length left ≤ length bytes) × (left ≡ drop (length bytes - length left) bytes) × (next ≡ added start (take (length bytes - length left) bytes))
writes_on start told next bytes rest left n short back front fits more is =
    let k = length bytes - length rest in
    let long : length left ≡ length rest - n = ap length is ∙ length-drop n rest in
    let there : length bytes - length left ≡ k + n = omega (arith, long, fits, short) in
    let front_too : next ≡ added start (take (k + n) bytes) =
    more ∙ ap (λ t. added t (take n rest)) front ∙ added-added start (take k bytes) (take n rest) ∙ ap (added start) (ap (λ r. take k bytes ++ take n r) back ∙ sym (take-add k n bytes)) in
    let back_too : left ≡ drop (k + n) bytes = is ∙ ap (drop n) back ∙ drop-drop n k bytes in
    (omega (arith, long, short), rw there back_too, rw there front_too)

-- one more piece of the content is read
pub reads_on : (content bytes all out : List ℕ) (at place next n : ℕ) → at ≤ length content → bytes ≡ take at content → place ≡ at → Reads content place n out → n ≤ length out → all ≡ bytes ++ take n out → next ≡ at + n
    → (next ≤ length content) × (all ≡ take next content)
reads_on content bytes all out at place next n short front here r within is further =
    let piece : take n out ≡ take n (drop at content) = r.bytes ∙ ap (λ k. take n (drop k content)) here in
    let whole : all ≡ take (at + n) content = is ∙ ap (λ b. b ++ take n out) front ∙ ap (λ p. take at content ++ p) piece ∙ sym (take-add at n content) in
    (omega (arith, further, short, here, r.within), rw further whole)

-- a piece of no bytes into a buffer of some ends the content
pub reads_end : (content bytes out : List ℕ) (at place n : ℕ) → at ≤ length content → bytes ≡ take at content → place ≡ at → Reads content place n out → n ≡ 0 → 0 < length out → bytes ≡ content
reads_end content bytes out at place n short front here r none room =
    let at_end : at ≡ length content = grind (arith, r.some, short, none, room, here) in
    front ∙ ap (λ k. take k content) at_end ∙ take-length content
