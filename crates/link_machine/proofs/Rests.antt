-- What stands behind what was written to a buffer.
use Rattle.std.proofs.Common.{◌≡◌, ℕ, ◌+◌, ◌-◌, ◌≤◌, List, ◌++◌, length, take, drop, sym, ap, ◌∙◌, arith, length-drop, length-take-le}
use Rattle.std.proofs.lemmas.List.{drop-drop, drop-append-le, take-append-drop}
use Rattle.std.proofs.Math.Seq.{drop-append-add}

-- what is the same from a place on is so from a later one on
pub same_later : (xs ys : List ℕ) (a b : ℕ) → a ≤ b → drop a xs ≡ drop a ys → drop b xs ≡ drop b ys
same_later xs ys a b le same =
    let place : a + (b - a) ≡ b = omega (arith, le) in
    ap (λ k. drop k xs) (sym place) ∙ sym (drop-drop (b - a) a xs) ∙ ap (drop (b - a)) same
    ∙ drop-drop (b - a) a ys ∙ ap (λ k. drop k ys) place

-- the front of a buffer is written
pub behind_chunk : (out part : List ℕ) (room n : ℕ) → n ≤ room → length part ≡ room
    → room ≤ length out → drop n part ≡ drop n (take room out)
    → drop n (part ++ drop room out) ≡ drop n out
behind_chunk out part room n within whole long same =
    drop-append-le n part (drop room out) (omega (arith, within, whole))
    ∙ ap (λ xs. xs ++ drop room out) same
    ∙ sym (drop-append-le n (take room out) (drop room out)
    (omega (arith, within, length-take-le room out long)))
    ∙ ap (drop n) (take-append-drop room out)

-- a part is written behind the head
pub behind_part : (mid part : List ℕ) (size head n : ℕ) → length mid ≡ size → head + n ≤ size
    → length part ≡ length (take (size - head) (drop head mid))
    → drop n part ≡ drop n (take (size - head) (drop head mid))
    → drop (head + n) (take head mid ++ (part ++ drop (size - head) (drop head mid)))
    ≡ drop (head + n) mid
behind_part mid part size head n long within whole same =
    let back = part ++ drop (size - head) (drop head mid) in
    let room : size - head ≤ length (drop head mid) = omega (arith, long, length-drop head mid) in
    let size_is : length part ≡ size - head =
    whole ∙ length-take-le (size - head) (drop head mid) room in
    let front : length (take head mid) ≡ head =
    length-take-le head mid (omega (arith, long, within)) in
    ap (λ k. drop (k + n) (take head mid ++ back)) (sym front)
    ∙ drop-append-add (take head mid) back n
    ∙ behind_chunk (drop head mid) part (size - head) n (omega (arith, within)) size_is room same
    ∙ drop-drop n head mid
