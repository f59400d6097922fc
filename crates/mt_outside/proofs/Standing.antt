-- Lemmas on files that tell what they still give.
use Rattle.std.proofs.Common.{◌≡◌, ℕ, ◌+◌, ◌-◌, ◌<◌, ◌≤◌, List, ◌++◌, length, take, drop, Option, Some, None, refl, sym, ap, ◌∙◌, subst, length-append, length-drop, arith}
use Rattle.std.proofs.lemmas.List.{drop-drop, length-take-le}
use Rattle.std.proofs.Math.Seq.{take-append_seam, drop-append_seam}
use Rattle.std.specs.Io.KnownBytes.{Consumes, IsAtEnd}
use Rattle.mt_outside.specs.Files.{Reads}
use Rattle.mt_outside.specs.Reading.{StandsAt}

-- what was left is the piece that was read and what is left now
rest_of : (left ys piece out : List ℕ) (n : ℕ) → piece ≡ take n out → n ≤ length out → left ≡ piece ++ ys → (take n left ≡ piece) × (drop n left ≡ ys) × (length left ≡ n + length ys)
rest_of left ys piece out n is fits split =
    let long : length piece ≡ n = ap length is ∙ length-take-le n out fits in (
      ap (take n) split ∙ ap (λ k. take k (piece ++ ys)) (sym long) ∙ take-append_seam piece ys,
      ap (drop n) split ∙ ap (λ k. drop k (piece ++ ys)) (sym long) ∙ drop-append_seam piece ys,
      ap length split ∙ length-append piece ys ∙ ap (λ k. k + length ys) long,
    )

-- what a read of n bytes into `out` does
abbrev Read : (old new : Option (List ℕ)) → (out : List ℕ) → ℕ → Type 0
Read old new out n = Consumes old new (take n out) × (n ≡ 0 → 0 < length out → IsAtEnd new)

at_place : (new : Option (List ℕ)) (content out : List ℕ) (at n : ℕ) → n ≤ length out → Read (Some (drop at content)) new out n → Reads content at n out × StandsAt new content (at + n)
at_place None content out at n fits read = absurd read.0
at_place (Some ys) content out at n fits read =
    let left = drop at content in
    let parts = rest_of left ys (take n out) out n refl fits read.0 in
    let back : length left ≡ length content - at = length-drop at content in
    let ended : n ≡ 0 → 0 < length out → length ys ≡ 0 = λ none room. ap length (read.1 none room) in (
      record {
        bytes = sym parts.0;
        within = omega (arith, parts.2, back);
        some = λ inside room. grind (arith, ended, parts.2, back, inside, room);
      },
      ap Some (sym parts.1 ∙ drop-drop n at content),
    )

-- a file that stands at a place gives the bytes from there on, and then stands behind them
pub reads_there : (old new : Option (List ℕ)) (content out : List ℕ) (at n : ℕ) → StandsAt old content at → n ≤ length out → Read old new out n → Reads content at n out × StandsAt new content (at + n)
reads_there old new content out at n stands fits read = at_place new content out at n fits (subst (λ o. Read o new out n) stands read)
