-- Lemmas on the cutting of contents into pieces: each content has one.
use Rattle.std.proofs.Common.{◌≡◌, ℕ, zero, suc, ◌≤◌, List, [], ◌∷◌, ◌++◌, length, take, drop, map, All, refl, sym, ap, ◌∙◌, arith, length-take, length-drop}
use Rattle.std.specs.Prelude.{flat_map}
use Rattle.std.specs.List.{concat}
use Rattle.std.proofs.lemmas.List.{take-append-drop, length-map}
use Rattle.std.proofs.lemmas.List.Elements.{All-map, All-weaker}
use Rattle.file_messages.specs.Files.{Message, File, Carried, IsName, IsPiece, messages_of, file_of}
use Rattle.file_messages.specs.Written.{AreFull, IsInFull, AreWritten}

-- at most so many pieces of k bytes
abbrev pub cut : ℕ → ℕ → List ℕ → List (List ℕ)
cut k zero bytes = []
cut k (suc n) [] = []
cut k (suc n) (b ∷ bytes) = take k (b ∷ bytes) ∷ cut k n (drop k (b ∷ bytes))

pub cut_joins : (k n : ℕ) (bytes : List ℕ) → k ≡ 65536 → length bytes ≤ n → concat (cut k n bytes) ≡ bytes
cut_joins k zero [] is few = refl
cut_joins k zero (b ∷ bytes) is few = absurd (omega (arith, few))
cut_joins k (suc n) [] is few = refl
cut_joins k (suc n) (b ∷ bytes) is few =
    let l = length-drop k (b ∷ bytes) in
    ap (λ t. take k (b ∷ bytes) ++ t) (cut_joins k n (drop k (b ∷ bytes)) is (omega (arith, l, is, few))) ∙ take-append-drop k (b ∷ bytes)

one_more : (k n : ℕ) (piece rest : List ℕ) → IsPiece piece → (1 ≤ length rest → length piece ≡ 65536) → length rest ≤ n → AreFull (cut k n rest) → AreFull (piece ∷ cut k n rest)
one_more k zero piece [] good full few others = good
one_more k zero piece (b ∷ rest) good full few others = absurd (omega (arith, few))
one_more k (suc n) piece [] good full few others = good
one_more k (suc n) piece (b ∷ rest) good full few others = (full (omega arith), others)

pub cut_full : (k n : ℕ) (bytes : List ℕ) → k ≡ 65536 → length bytes ≤ n → AreFull (cut k n bytes)
cut_full k zero bytes is few = tt
cut_full k (suc n) [] is few = tt
cut_full k (suc n) (b ∷ bytes) is few =
    let l = length-drop k (b ∷ bytes) in
    let m = length-take k (b ∷ bytes) in
    let less : length (drop k (b ∷ bytes)) ≤ n = omega (arith, l, is, few) in
    one_more k n (take k (b ∷ bytes)) (drop k (b ∷ bytes)) (omega (arith, m, is), omega (arith, m, is)) (λ some. omega (arith, m, l, is, some)) less (cut_full k n (drop k (b ∷ bytes)) is less)

abbrev carry : File → Carried
carry f = record { name = f.name; pieces = cut 65536 (length f.content) f.content }

abbrev file_with : List ℕ → List ℕ → File
file_with name content = record { name = name; content = content }

carried_back : (fs : List File) → fs ≡ map file_of (map carry fs)
carried_back [] = refl
carried_back (f ∷ fs) =
    ap (λ t. t ∷ fs) (ap (file_with f.name) (sym (cut_joins 65536 (length f.content) f.content refl (omega arith)))) ∙ ap (λ t. file_of (carry f) ∷ t) (carried_back fs)

pub each_written : (fs : List File) → All (λ (f : File). IsName f.name) fs → length fs ≤ 256 → (ms : List Message) × AreWritten ms fs
each_written fs good few = let l = length-map fs carry in (
  flat_map messages_of (map carry fs) ++ ([] ∷ []),
  record {
    carried = map carry fs;
    messages_are = refl;
    files_are = carried_back fs;
    are_good = All-map IsInFull carry fs (All-weaker (λ (f : File). IsName f.name) (λ f. IsInFull (carry f)) (λ f name. (name, cut_full 65536 (length f.content) f.content refl (omega arith))) fs good);
    are_few = omega (arith, l, few);
  },
)
