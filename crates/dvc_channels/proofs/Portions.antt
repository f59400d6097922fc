-- A list in pieces of so many elements: how many they are, each of them, and the last.
use Rattle.std.proofs.Common.{◌≡◌, ℕ, zero, suc, ◌+◌, ◌-◌, ◌*◌, ◌/◌, ◌%◌, ◌<◌, ◌≤◌, min, List, [], ◌∷◌, ◌++◌, length, take, drop, slice_get, Some, refl, sym, ap, ◌∙◌, subst, arith}
use Rattle.std.specs.List.{All}
use Rattle.std.proofs.Math.Nat.{div-eq_of_lt-le}
use Rattle.std.proofs.lemmas.List.{append_assoc, length-drop, drop-drop, take_all, take-append-drop}
use Rattle.std.proofs.lemmas.List.Elements.{All-nil, All-cons}
use Rattle.std.proofs.lemmas.Nat.{mul-le}
use Rattle.std.proofs.lemmas.Grind.{div_ceil_times}
use Rattle.mt_base.specs.Writing.{joined}
use Rattle.dvc_channels.specs.Fragments.{cut_in, in_pieces}

pub length-cut_in : (count n : ℕ) (xs : List ℕ) → length (cut_in count n xs) ≡ count
length-cut_in zero n xs = refl
length-cut_in (suc count) n xs = ap suc (length-cut_in count n (drop n xs))

-- the piece at a place
pub cut_in_at : (count n : ℕ) (xs : List ℕ) (k : ℕ) → k < count → slice_get (cut_in count n xs) k ≡ Some (take n (drop (k * n) xs))
cut_in_at zero n xs k h = absurd (omega arith)
cut_in_at (suc count) n xs zero h = let start : 0 ≡ zero * n = omega arith in ap (λ i. Some (take n (drop i xs))) start
cut_in_at (suc count) n xs (suc k) h =
    let place : n + k * n ≡ suc k * n = omega arith in
    cut_in_at count n (drop n xs) k (omega arith)
    ∙ ap (λ t. Some (take n t)) (drop-drop (k * n) n xs ∙ ap (λ i. drop i xs) place)

-- what holds of n elements from any place on holds of each piece
pub each_cut : (P : List ℕ → Type 0) (count n : ℕ) (xs : List ℕ) → ((at : ℕ) → P (take n (drop at xs))) → All P (cut_in count n xs)
each_cut P zero n xs h = All-nil P
each_cut P (suc count) n xs h = All-cons P (take n xs) (cut_in count n (drop n xs)) (h 0)
    (each_cut P count n (drop n xs) (λ at. subst (λ t. P (take n t)) (sym (drop-drop at n xs)) (h (n + at))))

-- the pieces of a list are some and a last one, which is not empty, and join to the list
pub record IsJoin (pieces : List (List ℕ)) (xs : List ℕ) : Type 0 where
  pub middle : List (List ℕ)
  pub last : List ℕ
  pub pieces_are : pieces ≡ middle ++ last ∷ []
  pub some : 0 < length last
  pub whole : joined middle ++ last ≡ xs

one_before : (n : ℕ) (xs : List ℕ) (pieces : List (List ℕ)) → IsJoin pieces (drop n xs) → IsJoin (take n xs ∷ pieces) xs
one_before n xs pieces j = record {
  middle = take n xs ∷ j.middle;
  last = j.last;
  pieces_are = ap (λ t. take n xs ∷ t) j.pieces_are;
  some = j.some;
  whole = append_assoc (take n xs) (joined j.middle) j.last ∙ ap (λ t. take n xs ++ t) j.whole ∙ take-append-drop n xs;
}

pub cut_in_joins : (count n : ℕ) (xs : List ℕ) → count * n < length xs → length xs ≤ suc count * n → IsJoin (cut_in (suc count) n xs) xs
cut_in_joins zero n xs low high =
    let all : take n xs ≡ xs = take_all n xs (omega arith) in
    record { middle = []; last = take n xs; pieces_are = refl; some = omega (arith, ap length all); whole = all }
cut_in_joins (suc count) n xs low high =
    let left = length-drop n xs in
    one_before n xs (cut_in (suc count) n (drop n xs)) (cut_in_joins count n (drop n xs) (omega (arith, left)) (omega (arith, left)))

-- how many pieces a list has
pub record IsCount (count n long : ℕ) : Type 0 where
  pub others : ℕ
  pub count_is : count ≡ suc others
  pub low : others * n < long
  pub high : long ≤ suc others * n

pub count_of : (long n : ℕ) → 0 < n → 0 < long → IsCount ((long + (n - 1)) / n) n long
count_of long n some any = counted ((long + (n - 1)) / n) (omega arith) (omega arith)
  where
    counted : (count : ℕ) → count * n ≤ long + (n - 1) → long + (n - 1) < count * n + n → IsCount count n long
    counted zero low high = absurd (omega arith)
    counted (suc others) low high = record { others = others; count_is = refl; low = omega arith; high = omega arith }

pub in_pieces_join : (n : ℕ) (xs : List ℕ) → 0 < n → 0 < length xs → IsJoin (in_pieces n xs) xs
in_pieces_join n xs some any =
    let c = count_of (length xs) n some any in
    subst (λ count. IsJoin (cut_in count n xs) xs) (sym c.count_is) (cut_in_joins c.others n xs c.low c.high)

-- a piece of this number begins within the list
pub begins_within : (long n k : ℕ) → 0 < n → 0 < long → k < (long + (n - 1)) / n → k * n < long
begins_within long n k some any h =
    let c = count_of long n some any in
    omega (arith, mul-le k n c.others n (omega (arith, c.count_is)) (omega arith), c.low)

-- a quotient rounded up
pub rounded_up : (long n : ℕ) → 0 < n → (long + (n - 1)) / n ≡ long / n + min 1 (long % n)
rounded_up long n some =
    let b = div_ceil_times long n some in
    div-eq_of_lt-le n (omega (arith, b)) (omega (arith, b))
