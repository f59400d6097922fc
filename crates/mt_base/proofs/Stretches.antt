-- Lemmas on stretches of equal flags.
use Rattle.std.proofs.Common.{◌≡◌, ◌≢◌, ℕ, zero, suc, ◌+◌, ◌<◌, ◌≤◌, Bool, true, false, not, cond, List, [], ◌∷◌, ◌++◌, length, take, drop, replicate, Some, slice_get, refl, ap, ◌∙◌, append-nil, arith}
use mathlib.Core.Bool.{beq}
use Rattle.std.specs.List.{prefix_len}
use Rattle.std.proofs.lemmas.List.{length-take, length-replicate}
use Rattle.std.proofs.lemmas.List.Sums.{prefix_len-le-length}
use Rattle.mt_base.specs.Longest.{longest, IsLongest}
use Rattle.mt_base.proofs.Lists.{heads}

-- how many of the next m flags are this one, up to the first that is not
abbrev pub stretch : ℕ → Bool → List Bool → ℕ
stretch m b fs = prefix_len (λ f. cond b f (not f)) (take m fs)

-- the stretch of a first flag is not empty
pub stretch_some : (m : ℕ) (f : Bool) (fs : List Bool) → 0 < m → 0 < stretch m f (f ∷ fs)
stretch_some zero f fs h = absurd (omega arith)
stretch_some (suc m) true fs h = omega arith
stretch_some (suc m) false fs h = omega arith

-- it is no longer than m
pub stretch_short : (m : ℕ) (f : Bool) (fs : List Bool) → stretch m f fs ≤ m
stretch_short m f fs = omega (
  arith,
  prefix_len-le-length (λ g. cond f g (not g)) (take m fs),
  length-take m fs,
)

-- all its flags are this one
pub stretch_equal : (m : ℕ) (b : Bool) (fs : List Bool)
    → take (stretch m b fs) fs ≡ replicate (stretch m b fs) b
stretch_equal zero b fs = refl
stretch_equal (suc m) b [] = refl
stretch_equal (suc m) true (true ∷ fs) = grind (arith, stretch_equal m true fs)
stretch_equal (suc m) true (false ∷ fs) = refl
stretch_equal (suc m) false (true ∷ fs) = refl
stretch_equal (suc m) false (false ∷ fs) = grind (arith, stretch_equal m false fs)

-- and of no greater number, up to m, all are
pub stretch_greatest : (m k : ℕ) (b : Bool) (fs : List Bool) → k ≤ m → take k fs ≡ replicate k b
    → k ≤ stretch m b fs
stretch_greatest m zero b fs h e = omega arith
stretch_greatest zero (suc k) b fs h e = absurd (omega arith)
stretch_greatest (suc m) (suc k) b [] h e = absurd (cc)
stretch_greatest (suc m) (suc k) true (true ∷ fs) h e =
    omega (arith, stretch_greatest m k true fs (omega arith) (cc))
stretch_greatest (suc m) (suc k) true (false ∷ fs) h e = absurd (cc)
stretch_greatest (suc m) (suc k) false (true ∷ fs) h e = absurd (cc)
stretch_greatest (suc m) (suc k) false (false ∷ fs) h e =
    omega (arith, stretch_greatest m k false fs (omega arith) (cc))

-- the computed stretch is the longest
pub longest_is : (b : Bool) (fs : List Bool) → IsLongest b (longest b fs) fs
longest_is b fs = record {
  equal = stretch_equal 63 b fs;
  short = stretch_short 63 b fs;
  greatest = λ m h e. stretch_greatest 63 m b fs h e;
}

-- and no other number is
pub longest_one : (b : Bool) (n : ℕ) (fs : List Bool) → IsLongest b n fs → n ≡ longest b fs
longest_one b n fs is =
    let other = longest_is b fs in
    let up : longest b fs ≤ n = is.greatest (longest b fs) other.short other.equal in
    let down : n ≤ longest b fs = other.greatest n is.short is.equal in
    omega arith

-- the first of some equal flags
pub first_is : (b : Bool) (n : ℕ) (fs : List Bool) → 0 < n → take n fs ≡ replicate n b
    → (rest : List Bool) × (fs ≡ b ∷ rest)
first_is b zero fs h e = absurd (omega arith)
first_is b (suc n) [] h e = absurd (cc)
first_is b (suc n) (f ∷ fs) h e = (fs, cc)

-- a list whose first item is known
pub first_of : (f : Bool) (fs : List Bool) → Some f ≡ slice_get fs 0
    → (rest : List Bool) × (fs ≡ f ∷ rest)
first_of f [] e = absurd (cc)
first_of f (g ∷ fs) e = (fs, cc)

-- copies and what follows them: the first flags, the others, and one copy more
take_copies : (n : ℕ) (b : Bool) (rest : List Bool) → take n (replicate n b ++ rest) ≡ replicate n b
take_copies zero b rest = refl
take_copies (suc n) b rest = ap (λ t. b ∷ t) (take_copies n b rest)

pub drop_copies : (n : ℕ) (b : Bool) (rest : List Bool) → drop n (replicate n b ++ rest) ≡ rest
drop_copies zero b rest = refl
drop_copies (suc n) b rest = drop_copies n b rest

pub copy_more : (n : ℕ) (b : Bool) (rest : List Bool)
    → replicate n b ++ b ∷ rest ≡ replicate (n + 1) b ++ rest
copy_more zero b rest = refl
copy_more (suc n) b rest =
    let next : suc (n + 1) ≡ suc n + 1 = omega arith in
    ap (λ t. b ∷ t) (copy_more n b rest) ∙ ap (λ k. replicate k b ++ rest) next

-- a stretch does not go on where another flag follows
ends : (n m : ℕ) (b r : Bool) (later : List Bool) → r ≢ b
    → take m (replicate n b ++ r ∷ later) ≡ replicate m b → m ≤ n
ends n zero b r later other e = omega arith
ends zero (suc m) b r later other e =
    absurd (other (heads r b (take m later) (replicate m b) e).0)
ends (suc n) (suc m) b r later other e =
    let rest = ends n m b r later other
    (heads b b (take m (replicate n b ++ r ∷ later)) (replicate m b) e).1 in
    omega arith

pub longest_ended : (n : ℕ) (b r : Bool) (later : List Bool) → n ≤ 63 → r ≢ b
    → IsLongest b n (replicate n b ++ r ∷ later)
longest_ended n b r later short other = record {
  equal = take_copies n b (r ∷ later);
  short = short;
  greatest = λ m h e. ends n m b r later other e;
}

-- nor where it is full
pub longest_full : (n : ℕ) (b : Bool) (rest : List Bool) → n ≡ 63
    → IsLongest b n (replicate n b ++ rest)
longest_full n b rest full = record {
  equal = take_copies n b rest;
  short = omega arith;
  greatest = λ m h e. omega arith;
}

-- nor where no flag follows
pub longest_last : (n : ℕ) (b : Bool) → n ≤ 63 → IsLongest b n (replicate n b ++ [])
longest_last n b short = record {
  equal = take_copies n b [];
  short = short;
  greatest = λ m h e.
      omega (
        arith,
        ap length e,
        length-take m (replicate n b ++ []),
        ap length (append-nil (replicate n b)),
        length-replicate n b,
        length-replicate m b,
      );
}

-- the test of two flags
pub differs : (b r : Bool) → not (beq b r) ≡ true → r ≢ b
differs true true e = absurd (cc)
differs false false e = absurd (cc)
differs true false e = λ f. cc
differs false true e = λ f. cc

pub equals : (b r : Bool) → not (beq b r) ≡ false → b ≡ r
equals true true e = refl
equals false false e = refl
equals true false e = cc
equals false true e = cc
