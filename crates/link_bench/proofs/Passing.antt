-- Calls of a link, one after the other.
use Rattle.std.proofs.Common.{◌≡◌, ℕ, List, [], ◌++◌, ◌+◌, take, drop, sym, ap, subst, ◌∙◌, append_assoc, append-nil, ◌≤◌, arith, length, length-drop, ◌-◌}
use Rattle.std.proofs.lemmas.List.{drop-take, take-take, take_all, take-append-drop}
use Rattle.mt_base.specs.Trace.{Trace}
use Rattle.carrier.specs.Entries.{Entry, given, pulled}
use Rattle.link_bench.specs.Passing.{Passes}

pub passes_nothing : (s : Trace Entry → Type 0) → Passes s s [] []
passes_nothing s t h = record { after = t; stands = h; gives = sym (append-nil (given t)); pulls = sym (append-nil (pulled t)) }

pub passes_then : (a b c : Trace Entry → Type 0) (x y z w : List ℕ) → Passes a b x y → Passes b c z w → Passes a c (x ++ z) (y ++ w)
passes_then a b c x y z w f g t h =
    let one = f t h in
    let two = g one.after one.stands in
    record {
      after = two.after;
      stands = two.stands;
      gives = two.gives ∙ ap (λ l. l ++ z) one.gives ∙ append_assoc (given t) x z;
      pulls = two.pulls ∙ ap (λ l. l ++ w) one.pulls ∙ append_assoc (pulled t) y w;
    }

-- all that is left behind the first bytes
pub whole_rest : (n : ℕ) (xs : List ℕ) → take (length xs - n) (drop n xs) ≡ drop n xs
whole_rest n xs = take_all (length xs - n) (drop n xs) (omega (arith, length-drop n xs))

-- the first bytes, and then the next ones
seam : (n k : ℕ) (xs : List ℕ) → take n xs ++ take k (drop n xs) ≡ take (n + k) xs
seam n k xs = sym (ap (λ l. take n xs ++ l) (drop-take n k xs)) ∙ ap (λ l. l ++ drop n (take (n + k) xs)) (sym (take-take n (n + k) xs (let e : n ≤ n + k = omega arith in e))) ∙ take-append-drop n (take (n + k) xs)

-- the next bytes are given
pub next_given : (a b c : Trace Entry → Type 0) (n k : ℕ) (xs ys : List ℕ) → ys ≡ drop n xs
    → Passes a b (take n xs) [] → Passes b c (take k ys) [] → Passes a c (take (n + k) xs) []
next_given a b c n k xs ys is p q =
    subst (λ l. Passes a c l []) (ap (λ l. take n xs ++ take k l) is ∙ seam n k xs) (passes_then a b c _ _ _ _ p q)

pub more_given : (a b c d e : Trace Entry → Type 0) (n k : ℕ) (xs ys : List ℕ) → ys ≡ drop n xs
    → Passes a b (take n xs) [] → Passes b c (take k ys) [] → Passes c d [] [] → Passes d e [] []
    → Passes a e (take (n + k) xs) []
more_given a b c d e n k xs ys is p q r s =
    subst (λ l. Passes a e l []) (append-nil (take (n + k) xs))
    (passes_then a c e _ _ _ _ (next_given a b c n k xs ys is p q) (passes_then c d e _ _ _ _ r s))

pub more_pulled : (a b c d e : Trace Entry → Type 0) (n k : ℕ) (xs ys : List ℕ) → ys ≡ drop n xs
    → Passes a b [] (take n xs) → Passes b c [] [] → Passes c d [] [] → Passes d e [] (take k ys)
    → Passes a e [] (take (n + k) xs)
more_pulled a b c d e n k xs ys is p q r s =
    let all = passes_then a d e _ _ _ _ (passes_then a b d _ _ _ _ p (passes_then b c d _ _ _ _ q r)) s in
    subst (λ l. Passes a e [] l) (ap (λ l. l ++ take k ys) (append-nil (take n xs)) ∙ ap (λ l. take n xs ++ take k l) is ∙ seam n k xs) all
