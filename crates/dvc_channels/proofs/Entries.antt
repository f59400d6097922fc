-- Lemmas on the entries of a table of channels: what waits at them, and what one change leaves.
use Rattle.std.proofs.Common.{◌≡◌, ℕ, ◌+◌, ◌<◌, ◌≤◌, Bool, true, false, cond, nat_eq, List, [], ◌∷◌, ◌++◌, length, Some, None, IfSome, IsSome, refl, sym, ap, ◌∙◌, subst, is_some, arith}
use Rattle.std.specs.Prelude.{flat_map}
use Rattle.std.specs.Cmp.{nat_eq_equiv}
use Rattle.std.specs.List.{IsDistinct}
use Rattle.std.specs.Map.{lookup, set_value, keys_of}
use Rattle.std.proofs.lemmas.List.{length-append}
use Rattle.std.proofs.lemmas.List.Concat.{flat_map-append}
use Rattle.std.proofs.lemmas.Map.Entries.{none_past_head}
use Rattle.std.proofs.lemmas.Map.Keys.{IsDistinct-tail}
use Rattle.std.proofs.lemmas.Map.{lookup-set_value, keys-set_value, length-set_value, lookup-none}
use Rattle.dvc_channels.specs.Acts.{weight}
use Rattle.dvc_channels.specs.Table.{Kept, IsCounted, IsFair}

abbrev pub Entries : Type 0
Entries = List (ℕ × Kept)

-- the messages that wait at all entries
abbrev pub all_whole : Entries → List (List ℕ)
all_whole es = flat_map (λ c. (c.1).whole) es

pub weight-append : (xs ys : List (List ℕ)) → weight (xs ++ ys) ≡ weight xs + weight ys
weight-append [] ys = omega arith
weight-append (x ∷ xs) ys = let rest = weight-append xs ys in omega arith

-- what waits, where one entry is written
pub weight_written : (id : ℕ) (old new : Kept) (es : Entries) → lookup (nat_eq id) es ≡ Some old
    → weight (all_whole (set_value (nat_eq id) es new)) + weight old.whole ≡ weight (all_whole es) + weight new.whole
weight_written id old new [] h = cc
weight_written id old new (x ∷ es) h = by (nat_eq id x.0) h (weight_written id old new es)
  where
    by : (b : Bool) → cond b (Some x.1) (lookup (nat_eq id) es) ≡ Some old
        → (lookup (nat_eq id) es ≡ Some old → weight (all_whole (set_value (nat_eq id) es new)) + weight old.whole ≡ weight (all_whole es) + weight new.whole)
        → weight (all_whole (cond b ((x.0, new) ∷ es) (x ∷ set_value (nat_eq id) es new))) + weight old.whole ≡ weight ((x.1).whole ++ all_whole es) + weight new.whole
    by true h others =
        let same : x.1 ≡ old = cc in
        omega (arith, weight-append new.whole (all_whole es), weight-append (x.1).whole (all_whole es), ap (λ (k : Kept). weight k.whole) same)
    by false h others =
        omega (arith, weight-append (x.1).whole (all_whole (set_value (nat_eq id) es new)), weight-append (x.1).whole (all_whole es), others h)

-- what waits at one entry is part of what waits at all
pub weight_at : (id : ℕ) (k : Kept) (es : Entries) → lookup (nat_eq id) es ≡ Some k → weight k.whole ≤ weight (all_whole es)
weight_at id k [] h = absurd (let clash : None ≡ Some k = h in cc)
weight_at id k (x ∷ es) h = by (nat_eq id x.0) h (weight_at id k es)
  where
    by : (b : Bool) → cond b (Some x.1) (lookup (nat_eq id) es) ≡ Some k → (lookup (nat_eq id) es ≡ Some k → weight k.whole ≤ weight (all_whole es))
        → weight k.whole ≤ weight ((x.1).whole ++ all_whole es)
    by true h others =
        let same : x.1 ≡ k = cc in
        omega (arith, weight-append (x.1).whole (all_whole es), ap (λ (k : Kept). weight k.whole) same)
    by false h others = omega (arith, weight-append (x.1).whole (all_whole es), others h)

-- writing what an entry was changes nothing
pub same_written : (id : ℕ) (k : Kept) (es : Entries) → lookup (nat_eq id) es ≡ Some k → set_value (nat_eq id) es k ≡ es
same_written id k [] h = refl
same_written id k (x ∷ es) h = by (nat_eq id x.0) h (same_written id k es)
  where
    by : (b : Bool) → cond b (Some x.1) (lookup (nat_eq id) es) ≡ Some k → (lookup (nat_eq id) es ≡ Some k → set_value (nat_eq id) es k ≡ es)
        → cond b ((x.0, k) ∷ es) (x ∷ set_value (nat_eq id) es k) ≡ x ∷ es
    by true h others = let same : x.1 ≡ k = cc in ap (λ y. (x.0, y) ∷ es) (sym same)
    by false h others = ap (λ t. x ∷ t) (others h)

-- an entry that is looked up is among those behind the first, where the first has another id
pub behind_first : (id : ℕ) (x : ℕ × Kept) (k : Kept) (es : Entries) → IsDistinct nat_eq (keys_of (x ∷ es)) → lookup (nat_eq id) es ≡ Some k → nat_eq id x.0 ≡ false
behind_first id x k es distinct h = by (nat_eq id x.0) refl
  where
    by : (b : Bool) → nat_eq id x.0 ≡ b → nat_eq id x.0 ≡ false
    by false e = e
    by true e =
        let none : lookup (nat_eq id) es ≡ None = lookup-none (nat_eq id) es (none_past_head nat_eq_equiv id x es distinct e) in
        absurd (let clash : None ≡ Some k = sym none ∙ h in cc)

-- what a function gives at the ids in order is what waits, where it gives what waits at each
pub all_whole_is : (f : ℕ → List (List ℕ)) (es : Entries) → IsDistinct nat_eq (keys_of es) → ((id : ℕ) (k : Kept) → lookup (nat_eq id) es ≡ Some k → f id ≡ k.whole)
    → flat_map f (keys_of es) ≡ all_whole es
all_whole_is f [] distinct each = refl
all_whole_is f (x ∷ es) distinct each =
    let first : f x.0 ≡ (x.1).whole = each x.0 x.1 (rw (nat_eq_equiv.refl x.0) refl) in
    let behind : (id : ℕ) (k : Kept) → lookup (nat_eq id) es ≡ Some k → f id ≡ k.whole = λ id k h. each id k (rw (behind_first id x k es distinct h) h) in
    let rest : flat_map f (keys_of es) ≡ all_whole es = all_whole_is f es (IsDistinct-tail nat_eq x.0 (keys_of es) distinct) behind in
    cc

-- a message under way is fair at each entry, where it is at the one that is written
pub parts_written : (id : ℕ) (k : Kept) (es new : Entries) → ((q : ℕ) → lookup (nat_eq q) new ≡ cond (nat_eq id q) (Some k) (lookup (nat_eq q) es)) → IsFair k.part
    → ((q : ℕ) → IfSome (lookup (nat_eq q) es) (λ o. IsFair o.part)) → (q : ℕ) → IfSome (lookup (nat_eq q) new) (λ o. IsFair o.part)
parts_written id k es new at fair parts q = subst (λ o. IfSome o (λ o. IsFair o.part)) (sym (at q)) (by (nat_eq id q))
  where
    by : (b : Bool) → IfSome (cond b (Some k) (lookup (nat_eq q) es)) (λ o. IsFair o.part)
    by true = fair
    by false = parts q

-- a message under way is fair at an entry
pub fair_at : (id : ℕ) (k : Kept) (es : Entries) (count : ℕ) → IsCounted (record { channels = es; waiting = count }) → lookup (nat_eq id) es ≡ Some k → IsFair k.part
fair_at id k es count h is = subst (λ o. IfSome o (λ o. IsFair o.part)) is (h.parts id)

-- the count and the room after an entry is written
pub counted_written : (id : ℕ) (old new : Kept) (es after : Entries) (waiting now room left : ℕ) → IsCounted (record { channels = es; waiting = waiting }) × (256 ≤ length es + room)
    → lookup (nat_eq id) es ≡ Some old → after ≡ set_value (nat_eq id) es new → left ≡ room → IsFair new.part → now + weight old.whole ≡ waiting + weight new.whole
    → IsCounted (record { channels = after; waiting = now }) × (256 ≤ length after + left)
counted_written id old new es after waiting now room left h is written same fair sum =
    let long : length after ≡ length es = ap (λ (l : Entries). length l) written ∙ length-set_value (nat_eq id) es new in
    let keys : keys_of after ≡ keys_of es = ap (λ (l : Entries). keys_of l) written ∙ keys-set_value (nat_eq id) es new in
    let some : IsSome (lookup (nat_eq id) es) = ap is_some is in (
      record {
        counted = omega (arith, weight_written id old new es is, ap (λ (l : Entries). weight (all_whole l)) written, (h.0).counted);
        few = omega (arith, (h.0).few);
        distinct = subst (IsDistinct nat_eq) (sym keys) (h.0).distinct;
        parts = parts_written id new es after (λ q. ap (λ (l : Entries). lookup (nat_eq q) l) written ∙ lookup-set_value nat_eq_equiv (nat_eq id) (nat_eq_equiv.congr id) q new es some) fair (h.0).parts;
      },
      omega arith,
    )

-- and after an entry at which nothing waits is added
pub counted_added : (id : ℕ) (k : Kept) (es after : Entries) (waiting room left : ℕ) → IsCounted (record { channels = es; waiting = waiting }) × (256 ≤ length es + room)
    → ((q : ℕ) → lookup (nat_eq q) after ≡ cond (nat_eq id q) (Some k) (lookup (nat_eq q) es)) → after ≡ es ++ (id, k) ∷ [] → IsDistinct nat_eq (keys_of after) → length es < 256 → room ≤ left + 1
    → k.whole ≡ [] → k.part ≡ None → IsCounted (record { channels = after; waiting = waiting }) × (256 ≤ length after + left)
counted_added id k es after waiting room left h at added distinct few spare nothing none =
    let long : length after ≡ length es + 1 = ap (λ (l : Entries). length l) added ∙ length-append es ((id, k) ∷ []) in
    let all : weight (all_whole after) ≡ weight (all_whole es) + weight (k.whole ++ []) =
    ap (λ (l : Entries). weight (all_whole l)) added ∙ ap weight (flat_map-append (λ c. (c.1).whole) es ((id, k) ∷ [])) ∙ weight-append (all_whole es) (k.whole ++ []) in
    let empty : weight (k.whole ++ []) ≡ 0 = ap (λ l. weight (l ++ [])) nothing in (
      record {
        counted = omega (arith, all, empty, (h.0).counted);
        few = omega (arith, long);
        distinct = distinct;
        parts = parts_written id k es after at (subst IsFair (sym none) tt) (h.0).parts;
      },
      omega (arith, long),
    )
