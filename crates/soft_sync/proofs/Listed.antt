-- Lemmas on what requests say of a channel: that is found at the one place where it is listed.
use Rattle.std.proofs.Common.{◌≡◌, inl, inr, ℕ, zero, suc, ◌+◌, ◌<◌, ◌≤◌, Bool, true, false, cond, nat_eq, List, [], ◌∷◌, length, All, Option, Some, None, option_map, refl, sym, ap, ◌∙◌, subst, arith}
use Rattle.std.specs.Cmp.{nat_eq_equiv}
use Rattle.std.specs.List.{IsDistinct}
use Rattle.std.specs.Option.{option_or}
use Rattle.std.specs.Map.{lookup, keys_of}
use Rattle.std.proofs.lemmas.Bool.{cases_eq, eq-eqb, ne_eqb}
use Rattle.std.proofs.lemmas.Map.{lookup-none}
use Rattle.std.proofs.lemmas.Map.Entries.{none_past_head}
use Rattle.std.proofs.lemmas.Map.Keys.{IsDistinct-tail}
use Rattle.mt_base.specs.declared.kinds.Kind.{Kind}
use Rattle.mt_base.specs.declared.kinds.Kind.TheVariants.{Reliable, Lossy}
use Rattle.soft_sync.specs.declared.kinds.Kinds.{Kinds}
use Rattle.soft_sync.specs.declared.row.Row.{Row}
use Rattle.soft_sync.specs.declared.row.Listing.{Listing}
use Rattle.soft_sync.specs.Exchanges.{no_kinds, if_among, listed, moved}
use Rattle.soft_sync.specs.Table.{listed_by, exchanges_from, IsKept}
use Rattle.std.proofs.lemmas.List.Elements.{All-head, All-tail}

abbrev pub Listings : Type 0
Listings = List (ℕ × Listing)

-- the kind of a listing, where it is of the request of this number
abbrev pub kind_if : ℕ → Option Listing → Option Kind
kind_if number None = None
kind_if number (Some l) = cond (nat_eq l.number number) (Some l.kind) None

-- a request lists a channel where the channel's listing is of it
pub in_request : (id k : ℕ) (es : Listings) → IsDistinct nat_eq (keys_of es) → lookup (nat_eq id) (listed_by k es) ≡ kind_if k (lookup (nat_eq id) es)
in_request id k [] distinct = refl
in_request id k (e ∷ es) distinct =
    by (nat_eq (e.1).number k) (nat_eq id e.0) refl refl (in_request id k es (IsDistinct-tail nat_eq e.0 (keys_of es) distinct))
    (λ h. lookup-none (nat_eq id) es (none_past_head nat_eq_equiv id e es distinct h))
  where
    by : (n q : Bool) → nat_eq (e.1).number k ≡ n → nat_eq id e.0 ≡ q → lookup (nat_eq id) (listed_by k es) ≡ kind_if k (lookup (nat_eq id) es)
        → (nat_eq id e.0 ≡ true → lookup (nat_eq id) es ≡ None)
        → lookup (nat_eq id) (cond n ((e.0, (e.1).kind) ∷ listed_by k es) (listed_by k es)) ≡ kind_if k (cond q (Some e.1) (lookup (nat_eq id) es))
    by true true n q others none = ap (λ b. cond b (Some (e.1).kind) (lookup (nat_eq id) (listed_by k es))) q ∙ sym (ap (λ b. cond b (Some (e.1).kind) None) n)
    by true false n q others none = ap (λ b. cond b (Some (e.1).kind) (lookup (nat_eq id) (listed_by k es))) q ∙ others
    by false true n q others none = others ∙ ap (λ o. kind_if k o) (none q) ∙ sym (ap (λ b. cond b (Some (e.1).kind) None) n)
    by false false n q others none = others

-- the listing is of one of so many requests from this number on
abbrev pub Within : ℕ → ℕ → Option Listing → Type 0
Within k count None = Unit {0}
Within k count (Some l) = (k ≤ l.number) × (l.number < k + count)

pub listed_is : (id k : ℕ) (rows : List Row) (es : Listings) (o : Option Listing) → lookup (nat_eq id) es ≡ o → IsDistinct nat_eq (keys_of es) → Within k (length rows) o
    → listed id (exchanges_from k rows es) ≡ option_map (λ (l : Listing). l.kind) o
listed_is id k [] es None is distinct within = refl
listed_is id k [] es (Some l) is distinct within = absurd (let a = within.0 in let b = within.1 in omega (arith, a, b))
listed_is id k (row ∷ rows) es None is distinct within =
    ap (λ t. option_or t (listed id (exchanges_from (k + 1) rows es))) (in_request id k es distinct ∙ ap (λ o. kind_if k o) is)
    ∙ listed_is id (k + 1) rows es None is distinct tt
listed_is id k (row ∷ rows) es (Some l) is distinct within = elim (cases_eq l.number k) [
  | inl e ↦ ap (λ t. option_or t (listed id (exchanges_from (k + 1) rows es)))
      (in_request id k es distinct ∙ ap (λ o. kind_if k o) is ∙ ap (λ b. cond b (Some l.kind) None) (eq-eqb l.number k e))
  | inr n ↦ ap (λ t. option_or t (listed id (exchanges_from (k + 1) rows es)))
      (in_request id k es distinct ∙ ap (λ o. kind_if k o) is ∙ ap (λ b. cond b (Some l.kind) None) (ne_eqb l.number k n))
      ∙ listed_is id (k + 1) rows es (Some l) is distinct (let a = within.0 in let b = within.1 in (omega (arith, a, n), omega (arith, b)))
]

-- no request past that of the listing speaks of the channel
none_moved : (id k : ℕ) (rows : List Row) (es : Listings) (l : Listing) → lookup (nat_eq id) es ≡ Some l → IsDistinct nat_eq (keys_of es) → l.number < k → moved id (exchanges_from k rows es) ≡ None
none_moved id k [] es l is distinct past = refl
none_moved id k (row ∷ rows) es l is distinct past =
    ap (λ t. option_or (if_among row.answer t) (moved id (exchanges_from (k + 1) rows es)))
    (in_request id k es distinct ∙ ap (λ o. kind_if k o) is ∙ ap (λ b. cond b (Some l.kind) None) (ne_eqb l.number k (λ e. omega (arith, past, e))))
    ∙ none_moved id (k + 1) rows es l is distinct (omega (arith, past))

-- the kinds that the answer of this row names
abbrev pub answer_at : ℕ → List Row → Kinds
answer_at number [] = no_kinds
answer_at zero (row ∷ rows) = row.answer
answer_at (suc number) (row ∷ rows) = answer_at number rows

or_none : (o : Option Kind) → option_or o None ≡ o
or_none None = refl
or_none (Some kind) = refl

pub moved_is : (id k n : ℕ) (rows : List Row) (es : Listings) (l : Listing) → lookup (nat_eq id) es ≡ Some l → IsDistinct nat_eq (keys_of es) → l.number ≡ k + n
    → moved id (exchanges_from k rows es) ≡ if_among (answer_at n rows) (Some l.kind)
moved_is id k n [] es l is distinct at = by (if_none l.kind)
  where
    if_none : (kind : Kind) → if_among no_kinds (Some kind) ≡ None
    if_none Reliable = refl
    if_none Lossy = refl

    by : if_among no_kinds (Some l.kind) ≡ None → None ≡ if_among no_kinds (Some l.kind)
    by h = sym h
moved_is id k zero (row ∷ rows) es l is distinct at =
    ap (λ t. option_or (if_among row.answer t) (moved id (exchanges_from (k + 1) rows es)))
    (in_request id k es distinct ∙ ap (λ o. kind_if k o) is ∙ ap (λ b. cond b (Some l.kind) None) (eq-eqb l.number k (omega (arith, at))))
    ∙ ap (λ t. option_or (if_among row.answer (Some l.kind)) t) (none_moved id (k + 1) rows es l is distinct (omega (arith, at)))
    ∙ or_none (if_among row.answer (Some l.kind))
moved_is id k (suc n) (row ∷ rows) es l is distinct at =
    ap (λ t. option_or (if_among row.answer t) (moved id (exchanges_from (k + 1) rows es)))
    (in_request id k es distinct ∙ ap (λ o. kind_if k o) is ∙ ap (λ b. cond b (Some l.kind) None) (ne_eqb l.number k (λ e. omega (arith, at, e))))
    ∙ moved_is id (k + 1) n rows es l is distinct (omega (arith, at))

pub unmoved : (id k : ℕ) (rows : List Row) (es : Listings) → lookup (nat_eq id) es ≡ None → IsDistinct nat_eq (keys_of es) → moved id (exchanges_from k rows es) ≡ None
unmoved id k [] es is distinct = refl
unmoved id k (row ∷ rows) es is distinct =
    ap (λ t. option_or (if_among row.answer t) (moved id (exchanges_from (k + 1) rows es))) (in_request id k es distinct ∙ ap (λ o. kind_if k o) is)
    ∙ unmoved id (k + 1) rows es is distinct

-- a listing is of a request that there is
pub number_at : (id n : ℕ) (es : Listings) (l : Listing) → All (λ (e : ℕ × Listing). (e.1).number < n) es → lookup (nat_eq id) es ≡ Some l → l.number < n
number_at id n [] l all h = cc
number_at id n (e ∷ es) l all h = by (nat_eq id e.0) h (number_at id n es l (All-tail (λ (e : ℕ × Listing). (e.1).number < n) e es all))
  where
    by : (b : Bool) → cond b (Some e.1) (lookup (nat_eq id) es) ≡ Some l → (lookup (nat_eq id) es ≡ Some l → l.number < n) → l.number < n
    by true h others = let f : e.1 ≡ l = cc in subst (λ (x : Listing). x.number < n) f (All-head (λ (e : ℕ × Listing). (e.1).number < n) e es all)
    by false h others = others h

pub number_of : (id : ℕ) (rows : List Row) (es : Listings) (l : Listing) → IsKept rows es → lookup (nat_eq id) es ≡ Some l → Within 0 (length rows) (Some l)
number_of id rows es l kept is = let n = number_at id (length rows) es l kept.numbered is in (omega arith, omega (arith, n))
