-- The channel at a place among those that a request lists: it stands so far ahead of where a search has
-- come.
use Rattle.std.proofs.Common.{◌≡◌, ℕ, zero, suc, ◌+◌, ◌-◌, ◌<◌, List, [], ◌∷◌, length, drop, slice_get, Option, Some, refl, sym, ap, ◌∙◌, arith}
use Rattle.std.proofs.Math.Seq.{drop-cons}
use Rattle.std.proofs.lemmas.Bool.{eq-eqb, ne_eqb}
use Rattle.std.proofs.lemmas.Option.{get_or_from_slice_get, slice_get_within}
use Rattle.mt_base.specs.declared.kinds.Kind.{Kind}
use Rattle.soft_sync.specs.declared.row.Listing.{Listing}
use Rattle.soft_sync.specs.declared.row.Row.{Row}
use Rattle.soft_sync.specs.Exchanges.{channels_at}
use Rattle.soft_sync.specs.Table.{exchanges_from, listed_by}
use Rattle.soft_sync.proofs.Answering.{length-exchanges}

abbrev Listings : Type 0
Listings = List (ℕ × Listing)

front : (es : Listings) (at : ℕ) (e : ℕ × Listing) → slice_get es at ≡ Some e → drop at es ≡ e ∷ drop (at + 1) es
front es at e h =
    let next : suc at ≡ at + 1 = omega arith in
    drop-cons es at e (slice_get_within es at e h) ∙ ap (λ x. x ∷ drop (suc at) es) (get_or_from_slice_get es at e e h)
    ∙ ap (λ n. e ∷ drop n es) next

-- one that the request lists
mine : (number : ℕ) (es : Listings) (at : ℕ) (e : ℕ × Listing) → slice_get es at ≡ Some e → (e.1).number ≡ number
    → listed_by number (drop at es) ≡ (e.0, (e.1).kind) ∷ listed_by number (drop (at + 1) es)
mine number es at e h is = ap (listed_by number) (front es at e h) ∙ rw (eq-eqb (e.1).number number is) refl

other : (number : ℕ) (es : Listings) (at : ℕ) (e : ℕ × Listing) → slice_get es at ≡ Some e → ((e.1).number ≡ number → ⊥)
    → listed_by number (drop at es) ≡ listed_by number (drop (at + 1) es)
other number es at e h isnt = ap (listed_by number) (front es at e h) ∙ rw (ne_eqb (e.1).number number isnt) refl

pub found : (number : ℕ) (es : Listings) (at ahead : ℕ) (e : ℕ × Listing) (wanted : Option (ℕ × Kind)) → slice_get (listed_by number (drop at es)) ahead ≡ wanted
    → slice_get es at ≡ Some e → (e.1).number ≡ number → ahead ≡ 0 → Some (e.0, (e.1).kind) ≡ wanted
found number es at ahead e wanted k h is none =
    sym (ap (λ t. slice_get t 0) (mine number es at e h is)) ∙ ap (slice_get (listed_by number (drop at es))) (sym none) ∙ k

one_less : (n : ℕ) → (n ≡ 0 → ⊥) → n ≡ suc (n - 1)
one_less n some = omega (arith, some)

pub passed : (number : ℕ) (es : Listings) (at ahead : ℕ) (e : ℕ × Listing) (wanted : Option (ℕ × Kind)) → slice_get (listed_by number (drop at es)) ahead ≡ wanted
    → slice_get es at ≡ Some e → (e.1).number ≡ number → (ahead ≡ 0 → ⊥) → slice_get (listed_by number (drop (at + 1) es)) (ahead - 1) ≡ wanted
passed number es at ahead e wanted k h is some =
    sym (ap (λ t. slice_get t (suc (ahead - 1))) (mine number es at e h is)) ∙ ap (slice_get (listed_by number (drop at es))) (sym (one_less ahead some)) ∙ k

pub left_alone : (number : ℕ) (es : Listings) (at ahead : ℕ) (e : ℕ × Listing) (wanted : Option (ℕ × Kind)) → slice_get (listed_by number (drop at es)) ahead ≡ wanted
    → slice_get es at ≡ Some e → ((e.1).number ≡ number → ⊥) → slice_get (listed_by number (drop (at + 1) es)) ahead ≡ wanted
left_alone number es at ahead e wanted k h isnt = ap (λ t. slice_get t ahead) (sym (other number es at e h isnt)) ∙ k

-- ---- a request of the table

channels_are : (number first : ℕ) (rows : List Row) (es : Listings) → number < length rows → channels_at number (exchanges_from first rows es) ≡ listed_by (first + number) es
channels_are number first [] es h = absurd (omega (arith, h))
channels_are zero first (row ∷ rows) es h = let same : first ≡ first + 0 = omega arith in ap (λ n. listed_by n es) same
channels_are (suc number) first (row ∷ rows) es h =
    let same : first + 1 + number ≡ first + suc number = omega arith in
    channels_are number (first + 1) rows es (omega (arith, h)) ∙ ap (λ n. listed_by n es) same

pub channels_in : (number : ℕ) (rows : List Row) (es : Listings) → number < length (exchanges_from 0 rows es) → channels_at number (exchanges_from 0 rows es) ≡ listed_by number es
channels_in number rows es h =
    let same : 0 + number ≡ number = omega arith in
    channels_are number 0 rows es (omega (arith, h, length-exchanges 0 rows es)) ∙ ap (λ n. listed_by n es) same
