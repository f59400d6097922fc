-- The message that is matched next, and its uniqueness.
use Rattle.std.proofs.Common.{◌≡◌, ◌≢◌, ℕ, ◌<◌, ◌≤◌, ◌+◌, inl, inr, Bool, false, List, length, map, get_or, slice_get, option_map, Some, sym, ap, ◌∙◌, arith}
use Rattle.std.proofs.lemmas.Bool.{cases_order}
use Rattle.std.proofs.lemmas.Option.{slice_get_within, slice_get-get_or, slice_get-map}
use Rattle.capture_check.specs.Messages.{Follows}

-- an element of a list that another one shows
pub shown_at : {X Y : Type 0} (show : X → Y) (xs : List X) (i : ℕ) (x : X) → i < length xs → x ≡ get_or xs i x → slice_get (map show xs) i ≡ Some (show x)
shown_at show xs i x few is =
    slice_get-map show xs i ∙ ap (option_map show) (slice_get-get_or xs i x few ∙ ap Some (sym is))

same_there : {X : Type 0} (a b : X) → Some a ≡ Some b → a ≡ b
same_there a b e = cc

-- another message stands in the only place that is looked at
pub not_next : (sent : List (List ℕ)) (lossy : Bool) (matched place : ℕ) (there message : List ℕ) → lossy ≡ false → place ≡ matched → slice_get sent place ≡ Some there → there ≢ message
    → (p : ℕ) → ¬ Follows sent lossy matched message p
not_next sent lossy matched place there message in_order is at other p f =
    other (same_there there message (sym at ∙ ap (slice_get sent) (is ∙ sym (f.next in_order)) ∙ f.is))

-- the places before the next one
pub one_more : (sent : List (List ℕ)) (matched place : ℕ) (there message : List ℕ) → slice_get sent place ≡ Some there → there ≢ message → ((p : ℕ) → matched ≤ p → p < place → slice_get sent p ≢ Some message)
    → (p : ℕ) → matched ≤ p → p < place + 1 → slice_get sent p ≢ Some message
one_more sent matched place there message at other others p behind before is =
    elim (cases_order p place) [
      | inr (inl less) ↦ others p behind less is
      | inl equal ↦ other (same_there there message (sym at ∙ ap (slice_get sent) (sym equal) ∙ is))
      | inr (inr more) ↦ absurd (omega arith)
    ]

-- no place is left
pub none_left : (sent : List (List ℕ)) (lossy : Bool) (matched place : ℕ) (message : List ℕ) → length sent ≤ place → ((p : ℕ) → matched ≤ p → p < place → slice_get sent p ≢ Some message)
    → (p : ℕ) → ¬ Follows sent lossy matched message p
none_left sent lossy matched place message all others p f =
    let few = slice_get_within sent p message f.is in
    others p f.behind (omega (arith, few, all)) f.is

-- one place follows at most
pub one_place : (sent : List (List ℕ)) (lossy : Bool) (matched : ℕ) (message : List ℕ) (p q : ℕ) → Follows sent lossy matched message p → Follows sent lossy matched message q → p ≡ q
one_place sent lossy matched message p q f g =
    elim (cases_order p q) [
      | inr (inl less) ↦ absurd (g.first p f.behind less f.is)
      | inl equal ↦ equal
      | inr (inr more) ↦ absurd (f.first q g.behind more g.is)
    ]
