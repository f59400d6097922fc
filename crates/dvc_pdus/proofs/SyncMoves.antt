-- Lemmas on the list of some channels, which is there where they are.
use Rattle.std.proofs.Common.{◌≡◌, ◌≢◌, ℕ, ◌+◌, ◌<◌, ◌^◌, ◌⊎◌, inl, inr, List, [], ◌∷◌, ◌++◌, length, map, refl, ap, ◌∙◌, subst, arith, append-nil}
use Rattle.std.specs.List.{All}
use Rattle.std.proofs.lemmas.List.{length-append}
use Rattle.std.proofs.lemmas.List.Elements.{All-cons, All-nil, All-head, All-tail}
use Rattle.std.proofs.lemmas.Grind.{flat_map-append}
use Rattle.std.proofs.lemmas.Bool.{cases_eq, ne_eqb, eq-eqb}
use Rattle.mt_base.specs.declared.kinds.Kind.{Kind}
use Rattle.mt_base.specs.declared.kinds.Kind.TheVariants.{Reliable, Lossy}
use Rattle.mt_base.specs.Writing.{joined}
use Rattle.mt_base.specs.Filling.{Filling, fills, then_fill}
use Rattle.mt_base.proofs.Fill.{joined-append}
use Rattle.mt_base.proofs.Filled.{fills-append}
use Rattle.dvc_pdus.specs.Moves.{channels_length}
use Rattle.dvc_pdus.specs.Value.{IsList, list_fields, lists_fields, list_to, lists_of}
use Rattle.dvc_pdus.proofs.SyncWriting.{list_length}

above : (ids : List ℕ) → length ids ≢ 0 → 0 < length ids
above ids some = omega arith

-- no channel, no list
pub channels_none : (kind : Kind) (ids : List ℕ) → length ids ≡ 0 → lists_fields (list_to kind ids) ≡ []
channels_none kind ids none = rw (eq-eqb (length ids) 0 none) refl

-- the list of some channels
pub channels_some : (kind : Kind) (ids : List ℕ) → 0 < length ids → lists_fields (list_to kind ids) ≡ list_fields (record { kind = kind; ids = ids })
channels_some kind ids some = rw (ne_eqb (length ids) 0 (λ e. omega arith)) (append-nil (list_fields (record { kind = kind; ids = ids })))

-- how many bytes it has
channels_bytes : (kind : Kind) (ids : List ℕ) → length (joined (lists_fields (list_to kind ids))) ≡ channels_length ids
channels_bytes kind ids =
    elim (cases_eq (length ids) 0) [
      | inl none ↦ ap (λ fs. length (joined fs)) (channels_none kind ids none) ∙ rw (eq-eqb (length ids) 0 none) refl
      | inr some ↦ ap (λ fs. length (joined fs)) (channels_some kind ids (above ids some)) ∙ list_length (record { kind = kind; ids = ids }) ∙ rw (ne_eqb (length ids) 0 some) refl
    ]

-- the fields of both lists
pub both_fields : (reliable lossy : List ℕ) → lists_fields (lists_of reliable lossy) ≡ lists_fields (list_to Reliable reliable) ++ lists_fields (list_to Lossy lossy)
both_fields reliable lossy = flat_map-append list_fields (list_to Reliable reliable) (list_to Lossy lossy)

pub both_bytes : (reliable lossy : List ℕ)
    → length (joined (lists_fields (lists_of reliable lossy))) ≡ channels_length reliable + channels_length lossy
both_bytes reliable lossy =
    let r = lists_fields (list_to Reliable reliable) in
    let l = lists_fields (list_to Lossy lossy) in
    ap (λ fs. length (joined fs)) (both_fields reliable lossy) ∙ ap length (joined-append r l) ∙ length-append (joined r) (joined l)
    ∙ ap (λ n. n + length (joined l)) (channels_bytes Reliable reliable) ∙ ap (λ n. channels_length reliable + n) (channels_bytes Lossy lossy)

pub both_filled : (reliable lossy : List ℕ) (s : Filling)
    → fills (lists_fields (lists_of reliable lossy)) s ≡ then_fill (fills (lists_fields (list_to Reliable reliable)) s) (fills (lists_fields (list_to Lossy lossy)))
both_filled reliable lossy s =
    ap (λ fs. fills fs s) (both_fields reliable lossy) ∙ fills-append (lists_fields (list_to Reliable reliable)) (lists_fields (list_to Lossy lossy)) s

-- what holds of two joined lists holds of each
all_front : {A : Type 0} (P : A → Type 0) (xs ys : List A) → All P (xs ++ ys) → All P xs
all_front P [] ys good = All-nil P
all_front P (x ∷ xs) ys good = All-cons P x xs (All-head P x (xs ++ ys) good) (all_front P xs ys (All-tail P x (xs ++ ys) good))

all_back : {A : Type 0} (P : A → Type 0) (xs ys : List A) → All P (xs ++ ys) → All P ys
all_back P [] ys good = good
all_back P (x ∷ xs) ys good = all_back P xs ys (All-tail P x (xs ++ ys) good)

-- a list has fewer than 2 ^ 16 ids
short_list : (kind : Kind) (ids : List ℕ) → All IsList (list_to kind ids) → length ids < 2 ^ 16
short_list kind ids = by_count ids (cases_eq (length ids) 0)
  where
    by_count : (ids : List ℕ) → (length ids ≡ 0) ⊎ (length ids ≢ 0) → All IsList (list_to kind ids) → length ids < 2 ^ 16
    by_count ids (inl none) good = omega arith
    by_count ids (inr some) good =
        let listed : list_to kind ids ≡ record { kind = kind; ids = ids } ∷ [] = rw (ne_eqb (length ids) 0 some) refl in
        (All-head IsList (record { kind = kind; ids = ids }) [] (subst (All IsList) listed good)).0

pub short_lists : (reliable lossy : List ℕ) → All IsList (lists_of reliable lossy) → (length reliable < 2 ^ 16) × (length lossy < 2 ^ 16)
short_lists reliable lossy good = (
  short_list Reliable reliable (all_front IsList (list_to Reliable reliable) (list_to Lossy lossy) good),
  short_list Lossy lossy (all_back IsList (list_to Reliable reliable) (list_to Lossy lossy) good),
)
