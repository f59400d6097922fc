-- Pieces in order are those of whole messages, and of a message under way.
use Rattle.std.proofs.Common.{◌≡◌, ℕ, ◌+◌, ◌<◌, ◌≤◌, List, [], ◌∷◌, ◌++◌, length, map, Option, None, refl, sym, ap, ◌∙◌, subst, subst₂, inl, inr, arith}
use Rattle.std.proofs.lemmas.Bool.{cases_lt}
use Rattle.std.proofs.lemmas.List.{append_assoc, append-nil, map-append, length-append}
use Rattle.mt_base.specs.Writing.{joined}
use Rattle.mt_base.proofs.Fill.{joined-append}
use Rattle.dvc_channels.specs.Pieces.{Piece, First, Next, Part, goes_on, ended_by, part_of, whole_of, under_way_from, messages_from}
use Rattle.dvc_channels.specs.Cutting.{IsCut, lone, at_once, filled, AreCut, none, more, IsBegun, nothing, begun, Are, MayFollow, InOrder}
use Rattle.dvc_channels.proofs.Making.{going, short_part, short_whole, full_part, full_whole}

-- one more message behind the others
one_more : (pieces : List Piece) (whole : List (List ℕ)) → AreCut pieces whole → (last : List Piece) (message : List ℕ) → IsCut last message
    → AreCut (pieces ++ last) (whole ++ message ∷ [])
one_more _ _ none last message c = subst (λ p. AreCut p (message ∷ [])) (append-nil last) (more last [] message [] c none)
one_more _ _ (more pieces rest first others cut cuts) last message c =
    subst (λ p. AreCut p (first ∷ (others ++ message ∷ []))) (sym (append_assoc pieces rest last))
    (more pieces (rest ++ last) first (others ++ message ∷ []) cut (one_more rest others cuts last message c))

-- the pieces end with a message's last
ends : (cut last : List Piece) (whole : List (List ℕ)) (message : List ℕ) → AreCut cut whole → IsCut last message
    → Are (cut ++ last) (whole ++ message ∷ []) None
ends cut last whole message cuts c = record {
  cut = cut ++ last;
  rest = [];
  pieces_are = sym (append-nil (cut ++ last));
  whole = one_more cut whole cuts last message c;
  begun = nothing;
}

-- they end within a message
stays : (cut rest : List Piece) (whole : List (List ℕ)) (part : Option Part) → AreCut cut whole → IsBegun rest part
    → Are (cut ++ rest) (whole ++ []) part
stays cut rest whole part cuts b = record {
  cut = cut;
  rest = rest;
  pieces_are = refl;
  whole = subst (AreCut cut) (sym (append-nil whole)) cuts;
  begun = b;
}

-- they end with what they have of a message of this length
now_has : (cut last : List Piece) (whole : List (List ℕ)) (total : ℕ) (bytes : List ℕ) → AreCut cut whole
    → (total ≡ length bytes → IsCut last bytes) → (length bytes < total → IsBegun last (going total bytes)) → length bytes ≤ total
    → Are (cut ++ last) (whole ++ whole_of total bytes) (part_of total bytes)
now_has cut last whole total bytes cuts all some within = elim (cases_lt (length bytes) total) [
  | inl less ↦ rw (short_whole total bytes less, short_part total bytes less) (stays cut last whole (going total bytes) cuts (some less))
  | inr most ↦ (let is : total ≡ length bytes = omega arith in
      rw (full_whole total bytes is, full_part total bytes is) (ends cut last whole bytes cuts (all is)))
]

-- a first piece
first_comes : (cut : List Piece) (whole : List (List ℕ)) (total : ℕ) (bytes : List ℕ) → AreCut cut whole → length bytes ≤ total
    → Are (cut ++ First total bytes ∷ []) (whole ++ whole_of total bytes) (part_of total bytes)
first_comes cut whole total bytes cuts within = now_has cut (First total bytes ∷ []) whole total bytes cuts
    (λ is. subst (λ n. IsCut (First n bytes ∷ []) bytes) (sym is) (at_once bytes))
    (λ less. subst (λ t. IsBegun (First total bytes ∷ []) (going total t)) (append-nil bytes)
    (begun total bytes [] (omega (arith, ap length (append-nil bytes)))))
    within

-- a further piece of a message under way
next_comes : (cut : List Piece) (whole : List (List ℕ)) (total : ℕ) (first : List ℕ) (further : List (List ℕ)) (bytes : List ℕ) → AreCut cut whole
    → length (first ++ joined further) < total → length (first ++ joined further) + length bytes ≤ total
    → Are (cut ++ ((First total first ∷ map Next further) ++ Next bytes ∷ [])) (whole ++ whole_of total (first ++ joined further ++ bytes)) (part_of total (first ++ joined further ++ bytes))
next_comes cut whole total first further bytes cuts less within =
    let longer = length-append (first ++ joined further) bytes in
    let pieces : First total first ∷ map Next (further ++ bytes ∷ []) ≡ (First total first ∷ map Next further) ++ Next bytes ∷ [] =
    ap (λ t. First total first ∷ t) (map-append Next further (bytes ∷ [])) in
    let joins : first ++ joined (further ++ bytes ∷ []) ≡ first ++ joined further ++ bytes =
    ap (λ t. first ++ t) (joined-append further (bytes ∷ []) ∙ ap (λ t. joined further ++ t) (append-nil bytes))
    ∙ sym (append_assoc first (joined further) bytes) in
    now_has cut ((First total first ∷ map Next further) ++ Next bytes ∷ []) whole total (first ++ joined further ++ bytes) cuts
    (λ is. subst (λ p. IsCut p (first ++ joined further ++ bytes)) pieces
    (subst (λ n. IsCut (First n first ∷ map Next (further ++ bytes ∷ [])) (first ++ joined further ++ bytes)) (sym is)
    (filled first further bytes (omega (arith, longer)))))
    (λ part. subst₂ (λ p t. IsBegun p (going total t)) pieces joins
    (begun total first (further ++ bytes ∷ []) (omega (arith, ap length joins))))
    (omega (arith, longer))

-- a piece that may follow
comes : (cut : List Piece) (whole : List (List ℕ)) → AreCut cut whole → (rest : List Piece) (part : Option Part) → IsBegun rest part
    → (piece : Piece) → MayFollow part piece → Are (cut ++ (rest ++ piece ∷ [])) (whole ++ ended_by part piece) (goes_on part piece)
comes cut whole cuts _ _ nothing (First total bytes) h = first_comes cut whole total bytes cuts h
comes cut whole cuts _ _ nothing (Next bytes) h = ends cut (Next bytes ∷ []) whole bytes cuts (lone bytes)
comes cut whole cuts _ _ (begun total first further less) (First other bytes) h = elim h [ ]
comes cut whole cuts _ _ (begun total first further less) (Next bytes) h = next_comes cut whole total first further bytes cuts less h

-- pieces in order behind those of whole messages and of one under way
pub in_order_are : (before : List Piece) (whole : List (List ℕ)) (part : Option Part) (pieces : List Piece) → Are before whole part → InOrder part pieces
    → Are (before ++ pieces) (whole ++ messages_from part pieces) (under_way_from part pieces)
in_order_are before whole part [] a h = subst₂ (λ p w. Are p w part) (sym (append-nil before)) (sym (append-nil whole)) a
in_order_are before whole part (piece ∷ pieces) a h =
    let place : a.cut ++ (a.rest ++ piece ∷ []) ≡ before ++ piece ∷ [] =
    sym (append_assoc a.cut a.rest (piece ∷ [])) ∙ ap (λ p. p ++ piece ∷ []) (sym a.pieces_are) in
    let step : Are (before ++ piece ∷ []) (whole ++ ended_by part piece) (goes_on part piece) =
    subst (λ p. Are p (whole ++ ended_by part piece) (goes_on part piece)) place (comes a.cut whole a.whole a.rest part a.begun piece h.0) in
    subst₂ (λ p w. Are p w (under_way_from part (piece ∷ pieces)))
    (append_assoc before (piece ∷ []) pieces) (append_assoc whole (ended_by part piece) (messages_from (goes_on part piece) pieces))
    (in_order_are (before ++ piece ∷ []) (whole ++ ended_by part piece) (goes_on part piece) pieces step h.1)

-- pieces in order from the start
pub from_start : (pieces : List Piece) → InOrder None pieces → Are pieces (messages_from None pieces) (under_way_from None pieces)
from_start pieces h = in_order_are [] [] None pieces (record { cut = []; rest = []; pieces_are = refl; whole = none; begun = nothing }) h
