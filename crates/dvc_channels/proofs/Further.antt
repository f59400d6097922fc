-- Pieces behind other pieces: what they make, and whether they may follow.
use Rattle.std.proofs.Common.{◌≡◌, List, [], ◌∷◌, ◌++◌, Option, refl, sym, ap, ◌∙◌}
use Rattle.std.proofs.lemmas.List.{append_assoc}
use Rattle.dvc_channels.specs.Pieces.{Piece, Part, goes_on, ended_by, under_way_from, messages_from}
use Rattle.dvc_channels.specs.Cutting.{InOrder}

-- further pieces add the messages that they make behind the message under way
pub messages_behind : (part : Option Part) (pieces more : List Piece)
    → messages_from part (pieces ++ more) ≡ messages_from part pieces ++ messages_from (under_way_from part pieces) more
messages_behind part [] more = refl
messages_behind part (piece ∷ pieces) more =
    ap (λ t. ended_by part piece ++ t) (messages_behind (goes_on part piece) pieces more)
    ∙ sym (append_assoc (ended_by part piece) (messages_from (goes_on part piece) pieces) (messages_from (under_way_from (goes_on part piece) pieces) more))

pub under_way_behind : (part : Option Part) (pieces more : List Piece)
    → under_way_from part (pieces ++ more) ≡ under_way_from (under_way_from part pieces) more
under_way_behind part [] more = refl
under_way_behind part (piece ∷ pieces) more = under_way_behind (goes_on part piece) pieces more

-- the first of pieces in order are in order
pub first_in_order : (part : Option Part) (pieces more : List Piece) → InOrder part (pieces ++ more) → InOrder part pieces
first_in_order part [] more h = tt
first_in_order part (piece ∷ pieces) more h = (h.0, first_in_order (goes_on part piece) pieces more h.1)

-- pieces in order, and others in order behind them
pub both_in_order : (part : Option Part) (pieces more : List Piece) → InOrder part pieces
    → InOrder (under_way_from part pieces) more → InOrder part (pieces ++ more)
both_in_order part [] more h k = k
both_in_order part (piece ∷ pieces) more h k = (h.0, both_in_order (goes_on part piece) pieces more h.1 k)
