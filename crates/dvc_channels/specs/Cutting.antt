-- The same as whole lists: which pieces a message is cut into, and what may follow.
use Rattle.std.specs.Prelude.{◌≡◌, ℕ, ◌+◌, ◌<◌, ◌≤◌, List, [], ◌∷◌, ◌++◌, length, map, Option, Some, None}
use Rattle.mt_base.specs.Writing.{joined}
use Rattle.dvc_channels.specs.Pieces.{Piece, First, Next, Part, goes_on}

-- a message in pieces: a lone one; a first one that has all its bytes; or a first one and further
-- ones, the last of which fills it
pub data IsCut : List Piece → List ℕ → Type 0 where
  lone : (bytes : List ℕ) → IsCut (Next bytes ∷ []) bytes
  at_once : (bytes : List ℕ) → IsCut (First (length bytes) bytes ∷ []) bytes
  filled : (first : List ℕ) (middle : List (List ℕ)) (last : List ℕ) → 0 < length last
      → IsCut (First (length (first ++ joined middle ++ last)) first ∷ map Next (middle ++ last ∷ [])) (first ++ joined middle ++ last)

-- messages in pieces, one behind the other
pub data AreCut : List Piece → List (List ℕ) → Type 0 where
  none : AreCut [] []
  more : (pieces rest : List Piece) (message : List ℕ) (messages : List (List ℕ))
      → IsCut pieces message → AreCut rest messages → AreCut (pieces ++ rest) (message ∷ messages)

-- the pieces of a message that is not whole yet
pub data IsBegun : List Piece → Option Part → Type 0 where
  nothing : IsBegun [] None
  begun : (total : ℕ) (first : List ℕ) (further : List (List ℕ)) → length (first ++ joined further) < total
      → IsBegun (First total first ∷ map Next further) (Some (record { total = total; bytes = first ++ joined further }))

-- pieces are those of these whole messages, and of this message under way
pub record Are (pieces : List Piece) (messages : List (List ℕ)) (part : Option Part) : Type 0 where
  pub cut : List Piece
  pub rest : List Piece
  pub pieces_are : pieces ≡ cut ++ rest
  pub whole : AreCut cut messages
  pub begun : IsBegun rest part

-- a piece may follow: no message begins inside another or has too few bytes told
abbrev pub MayFollow : Option Part → Piece → Type 0
MayFollow None (First total bytes) = length bytes ≤ total
MayFollow (Some part) (First total bytes) = ⊥
MayFollow None (Next bytes) = Unit {0}
MayFollow (Some part) (Next bytes) = length part.bytes + length bytes ≤ part.total

-- each piece may follow those before it
abbrev pub InOrder : Option Part → List Piece → Type 0
InOrder part [] = Unit {0}
InOrder part (piece ∷ pieces) = MayFollow part piece × InOrder (goes_on part piece) pieces
