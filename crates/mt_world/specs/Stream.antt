-- What a stream of bytes is as frames.
use Rattle.std.specs.Prelude.{◌≡◌, ℕ, List, [], ◌∷◌, ◌++◌, take, None, Some}
use Rattle.mt_base.specs.declared.kinds.Role.{Role}
use Rattle.mt_base.specs.Writing.{joined}
use Rattle.dvc_pdus.specs.Value.{Pdu}
use Rattle.mt_world.specs.Frames.{frame_of}

-- each of these lists of bytes is the frame of the PDU at its place
abbrev pub AreFrames : Role → List (List ℕ) → List Pdu → Type 0
AreFrames from [] [] = Unit {0}
AreFrames from (frame ∷ frames) (pdu ∷ pdus) = (frame_of from frame ≡ Some pdu) × AreFrames from frames pdus
AreFrames from [] (pdu ∷ pdus) = ⊥
AreFrames from (frame ∷ frames) [] = ⊥

-- The stream of this end is whole frames of these PDUs, and a rest that does not begin with a whole
-- frame: so there is no longer list of whole frames at its front.
pub record IsCut (from : Role) (stream : List ℕ) (pdus : List Pdu) (rest : List ℕ) : Type 0 where
  pub frames : List (List ℕ)
  pub whole : AreFrames from frames pdus
  pub parts : stream ≡ joined frames ++ rest
  pub partial : (k : ℕ) → frame_of from (take k rest) ≡ None
