-- The rule of a capture that speaks of the main stream: what came from a side are frames, and hold no
-- data of a channel behind the side's word for it.
use Rattle.std.specs.Prelude.{◌≡◌, ◌≢◌, ℕ, List, [], ◌∷◌, ◌++◌, map, flat_map, Option, Some, None, if◌then◌else◌}
use Rattle.std.specs.List.{filter_map}
use Rattle.mt_base.specs.declared.kinds.Role.{Role}
use Rattle.mt_base.specs.Ends.{same_role}
use Rattle.tunnel_pdus.specs.declared.part.TunnelRefusal.{TunnelRefusal}
use Rattle.tunnel_pdus.specs.Value.{Frame}
use Rattle.tunnel_pdus.specs.Layout.{SpellsFrame}
use Rattle.tunnel_pdus.specs.Faults.{RefusedFrame}
use Rattle.tunnel_pdus.specs.Streams.{Stream}
use Rattle.capture_check.specs.declared.entry.Entry.{Entry}
use Rattle.capture_check.specs.declared.entry.Entry.TheVariants.{Main}
use Rattle.capture_check.specs.Sayings.{Saying, saying_of, KeepsWords}

-- the main stream bytes of a side that came, joined
abbrev pub main_in : Role → Entry → List ℕ
main_in side (Main s bytes) = if same_role side s then bytes else []
main_in side other = []

abbrev pub main_of : Role → List Entry → List ℕ
main_of side entries = flat_map (main_in side) entries

-- a frame and the side that wrote it
pub record Sided : Type 0 where
  pub side : Role
  pub frame : Frame

-- frames of a side
abbrev pub from : Role → List Frame → List Sided
from side frames = map (λ f. record { side = side; frame = f }) frames

-- those of a side among frames of both
abbrev pub frame_of : Role → Sided → Option Frame
frame_of side f = if same_role side f.side then Some f.frame else None

abbrev pub frames_of : Role → List Sided → List Frame
frames_of side came = filter_map (frame_of side) came

-- The frames of both sides in the order in which they came whole. A `main` line adds those that its
-- bytes make whole: with them its side has all frames that its joined bytes begin with.
pub data Came : List Entry → List Sided → Type 0 where
  at_start : (entries : List Entry) (came : List Sided) → entries ≡ [] → came ≡ [] → Came entries came
  no_main : (entries before : List Entry) (entry : Entry) (came : List Sided)
      → entries ≡ before ++ entry ∷ [] → ((side : Role) (bytes : List ℕ) → entry ≢ Main side bytes)
      → Came before came → Came entries came
  adds : (entries before : List Entry) (side : Role) (bytes left : List ℕ) (earlier came : List Sided)
      (frames : List Frame)
      → entries ≡ before ++ Main side bytes ∷ [] → came ≡ earlier ++ from side frames
      → Stream SpellsFrame (main_of side entries) (frames_of side came) left
      → Came before earlier → Came entries came

-- what the frames say, in order
abbrev pub said_of : List Sided → List Saying
said_of came = map (λ f. saying_of f.side f.frame) came

-- Bytes are whole frames and the beginning of one: no field of what is left breaks its rule.
pub record AreFrames (bytes : List ℕ) (frames : List Frame) (left : List ℕ) : Type 0 where
  pub stream : Stream SpellsFrame bytes frames left
  pub no_fault : (r : TunnelRefusal) → ¬ RefusedFrame left r

-- Rule 7: the main stream bytes of a side that came, joined, are frames and the beginning of one; and
-- behind a side's word for a channel they hold no data of it.
pub record IsFramed (entries : List Entry) (side : Role) : Type 0 where
  pub came : List Sided
  pub left : List ℕ
  pub they_came : Came entries came
  pub are_frames : AreFrames (main_of side entries) (frames_of side came) left
  pub keeps : KeepsWords (said_of came)

abbrev pub FramesMain : List Entry → Entry → Type 0
FramesMain before (Main side bytes) = IsFramed (before ++ Main side bytes ∷ []) side
FramesMain before other = Unit {0}
