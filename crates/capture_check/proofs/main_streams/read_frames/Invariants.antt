use Rattle.std.proofs.Common.{◌++◌, ℕ, List, take}
use Rattle.tunnel_pdus.specs.Value.{Frame}
use Rattle.capture_check.specs.MainFrames.{Sided, from}
use Rattle.capture_check.specs.FramesSoFar.{IsRead, AreHeard}
use Rattle.capture_check.proofs.main_streams.read_frames.Given as goal

abbrev pub invariant-loop-byte : goal.invariant-loop-byte
invariant-loop-byte l =
    (main : List ℕ) (came : List Sided) → IsRead l.side main came l.fn.left.items → AreHeard came l.fn.words
    → (frames : List Frame) × IsRead l.side (main ++ take l.byte-index l.bytes) (came ++ from l.side frames) l.left.items × AreHeard (came ++ from l.side frames) l.words
