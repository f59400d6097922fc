-- What was written of flags that come one after the other.
use Rattle.std.specs.Prelude.{◌≡◌, ℕ, ◌%◌, ◌==◌, Bool, List, [], ◌∷◌, ◌++◌, replicate, if◌then◌else◌}
use Rattle.ack_vector.specs.declared.writer.RunWriter.{RunWriter}
use Rattle.ack_vector.specs.Longest.{elements_of}

-- elements without a last one of fewer than 63 flags, which further flags may make longer
abbrev pub settled : List ℕ → List ℕ
settled [] = []
settled (e ∷ []) = if e % 64 == 63 then e ∷ [] else []
settled (e ∷ d ∷ es) = e ∷ settled (d ∷ es)

-- the elements that flags decide, whatever flags come later
abbrev pub decided : List Bool → List ℕ
decided flags = settled (elements_of flags)

-- the flags that a writer keeps: all are equal, and no element was written for them yet
abbrev pub kept : RunWriter → List Bool
kept w = replicate w.length w.received

-- The writer went through these flags and wrote these elements: whatever flags come later, the
-- elements of all flags are these, and then those of the flags that it keeps and of what comes.
pub record Stands (w : RunWriter) (flags : List Bool) (es : List ℕ) : Type 0 where
  pub so_far : (later : List Bool) → elements_of (flags ++ later) ≡ es ++ elements_of (kept w ++ later)
