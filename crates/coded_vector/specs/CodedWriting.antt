-- What was written of flags that come one after the other.
use Rattle.std.specs.Prelude.{◌≡◌, ℕ, ◌%◌, ◌==◌, ◌||◌, Bool, List, [], ◌∷◌, ◌++◌, length, take, replicate, nat_lt, if◌then◌else◌}
use Rattle.coded_vector.specs.declared.writer.CodedWriter.{CodedWriter}
use Rattle.coded_vector.specs.CodedBytes.{flags_in}
use Rattle.coded_vector.specs.Written.{coded_of}

-- The bytes that stand whatever flags come later: runs of fewer than seven flags do not, which
-- stand at the end, nor does a last run of fewer than 63, which further flags may make longer.
abbrev pub settled : List ℕ → List ℕ
settled [] = []
settled (c ∷ []) = if nat_lt c 128 || c % 64 == 63 then c ∷ [] else []
settled (c ∷ d ∷ cs) = if nat_lt (length (flags_in c)) 7 then [] else c ∷ settled (d ∷ cs)

-- the bytes that flags decide, whatever flags come later
abbrev pub decided : List Bool → List ℕ
decided flags = settled (coded_of flags)

-- the flags that a writer keeps: fewer than seven, or a run of seven or more equal ones
abbrev pub kept : CodedWriter → List Bool
kept w = if nat_lt w.count 7 then take w.count w.flags else replicate w.count w.received

-- The writer went through these flags and wrote these bytes: whatever flags come later, the bytes
-- of all flags are these, and then those of the flags that it keeps and of what comes.
pub record Stands (w : CodedWriter) (flags : List Bool) (cs : List ℕ) : Type 0 where
  pub so_far : (later : List Bool) → coded_of (flags ++ later) ≡ cs ++ coded_of (kept w ++ later)
