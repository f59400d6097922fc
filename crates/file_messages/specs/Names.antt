-- The name under which a file of a path is sent.
use Rattle.std.specs.Prelude.{◌≡◌, List, ℕ, ◌∷◌, ◌++◌}
use Rattle.file_messages.specs.Files.{Lacks}

-- the last part of a path: the whole path where it has no `/`, or else what stands behind the last
pub data IsLastPart (path name : List ℕ) : Type 0 where
  alone : Lacks 47 name → path ≡ name → IsLastPart path name
  behind : (before : List ℕ) → Lacks 47 name → path ≡ before ++ (47 ∷ name) → IsLastPart path name
