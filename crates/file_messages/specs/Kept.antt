-- The files that are kept of those that came.
use Rattle.std.specs.Prelude.{◌≡◌, ◌≢◌, ℕ, Bool, List, [], ◌∷◌, ◌++◌, All, if◌then◌else◌}
use Rattle.std.specs.List.{list_any}
use Rattle.std.specs.Str.{bytes_eq}
use Rattle.file_messages.specs.Files.{File}

-- whether a file has this name
abbrev pub is_named : List ℕ → File → Bool
is_named name file = bytes_eq name file.name

-- of files in order, those behind which no other of their name stands
abbrev pub kept_after : List File → List File
kept_after [] = []
kept_after (file ∷ rest) = if list_any (is_named file.name) rest then kept_after rest else file ∷ kept_after rest

-- a file that is the last of its name
pub record IsLast (files : List File) (file : File) : Type 0 where
  pub before : List File
  pub behind : List File
  pub files_are : files ≡ before ++ (file ∷ behind)
  pub none_behind : All (λ (other : File). file.name ≢ other.name) behind
