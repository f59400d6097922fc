-- The files that an end sends.
use Rattle.std.specs.Prelude.{ℕ, List}
use Rattle.file_messages.specs.Files.{IsName}
use Rattle.file_messages.specs.Names.{IsLastPart}

-- a file by its path, and the name under which it is sent
pub record Own : Type 0 where
  pub path : List ℕ
  pub name : List ℕ

-- the last part of a path, which is a name of a file
abbrev pub IsOwn : List ℕ → List ℕ → Type 0
IsOwn path name = IsLastPart path name × IsName name
