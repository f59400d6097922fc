-- The files of a store in memory, as they are kept.
use Rattle.std.specs.Prelude.{ℕ, List, Bool, string_bytes}
use Rattle.std.specs.Str.{bytes_eq}
use Rattle.mt_outside.specs.declared.shelf.File.{File}

-- whether a file has this name
abbrev pub is_named : List ℕ → File → Bool
is_named name file = bytes_eq (string_bytes file.name) name

-- a file as its name and its bytes
abbrev pub shown : File → List ℕ × List ℕ
shown file = (string_bytes file.name, file.bytes.items)
