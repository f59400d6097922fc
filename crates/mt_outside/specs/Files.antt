-- Files by name, as far as a store tells them.
use Rattle.std.specs.Prelude.{◌≡◌, ℕ, ◌-◌, ◌<◌, ◌≤◌, List, [], ◌∷◌, ◌++◌, length, take, drop, Option, Some, None, if◌then◌else◌}
use Rattle.std.specs.Option.{option_map}
use Rattle.std.specs.Str.{bytes_eq}

-- the bytes of the file of each name, where there is one
abbrev pub Contents : Type 0
Contents = List ℕ → Option (List ℕ)

-- a store that tells its files has one of this name, with these bytes
abbrev pub Holds : Option Contents → List ℕ → List ℕ → Type 0
Holds told name content = option_map (λ files. files name) told ≡ Some (Some content)

-- a store that tells its files has none of this name
abbrev pub Lacks : Option Contents → List ℕ → Type 0
Lacks told name = option_map (λ files. files name) told ≡ Some None

-- The first n bytes of `out` are those of the content from place `at` on; they are none only at the
-- content's end or where `out` is empty.
pub record Reads (content : List ℕ) (at n : ℕ) (out : List ℕ) : Type 0 where
  pub bytes : take n out ≡ take n (drop at content)
  pub within : n ≤ length content - at
  pub some : at < length content → 0 < length out → 0 < n

-- the file of one name is changed, and all others are as they were
abbrev pub changed : (Option (List ℕ) → Option (List ℕ)) → List ℕ → Contents → Contents
changed change name files other = if bytes_eq name other then change (files other) else files other

-- a file of these bytes in place of what was there
abbrev pub replaced : List ℕ → List ℕ → Contents → Contents
replaced name bytes = changed (λ _. Some bytes) name

-- an empty file in place of what was there
abbrev pub emptied : List ℕ → Contents → Contents
emptied name = replaced name []

-- more bytes at the end of a file; where there is no file, none comes to be
abbrev pub grown : List ℕ → List ℕ → Contents → Contents
grown name more = changed (option_map (λ content. content ++ more)) name

-- the files of a list of names with bytes: of each name the first
abbrev pub file_of : List (List ℕ × List ℕ) → Contents
file_of [] name = None
file_of (file ∷ files) name = if bytes_eq file.0 name then Some file.1 else file_of files name
