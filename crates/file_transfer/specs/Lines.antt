-- The lines that tell of the files that came.
use Rattle.std.specs.Prelude.{ℕ, List, [], ◌∷◌, ◌++◌, length, codes, string_bytes, flat_map}
use Rattle.std.specs.Fmt.{decimal}
use Rattle.sha2.specs.Sha256.{sha256}
use Rattle.hex.specs.Hex.{encode_lower}
use Rattle.file_messages.specs.Files.{File}
use Rattle.file_transfer.specs.Keeping.{shown}
use Rattle.file_transfer.specs.declared.coming.KeptFile.{KeptFile}

-- a name, a size and a digest, behind a mark
abbrev pub line_of : (mark name : List ℕ) (size : ℕ) (digest : List ℕ) → List ℕ
line_of mark name size digest = mark ++ codes "got " ++ name ++ codes " " ++ decimal size ++ codes " " ++ encode_lower digest ++ 10 ∷ []

abbrev pub kept_line : List ℕ → KeptFile → List ℕ
kept_line mark kept = line_of mark (string_bytes kept.name) kept.size kept.digest

-- the line of a file
abbrev pub got_line : List ℕ → File → List ℕ
got_line mark file = line_of mark file.name (shown (length file.content)) (sha256 file.content)

-- the last line
abbrev pub done_line : List ℕ → List ℕ
done_line mark = mark ++ codes "done" ++ 10 ∷ []

-- the lines of files, in the order in which they came
abbrev pub got_lines : List ℕ → List File → List ℕ
got_lines mark files = flat_map (got_line mark) files ++ done_line mark
