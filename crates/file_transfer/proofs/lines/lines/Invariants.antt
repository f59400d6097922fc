use Rattle.std.proofs.Common.{◌≡◌, take}
use Rattle.std.specs.Prelude.{flat_map}
use Rattle.file_transfer.specs.Lines.{kept_line}
use Rattle.file_transfer.proofs.lines.lines.Given as goal

-- the lines of the files so far
abbrev pub invariant-loop-file : goal.invariant-loop-file
invariant-loop-file l = l.page.bytes.items ≡ flat_map (kept_line l.fn.mark) (take l.file-index l.files)
