use Rattle.std.proofs.Common.{◌∙◌, ap, sym, Some, length}
use Rattle.std.proofs.Math.Seq.{take-length}
use Rattle.mt_outside.specs.Files.{file_of, grown}
use Rattle.mt_outside.specs.Memory.{Stored}
use Rattle.mt_outside.proofs.Shelves.{grown_nothing}
use Rattle.mt_outside.proofs.memory_files.MemoryFilesFileStore.append.Goals as goal

pub returns-in_default-clause-prefix : goal.returns-in_default-clause-prefix
returns-in_default-clause-prefix c =
    let kept = ap file_of c.in_default.ensures.same ∙ ap (λ (s : Stored). file_of s.files) (c.self.view_is ∙ c.begin.ensures.same) in
    (0, ap Some (kept ∙ sym (grown_nothing c.args.name.now (file_of c.args.self.now.files))))

pub returns-clause-grown : goal.returns-clause-grown
returns-clause-grown c =
    let old = c.self.view_is ∙ c.begin.ensures.same in
    ap Some (c.in-Ok.ensures.grown ∙ ap (λ (s : Stored). grown c.args.name.now c.args.bytes.now (file_of s.files)) old)

pub returns-clause-prefix : goal.returns-clause-prefix
returns-clause-prefix c =
    let name = c.args.name.now in
    let bytes = c.args.bytes.now in
    let old = c.self.view_is ∙ c.begin.ensures.same in
    let whole = c.in-Ok.ensures.grown ∙ ap (λ (s : Stored). grown name bytes (file_of s.files)) old in
    (length bytes, ap Some (whole ∙ ap (λ b. grown name b (file_of c.args.self.now.files)) (sym (take-length bytes))))
