use Rattle.std.proofs.Common.{◌∙◌, ap, sym}
use Rattle.std.specs.List.{position_from}
use Rattle.mt_outside.specs.Files.{file_of}
use Rattle.mt_outside.specs.Shelf.{is_named}
use Rattle.mt_outside.proofs.Places.{bytes_at, nothing_at}
use Rattle.mt_outside.proofs.shelf.Shelf.content.Goals as goal

pub returns-in-Some : goal.returns-in-Some
returns-in-Some c =
    let name = c.args.name.now in
    let files = c.self.inside.files.items in
    let found = c.in-Some.ensures.first ∙ ap (position_from (is_named name) 0) c.as_slice.ensures.value in
    ap Rattle.std.proofs.Common.Some c.as_slice-in-Some.ensures.value ∙ bytes_at files name c.in-Some.at c.index.result.now found c.index.ensures
    ∙ ap (λ f. file_of f name) c.self.view_is

pub returns-in-None : goal.returns-in-None
returns-in-None c =
    let name = c.args.name.now in
    let none = c.in-None.ensures.first ∙ ap (position_from (is_named name) 0) c.as_slice.ensures.value in
    nothing_at c.self.inside.files.items name none ∙ ap (λ f. file_of f name) c.self.view_is
