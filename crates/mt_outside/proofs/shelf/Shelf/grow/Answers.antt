use Rattle.std.proofs.Common.{◌∙◌, ap, refl, Some, ◌++◌}
use Rattle.std.specs.List.{position_from}
use Rattle.std.specs.Option.{option_map}
use Rattle.mt_outside.specs.Files.{file_of, grown}
use Rattle.mt_outside.specs.Shelf.{is_named}
use Rattle.mt_outside.proofs.Places.{bytes_at, same_at, changed_at}
use Rattle.mt_outside.proofs.shelf.Shelf.grow.Goals as goal

pub returns-in_default-extend_from_slice-clause-same : goal.returns-in_default-extend_from_slice-clause-same
returns-in_default-extend_from_slice-clause-same c =
    same_at c.self.inside.files.items c.in-Some.at c.index_mut.result.now _ c.index_mut.ensures.value refl c.in_default-extend_from_slice.ensures.items ∙ c.self.view_is

pub returns-clause-grown : goal.returns-clause-grown
returns-clause-grown c =
    let name = c.args.name.now in
    let bytes = c.args.bytes.now in
    let found = c.in-Some.ensures.first ∙ ap (position_from (is_named name) 0) c.as_slice.ensures.value in
    changed_at (option_map (λ content. content ++ bytes)) c.self.inside.files.items name c.in-Some.at c.index_mut.result.now _ found c.index_mut.ensures.value refl (ap Some c.in-Ok.ensures.items)
    ∙ ap (λ f. grown name bytes (file_of f)) c.self.view_is

pub returns-clause-missing : goal.returns-clause-missing
returns-clause-missing c = λ none.
    let name = c.args.name.now in
    let found = c.in-Some.ensures.first ∙ ap (position_from (is_named name) 0) c.as_slice.ensures.value in
    let there = bytes_at c.self.inside.files.items name c.in-Some.at c.index_mut.result.now found c.index_mut.ensures.value ∙ ap (λ f. file_of f name) c.self.view_is ∙ none in
    cc
