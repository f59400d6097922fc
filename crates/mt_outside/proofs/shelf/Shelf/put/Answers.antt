use Rattle.std.proofs.Common.{◌∙◌, ap, refl, Some, map}
use Rattle.std.specs.List.{position_from}
use Rattle.mt_outside.specs.Files.{file_of, replaced}
use Rattle.mt_outside.specs.Shelf.{is_named, shown}
use Rattle.mt_outside.proofs.Places.{changed_at, added_behind}
use Rattle.mt_outside.proofs.shelf.Shelf.put.Goals as goal

pub returns-in-Some-clause-put : goal.returns-in-Some-clause-put
returns-in-Some-clause-put c =
    let name = c.args.name.now in
    let bytes = c.args.bytes.now in
    let found = c.in-Some.ensures.first ∙ ap (position_from (is_named name) 0) c.as_slice.ensures.value in
    changed_at (λ _. Some bytes) c.self.inside.files.items name c.in-Some.at c.index_mut.result.now _ found c.index_mut.ensures.value refl (ap Some c.in-Ok.ensures.items)
    ∙ ap (λ f. replaced name bytes (file_of f)) c.self.view_is

pub returns-clause-put : goal.returns-clause-put
returns-clause-put c =
    let name = c.args.name.now in
    let bytes = c.args.bytes.now in
    let files = c.self.inside.files.items in
    let none = c.in_default-place.ensures.first ∙ ap (position_from (is_named name) 0) c.as_slice.ensures.value in
    ap (λ l. file_of (map shown l)) c.in-Ok-push.ensures.items ∙ added_behind files name _ none c.in-Ok-from_str.ensures.ok
    ∙ ap (λ b. replaced name b (file_of (map shown files))) c.in-Ok.ensures.items ∙ ap (λ f. replaced name bytes (file_of f)) c.self.view_is
