use Rattle.std.proofs.Common.{◌∙◌, ◌++◌, ap, string_bytes}
use Rattle.file_transfer.proofs.Keeping.{told_begun}
use Rattle.file_transfer.proofs.arrivals.Arrivals.begin.Goals as goal

pub returns-clause-kept : goal.returns-clause-kept
returns-clause-kept g c = λ files first was.
    let prefix = string_bytes c.args.self.now.prefix in
    let name = c.args.name.now in
    let path = c.path.ensures ∙ c.in-Ok-new.ensures.path_is ∙ ap (λ p. p ++ name) (c.as_str.ensures.value ∙ c.in-Ok.ensures.prefix) in
    told_begun prefix files name c.path.result.now first (g.F.FileStore.told c.args.store.now) (g.F.FileStore.told c.create.new.self) path was c.in-Ok-create.ensures.emptied
