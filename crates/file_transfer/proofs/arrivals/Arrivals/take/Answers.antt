use Rattle.std.proofs.Common.{◌≡◌, ◌<◌, length, sym, subst, string_bytes, option_map, arith}
use Rattle.std.specs.Prelude.{OnOk}
use Rattle.file_messages.specs.declared.reader.FileStep.{FileStep}
use Rattle.file_messages.specs.Read.{after, IsBehind}
use Rattle.file_transfer.specs.Keeping.{with_files}
use Rattle.file_transfer.proofs.arrivals.Arrivals.take.Goals as goal

pub returns-in-Begins-clause-kept : goal.returns-in-Begins-clause-kept
returns-in-Begins-clause-kept g c = λ files first came behind was.
    subst (λ (s : FileStep). OnOk c.begin.result (g.F.FileStore.told c.begin.new.store ≡ option_map (with_files (string_bytes c.args.self.now.prefix) (after s files)) first)) (sym c.in-Begins.is) (c.begin.ensures.kept files first was)

pub returns-in-Adds-clause-kept : goal.returns-in-Adds-clause-kept
returns-in-Adds-clause-kept g c = λ files first came behind was.
    let there = subst (λ (s : FileStep). IsBehind s (length files)) c.in-Adds.is behind in
    let some : 0 < length files = omega (arith, there) in
    subst (λ (s : FileStep). OnOk c.add.result (g.F.FileStore.told c.add.new.store ≡ option_map (with_files (string_bytes c.args.self.now.prefix) (after s files)) first)) (sym c.in-Adds.is) (c.add.ensures.kept files first came some was)
