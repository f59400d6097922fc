use Rattle.std.proofs.Common.{◌≡◌, ◌∙◌, ◌∷◌, [], ◌++◌, sym, ap, subst, string_bytes, option_map}
use Rattle.file_messages.specs.Read.{added}
use Rattle.file_transfer.specs.Keeping.{with_bytes, with_files}
use Rattle.file_transfer.proofs.Keeping.{going, added_last, told_grown}
use Rattle.file_transfer.proofs.arrivals.Arrivals.add.Goals as goal

pub returns-clause-came : goal.returns-clause-came
returns-clause-came g c = λ files came some.
    let a = c.args.self.now in
    let bytes = c.args.bytes.now in
    let p = going (string_bytes a.prefix) a.whole.items a.coming c.in-Some.coming files c.in-Some.is came in
    (p.0, with_bytes bytes p.1, ap (added bytes) p.2 ∙ added_last bytes p.0 p.1, p.3, c.add.ensures (string_bytes a.prefix) p.1 p.4)

pub returns-clause-kept : goal.returns-clause-kept
returns-clause-kept g c = λ files first came some was.
    let a = c.args.self.now in
    let bytes = c.args.bytes.now in
    let prefix = string_bytes a.prefix in
    let p = going prefix a.whole.items a.coming c.in-Some.coming files c.in-Some.is came in
    told_grown prefix p.0 p.1 bytes c.path.result.now first (g.F.FileStore.told c.args.store.now) (g.F.FileStore.told c.append.new.self) (c.path.ensures ∙ p.4.path_is) (was ∙ ap (λ f. option_map (with_files prefix f) first) p.2) c.in-Ok.ensures.grown
    ∙ ap (λ f. option_map (with_files prefix f) first) (sym (ap (added bytes) p.2 ∙ added_last bytes p.0 p.1))
