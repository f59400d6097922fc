use Rattle.std.proofs.Common.{◌≡◌, Some, None, slice_get, sym, ◌∙◌}
use Rattle.soft_sync.proofs.Answering.{names_at, names_past, read_at, read_past}
use Rattle.soft_sync.proofs.exchanges.Exchanges.names.Goals as goal

pub returns-in-Some : goal.returns-in-Some
returns-in-Some c =
    let rows = c.args.self.now.rows.items in
    let e = c.in-Some.ensures.lookup in
    let is : slice_get rows c.args.number ≡ Some c.in-Some.row.now = read_at c.deref.result.now rows c.args.number c.in-Some.row.now c.deref.ensures.value e.3.0 e.1 in
    c.has.ensures ∙ sym (names_at c.args.number 0 c.args.kind rows c.args.self.now.listings.entries c.in-Some.row.now is)

pub returns-in-None : goal.returns-in-None
returns-in-None c =
    let rows = c.args.self.now.rows.items in
    let is : slice_get rows c.args.number ≡ None = read_past c.deref.result.now rows c.args.number c.deref.ensures.value c.in-None.ensures.lookup.3 in
    sym (names_past c.args.number 0 c.args.kind rows c.args.self.now.listings.entries is)
