use Rattle.std.proofs.Common.{◌≡◌, Some, slice_get, refl}
use Rattle.soft_sync.specs.Exchanges.{giving}
use Rattle.soft_sync.proofs.Answering.{giving_at, changed_past, read_at, read_past}
use Rattle.soft_sync.proofs.exchanges.Exchanges.give.Goals as goal

pub returns-in_default-clause-exchanges : goal.returns-in_default-clause-exchanges
returns-in_default-clause-exchanges c =
    let s = c.args.self.now in
    changed_past c.args.number 0 giving s.rows.items s.listings.entries (read_past s.rows.items s.rows.items c.args.number refl c.in_default.ensures.item.3)

pub returns-clause-exchanges : goal.returns-clause-exchanges
returns-clause-exchanges c =
    let s = c.args.self.now in
    let e = c.in-Some.ensures in
    let row = c.in-Some.row.now in
    let is : slice_get s.rows.items c.args.number ≡ Some row = read_at s.rows.items s.rows.items c.args.number row refl e.item.3.0 e.value in
    giving_at c.args.number 0 s.rows.items s.listings.entries row is
