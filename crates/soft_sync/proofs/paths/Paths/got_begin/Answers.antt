use Rattle.std.proofs.Common.{◌≡◌, List, ◌∷◌, [], ◌++◌, length, refl, ap, ◌∙◌, arith}
use Rattle.soft_sync.specs.contracts.paths.Paths.{the_view}
use Rattle.soft_sync.specs.Exchanges.{Exchange}
use Rattle.soft_sync.specs.Words.{Words, begun_of}
use Rattle.soft_sync.specs.Table.{exchanges_in, row_of}
use Rattle.soft_sync.proofs.Answering.{length-exchanges}
use Rattle.soft_sync.proofs.Growing.{begun}
use Rattle.soft_sync.proofs.paths.Paths.got_begin.Goals as goal

pub returns-then-count-ge-REQUESTS-clause-none : goal.returns-then-count-ge-REQUESTS-clause-none
returns-then-count-ge-REQUESTS-clause-none c =
    let s = c.self.inside.read in
    let long = ap (λ (w : Words). length w.read) c.self.view_is in
    let rows = length-exchanges 0 s.rows.items s.listings.entries in
    let few = (((c.self.invariant).2).kept).few in
    let count = c.count.ensures in
    let many = c.if-count-ge-REQUESTS.true in
    (omega (arith, long, rows, few, count, many), refl)

pub returns-clause-begun : goal.returns-clause-begun
returns-clause-begun c =
    let s = c.self.inside.read in
    let e = c.begin.ensures in
    let long = ap (λ (w : Words). length w.read) c.self.view_is in
    let count = length-exchanges 0 s.rows.items s.listings.entries in
    let number = e.number in
    let more = begun_of c.args.reliable c.args.lossy in
    let row = row_of (record { reliable = c.args.reliable; lossy = c.args.lossy }) in
    let new = c.begin.new.self in
    let read : exchanges_in new.rows.items new.listings.entries ≡ exchanges_in s.rows.items s.listings.entries ++ (more ∷ []) =
    ap (λ r. exchanges_in r new.listings.entries) e.rows ∙ ap (λ l. exchanges_in (s.rows.items ++ (row ∷ [])) l.entries) e.listings
    ∙ begun s.rows.items row s.listings.entries (((c.self.invariant).2).kept).numbered in (
      omega (arith, long, count, number),
      ap (λ (x : List Exchange). let w = the_view c.self.inside in record w { read = x }) read ∙ ap (λ (w : Words). record w { read = w.read ++ (more ∷ []) }) c.self.view_is,
    )
