use Rattle.std.proofs.Common.{◌≡◌, ◌≤◌, Some, slice_get, length, sym, ap, ◌∙◌, subst, arith, rules}
use Rattle.std.proofs.lemmas.List.{take_all}
use Rattle.soft_sync.proofs.Answering.{AreGiven, behind_at, none_behind, given_more, read_at}
use Rattle.soft_sync.proofs.exchanges.Exchanges.behind.Goals as goal

pub returns-then-not-row : goal.returns-then-not-row
returns-then-not-row c =
    let s = c.args.self.now in
    let n = c.loop-number.number in
    let e = c.in-Some.ensures.lookup in
    let is : slice_get s.rows.items n ≡ Some c.in-Some.row.now = read_at c.deref.result.now s.rows.items n c.in-Some.row.now c.deref.ensures.value e.3.0 e.1 in
    let b = behind_at n 0 0 s.rows.items s.listings.entries c.in-Some.row.now is (search rules) c.loop-number.invariant in
    sym (b ∙ ap (λ k. Some k) (omega arith))

pub loop-number-preserved : goal.loop-number-preserved
loop-number-preserved c =
    let s = c.args.self.now in
    let n = c.loop-number.number in
    let e = c.in-Some.ensures.lookup in
    let is : slice_get s.rows.items n ≡ Some c.in-Some.row.now = read_at c.deref.result.now s.rows.items n c.in-Some.row.now c.deref.ensures.value e.3.0 e.1 in
    given_more n s.rows.items c.in-Some.row.now is (search rules) c.loop-number.invariant

pub returns : goal.returns
returns c =
    let s = c.args.self.now in
    let long : length s.rows.items ≤ c.loop-number.number = omega arith in
    sym (none_behind 0 0 s.rows.items s.listings.entries (subst AreGiven (take_all c.loop-number.number s.rows.items long) c.loop-number.invariant))
