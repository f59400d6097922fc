use Rattle.std.proofs.Common.{◌≡◌, Some, length, slice_get, arith, rules}
use Rattle.tunnel_cookies.proofs.Tables.{first_at, none_more, none_all}
use Rattle.tunnel_cookies.proofs.issued.Issued.by_hash.Goals as goal

pub returns-then-has_hash-clause-found : goal.returns-then-has_hash-clause-found
returns-then-has_hash-clause-found c =
    let is : slice_get c.args.self.now c.loop-index.index ≡ Some (c.in-Some.id.now, c.in-Some.entry.now) = search rules in
    first_at c.args.hash.now c.args.self.now c.loop-index.index c.in-Some.id.now c.in-Some.entry.now is c.loop-index.invariant (search rules)

pub loop-index-preserved : goal.loop-index-preserved
loop-index-preserved c =
    let is : slice_get c.args.self.now c.loop-index.index ≡ Some (c.in-Some.id.now, c.in-Some.entry.now) = search rules in
    none_more c.args.hash.now c.args.self.now c.loop-index.index c.in-Some.id.now c.in-Some.entry.now is c.loop-index.invariant (search rules)

pub returns-clause-none : goal.returns-clause-none
returns-clause-none c =
    let long : length c.args.self.now ≡ c.len-index-end.result = search rules in
    none_all c.args.hash.now c.args.self.now c.loop-index.index (omega arith) c.loop-index.invariant
