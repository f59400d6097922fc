use Rattle.std.proofs.Common.{◌≡◌, ◌<◌, Some, None, nat_eq, cond, true, false, slice_get, length, sym, ap, ◌∙◌, rules, arith}
use Rattle.std.specs.Map.{lookup}
use Rattle.soft_sync.specs.Exchanges.{has}
use Rattle.soft_sync.proofs.Listed.{moved_is, unmoved, number_at}
use Rattle.soft_sync.proofs.Answering.{answer_there, read_at}
use Rattle.soft_sync.proofs.exchanges.Exchanges.moved.Goals as goal

pub returns-in_default : goal.returns-in_default
returns-in_default c =
    let s = c.args.self.now in
    let is : lookup (nat_eq c.args.id) s.listings.entries ≡ None = search rules in
    sym (unmoved c.args.id 0 s.rows.items s.listings.entries is (c.requires.kept).once)

pub unreachable-requires : goal.unreachable-requires
unreachable-requires c =
    let s = c.args.self.now in
    let l = c.in-Some.listing.now in
    let is : lookup (nat_eq c.args.id) s.listings.entries ≡ Some l = search rules in
    let n : l.number < length s.rows.items = number_at c.args.id (length s.rows.items) s.listings.entries l (c.requires.kept).numbered is in
    let past = c.in_default-get.ensures.lookup.3 in
    let same = ap (λ t. length t) c.deref.ensures.value in
    omega (arith, n, past, same)

pub returns-then-has : goal.returns-then-has
returns-then-has c =
    let s = c.args.self.now in
    let l = c.in-Some.listing.now in
    let row = c.in-Some-get.row.now in
    let is : lookup (nat_eq c.args.id) s.listings.entries ≡ Some l = search rules in
    let e = c.in-Some-get.ensures.lookup in
    let there : slice_get s.rows.items l.number ≡ Some row = read_at c.deref.result.now s.rows.items l.number row c.deref.ensures.value e.3.0 e.1 in
    let h : has l.kind row.answer ≡ true = sym c.has.ensures ∙ c.if-has.true in
    sym (moved_is c.args.id 0 l.number s.rows.items s.listings.entries l is (c.requires.kept).once (omega arith)
    ∙ ap (λ k. cond (has l.kind k) (Some l.kind) None) (answer_there l.number s.rows.items row there) ∙ ap (λ b. cond b (Some l.kind) None) h)

pub returns-else-has : goal.returns-else-has
returns-else-has c =
    let s = c.args.self.now in
    let l = c.in-Some.listing.now in
    let row = c.in-Some-get.row.now in
    let is : lookup (nat_eq c.args.id) s.listings.entries ≡ Some l = search rules in
    let e = c.in-Some-get.ensures.lookup in
    let there : slice_get s.rows.items l.number ≡ Some row = read_at c.deref.result.now s.rows.items l.number row c.deref.ensures.value e.3.0 e.1 in
    let h : has l.kind row.answer ≡ false = sym c.has.ensures ∙ c.if-has.false in
    sym (moved_is c.args.id 0 l.number s.rows.items s.listings.entries l is (c.requires.kept).once (omega arith)
    ∙ ap (λ k. cond (has l.kind k) (Some l.kind) None) (answer_there l.number s.rows.items row there) ∙ ap (λ b. cond b (Some l.kind) None) h)
