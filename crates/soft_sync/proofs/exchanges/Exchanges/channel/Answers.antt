use Rattle.std.proofs.Common.{◌≡◌, ◌+◌, [], drop, slice_get, refl, sym, ap, ◌∙◌, arith}
use Rattle.std.proofs.lemmas.List.{drop_all}
use Rattle.soft_sync.specs.Table.{listed_by}
use Rattle.soft_sync.proofs.Places.{found, left_alone, passed}
use Rattle.soft_sync.proofs.exchanges.Exchanges.channel.Goals.{then-listing-number+else-ahead-eq0, else-listing-number}
use Rattle.soft_sync.proofs.exchanges.Exchanges.channel.Goals as goal

pub loop-at-init : goal.loop-at-init
loop-at-init c = refl

pub returns-then-ahead-eq0 : goal.returns-then-ahead-eq0
returns-then-ahead-eq0 c =
    found c.args.number c.args.self.now.listings.entries c.loop-at.at c.loop-at.ahead (c.in-Some.id.now, c.in-Some.listing.now) _ c.loop-at.invariant
    (sym c.in-Some.ensures.entry) c.if-listing-number.true c.if-ahead-eq0.true

pub loop-at-preserved : goal.loop-at-preserved
loop-at-preserved c = elim c.if-listing-number.branch [
  | then-listing-number+else-ahead-eq0 w ↦
      ap (slice_get (listed_by c.args.number (drop (c.loop-at.at + 1) c.args.self.now.listings.entries))) w.ahead-is
      ∙ passed c.args.number c.args.self.now.listings.entries c.loop-at.at c.loop-at.ahead (c.in-Some.id.now, c.in-Some.listing.now) _ c.loop-at.invariant
      (sym c.in-Some.ensures.entry) w.if-listing-number.true w.if-ahead-eq0.false
  | else-listing-number w ↦
      ap (slice_get (listed_by c.args.number (drop (c.loop-at.at + 1) c.args.self.now.listings.entries))) w.ahead-is
      ∙ left_alone c.args.number c.args.self.now.listings.entries c.loop-at.at c.loop-at.ahead (c.in-Some.id.now, c.in-Some.listing.now) _ c.loop-at.invariant
      (sym c.in-Some.ensures.entry) w.if-listing-number.false
]

pub returns : goal.returns
returns c =
    let none : drop c.loop-at.at c.args.self.now.listings.entries ≡ [] = drop_all c.loop-at.at c.args.self.now.listings.entries (omega (arith, c.loop-at-test.false, c.len-at-end.ensures.len)) in
    sym (ap (λ t. slice_get (listed_by c.args.number t) c.loop-at.ahead) none) ∙ c.loop-at.invariant
