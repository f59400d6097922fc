use Rattle.std.proofs.Common.{◌≡◌, ◌-◌, ltb, ap, length, arith, rules}
use Rattle.std.proofs.lemmas.List.Sorted.{IsPartitionPoint-from_clause}
use Rattle.link_traffic.proofs.Places.{parted, oldest_read}
use Rattle.link_traffic.proofs.Storing.{length-datagrams}
use Rattle.link_traffic.proofs.traffic.Traffic.oldest.Goals as goal

pub returns : goal.returns
returns c =
    let all = c.args.self.now in
    let i = c.self.inside in
    let first = c.saturating_sub-first.result in
    let shown = c.places-places.result.now in
    let is = c.places-places.ensures in
    let point =
    IsPartitionPoint-from_clause (λ y. ltb y first) _ _ c.partition_point-number.ensures.partitioned (parted c.args.side all shown first is) (λ a r q k. search rules) in
    let same = ap length c.self.view_is in
    let long = length-datagrams i.bytes.items i.datagrams.items in
    let bound : first ≡ (length all - c.args.most) - 1 = omega (arith, same, long, i.datagrams.ok.0, c.len.ensures, c.saturating_sub.ensures, c.saturating_sub-first.ensures) in
    oldest_read c.args.side all shown c.args.most first c.partition_point-number.result c.then_some.result is bound point c.then_some.ensures
