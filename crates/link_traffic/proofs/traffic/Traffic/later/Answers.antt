use Rattle.std.proofs.Common.{ap, ◌∙◌, ◌≡◌, ◌+◌, ◌-◌, Some, arith, sym, length}
use Rattle.link_traffic.proofs.Places.{later_at}
use Rattle.link_traffic.proofs.Storing.{read_place, stands_within, length-datagrams}
use Rattle.link_traffic.proofs.traffic.Traffic.later.Goals as goal

pub overflow_add-result : goal.overflow_add-result
overflow_add-result c =
    let k = c.in_ok-place in
    let i = c.self.inside in
    let at = read_place c.args.side c.args.self.now c.places.result.now c.args.number k.field-0.now c.places.ensures k.ensures.lookup.3.0 k.ensures.lookup.1 in
    let within = stands_within c.args.side c.args.self.now i.bytes.items i.datagrams.items c.args.number k.field-0.now c.self.view_is at in
    omega (arith, within, i.datagrams.ok.0, c.len.type_inv, c.len.ensures)

pub overflow_sub-result : goal.overflow_sub-result
overflow_sub-result c =
    let k = c.in_ok-place in
    let i = c.self.inside in
    let at = read_place c.args.side c.args.self.now c.places.result.now c.args.number k.field-0.now c.places.ensures k.ensures.lookup.3.0 k.ensures.lookup.1 in
    let within = stands_within c.args.side c.args.self.now i.bytes.items i.datagrams.items c.args.number k.field-0.now c.self.view_is at in
    omega (arith, within, i.datagrams.ok.0, c.len.ensures)

pub returns : goal.returns
returns c =
    let k = c.in_ok-place in
    let i = c.self.inside in
    let at = read_place c.args.side c.args.self.now c.places.result.now c.args.number k.field-0.now c.places.ensures k.ensures.lookup.3.0 k.ensures.lookup.1 in
    let same = ap length c.self.view_is in
    let long = length-datagrams i.bytes.items i.datagrams.items in
    let all : c.len.result ≡ length c.args.self.now = omega (arith, same, long, i.datagrams.ok.0, c.len.ensures) in
    ap (λ n. Some (n - (k.field-0.now + 1))) all ∙ sym (later_at c.args.side c.args.self.now c.args.number k.field-0.now at)
