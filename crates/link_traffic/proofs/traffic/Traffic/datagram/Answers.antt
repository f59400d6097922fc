use Rattle.std.proofs.Common.{ap, ◌∙◌, ◌≡◌, None, Some, arith, sym, length, take, drop}
use Rattle.std.proofs.lemmas.Option.{slice_get_past}
use Rattle.link_traffic.specs.Given.{by, numbered}
use Rattle.link_traffic.proofs.Places.{places-length}
use Rattle.link_traffic.proofs.Storing.{read_place, stands_within, stands_at}
use Rattle.link_traffic.proofs.traffic.Traffic.datagram.Goals as goal

pub returns-in_err-place : goal.returns-in_err-place
returns-in_err-place c =
    let past = c.in_err-place.ensures.lookup.3 in
    let same = ap length c.places.ensures in
    let long = places-length 0 c.args.side c.args.self.now in
    let none : numbered c.args.side c.args.number c.args.self.now ≡ None = slice_get_past (by c.args.side c.args.self.now) c.args.number (omega (arith, past, same, long)) in
    rw (c.from_residual.ensures, none)

pub index-requires : goal.index-requires
index-requires c =
    let k = c.in_ok-place in
    let i = c.self.inside in
    let at = read_place c.args.side c.args.self.now c.places.result.now c.args.number k.field-0.now c.places.ensures k.ensures.lookup.3.0 k.ensures.lookup.1 in
    let within = stands_within c.args.side c.args.self.now i.bytes.items i.datagrams.items c.args.number k.field-0.now c.self.view_is at in
    omega (arith, within, i.datagrams.ok.0)

pub bytes_in-requires : goal.bytes_in-requires
bytes_in-requires c =
    let k = c.in_ok-place in
    let i = c.self.inside in
    let at = read_place c.args.side c.args.self.now c.places.result.now c.args.number k.field-0.now c.places.ensures k.ensures.lookup.3.0 k.ensures.lookup.1 in
    let stands =
    stands_at c.args.side c.args.self.now i.bytes.items i.datagrams.items i.server.items i.client.items c.args.number k.field-0.now c.index.result.now c.self.view_is c.self.invariant at c.index.ensures in
    let inside = stands.inside in
    record { inside = omega (arith, inside, ap length c.deref.ensures.value) }

pub returns : goal.returns
returns c =
    let k = c.in_ok-place in
    let i = c.self.inside in
    let g = c.index.result.now in
    let at = read_place c.args.side c.args.self.now c.places.result.now c.args.number k.field-0.now c.places.ensures k.ensures.lookup.3.0 k.ensures.lookup.1 in
    let stands =
    stands_at c.args.side c.args.self.now i.bytes.items i.datagrams.items i.server.items i.client.items c.args.number k.field-0.now g c.self.view_is c.self.invariant at c.index.ensures in
    ap (λ t. Some t) (c.bytes_in.ensures ∙ ap (λ t. take g.length (drop g.start t)) c.deref.ensures.value) ∙ sym stands.numbered_is
