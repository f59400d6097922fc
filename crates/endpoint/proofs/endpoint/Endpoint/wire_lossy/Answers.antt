use Rattle.std.proofs.Common.{◌++◌}
use Rattle.mt_base.specs.declared.kinds.Kind.TheVariants.{Lossy}
use Rattle.mt_base.specs.Trace.{◌▷◌}
use Rattle.carrier.specs.Entries.{In}
use Rattle.end_calls.specs.Calls.{past}
use Rattle.end_calls.specs.Law.{given_main, unhanded}
use Rattle.end_calls.specs.Links.{linked}
use Rattle.endpoint.proofs.Inside.{inside}
use Rattle.endpoint.proofs.WiredLossy.{attached_none, lawful_in, lossy_read, part_way, wired_none, wired_seen}
use Rattle.endpoint.proofs.endpoint.Endpoint.wire_lossy.Goals as goal

pub take_parts-requires : goal.take_parts-requires
take_parts-requires g c =
    let old = c.self.invariant in
    let role = old.0 in
    let t = old.1 in
    let took = c.input-took.ensures in
    record {
      lawful = (
        unhanded t ++ took.left.0,
        given_main t,
        role,
        past role t,
        linked Lossy role t ▷ In c.args.now c.args.datagram.now c.input-took.result,
        part_way _ _ _ _ _ _ _ _ _ _ c.in-Some.link _ role t c.args.now c.args.datagram.now c.input-took.result took.left.0 old.2 c.in-Some.is took.trace took.left.1 took.stays_open,
      );
    }

pub invariant_of-self-2 : goal.invariant_of-self-2
invariant_of-self-2 g c =
    let old = c.self.invariant in
    let role = old.0 in
    let t = old.1 in
    let took = c.input-took.ensures in
    lawful_in _ _ _ g.C.Carrier.load _ _ _ g.P.Post.load role t Lossy c.args.now c.args.datagram.now c.input-took.result _ _
    (lossy_read _ _ _ g.C.Carrier.load _ _ _ g.P.Post.load c.self.inside.reader c.take_parts.new.reader c.self.inside.postings c.self.inside.reliable c.self.inside.lossy c.in-Some.link c.input-took.new.self c.take_parts.new.link role t c.args.now c.args.datagram.now c.input-took.result
    c.load_of.result old.2 c.in-Some.is took.trace took.left took.stays_open took.load c.load_of.ensures c.take_parts.ensures.handed c.take_parts.ensures.room c.is_hold_full-is_full.ensures.within)

pub returns-clause-read : goal.returns-clause-read
returns-clause-read g c role t k =
    let e = inside _ _ c.self.view_is k in
    let took = c.input-took.ensures in
    wired_seen _ _ _ g.C.Carrier.load _ _ _ g.P.Post.load role t Lossy c.args.now c.args.datagram.now c.input-took.result _ _ _ c.self.view_is
    (lossy_read _ _ _ g.C.Carrier.load _ _ _ g.P.Post.load c.self.inside.reader c.take_parts.new.reader c.self.inside.postings c.self.inside.reliable c.self.inside.lossy c.in-Some.link c.input-took.new.self c.take_parts.new.link role t c.args.now c.args.datagram.now c.input-took.result c.load_of.result e
    c.in-Some.is took.trace took.left took.stays_open took.load c.load_of.ensures c.take_parts.ensures.handed c.take_parts.ensures.room c.is_hold_full-is_full.ensures.within)

pub returns-in_default-clause-read : goal.returns-in_default-clause-read
returns-in_default-clause-read g c role t k =
    let e = inside _ _ c.self.view_is k in
    wired_seen _ _ _ g.C.Carrier.load _ _ _ g.P.Post.load role t Lossy c.args.now c.args.datagram.now _ _ _ _ c.self.view_is
    (wired_none _ _ _ g.C.Carrier.load _ _ _ g.P.Post.load (record { reader = c.self.inside.reader; postings = c.self.inside.postings; reliable = c.self.inside.reliable; lossy = c.self.inside.lossy }) role t Lossy c.args.now c.args.datagram.now e (attached_none _ _ _ Lossy _ role t c.self.inside.lossy e.has_lossy c.in_default.is))
