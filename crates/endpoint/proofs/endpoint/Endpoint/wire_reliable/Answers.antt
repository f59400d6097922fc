use Rattle.std.proofs.Common.{◌++◌}
use Rattle.mt_base.specs.declared.kinds.Kind.TheVariants.{Reliable}
use Rattle.mt_base.specs.Trace.{◌▷◌}
use Rattle.carrier.specs.Entries.{In}
use Rattle.end_calls.specs.Calls.{past}
use Rattle.end_calls.specs.Law.{given_main, unpulled}
use Rattle.end_calls.specs.Links.{linked}
use Rattle.endpoint.proofs.Inside.{inside}
use Rattle.endpoint.proofs.WiredBoth.{part_next, reliable_read}
use Rattle.endpoint.proofs.WiredLossy.{attached_none, lawful_in, wired_none, wired_seen}
use Rattle.endpoint.proofs.WiredReliable.{pull_way}
use Rattle.endpoint.proofs.endpoint.Endpoint.wire_reliable.Goals as goal

pub pull_all-requires : goal.pull_all-requires
pull_all-requires g c =
    let old = c.self.invariant in
    let role = old.0 in
    let t = old.1 in
    let took = c.input-took.ensures in
    record {
      lawful = (
        unpulled t ++ took.left.0,
        given_main t,
        role,
        past role t,
        linked Reliable role t ▷ In c.args.now c.args.datagram.now c.input-took.result,
        g.C.Carrier.load c.input-took.new.self,
        pull_way _ _ _ g.C.Carrier.load _ _ _ _ _ _ _ c.in-Some.link _ role t c.args.now c.args.datagram.now c.input-took.result took.left.0 old.2 c.in-Some.is took.trace took.left.1 took.stays_open,
      );
    }

pub take_if-requires : goal.take_if-requires
take_if-requires g c =
    let old = c.self.invariant in
    let took = c.input-took.ensures in
    record {
      lawful =
          part_next _ _ _ g.C.Carrier.load _ _ _ c.self.inside.reader c.pull_all.new.reader c.self.inside.postings c.self.inside.reliable c.self.inside.lossy c.in-Some.link c.input-took.new.self c.pull_all.new.link old.0 old.1 c.args.now c.args.datagram.now c.input-took.result old.2 c.in-Some.is
          took.trace took.left took.stays_open c.pull_all.ensures.pulled;
    }

pub invariant_of-self-2 : goal.invariant_of-self-2
invariant_of-self-2 g c =
    let old = c.self.invariant in
    let role = old.0 in
    let t = old.1 in
    let took = c.input-took.ensures in
    lawful_in _ _ _ g.C.Carrier.load _ _ _ g.P.Post.load role t Reliable c.args.now c.args.datagram.now c.input-took.result _ _
    (reliable_read _ _ _ g.C.Carrier.load _ _ _ g.P.Post.load c.self.inside.reader c.pull_all.new.reader c.take_if.new.reader c.self.inside.postings c.self.inside.reliable c.self.inside.lossy c.take_if.new.lossy c.in-Some.link c.input-took.new.self c.pull_all.new.link role t c.args.now c.args.datagram.now
    c.input-took.result c.queued.result old.2 c.in-Some.is took.trace took.left took.stays_open c.pull_all.ensures.pulled c.queued.ensures c.take_if.ensures.handed c.pull_all.ensures.room c.take_if.ensures.room c.is_hold_full-is_full.ensures.within)

pub returns-clause-read : goal.returns-clause-read
returns-clause-read g c role t k =
    let e = inside _ _ c.self.view_is k in
    let took = c.input-took.ensures in
    wired_seen _ _ _ g.C.Carrier.load _ _ _ g.P.Post.load role t Reliable c.args.now c.args.datagram.now c.input-took.result _ _ _ c.self.view_is
    (reliable_read _ _ _ g.C.Carrier.load _ _ _ g.P.Post.load c.self.inside.reader c.pull_all.new.reader c.take_if.new.reader c.self.inside.postings c.self.inside.reliable c.self.inside.lossy c.take_if.new.lossy c.in-Some.link c.input-took.new.self c.pull_all.new.link role t c.args.now c.args.datagram.now
    c.input-took.result c.queued.result e c.in-Some.is took.trace took.left took.stays_open c.pull_all.ensures.pulled c.queued.ensures c.take_if.ensures.handed c.pull_all.ensures.room c.take_if.ensures.room c.is_hold_full-is_full.ensures.within)

pub returns-in_default-clause-read : goal.returns-in_default-clause-read
returns-in_default-clause-read g c role t k =
    let e = inside _ _ c.self.view_is k in
    wired_seen _ _ _ g.C.Carrier.load _ _ _ g.P.Post.load role t Reliable c.args.now c.args.datagram.now _ _ _ _ c.self.view_is
    (wired_none _ _ _ g.C.Carrier.load _ _ _ g.P.Post.load (record { reader = c.self.inside.reader; postings = c.self.inside.postings; reliable = c.self.inside.reliable; lossy = c.self.inside.lossy }) role t Reliable c.args.now c.args.datagram.now e (attached_none _ _ _ Reliable _ role t c.self.inside.reliable e.has_reliable c.in_default.is))
