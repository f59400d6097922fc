use Rattle.std.proofs.Common.{ap}
use Rattle.end_calls.specs.Calls.{MainIn, past}
use Rattle.end_calls.specs.Law.{given_main, unpulled}
use Rattle.end_calls.specs.Links.{linked}
use Rattle.mt_base.specs.Trace.{◌▷◌}
use Rattle.mt_base.specs.declared.kinds.Kind.TheVariants.{Reliable}
use Rattle.endpoint.specs.Attached.{load_in}
use Rattle.endpoint.proofs.Inside.{inside}
use Rattle.endpoint.proofs.MainTaken.{on_way, taken, taken_with}
use Rattle.endpoint.proofs.endpoint.Endpoint.main_in.Goals as goal

pub read_all-requires : goal.read_all-requires
read_all-requires g c =
    let old = c.self.invariant in
    let role = old.0 in
    let t = old.1 in
    record { lawful = (unpulled t, given_main t, role, past role t, linked Reliable role t, load_in g.C.Carrier.load c.self.inside.reliable, on_way _ _ _ g.C.Carrier.load _ _ _ _ _ _ _ role t old.2) }

pub returns-clause-reads : goal.returns-clause-reads
returns-clause-reads g c role t k =
    let e = inside _ _ c.self.view_is k in
    let all = c.read_all.ensures.read (unpulled t) (given_main t) role (past role t) (linked Reliable role t) (load_in g.C.Carrier.load c.self.inside.reliable) (on_way _ _ _ g.C.Carrier.load _ _ _ _ _ _ _ role t e) in
    taken_with _ _ _ g.C.Carrier.load _ _ _ _ _ _ _ _ _ role t c.args.bytes.now c.read_all.result _ (ap (λ k. load_in g.C.Carrier.load k.reliable) c.self.view_is) e all c.read_all.ensures.room

pub invariant_of-self : goal.invariant_of-self
invariant_of-self g c =
    let old = c.self.invariant in
    let role = old.0 in
    let t = old.1 in
    let all = c.read_all.ensures.read (unpulled t) (given_main t) role (past role t) (linked Reliable role t) (load_in g.C.Carrier.load c.self.inside.reliable) (on_way _ _ _ g.C.Carrier.load _ _ _ _ _ _ _ role t old.2) in (
      role,
      t ▷ MainIn c.args.bytes.now c.read_all.result (load_in g.C.Carrier.load c.self.inside.reliable) all.lack,
      taken _ _ _ g.C.Carrier.load _ _ _ _ _ _ _ _ _ role t c.args.bytes.now c.read_all.result old.2 all c.read_all.ensures.room,
    )
