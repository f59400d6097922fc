use Rattle.mt_base.specs.declared.kinds.Role.TheVariants.{Server}
use Rattle.mt_endpoint.specs.Acts.{Syncs}
use Rattle.end_calls.specs.Net.{at}
use Rattle.end_pair.proofs.Inside.{inside, lawful_ok, own_ok}
use Rattle.end_pair.proofs.pair.Pair.soft_sync.Goals as goal

pub soft_sync-requires : goal.soft_sync-requires
soft_sync-requires g c = ((c.self.invariant Server).1.tells).role_is

pub returns-clause-moved : goal.returns-clause-moved
returns-clause-moved g c w k =
    let s = inside _ _ c.self.view_is k in
    own_ok _ _ _ _ _ _ _ w Server c.soft_sync.new.self c.soft_sync.result (Syncs c.args.reliable.now c.args.lossy.now) s (c.soft_sync.ensures.moved Server (at Server w) (s.ends Server))

pub invariant_of-self : goal.invariant_of-self
invariant_of-self g c =
    let old = c.self.invariant in
    lawful_ok _ _ _ _ _ _ _ Server c.soft_sync.new.self c.soft_sync.result (Syncs c.args.reliable.now c.args.lossy.now) old c.soft_sync.ensures.unchanged (c.soft_sync.ensures.moved Server (old Server).0 (old Server).1)
