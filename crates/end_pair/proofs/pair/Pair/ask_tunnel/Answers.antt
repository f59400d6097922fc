use Rattle.mt_base.specs.declared.kinds.Role.TheVariants.{Server}
use Rattle.mt_endpoint.specs.Acts.{Asks}
use Rattle.end_calls.specs.Net.{at}
use Rattle.end_pair.proofs.Inside.{inside, lawful_ok, own_ok}
use Rattle.end_pair.proofs.pair.Pair.ask_tunnel.Goals as goal

pub ask_tunnel-requires : goal.ask_tunnel-requires
ask_tunnel-requires g c = ((c.self.invariant Server).1.tells).role_is

pub returns-clause-asked : goal.returns-clause-asked
returns-clause-asked g c w k =
    let s = inside _ _ c.self.view_is k in
    own_ok _ _ _ _ _ _ _ w Server c.ask_tunnel.new.self c.ask_tunnel.result (Asks c.args.kind c.args.id c.args.cookie.now) s (c.ask_tunnel.ensures.asked Server (at Server w) (s.ends Server))

pub invariant_of-self : goal.invariant_of-self
invariant_of-self g c =
    let old = c.self.invariant in
    lawful_ok _ _ _ _ _ _ _ Server c.ask_tunnel.new.self c.ask_tunnel.result (Asks c.args.kind c.args.id c.args.cookie.now) old c.ask_tunnel.ensures.unchanged (c.ask_tunnel.ensures.asked Server (old Server).0 (old Server).1)
