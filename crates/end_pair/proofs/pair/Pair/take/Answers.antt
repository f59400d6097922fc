use Rattle.mt_base.specs.declared.kinds.Role.TheVariants.{Server, Client}
use Rattle.mt_endpoint.specs.Acts.{Takes}
use Rattle.end_calls.specs.Net.{at}
use Rattle.end_pair.proofs.Inside.{inside, lawful_some, side_some}
use Rattle.end_pair.proofs.pair.Pair.take.Goals as goal

pub returns-in-Server-clause-taken : goal.returns-in-Server-clause-taken
returns-in-Server-clause-taken g c w k =
    let s = inside _ _ c.self.view_is k in
    side_some _ _ _ _ _ _ _ w c.args.side Server c.take.new.self c.take.result (λ message. Takes c.args.id message) c.in-Server.is s (c.take.ensures.taken Server (at Server w) (s.ends Server))

pub invariant_of-self : goal.invariant_of-self
invariant_of-self g c =
    let old = c.self.invariant in
    lawful_some _ _ _ _ _ _ _ Server c.take.new.self c.take.result (λ message. Takes c.args.id message) old c.take.ensures.none (c.take.ensures.taken Server (old Server).0 (old Server).1)

pub returns-in-Client-clause-taken : goal.returns-in-Client-clause-taken
returns-in-Client-clause-taken g c w k =
    let s = inside _ _ c.self.view_is k in
    side_some _ _ _ _ _ _ _ w c.args.side Client c.take-in-Client.new.self c.take-in-Client.result (λ message. Takes c.args.id message) c.in-Client.is s (c.take-in-Client.ensures.taken Client (at Client w) (s.ends Client))

pub invariant_of-self-in-Client : goal.invariant_of-self-in-Client
invariant_of-self-in-Client g c =
    let old = c.self.invariant in
    lawful_some _ _ _ _ _ _ _ Client c.take-in-Client.new.self c.take-in-Client.result (λ message. Takes c.args.id message) old c.take-in-Client.ensures.none (c.take-in-Client.ensures.taken Client (old Client).0 (old Client).1)
