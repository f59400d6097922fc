use Rattle.mt_base.specs.declared.kinds.Kind.TheVariants.{Reliable}
use Rattle.mt_base.specs.declared.kinds.Role.TheVariants.{Server, Client}
use Rattle.mt_endpoint.specs.Acts.{Attaches}
use Rattle.end_calls.specs.Net.{at}
use Rattle.end_pair.proofs.Attached.{lawful_if}
use Rattle.end_pair.proofs.Inside.{inside, side_call, with_lawful}
use Rattle.end_pair.proofs.pair.Pair.attach_reliable.Goals as goal

pub returns-in-Server-clause-attached : goal.returns-in-Server-clause-attached
returns-in-Server-clause-attached g c w k is =
    let s = inside _ _ c.self.view_is k in
    side_call _ _ _ _ _ _ _ w c.args.side Server c.give_reliable.new.end (Attaches Reliable) c.in-Server.is s (c.give_reliable.ensures.attached Server (at Server w) (s.ends Server) is)

pub invariant_of-self : goal.invariant_of-self
invariant_of-self g c =
    let e = c.self.invariant Server in
    with_lawful _ _ _ _ _ _ _ Server c.give_reliable.new.end c.self.invariant (lawful_if _ _ _ _ _ _ c.self.inside.server c.give_reliable.new.end Server c.give_reliable.result (Attaches Reliable) e (c.give_reliable.ensures.attached Server e.0 e.1) c.give_reliable.ensures.unchanged)

pub returns-in-Client-clause-attached : goal.returns-in-Client-clause-attached
returns-in-Client-clause-attached g c w k is =
    let s = inside _ _ c.self.view_is k in
    side_call _ _ _ _ _ _ _ w c.args.side Client c.give_reliable-in-Client.new.end (Attaches Reliable) c.in-Client.is s (c.give_reliable-in-Client.ensures.attached Client (at Client w) (s.ends Client) is)

pub invariant_of-self-in-Client : goal.invariant_of-self-in-Client
invariant_of-self-in-Client g c =
    let e = c.self.invariant Client in
    with_lawful _ _ _ _ _ _ _ Client c.give_reliable-in-Client.new.end c.self.invariant (lawful_if _ _ _ _ _ _ c.self.inside.client c.give_reliable-in-Client.new.end Client c.give_reliable-in-Client.result (Attaches Reliable) e (c.give_reliable-in-Client.ensures.attached Client e.0 e.1) c.give_reliable-in-Client.ensures.unchanged)
