use Rattle.mt_base.specs.declared.kinds.Role.TheVariants.{Server, Client}
use Rattle.mt_endpoint.specs.Acts.{Sends}
use Rattle.end_calls.specs.Net.{at}
use Rattle.end_pair.proofs.Inside.{inside, lawful_ok, side_ok}
use Rattle.end_pair.proofs.pair.Pair.send.Goals as goal

pub returns-in-Server-clause-sent : goal.returns-in-Server-clause-sent
returns-in-Server-clause-sent g c w k =
    let s = inside _ _ c.self.view_is k in
    side_ok _ _ _ _ _ _ _ w c.args.side Server c.send.new.self c.send.result (Sends c.args.id c.args.message.now) c.in-Server.is s (c.send.ensures.sent Server (at Server w) (s.ends Server))

pub invariant_of-self : goal.invariant_of-self
invariant_of-self g c =
    let old = c.self.invariant in
    lawful_ok _ _ _ _ _ _ _ Server c.send.new.self c.send.result (Sends c.args.id c.args.message.now) old c.send.ensures.unchanged (c.send.ensures.sent Server (old Server).0 (old Server).1)

pub returns-in-Client-clause-sent : goal.returns-in-Client-clause-sent
returns-in-Client-clause-sent g c w k =
    let s = inside _ _ c.self.view_is k in
    side_ok _ _ _ _ _ _ _ w c.args.side Client c.send-in-Client.new.self c.send-in-Client.result (Sends c.args.id c.args.message.now) c.in-Client.is s (c.send-in-Client.ensures.sent Client (at Client w) (s.ends Client))

pub invariant_of-self-in-Client : goal.invariant_of-self-in-Client
invariant_of-self-in-Client g c =
    let old = c.self.invariant in
    lawful_ok _ _ _ _ _ _ _ Client c.send-in-Client.new.self c.send-in-Client.result (Sends c.args.id c.args.message.now) old c.send-in-Client.ensures.unchanged (c.send-in-Client.ensures.sent Client (old Client).0 (old Client).1)
