use Rattle.mt_base.specs.declared.kinds.Role.TheVariants.{Server, Client}
use Rattle.mt_endpoint.specs.Acts.{Closes}
use Rattle.end_calls.specs.Net.{at}
use Rattle.end_pair.proofs.Inside.{inside, lawful_ok, side_ok}
use Rattle.end_pair.proofs.pair.Pair.close_channel.Goals as goal

pub returns-in-Server-clause-closed : goal.returns-in-Server-clause-closed
returns-in-Server-clause-closed g c w k =
    let s = inside _ _ c.self.view_is k in
    side_ok _ _ _ _ _ _ _ w c.args.side Server c.close_channel.new.self c.close_channel.result (Closes c.args.id) c.in-Server.is s (c.close_channel.ensures.closed Server (at Server w) (s.ends Server))

pub invariant_of-self : goal.invariant_of-self
invariant_of-self g c =
    let old = c.self.invariant in
    lawful_ok _ _ _ _ _ _ _ Server c.close_channel.new.self c.close_channel.result (Closes c.args.id) old c.close_channel.ensures.unchanged (c.close_channel.ensures.closed Server (old Server).0 (old Server).1)

pub returns-in-Client-clause-closed : goal.returns-in-Client-clause-closed
returns-in-Client-clause-closed g c w k =
    let s = inside _ _ c.self.view_is k in
    side_ok _ _ _ _ _ _ _ w c.args.side Client c.close_channel-in-Client.new.self c.close_channel-in-Client.result (Closes c.args.id) c.in-Client.is s (c.close_channel-in-Client.ensures.closed Client (at Client w) (s.ends Client))

pub invariant_of-self-in-Client : goal.invariant_of-self-in-Client
invariant_of-self-in-Client g c =
    let old = c.self.invariant in
    lawful_ok _ _ _ _ _ _ _ Client c.close_channel-in-Client.new.self c.close_channel-in-Client.result (Closes c.args.id) old c.close_channel-in-Client.ensures.unchanged (c.close_channel-in-Client.ensures.closed Client (old Client).0 (old Client).1)
