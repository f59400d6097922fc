use Rattle.mt_base.specs.declared.kinds.Role.TheVariants.{Server, Client}
use Rattle.end_calls.specs.Net.{at}
use Rattle.end_pair.proofs.Inside.{inside}
use Rattle.end_pair.proofs.Moved.{as_asked, lawful_both, moves_from_client, moves_from_server, same_stands}
use Rattle.end_pair.proofs.pair.Pair.move_main.Goals as goal

pub hand_out-requires : goal.hand_out-requires
hand_out-requires g c = let old = c.self.invariant Server in record { lawful = (Server, old.0, old.1) }

pub hand_out-requires-in-Client : goal.hand_out-requires-in-Client
hand_out-requires-in-Client g c = let old = c.self.invariant Client in record { lawful = (Client, old.0, old.1) }

pub returns-in_ok-hand_out-in-Server-clause-moved : goal.returns-in_ok-hand_out-in-Server-clause-moved
returns-in_ok-hand_out-in-Server-clause-moved g c w k =
    let s = inside _ _ c.self.view_is k in
    as_asked _ _ _ _ _ _ _ w c.args.side Server c.args.limit c.take_in.result c.in-Server.is
    (moves_from_server _ _ _ _ _ _ _ w c.args.limit c.hand_out.new.under_way.items c.take_in.new.under_way.items c.take_in.result c.hand_out.new.from c.take_in.new.to s (c.in_ok-hand_out-in-Server.ensures.handed Server (at Server w) (s.ends Server)) (c.take_in.ensures.taken Client (at Client w) (s.ends Client)))

pub invariant_of-self-in-Server : goal.invariant_of-self-in-Server
invariant_of-self-in-Server g c =
    let old = c.self.invariant in
    lawful_both _ _ _ _ _ _ _ _ _ _ c.hand_out.new.from c.take_in.new.to (_, (c.in_ok-hand_out-in-Server.ensures.handed Server (old Server).0 (old Server).1).stands) (_, (c.take_in.ensures.taken Client (old Client).0 (old Client).1).stands)

pub returns-in_ok-hand_out-in-Client-clause-moved : goal.returns-in_ok-hand_out-in-Client-clause-moved
returns-in_ok-hand_out-in-Client-clause-moved g c w k =
    let s = inside _ _ c.self.view_is k in
    as_asked _ _ _ _ _ _ _ w c.args.side Client c.args.limit c.take_in-in-Client.result c.in-Client.is
    (moves_from_client _ _ _ _ _ _ _ w c.args.limit c.hand_out-in-Client.new.under_way.items c.take_in-in-Client.new.under_way.items c.take_in-in-Client.result c.hand_out-in-Client.new.from c.take_in-in-Client.new.to s (c.in_ok-hand_out-in-Client.ensures.handed Client (at Client w) (s.ends Client)) (c.take_in-in-Client.ensures.taken Server (at Server w) (s.ends Server)))

pub invariant_of-self-in-Client : goal.invariant_of-self-in-Client
invariant_of-self-in-Client g c =
    let old = c.self.invariant in
    lawful_both _ _ _ _ _ _ _ _ _ _ c.take_in-in-Client.new.to c.hand_out-in-Client.new.from (_, (c.take_in-in-Client.ensures.taken Server (old Server).0 (old Server).1).stands) (_, (c.in_ok-hand_out-in-Client.ensures.handed Client (old Client).0 (old Client).1).stands)

pub invariant_of-self : goal.invariant_of-self
invariant_of-self g c =
    lawful_both _ _ _ _ _ _ _ _ _ _ c.hand_out.new.from c.self.inside.client (same_stands _ _ _ _ _ _ c.self.inside.server c.hand_out.new.from Server c.in_err-hand_out-in-Server.ensures.unchanged.0 (c.self.invariant Server)) (c.self.invariant Client)

pub invariant_of-self-in_err-hand_out-in-Client : goal.invariant_of-self-in_err-hand_out-in-Client
invariant_of-self-in_err-hand_out-in-Client g c =
    lawful_both _ _ _ _ _ _ _ _ _ _ c.self.inside.server c.hand_out-in-Client.new.from (c.self.invariant Server) (same_stands _ _ _ _ _ _ c.self.inside.client c.hand_out-in-Client.new.from Client c.in_err-hand_out-in-Client.ensures.unchanged.0 (c.self.invariant Client))
