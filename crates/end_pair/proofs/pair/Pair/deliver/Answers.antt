use Rattle.mt_base.specs.declared.kinds.Kind.TheVariants.{Reliable, Lossy}
use Rattle.mt_base.specs.declared.kinds.Role.TheVariants.{Server, Client}
use Rattle.end_calls.specs.Net.{at}
use Rattle.end_pair.proofs.Inside.{inside}
use Rattle.end_pair.proofs.Moved.{lawful_both}
use Rattle.end_pair.proofs.Wired.{brought_lawful, brought_ok, refused_at}
use Rattle.end_pair.proofs.pair.Pair.deliver.Goals as goal

pub invariant_of-self : goal.invariant_of-self
invariant_of-self g c = lawful_both _ _ _ _ _ _ _ _ _ _ c.self.inside.server c.bring.new.end (c.self.invariant Server) (brought_lawful _ _ _ _ _ _ c.self.inside.client c.bring.new.end Server Client c.self.inside.reliable Reliable c.args.number c.args.now c.bring.result (c.self.invariant Client) (c.bring.ensures.brought Client (c.self.invariant Client).0 (c.self.invariant Client).1) c.bring.ensures.unchanged)

pub returns-in-Reliable-clause-delivered : goal.returns-in-Reliable-clause-delivered
returns-in-Reliable-clause-delivered g c w k =
    let s = inside _ _ c.self.view_is k in
    brought_ok _ _ _ _ _ _ _ w c.args.side Server c.args.kind Reliable c.args.number c.args.now c.bring.result c.bring.new.end c.in-Server.is c.in-Reliable.is s (c.bring.ensures.brought Client (at Client w) (s.ends Client))

pub returns-in-Reliable-clause-refused : goal.returns-in-Reliable-clause-refused
returns-in-Reliable-clause-refused g c w k =
    refused_at _ _ _ _ _ _ _ w c.args.side Server c.args.kind Reliable c.args.number c.bring.result c.in-Server.is c.in-Reliable.is (inside _ _ c.self.view_is k) c.bring.ensures.refused

pub invariant_of-self-in-Lossy : goal.invariant_of-self-in-Lossy
invariant_of-self-in-Lossy g c = lawful_both _ _ _ _ _ _ _ _ _ _ c.self.inside.server c.bring-in-Lossy.new.end (c.self.invariant Server) (brought_lawful _ _ _ _ _ _ c.self.inside.client c.bring-in-Lossy.new.end Server Client c.self.inside.lossy Lossy c.args.number c.args.now c.bring-in-Lossy.result (c.self.invariant Client) (c.bring-in-Lossy.ensures.brought Client (c.self.invariant Client).0 (c.self.invariant Client).1) c.bring-in-Lossy.ensures.unchanged)

pub returns-in-Lossy-clause-delivered : goal.returns-in-Lossy-clause-delivered
returns-in-Lossy-clause-delivered g c w k =
    let s = inside _ _ c.self.view_is k in
    brought_ok _ _ _ _ _ _ _ w c.args.side Server c.args.kind Lossy c.args.number c.args.now c.bring-in-Lossy.result c.bring-in-Lossy.new.end c.in-Server.is c.in-Lossy.is s (c.bring-in-Lossy.ensures.brought Client (at Client w) (s.ends Client))

pub returns-in-Lossy-clause-refused : goal.returns-in-Lossy-clause-refused
returns-in-Lossy-clause-refused g c w k =
    refused_at _ _ _ _ _ _ _ w c.args.side Server c.args.kind Lossy c.args.number c.bring-in-Lossy.result c.in-Server.is c.in-Lossy.is (inside _ _ c.self.view_is k) c.bring-in-Lossy.ensures.refused

pub invariant_of-self-in-Reliable-kind : goal.invariant_of-self-in-Reliable-kind
invariant_of-self-in-Reliable-kind g c = lawful_both _ _ _ _ _ _ _ _ _ _ c.bring-in-Reliable-kind.new.end c.self.inside.client (brought_lawful _ _ _ _ _ _ c.self.inside.server c.bring-in-Reliable-kind.new.end Client Server c.self.inside.reliable Reliable c.args.number c.args.now c.bring-in-Reliable-kind.result (c.self.invariant Server) (c.bring-in-Reliable-kind.ensures.brought Server (c.self.invariant Server).0 (c.self.invariant Server).1) c.bring-in-Reliable-kind.ensures.unchanged) (c.self.invariant Client)

pub returns-in-Reliable-kind-clause-delivered : goal.returns-in-Reliable-kind-clause-delivered
returns-in-Reliable-kind-clause-delivered g c w k =
    let s = inside _ _ c.self.view_is k in
    brought_ok _ _ _ _ _ _ _ w c.args.side Client c.args.kind Reliable c.args.number c.args.now c.bring-in-Reliable-kind.result c.bring-in-Reliable-kind.new.end c.in-Client.is c.in-Reliable-kind.is s (c.bring-in-Reliable-kind.ensures.brought Server (at Server w) (s.ends Server))

pub returns-in-Reliable-kind-clause-refused : goal.returns-in-Reliable-kind-clause-refused
returns-in-Reliable-kind-clause-refused g c w k =
    refused_at _ _ _ _ _ _ _ w c.args.side Client c.args.kind Reliable c.args.number c.bring-in-Reliable-kind.result c.in-Client.is c.in-Reliable-kind.is (inside _ _ c.self.view_is k) c.bring-in-Reliable-kind.ensures.refused

pub invariant_of-self-in-Lossy-kind : goal.invariant_of-self-in-Lossy-kind
invariant_of-self-in-Lossy-kind g c = lawful_both _ _ _ _ _ _ _ _ _ _ c.bring-in-Lossy-kind.new.end c.self.inside.client (brought_lawful _ _ _ _ _ _ c.self.inside.server c.bring-in-Lossy-kind.new.end Client Server c.self.inside.lossy Lossy c.args.number c.args.now c.bring-in-Lossy-kind.result (c.self.invariant Server) (c.bring-in-Lossy-kind.ensures.brought Server (c.self.invariant Server).0 (c.self.invariant Server).1) c.bring-in-Lossy-kind.ensures.unchanged) (c.self.invariant Client)

pub returns-in-Lossy-kind-clause-delivered : goal.returns-in-Lossy-kind-clause-delivered
returns-in-Lossy-kind-clause-delivered g c w k =
    let s = inside _ _ c.self.view_is k in
    brought_ok _ _ _ _ _ _ _ w c.args.side Client c.args.kind Lossy c.args.number c.args.now c.bring-in-Lossy-kind.result c.bring-in-Lossy-kind.new.end c.in-Client.is c.in-Lossy-kind.is s (c.bring-in-Lossy-kind.ensures.brought Server (at Server w) (s.ends Server))

pub returns-in-Lossy-kind-clause-refused : goal.returns-in-Lossy-kind-clause-refused
returns-in-Lossy-kind-clause-refused g c w k =
    refused_at _ _ _ _ _ _ _ w c.args.side Client c.args.kind Lossy c.args.number c.bring-in-Lossy-kind.result c.in-Client.is c.in-Lossy-kind.is (inside _ _ c.self.view_is k) c.bring-in-Lossy-kind.ensures.refused
