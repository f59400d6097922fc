use Rattle.mt_base.specs.declared.kinds.Kind.TheVariants.{Reliable, Lossy}
use Rattle.mt_base.specs.declared.kinds.Role.TheVariants.{Server, Client}
use Rattle.end_calls.specs.Net.{at}
use Rattle.end_pair.proofs.Inside.{inside}
use Rattle.end_pair.proofs.Moved.{lawful_both}
use Rattle.end_pair.proofs.Wired.{polled_ok}
use Rattle.end_pair.proofs.pair.Pair.poll.Goals as goal

pub give-requires-clause-lawful : goal.give-requires-clause-lawful
give-requires-clause-lawful g c = c.self.invariant Server

pub invariant_of-self : goal.invariant_of-self
invariant_of-self g c = lawful_both _ _ _ _ _ _ _ _ _ _ c.give.new.end c.self.inside.client c.give.ensures.lawful (c.self.invariant Client)

pub returns-in-Reliable-clause-polled : goal.returns-in-Reliable-clause-polled
returns-in-Reliable-clause-polled g c w k on =
    let s = inside _ _ c.self.view_is k in
    polled_ok _ _ _ _ _ _ _ w c.args.side Server c.args.kind Reliable c.args.now c.give.result c.give.new.end c.give.new.traffic c.in-Server.is c.in-Reliable.is s (c.give.ensures.given (at Server w) (s.ends Server)) on

pub give-requires-in-Lossy-clause-lawful : goal.give-requires-in-Lossy-clause-lawful
give-requires-in-Lossy-clause-lawful g c = c.self.invariant Server

pub invariant_of-self-in-Lossy : goal.invariant_of-self-in-Lossy
invariant_of-self-in-Lossy g c = lawful_both _ _ _ _ _ _ _ _ _ _ c.give-in-Lossy.new.end c.self.inside.client c.give-in-Lossy.ensures.lawful (c.self.invariant Client)

pub returns-in-Lossy-clause-polled : goal.returns-in-Lossy-clause-polled
returns-in-Lossy-clause-polled g c w k on =
    let s = inside _ _ c.self.view_is k in
    polled_ok _ _ _ _ _ _ _ w c.args.side Server c.args.kind Lossy c.args.now c.give-in-Lossy.result c.give-in-Lossy.new.end c.give-in-Lossy.new.traffic c.in-Server.is c.in-Lossy.is s (c.give-in-Lossy.ensures.given (at Server w) (s.ends Server)) on

pub give-requires-in-Reliable-kind-clause-lawful : goal.give-requires-in-Reliable-kind-clause-lawful
give-requires-in-Reliable-kind-clause-lawful g c = c.self.invariant Client

pub invariant_of-self-in-Reliable-kind : goal.invariant_of-self-in-Reliable-kind
invariant_of-self-in-Reliable-kind g c = lawful_both _ _ _ _ _ _ _ _ _ _ c.self.inside.server c.give-in-Reliable-kind.new.end (c.self.invariant Server) c.give-in-Reliable-kind.ensures.lawful

pub returns-in-Reliable-kind-clause-polled : goal.returns-in-Reliable-kind-clause-polled
returns-in-Reliable-kind-clause-polled g c w k on =
    let s = inside _ _ c.self.view_is k in
    polled_ok _ _ _ _ _ _ _ w c.args.side Client c.args.kind Reliable c.args.now c.give-in-Reliable-kind.result c.give-in-Reliable-kind.new.end c.give-in-Reliable-kind.new.traffic c.in-Client.is c.in-Reliable-kind.is s (c.give-in-Reliable-kind.ensures.given (at Client w) (s.ends Client)) on

pub give-requires-in-Lossy-kind-clause-lawful : goal.give-requires-in-Lossy-kind-clause-lawful
give-requires-in-Lossy-kind-clause-lawful g c = c.self.invariant Client

pub invariant_of-self-in-Lossy-kind : goal.invariant_of-self-in-Lossy-kind
invariant_of-self-in-Lossy-kind g c = lawful_both _ _ _ _ _ _ _ _ _ _ c.self.inside.server c.give-in-Lossy-kind.new.end (c.self.invariant Server) c.give-in-Lossy-kind.ensures.lawful

pub returns-in-Lossy-kind-clause-polled : goal.returns-in-Lossy-kind-clause-polled
returns-in-Lossy-kind-clause-polled g c w k on =
    let s = inside _ _ c.self.view_is k in
    polled_ok _ _ _ _ _ _ _ w c.args.side Client c.args.kind Lossy c.args.now c.give-in-Lossy-kind.result c.give-in-Lossy-kind.new.end c.give-in-Lossy-kind.new.traffic c.in-Client.is c.in-Lossy-kind.is s (c.give-in-Lossy-kind.ensures.given (at Client w) (s.ends Client)) on
