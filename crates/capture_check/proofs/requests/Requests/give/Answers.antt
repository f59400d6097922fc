use Rattle.std.proofs.Common.{[], ◌∷◌, ◌++◌}
use Rattle.mt_base.specs.declared.kinds.Role.TheVariants.{Server, Client}
use Rattle.mt_base.specs.declared.kinds.Kind.TheVariants.{Reliable, Lossy}
use Rattle.capture_check.specs.Requests.{AsksForTunnel}
use Rattle.capture_check.specs.RequestsSoFar.{AreRequests}
use Rattle.capture_check.proofs.Asking.{of_link, of_client_lossy, of_server}
use Rattle.capture_check.proofs.requests.Requests.give.Goals as goal

pub returns-in-Client-Reliable-clause-kept : goal.returns-in-Client-Reliable-clause-kept
returns-in-Client-Reliable-clause-kept c before agreed are held number =
    of_link (λ e. AsksForTunnel before e × AreRequests (before ++ e ∷ []) c.ask.new.self) c.args.side Client c.args.kind Reliable number c.args.datagram.now c.in-Client-Reliable.is-0 c.in-Client-Reliable.is-1 (c.ask.ensures.kept before agreed are held number)

pub returns-in-Client-Reliable-clause-broken : goal.returns-in-Client-Reliable-clause-broken
returns-in-Client-Reliable-clause-broken c before agreed are fails number =
    of_link (λ e. ¬ AsksForTunnel before e) c.args.side Client c.args.kind Reliable number c.args.datagram.now c.in-Client-Reliable.is-0 c.in-Client-Reliable.is-1 (c.ask.ensures.broken before agreed are fails number)

pub returns-in-Client-Lossy-clause-kept : goal.returns-in-Client-Lossy-clause-kept
returns-in-Client-Lossy-clause-kept c before agreed are held number =
    of_link (λ e. AsksForTunnel before e × AreRequests (before ++ e ∷ []) c.args.self.now) c.args.side Client c.args.kind Lossy number c.args.datagram.now c.in-Client-Lossy.is-0 c.in-Client-Lossy.is-1 (of_client_lossy before c.args.self.now are number c.args.datagram.now)

pub returns-in-Server-Reliable-clause-kept : goal.returns-in-Server-Reliable-clause-kept
returns-in-Server-Reliable-clause-kept c before agreed are held number =
    of_link (λ e. AsksForTunnel before e × AreRequests (before ++ e ∷ []) c.args.self.now) c.args.side Server c.args.kind Reliable number c.args.datagram.now c.in-Server-Reliable.is-0 c.in-Server-Reliable.is-1 (of_server before c.args.self.now are number c.args.datagram.now Reliable)

pub returns-in-Server-Lossy-clause-kept : goal.returns-in-Server-Lossy-clause-kept
returns-in-Server-Lossy-clause-kept c before agreed are held number =
    of_link (λ e. AsksForTunnel before e × AreRequests (before ++ e ∷ []) c.args.self.now) c.args.side Server c.args.kind Lossy number c.args.datagram.now c.in-Server-Lossy.is-0 c.in-Server-Lossy.is-1 (of_server before c.args.self.now are number c.args.datagram.now Lossy)
