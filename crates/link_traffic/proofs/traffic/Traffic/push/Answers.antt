use Rattle.std.proofs.Common.{◌≡◌, ◌++◌, ◌∷◌, [], cond, length, ap, ◌∙◌, arith}
use Rattle.std.proofs.lemmas.Grind.{common_steps}
use Rattle.mt_base.specs.declared.kinds.Role.TheVariants.{Server, Client}
use Rattle.mt_base.specs.Ends.{same_role}
use Rattle.link_traffic.proofs.Storing.{given_of, given_more, stored_more}
use Rattle.link_traffic.proofs.traffic.Traffic.push.Goals as goal
use Rattle.link_traffic.proofs.traffic.Traffic.push.Goals.{in-Server, in-Client}

pub invariant_of-self-2 : goal.invariant_of-self-2
invariant_of-self-2 c =
    let old = c.self.inside in
    let mid = c.match-side.self-inside in
    let side = c.args.side in
    let datagram = c.args.datagram.now in
    let kept : mid.bytes ≡ c.reserve.new.self = elim c.match-side.branch [ in-Server w ↦ grind arith | in-Client w ↦ grind arith ] in
    let server : mid.server.items ≡ old.server.items ++ cond (same_role Server side) (length old.datagrams.items ∷ []) [] =
    elim c.match-side.branch [ in-Server w ↦ grind (arith, common_steps) | in-Client w ↦ grind (arith, common_steps) ] in
    let client : mid.client.items ≡ old.client.items ++ cond (same_role Client side) (length old.datagrams.items ∷ []) [] =
    elim c.match-side.branch [ in-Server w ↦ grind (arith, common_steps) | in-Client w ↦ grind (arith, common_steps) ] in
    let bytes : c.extend_from_slice.new.self.items ≡ old.bytes.items ++ datagram = grind (arith, common_steps) in
    let given : c.push-2.new.self.items ≡ old.datagrams.items ++ (given_of side old.bytes.items datagram ∷ []) = grind (arith, common_steps) in
    stored_more old.bytes.items datagram old.datagrams.items old.server.items old.client.items side c.extend_from_slice.new.self.items c.push-2.new.self.items mid.server.items mid.client.items
    c.self.invariant bytes given server client

pub returns-clause-given : goal.returns-clause-given
returns-clause-given c =
    let old = c.self.inside in
    let mid = c.match-side.self-inside in
    let side = c.args.side in
    let datagram = c.args.datagram.now in
    let kept : mid.bytes ≡ c.reserve.new.self = elim c.match-side.branch [ in-Server w ↦ grind arith | in-Client w ↦ grind arith ] in
    let bytes : c.extend_from_slice.new.self.items ≡ old.bytes.items ++ datagram = grind (arith, common_steps) in
    let given : c.push-2.new.self.items ≡ old.datagrams.items ++ (given_of side old.bytes.items datagram ∷ []) = grind (arith, common_steps) in
    let stored = c.self.invariant in
    given_more old.bytes.items datagram old.datagrams.items side c.extend_from_slice.new.self.items c.push-2.new.self.items stored.inside bytes given
    ∙ ap (λ t. t ++ ((side, datagram) ∷ [])) c.self.view_is
