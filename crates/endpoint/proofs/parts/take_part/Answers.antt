use Rattle.std.proofs.Common.{◌≤◌, length, subst, sym}
use Rattle.endpoint.proofs.PartRead.{one_part, part_fits}
use Rattle.endpoint.proofs.parts.take_part.Goals as goal

pub post_waiting-requires : goal.post_waiting-requires
post_waiting-requires g c =
    let r = c.read_part.ensures in
    subst (λ b. length b ≤ 1000) (sym c.waiting.ensures) (part_fits _ _ _ c.args.reader.now c.read_part.new.self c.args.link.now _ c.is_full-is_full.result c.requires.lawful r.took r.same)

pub returns-clause-taken : goal.returns-clause-taken
returns-clause-taken g c unhanded sent role p m way was =
    let n = c.in-Some.ensures in
    let r = c.read_part.ensures in
    let w = c.post_waiting.ensures in
    one_part _ _ _ g.P.Post.load unhanded sent role p m c.args.reader.now c.read_part.new.self c.given.new.self c.args.link.now c.next.new.self c.post_waiting.new.link _ _ c.is_full-is_full.result way c.is_full-is_full.ensures
    n.hands_out n.trace n.load n.state r.took r.same r.reliable c.waiting.ensures w.trace w.none w.load w.left w.state c.given.ensures.stands c.given.ensures.left
