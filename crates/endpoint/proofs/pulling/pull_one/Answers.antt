use Rattle.std.proofs.Common.{take}
use Rattle.endpoint.proofs.PullRead.{one_pull}
use Rattle.endpoint.proofs.pulling.pull_one.Goals as goal

pub returns-clause-pulled : goal.returns-clause-pulled
returns-clause-pulled g c unread sent role p l queued way =
    let wanted = c.wanted-wanted in
    let n = c.next_bytes-count in
    let r = c.read_tunnel.ensures in
    let w = c.give_waiting.ensures in
    one_pull _ _ _ g.C.Carrier.load unread sent role p l queued c.args.reader.now c.read_tunnel.new.self c.given.new.self c.args.link.now n.new.link c.give_waiting.new.link wanted.result n.result (take n.result n.new.buffer) _ way c.requires.whole c.requires.free
    wanted.ensures.wants wanted.ensures.some wanted.ensures.way n.ensures.count n.ensures.bytes n.ensures.left n.ensures.trace n.ensures.load n.ensures.state r.took r.same r.reliable r.lossy c.waiting.ensures w.trace w.load w.none w.left w.state c.given.ensures.stands
    c.given.ensures.left
