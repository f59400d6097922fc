use Rattle.std.proofs.Common.{take}
use Rattle.endpoint.proofs.MessagesGiven.{part_fits, posted}
use Rattle.endpoint.proofs.sending.post_message.Goals as goal

pub post_waiting-requires : goal.post_waiting-requires
post_waiting-requires g c = part_fits c.args.id c.args.message.now (take c.wrap_fragment-count.result c.wrap_fragment-count.new.out) c.requires c.wrap_fragment-count.ensures.bytes

pub returns-clause-took : goal.returns-clause-took
returns-clause-took g c =
    let post = c.post_waiting.ensures in
    posted g.P.Post.stands g.P.Post.left g.P.Post.condition g.P.Post.load c.args.id c.args.message.now (take c.wrap_fragment-count.result c.wrap_fragment-count.new.out) c.args.link.now c.post_waiting.new.link c.requires
    c.wrap_fragment-count.ensures.bytes post.trace post.left post.state
