use Rattle.std.proofs.Common.{◌∙◌}
use Rattle.end_session.specs.ListedView.{channels_left}
use Rattle.end_session.proofs.MovesHeard.{passed}
use Rattle.end_session.proofs.hearing_sync.is_before.Goals as goal

pub loop-channel-preserved : goal.loop-channel-preserved
loop-channel-preserved c =
    passed c.args.id c.loop-channel.left c.in-Some.channel (channels_left c.next.new.self) (channels_left c.loop-channel.channel-iterator) c.in-Some.ensures.steps c.if-left-eq0.false c.if-channel-id.false
    ∙ c.loop-channel.invariant
