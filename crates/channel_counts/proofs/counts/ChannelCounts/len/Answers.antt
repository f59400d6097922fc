use Rattle.std.proofs.Common.{ap, ◌∙◌, length}
use Rattle.channel_counts.proofs.Keeping.{as_many}
use Rattle.channel_counts.proofs.counts.ChannelCounts.len.Goals as goal

pub returns : goal.returns
returns c told h = c.len.ensures ∙ c.self.inside.channels.ok.0 ∙ ap length c.self.view_is ∙ as_many c.args.self.now told h
