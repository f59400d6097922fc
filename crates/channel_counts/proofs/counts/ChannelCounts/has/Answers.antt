use Rattle.std.proofs.Common.{List, sym, subst, ◌∙◌}
use Rattle.channel_counts.specs.declared.channel.Channel.{Channel}
use Rattle.channel_counts.specs.Counting.{AreKept}
use Rattle.channel_counts.proofs.Keeping.{has_same}
use Rattle.channel_counts.proofs.counts.ChannelCounts.has.Goals as goal

pub returns : goal.returns
returns c told h = c.has_id.ensures ∙ has_same c.args.id c.deref.result.now told
    (subst (λ (items : List Channel). AreKept items told) (sym c.self.view_is ∙ sym c.deref.ensures.value) h)
