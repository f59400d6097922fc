use Rattle.std.proofs.Common.{List, sym, subst, ◌∙◌}
use Rattle.channel_counts.specs.declared.channel.Channel.{Channel}
use Rattle.channel_counts.specs.Counting.{AreKept}
use Rattle.channel_counts.proofs.Keeping.{id_same}
use Rattle.channel_counts.proofs.counts.ChannelCounts.id_at.Goals as goal

pub returns : goal.returns
returns c told h = c.id_of.ensures ∙ id_same c.args.place c.deref.result.now told
    (subst (λ (items : List Channel). AreKept items told) (sym c.self.view_is ∙ sym c.deref.ensures.value) h)
