use Rattle.std.proofs.Common.{◌++◌, ◌∷◌, [], List, sym, subst}
use Rattle.channel_counts.specs.declared.channel.Channel.{Channel}
use Rattle.channel_counts.specs.Counting.{AreKept}
use Rattle.channel_counts.specs.Told.{created}
use Rattle.channel_counts.proofs.Keeping.{one_more}
use Rattle.channel_counts.proofs.counts.ChannelCounts.create.Goals as goal

pub returns-clause-created : goal.returns-clause-created
returns-clause-created c told h =
    subst (λ (items : List Channel). AreKept items (told ++ created c.args.id c.args.name.now ∷ [])) (sym c.in_ok-push.ensures.items)
    (one_more c.self.inside.channels.items told c.in_ok-channel.channel (created c.args.id c.args.name.now)
    (subst (λ (items : List Channel). AreKept items told) (sym c.self.view_is) h) c.in_ok-channel.ensures)
