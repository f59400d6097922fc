use Rattle.std.proofs.Common.{List}
use Rattle.channel_counts.specs.Counting.{AreKept}
use Rattle.channel_counts.specs.Told.{Told, noted, with_sent}
use Rattle.channel_counts.proofs.Keeping.{up_to}
use Rattle.channel_counts.proofs.counts.ChannelCounts.note_sent.Given as goal

abbrev pub invariant-loop-channel : goal.invariant-loop-channel
invariant-loop-channel l =
    (told : List Told) → AreKept l.fn.self told → AreKept l.channel-items (up_to (noted l.side l.id (with_sent l.message)) l.channel-index told)
