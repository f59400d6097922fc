use Rattle.std.proofs.Common.{List}
use Rattle.channel_counts.specs.Counting.{AreKept}
use Rattle.channel_counts.specs.Told.{Told, noted, with_handed}
use Rattle.channel_counts.proofs.Keeping.{up_to}
use Rattle.channel_counts.proofs.counts.ChannelCounts.note_handed.Given as goal

abbrev pub invariant-loop-channel : goal.invariant-loop-channel
invariant-loop-channel l =
    (told : List Told) → AreKept l.fn.self told → AreKept l.channel-items (up_to (noted l.side l.id (with_handed l.message)) l.channel-index told)
