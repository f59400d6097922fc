use Rattle.std.proofs.Common.{◌≡◌, ◌++◌, List, take}
use Rattle.channel_counts.specs.Counting.{AreKept}
use Rattle.channel_counts.specs.Lines.{channel_lines}
use Rattle.channel_counts.specs.Told.{Told}
use Rattle.channel_counts.proofs.counts.ChannelCounts.report.Given as goal

abbrev pub invariant-loop-channel : goal.invariant-loop-channel
invariant-loop-channel l =
    (told : List Told) → AreKept l.fn.self told → l.report ≡ l.fn.report ++ channel_lines (take l.channel-index told)
