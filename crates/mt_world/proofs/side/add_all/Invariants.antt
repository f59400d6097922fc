use Rattle.std.proofs.Common.{ℕ, ◌++◌, List, take}
use Rattle.play_report.specs.Tallying.{Counts}
use Rattle.mt_world.proofs.side.add_all.Given as goal

-- the messages so far were added
abbrev pub invariant-loop-message : goal.invariant-loop-message
invariant-loop-message l = (before : List (List ℕ)) → Counts l.fn.tally before → Counts l.tally (before ++ take l.message-index l.messages)
