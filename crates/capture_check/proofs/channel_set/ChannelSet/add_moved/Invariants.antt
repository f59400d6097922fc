use Rattle.std.proofs.Common.{◌≡◌, ◌||◌, ℕ, take}
use Rattle.capture_check.specs.Arrivals.{has}
use Rattle.capture_check.specs.WordsSoFar.{names_id}
use Rattle.capture_check.proofs.channel_set.ChannelSet.add_moved.Given as goal

abbrev pub invariant-loop-moved : goal.invariant-loop-moved
invariant-loop-moved l = (id : ℕ) → has l.self id ≡ (has l.fn.self id || names_id l.named id (take l.moved-index l.moves))
