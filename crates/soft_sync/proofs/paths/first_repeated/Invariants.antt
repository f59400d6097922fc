use Rattle.std.proofs.Common.{◌≡◌, None, take}
use Rattle.soft_sync.specs.Words.{first_repeated}
use Rattle.soft_sync.proofs.paths.first_repeated.Given as goal

abbrev pub invariant-loop-index : goal.invariant-loop-index
invariant-loop-index l = first_repeated l.seen (take l.index l.ids) ≡ None
