use Rattle.std.proofs.Common.{take}
use Rattle.soft_sync.proofs.Answering.{AreGiven}
use Rattle.soft_sync.proofs.exchanges.Exchanges.behind.Given as goal

abbrev pub invariant-loop-number : goal.invariant-loop-number
invariant-loop-number l = AreGiven (take l.number l.self.rows.items)
