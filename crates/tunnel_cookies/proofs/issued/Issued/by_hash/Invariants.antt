use Rattle.std.proofs.Common.{take}
use Rattle.tunnel_cookies.specs.Entries.{NoneHas}
use Rattle.tunnel_cookies.proofs.issued.Issued.by_hash.Given as goal

abbrev pub invariant-loop-index : goal.invariant-loop-index
invariant-loop-index l = NoneHas l.hash (take l.index l.self)
