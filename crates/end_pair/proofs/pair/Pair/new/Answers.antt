use Rattle.std.proofs.Common.{rules}
use Rattle.end_pair.proofs.Made.{both_made}
use Rattle.end_pair.proofs.Moved.{lawful_both}
use Rattle.end_pair.proofs.pair.Pair.new.Goals as goal

pub returns : goal.returns
returns g c = both_made _ _ _ _ _ _ _ _ _ _ _ _ (search rules) (search rules) c.new-5.ensures c.new-6.ensures c.in_ok-new.ensures c.in_ok-new-2.ensures

pub invariant_of-result : goal.invariant_of-result
invariant_of-result g c = lawful_both _ _ _ _ _ _ _ _ _ _ _ _ (_, c.in_ok-new.ensures) (_, c.in_ok-new-2.ensures)
