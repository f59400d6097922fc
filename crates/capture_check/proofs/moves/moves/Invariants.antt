use Rattle.std.proofs.Common.{◌≡◌, ◌++◌}
use Rattle.dvc_pdus.specs.ListViews.{lists_left}
use Rattle.capture_check.specs.Sayings.{moves_in}
use Rattle.capture_check.proofs.moves.moves.Given as goal

-- what is left is still to be added
abbrev pub invariant-loop-list : goal.invariant-loop-list
invariant-loop-list l = l.moves.items ++ moves_in (lists_left l.list-iterator) ≡ moves_in (lists_left l.fn.lists)
