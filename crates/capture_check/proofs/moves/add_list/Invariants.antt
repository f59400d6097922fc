use Rattle.std.proofs.Common.{◌≡◌, ◌++◌}
use Rattle.dvc_pdus.specs.ListViews.{ids_left}
use Rattle.capture_check.specs.Sayings.{moves_to}
use Rattle.capture_check.proofs.moves.add_list.Given as goal

-- what is left is still to be added
abbrev pub invariant-loop-id : goal.invariant-loop-id
invariant-loop-id l = l.moves.items ++ moves_to l.fn.list.kind (ids_left l.id-iterator) ≡ l.fn.moves.items ++ moves_to l.fn.list.kind (ids_left l.fn.list.ids)
