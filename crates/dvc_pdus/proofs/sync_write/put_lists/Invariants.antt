use Rattle.std.proofs.Common.{◌≡◌}
use Rattle.mt_base.specs.Filling.{fills}
use Rattle.dvc_pdus.specs.Value.{lists_fields}
use Rattle.dvc_pdus.specs.ListViews.{lists_left}
use Rattle.dvc_pdus.proofs.sync_write.put_lists.Given as goal

-- what is left is still to be put
abbrev pub invariant-loop-list : goal.invariant-loop-list
invariant-loop-list g l =
    (fills (lists_fields (lists_left l.list-iterator)) (g.P.Place.filling l.place) ≡ fills (lists_fields (lists_left l.fn.lists)) (g.P.Place.filling l.fn.place))
    × (g.P.Place.lent l.place ≡ g.P.Place.lent l.fn.place)
