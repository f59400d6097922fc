use Rattle.std.proofs.Common.{◌≡◌}
use Rattle.mt_base.specs.Filling.{fills}
use Rattle.dvc_pdus.specs.Value.{type_fields}
use Rattle.dvc_pdus.specs.ListViews.{types_left}
use Rattle.dvc_pdus.proofs.sync_write.put_types.Given as goal

-- what is left is still to be put
abbrev pub invariant-loop-kind : goal.invariant-loop-kind
invariant-loop-kind g l =
    (fills (type_fields (types_left l.kind-iterator)) (g.P.Place.filling l.place) ≡ fills (type_fields (types_left l.fn.types)) (g.P.Place.filling l.fn.place))
    × (g.P.Place.lent l.place ≡ g.P.Place.lent l.fn.place)
