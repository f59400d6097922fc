use Rattle.std.proofs.Common.{◌≡◌}
use Rattle.mt_base.specs.Filling.{fills}
use Rattle.dvc_pdus.specs.Value.{id_fields}
use Rattle.dvc_pdus.specs.ListViews.{ids_left}
use Rattle.dvc_pdus.proofs.sync_write.put_ids.Given as goal

-- what is left is still to be put
abbrev pub invariant-loop-id : goal.invariant-loop-id
invariant-loop-id g l =
    (fills (id_fields (ids_left l.id-iterator)) (g.P.Place.filling l.place) ≡ fills (id_fields (ids_left l.fn.ids)) (g.P.Place.filling l.fn.place))
    × (g.P.Place.lent l.place ≡ g.P.Place.lent l.fn.place)
