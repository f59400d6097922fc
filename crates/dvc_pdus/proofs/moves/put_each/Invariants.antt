use Rattle.std.proofs.Common.{◌≡◌, drop}
use Rattle.mt_base.specs.Filling.{fills}
use Rattle.dvc_pdus.specs.Value.{id_fields}
use Rattle.dvc_pdus.proofs.moves.put_each.Given as goal

-- the ids that are left are still to be put
abbrev pub invariant-loop-id : goal.invariant-loop-id
invariant-loop-id g l =
    (fills (id_fields (drop l.id-index l.ids)) (g.P.Place.filling l.place) ≡ fills (id_fields l.fn.ids) (g.P.Place.filling l.fn.place))
    × (g.P.Place.lent l.place ≡ g.P.Place.lent l.fn.place)
