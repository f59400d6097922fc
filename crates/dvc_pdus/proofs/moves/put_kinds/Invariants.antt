use Rattle.std.proofs.Common.{◌≡◌, drop}
use Rattle.mt_base.specs.Filling.{fills}
use Rattle.dvc_pdus.specs.Value.{type_fields}
use Rattle.dvc_pdus.proofs.moves.put_kinds.Given as goal

-- the kinds that are left are still to be put
abbrev pub invariant-loop-kind : goal.invariant-loop-kind
invariant-loop-kind g l =
    (fills (type_fields (drop l.kind-index l.kinds)) (g.P.Place.filling l.place) ≡ fills (type_fields l.fn.kinds) (g.P.Place.filling l.fn.place))
    × (g.P.Place.lent l.place ≡ g.P.Place.lent l.fn.place)
