use Rattle.std.proofs.Common.{◌≡◌, ◌||◌}
use Rattle.mt_base.specs.declared.kinds.Kind.{Kind}
use Rattle.dvc_pdus.specs.ListViews.{types_left}
use Rattle.capture_check.specs.Sayings.{names}
use Rattle.capture_check.specs.WordsSoFar.{is_named}
use Rattle.capture_check.proofs.moves.Named.of.Given as goal

-- what is left is still to be named
abbrev pub invariant-loop-kind : goal.invariant-loop-kind
invariant-loop-kind l = (kind : Kind) → (is_named l.named kind || names (types_left l.kind-iterator) kind) ≡ names (types_left l.fn.types) kind
