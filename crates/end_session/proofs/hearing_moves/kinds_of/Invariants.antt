use Rattle.std.proofs.Common.{◌≡◌}
use Rattle.dvc_pdus.specs.ListViews.{types_left}
use Rattle.mt_endpoint.specs.Moving.{kinds_of}
use Rattle.end_session.proofs.AnswersHeard.{both}
use Rattle.end_session.proofs.hearing_moves.kinds_of.Given as goal

-- what is left is still to be named
abbrev pub invariant-loop-kind : goal.invariant-loop-kind
invariant-loop-kind l = both l.named (kinds_of (types_left l.kind-iterator)) ≡ kinds_of (types_left l.fn.types)
