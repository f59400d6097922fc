use Rattle.std.proofs.Common.{◌≡◌}
use Rattle.dvc_pdus.specs.ListViews.{types_left}
use Rattle.mt_endpoint.specs.Faults.{is_answer_to}
use Rattle.end_session.proofs.hearing_moves.is_answer_to.Given as goal

-- what is left is still to be looked at
abbrev pub invariant-loop-kind : goal.invariant-loop-kind
invariant-loop-kind l = is_answer_to l.left (types_left l.kind-iterator) ≡ is_answer_to l.fn.named (types_left l.fn.types)
