use Rattle.std.proofs.Common.{◌≡◌}
use Rattle.dvc_pdus.specs.ListViews.{lists_left}
use Rattle.mt_endpoint.specs.Moving.{kinds_named}
use Rattle.end_session.proofs.AnswersHeard.{both}
use Rattle.end_session.proofs.hearing_sync.kinds_named.Given as goal

-- what is left is still to be named
abbrev pub invariant-loop-list : goal.invariant-loop-list
invariant-loop-list l = both l.named (kinds_named (lists_left l.list-iterator)) ≡ kinds_named (lists_left l.fn.lists)
