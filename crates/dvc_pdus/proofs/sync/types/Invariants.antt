use Rattle.dvc_pdus.specs.Value.{type_field}
use Rattle.mt_base.specs.CursorView.{left}
use Rattle.dvc_pdus.specs.Reading.{kind_at}
use Rattle.dvc_pdus.proofs.Items.{Passed}
use Rattle.dvc_pdus.proofs.sync.types.Given as goal

abbrev pub invariant-loop : goal.invariant-loop
invariant-loop l = Passed kind_at type_field (λ k. Unit {0}) l.count l.counter (left l.fn.from) (left l.from)
