use Rattle.dvc_pdus.specs.Value.{IsList}
use Rattle.dvc_pdus.specs.Faults.{list_bytes}
use Rattle.mt_base.specs.CursorView.{left}
use Rattle.dvc_pdus.specs.Reading.{list_at}
use Rattle.dvc_pdus.proofs.Items.{Passed}
use Rattle.dvc_pdus.proofs.sync.lists.Given as goal

abbrev pub invariant-loop : goal.invariant-loop
invariant-loop l = Passed list_at list_bytes IsList l.count l.counter (left l.fn.from) (left l.from)
