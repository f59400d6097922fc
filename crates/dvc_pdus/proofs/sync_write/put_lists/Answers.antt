use Rattle.std.proofs.Common.{◌∙◌}
use Rattle.std.proofs.lemmas.Result.{err_from_is_err_and}
use Rattle.mt_base.proofs.Fields.{as_err}
use Rattle.dvc_pdus.specs.ListViews.{list_of, lists_left}
use Rattle.dvc_pdus.proofs.SyncWriting.{list_filled, list_stopped}
use Rattle.dvc_pdus.proofs.sync_write.put_lists.Goals as goal

pub loop-list-preserved : goal.loop-list-preserved
loop-list-preserved g c = (
  list_filled (lists_left c.loop-list.list-iterator) (lists_left c.next.new.self) (list_of c.in-Some.list) (g.P.Place.filling c.loop-list.place) (g.P.Place.filling c.put_list.new.place) _
      c.in-Some.ensures.steps c.loop-list.invariant.0 c.in_ok-put_list.ensures.filled,
  c.in_ok-put_list.ensures.same ∙ c.loop-list.invariant.1,
)

pub returns-in_err-put_list-clause-filled : goal.returns-in_err-put_list-clause-filled
returns-in_err-put_list-clause-filled g c =
    let p = err_from_is_err_and c.from_residual.result c.from_residual.ensures.1 in
    rw p.1 (list_stopped (lists_left c.loop-list.list-iterator) (lists_left c.next.new.self) (list_of c.in-Some.list) (g.P.Place.filling c.loop-list.place) _ _
    c.in-Some.ensures.steps c.loop-list.invariant.0 (as_err c.in_err-put_list.ensures.filled p.2))
