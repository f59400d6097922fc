use Rattle.std.proofs.Common.{arith}
use Rattle.dvc_pdus.specs.ListViews.{list_of, lists_left}
use Rattle.dvc_pdus.proofs.SyncWriting.{lists_longer}
use Rattle.dvc_pdus.proofs.sync_write.lists_length.Goals as goal

pub overflow_add-length-in-loop-list : goal.overflow_add-length-in-loop-list
overflow_add-length-in-loop-list c =
    let more = lists_longer (lists_left c.loop-list.list-iterator) (lists_left c.next.new.self) (list_of c.in-Some.list) c.in-Some.ensures.steps in
    omega (arith, more, c.loop-list.invariant, c.len.ensures.exact, c.requires)

pub loop-list-preserved : goal.loop-list-preserved
loop-list-preserved c =
    let more = lists_longer (lists_left c.loop-list.list-iterator) (lists_left c.next.new.self) (list_of c.in-Some.list) c.in-Some.ensures.steps in
    omega (arith, more, c.loop-list.invariant, c.len.ensures.exact)
