use Rattle.std.proofs.Common.{◌≡◌, ◌+◌, length}
use Rattle.mt_base.specs.Writing.{joined}
use Rattle.dvc_pdus.specs.Value.{lists_fields}
use Rattle.dvc_pdus.specs.ListViews.{lists_left}
use Rattle.dvc_pdus.proofs.sync_write.lists_length.Given as goal

-- the bytes of the lists that are left are still to be counted
abbrev pub invariant-loop-list : goal.invariant-loop-list
invariant-loop-list l =
    l.length + length (joined (lists_fields (lists_left l.list-iterator))) ≡ length (joined (lists_fields (lists_left l.fn.lists)))
