use Rattle.std.proofs.Common.{◌≡◌, ◌++◌, map}
use Rattle.std.specs.Fmt.{decimal}
use Rattle.dvc_pdus.specs.ListViews.{ids_left}
use Rattle.mt_show.specs.Steps.{behind}
use Rattle.mt_show.proofs.channels.more_numbers.Given as goal

-- what is left is still to be put
abbrev pub invariant-loop-id : goal.invariant-loop-id
invariant-loop-id l =
    l.out.bytes.items ++ behind 44 (map decimal (ids_left l.id-iterator)) ≡ l.fn.out.bytes.items ++ behind 44 (map decimal (ids_left l.fn.ids))
