use Rattle.std.proofs.Common.{◌≡◌, ◌++◌, map}
use Rattle.dvc_pdus.specs.ListViews.{types_left}
use Rattle.mt_script.specs.Spelling.{kind_name}
use Rattle.mt_show.specs.Steps.{behind}
use Rattle.mt_show.proofs.channels.kinds.Given as goal

-- what is left is still to be put
abbrev pub invariant-loop-kind : goal.invariant-loop-kind
invariant-loop-kind l =
    l.out.bytes.items ++ behind 32 (map kind_name (types_left l.kind-iterator)) ≡ l.fn.out.bytes.items ++ behind 32 (map kind_name (types_left l.fn.types))
