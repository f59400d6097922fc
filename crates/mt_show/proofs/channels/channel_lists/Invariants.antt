use Rattle.std.proofs.Common.{◌≡◌, ◌++◌, map}
use Rattle.dvc_pdus.specs.ListViews.{lists_left}
use Rattle.mt_show.specs.ChannelWords.{list_word}
use Rattle.mt_show.specs.Steps.{behind}
use Rattle.mt_show.proofs.channels.channel_lists.Given as goal

-- what is left is still to be put
abbrev pub invariant-loop-list : goal.invariant-loop-list
invariant-loop-list l =
    l.out.bytes.items ++ behind 32 (map list_word (lists_left l.list-iterator)) ≡ l.fn.out.bytes.items ++ behind 32 (map list_word (lists_left l.fn.lists))
