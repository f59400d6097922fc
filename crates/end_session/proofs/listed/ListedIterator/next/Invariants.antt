use Rattle.std.proofs.Common.{◌≡◌, ℕ, ◌+◌, length, Option, None, Some}
use Rattle.dvc_pdus.specs.declared.lists.SyncList.{SyncList}
use Rattle.dvc_pdus.specs.ListViews.{lists_left}
use Rattle.end_session.specs.ListedView.{channels_left}
use Rattle.end_session.proofs.listed.ListedIterator.next.Given as goal

-- lists without further ids were passed
abbrev pub invariant-loop-self : goal.invariant-loop-self
invariant-loop-self l = channels_left l.self ≡ channels_left l.fn.self

abbrev some_list : Option SyncList → ℕ
some_list None = 0
some_list (Some l) = 1

-- the lists to look at, with the one under way
abbrev pub decreases-loop-self : goal.decreases-loop-self
decreases-loop-self l = length (lists_left l.self.lists) + some_list l.self.list
