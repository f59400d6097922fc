-- What the iterator over the channels of a Soft-Sync request has left.
use Rattle.std.specs.Prelude.{ℕ, List, [], ◌∷◌, Option, None, Some}
use Rattle.mt_base.specs.declared.kinds.Kind.{Kind}
use Rattle.dvc_pdus.specs.declared.lists.SyncList.{SyncList}
use Rattle.dvc_pdus.specs.Value.{ChannelList}
use Rattle.dvc_pdus.specs.ListViews.{list_of, lists_left}
use Rattle.mt_endpoint.specs.Moving.{channels_listed}
use Rattle.end_session.specs.declared.listed.Listed.{Listed}

-- those of the list under way, and of the lists behind it; without one there are none
abbrev pub channels_from : Option SyncList → List ChannelList → List (ℕ × Kind)
channels_from None lists = []
channels_from (Some l) lists = channels_listed (list_of l ∷ lists)

abbrev pub channels_left : Listed → List (ℕ × Kind)
channels_left l = channels_from l.list (lists_left l.lists)
