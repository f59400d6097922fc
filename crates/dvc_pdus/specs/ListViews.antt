-- What the iterators over checked bytes have left.
use Rattle.std.specs.Prelude.{ℕ, List}
use Rattle.mt_base.specs.declared.kinds.Kind.{Kind}
use Rattle.dvc_pdus.specs.declared.lists.Ids.{Ids}
use Rattle.dvc_pdus.specs.declared.lists.SyncList.{SyncList}
use Rattle.dvc_pdus.specs.declared.lists.SyncLists.{SyncLists}
use Rattle.dvc_pdus.specs.declared.lists.SyncTypes.{SyncTypes}
use Rattle.dvc_pdus.specs.Value.{ChannelList}
use Rattle.dvc_pdus.specs.Reading.{items_in, number_at, kind_at, list_at}

-- the ids of a list
abbrev pub ids_left : Ids → List ℕ
ids_left i = items_in number_at i.count i.bytes.now

-- a list of a Soft-Sync request
abbrev pub list_of : SyncList → ChannelList
list_of l = record { kind = l.kind; ids = ids_left l.ids }

-- the lists of a Soft-Sync request
abbrev pub lists_left : SyncLists → List ChannelList
lists_left l = items_in list_at l.count l.bytes.now

-- the tunnels of a Soft-Sync response
abbrev pub types_left : SyncTypes → List Kind
types_left t = items_in kind_at t.count t.bytes.now
