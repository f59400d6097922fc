use Rattle.std.proofs.Common.{◌≡◌, ◌-◌, ◌++◌, None, length, take, drop}
use Rattle.std.specs.Vec.{vec_capacity}
use Rattle.std.specs.Map.{keys_of}
use Rattle.indexmap.specs.IndexMap.{spare}
use Rattle.soft_sync.specs.Words.{first_repeated}
use Rattle.soft_sync.specs.Table.{IsRoomy, under}
use Rattle.soft_sync.proofs.exchanges.Exchanges.list_all.Given as goal

abbrev pub invariant-loop-id : goal.invariant-loop-id
invariant-loop-id l = record {
  rows : l.self.rows ≡ l.initial.self.rows;
  listings : l.self.listings.entries ≡ l.initial.self.listings.entries ++ under (length l.initial.self.rows.items - 1) l.kind (take l.id-index l.ids);
  roomy : IsRoomy l.self.rows.items l.self.listings.entries (vec_capacity l.self.rows) (spare l.self.listings);
  once : first_repeated (keys_of l.self.listings.entries) (drop l.id-index l.ids) ≡ None;
}
