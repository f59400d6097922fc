use Rattle.std.proofs.Common.{◌≡◌, length}
use Rattle.hold_queue.specs.Stored.{IsStored, held_in}
use Rattle.hold_queue.proofs.rings.Rings.drop_gone.Given as goal

abbrev pub invariant-loop-record : goal.invariant-loop-record
invariant-loop-record l = record {
  held : held_in l.self.records.items l.self.bytes.items ≡ held_in l.initial.self.records.items l.initial.self.bytes.items;
  stored : IsStored l.self.records.items l.self.bytes.items;
  records_room : l.self.records.capacity ≡ l.initial.self.records.capacity;
  bytes_room : l.self.bytes.capacity ≡ l.initial.self.bytes.capacity;
}

abbrev pub decreases-loop-record : goal.decreases-loop-record
decreases-loop-record l = length l.self.records.items
