use Rattle.std.proofs.Common.{◌≡◌, ◌-◌, length}
use Rattle.hold_queue.specs.Stored.{IsStored}
use Rattle.hold_queue.proofs.Turns.{turned_by}
use Rattle.hold_queue.proofs.rings.Rings.close_up.Given as goal

abbrev pub invariant-loop-turn : goal.invariant-loop-turn
invariant-loop-turn l = record {
  turned : turned_by l.leaving (l._turn-end - l._turn) l.self.records.items l.self.bytes.items ≡ turned_by l.leaving l._turn-end l.initial.self.records.items l.initial.self.bytes.items;
  stored : IsStored l.self.records.items l.self.bytes.items;
  records_room : l.self.records.capacity ≡ 131072;
  bytes_room : l.self.bytes.capacity ≡ 2097152;
}
