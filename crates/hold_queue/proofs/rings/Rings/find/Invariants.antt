use Rattle.std.proofs.Common.{◌≡◌, All, take, false}
use Rattle.hold_queue.specs.declared.record.Record.{Record}
use Rattle.hold_queue.specs.Stored.{total, is_for}
use Rattle.hold_queue.proofs.rings.Rings.find.Given as goal

abbrev pub invariant-loop-index : goal.invariant-loop-index
invariant-loop-index l = record {
  none_before : All (λ (r : Record). is_for l.id r ≡ false) (take l.index l.self.records.items);
  place_is : l.place ≡ total (take l.index l.self.records.items);
}
