use Rattle.std.proofs.Common.{◌≡◌, None, replicate, length, take}
use Rattle.mt_windows.proofs.slots.Slots.clear.Given as goal

abbrev pub invariant-loop-place : goal.invariant-loop-place
invariant-loop-place l = record {
  size : length l.self-inside.ring.items ≡ length l.initial.self-inside.ring.items;
  capacity : l.self-inside.ring.capacity ≡ l.initial.self-inside.ring.capacity;
  items : take l.place l.self-inside.ring.items ≡ replicate l.place None;
}
