use Rattle.std.proofs.Common.{◌≡◌, None, replicate}
use Rattle.mt_windows.proofs.slots.Slots.new.Given as goal

abbrev pub invariant-loop-place : goal.invariant-loop-place
invariant-loop-place l = (l.ring.items ≡ replicate l._place None) × (l.ring.capacity ≡ 64)
