use Rattle.std.proofs.Common.{length, ◌-◌, ◌≡◌, ℕ, ◌+◌, ◌≤◌, List, [], ◌∷◌, take, drop, replicate}
use Rattle.mt_outside.specs.Told.{added}
use Rattle.mt_outside.specs.Files.{Holds}
use Rattle.file_transfer.proofs.reading.read_piece.Given as goal

abbrev pub invariant-loop-count : goal.invariant-loop-count
invariant-loop-count g l = record {
  counts : g.F.FileStore.faults l.store ≡ g.F.FileStore.faults l.initial.store;
  same : g.F.FileStore.told l.store ≡ g.F.FileStore.told l.initial.store;
  names : (k : ℕ) × (g.F.FileStore.named l.store ≡ added (g.F.FileStore.named l.initial.store) (replicate k l.path));
  within : l.count + 1 ≤ length l.room;
  front : take 1 l.room ≡ 68 ∷ [];
  bytes : (content : List ℕ) → Holds (g.F.FileStore.told l.initial.store) l.path content → take l.count (drop 1 l.room) ≡ take l.count (drop l.from content);
}

abbrev pub decreases-loop-count : goal.decreases-loop-count
decreases-loop-count g l = length l.initial.room - l.count
