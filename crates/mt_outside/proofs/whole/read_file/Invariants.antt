use Rattle.std.proofs.Common.{◌≡◌, ℕ, ◌≤◌, ◌-◌, List, length, take, replicate, vec_len}
use Rattle.mt_outside.specs.Told.{added}
use Rattle.mt_outside.specs.Files.{Holds}
use Rattle.mt_outside.proofs.whole.read_file.Given as goal

-- the bytes so far are the front of a told content, and no file changed
abbrev pub invariant-loop-count : goal.invariant-loop-count
invariant-loop-count g l =
    (g.F.FileStore.faults l.files ≡ g.F.FileStore.faults l.initial.files)
    × (g.F.FileStore.told l.files ≡ g.F.FileStore.told l.initial.files)
    × (vec_len l.bytes ≤ l.limit)
    × ((content : List ℕ) → Holds (g.F.FileStore.told l.initial.files) l.name content → (vec_len l.bytes ≤ length content) × (l.bytes.items ≡ take (vec_len l.bytes) content))
    × ((k : ℕ) × (g.F.FileStore.named l.files ≡ added (g.F.FileStore.named l.initial.files) (replicate k l.name)))

-- what may still be read
abbrev pub decreases-loop-count : goal.decreases-loop-count
decreases-loop-count g l = l.limit - vec_len l.bytes
