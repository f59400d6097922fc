-- Counts of faults, which never fall.
use Rattle.std.specs.Prelude.{◌≡◌, ℕ, ◌-◌, ◌^◌, ◌<◌, ◌⊎◌}

-- the count rose in a call; one that stands at the greatest value of a u64 counts as risen
abbrev pub Rose : ℕ → ℕ → Type 0
Rose old new = (old < new) ⊎ (new ≡ 2 ^ 64 - 1)

-- how many faults each device of a call has met
pub record Counts : Type 0 where
  pub store : ℕ
  pub sink : ℕ

-- none of them met one in the call
pub record Calm (before after : Counts) : Type 0 where
  pub store : ¬ Rose before.store after.store
  pub sink : ¬ Rose before.sink after.sink
