-- What a turn does to the counts of the session and of its devices.
use Rattle.std.specs.Prelude.{◌≡◌, ℕ, ◌-◌, ◌^◌, ◌<◌, ◌≤◌, ◌⊎◌, true}
use Rattle.mt_outside.specs.Faults.{Rose}
use Rattle.mt_outside.specs.Told.{counted}
use Rattle.mt_session.specs.declared.tally.Tally.{Tally}
use Rattle.mt_session.specs.declared.turned.Turned.{Turned}
use Rattle.mt_session.specs.declared.turned.Turned.TheVariants as turned

-- a count is greater, or no less; or it stands at the greatest value
abbrev pub Raised : ℕ → ℕ → Type 0
Raised old new = (old < new) ⊎ (2 ^ 64 - 1 ≤ new)

abbrev pub Stood : ℕ → ℕ → Type 0
Stood old new = (old ≤ new) ⊎ (2 ^ 64 - 1 ≤ new)

-- none of what was moved is more
pub record Rested (old new : Tally) : Type 0 where
  pub read : new.read ≡ old.read
  pub written : new.written ≡ old.written
  pub taken : new.taken ≡ old.taken

-- some of what was moved is more, and none is less
pub record Moved (old new : Tally) : Type 0 where
  pub read : Stood old.read new.read
  pub written : Stood old.written new.written
  pub taken : Stood old.taken new.taken
  pub some : Raised old.read new.read ⊎ Raised old.written new.written ⊎ Raised old.taken new.taken

-- within a turn: something was moved and the turn moves, or all is as it was
pub record Grew (old new : Tally) : Type 0 where
  pub idle : new.idle ≡ old.idle
  pub grew : (Rested old new × (new.moves ≡ old.moves)) ⊎ (Moved old new × (new.moves ≡ true))

-- over a turn: something was moved, or nothing was and the turn is idle
abbrev pub GoesOn : Tally → Tally → Type 0
GoesOn old new = ((new.idle ≡ 0) × Moved old new) ⊎ ((new.idle ≡ counted old.idle) × Rested old new)

-- what a turn that was not cut short did to the counts
abbrev pub Goes : Turned → Tally → Tally → Type 0
Goes turned.Failed old new = Unit {0}
Goes answer old new = GoesOn old new

-- a count of faults rises where the turn failed, and none does where it did not
abbrev pub Faulty : Turned → (main main_after wire wire_after : ℕ) → Type 0
Faulty turned.Failed main main_after wire wire_after = Rose main main_after ⊎ Rose wire wire_after
Faulty answer main main_after wire wire_after = (main_after ≡ main) × (wire_after ≡ wire)
