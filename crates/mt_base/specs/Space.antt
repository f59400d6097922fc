-- Whether fields find a place in an output, by numbers alone.
use Rattle.std.specs.Prelude.{◌≡◌, ℕ, ◌+◌, ◌-◌, List, [], ◌∷◌, length, nat_lt, if◌then◌else◌, Result, Ok, Err}
use Rattle.mt_base.specs.declared.errors.NoRoom.{NoRoom}
use Rattle.mt_base.specs.Writing.{Spot}

-- the number of bytes before a place, and behind it
pub record Space : Type 0 where
  pub before : ℕ
  pub behind : ℕ

-- one field of n bytes is passed over, or it doesn't fit
abbrev pub pass : ℕ → Space → Result Space NoRoom
pass n s =
    if nat_lt s.behind n then Err (record { at = s.before; need = n })
    else Ok (record { before = s.before + n; behind = s.behind - n })

-- the next step, where the one before it went well
abbrev pub then_pass : Result Space NoRoom → (Space → Result Space NoRoom) → Result Space NoRoom
then_pass (Ok s) next = next s
then_pass (Err e) next = Err e

-- fields of these lengths are passed over one after the other
abbrev pub passes : List ℕ → Space → Result Space NoRoom
passes [] s = Ok s
passes (n ∷ ns) s = then_pass (pass n s) (passes ns)

-- what was answered, and the space that was left, are what passing over fields gives
abbrev pub Passes : {X : Type 0} → Space → Result X NoRoom → Result Space NoRoom → Type 0
Passes new (Ok x) passed = passed ≡ Ok new
Passes new (Err e) passed = passed ≡ Err e

-- the numbers of a spot
abbrev pub numbers : Spot → Space
numbers s = record { before = length s.before; behind = length s.after }

-- what writing answered, by its numbers
abbrev pub counted : Result Spot NoRoom → Result Space NoRoom
counted (Ok s) = Ok (numbers s)
counted (Err e) = Err e
