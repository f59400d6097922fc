-- A place where fields are put one after the other: in a buffer, whose bytes are written, or in room
-- that is only counted.
use Rattle.std.specs.Prelude.{◌≡◌, List, [], ◌∷◌, length, ℕ, Result, Ok, Err}
use Rattle.mt_base.specs.declared.errors.NoRoom.{NoRoom}
use Rattle.mt_base.specs.Writing.{Spot, put}
use Rattle.mt_base.specs.Space.{Space, pass}

pub data Filling : Type 0 where
  Written : Spot → Filling
  Counted : Space → Filling

abbrev pub in_buffer : Result Spot NoRoom → Result Filling NoRoom
in_buffer (Ok s) = Ok (Written s)
in_buffer (Err e) = Err e

abbrev pub in_room : Result Space NoRoom → Result Filling NoRoom
in_room (Ok s) = Ok (Counted s)
in_room (Err e) = Err e

-- one field is put at the place, or it doesn't fit
abbrev pub fill : List ℕ → Filling → Result Filling NoRoom
fill field (Written s) = in_buffer (put field s)
fill field (Counted s) = in_room (pass (length field) s)

-- the next step, where the one before it went well
abbrev pub then_fill : Result Filling NoRoom → (Filling → Result Filling NoRoom) → Result Filling NoRoom
then_fill (Ok s) next = next s
then_fill (Err e) next = Err e

-- fields are put one after the other; the first that doesn't fit is the refusal
abbrev pub fills : List (List ℕ) → Filling → Result Filling NoRoom
fills [] s = Ok s
fills (f ∷ fs) s = then_fill (fill f s) (fills fs)

-- what was answered and the place that was left are what putting fields gives
abbrev pub Fills : {X : Type 0} → Filling → Result X NoRoom → Result Filling NoRoom → Type 0
Fills new (Ok x) filled = filled ≡ Ok new
Fills new (Err e) filled = filled ≡ Err e
