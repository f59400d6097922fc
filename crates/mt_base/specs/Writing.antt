-- Writing: a buffer of fixed length, filled from its front field by field.
use Rattle.std.specs.Prelude.{◌≡◌, ℕ, List, [], ◌∷◌, ◌++◌, length, drop, nat_lt, if◌then◌else◌, Result, Ok, Err}
use Rattle.mt_base.specs.declared.errors.NoRoom.{NoRoom}

-- the bytes before the place, which were written, and those after it
pub record Spot : Type 0 where
  pub before : List ℕ
  pub after : List ℕ

-- one field is written at the place, or it doesn't fit
abbrev pub put : List ℕ → Spot → Result Spot NoRoom
put field s =
    if nat_lt (length s.after) (length field) then Err (record { at = length s.before; need = length field })
    else Ok (record { before = s.before ++ field; after = drop (length field) s.after })

-- the next step, where the one before it went well
abbrev pub then_put : Result Spot NoRoom → (Spot → Result Spot NoRoom) → Result Spot NoRoom
then_put (Ok s) next = next s
then_put (Err e) next = Err e

-- fields are written one after the other; the first that doesn't fit is the refusal
abbrev pub puts : List (List ℕ) → Spot → Result Spot NoRoom
puts [] s = Ok s
puts (f ∷ fs) s = then_put (put f s) (puts fs)

-- the bytes of fields in order
abbrev pub joined : List (List ℕ) → List ℕ
joined [] = []
joined (f ∷ fs) = f ++ joined fs

-- what a writer answered and the spot that it left are what writing gives
abbrev pub Writes : {X : Type 0} → Spot → Result X NoRoom → Result Spot NoRoom → Type 0
Writes new (Ok x) written = written ≡ Ok new
Writes new (Err e) written = written ≡ Err e
