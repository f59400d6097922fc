-- Lemmas on putting fields at a place, be it in a buffer or in room that is only counted.
use Rattle.std.proofs.Common.{◌≡◌, ℕ, ◌≤◌, List, [], ◌∷◌, ◌++◌, length, map, take, drop, Result, Ok, Err, refl, sym, ◌∙◌}
use Rattle.mt_base.specs.declared.errors.NoRoom.{NoRoom}
use Rattle.mt_base.specs.Writing.{Spot, put, puts, then_put, joined}
use Rattle.mt_base.specs.Space.{Space, pass, passes, then_pass}
use Rattle.mt_base.specs.Filling.{Filling, Written, Counted, in_buffer, in_room, fill, fills, then_fill, Fills}
use Rattle.mt_base.proofs.Fields.{handed}
use Rattle.mt_base.proofs.Spaces.{RoomFound, room_found, never_refused}

-- putting a join of two lists of fields is putting the first and then the second
pub fills-append : (xs ys : List (List ℕ)) (s : Filling) → fills (xs ++ ys) s ≡ then_fill (fills xs s) (fills ys)
fills-append [] ys s = refl
fills-append (x ∷ xs) ys s =
    elim (fill x s) as (λ r. then_fill r (fills (xs ++ ys)) ≡ then_fill (then_fill r (fills xs)) (fills ys)) [
      | Ok t ↦ fills-append xs ys t
      | Err e ↦ refl
    ]

-- in a buffer, fields are put as they are written
pub in_buffers : (fs : List (List ℕ)) (s : Spot) → fills fs (Written s) ≡ in_buffer (puts fs s)
in_buffers [] s = refl
in_buffers (f ∷ fs) s =
    elim (put f s) as (λ r. then_fill (in_buffer r) (fills fs) ≡ in_buffer (then_put r (puts fs))) [
      | Ok t ↦ in_buffers fs t
      | Err e ↦ refl
    ]

-- in room, fields are put as their lengths are passed over
pub in_rooms : (fs : List (List ℕ)) (s : Space) → fills fs (Counted s) ≡ in_room (passes (map length fs) s)
in_rooms [] s = refl
in_rooms (f ∷ fs) s =
    elim (pass (length f) s) as (λ r. then_fill (in_room r) (fills fs) ≡ in_room (then_pass r (passes (map length fs)))) [
      | Ok t ↦ in_rooms fs t
      | Err e ↦ refl
    ]

written_ok : (w : Result Spot NoRoom) (t : Spot) → in_buffer w ≡ Ok (Written t) → w ≡ Ok t
written_ok (Ok s) t h = cc
written_ok (Err e) t h = cc

written_err : (w : Result Spot NoRoom) (e : NoRoom) → in_buffer w ≡ Err e → w ≡ Err e
written_err (Ok s) e h = cc
written_err (Err d) e h = cc

counted_ok : (w : Result Space NoRoom) (t : Space) → in_room w ≡ Ok (Counted t) → w ≡ Ok t
counted_ok (Ok s) t h = cc
counted_ok (Err e) t h = cc

counted_err : (w : Result Space NoRoom) (e : NoRoom) → in_room w ≡ Err e → w ≡ Err e
counted_err (Ok s) e h = cc
counted_err (Err d) e h = cc

-- What a walk over fields answered in the room of an output: where it went well all of them fit, and
-- where it was refused writing them would be refused so.
pub room_walked : (fs : List (List ℕ)) (out : List ℕ) (first last : Space) (r : Result (Unit {0}) NoRoom) → first ≡ record { before = 0; behind = length out }
    → Fills (Counted last) r (fills fs (Counted first)) → RoomFound fs out r
room_walked fs out first last (Ok x) starts walked =
    room_found fs out first last (Ok x) starts (counted_ok (passes (map length fs) first) last (sym (in_rooms fs first) ∙ walked))
room_walked fs out first last (Err e) starts walked =
    room_found fs out first last (Err e) starts (counted_err (passes (map length fs) first) e (sym (in_rooms fs first) ∙ walked))

-- what a walk over fields left of an output that it began at the first byte
pub out_walked : (fs : List (List ℕ)) (from last whole : List ℕ) (at told : ℕ) (first : Spot) → at ≤ length last → told ≡ length (take at last) → whole ≡ last
    → first ≡ record { before = []; after = from } → fills fs (Written first) ≡ Ok (Written (record { before = take at last; after = drop at last }))
    → (told ≡ length (joined fs)) × (whole ≡ joined fs ++ drop told from)
out_walked fs from last whole at told first within tells is starts walked =
    handed fs from last whole at told first within tells is starts (written_ok (puts fs first) _ (sym (in_buffers fs first) ∙ walked))

-- where all fields fit, no walk over them in the output is refused
pub never_stopped : (fs : List (List ℕ)) (out : List ℕ) (first : Spot) (e : NoRoom) → length (joined fs) ≤ length out → first ≡ record { before = []; after = out }
    → fills fs (Written first) ≡ Err e → ⊥
never_stopped fs out first e fit starts walked =
    never_refused fs out first e fit starts (written_err (puts fs first) e (sym (in_buffers fs first) ∙ walked))
