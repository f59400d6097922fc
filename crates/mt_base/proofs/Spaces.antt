-- Lemmas on passing over fields by their lengths.
use Rattle.std.proofs.Common.{◌≡◌, ℕ, ◌+◌, ◌-◌, ◌≤◌, Bool, true, false, cond, ltb, List, [], ◌∷◌, ◌++◌, length, map, drop, Result, Ok, Err, refl, sym, ap, ◌∙◌}
use Rattle.std.proofs.lemmas.List.{length-append, length-drop}
use Rattle.mt_base.specs.declared.errors.NoRoom.{NoRoom}
use Rattle.std.specs.Result.{OnOk, IfErr}
use Rattle.mt_base.specs.Writing.{Spot, puts, then_put, joined}
use Rattle.mt_base.proofs.Fill.{puts_filled, puts_fit}
use Rattle.mt_base.specs.Space.{Space, passes, then_pass, Passes, numbers, counted}

-- fields are passed over as they are written
pub sized : (fs : List (List ℕ)) (s : Spot) → passes (map length fs) (numbers s) ≡ counted (puts fs s)
sized [] s = refl
sized (f ∷ fs) s = by_test (ltb (length s.after) (length f)) (sized fs (record { before = s.before ++ f; after = drop (length f) s.after }))
  where
    m : Spot
    m = record { before = s.before ++ f; after = drop (length f) s.after }

    place : Space
    place = record { before = length s.before + length f; behind = length s.after - length f }

    same : place ≡ numbers m
    same = rw (length-append s.before f, length-drop (length f) s.after) refl

    by_test : (b : Bool) → passes (map length fs) (numbers m) ≡ counted (puts fs m)
        → then_pass (cond b (Err (record { at = length s.before; need = length f })) (Ok place)) (passes (map length fs))
        ≡ counted (then_put (cond b (Err (record { at = length s.before; need = length f })) (Ok m)) (puts fs))
    by_test true later = refl
    by_test false later = ap (passes (map length fs)) same ∙ later

-- what passing over the fields of an output answered, in the words of writing them
pub record RoomFound (fs : List (List ℕ)) (out : List ℕ) (r : Result (Unit {0}) NoRoom) : Type 0 where
  pub found : OnOk r (length (joined fs) ≤ length out)
  pub refused : IfErr r (λ e. puts fs (record { before = []; after = out }) ≡ Err e)

pub room_found : (fs : List (List ℕ)) (out : List ℕ) (first last : Space) (r : Result (Unit {0}) NoRoom) → first ≡ record { before = 0; behind = length out }
    → Passes last r (passes (map length fs) first) → RoomFound fs out r
room_found fs out first last (Ok x) starts passed = record {
  found = by_written (puts fs start) refl;
  refused = tt;
}
  where
    start : Spot
    start = record { before = []; after = out }

    all : counted (puts fs start) ≡ Ok last
    all = sym (sized fs start) ∙ ap (passes (map length fs)) (sym starts) ∙ passed

    by_written : (w : Result Spot NoRoom) → puts fs start ≡ w → length (joined fs) ≤ length out
    by_written (Ok t) is = (puts_filled fs start t is).fits
    by_written (Err e) is = absurd (none e (sym (ap counted is) ∙ all))
      where
        none : (e : NoRoom) → (let refuse : Result Space NoRoom = Err e in refuse ≡ Ok last) → ⊥
        none e h = cc
room_found fs out first last (Err e) starts passed = record {
  found = tt;
  refused = by_result (puts fs (record { before = []; after = out })) (sym (sized fs (record { before = []; after = out })) ∙ ap (passes (map length fs)) (sym starts) ∙ passed);
}
  where
    by_result : (w : Result Spot NoRoom) → counted w ≡ Err e → w ≡ Err e
    by_result (Ok s) h = cc
    by_result (Err d) h = cc

-- where there is room for all fields, no write is refused
pub never_refused : (fs : List (List ℕ)) (out : List ℕ) (spot : Spot) (e : NoRoom) → length (joined fs) ≤ length out → spot ≡ record { before = []; after = out } → puts fs spot ≡ Err e → ⊥
never_refused fs out spot e room begins is =
    let fits = puts_fit fs (record { before = []; after = out }) room in
    none fits.0 e (sym fits.1 ∙ ap (puts fs) (sym begins) ∙ is)
  where
    none : (s : Spot) (e : NoRoom) → (let written : Result Spot NoRoom = Ok s in written ≡ Err e) → ⊥
    none s e h = cc
