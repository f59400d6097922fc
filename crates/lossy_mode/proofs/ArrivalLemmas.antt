-- What a part or a datagram does to the relation between what an open link keeps and what came.
use Rattle.std.proofs.Common.{◌≡◌, ℕ, zero, suc, ◌+◌, ◌≤◌, List, [], ◌∷◌, All, length, drop, Option, Some, refl, sym, ap, ◌∙◌, subst, add-one, arith}
use Rattle.std.specs.Option.{IfSome}
use Rattle.std.proofs.lemmas.List.Elements.{All-head}
use Rattle.carrier.specs.Layout.{Load, Shown}
use Rattle.carrier.specs.PerfectThin.{first_part}
use Rattle.mt_windows.specs.declared.limits.TheConstants.{DATAGRAM}
use Rattle.lossy_mode.specs.Thin.{Got, floor_read, waiting_in, with_floor, with_load, with_shown, with_window}
use Rattle.lossy_mode.specs.LossyView.{Arrivals, Holds}

-- ---- a part that is handed out

rest_of : (n : ℕ) (xs ps : List (List ℕ)) (x : List ℕ) → drop n xs ≡ x ∷ ps → drop (suc n) xs ≡ ps
rest_of zero [] ps x h = cc
rest_of zero (y ∷ xs) ps x h = cc
rest_of (suc n) [] ps x h = cc
rest_of (suc n) (y ∷ xs) ps x h = rest_of n xs ps x h

more_there : (n : ℕ) (xs ps : List (List ℕ)) (x : List ℕ) → drop n xs ≡ x ∷ ps → n + 1 ≤ length xs
more_there zero [] ps x h = cc
more_there zero (y ∷ xs) ps x h = omega arith
more_there (suc n) [] ps x h = cc
more_there (suc n) (y ∷ xs) ps x h = omega (arith, more_there n xs ps x h)

pub handed_out : (v r : Arrivals) (ps : List (List ℕ)) (x : List ℕ) (g : Got) (n : ℕ) → v ≡ r → Holds r g n
    → v.parts ≡ x ∷ ps → Holds (record v { parts = ps }) g (n + 1)
handed_out v r ps x g n same h e =
    let was : waiting_in g n ≡ x ∷ ps = sym h.parts_are ∙ ap (λ (s : Arrivals). s.parts) (sym same) ∙ e in
    let new : Holds (record r { parts = ps }) g (n + 1) = record {
      notes = h.notes;
      last_is = h.last_is;
      parts_are = sym (ap (λ m. drop m g.parts) (add-one n) ∙ rest_of n g.parts ps x was);
      within = more_there n g.parts ps x was;
      floor_is = h.floor_is;
      window_is = h.window_is;
    } in
    subst (λ (s : Arrivals). Holds (record s { parts = ps }) g (n + 1)) (sym same) new

-- ---- what a datagram shows

pub window_set : (v r : Arrivals) (g : Got) (n w : ℕ) → v ≡ r → Holds r g n
    → Holds (record v { window = w }) (with_window (Some w) g) n
window_set v r g n w same h =
    let new : Holds (record r { window = w }) (with_window (Some w) g) n = record {
      notes = h.notes;
      last_is = h.last_is;
      parts_are = h.parts_are;
      within = h.within;
      floor_is = h.floor_is;
      window_is = refl;
    } in
    subst (λ (s : Arrivals). Holds (record s { window = w }) (with_window (Some w) g) n) (sym same) new

pub shown_is : (s : Arrivals) (peer waiting n w : ℕ) (g : Got) (shown : Shown) (load : Load) (floor : Option ℕ)
    → shown.load ≡ load → shown.window ≡ Some w → floor ≡ floor_read peer g.numbers shown.floor
    → Holds s (with_floor peer floor (with_load peer waiting load (with_window (Some w) g))) n
    → Holds s (with_shown peer waiting shown g) n
shown_is s peer waiting n w g shown load floor same_load same_window same_floor h =
    let one = subst (λ f. Holds s (with_floor peer f (with_load peer waiting load (with_window (Some w) g))) n) same_floor h in
    let two = subst (λ (l : Load). Holds s (with_floor peer (floor_read peer g.numbers shown.floor) (with_load peer waiting l (with_window (Some w) g))) n) (sym same_load) one in
    subst (λ (o : Option ℕ). Holds s (with_floor peer (floor_read peer g.numbers shown.floor) (with_load peer waiting shown.load (with_window o g))) n) (sym same_window) two

-- a buffer has room for the first of some short parts
pub first_short : (parts : List (List ℕ)) (room : ℕ) → All (λ (part : List ℕ). length part ≤ DATAGRAM) parts → DATAGRAM ≤ room
    → IfSome (first_part parts) (λ part. length part ≤ room)
first_short [] room h enough = tt
first_short (p ∷ parts) room h enough = omega (arith, All-head (λ (part : List ℕ). length part ≤ DATAGRAM) p parts h)
