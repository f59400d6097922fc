use Rattle.std.proofs.Common.{◌≡◌, ℕ, ◌<◌, ◌≤◌, ◌⊎◌, inl, inr, List, length, Err, sym, ap, ◌∙◌}
use Rattle.std.proofs.lemmas.Bool.{cases_lt}
use Rattle.mt_base.specs.declared.errors.NoRoom.{NoRoom}
use Rattle.mt_base.specs.Writing.{Spot, puts, joined}
use Rattle.mt_base.proofs.Fill.{puts_filled, puts_fit}
use Rattle.mt_base.proofs.Spaces.{sized}
use Rattle.mt_base.specs.Filling.{in_room}
use Rattle.mt_base.specs.Space.{numbers}
use Rattle.mt_base.proofs.Filled.{in_buffers, in_rooms}
use Rattle.mt_base.proofs.laws.filling.Goals as goal

pub returns-clause-fits : goal.returns-clause-fits
returns-clause-fits c fs s h = puts_fit fs s h

pub returns-clause-written : goal.returns-clause-written
returns-clause-written c fs s t e = let f = puts_filled fs s t e in (f.before_is, f.after_is)

refused : (fs : List (List ℕ)) (s : Spot) (e : NoRoom) → puts fs s ≡ Err e → (length s.after < length (joined fs)) ⊎ (length (joined fs) ≤ length s.after) → length s.after < length (joined fs)
refused fs s e is (inr h) = let ok = puts_fit fs s h in let both = sym is ∙ ok.1 in absurd (cc)
refused fs s e is (inl h) = h

pub returns-clause-no_room : goal.returns-clause-no_room
returns-clause-no_room c fs s e is = refused fs s e is (cases_lt (length s.after) (length (joined fs)))

pub returns-clause-counted : goal.returns-clause-counted
returns-clause-counted c fs s = sized fs s

pub returns-clause-placed : goal.returns-clause-placed
returns-clause-placed c fs s = (in_buffers fs s, in_rooms fs (numbers s) ∙ ap in_room (sized fs s))
