use Rattle.std.proofs.Common.{◌≡◌, drop}
use Rattle.std.specs.List.{position_from}
use Rattle.mt_outside.specs.Shelf.{is_named}
use Rattle.mt_outside.proofs.shelf.place.Given as goal

-- no file so far has the name
abbrev pub invariant-loop-at : goal.invariant-loop-at
invariant-loop-at l = position_from (is_named l.name) l.at (drop l.at l.files) ≡ position_from (is_named l.name) 0 l.files
