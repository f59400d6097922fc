use Rattle.std.proofs.Common.{◌≡◌, Bool, true, false, ltb, ◌&&◌, unwrap_or, ◌+◌, refl}
use Rattle.mt_windows.specs.Noted.{is_noted, greatest_of}
use Rattle.mt_windows.proofs.laws.seen_was_noted.Goals as goal

first_of_both : (a b : Bool) → a && b ≡ true → a ≡ true
first_of_both true b h = refl
first_of_both false b h = h

pub returns : goal.returns
returns c tell noted n h = first_of_both (is_noted n noted) (ltb (unwrap_or (greatest_of noted) 0) (n + tell)) h
