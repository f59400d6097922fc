-- How far what was received lies behind what was sent.
use Rattle.std.proofs.Common.{◌≡◌, ℕ, zero, suc, ◌+◌, ◌-◌, ◌≤◌, ◌⊎◌, inl, inr, Bool, true, false, cond, unwrap_or, refl, arith}
use Rattle.mt_base.specs.Trace.{Trace}
use Rattle.mt_windows.specs.Arrived.{greatest_part}
use Rattle.mt_windows.specs.Noted.{greatest_of, is_noted}
use Rattle.mt_windows.specs.Sending.{Act, Limits, last_end, lowest_or_next, told, transmissions}
use Rattle.carrier.specs.Layout.{Received}
use Rattle.carrier.specs.TwoLinks.{ahead}
use Rattle.carrier.proofs.links.Invariant.{Even, Follows, behind, count}
use Rattle.carrier.proofs.links.Numbers.{below_lowest}
use Rattle.carrier.proofs.links.Noted.{noted_le, greatest_is, last_there}
use Rattle.carrier.proofs.links.Parts.{last_is}
use Rattle.carrier.proofs.links.Steps.{cuts_within, reached, end_within}

-- the number behind the last one received, where it is told
pub last_behind : (kind : Bool) (first : ℕ) (r : Received) → 1 ≤ first
    → cond kind (unwrap_or (greatest_part first r.parts) (first - 1)) (unwrap_or (greatest_of r.seen) (first - 1)) + 1 ≡ behind kind first r
last_behind true first r some = last_is r.parts first some
last_behind false first r some = refl

-- it is no number that wasn't sent
pub behind_within : (kind : Bool) (l : Limits) (own : ℕ) (a : Trace Act) (r : Received) (n : ℕ) → 1 ≤ own → Follows kind l own a r n → behind kind own r ≤ own + count kind a
behind_within true l own a r n some h = omega (arith, end_within true l own a r n h)
behind_within false l own a r n some h = by_value (greatest_is r.seen (own - 1))
  where
    by_value : (unwrap_or (greatest_of r.seen) (own - 1) ≡ own - 1) ⊎ (is_noted (unwrap_or (greatest_of r.seen) (own - 1)) r.seen ≡ true) → unwrap_or (greatest_of r.seen) (own - 1) + 1 ≤ own + transmissions a
    by_value (inl e) = omega (arith, e, some)
    by_value (inr is) = let w = h.seen refl (unwrap_or (greatest_of r.seen) (own - 1)) is in omega (arith, w.number, w.made)

-- and none below the first
pub behind_from : (kind : Bool) (l : Limits) (own : ℕ) (a : Trace Act) (r : Received) (n : ℕ) → 1 ≤ own → Follows kind l own a r n → own ≤ behind kind own r
behind_from true l own a r n some h = omega arith
behind_from false l own a r n some h = by_value (greatest_is r.seen (own - 1))
  where
    by_value : (unwrap_or (greatest_of r.seen) (own - 1) ≡ own - 1) ⊎ (is_noted (unwrap_or (greatest_of r.seen) (own - 1)) r.seen ≡ true) → own ≤ unwrap_or (greatest_of r.seen) (own - 1) + 1
    by_value (inl e) = omega (arith, e, some)
    by_value (inr is) = let w = h.seen refl (unwrap_or (greatest_of r.seen) (own - 1)) is in omega (arith, w.number)

-- what was sent runs ahead of it by a window of parts, or a span of transmissions
pub count_near : (kind : Bool) (l : Limits) (own : ℕ) (a : Trace Act) (r : Received) (n : ℕ) → 1 ≤ own → Even l own a → Follows kind l own a r n → own + count kind a ≤ behind kind own r + ahead kind l
count_near true l own a r n some even h =
    omega (arith, cuts_within l own a even, reached true l own a r n (lowest_or_next l a) h (below_lowest l a))
count_near false l own a r n some even h = by_last (last_end (told l a) (transmissions a)) refl
  where
    by_last : (e : ℕ) → last_end (told l a) (transmissions a) ≡ e → own + transmissions a ≤ unwrap_or (greatest_of r.seen) (own - 1) + 1 + l.span
    by_last zero e = omega (arith, even.reaches, e, behind_from false l own a r n some h)
    by_last (suc i) e =
        omega (arith, even.reaches, e, noted_le (own + i) r.seen (own - 1) (h.known refl i (last_there (told l a) (transmissions a) i e)))

-- the numbers of what was sent
pub count_numbers : (kind : Bool) (l : Limits) (own : ℕ) (a : Trace Act) → Even l own a → own ≤ l.numbers → own + count kind a ≤ l.numbers
count_numbers true l own a even less = even.numbers less
count_numbers false l own a even less = even.made less
