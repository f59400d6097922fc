-- What a send window stands for.
use Rattle.std.specs.Prelude.{◌≡◌, ℕ, ◌+◌, ◌-◌, ◌<◌, ◌≤◌, ◌^◌, ◌⊎◌, Bool, true, false, ◌&&◌, nat_lt, nat_le, min, if◌then◌else◌, List, ◌++◌, length, take, drop, get_or, slice_set as set, Option, Some, None, IsSome, is_some}
use Rattle.mt_base.specs.Trace.{Trace}
use Rattle.mt_windows.specs.declared.flight.Flight.{Flight}
use Rattle.mt_windows.specs.FlightView.{flight_at, slot_at, bytes_in}
use Rattle.mt_windows.specs.declared.limits.TheConstants.{WINDOW, SPAN, PART, QUEUE, NUMBERS}
use Rattle.mt_windows.specs.Sending.{Act, Limits, cuts, transmissions, waiting, piece, part_of, earliest, latest, is_open as is_open_part, settled, told, last_end, queued}

-- the limits of a link
abbrev pub limits : Limits
limits = record { window = WINDOW; span = SPAN; part = PART; queue = QUEUE; numbers = NUMBERS }

-- what a window keeps: the first number, the bytes to be cut, the place of the lowest unsettled part,
-- how many parts were cut and transmissions made, the ends of the last three told transmissions, the parts from the lowest unsettled one on, and the parts of the
-- last transmissions
pub record Outbox : Type 0 where
  pub first : ℕ
  pub waiting : List ℕ
  pub base : ℕ
  pub cut : ℕ
  pub made : ℕ
  pub told : ℕ
  pub second : ℕ
  pub third : ℕ
  pub flights : List Flight
  pub carried : List ℕ

-- what is true of a part in flight
abbrev pub IsFlight : Option (List ℕ) → ℕ → ℕ → Type 0
IsFlight None latest made = Unit {0}
IsFlight (Some bytes) latest made = (length bytes ≤ PART) × (latest < made)

-- what is true of every window
pub record IsSoundOut (w : Outbox) : Type 0 where
  pub some_first : 1 ≤ w.first
  pub places : length w.flights ≡ WINDOW
  pub base_bound : w.base ≤ w.cut
  pub cut_bound : w.cut ≤ w.base + WINDOW
  pub parts_bound : w.first + w.cut ≤ 2 ^ 62
  pub made_bound : w.first + w.made ≤ 2 ^ 62
  pub told_bound : w.told ≤ w.made
  pub reach_bound : w.made ≤ w.told + SPAN
  pub carried_bound : length w.carried ≤ SPAN
  pub carried_made : length w.carried ≤ w.made
  pub waiting_bound : length w.waiting ≤ QUEUE
  pub early : (k : ℕ) → (flight_at w.flights k).earliest ≤ w.made
  pub fits : (k : ℕ) → IsFlight (slot_at w.flights k) (flight_at w.flights k).latest w.made

-- the parts in flight: those from `base` on that are open, with their bytes and their transmissions
pub record Flying (flights : List Flight) (base : ℕ) (bytes : ℕ → List ℕ) (is_open : ℕ → Bool) (earliest latest : ℕ → ℕ) : Type 0 where
  pub below : (p : ℕ) → p < base → is_open p ≡ false
  pub slots : (k : ℕ) → slot_at flights k ≡ (if is_open (base + k) then Some (bytes (base + k)) else None)
  pub earliest_are : (k : ℕ) → is_open (base + k) ≡ true → (flight_at flights k).earliest ≡ earliest (base + k)
  pub latest_are : (k : ℕ) → is_open (base + k) ≡ true → (flight_at flights k).latest ≡ latest (base + k)

-- the parts of the last transmissions, of which there were `made`
pub record Remembers (carried : List ℕ) (span made : ℕ) (part_of : ℕ → ℕ) : Type 0 where
  pub size : length carried ≡ min made span
  pub parts : (i : ℕ) → i < length carried → get_or carried i 0 ≡ part_of (made - length carried + i)

-- the ends of the last three told transmissions
pub record Heard (a b c made : ℕ) (told : ℕ → Bool) : Type 0 where
  pub last : a ≡ last_end told made
  pub second : b ≡ last_end told (a - 1)
  pub third : c ≡ last_end told (b - 1)

-- this window stands for these acts, with parts and transmissions from the number `first` on
pub record Sends (w : Outbox) (first : ℕ) (t : Trace Act) : Type 0 where
  pub first_is : w.first ≡ first
  pub waiting_is : w.waiting ≡ waiting limits t
  pub cut_is : w.cut ≡ cuts t
  pub made_is : w.made ≡ transmissions t
  pub front : (w.base ≡ w.cut) ⊎ IsSome (slot_at w.flights 0)
  pub flying : Flying w.flights w.base (piece limits t) (is_open_part limits t) (earliest t) (latest t)
  pub remembers : Remembers w.carried SPAN w.made (part_of t)
  pub heard : Heard w.told w.second w.third w.made (told limits t)
  pub parts_exist : (j : ℕ) → j < w.made → part_of t j < w.cut
  pub unsettled_beyond : (p : ℕ) → w.cut ≤ p → settled limits t p ≡ false
  pub untold_beyond : (j : ℕ) → w.made ≤ j → told limits t j ≡ false
  pub queue_bound : queued limits t ≤ QUEUE

-- what callers may ask of any window
abbrev pub queued_of : Outbox → ℕ
queued_of w = length w.waiting + bytes_in w.flights

abbrev pub reach_of : Outbox → ℕ
reach_of w = w.made - w.told

abbrev pub next_transmission : Outbox → ℕ
next_transmission w = w.first + w.made

-- whether this part is unsettled
abbrev pub is_unsettled : Outbox → ℕ → Bool
is_unsettled w part = nat_le (w.first + w.base) part && (nat_lt part (w.first + w.cut) && is_some (slot_at w.flights (part - w.first - w.base)))

-- whether a part may be cut
abbrev pub may_cut_of : Outbox → ℕ → Bool
may_cut_of w window =
    nat_lt 0 (length w.waiting) && nat_lt w.cut (w.base + min WINDOW window) && nat_lt (reach_of w) SPAN
    && nat_lt (w.first + w.cut) NUMBERS && nat_lt (w.first + w.made) NUMBERS

-- only the place of the lowest part, and what is kept from there on, may differ
pub record IsRebased (old new : Outbox) : Type 0 where
  pub first : new.first ≡ old.first
  pub waiting : new.waiting ≡ old.waiting
  pub cut : new.cut ≡ old.cut
  pub made : new.made ≡ old.made
  pub told : new.told ≡ old.told
  pub second : new.second ≡ old.second
  pub third : new.third ≡ old.third
  pub carried : new.carried ≡ old.carried
  pub base : old.base ≤ new.base

-- the window where a part is out of flight
abbrev pub landed : Outbox → ℕ → Outbox
landed w k = record w { flights = set w.flights k (record (flight_at w.flights k) { slot = None }) }

-- the window one part on
abbrev pub past_flight : Outbox → Outbox
past_flight w = record w { base = w.base + 1; flights = drop 1 w.flights ++ take 1 w.flights }

-- the window after one transmission more is known as told
abbrev pub heard_of : Outbox → ℕ → Outbox
heard_of w j =
    if nat_lt w.told (j + 1) then record w { told = j + 1; second = w.told; third = w.second }
    else (if nat_lt (j + 1) w.told && nat_lt w.second (j + 1) then record w { second = j + 1; third = w.second }
    else (if nat_lt (j + 1) w.second && nat_lt w.third (j + 1) then record w { third = j + 1 } else w))
