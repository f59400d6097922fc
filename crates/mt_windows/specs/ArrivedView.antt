-- What a receive window stands for.
use Rattle.std.specs.Prelude.{◌≡◌, ℕ, zero, suc, ◌+◌, ◌-◌, ◌%◌, ◌<◌, ◌≤◌, ◌^◌, ◌||◌, Bool, false, nat_lt, nat_le, max, sum, All, List, [], ◌∷◌, ◌++◌, length, take, drop, slice_set as set, Option, Some, None, IsSome, is_some, unwrap_or}
use Rattle.mt_windows.specs.declared.limits.TheConstants.{WINDOW, DATAGRAM}
use Rattle.mt_windows.specs.BitsView.{is_set}
use Rattle.mt_windows.specs.Arrived.{Parts, part_at, passed, greatest_part}

-- what a window keeps: the first number, and how many parts were pulled in full; of the parts behind
-- them, up to the least that is missing, the lengths, how many bytes were pulled, and the bytes that
-- were not; the greatest number; and the parts from the least that is missing on
pub record Inbox : Type 0 where
  pub first : ℕ
  pub passed : ℕ
  pub lengths : List ℕ
  pub used : ℕ
  pub ordered : List ℕ
  pub greatest : Option ℕ
  pub slots : Parts

-- the bytes in order that were not pulled yet
abbrev pub left_of : Inbox → List ℕ
left_of w = w.ordered

-- the place of the least part that is missing
abbrev pub gap_of : Inbox → ℕ
gap_of w = w.passed + length w.lengths

-- what is true of every window
pub record IsSound (w : Inbox) : Type 0 where
  pub places : length w.slots ≡ WINDOW
  pub amount : sum w.lengths ≡ w.used + length w.ordered
  pub short : All (λ l. l ≤ DATAGRAM) w.lengths
  pub few : length w.lengths ≤ WINDOW
  pub next_bound : w.first + gap_of w ≤ 2 ^ 62
  pub near : (k : ℕ) → IsSome (part_at w.slots k) → length w.lengths + k < WINDOW
  pub bound : (k : ℕ) → IsSome (part_at w.slots k) → w.first + gap_of w + k < 2 ^ 62

-- the bits say of each place from the part `next` on whether a part is there: `count` parts are, and
-- behind them those in the slots
abbrev pub AreMarked : List ℕ → ℕ → ℕ → Parts → Type 0
AreMarked words next count slots = (k : ℕ) → k < WINDOW → is_set words ((next + k) % WINDOW) ≡ (nat_lt k count || is_some (part_at slots (k - count)))

-- the first parts are there, and have these lengths
abbrev pub HaveLengths : Parts → List ℕ → Type 0
HaveLengths parts [] = Unit {0}
HaveLengths [] (l ∷ lengths) = ⊥
HaveLengths (None ∷ parts) (l ∷ lengths) = ⊥
HaveLengths (Some bytes ∷ parts) (l ∷ lengths) = (length bytes ≡ l) × HaveLengths parts lengths

-- the first `count` parts are there, and `used` of the first n bytes are behind them; the next parts
-- are there, and have these lengths
abbrev pub IsBehind : Parts → ℕ → ℕ → ℕ → List ℕ → Type 0
IsBehind parts zero n used lengths = (n ≡ used) × HaveLengths parts lengths
IsBehind [] (suc count) n used lengths = ⊥
IsBehind (None ∷ parts) (suc count) n used lengths = ⊥
IsBehind (Some bytes ∷ parts) (suc count) n used lengths = (length bytes ≤ n) × IsBehind parts count (n - length bytes) used lengths

-- there is no part of these lengths, or not all bytes of the first were pulled
abbrev pub IsNext : List ℕ → ℕ → Type 0
IsNext [] used = Unit {0}
IsNext (l ∷ lengths) used = used < l

-- this window keeps these parts, of which the first n bytes were pulled
pub record Keeps (w : Inbox) (first : ℕ) (parts : Parts) (n : ℕ) : Type 0 where
  pub first_is : w.first ≡ first
  pub behind : IsBehind parts w.passed n w.used w.lengths
  pub pulled : n ≤ length (passed (take (gap_of w) parts))
  pub ordered_is : w.ordered ≡ drop n (passed (take (gap_of w) parts))
  pub slots_are : (k : ℕ) → part_at w.slots k ≡ part_at parts (gap_of w + k)
  pub greatest_is : w.greatest ≡ greatest_part first parts

-- this window stands for these parts, of which the first n bytes were pulled
pub record Receives (w : Inbox) (first : ℕ) (parts : Parts) (n : ℕ) : Type 0 where
  pub keeps : Keeps w first parts n
  pub gap : part_at w.slots 0 ≡ None
  pub next : IsNext w.lengths w.used

-- there is a first part of these lengths, and all of its bytes were pulled
abbrev pub is_drained : List ℕ → ℕ → Bool
is_drained [] used = false
is_drained (l ∷ lengths) used = nat_le l used

-- the window with a part in a place that was empty
abbrev pub kept : Inbox → ℕ → ℕ → List ℕ → Inbox
kept w part ahead bytes = record w { greatest = Some (max part (unwrap_or w.greatest 0)); slots = set w.slots ahead (Some bytes) }

-- the window with the part in its first place, whose bytes these are, behind those in order
abbrev pub gathered : Inbox → List ℕ → Inbox
gathered w bytes = record w { lengths = w.lengths ++ length bytes ∷ []; ordered = w.ordered ++ bytes; slots = drop 1 w.slots ++ None ∷ [] }

-- the window behind the next part, which has this length
abbrev pub past_front : Inbox → ℕ → Inbox
past_front w l = record w { passed = w.passed + 1; lengths = drop 1 w.lengths; used = w.used - l }

-- the window of which so many bytes more were pulled
abbrev pub drawn : Inbox → ℕ → Inbox
drawn w count = record w { used = w.used + count; ordered = drop count w.ordered }
