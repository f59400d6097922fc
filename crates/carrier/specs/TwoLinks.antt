-- What holds of two joined ends.
use Rattle.std.specs.Prelude.{◌≡◌, ℕ, ◌+◌, ◌*◌, ◌<◌, ◌≤◌, Bool, true, false, List, ◌++◌, length, if◌then◌else◌, Option, Some, None, is_some}
use Rattle.mt_base.specs.declared.kinds.Role.{Role}
use Rattle.mt_base.specs.Ends.{other}
use Rattle.mt_base.specs.Trace.{Trace, Start, ◌▷◌}
use Rattle.mt_windows.specs.Arrived.{Parts, part_at, passed, drained}
use Rattle.mt_windows.specs.Noted.{is_noted}
use Rattle.mt_windows.specs.Sending.{Act, Limits, cuts, lowest_or_next, part_of, piece, settled, told, transmissions}
use Rattle.carrier.specs.Entries.{Entry, In, given, pulled}
use Rattle.carrier.specs.Layout.{Layout, Bounds, Shows, Shown, Load, Empty, Telling, Datagram, Carried, named_in, with_named, read_near}
use Rattle.carrier.specs.Receiving.{reading, received, accepted, arrival, floor_read, last_seen, next_part, Arrival}
use Rattle.carrier.specs.Sending.{acts, told_reference}
use Rattle.carrier.specs.Law.{Faithful}
use Rattle.carrier.specs.LayoutLaw.{IsLayout}
use Rattle.carrier.specs.Joined.{Step, At, half, SentAgo, MeantAgo, Timely}

-- ---- the premises

-- how many parts, or transmissions, may be past the one that was told last
abbrev pub ahead : Bool → Limits → ℕ
ahead tells_parts limits = if tells_parts then limits.window else limits.span

-- What is asked of the bounds, of the datagrams that may come late, and of half of the modulus, `room`.
-- A part lies below the least part that isn't drained by at most the window and the lateness, and
-- above it by less than two windows. A number told lies below the last one by at most what may be
-- past it, what a telling speaks of, and the lateness. Where transmissions are told, these and the
-- floors lie around the last one that was seen, no farther away.
pub record Enough (late room : ℕ) (tells_parts : Bool) (bounds : Bounds) : Type 0 where
  pub some_window : 0 < bounds.windows.window
  pub two_windows : 2 * bounds.windows.window ≤ room
  pub window_and_late : bounds.windows.window + late ≤ room
  pub told_and_late : ahead tells_parts bounds.windows + bounds.tell + late ≤ room

-- Two layouts that belong together: both tell parts, or both transmissions, and they read alike; each
-- end's own numbers are the peer's at the other; and the bounds leave room between two numbers that
-- have the same low part.
pub record Margins (late : ℕ) (layouts : Role → Layout) : Type 0 where
  pub layout : (s : Role) → IsLayout (layouts s)
  pub kinds : (s : Role) → (layouts s).tells_parts ≡ (layouts (other s)).tells_parts
  pub reads : (s : Role) (datagram : List ℕ)
      → (layouts s).read datagram ≡ (layouts (other s)).read datagram
  pub faces : (s : Role) → (layouts s).own ≡ (layouts (other s)).peer
  pub bounds : (s : Role) → (layouts s).bounds ≡ (layouts (other s)).bounds
  -- half of the modulus of both
  pub room : ℕ
  pub modulus : (s : Role) → (layouts s).modulus ≡ 2 * room
  pub enough : (s : Role) → Enough late room (layouts s).tells_parts (layouts s).bounds
  pub numbers : (s : Role) → (layouts s).own ≤ (layouts s).bounds.windows.numbers

-- two ends of a link, joined by a network
pub record Net (late : ℕ) (layouts : Role → Layout) (w : Trace Step) : Type 0 where
  pub margins : Margins late layouts
  pub faithful : (s : Role) → Faithful (layouts s) (half s w)
  pub timely : Timely late w

-- ---- a datagram is read as it was meant

-- what is carried arrives under the number that was meant, and, where transmissions are told, under
-- the transmission that was meant
abbrev pub LoadRead : Layout → Trace Entry → Load → Option Carried → Type 0
LoadRead layout t load None = load ≡ Empty
LoadRead layout t load (Some c) =
    (a : Arrival) × (arrival layout (received layout t) (length (pulled t)) load ≡ Some a) × (a.part ≡ c.part)
    × (a.bytes ≡ c.bytes) × (layout.tells_parts ≡ false → a.transmission ≡ c.transmission)

-- what is told, with the number that is read in place of the one that is named, is what was meant
abbrev pub TellingRead : Layout → Trace Entry → Option Telling → Telling → Type 0
TellingRead layout t None meant = Unit {0}
TellingRead layout t (Some shown) meant =
    (n : ℕ) × (read_near layout (told_reference layout (acts layout t)) (named_in shown) ≡ Some n)
    × (with_named n shown ≡ meant)

-- the floor is read as the number that was meant
abbrev pub FloorRead : Layout → Trace Entry → Option ℕ → Option ℕ → Type 0
FloorRead layout t shown None = shown ≡ None
FloorRead layout t shown (Some floor) =
    (low : ℕ) × (shown ≡ Some low) × (floor_read layout (received layout t) (length (pulled t)) low ≡ Some floor)

-- ---- where the numbers lie that were meant

-- a number lies at most so far below a reference, and at most so far above it
abbrev pub Around : ℕ → ℕ → ℕ → ℕ → Type 0
Around reference below above n = (reference ≤ n + below) × (n ≤ reference + above)

-- a part lies around the least part that isn't drained; where transmissions are told, the one that
-- carries it lies around the greatest one that was seen
abbrev pub LoadNear : ℕ → Layout → Trace Entry → Option Carried → Type 0
LoadNear late layout t None = Unit {0}
LoadNear late layout t (Some c) =
    Around (next_part layout (received layout t) (length (pulled t)))
    (layout.bounds.windows.window + late) (2 * layout.bounds.windows.window) c.part
    × (layout.tells_parts ≡ false
    → Around (last_seen layout (received layout t)) late layout.bounds.windows.span c.transmission)

-- a floor lies around the same part, or transmission
abbrev pub FloorNear : ℕ → Layout → Trace Entry → Option ℕ → Type 0
FloorNear late layout t None = Unit {0}
FloorNear late layout t (Some floor) =
    Around (if layout.tells_parts then next_part layout (received layout t) (length (pulled t)) else last_seen layout (received layout t))
    (ahead layout.tells_parts layout.bounds.windows + late) (ahead layout.tells_parts layout.bounds.windows) floor

-- a number told is that of the last part cut, or transmission made, or lies below it
abbrev pub TellingNear : ℕ → Layout → Trace Entry → Telling → Type 0
TellingNear late layout t telling =
    Around (told_reference layout (acts layout t))
    (ahead layout.tells_parts layout.bounds.windows + layout.bounds.tell + late) 0 (named_in telling)

-- This datagram, which comes after this trace, is read as it was meant, and its numbers lie there.
pub record Reads (late : ℕ) (layout : Layout) (t : Trace Entry) (datagram : List ℕ) (meant : Datagram) : Type 0 where
  pub shown : Shown
  pub shows : reading layout datagram ≡ Shows shown
  pub window : shown.window ≡ Some layout.bounds.windows.window
  pub load : LoadRead layout t shown.load meant.load
  pub tells : is_some shown.telling ≡ meant.tells
  pub telling : TellingRead layout t shown.telling meant.telling
  pub floor : FloorRead layout t shown.floor meant.floor
  pub load_near : LoadNear late layout t meant.load
  pub telling_near : TellingNear late layout t meant.telling
  pub floor_near : FloorNear late layout t meant.floor

-- Each datagram that came in time was read as it was meant, and its numbers lay within the margins.
abbrev pub AllRead : ℕ → (Role → Layout) → Trace Step → Type 0
AllRead late layouts Start = Unit {0}
AllRead late layouts (w ▷ At side (In now datagram took)) =
    ((k : ℕ) → k < late → SentAgo (other side) w k datagram
    → (f : Datagram) × MeantAgo layouts (other side) w k f × Reads late (layouts side) (half side w) datagram f)
    × AllRead late layouts w
AllRead late layouts (w ▷ e) = AllRead late layouts w

-- ---- what arrives

-- what this end gave, sent and was told
abbrev pub acts_of : (Role → Layout) → Trace Step → Role → Trace Act
acts_of layouts w s = acts (layouts s) (half s w)

-- what the other end accepted of it
abbrev pub arrived_from : (Role → Layout) → Trace Step → Role → Parts
arrived_from layouts w s = accepted (layouts (other s)) (half (other s) w)

-- what the other end pulled
abbrev pub pulled_from : Trace Step → Role → List ℕ
pulled_from w s = pulled (half (other s) w)

abbrev pub windows_of : (Role → Layout) → Role → Limits
windows_of layouts s = (layouts s).bounds.windows

-- each part that is settled at one end was accepted at the other, with the same bytes
abbrev pub SettledArrive : (Role → Layout) → Trace Step → Role → Type 0
SettledArrive layouts w s =
    (p : ℕ) → settled (windows_of layouts s) (acts_of layouts w s) p ≡ true
    → part_at (arrived_from layouts w s) p ≡ Some (piece (windows_of layouts s) (acts_of layouts w s) p)

-- A transmission with this number was made, and the part that it carried was accepted.
pub record WasMade (own : ℕ) (s : Trace Act) (parts : Parts) (n : ℕ) : Type 0 where
  pub place : ℕ
  pub number : n ≡ own + place
  pub made : place < transmissions s
  pub came : is_some (part_at parts (part_of s place)) ≡ true

-- what was seen of it at the other end
abbrev pub seen_from : (Role → Layout) → Trace Step → Role → List ℕ
seen_from layouts w s = (received (layouts (other s)) (half (other s) w)).seen

-- where transmissions are told, each one that was seen at the other end was made by this one, and its
-- part was accepted
abbrev pub SeenWereMade : (Role → Layout) → Trace Step → Role → Type 0
SeenWereMade layouts w s =
    (layouts s).tells_parts ≡ false → (n : ℕ) → is_noted n (seen_from layouts w s) ≡ true
    → WasMade (layouts s).own (acts_of layouts w s) (arrived_from layouts w s) n

-- and each one that is known as told was seen
abbrev pub KnownWereSeen : (Role → Layout) → Trace Step → Role → Type 0
KnownWereSeen layouts w s =
    (layouts s).tells_parts ≡ false → (j : ℕ) → told (windows_of layouts s) (acts_of layouts w s) j ≡ true
    → is_noted ((layouts s).own + j) (seen_from layouts w s) ≡ true

-- what one end passed is the beginning of what the other was given
abbrev pub PassedWasGiven : (Role → Layout) → Trace Step → Role → Type 0
PassedWasGiven layouts w s = (more : List ℕ) × (given (half s w) ≡ passed (arrived_from layouts w s) ++ more)

-- so is what it pulled
abbrev pub PulledWasGiven : (Role → Layout) → Trace Step → Role → Type 0
PulledWasGiven layouts w s = (more : List ℕ) × (given (half s w) ≡ pulled_from w s ++ more)

-- no part below the lowest unsettled one is missing at the other end
abbrev pub LowestArrived : (Role → Layout) → Trace Step → Role → Type 0
LowestArrived layouts w s =
    (p : ℕ) → p < lowest_or_next (windows_of layouts s) (acts_of layouts w s)
    → is_some (part_at (arrived_from layouts w s) p) ≡ true

-- the parts that were cut end at most two windows above those that the other end drained
abbrev pub CutsNear : (Role → Layout) → Trace Step → Role → Type 0
CutsNear layouts w s =
    cuts (acts_of layouts w s)
    ≤ drained (arrived_from layouts w s) (length (pulled_from w s)) + 2 * (windows_of layouts s).window
