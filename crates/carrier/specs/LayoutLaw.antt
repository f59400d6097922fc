-- What is asked of a layout: it reads back what it spells, tells only what was received, and leaves
-- room between the numbers that have the same low part.
use Rattle.std.specs.Prelude.{◌≡◌, ℕ, ◌+◌, ◌*◌, ◌%◌, ◌<◌, ◌≤◌, Bool, true, List, length, All, if◌then◌else◌, Option, Some, None, IfSome, option_map}
use Rattle.mt_windows.specs.Arrived.{has_part}
use Rattle.mt_windows.specs.Noted.{is_noted}
use Rattle.carrier.specs.Layout.{Layout, Received, Shows, Shown, Load, Empty, Carries, Telling, Datagram, Carried, named_in, with_named, tells}
use Rattle.carrier.specs.Receiving.{shown_in, last_told}

-- ---- what a datagram shows of what it means

abbrev pub low_part : Layout → ℕ → ℕ
low_part layout n = n % layout.modulus

abbrev pub load_shown : Layout → Option Carried → Load
load_shown layout None = Empty
load_shown layout (Some c) = Carries (low_part layout c.part) (low_part layout c.transmission) c.bytes

abbrev pub telling_shown : Layout → Bool → Telling → Option Telling
telling_shown layout tells telling =
    if tells then Some (with_named (low_part layout (named_in telling)) telling) else None

abbrev pub shown_of : Layout → Datagram → Shown
shown_of layout d = record {
  window = Some layout.bounds.windows.window;
  telling = telling_shown layout d.tells d.telling;
  floor = option_map (low_part layout) d.floor;
  load = load_shown layout d.load;
}

-- ---- what is told

-- a number was received: the part was accepted, or the transmission seen
abbrev pub is_received : Layout → Received → ℕ → Bool
is_received layout r n = if layout.tells_parts then has_part layout.peer r.parts n else is_noted n r.seen

-- a part that is sent: bytes, and not too many
abbrev pub IsCarried : Layout → Carried → Type 0
IsCarried layout c = (length c.bytes ≤ layout.bounds.windows.part) × All (λ b. b < 256) c.bytes

-- ---- a layout

-- a datagram that tells what was received above a floor
abbrev pub datagram_of : Layout → Received → ℕ → Bool → Option ℕ → Option Carried → Datagram
datagram_of layout r above tells floor load = record {
  telling = layout.told r above;
  tells = tells;
  floor = floor;
  load = load;
}

pub record IsLayout (layout : Layout) : Type 0 where
  pub half : ℕ
  pub some_half : 0 < half
  pub modulus_is : layout.modulus ≡ 2 * half
  pub some_own : 1 ≤ layout.own
  pub some_peer : 1 ≤ layout.peer
  pub read_back : (r : Received) (above : ℕ) (tells : Bool) (floor : Option ℕ) (load : Option Carried)
      → IfSome load (IsCarried layout)
      → layout.read (layout.spell (datagram_of layout r above tells floor load)) ≡ Shows (shown_of layout (datagram_of layout r above tells floor load))
  pub fits : (r : Received) (above : ℕ) (tells : Bool) (floor : Option ℕ) (load : Option Carried)
      → IfSome load (IsCarried layout)
      → length (layout.spell (datagram_of layout r above tells floor load)) ≤ layout.bounds.datagram
  -- a datagram of fewer than eight bytes shows nothing
  pub tiny : (datagram : List ℕ) → length datagram < 8 → shown_in (layout.read datagram) ≡ None
  -- the number that is named lies at most so far below the last number received, and not above it,
  -- where the floor doesn't; and only numbers that were received are told
  pub named_near : (r : Received) (above : ℕ)
      → last_told layout r ≤ named_in (layout.told r above) + layout.bounds.tell
  pub named_within : (r : Received) (above : ℕ) → above ≤ last_told layout r
      → named_in (layout.told r above) ≤ last_told layout r
  pub received : (r : Received) (above n : ℕ) → layout.peer ≤ n → tells (layout.told r above) n ≡ true → is_received layout r n ≡ true
