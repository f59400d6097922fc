-- The numbers that datagrams show, and those that came so far.
use Rattle.std.specs.Prelude.{◌≡◌, ◌↔◌, ◌⊎◌, ℕ, ◌<◌, true, List, [], length, slice_get, Option, Some, None}
use Rattle.std.specs.List.{count_by}
use Rattle.mt_base.specs.declared.kinds.Role.{Role}
use Rattle.mt_base.specs.declared.kinds.Kind.{Kind}
use Rattle.capture_check.specs.declared.layout.Layout.{Layout}
use Rattle.capture_check.specs.declared.entry.Entry.{Entry}
use Rattle.capture_check.specs.Numbers.{is_out_of, HasOut}
use Rattle.capture_check.specs.Arrivals.{ArrivedView, ArrivalsView, arrived_of, has}
use Rattle.udp2_packets.specs.Value.{Telling}
use Rattle.capture_check.specs.Tellings.{HasLayout, Shows, AcksZero, AcksZeroIn, ShowsAfter, CameWith}

-- ---- one datagram

-- a datagram has just this layout, or none
abbrev pub HasJust : Kind → List Entry → List ℕ → Option Layout → Type 0
HasJust kind before datagram None = (layout : Layout) → ¬ HasLayout kind before datagram layout
HasJust kind before datagram (Some layout) = HasLayout kind before datagram layout

-- a datagram shows just this number, or none
abbrev pub ShowsJust : Layout → List ℕ → Option ℕ → Type 0
ShowsJust layout datagram shown = (n : ℕ) → (shown ≡ Some n) ↔ Shows layout datagram n

abbrev pub ShowsJustAfter : Kind → List Entry → List ℕ → Option ℕ → Type 0
ShowsJustAfter kind before datagram shown =
    (n : ℕ) → (shown ≡ Some n) ↔ ShowsAfter kind before datagram n

-- where these numbers came, what stands in a packet of the second layout may tell this one
abbrev pub MayTellZero : List ℕ → Telling → ℕ → Type 0
MayTellZero came telling n = (has came n ≡ true) ⊎ (AcksZeroIn telling n × (came ≡ []))

-- and a datagram may
abbrev pub MayTell : List ℕ → Layout → List ℕ → ℕ → Type 0
MayTell came layout datagram n =
    (has came n ≡ true) ⊎ (AcksZero layout datagram n × (came ≡ []))

-- ---- the datagrams of a side and kind

pub record IsArrived (side : Role) (kind : Kind) (entries : List Entry) (view : ArrivedView) : Type 0 where
  pub count : length view.given ≡ count_by (is_out_of side kind) entries
  pub shown : (number : ℕ) (given : HasOut side kind number entries)
      → (o : Option ℕ) × (slice_get view.given number ≡ Some o) × ShowsJustAfter kind given.front given.datagram o
  pub there : (number : ℕ) → number < length view.given → HasOut side kind number entries
  pub came : (n : ℕ) → (has view.came n ≡ true) ↔ CameWith side kind entries n

-- the datagrams are those of the entries
abbrev pub AreArrivals : List Entry → ArrivalsView → Type 0
AreArrivals entries view =
    (side : Role) (kind : Kind) → IsArrived side kind entries (arrived_of view side kind)
