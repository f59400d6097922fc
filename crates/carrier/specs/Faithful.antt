-- What follows from the law of a link for one of its ends.
use Rattle.std.specs.Prelude.{◌≡◌, ◌⊎◌, ℕ, ◌+◌, ◌*◌, ◌<◌, ◌≤◌, ◌==◌, true, List, [], ◌∷◌, ◌++◌, length, slice_get, if◌then◌else◌, Option, Some, None}
use Rattle.mt_base.specs.Trace.{Trace, Start, ◌▷◌}
use Rattle.mt_base.specs.Writing.{joined}
use Rattle.mt_windows.specs.Arrived.{passed}
use Rattle.mt_windows.specs.Sending.{Act, Limits, cuts, is_open, lowest_or_next, next_piece, piece, pieces, transmissions}
use Rattle.carrier.specs.Entries.{Entry, Polled, given, pulled}
use Rattle.carrier.specs.Layout.{Layout, Datagram, Carried, Shows, tells}
use Rattle.carrier.specs.LayoutLaw.{IsLayout, is_received, shown_of}
use Rattle.carrier.specs.Receiving.{accepted, received}
use Rattle.carrier.specs.Sending.{acts}
use Rattle.carrier.specs.Due.{meant}

-- ---- the premise

-- What is asked of the layout: it reads back what it spells; a part has room for a byte; and a window
-- is at most half of the numbers that have different low parts.
pub record HasRoom (layout : Layout) : Type 0 where
  pub lawful : IsLayout layout
  pub some_part : 1 ≤ layout.bounds.windows.part
  pub half_window : 2 * layout.bounds.windows.window ≤ layout.modulus

-- ---- what a poll sends

-- the bytes of a part that was cut, or of the next one
abbrev pub piece_or_next : Limits → Trace Act → ℕ → List ℕ
piece_or_next limits s p = if p == cuts s then next_piece limits s else piece limits s p

-- What the next datagram carries: an unsettled part or the next one, with its bytes, of which there
-- are some and not too many, under the next transmission.
pub record IsNext (layout : Layout) (t : Trace Entry) (c : Carried) : Type 0 where
  pub transmission : c.transmission ≡ layout.own + transmissions (acts layout t)
  pub place : ℕ
  pub part : c.part ≡ layout.own + place
  pub which : (is_open layout.bounds.windows (acts layout t) place ≡ true)
      ⊎ (place ≡ cuts (acts layout t))
  pub bytes : c.bytes ≡ piece_or_next layout.bounds.windows (acts layout t) place
  pub some_bytes : 1 ≤ length c.bytes
  pub few_bytes : length c.bytes ≤ layout.bounds.windows.part

abbrev pub SendsNext : Layout → Trace Entry → Type 0
SendsNext layout t =
    (now : ℕ) (d : Datagram) (c : Carried) → meant layout t now ≡ Some d → d.load ≡ Some c → IsNext layout t c

-- a poll's datagram shows what it means, and is not too long
abbrev pub ShowsMeant : Layout → Trace Entry → Type 0
ShowsMeant layout t =
    (now : ℕ) (d : Datagram) → meant layout t now ≡ Some d
    → (layout.read (layout.spell d) ≡ Shows (shown_of layout d))
    × (length (layout.spell d) ≤ layout.bounds.datagram)

-- what a poll's datagram tells as received was: a part was accepted, or a transmission seen
abbrev pub TellsReceived : Layout → Trace Entry → Type 0
TellsReceived layout t =
    (now : ℕ) (d : Datagram) → meant layout t now ≡ Some d
    → (n : ℕ) → layout.peer ≤ n → tells d.telling n ≡ true
    → is_received layout (received layout t) n ≡ true

-- ---- what was sent

abbrev pub one_load : Option Carried → List Carried
one_load None = []
one_load (Some c) = c ∷ []

-- what a datagram carries, as a list of one or none
abbrev pub loads_of : Option Datagram → List Carried
loads_of None = []
loads_of (Some d) = one_load d.load

-- what the datagrams with data that were sent carried, in order
abbrev pub carried : Layout → Trace Entry → List Carried
carried layout Start = []
carried layout (t ▷ Polled now out) = carried layout t ++ loads_of (meant layout t now)
carried layout (t ▷ e) = carried layout t

-- This was carried by the datagram with data at this place, the first at 0: some bytes, and not too
-- many, of a part that was cut, under a transmission whose number is that of the place.
pub record WasCarried (layout : Layout) (s : Trace Act) (j : ℕ) (c : Carried) : Type 0 where
  pub transmission : c.transmission ≡ layout.own + j
  pub place : ℕ
  pub part : c.part ≡ layout.own + place
  pub cut : place < cuts s
  pub bytes : c.bytes ≡ piece layout.bounds.windows s place
  pub some_bytes : 1 ≤ length c.bytes
  pub few_bytes : length c.bytes ≤ layout.bounds.windows.part

-- the datagrams with data are numbered in order, one for each transmission
pub record InOrder (layout : Layout) (s : Trace Act) (sent : List Carried) : Type 0 where
  pub count : length sent ≡ transmissions s
  pub each : (j : ℕ) (c : Carried) → slice_get sent j ≡ Some c → WasCarried layout s j c

-- the parts joined are the beginning of what was given
abbrev pub PartsWereGiven : Layout → Trace Entry → Type 0
PartsWereGiven layout t =
    (more : List ℕ) × (given t ≡ joined (pieces layout.bounds.windows (acts layout t)) ++ more)

-- each part is below the lowest unsettled one plus the window
abbrev pub WithinWindow : Layout → Trace Act → Type 0
WithinWindow layout s =
    (p : ℕ) → p < cuts s → p < lowest_or_next layout.bounds.windows s + layout.bounds.windows.window

-- what was pulled is the beginning of the accepted parts joined, up to the least that is missing
abbrev pub PulledWasPassed : Layout → Trace Entry → Type 0
PulledWasPassed layout t = (more : List ℕ) × (passed (accepted layout t) ≡ pulled t ++ more)
