-- What is asked of the layout of a link's datagrams.
use Rattle.std.specs.Prelude.{◌≡◌, ℕ, ◌*◌, ◌≤◌, Bool, List, [], ◌++◌, length, Option, Some, None, option_map, IfSome}
use Rattle.mt_windows.specs.declared.limits.TheConstants.{WINDOW}
use Rattle.carrier.specs.declared.limits.TheConstants.{WITH_TELLING}
use Rattle.carrier.specs.Layout.{Received, Telling, Carried}
use Rattle.carrier.specs.LayoutLaw.{IsLayout, IsCarried, datagram_of}
use Rattle.link_machine.specs.declared.numbers.Numbers.{Numbers}
use Rattle.link_machine.specs.Wire.{Wire, layout_of}

abbrev pub numbers_of : Carried → Numbers
numbers_of c = record { part = c.part; transmission = c.transmission }

abbrev pub bytes_of : Option Carried → List ℕ
bytes_of None = []
bytes_of (Some c) = c.bytes

-- It is a layout, whatever the numbers; a part has room beside a telling; a window is at most half of
-- the numbers that have different low parts; and a text is its head and the part's bytes, finished.
pub record IsWire (wire : Wire) : Type 0 where
  pub lawful : (wait delay own peer : ℕ) → 1 ≤ own → 1 ≤ peer → IsLayout (layout_of wire wait delay own peer)
  pub short : (wait delay own peer : ℕ) (r : Received) (above : ℕ) (tells : Bool) (floor : Option ℕ) (load : Option Carried)
      → IfSome load (IsCarried (layout_of wire wait delay own peer))
      → length (wire.spell (datagram_of (layout_of wire wait delay own peer) r above tells floor load)) ≤ WITH_TELLING
  pub wide : 2 * WINDOW ≤ wire.modulus
  pub spells : (telling : Telling) (tells : Bool) (floor : Option ℕ) (load : Option Carried)
      → wire.spell (record { telling = telling; tells = tells; floor = floor; load = load })
      ≡ wire.finished (wire.head telling tells floor (option_map numbers_of load) ++ bytes_of load)
