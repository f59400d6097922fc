-- The first layout keeps what the machine of a link asks of its layout.
use Rattle.std.proofs.Common.{◌≡◌, ℕ, Bool, ◌++◌, Option, Some, None, option_map, append-nil, sym, arith}
use Rattle.carrier.specs.Layout.{Telling, Carried}
use Rattle.link_machine.specs.WireLaw.{IsWire, bytes_of, numbers_of}
use Rattle.udp1_core.proofs.FirstIsLayout.{is_layout}
use Rattle.udp1_core.proofs.Sizes.{short_enough}
use Rattle.udp1_core.proofs.Spellings.{part_behind}
use Rattle.udp1_core.specs.FirstLayout.{first_wire}

spells : (telling : Telling) (tells : Bool) (floor : Option ℕ) (load : Option Carried)
    → first_wire.spell (record { telling = telling; tells = tells; floor = floor; load = load })
    ≡ first_wire.finished (first_wire.head telling tells floor (option_map numbers_of load) ++ bytes_of load)
spells telling tells floor None = sym (append-nil (first_wire.head telling tells floor None))
spells telling tells floor (Some c) = part_behind (record { telling = telling; tells = tells; floor = floor; load = Some c }) c

pub first_is_wire : IsWire first_wire
first_is_wire = record {
  lawful = λ wait delay own peer some_own some_peer. is_layout wait delay own peer some_own some_peer;
  short = λ wait delay own peer r above tells floor load is. short_enough wait delay own peer r above tells floor load is;
  wide = omega arith;
  spells = spells;
}
