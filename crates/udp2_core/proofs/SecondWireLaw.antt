-- The second layout keeps what the machine of a link asks of its layout.
use Rattle.std.proofs.Common.{◌≡◌, ◌∙◌, ℕ, Bool, [], ◌++◌, Option, Some, None, option_map, append-nil, sym, ap, arith}
use Rattle.mt_base.specs.Writing.{joined}
use Rattle.carrier.specs.Layout.{Telling, Carried}
use Rattle.link_machine.specs.WireLaw.{IsWire, bytes_of, numbers_of}
use Rattle.udp2_packets.specs.Layout.{fields, finished}
use Rattle.udp2_packets.proofs.WriterLemmas.{spelled_is}
use Rattle.udp2_core.specs.SecondLayout.{body_of, made_of, second_wire, telling_where}
use Rattle.udp2_core.proofs.IsLayout.{is_layout}
use Rattle.udp2_core.proofs.Sizes.{short_enough}

-- a datagram is its head and the part's bytes, finished
spells : (telling : Telling) (tells : Bool) (floor : Option ℕ) (load : Option Carried)
    → second_wire.spell (record { telling = telling; tells = tells; floor = floor; load = load })
    ≡ second_wire.finished (second_wire.head telling tells floor (option_map numbers_of load) ++ bytes_of load)
spells telling tells floor None =
    let p = made_of (telling_where tells telling) floor (body_of None) in
    spelled_is p ∙ sym (ap (finished 0) (append-nil (joined (fields p) ++ [])))
spells telling tells floor (Some c) =
    let p = made_of (telling_where tells telling) floor (body_of (Some c)) in
    spelled_is p
    ∙ sym (ap (λ front. finished 0 (front ++ c.bytes)) (append-nil (joined (fields p))))

pub second_is_wire : IsWire second_wire
second_is_wire = record {
  lawful = λ wait delay own peer some_own some_peer. is_layout wait delay own peer some_own some_peer;
  short = λ wait delay own peer r above tells floor load is. short_enough wait delay own peer r above tells floor load is;
  wide = omega arith;
  spells = spells;
}
