-- The second layout keeps what is asked of a layout.
use Rattle.std.proofs.Common.{ℕ, ◌≤◌, refl, arith}
use Rattle.carrier.specs.LayoutLaw.{IsLayout}
use Rattle.link_machine.specs.Wire.{layout_of}
use Rattle.udp2_core.specs.SecondLayout.{second_wire}
use Rattle.udp2_core.proofs.ReadBack.{read_back}
use Rattle.udp2_core.proofs.Sizes
use Rattle.udp2_core.proofs.Sizes.{short_enough}
use Rattle.udp2_core.proofs.Told.{named_near, named_within, only_seen}

-- it is a layout, whatever the numbers and waits
pub is_layout : (wait delay own peer : ℕ) → 1 ≤ own → 1 ≤ peer → IsLayout (layout_of second_wire wait delay own peer)
is_layout wait delay own peer some_own some_peer = record {
  half = 32768;
  some_half = omega arith;
  modulus_is = refl;
  some_own = some_own;
  some_peer = some_peer;
  read_back = λ r above tells floor load is. read_back wait delay own peer r above tells floor load is;
  fits = λ r above tells floor load is. omega (arith, short_enough wait delay own peer r above tells floor load is);
  tiny = λ datagram few. Sizes.tiny datagram few;
  named_near = λ r above. named_near peer above r.seen;
  named_within = λ r above low. named_within peer above r.seen low;
  received = λ r above n from is. only_seen peer above r.seen n some_peer from is;
}
