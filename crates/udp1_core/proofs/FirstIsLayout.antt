-- The first layout keeps what is asked of a layout.
use Rattle.std.proofs.Common.{ℕ, ◌≤◌, refl, arith}
use Rattle.carrier.specs.LayoutLaw.{IsLayout}
use Rattle.udp1_core.specs.FirstLayout.{first_layout}
use Rattle.udp1_core.proofs.ReadBack.{read_back}
use Rattle.udp1_core.proofs.Sizes.{short_enough}
use Rattle.udp1_core.proofs.Told.{only_accepted}
use Rattle.udp1_core.proofs.Headless

-- the first layout is a layout
pub is_layout : (wait delay own peer : ℕ) → 1 ≤ own → 1 ≤ peer
    → IsLayout (first_layout wait delay own peer)
is_layout wait delay own peer some_own some_peer = record {
  half = 2147483648;
  some_half = omega arith;
  modulus_is = refl;
  some_own = some_own;
  some_peer = some_peer;
  read_back = λ r above tells floor load is.
      read_back wait delay own peer r above tells floor load is;
  fits = λ r above tells floor load is.
      omega (arith, short_enough wait delay own peer r above tells floor load is);
  tiny = λ datagram few. Headless.tiny datagram few;
  named_near = λ r above. omega arith;
  named_within = λ r above low. omega arith;
  received = λ r above n from is. only_accepted peer above r.parts n is;
}
