-- What a machine stands for.
use Rattle.std.specs.Prelude.{◌≡◌, ◌<◌, ◌≤◌, ◌^◌, ℕ, ◌+◌, nat_lt, min, List, [], length, take, if◌then◌else◌, Bool, true, Option, Some, None}
use Rattle.mt_base.specs.Trace.{Trace}
use Rattle.mt_windows.specs.Arrived.{passed}
use Rattle.mt_windows.specs.Sending.{Act, cuts, transmissions, piece, next_piece}
use Rattle.mt_windows.specs.SendingView.{limits}
use Rattle.carrier.specs.declared.limits.TheConstants.{EXPIRIES}
use Rattle.carrier.specs.declared.state.LinkState.{LinkState}
use Rattle.carrier.specs.declared.state.LinkState.TheVariants.{Open, Closed}
use Rattle.carrier.specs.Entries.{Entry, moment, pulled}
use Rattle.carrier.specs.Layout.{Layout, Datagram, Carried, Received}
use Rattle.carrier.specs.LayoutLaw.{datagram_of}
use Rattle.carrier.specs.Receiving.{accepted, received, floor, owed, peer_window}
use Rattle.carrier.specs.Sending.{acts, timer}
use Rattle.carrier.specs.Law.{Faithful}
use Rattle.link_machine.specs.declared.numbers.Numbers.{Numbers}
use Rattle.link_machine.specs.Wire.{Wire, layout_of}
use Rattle.link_machine.specs.ReceiverView.{Receiver, Hears}
use Rattle.link_machine.specs.SenderView.{Sender, Speaks}

-- what is kept: the last moment, and the two halves
pub record Machine : Type 0 where
  pub moment : ℕ
  pub sender : Sender
  pub receiver : Receiver

-- what is true of every machine
pub record IsSound (m : Machine) : Type 0 where
  pub moment_bound : m.moment < 2 ^ 62
  pub some_own : 1 ≤ m.sender.config.own
  pub some_peer : 1 ≤ m.receiver.config.peer

-- the layout of its datagrams
abbrev pub layout_at : Wire → Machine → Layout
layout_at wire m =
    layout_of wire m.sender.config.wait m.receiver.config.delay m.sender.config.own m.receiver.config.peer

-- this machine stands for this trace of a link with this layout
pub record StandsIn (layout : Layout) (m : Machine) (t : Trace Entry) : Type 0 where
  -- what is kept
  pub moment_is : m.moment ≡ moment t
  pub sends : Speaks m.sender (acts layout t) (peer_window layout t) (timer layout t)
  pub hears : Hears m.receiver (received layout t) (length (pulled t)) (floor layout t) (owed layout t)
  -- what follows from how it came about
  pub in_order : pulled t ≡ take (length (pulled t)) (passed (accepted layout t))
  pub faithful : Faithful layout t

abbrev pub Stands : Wire → Machine → Trace Entry → Type 0
Stands wire m t = StandsIn (layout_at wire m) m t

-- what the link is
abbrev pub condition_of : Machine → LinkState
condition_of m = if nat_lt EXPIRIES m.sender.timer.expiries then Closed m.sender.timer.expiries else Open

-- ---- a part that is sent

-- a datagram tells what was received where it carries no part, or a telling is owed
abbrev pub tells_with : Option Carried → List ℕ → Bool
tells_with None owed = true
tells_with (Some c) owed = nat_lt 0 (length owed)

abbrev pub tells_beside : Option Numbers → List ℕ → Bool
tells_beside None owed = true
tells_beside (Some n) owed = nat_lt 0 (length owed)

-- the datagram with this floor and this load
abbrev pub datagram_with : Layout → Received → ℕ → List ℕ → Option ℕ → Option Carried → Datagram
datagram_with layout got floor owed above load =
    datagram_of layout got floor (tells_with load owed) above load

-- the tellings owed afterwards
abbrev pub owed_after : List ℕ → List ℕ
owed_after owed = if nat_lt 0 (length owed) then [] else owed

abbrev pub fresh_load : ℕ → Trace Act → Carried
fresh_load own acts = record {
  part = own + cuts acts;
  transmission = own + transmissions acts;
  bytes = next_piece limits acts;
}

abbrev pub again_load : ℕ → ℕ → Trace Act → Carried
again_load own p acts = record {
  part = own + p;
  transmission = own + transmissions acts;
  bytes = piece limits acts p;
}

-- ---- moments

-- the earlier of two moments, where there is one
abbrev pub earlier : Option ℕ → Option ℕ → Option ℕ
earlier None other = other
earlier (Some one) None = Some one
earlier (Some one) (Some other) = Some (min one other)
