-- What is particular to the datagrams of one layout, and the layout of a link that has them.
use Rattle.std.specs.Prelude.{ℕ, Bool, true, List, replicate, Option, Some, None}
use Rattle.mt_windows.specs.SendingView.{limits}
use Rattle.mt_windows.specs.declared.limits.TheConstants.{DATAGRAM}
use Rattle.carrier.specs.declared.limits.TheConstants.{EXPIRIES, WITH_TELLING}
use Rattle.carrier.specs.Layout.{Layout, Bounds, Received, Reading, Telling, Upto, From, Datagram}
use Rattle.link_machine.specs.declared.numbers.Numbers.{Numbers}
use Rattle.link_machine.specs.declared.told.Told.{Told}
use Rattle.link_machine.specs.declared.told.Told.TheVariants as code

-- whether parts are told, or else transmissions; how many low parts a number has; what a datagram
-- shows; what is told of what was received of a first number on, above a floor; how a datagram is
-- spelled; what the bytes of a telling say; and how far below the last number received the number
-- lies, at most, that a telling names
pub record Wire : Type 0 where
  pub tells_parts : Bool
  pub tell : ℕ
  pub modulus : ℕ
  pub read : List ℕ → Reading
  pub told : ℕ → Received → ℕ → Telling
  pub spell : Datagram → List ℕ
  pub flags : List ℕ → List Bool
  -- the text of a datagram up to the bytes of its part, and what is done to the whole text at the end
  pub head : Telling → Bool → Option ℕ → Option Numbers → List ℕ
  pub finished : List ℕ → List ℕ

abbrev pub bounds : ℕ → Bounds
bounds tell = record {
  windows = limits;
  datagram = DATAGRAM;
  with_telling = WITH_TELLING;
  expiries = EXPIRIES;
  tell = tell;
}

-- the layout at an end with this shortest wait of the timer, this delay of a telling, and these first
-- numbers
abbrev pub layout_of : Wire → ℕ → ℕ → ℕ → ℕ → Layout
layout_of wire wait delay own peer = record {
  bounds = bounds wire.tell;
  own = own;
  peer = peer;
  modulus = wire.modulus;
  tells_parts = wire.tells_parts;
  wait = wait;
  delay = delay;
  read = wire.read;
  told = wire.told peer;
  spell = wire.spell;
}

-- what is told
abbrev pub telling_in : (List ℕ → List Bool) → Told → Option Telling
telling_in flags code.Nothing = None
telling_in flags (code.Last named count) = Some (Upto named (replicate count true))
telling_in flags (code.Upto named bytes) = Some (Upto named (flags bytes.now))
telling_in flags (code.From named bytes) = Some (From named (flags bytes.now))
