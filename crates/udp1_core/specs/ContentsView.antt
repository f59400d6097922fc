-- What the code's values show and tell.
use Rattle.std.specs.Prelude.{◌<◌, ◌≤◌, ◌^◌, length, All, List, [], ℕ, Option, Some, None}
use Rattle.ack_vector.specs.Elements.{IsGood}
use Rattle.mt_windows.specs.declared.limits.TheConstants.{DATAGRAM}
use Rattle.link_machine.specs.declared.numbers.Numbers.{Numbers}
use Rattle.link_machine.specs.declared.told.Told.{Told}
use Rattle.link_machine.specs.declared.told.Told.TheVariants as code
use Rattle.udp1_packets.specs.Value.{Body, SynBody, DataBody, FecBody, BareBody}
use Rattle.udp1_core.specs.FirstLayout.{low}

-- it tells nothing, or by elements up to a number that is shown in 32 bits
abbrev pub CanTell : Told → Type 0
CanTell code.Nothing = Unit {0}
CanTell (code.Last named count) = ⊥
CanTell (code.Upto named bytes) = (named < 2 ^ 32) × All IsGood bytes.now
CanTell (code.From named bytes) = ⊥

-- the part that such a body carries is no longer than a datagram
abbrev pub BodyFits : Body → Type 0
BodyFits (SynBody syn) = Unit {0}
BodyFits (DataBody vector aoa coded start bytes) = length bytes ≤ DATAGRAM
BodyFits (FecBody vector aoa coded start range index bytes) = Unit {0}
BodyFits (BareBody vector aoa rest) = Unit {0}

-- the body of a packet up to its data
abbrev pub head_body : Option (List ℕ) → Option ℕ → Option Numbers → Body
head_body vector aoa None = BareBody vector aoa []
head_body vector aoa (Some n) = DataBody vector aoa (low n.transmission) (low n.part) []
