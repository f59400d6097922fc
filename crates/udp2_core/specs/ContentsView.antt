-- What the code's values show and tell.
use Rattle.std.specs.Prelude.{◌<◌, ◌≤◌, ◌^◌, length}
use Rattle.mt_windows.specs.declared.limits.TheConstants.{DATAGRAM}
use Rattle.link_machine.specs.declared.told.Told.{Told}
use Rattle.link_machine.specs.declared.told.Told.TheVariants as code
use Rattle.udp2_packets.specs.Value.{Body, NoBody, DataBody, DummyBody}

-- it tells nothing, or of some numbers up to one, or by coded bytes from one on; numbers are shown in
-- 16 bits
abbrev pub CanTell : Told → Type 0
CanTell code.Nothing = Unit {0}
CanTell (code.Last named count) = (named < 2 ^ 16) × (1 ≤ count)
CanTell (code.Upto named bytes) = ⊥
CanTell (code.From named bytes) = (named < 2 ^ 16) × (length bytes.now < 2 ^ 7)

-- the part that such a body carries is no longer than a datagram
abbrev pub BodyFits : Body → Type 0
BodyFits NoBody = Unit {0}
BodyFits (DataBody number part bytes) = length bytes ≤ DATAGRAM
BodyFits (DummyBody number rest) = Unit {0}
