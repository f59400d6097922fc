-- One part of two bytes between two ends, byte by byte. In each datagram the first byte and the
-- eighth have changed places.
use Rattle.std.specs.Prelude.{ℕ, List, [], ◌∷◌, Some}
use Rattle.mt_base.specs.Trace.{Trace, Start, ◌▷◌}
use Rattle.carrier.specs.declared.state.Took.TheVariants.{Used}
use Rattle.carrier.specs.Entries.{Entry, Gave, In, Polled}

-- Behind the prefix byte 0xe0 the flags, with the power of two that the window is, the transmission 1
-- and the part 1.
abbrev pub part : List ℕ
part = 0x41 ∷ 0x04 ∷ 0x60 ∷ 0x01 ∷ 0x00 ∷ 0x01 ∷ 0x00 ∷ 0xe0 ∷ 0x42 ∷ []

-- the same part under the transmission 2, behind the floor 1
abbrev pub part_again : List ℕ
part_again =
    0x01 ∷ 0x14 ∷ 0x60 ∷ 0x01 ∷ 0x00 ∷ 0x02 ∷ 0x00 ∷ 0xe0 ∷ 0x00 ∷ 0x41 ∷ 0x42 ∷ []

-- an acknowledgement of the transmission 1, without times, and of none below it
abbrev pub telling : List ℕ
telling = 0x00 ∷ 0x01 ∷ 0x60 ∷ 0x01 ∷ 0x00 ∷ 0x00 ∷ 0x00 ∷ 0xe0 ∷ 0x00 ∷ 0x00 ∷ []

-- the bytes were given
abbrev pub given : Trace Entry
given = Start ▷ Gave (0x41 ∷ 0x42 ∷ [])

-- at the other end they came at the moment 10
abbrev pub came : Trace Entry
came = Start ▷ In 10 part Used

-- they were sent at the moment 0
abbrev pub sent : Trace Entry
sent = given ▷ Polled 0 (Some part)

-- and were told at the moment 200
abbrev pub told : Trace Entry
told = sent ▷ In 200 telling Used
