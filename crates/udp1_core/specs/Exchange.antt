-- One part of two bytes between two ends, byte by byte.
use Rattle.std.specs.Prelude.{ℕ, List, [], ◌∷◌, Some}
use Rattle.mt_base.specs.Trace.{Trace, Start, ◌▷◌}
use Rattle.carrier.specs.declared.state.Took.TheVariants.{Used}
use Rattle.carrier.specs.Entries.{Entry, Gave, In, Polled}
use Rattle.carrier.specs.Layout.{Layout}
use Rattle.udp1_core.specs.FirstLayout.{first_layout}

-- Both ends number their parts from 2 on. The timer waits for 500 milliseconds, and one telling may
-- be owed for 200.
abbrev pub end : Layout
end = first_layout 500 200 2 2

-- The part 2 under the transmission 2, behind the last number received, the window and the flags.
abbrev pub part : List ℕ
part =
    0x00 ∷ 0x00 ∷ 0x00 ∷ 0x01 ∷ 0x00 ∷ 0x40 ∷ 0x00 ∷ 0x08
    ∷ 0x00 ∷ 0x00 ∷ 0x00 ∷ 0x02 ∷ 0x00 ∷ 0x00 ∷ 0x00 ∷ 0x02 ∷ 0x41 ∷ 0x42 ∷ []

-- the same part under the transmission 3, behind the floor 2
abbrev pub part_again : List ℕ
part_again =
    0x00 ∷ 0x00 ∷ 0x00 ∷ 0x01 ∷ 0x00 ∷ 0x40 ∷ 0x01 ∷ 0x08 ∷ 0x00 ∷ 0x00 ∷ 0x00 ∷ 0x02
    ∷ 0x00 ∷ 0x00 ∷ 0x00 ∷ 0x03 ∷ 0x00 ∷ 0x00 ∷ 0x00 ∷ 0x02 ∷ 0x41 ∷ 0x42 ∷ []

-- A vector of one element, which says that one number up to 2 was received, filled up to four bytes.
abbrev pub telling : List ℕ
telling =
    0x00 ∷ 0x00 ∷ 0x00 ∷ 0x02 ∷ 0x00 ∷ 0x40 ∷ 0x00 ∷ 0x04 ∷ 0x00 ∷ 0x01 ∷ 0x01 ∷ 0x00 ∷ []

-- the bytes were given
abbrev pub given : Trace Entry
given = Start ▷ Gave (0x41 ∷ 0x42 ∷ [])

-- and sent at the moment 0
abbrev pub sent : Trace Entry
sent = given ▷ Polled 0 (Some part)

-- at the other end they came at the moment 10
abbrev pub came : Trace Entry
came = Start ▷ In 10 part Used

-- and were told at the moment 300
abbrev pub told : Trace Entry
told = sent ▷ In 300 telling Used
