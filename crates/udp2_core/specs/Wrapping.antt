-- Two ends whose first numbers are free, and whose numbers of 16 bits wrap, byte by byte. In each
-- datagram the first byte and the eighth have changed places.
use Rattle.std.specs.Prelude.{ℕ, List, [], ◌∷◌, Some}
use Rattle.mt_base.specs.declared.kinds.Role.{Role}
use Rattle.mt_base.specs.declared.kinds.Role.TheVariants.{Server, Client}
use Rattle.mt_base.specs.Trace.{Trace, Start, ◌▷◌}
use Rattle.carrier.specs.declared.state.Took.TheVariants.{Used}
use Rattle.carrier.specs.Entries.{Gave, In, Polled, Pulled}
use Rattle.carrier.specs.Joined.{Step, At}
use Rattle.carrier.specs.Layout.{Layout}
use Rattle.link_machine.specs.Wire.{layout_of}
use Rattle.udp2_core.specs.SecondLayout.{second_wire}

-- the second layout, at an end whose parts and transmissions are numbered from `own` on, and those of
-- the other end from `peer` on
abbrev pub numbered : ℕ → ℕ → Layout
numbered own peer = layout_of second_wire 300 50 own peer

-- The server's are numbered from 65,535 on, the greatest number that 16 bits show, and the client's
-- from 1 on.
abbrev pub wrapping_layouts : Role → Layout
wrapping_layouts Server = numbered 65535 1
wrapping_layouts Client = numbered 1 65535

-- the part 65,535 under the transmission 65,535
abbrev pub first : List ℕ
first = 0x41 ∷ 0x04 ∷ 0x60 ∷ 0xff ∷ 0xff ∷ 0xff ∷ 0xff ∷ 0xe0 ∷ []

-- the part 65,536 under the transmission 65,536, both of which are shown as 0
abbrev pub second : List ℕ
second = 0x42 ∷ 0x04 ∷ 0x60 ∷ 0x00 ∷ 0x00 ∷ 0x00 ∷ 0x00 ∷ 0xe0 ∷ []

-- the part 65,537 under the transmission 65,537, both of which are shown as 1
abbrev pub third : List ℕ
third = 0x43 ∷ 0x04 ∷ 0x60 ∷ 0x01 ∷ 0x00 ∷ 0x01 ∷ 0x00 ∷ 0xe0 ∷ []

-- an acknowledgement of the transmission 65,536 and of the one below it
abbrev pub both_told : List ℕ
both_told = 0x00 ∷ 0x01 ∷ 0x60 ∷ 0x00 ∷ 0x00 ∷ 0x00 ∷ 0x00 ∷ 0xe0 ∷ 0x00 ∷ 0x01 ∷ 0x00 ∷ []

-- the third part under the transmission 65,538, behind the floor 65,537
abbrev pub third_again : List ℕ
third_again = 0x01 ∷ 0x14 ∷ 0x60 ∷ 0x01 ∷ 0x00 ∷ 0x02 ∷ 0x00 ∷ 0xe0 ∷ 0x00 ∷ 0x43 ∷ []

-- a vector from the transmission 65,537 on: it was not seen, and the one behind it was
abbrev pub last_told : List ℕ
last_told = 0xc1 ∷ 0x08 ∷ 0x60 ∷ 0x01 ∷ 0x00 ∷ 0x02 ∷ 0x81 ∷ 0xe0 ∷ []

-- The server sends three parts. The first two come in the other order, and the first one twice; both
-- are told. The third is lost, and sent again; that is told by a vector, and settles it.
abbrev pub wrapping_world : Trace Step
wrapping_world =
    Start
    ▷ At Server (Gave (0x41 ∷ []))
    ▷ At Server (Polled 0 (Some first))
    ▷ At Server (Gave (0x42 ∷ []))
    ▷ At Server (Polled 0 (Some second))
    ▷ At Client (In 10 second Used)
    ▷ At Client (In 10 first Used)
    ▷ At Client (In 10 first Used)
    ▷ At Client (Polled 10 (Some both_told))
    ▷ At Client (Pulled 10 (0x41 ∷ 0x42 ∷ []))
    ▷ At Server (In 20 both_told Used)
    ▷ At Server (Gave (0x43 ∷ []))
    ▷ At Server (Polled 20 (Some third))
    ▷ At Server (Polled 320 (Some third_again))
    ▷ At Client (In 330 third_again Used)
    ▷ At Client (Pulled 10 (0x43 ∷ []))
    ▷ At Client (Polled 380 (Some last_told))
    ▷ At Server (In 390 last_told Used)
