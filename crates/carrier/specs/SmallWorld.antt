-- A small layout, and two ends with it that meet what the law of two joined links asks of them: once
-- where parts are told, and once where transmissions are.
use Rattle.std.specs.Prelude.{ℕ, ◌+◌, ◌-◌, ◌%◌, ◌==◌, Bool, true, false, List, [], ◌∷◌, ◌++◌, if◌then◌else◌, Option, Some, None, unwrap_or}
use Rattle.mt_base.specs.declared.kinds.Role.{Role}
use Rattle.mt_base.specs.declared.kinds.Role.TheVariants.{Server, Client}
use Rattle.mt_base.specs.Trace.{Trace, Start, ◌▷◌}
use Rattle.mt_windows.specs.Arrived.{greatest_part, has_part}
use Rattle.mt_windows.specs.Noted.{greatest_of, is_noted}
use Rattle.carrier.specs.declared.state.Reason.TheVariants as reason
use Rattle.carrier.specs.declared.state.Took.TheVariants.{Used}
use Rattle.carrier.specs.Entries.{Gave, In, Polled, Pulled}
use Rattle.carrier.specs.Layout.{Layout, Received, Reading, Refuses, Shows, Load, Empty, Carries, Telling, Upto, From, Datagram, Carried, named_in}
use Rattle.carrier.specs.Joined.{Step, At}

-- ---- a datagram: a byte for each thing that it shows, and the bytes of its part

abbrev pub bit : Bool → ℕ
bit b = if b then 1 else 0

-- the load, by its mark
abbrev pub load_by : ℕ → ℕ → ℕ → List ℕ → Load
load_by mark part transmission bytes = if mark == 1 then Carries part transmission bytes else Empty

-- two flags tell of parts up to the number that is named, or of transmissions from it on
abbrev pub two_told : Bool → ℕ → Bool → Bool → Telling
two_told true named before last = Upto named (before ∷ last ∷ [])
two_told false named before last = From named (before ∷ last ∷ [])

abbrev pub telling_by : Bool → ℕ → ℕ → ℕ → ℕ → Option Telling
telling_by tells_parts mark named before last =
    if mark == 1 then Some (two_told tells_parts named (before == 1) (last == 1)) else None

abbrev pub floor_by : ℕ → ℕ → Option ℕ
floor_by mark floor = if mark == 1 then Some floor else None

abbrev pub shows_small : Bool → List ℕ → Reading
shows_small tells_parts (telling ∷ named ∷ before ∷ last ∷ floor ∷ low ∷ load ∷ part ∷ transmission ∷ bytes) =
    Shows (record {
      window = Some 2;
      telling = telling_by tells_parts telling named before last;
      floor = floor_by floor low;
      load = load_by load part transmission bytes;
    })
shows_small tells_parts other = Refuses reason.Unnumbered

-- flags say of two numbers, up to the last one that was received, whether they were; where
-- transmissions are told, the first of them is named
abbrev pub told_small : Bool → ℕ → Received → Telling
told_small true first r =
    let last = unwrap_or (greatest_part first r.parts) (first - 1) in
    two_told true last (has_part first r.parts (last - 1)) (has_part first r.parts last)
told_small false first r =
    let last = unwrap_or (greatest_of r.seen) (first - 1) in
    two_told false (last - 1) (is_noted (last - 1) r.seen) (is_noted (last - 1 + 1) r.seen)

abbrev pub flags_small : Telling → List ℕ
flags_small (Upto named (before ∷ last ∷ flags)) = bit before ∷ bit last ∷ []
flags_small (From named (before ∷ last ∷ flags)) = bit before ∷ bit last ∷ []
flags_small telling = 0 ∷ 0 ∷ []

abbrev pub floor_small : ℕ → Option ℕ → List ℕ
floor_small modulus None = 0 ∷ 0 ∷ []
floor_small modulus (Some floor) = 1 ∷ floor % modulus ∷ []

abbrev pub load_small : ℕ → Option Carried → List ℕ
load_small modulus None = 0 ∷ 0 ∷ 0 ∷ []
load_small modulus (Some c) = 1 ∷ c.part % modulus ∷ c.transmission % modulus ∷ c.bytes

abbrev pub spelled_small : ℕ → Datagram → List ℕ
spelled_small modulus d =
    bit d.tells
    ∷ named_in d.telling % modulus
    ∷ flags_small d.telling ++ floor_small modulus d.floor ++ load_small modulus d.load

-- numbers are shown modulo 8 where parts are told, else modulo 16; a window has two parts, and a part
-- has one byte
abbrev pub small_modulus : Bool → ℕ
small_modulus tells_parts = if tells_parts then 8 else 16

abbrev pub small : Bool → ℕ → ℕ → Layout
small tells_parts own peer = record {
  bounds = record {
    windows = record { window = 2; span = 4; part = 1; queue = 8; numbers = 1000 };
    datagram = 10;
    with_telling = 10;
    expiries = 3;
    tell = if tells_parts then 0 else 1;
  };
  own = own;
  peer = peer;
  modulus = small_modulus tells_parts;
  tells_parts = tells_parts;
  wait = 100;
  delay = 10;
  read = shows_small tells_parts;
  told = λ r floor. told_small tells_parts peer r;
  spell = spelled_small (small_modulus tells_parts);
}

-- ---- two ends that tell parts

-- the server's parts are numbered from 7 on, and the client's from 3 on
abbrev pub small_layouts : Role → Layout
small_layouts Server = small true 7 3
small_layouts Client = small true 3 7

abbrev pub first_part : List ℕ
first_part = 0 ∷ 2 ∷ 0 ∷ 0 ∷ 0 ∷ 0 ∷ 1 ∷ 7 ∷ 7 ∷ 10 ∷ []

abbrev pub second_part : List ℕ
second_part = 0 ∷ 2 ∷ 0 ∷ 0 ∷ 0 ∷ 0 ∷ 1 ∷ 0 ∷ 0 ∷ 20 ∷ []

abbrev pub both_told : List ℕ
both_told = 1 ∷ 0 ∷ 1 ∷ 1 ∷ 0 ∷ 0 ∷ 0 ∷ 0 ∷ 0 ∷ []

abbrev pub third_part : List ℕ
third_part = 0 ∷ 2 ∷ 0 ∷ 0 ∷ 0 ∷ 0 ∷ 1 ∷ 1 ∷ 1 ∷ 30 ∷ []

abbrev pub third_told : List ℕ
third_told = 1 ∷ 1 ∷ 1 ∷ 1 ∷ 0 ∷ 0 ∷ 0 ∷ 0 ∷ 0 ∷ []

-- the third part, sent again: its floor is the part itself
abbrev pub third_again : List ℕ
third_again = 0 ∷ 2 ∷ 0 ∷ 0 ∷ 1 ∷ 1 ∷ 1 ∷ 1 ∷ 2 ∷ 30 ∷ []

-- The server sends three parts, whose numbers wrap. The first two come in the other order, the third
-- comes twice, and what is told of it is lost, so that it is sent again.
abbrev pub small_world : Trace Step
small_world =
    Start
    ▷ At Server (Gave (10 ∷ 20 ∷ 30 ∷ []))
    ▷ At Server (Polled 0 (Some first_part))
    ▷ At Server (Polled 0 (Some second_part))
    ▷ At Client (In 1 second_part Used)
    ▷ At Client (In 1 first_part Used)
    ▷ At Client (Polled 1 (Some both_told))
    ▷ At Client (Pulled 5 (10 ∷ 20 ∷ []))
    ▷ At Server (In 2 both_told Used)
    ▷ At Server (Polled 2 (Some third_part))
    ▷ At Client (In 3 third_part Used)
    ▷ At Client (In 3 third_part Used)
    ▷ At Client (Pulled 5 (30 ∷ []))
    ▷ At Client (Polled 13 (Some third_told))
    ▷ At Server (Polled 102 (Some third_again))
    ▷ At Client (In 103 third_again Used)

-- ---- two ends that tell transmissions

-- the server's parts and transmissions are numbered from 15 on, and the client's from 3 on
abbrev pub seen_layouts : Role → Layout
seen_layouts Server = small false 15 3
seen_layouts Client = small false 3 15

abbrev pub first_shown : List ℕ
first_shown = 0 ∷ 1 ∷ 0 ∷ 0 ∷ 0 ∷ 0 ∷ 1 ∷ 15 ∷ 15 ∷ 10 ∷ []

abbrev pub second_shown : List ℕ
second_shown = 0 ∷ 1 ∷ 0 ∷ 0 ∷ 0 ∷ 0 ∷ 1 ∷ 0 ∷ 0 ∷ 20 ∷ []

-- the transmissions 15 and 16, from the first one on
abbrev pub both_seen : List ℕ
both_seen = 1 ∷ 15 ∷ 1 ∷ 1 ∷ 0 ∷ 0 ∷ 0 ∷ 0 ∷ 0 ∷ []

abbrev pub third_shown : List ℕ
third_shown = 0 ∷ 1 ∷ 0 ∷ 0 ∷ 0 ∷ 0 ∷ 1 ∷ 1 ∷ 1 ∷ 30 ∷ []

abbrev pub third_seen : List ℕ
third_seen = 1 ∷ 0 ∷ 1 ∷ 1 ∷ 0 ∷ 0 ∷ 0 ∷ 0 ∷ 0 ∷ []

-- the third part, sent again as transmission 18: its floor is its first transmission
abbrev pub third_twice : List ℕ
third_twice = 0 ∷ 1 ∷ 0 ∷ 0 ∷ 1 ∷ 1 ∷ 1 ∷ 1 ∷ 2 ∷ 30 ∷ []

-- the transmissions 17 and 18
abbrev pub last_seen : List ℕ
last_seen = 1 ∷ 1 ∷ 1 ∷ 1 ∷ 0 ∷ 0 ∷ 0 ∷ 0 ∷ 0 ∷ []

-- The server sends three parts, whose numbers wrap as those of their transmissions do. The first two
-- come in the other order, the third comes twice, and what is told of it is lost, so that it is sent
-- again; that is told, and settles it.
abbrev pub seen_world : Trace Step
seen_world =
    Start
    ▷ At Server (Gave (10 ∷ 20 ∷ 30 ∷ []))
    ▷ At Server (Polled 0 (Some first_shown))
    ▷ At Server (Polled 0 (Some second_shown))
    ▷ At Client (In 1 second_shown Used)
    ▷ At Client (In 1 first_shown Used)
    ▷ At Client (Polled 1 (Some both_seen))
    ▷ At Client (Pulled 5 (10 ∷ 20 ∷ []))
    ▷ At Server (In 2 both_seen Used)
    ▷ At Server (Polled 2 (Some third_shown))
    ▷ At Client (In 3 third_shown Used)
    ▷ At Client (In 3 third_shown Used)
    ▷ At Client (Pulled 5 (30 ∷ []))
    ▷ At Client (Polled 13 (Some third_seen))
    ▷ At Server (Polled 102 (Some third_twice))
    ▷ At Client (In 103 third_twice Used)
    ▷ At Client (Polled 113 (Some last_seen))
    ▷ At Server (In 114 last_seen Used)
