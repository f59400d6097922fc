-- What the datagrams of a link show, whatever their layout.
use Rattle.std.specs.Prelude.{ℕ, ◌-◌, Bool, false, nat_le, nat_lt, List, reverse, slice_get, if◌then◌else◌, Option, Some, None, unwrap_or}
use Rattle.mt_base.specs.Nearness.{nearest}
use Rattle.mt_windows.specs.Sending.{Limits}
use Rattle.mt_windows.specs.Arrived.{Parts}
use Rattle.carrier.specs.declared.state.Reason.{Reason}

-- ---- what a datagram shows: low parts of numbers

-- Which numbers are told as received: flags for the numbers up to the one that is named, or from it
-- on.
pub data Telling : Type 0 where
  Upto : (named : ℕ) → (flags : List Bool) → Telling
  From : (named : ℕ) → (flags : List Bool) → Telling

-- what a datagram carries
pub data Load : Type 0 where
  -- nothing
  Empty : Load
  -- these bytes of this part, under this transmission
  Carries : (part transmission : ℕ) → (bytes : List ℕ) → Load
  -- a transmission without a part
  Dummy : (transmission : ℕ) → Load
  -- data of forward error correction
  Correction : Load

-- what a datagram shows: the window of its sender, what it tells, the floor below which nothing has
-- to be told any more, and what it carries
pub record Shown : Type 0 where
  pub window : Option ℕ
  pub telling : Option Telling
  pub floor : Option ℕ
  pub load : Load

-- a datagram is refused, or shows something
pub data Reading : Type 0 where
  Refuses : (reason : Reason) → Reading
  Shows : (shown : Shown) → Reading

-- ---- what is sent: full numbers

-- a part that is sent, under a transmission
pub record Carried : Type 0 where
  pub part : ℕ
  pub transmission : ℕ
  pub bytes : List ℕ

-- A datagram with the full numbers that it means. `telling` says what was received so far; only
-- where `tells` is so are its flags a part of the datagram.
pub record Datagram : Type 0 where
  pub telling : Telling
  pub tells : Bool
  pub floor : Option ℕ
  pub load : Option Carried

-- ---- a layout

-- what was received: the parts, by their place, and the transmissions that were seen, the latest
-- first
pub record Received : Type 0 where
  pub parts : Parts
  pub seen : List ℕ

-- The bounds of a link: those of its windows; the bytes of a datagram; the bytes of a datagram that
-- carries both a part and what was received; how many expiries in a row a link survives; and how far
-- below the last number received the number lies, at most, that a telling names.
pub record Bounds : Type 0 where
  pub windows : Limits
  pub datagram : ℕ
  pub with_telling : ℕ
  pub expiries : ℕ
  pub tell : ℕ

-- The layout of a link's datagrams at one end: the bounds; the first number of this end's parts and
-- transmissions, and of the other end's; how many low parts a number has; whether parts are told, or
-- else transmissions; the shortest wait of the timer, and how long one telling may be owed, in
-- milliseconds; what a datagram shows; what is told of what was received above a floor; and the
-- bytes that spell a datagram.
pub record Layout : Type 0 where
  pub bounds : Bounds
  pub own : ℕ
  pub peer : ℕ
  pub modulus : ℕ
  pub tells_parts : Bool
  pub wait : ℕ
  pub delay : ℕ
  pub read : List ℕ → Reading
  pub told : Received → ℕ → Telling
  pub spell : Datagram → List ℕ

-- ---- numbers read

-- the numbers are below the one that none has
abbrev pub bounded : ℕ → Option ℕ → Option ℕ
bounded numbers None = None
bounded numbers (Some n) = if nat_lt n numbers then Some n else None

-- the number with this low part that is near to a reference
abbrev pub read_near : Layout → ℕ → ℕ → Option ℕ
read_near layout reference low = bounded layout.bounds.windows.numbers (nearest layout.modulus reference low)

-- the number that a telling names
abbrev pub named_in : Telling → ℕ
named_in (Upto named flags) = named
named_in (From named flags) = named

-- the telling with another number named
abbrev pub with_named : ℕ → Telling → Telling
with_named n (Upto named flags) = Upto n flags
with_named n (From named flags) = From n flags

-- whether a number is told as received
abbrev pub tells : Telling → ℕ → Bool
tells (Upto named flags) n = unwrap_or (if nat_le n named then slice_get (reverse flags) (named - n) else None) false
tells (From named flags) n = unwrap_or (if nat_le named n then slice_get flags (n - named) else None) false
