-- What a link sent and was told, in the words of its send window, and its timer.
use Rattle.std.specs.Prelude.{ℕ, zero, suc, ◌+◌, ◌-◌, ◌*◌, ◌^◌, Bool, not, ◌==◌, ◌&&◌, nat_le, nat_lt, min, max, if◌then◌else◌, Option, Some, None, is_some}
use Rattle.mt_base.specs.Trace.{Trace, Start, ◌▷◌}
use Rattle.mt_base.specs.Nearness.{nearest}
use Rattle.mt_windows.specs.Sending.{Act, Gave as GaveBytes, Cut, Resent, ToldPart, ToldTransmission, cuts, transmissions, lowest, lowest_or_next, least, is_open, settled}
use Rattle.carrier.specs.Entries.{Entry, Gave, In, Polled, moment}
use Rattle.carrier.specs.Layout.{Layout, Reading, Refuses, Shows, Shown, Load, Empty, Carries, Dummy, Correction, Telling, read_near, named_in, with_named, tells}
use Rattle.carrier.specs.Receiving.{effect}

-- ---- what a telling does

-- each of the parts from a place on, so many of them, that is told
abbrev pub tell_parts : (ℕ → Bool) → ℕ → ℕ → Trace Act → Trace Act
tell_parts told from zero s = s
tell_parts told from (suc n) s =
    if told (from + n) then tell_parts told from n s ▷ ToldPart (from + n) else tell_parts told from n s

-- the same of transmissions
abbrev pub tell_transmissions : (ℕ → Bool) → ℕ → ℕ → Trace Act → Trace Act
tell_transmissions told from zero s = s
tell_transmissions told from (suc n) s =
    if told (from + n) then tell_transmissions told from n s ▷ ToldTransmission (from + n)
    else tell_transmissions told from n s

-- Each part from the lowest unsettled one on, or each transmission among the last ones, whose number
-- is told, the lowest first. What was not sent yet is not told by it.
abbrev pub tell_all : Layout → Trace Act → (ℕ → Bool) → Trace Act
tell_all layout s told =
    if layout.tells_parts then
    (let from = lowest_or_next layout.bounds.windows s in
    tell_parts (λ p. told (layout.own + p)) from (cuts s - from) s)
    else
    (let from = transmissions s - layout.bounds.windows.span in
    tell_transmissions (λ j. told (layout.own + j)) from (transmissions s - from) s)

-- the number that a number told is read against: that of the last part cut, or of the last
-- transmission made
abbrev pub told_reference : Layout → Trace Act → ℕ
told_reference layout s =
    layout.own + (if layout.tells_parts then cuts s else transmissions s) - 1

-- a telling whose named number can't be read has no effect
abbrev pub hears_named : Layout → Trace Act → Telling → Option ℕ → Trace Act
hears_named layout s telling None = s
hears_named layout s telling (Some n) = tell_all layout s (tells (with_named n telling))

abbrev pub hears_telling : Layout → Trace Act → Option Telling → Trace Act
hears_telling layout s None = s
hears_telling layout s (Some telling) =
    hears_named layout s telling (read_near layout (told_reference layout s) (named_in telling))

abbrev pub hears : Layout → Trace Act → Option Shown → Trace Act
hears layout s None = s
hears layout s (Some shown) = hears_telling layout s shown.telling

-- ---- what a datagram of this end sends

-- A part that is sent is new where it shows the next number; else it was sent before.
abbrev pub sends_part : Layout → Trace Act → Option ℕ → Trace Act
sends_part layout s None = s
sends_part layout s (Some n) =
    if n == layout.own + cuts s then s ▷ Cut else s ▷ Resent (n - layout.own)

abbrev pub sends_load : Layout → Trace Act → Load → Trace Act
sends_load layout s Empty = s
sends_load layout s (Carries part transmission bytes) =
    sends_part layout s (nearest layout.modulus (layout.own + cuts s) part)
sends_load layout s (Dummy transmission) = s
sends_load layout s Correction = s

abbrev pub sends : Layout → Trace Act → Reading → Trace Act
sends layout s (Refuses why) = s
sends layout s (Shows shown) = sends_load layout s shown.load

-- ---- of a trace

-- what the send window gave, sent and was told
abbrev pub acts : Layout → Trace Entry → Trace Act
acts layout Start = Start
acts layout (t ▷ Gave bytes) = acts layout t ▷ GaveBytes bytes
acts layout (t ▷ In now datagram took) = hears layout (acts layout t) (effect layout took datagram)
acts layout (t ▷ Polled now (Some datagram)) = sends layout (acts layout t) (layout.read datagram)
acts layout (t ▷ e) = acts layout t

-- ---- the timer

-- the moment from which on it runs, and the expiries in a row
pub record Timer : Type 0 where
  pub start : ℕ
  pub expiries : ℕ

-- it runs while a part is unsettled
abbrev pub is_waiting : Layout → Trace Act → Bool
is_waiting layout s = is_some (lowest layout.bounds.windows s)

-- a part that was unsettled is settled afterwards
abbrev pub settles : Layout → Trace Act → Trace Act → Bool
settles layout s after =
    is_some (least (λ p. is_open layout.bounds.windows s p && settled layout.bounds.windows after p) (cuts s))

-- the moment of its next expiry: each expiry in a row doubles its wait, four times at most
abbrev pub expiry : Layout → Timer → ℕ
expiry layout timer = timer.start + layout.wait * 2 ^ min timer.expiries 4

-- more expiries in a row than a link survives
abbrev pub is_over : Layout → Timer → Bool
is_over layout timer = nat_lt layout.bounds.expiries timer.expiries

-- a poll at this moment is an expiry
abbrev pub expires : Layout → Timer → Trace Act → ℕ → Bool
expires layout timer s at = not (is_over layout timer) && (is_waiting layout s && nat_le (expiry layout timer) at)

-- the timer after a datagram that came, or was sent, at a moment
abbrev pub timer_told : Layout → Timer → Trace Act → Trace Act → ℕ → Timer
timer_told layout timer s after at =
    if settles layout s after then record { start = at; expiries = 0 } else timer

abbrev pub timer_polled : Layout → Timer → Trace Act → Trace Act → ℕ → Timer
timer_polled layout timer s after at =
    if expires layout timer s at then record { start = at; expiries = timer.expiries + 1 }
    else (if not (is_waiting layout s) && is_waiting layout after
    then record { start = at; expiries = timer.expiries } else timer)

-- The timer. It starts anew where it begins to run, at each expiry, and where a part is settled; a
-- settled part ends the row of expiries.
abbrev pub timer : Layout → Trace Entry → Timer
timer layout Start = record { start = 0; expiries = 0 }
timer layout (t ▷ In now datagram took) =
    timer_told layout (timer layout t) (acts layout t) (acts layout (t ▷ In now datagram took)) (max (moment t) now)
timer layout (t ▷ Polled now out) =
    timer_polled layout (timer layout t) (acts layout t) (acts layout (t ▷ Polled now out)) (max (moment t) now)
timer layout (t ▷ e) = timer layout t

-- the link is closed
abbrev pub is_closed : Layout → Trace Entry → Bool
is_closed layout t = is_over layout (timer layout t)
