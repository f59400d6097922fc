-- The law that the traces of a reliable link keep.
use Rattle.std.specs.Prelude.{◌≡◌, ℕ, ◌<◌, ◌≤◌, List, length, All, take, drop, if◌then◌else◌, Option, Some, None}
use Rattle.mt_base.specs.Trace.{Trace, Start, ◌▷◌}
use Rattle.mt_windows.specs.declared.receive.Accept.{Accept}
use Rattle.mt_windows.specs.declared.receive.Accept.TheVariants.{New, Again, Beyond}
use Rattle.mt_windows.specs.Arrived.{passed}
use Rattle.mt_windows.specs.Sending.{queued}
use Rattle.carrier.specs.declared.state.Took.{Took}
use Rattle.carrier.specs.declared.state.Took.TheVariants.{Used, Ignored}
use Rattle.carrier.specs.declared.state.Reason.TheVariants as reason
use Rattle.carrier.specs.Entries.{Entry, Gave, In, Polled, Pulled, Owed, Posted, Next, pulled}
use Rattle.carrier.specs.Layout.{Layout, Received, Reading, Refuses, Shows, Load, Empty, Carries, Dummy, Correction}
use Rattle.carrier.specs.Receiving.{Arrival, arrival, verdict_on, transmission_read, reading, received, accepted}
use Rattle.carrier.specs.Sending.{acts, is_closed}
use Rattle.carrier.specs.Due.{due}

-- ---- the answer to a datagram

abbrev pub answer_by : Accept → Took
answer_by New = Used
answer_by Again = Used
answer_by (Beyond limit) = Ignored (reason.Beyond limit)

abbrev pub answer_to : Layout → Received → ℕ → Option Arrival → Took
answer_to layout r n None = Ignored reason.Unnumbered
answer_to layout r n (Some a) = answer_by (verdict_on layout r n a)

abbrev pub answer_dummy : Option ℕ → Took
answer_dummy None = Ignored reason.Unnumbered
answer_dummy (Some n) = Used

-- by what the datagram carries, whatever else it shows
abbrev pub answer_load : Layout → Received → ℕ → Load → Took
answer_load layout r n Empty = Used
answer_load layout r n (Carries part transmission bytes) =
    answer_to layout r n (arrival layout r n (Carries part transmission bytes))
answer_load layout r n (Dummy transmission) = answer_dummy (transmission_read layout r transmission)
answer_load layout r n Correction = Ignored reason.FecDropped

abbrev pub answer_reading : Layout → Received → ℕ → Reading → Took
answer_reading layout r n (Refuses why) = Ignored why
answer_reading layout r n (Shows shown) = answer_load layout r n shown.load

-- the answer after this trace
abbrev pub answered : Layout → Trace Entry → List ℕ → Took
answered layout t datagram =
    if is_closed layout t then Ignored reason.LinkClosed
    else answer_reading layout (received layout t) (length (pulled t)) (reading layout datagram)

-- ---- the law

abbrev pub IsBytes : List ℕ → Type 0
IsBytes bytes = All (λ b. b < 256) bytes

-- Each datagram is answered so; each poll sends what is due; each pull gives the next bytes in
-- order, as many as there are and fit; and what is given are bytes that stay within the queue.
abbrev pub Faithful : Layout → Trace Entry → Type 0
Faithful layout Start = Unit {0}
Faithful layout (t ▷ Gave bytes) =
    (queued layout.bounds.windows (acts layout (t ▷ Gave bytes)) ≤ layout.bounds.windows.queue) × IsBytes bytes × Faithful layout t
Faithful layout (t ▷ In now datagram took) = (took ≡ answered layout t datagram) × Faithful layout t
Faithful layout (t ▷ Polled now out) = (out ≡ due layout t now) × Faithful layout t
Faithful layout (t ▷ Pulled room bytes) =
    (bytes ≡ take room (drop (length (pulled t)) (passed (accepted layout t)))) × Faithful layout t
Faithful layout (t ▷ Owed count) = Faithful layout t
-- a reliable link has no other calls
Faithful layout (t ▷ Posted bytes) = ⊥
Faithful layout (t ▷ Next bytes) = ⊥
