-- The steps of a session: each is one call of a device, of the end, or of both. A step holds what its calls
-- answered; what they were given follows from the steps before.
use Rattle.std.specs.Prelude.{ℕ, ◌+◌, ◌-◌, ◌^◌, List, [], ◌∷◌, ◌++◌, length, drop, min, Bool, true, false, nat_lt, Option, Some, None, if◌then◌else◌}
use Rattle.mt_base.specs.Trace.{Trace, Start, ◌▷◌}
use Rattle.mt_base.specs.declared.kinds.Kind.{Kind}
use Rattle.mt_base.specs.declared.kinds.Kind.TheVariants.{Reliable}
use Rattle.carrier.specs.declared.state.LinkState.{LinkState}
use Rattle.carrier.specs.declared.state.Took.{Took}
use Rattle.mt_endpoint.specs.Acts.{Act}
use Rattle.end_calls.specs.Calls.{Entry, Own, MainIn, MainOut, WireIn, WireOut, Pull, Handed, Came}
use Rattle.mt_outside.specs.Told.{counted}
use Rattle.mt_outside.specs.Streams.{Heard, Bytes, StreamTold, heard, wrote}
use Rattle.mt_outside.specs.Wires.{WireTold, came, left}
use Rattle.mt_session.specs.declared.tally.Tally.{Tally}

-- what an end read as it was given a datagram: as in an entry of its calls
pub record Reading : Type 0 where
  pub load : ℕ
  pub came : Came
  pub pulls : Trace Pull
  pub parts : Trace Handed
  pub lack : Option (Trace Act)

-- how an end found a link as it was polled: as in an entry of its calls
pub record Poll : Type 0 where
  pub is_full : Bool
  pub state : LinkState

abbrev pub wired_in : Kind → ℕ → List ℕ → Took → Reading → Entry
wired_in kind now datagram took reading =
    WireIn kind now datagram took reading.load reading.came reading.pulls reading.parts reading.lack

abbrev pub wired_out : Kind → ℕ → Option (List ℕ) → Poll → Entry
wired_out kind now out poll = WireOut kind now poll.is_full out poll.state

pub data Step : Type 0 where
  -- a call of the end's own, between two turns
  Calls : (act : Act) → Step
  -- a turn begins at this moment
  Begins : (now : ℕ) → Step
  -- the read of the stream, or that none was made
  Reads : (answer : Option Heard) → Step
  -- the end was offered the bytes that wait, and took so many
  Offers : (count load : ℕ) (lack : Option (ℕ × Trace Act)) → Step
  -- the wire gave a datagram, which the end was given
  Comes : (datagram : List ℕ) (took : Took) (reading : Reading) → Step
  -- the wire gave none
  Waits : Step
  -- the end was given an empty datagram
  Pulls : (took : Took) (reading : Reading) → Step
  -- no link is there that could be given one
  Passes : Step
  -- the end gave a datagram, which was sent
  Leaves : (datagram : List ℕ) (poll : Poll) → Step
  -- the end gave a datagram, and the wire failed to send it
  Loses : (datagram : List ℕ) (poll : Poll) → Step
  -- the end gave none
  Rests : (poll : Poll) → Step
  -- no link is there that could be polled
  Skips : Step
  -- the end gave main bytes into this room
  Fills : (room : ℕ) (bytes : List ℕ) → Step
  -- the write to the stream, or that none was made
  Writes : (answer : Option ℕ) → Step

-- the moments at which turns began
abbrev pub moments : Trace Step → List ℕ
moments Start = []
moments (s ▷ Begins now) = moments s ++ now ∷ []
moments (s ▷ step) = moments s

-- the moment of the turn that began last
abbrev pub moment : Trace Step → ℕ
moment Start = 0
moment (s ▷ Begins now) = now
moment (s ▷ step) = moment s

-- the bytes that were read and not taken
abbrev pub kept : Trace Step → List ℕ
kept Start = []
kept (s ▷ Reads (Some (Bytes bytes))) = kept s ++ bytes
kept (s ▷ Offers count load lack) = drop count (kept s)
kept (s ▷ step) = kept s

-- the bytes that the end gave and the stream has not taken
abbrev pub unwritten : Trace Step → List ℕ
unwritten Start = []
unwritten (s ▷ Fills room bytes) = unwritten s ++ bytes
unwritten (s ▷ Writes (Some count)) = drop count (unwritten s)
unwritten (s ▷ step) = unwritten s

-- the calls of the end
abbrev pub entries : Trace Step → Trace Entry
entries Start = Start
entries (s ▷ Calls act) = entries s ▷ Own act
entries (s ▷ Offers count load lack) = entries s ▷ MainIn (kept s) count load lack
entries (s ▷ Comes datagram took reading) = entries s ▷ wired_in Reliable (moment s) datagram took reading
entries (s ▷ Pulls took reading) = entries s ▷ wired_in Reliable (moment s) [] took reading
entries (s ▷ Leaves datagram poll) = entries s ▷ wired_out Reliable (moment s) (Some datagram) poll
entries (s ▷ Loses datagram poll) = entries s ▷ wired_out Reliable (moment s) (Some datagram) poll
entries (s ▷ Rests poll) = entries s ▷ wired_out Reliable (moment s) None poll
entries (s ▷ Fills room bytes) = entries s ▷ MainOut room bytes
entries (s ▷ step) = entries s

-- what a stream tells after the steps, that told this before
abbrev pub stream_after : StreamTold → Trace Step → StreamTold
stream_after first Start = first
stream_after first (s ▷ Reads (Some answer)) = heard answer (stream_after first s)
stream_after first (s ▷ Writes (Some count)) = wrote (unwritten s) count (stream_after first s)
stream_after first (s ▷ step) = stream_after first s

-- what a wire tells after the steps, that told this before
abbrev pub wire_after : WireTold → Trace Step → WireTold
wire_after first Start = first
wire_after first (s ▷ Comes datagram took reading) = came (Some datagram) (wire_after first s)
wire_after first (s ▷ Waits) = came None (wire_after first s)
wire_after first (s ▷ Leaves datagram poll) = left datagram (wire_after first s)
wire_after first (s ▷ step) = wire_after first s

-- a count after so many more; at its greatest value it stands
abbrev pub raised : ℕ → ℕ → ℕ
raised more count = min (count + more) (2 ^ 64 - 1)

-- so many bytes were read
abbrev pub noted_read : ℕ → Tally → Tally
noted_read count tally = if nat_lt 0 count then record tally { read = raised count tally.read; moves = true } else tally

-- a datagram was taken
abbrev pub noted_taken : Tally → Tally
noted_taken tally = record tally { taken = raised 1 tally.taken; moves = true }

-- so many bytes were written
abbrev pub noted_written : ℕ → Tally → Tally
noted_written count tally =
    if nat_lt 0 count then record tally { written = raised count tally.written; moves = true } else tally

-- at the beginning of a turn
abbrev pub begun : Tally → Tally
begun tally = record tally { moves = false }

-- at the end of a turn
abbrev pub ended : Tally → Tally
ended tally = record tally { idle = if tally.moves then 0 else counted tally.idle }

-- How many bytes were read and written, and how many datagrams taken; whether the turn that began last moved
-- something; and the turns in a row, up to now, that moved nothing.
abbrev pub tally : Trace Step → Tally
tally Start = record { read = 0; written = 0; taken = 0; moves = false; idle = 0 }
tally (s ▷ Begins now) = begun (tally s)
tally (s ▷ Reads (Some (Bytes bytes))) = noted_read (length bytes) (tally s)
tally (s ▷ Comes datagram took reading) = noted_taken (tally s)
tally (s ▷ Writes (Some count)) = ended (noted_written count (tally s))
tally (s ▷ Writes None) = ended (tally s)
tally (s ▷ step) = tally s
