-- A session over its devices: the lists that they tell, and the calls of the end.
use Rattle.std.specs.Prelude.{◌≡◌, ℕ, List, [], ◌∷◌, ◌++◌, ◌==◌, ◌-◌, ◌^◌, length, take, min, Bool, true, Some, if◌then◌else◌}
use Rattle.mt_base.specs.Trace.{Trace, Start, ◌▷◌}
use Rattle.end_calls.specs.Law.{EndTrace, taken_main, given_main}
use Rattle.mt_outside.specs.Told.{added, counted}
use Rattle.mt_outside.specs.Streams.{Bytes, Nothing, Ended}
use Rattle.mt_session.specs.Live.{First, Seen}
use Rattle.mt_session.specs.Steps.{Step, Reads, Comes, Waits, Leaves, Writes, unwritten, entries}
use Rattle.mt_session.specs.Turns.{InTurns}

-- the bytes read from the stream, and those written to it
abbrev pub bytes_read : Trace Step → List ℕ
bytes_read Start = []
bytes_read (s ▷ Reads (Some (Bytes bytes))) = bytes_read s ++ bytes
bytes_read (s ▷ step) = bytes_read s

abbrev pub bytes_written : Trace Step → List ℕ
bytes_written Start = []
bytes_written (s ▷ Writes (Some count)) = bytes_written s ++ take count (unwritten s)
bytes_written (s ▷ step) = bytes_written s

-- the datagrams that were taken from the wire and given to the end, and those that the end gave and the wire sent
abbrev pub arrivals : Trace Step → List (List ℕ)
arrivals Start = []
arrivals (s ▷ Comes datagram took reading) = arrivals s ++ datagram ∷ []
arrivals (s ▷ step) = arrivals s

abbrev pub departures : Trace Step → List (List ℕ)
departures Start = []
departures (s ▷ Leaves datagram poll) = departures s ++ datagram ∷ []
departures (s ▷ step) = departures s

-- a count of the reads that gave nothing or the end
abbrev pub stream_quiet : ℕ → Trace Step → ℕ
stream_quiet first Start = first
stream_quiet first (s ▷ Reads (Some Nothing)) = counted (stream_quiet first s)
stream_quiet first (s ▷ Reads (Some Ended)) = counted (stream_quiet first s)
stream_quiet first (s ▷ step) = stream_quiet first s

-- a count of the writes that took nothing
abbrev pub stream_stuck : ℕ → Trace Step → ℕ
stream_stuck first Start = first
stream_stuck first (s ▷ Writes (Some count)) = if count == 0 then counted (stream_stuck first s) else stream_stuck first s
stream_stuck first (s ▷ step) = stream_stuck first s

-- whether a read told the end
abbrev pub stream_ended : Bool → Trace Step → Bool
stream_ended first Start = first
stream_ended first (s ▷ Reads (Some Ended)) = true
stream_ended first (s ▷ step) = stream_ended first s

-- a count of the takes that gave none
abbrev pub wire_quiet : ℕ → Trace Step → ℕ
wire_quiet first Start = first
wire_quiet first (s ▷ Waits) = counted (wire_quiet first s)
wire_quiet first (s ▷ step) = wire_quiet first s

-- a count that stands at the greatest value of a u64
abbrev pub saturated : ℕ → ℕ
saturated n = min n (2 ^ 64 - 1)

-- what the devices tell now against before, by the steps
pub record Carried (first : First) (now : Seen) (s : Trace Step) : Type 0 where
  -- the calls of the end keep its law
  pub law : EndTrace first.role (entries s)
  -- the steps are those of turns; the last one may have stopped at any step
  pub turns : InTurns first.role s
  -- what was read is what the end took, followed by what the session keeps
  pub read : (now.stream).read ≡ added (first.stream).read (bytes_read s)
  pub offered : bytes_read s ≡ taken_main (entries s) ++ now.kept
  -- what the end gave is what was written, followed by what is unwritten
  pub written : (now.stream).written ≡ added (first.stream).written (bytes_written s)
  pub given : given_main (entries s) ≡ bytes_written s ++ now.unwritten
  pub taken : (now.wire).taken ≡ added (first.wire).taken (arrivals s)
  pub sent : (now.wire).sent ≡ added (first.wire).sent (departures s)
  pub quiet : (now.stream).quiet ≡ stream_quiet (first.stream).quiet s
  pub stuck : (now.stream).stuck ≡ stream_stuck (first.stream).stuck s
  pub ended : (now.stream).ended ≡ stream_ended (first.stream).ended s
  pub wire_quiet : (now.wire).quiet ≡ wire_quiet (first.wire).quiet s
  pub read_count : (now.tally).read ≡ saturated (length (bytes_read s))
  pub written_count : (now.tally).written ≡ saturated (length (bytes_written s))
  pub taken_count : (now.tally).taken ≡ saturated (length (arrivals s))
  -- no turn opens a device
  pub stream_opened : (now.stream).opened ≡ (first.stream).opened
  pub wire_opened : (now.wire).opened ≡ (first.wire).opened
