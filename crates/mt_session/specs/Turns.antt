-- Which step may follow which.
use Rattle.std.specs.Prelude.{◌≡◌, ℕ, ◌+◌, ◌<◌, ◌≤◌, ◌==◌, List, [], ◌∷◌, length, Bool, true, false, Option, Some, None, if◌then◌else◌}
use Rattle.mt_base.specs.Trace.{Trace, Start, ◌▷◌}
use Rattle.mt_base.specs.declared.kinds.Kind.TheVariants.{Reliable}
use Rattle.mt_base.specs.declared.kinds.Role.{Role}
use Rattle.mt_endpoint.specs.Tunnels.{is_attached}
use Rattle.end_calls.specs.Calls.{Entry, acts}
use Rattle.mt_outside.specs.Streams.{Heard, Bytes}
use Rattle.mt_session.specs.Steps.{Step, Calls, Begins, Reads, Offers, Comes, Waits, Pulls, Passes, Leaves, Loses, Rests, Skips, Fills, Writes, kept, unwritten, entries}

-- how far a turn has come; Stopped: a send failed
pub data Stage : Type 0 where
  Over : Stage
  Begun : Stage
  Offering : Stage
  Taking : Stage
  Waited : Stage
  Sending : Stage
  Filling : Stage
  Writing : Stage
  Stopped : Stage

-- the datagrams that came in the turn that began last, and those that left
abbrev pub came_count : Trace Step → ℕ
came_count Start = 0
came_count (s ▷ Begins now) = 0
came_count (s ▷ Comes datagram took reading) = came_count s + 1
came_count (s ▷ step) = came_count s

abbrev pub left_count : Trace Step → ℕ
left_count Start = 0
left_count (s ▷ Begins now) = 0
left_count (s ▷ Leaves datagram poll) = left_count s + 1
left_count (s ▷ step) = left_count s

-- a turn takes 64 datagrams at most, and sends 64; where none came, the end is given an empty one
abbrev pub stage : Trace Step → Stage
stage Start = Over
stage (s ▷ Calls act) = Over
stage (s ▷ Begins now) = Begun
stage (s ▷ Reads answer) = Offering
stage (s ▷ Offers count load lack) = Taking
stage (s ▷ Comes datagram took reading) = if came_count s == 63 then Sending else Taking
stage (s ▷ Waits) = if came_count s == 0 then Waited else Sending
stage (s ▷ Pulls took reading) = Sending
stage (s ▷ Passes) = Sending
stage (s ▷ Leaves datagram poll) = if left_count s == 63 then Filling else Sending
stage (s ▷ Loses datagram poll) = Stopped
stage (s ▷ Rests poll) = Filling
stage (s ▷ Skips) = Filling
stage (s ▷ Fills room bytes) = Writing
stage (s ▷ Writes answer) = Over

-- the stage at which a step may come
abbrev pub stage_for : Step → Stage
stage_for (Calls act) = Over
stage_for (Begins now) = Over
stage_for (Reads answer) = Begun
stage_for (Offers count load lack) = Offering
stage_for (Comes datagram took reading) = Taking
stage_for Waits = Taking
stage_for (Pulls took reading) = Waited
stage_for Passes = Waited
stage_for (Leaves datagram poll) = Sending
stage_for (Loses datagram poll) = Sending
stage_for (Rests poll) = Sending
stage_for Skips = Sending
stage_for (Fills room bytes) = Filling
stage_for (Writes answer) = Writing

-- the stream is read exactly where no byte waits
abbrev pub IsAsked : List ℕ → Option Heard → Type 0
IsAsked [] None = ⊥
IsAsked [] (Some (Bytes bytes)) = (0 < length bytes) × (length bytes ≤ 65536)
IsAsked [] (Some answer) = Unit {0}
IsAsked (byte ∷ bytes) None = Unit {0}
IsAsked (byte ∷ bytes) (Some answer) = ⊥

-- the stream is written exactly where a byte is there to be written
abbrev pub IsWritten : List ℕ → Option ℕ → Type 0
IsWritten [] None = Unit {0}
IsWritten [] (Some count) = ⊥
IsWritten (byte ∷ bytes) None = ⊥
IsWritten (byte ∷ bytes) (Some count) = count ≤ length (byte ∷ bytes)

-- whether the end has its reliable link
abbrev pub is_linked : Role → Trace Entry → Bool
is_linked role t = is_attached Reliable (acts role t)

-- what the answer of a step has to be; the write buffer has 65,536 bytes
abbrev pub IsLawful : Role → Trace Step → Step → Type 0
IsLawful role s (Reads answer) = IsAsked (kept s) answer
IsLawful role s (Offers count load lack) = count ≤ length (kept s)
IsLawful role s (Pulls took reading) = is_linked role (entries s) ≡ true
IsLawful role s Passes = is_linked role (entries s) ≡ false
IsLawful role s (Leaves datagram poll) = is_linked role (entries s) ≡ true
IsLawful role s (Loses datagram poll) = is_linked role (entries s) ≡ true
IsLawful role s (Rests poll) = is_linked role (entries s) ≡ true
IsLawful role s Skips = is_linked role (entries s) ≡ false
IsLawful role s (Fills room bytes) = (room + length (unwritten s) ≡ 65536) × (length bytes ≤ room)
IsLawful role s (Writes answer) = IsWritten (unwritten s) answer
IsLawful role s step = Unit {0}

-- The steps are those of whole turns with own calls between them, and of a front of one more turn.
abbrev pub InTurns : Role → Trace Step → Type 0
InTurns role Start = Unit {0}
InTurns role (s ▷ step) = (stage s ≡ stage_for step) × IsLawful role s step × InTurns role s
