-- The steps that the parts of a turn add, and those of a whole turn.
use Rattle.std.specs.Prelude.{◌≡◌, ◌+◌, ◌==◌, Bool, true, false, not, ◌&&◌, Option, Some, None, Result, Ok, Err, if◌then◌else◌}
use Rattle.mt_base.specs.declared.kinds.Role.{Role}
use Rattle.mt_base.specs.Trace.{Trace, Start, ◌▷◌}
use Rattle.end_calls.specs.Calls.{Entry}
use Rattle.mt_outside.specs.declared.failed.Failed as outside
use Rattle.mt_outside.specs.declared.got.Got.{Got}
use Rattle.mt_outside.specs.Streams.{Heard, Bytes, Nothing, Ended}
use Rattle.mt_session.specs.declared.turned.Turned.{Turned}
use Rattle.mt_session.specs.declared.turned.Turned.TheVariants as turned
use Rattle.mt_session.specs.Answers.{is_end, outcome}
use Rattle.mt_session.specs.Live.{Seen, First, Live}
use Rattle.mt_session.specs.Steps.{Step, Begins, Reads, Writes, tally}
use Rattle.mt_session.specs.Turns.{Taking, Sending, Filling, stage, came_count, left_count}

-- the last answer of the stream in these steps; None where the last turn read nothing
abbrev pub last_heard : Trace Step → Option Heard
last_heard Start = None
last_heard (s ▷ Reads answer) = answer
last_heard (s ▷ step) = last_heard s

abbrev pub is_ending : Option Heard → Bool
is_ending None = false
is_ending (Some (Bytes bytes)) = false
is_ending (Some Nothing) = false
is_ending (Some Ended) = true

-- the turn that read last found the end of the stream
abbrev pub has_ended : Trace Step → Bool
has_ended s = is_ending (last_heard s)

-- the steps before the turn that began last
abbrev pub before : Trace Step → Trace Step
before Start = Start
before (s ▷ Begins now) = s
before (s ▷ step) = before s

-- the later steps are of the same turn, and the stream was not read again
pub record SameTurn (s later : Trace Step) : Type 0 where
  pub heard : last_heard later ≡ last_heard s
  pub turn : before later ≡ before s

-- some steps, for which this holds, are what an end and its devices now stand for
abbrev pub LeadsTo : (Role → Trace Entry → Type 0) → Seen → First → (Trace Step → Type 0) → Type 0
LeadsTo end_stands now first holds = (later : Trace Step) × Live end_stands now first later × holds later

-- the steps after the read and the offer that begin a turn
abbrev pub Hears : Result (Option Got) outside.Failed → Trace Step → Trace Step → Type 0
Hears (Ok got) s later = (stage later ≡ Taking) × (came_count later ≡ 0) × (left_count later ≡ 0) × (has_ended later ≡ is_end got) × (before later ≡ s)
Hears (Err failed) s later = before later ≡ s

-- the steps after a take: a datagram came, none was there, or the wire failed
abbrev pub Takes : Result Bool outside.Failed → Trace Step → Trace Step → Type 0
Takes (Ok true) s later = (came_count later ≡ came_count s + 1) × (stage later ≡ (if came_count s == 63 then Sending else Taking)) × (left_count later ≡ left_count s) × SameTurn s later
Takes (Ok false) s later = (stage later ≡ Sending) × (left_count later ≡ left_count s) × SameTurn s later
Takes (Err failed) s later = SameTurn s later

-- the steps after a datagram was sent, the end had none, or the wire failed
abbrev pub Sends : Result Bool outside.Failed → Trace Step → Trace Step → Type 0
Sends (Ok true) s later = (left_count later ≡ left_count s + 1) × (stage later ≡ (if left_count s == 63 then Filling else Sending)) × SameTurn s later
Sends (Ok false) s later = (stage later ≡ Filling) × SameTurn s later
Sends (Err failed) s later = SameTurn s later

-- the last step ends a turn
abbrev pub EndsTurn : Trace Step → Type 0
EndsTurn (s ▷ Writes answer) = Unit {0}
EndsTurn s = ⊥

-- What the answer of a turn says of the steps. A failed turn may have stopped at any step.
abbrev pub Turns : Bool → Turned → Trace Step → Type 0
Turns expects_end turned.Failed s = Unit {0}
Turns expects_end answer s = EndsTurn s × (answer ≡ outcome (has_ended s && not expects_end) (tally s).moves)
