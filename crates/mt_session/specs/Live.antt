-- What a session and its devices show, and that it stands for steps.
use Rattle.std.specs.Prelude.{◌≡◌, ℕ, List}
use Rattle.mt_base.specs.declared.kinds.Role.{Role}
use Rattle.mt_base.specs.Trace.{Trace, Start, ◌▷◌}
use Rattle.mt_endpoint.specs.Acts.{Act}
use Rattle.end_calls.specs.Calls.{Entry}
use Rattle.mt_outside.specs.Streams.{StreamTold}
use Rattle.mt_outside.specs.Wires.{WireTold}
use Rattle.mt_session.specs.Steps.{Step, Calls, moments, moment, kept, unwritten, entries, stream_after, wire_after, tally}
use Rattle.mt_session.specs.Turns.{InTurns}
use Rattle.mt_session.specs.Buffer.{held}
use Rattle.mt_session.specs.declared.tally.Tally.{Tally}
use Rattle.mt_session.specs.declared.session.Session.{Session}

-- what a session and its devices show now: the bytes that wait on both sides of the end, the counts, what the
-- devices tell, the moments at which turns began, and the moment of the last one
pub record Seen : Type 0 where
  pub kept : List ℕ
  pub unwritten : List ℕ
  pub tally : Tally
  pub stream : StreamTold
  pub wire : WireTold
  pub moments : List ℕ
  pub now : ℕ

-- whose end it is, and what the devices told before the first step
pub record First : Type 0 where
  pub role : Role
  pub stream : StreamTold
  pub wire : WireTold

abbrev pub seen : {E : Type 0} → Session E → StreamTold → WireTold → List ℕ → ℕ → Seen
seen session stream wire moments now = record {
  kept = held session.input;
  unwritten = held session.output;
  tally = session.tally;
  stream = stream;
  wire = wire;
  moments = moments;
  now = now;
}

-- The session and its devices stand for these steps, by the word for which calls the end stands.
pub record Live (end_stands : Role → Trace Entry → Type 0) (now : Seen) (first : First) (s : Trace Step) : Type 0 where
  pub end : end_stands first.role (entries s)
  pub kept_is : now.kept ≡ kept s
  pub unwritten_is : now.unwritten ≡ unwritten s
  pub tally_is : now.tally ≡ tally s
  pub stream_is : now.stream ≡ stream_after first.stream s
  pub wire_is : now.wire ≡ wire_after first.wire s
  pub moments_are : now.moments ≡ moments s
  pub now_is : now.now ≡ moment s
  pub order : InTurns first.role s

-- own calls of the end as steps
abbrev pub called : Trace Act → Trace Step
called Start = Start
called (acts ▷ act) = called acts ▷ Calls act
