-- What the session of an end stands for between two acts of a poll.
use Rattle.std.specs.Prelude.{◌≡◌, ◌+◌, ◌≤◌, [], length, None}
use Rattle.mt_base.specs.declared.kinds.Kind.{Kind}
use Rattle.mt_base.specs.declared.kinds.Kind.TheVariants.{Reliable, Lossy}
use Rattle.mt_base.specs.declared.kinds.Role.{Role}
use Rattle.mt_base.specs.declared.kinds.Role.TheVariants.{Client}
use Rattle.mt_endpoint.specs.Holding.{held, weight}
use Rattle.mt_endpoint.specs.Resting.{Rests}
use Rattle.end_calls.specs.declared.limits.TheConstants.{HOLD, MAIN_QUEUE}
use Rattle.end_calls.specs.Stops.{answers_owed}
use Rattle.end_calls.specs.Streams.{Past}
use Rattle.end_session.specs.AnswerDue.{due}
use Rattle.end_session.specs.Outgoing.{waiting_for}
use Rattle.end_session.specs.Standing.{Gone, Stands}
use Rattle.end_session.specs.Store.{Store}
use Rattle.endpoint.specs.Standing.{refusals_owed}

-- It stands for the acts of this past, its queues keep their limits, nothing waits for the links, and all that
-- was due is done.
pub record IsIdle (role : Role) (p : Past) (gone : Gone) (s : Store) : Type 0 where
  pub stands : Stands s p.acts gone
  pub role_is : s.role ≡ role
  pub broken_is : s.broken ≡ p.broken
  pub room : length (s.outgoing).main + (answers_owed p.acts + refusals_owed role p.acts) ≤ MAIN_QUEUE
  pub held_fits : (kind : Kind) → weight (held role kind p.acts) ≤ HOLD
  pub reliable_waits : waiting_for Reliable s.outgoing ≡ []
  pub lossy_waits : waiting_for Lossy s.outgoing ≡ []
  pub rests : p.broken ≡ None → Rests role p.acts
  pub quiet : p.broken ≡ None → role ≡ Client → due p.acts ≡ None

-- for some acts
abbrev pub IsPaused : Store → Type 0
IsPaused s = (role : Role) × (p : Past) × (gone : Gone) × IsIdle role p gone s
