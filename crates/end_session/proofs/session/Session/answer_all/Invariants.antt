use Rattle.std.proofs.Common.{◌≡◌, ◌+◌, ◌*◌, ◌≤◌, None, length}
use Rattle.mt_base.specs.declared.kinds.Role.TheVariants.{Client}
use Rattle.mt_base.specs.Trace.{Trace}
use Rattle.mt_endpoint.specs.Acts.{Act}
use Rattle.mt_endpoint.specs.Growing.{answered}
use Rattle.end_calls.specs.declared.limits.TheConstants.{MAIN_QUEUE}
use Rattle.end_session.specs.Standing.{Gone, Stands}
use Rattle.end_session.proofs.session.Session.answer_all.Given as goal

-- the answers so far, and room for those that are owed
abbrev pub invariant-loop-turn : goal.invariant-loop-turn
invariant-loop-turn l = record {
  client : l.self.role ≡ Client;
  whole : l.self.broken ≡ None;
  counted : l.self.owed + l._turn ≡ l.initial.self.owed;
  room : length (l.self.outgoing).main + 17 * l.self.owed ≤ MAIN_QUEUE;
  settled : length (l.self.outgoing).main + 17 * l.self.owed ≤ length (l.initial.self.outgoing).main + 17 * l.initial.self.owed;
  stands : (t : Trace Act) (gone : Gone) → Stands l.initial.self t gone → (u : Trace Act) × Stands l.self u gone × (answered Client u ≡ answered Client t);
}
