use Rattle.std.proofs.Common.{◌≡◌, ℕ, length}
use Rattle.mt_base.specs.Trace.{Trace}
use Rattle.soft_sync.specs.Words.{inward}
use Rattle.mt_endpoint.specs.Acts.{Act}
use Rattle.end_calls.specs.Law.{IsFront}
use Rattle.end_session.specs.Coming.{all_released}
use Rattle.end_session.specs.Drawing.{held_of}
use Rattle.end_session.specs.Standing.{Gone, Stands}
use Rattle.end_session.proofs.session.Session.release.Given as goal

-- nothing was written so far, and what is to come is the same
abbrev pub invariant-loop : goal.invariant-loop
invariant-loop l = record {
  role : l.self.role ≡ l.initial.self.role;
  whole : l.self.broken ≡ l.initial.self.broken;
  owed : l.self.owed ≡ l.initial.self.owed;
  quiet : l.self.outgoing ≡ l.initial.self.outgoing;
  paths : (made : ℕ) → inward made l.self.paths ≡ inward made l.initial.self.paths;
  stands : (t : Trace Act) (gone : Gone) → Stands l.initial.self t gone → (u : Trace Act) × IsFront t u × (all_released l.self.role l.kind l.id u ≡ all_released l.initial.self.role l.kind l.id t) × Stands l.self u gone;
}

-- each turn takes one from what is held
abbrev pub decreases-loop : goal.decreases-loop
decreases-loop l = length (held_of l.kind l.self)
