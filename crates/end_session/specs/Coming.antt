-- What comes of a step, and whether all of it came.
use Rattle.std.specs.Prelude.{◌≡◌, ◌⊎◌, ℕ, Bool, true, false, Some, None}
use Rattle.mt_base.specs.declared.kinds.Kind.{Kind}
use Rattle.mt_base.specs.declared.kinds.Role.{Role}
use Rattle.mt_base.specs.Trace.{Trace, ◌▷◌}
use Rattle.mt_endpoint.specs.Acts.{Act}
use Rattle.mt_endpoint.specs.Faults.{Why}
use Rattle.mt_endpoint.specs.Growing.{Grown, released}
use Rattle.mt_endpoint.specs.Holding.{held, only}
use Rattle.end_calls.specs.Law.{IsFront, IsLack, takes_memory}
use Rattle.end_calls.specs.Streams.{Past, none_yet, told_place}
use Rattle.end_calls.specs.declared.fault.Fault.TheVariants as fault
use Rattle.end_session.specs.declared.untaken.Untaken.{Untaken}
use Rattle.end_session.specs.Causes.{why_of}
use Rattle.end_session.specs.Standing.{Gone, Stands}
use Rattle.end_session.specs.Store.{Store}

-- all of g came, and nothing in it is a fault
abbrev pub Came : Grown → Gone → Store → Type 0
Came g gone s = (g.fault ≡ None) × Stands s g.acts gone

-- all of g came, up to the fault of a PDU that was held
pub record Met (g : Grown) (gone : Gone) (s : Store) (untaken : Untaken) : Type 0 where
  pub place : ℕ
  pub why : Why
  pub fault_is : g.fault ≡ Some (place, why)
  pub at_is : untaken.at ≡ told_place place
  pub cause_is : why_of untaken.cause ≡ Some why
  pub stands : Stands s g.acts gone

-- memory was wanting: of g, which begins with the acts t, came so much, and the next act takes memory
pub record Lacked (t : Trace Act) (g : Grown) (gone : Gone) (s : Store) (untaken : Untaken) : Type 0 where
  pub cause_is : why_of untaken.cause ≡ None
  pub reached : Trace Act
  pub begun : IsFront t reached
  pub next : Act
  pub takes : takes_memory next ≡ true
  pub due : IsFront (reached ▷ next) g.acts
  pub stands : Stands s reached gone

-- a PDU that was held isn't taken
abbrev pub Ended : Trace Act → Grown → Gone → Store → Untaken → Type 0
Ended t g gone s untaken = Met g gone s untaken ⊎ Lacked t g gone s untaken

-- ---- all that is held of a channel is released, up to a close

abbrev pub all_released : Role → Kind → ℕ → Trace Act → Grown
all_released role kind id t = released role kind id (only id (held role kind t)) t

-- One PDU was released, and what is to come is the same; or nothing more is to come.
pub data Went (kind : Kind) (id : ℕ) (t : Trace Act) (gone : Gone) (s : Store) : Bool → Type 0 where
  on : (act : Act) → all_released s.role kind id (t ▷ act) ≡ all_released s.role kind id t → Stands s (t ▷ act) gone → Went kind id t gone s true
  over : Came (all_released s.role kind id t) gone s → Went kind id t gone s false

-- ---- a past

-- the acts so far of an end that has read nothing in part and is not broken
abbrev pub past_of : Trace Act → Past
past_of t = record { acts = t; main = none_yet; tunnel = none_yet; broken = None }

-- From the past p, q is what was to come. The end stands for it, and is broken as it is; or memory was
-- wanting on the way, and that broke the end.
pub data CameTo (p q : Past) (gone : Gone) (s : Store) : Type 0 where
  came : Stands s q.acts gone → s.broken ≡ q.broken → CameTo p q gone s
  lacked : (reached : Trace Act) → IsLack p q reached → Stands s reached gone → s.broken ≡ Some fault.NoMemory → CameTo p q gone s
