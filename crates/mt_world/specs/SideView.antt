-- The relation between what a world keeps of one side and the calls of that side.
use Rattle.std.specs.Prelude.{◌≡◌, Option, Some, None, Result, Ok, Err}
use Rattle.mt_base.specs.declared.kinds.Role.{Role}
use Rattle.mt_base.specs.Trace.{Trace, ◌▷◌}
use Rattle.mt_world.specs.declared.refusal.StepRefusal.{StepRefusal}
use Rattle.mt_world.specs.declared.refusal.StepRefusal.TheVariants.{UnknownChannel, Refused, NoMemory}
use Rattle.mt_world.specs.declared.side.Side.{Side}
use Rattle.mt_world.specs.Acts.{Entry, past, sent, taken, took}
use Rattle.mt_world.specs.EndView.{Stands}

-- this value stands for a side with these calls
pub record StandsAt (s : Side) (role : Role) (t : Trace Entry) : Type 0 where
  pub end_is : Stands s.end role t
  pub sent_are : s.sent.items ≡ sent 1 (past role t).acts
  pub received_are : s.received.items ≡ took 1 t
  pub arrived_is : s.arrived.items ≡ taken t

-- A call that went well had no cause against it, and the side stands for one more entry. A refused one
-- had this cause, and the side is as it was. Where memory ran out nothing is said.
abbrev pub Does : Result (Unit {0}) StepRefusal → Side → Role → Trace Entry → Option StepRefusal → Entry → Type 0
Does (Ok done) new role t cause entry = (cause ≡ None) × StandsAt new role (t ▷ entry)
Does (Err NoMemory) new role t cause entry = Unit {0}
Does (Err UnknownChannel) new role t cause entry = (cause ≡ Some UnknownChannel) × StandsAt new role t
Does (Err (Refused r)) new role t cause entry = (cause ≡ Some (Refused r)) × StandsAt new role t
