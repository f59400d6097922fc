-- The relation between a world's value and the calls of both sides, and what a step does to it.
use Rattle.std.specs.Prelude.{◌≡◌, Result, Ok, Err}
use Rattle.mt_base.specs.declared.kinds.Role.{Role}
use Rattle.mt_base.specs.declared.kinds.Role.TheVariants.{Server, Client}
use Rattle.mt_base.specs.Trace.{Trace}
use Rattle.mt_world.specs.declared.refusal.StepRefusal.{StepRefusal}
use Rattle.mt_world.specs.declared.refusal.StepRefusal.TheVariants.{UnknownChannel, Refused, NoMemory}
use Rattle.mt_world.specs.declared.world.World.{World}
use Rattle.mt_world.specs.Acts.{Entry}
use Rattle.mt_world.specs.Net.{at}
use Rattle.mt_world.specs.SideView.{StandsAt}

-- this value stands for a world with these calls
pub record Stands (world : World) (w : Trace (Role × Entry)) : Type 0 where
  pub server : StandsAt world.server Server (at Server w)
  pub client : StandsAt world.client Client (at Client w)

-- A step that was taken leaves a world that stands for the list that Play answers. A refused one is
-- refused by Play with the same cause, and leaves the world as it was. Where memory ran out nothing
-- is said: the world is not used again.
abbrev pub Steps : Result (Unit {0}) StepRefusal → World → Trace (Role × Entry) → Result (Trace (Role × Entry)) StepRefusal → Type 0
Steps (Ok done) new w answer = (v : Trace (Role × Entry)) × (answer ≡ Ok v) × Stands new v
Steps (Err NoMemory) new w answer = Unit {0}
Steps (Err UnknownChannel) new w answer = (answer ≡ Err UnknownChannel) × Stands new w
Steps (Err (Refused cause)) new w answer = (answer ≡ Err (Refused cause)) × Stands new w
