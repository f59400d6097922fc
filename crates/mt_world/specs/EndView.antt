-- The relation between an end's value and the calls that it has had.
use Rattle.std.specs.Prelude.{◌≡◌, ℕ, ◌≤◌, List, ◌++◌, length}
use Rattle.mt_base.specs.declared.kinds.Role.{Role}
use Rattle.mt_base.specs.Trace.{Trace}
use Rattle.mt_world.specs.declared.end.End.{End}
use Rattle.mt_world.specs.Acts.{Entry, Past, past, given, took, written, delivered, names, is_ready, channel}

-- This value stands for an end with this past, of whose bytes `left` were taken for the main stream
-- and of whose messages on the first channel `handed` were handed out. One line for each field:
-- what the end keeps, and what it is of the past.
pub record StandsFor (e : End) (role : Role) (p : Past) (left : List ℕ) (handed : List (List ℕ)) : Type 0 where
  pub role_is : e.role ≡ role
  pub ready_is : e.is_ready ≡ is_ready p.acts
  pub channel_is : e.channel ≡ channel 1 p.acts
  pub names_are : e.names.items ≡ names p.acts
  pub part_is : e.part.items ≡ p.part
  pub queue_is : left ++ e.queue.items ≡ written role p.acts
  pub inbox_is : handed ++ e.inbox.items ≡ delivered 1 p.acts
  -- what follows from how it came about
  pub few : length (names p.acts) ≤ 1

-- this value stands for an end with these calls
abbrev pub Stands : End → Role → Trace Entry → Type 0
Stands e role t = StandsFor e role (past role t) (given t) (took 1 t)
