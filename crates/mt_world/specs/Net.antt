-- Two ends and the main stream between them, as one list of calls, and what is safe about it.
use Rattle.std.specs.Prelude.{ℕ}
use Rattle.mt_base.specs.declared.kinds.Role.{Role}
use Rattle.mt_base.specs.declared.kinds.Role.TheVariants.{Server, Client}
use Rattle.mt_base.specs.Trace.{Trace, Start, ◌▷◌}
use Rattle.mt_base.specs.Prefix.{IsPrefixOf}
use Rattle.mt_world.specs.Acts.{Entry, Act, past, given, taken, sent, delivered}
use Rattle.mt_world.specs.Ends.{EndTrace}

-- the calls of one side
abbrev pub at : Role → Trace (Role × Entry) → Trace Entry
at role Start = Start
at Server (w ▷ (Server, entry)) = at Server w ▷ entry
at Server (w ▷ (Client, entry)) = at Server w
at Client (w ▷ (Server, entry)) = at Client w
at Client (w ▷ (Client, entry)) = at Client w ▷ entry

-- the acts of one side
abbrev pub acts_of : Role → Trace (Role × Entry) → Trace Act
acts_of role w = (past role (at role w)).acts

-- both sides are ends, and each took the front of what left the other
pub record Net (w : Trace (Role × Entry)) : Type 0 where
  pub server : EndTrace Server (at Server w)
  pub client : EndTrace Client (at Client w)
  pub to_server : IsPrefixOf (taken (at Server w)) (given (at Client w))
  pub to_client : IsPrefixOf (taken (at Client w)) (given (at Server w))

-- on each channel and in each direction the messages that came are the first of those that were
-- sent, each once and in order
pub record Safe (w : Trace (Role × Entry)) : Type 0 where
  pub to_server : (id : ℕ) → IsPrefixOf (delivered id (acts_of Server w)) (sent id (acts_of Client w))
  pub to_client : (id : ℕ) → IsPrefixOf (delivered id (acts_of Client w)) (sent id (acts_of Server w))
