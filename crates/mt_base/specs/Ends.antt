-- The two ends of a session, and the two kinds of link between them.
use Rattle.std.specs.Prelude.{Bool, true, false}
use Rattle.mt_base.specs.declared.kinds.Kind.{Kind}
use Rattle.mt_base.specs.declared.kinds.Kind.TheVariants.{Reliable, Lossy}
use Rattle.mt_base.specs.declared.kinds.Role.{Role}
use Rattle.mt_base.specs.declared.kinds.Role.TheVariants.{Server, Client}

-- the end at the other side
abbrev pub other : Role → Role
other Server = Client
other Client = Server

-- whether two are the same
abbrev pub same_role : Role → Role → Bool
same_role Server Server = true
same_role Server Client = false
same_role Client Server = false
same_role Client Client = true

abbrev pub same_kind : Kind → Kind → Bool
same_kind Reliable Reliable = true
same_kind Reliable Lossy = false
same_kind Lossy Reliable = false
same_kind Lossy Lossy = true
