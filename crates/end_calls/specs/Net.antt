-- Two ends of a session, call by call, and what is safe about them.
use Rattle.std.specs.Prelude.{◌≡◌, ℕ, List, [], ◌∷◌, ◌++◌, Option, Some, None}
use Rattle.mt_base.specs.declared.kinds.Kind.{Kind}
use Rattle.mt_base.specs.declared.kinds.Kind.TheVariants.{Reliable, Lossy}
use Rattle.mt_base.specs.declared.kinds.Role.{Role}
use Rattle.mt_base.specs.declared.kinds.Role.TheVariants.{Server, Client}
use Rattle.mt_base.specs.Ends.{other}
use Rattle.mt_base.specs.Prefix.{IsPrefixOf, IsPickOf}
use Rattle.mt_base.specs.Trace.{Trace, Start, ◌▷◌}
use Rattle.carrier.specs.Entries.{Next, given, pulled, posted}
use Rattle.carrier.specs.Entries as link
use Rattle.mt_endpoint.specs.Acts.{Act}
use Rattle.mt_endpoint.specs.World.{SafeWay}
use Rattle.end_calls.specs.declared.fault.Fault.{Fault}
use Rattle.end_calls.specs.declared.fault.Fault.TheVariants as fault
use Rattle.end_calls.specs.Calls.{Entry, past, acts}
use Rattle.end_calls.specs.Law.{EndTrace, IsWithin, taken_main, given_main}
use Rattle.end_calls.specs.Links.{linked}

-- the calls of one side
abbrev pub at : Role → Trace (Role × Entry) → Trace Entry
at role Start = Start
at Server (w ▷ (Server, entry)) = at Server w ▷ entry
at Server (w ▷ (Client, entry)) = at Server w
at Client (w ▷ (Server, entry)) = at Client w
at Client (w ▷ (Client, entry)) = at Client w ▷ entry

-- all parts that a lossy link handed out, in order
abbrev pub if_part : Option (List ℕ) → List (List ℕ)
if_part None = []
if_part (Some bytes) = bytes ∷ []

abbrev pub handed_out : Trace link.Entry → List (List ℕ)
handed_out Start = []
handed_out (t ▷ Next part) = handed_out t ++ if_part part
handed_out (t ▷ entry) = handed_out t

abbrev pub main_in : Role → Trace (Role × Entry) → List ℕ
main_in role w = taken_main (at role w)

abbrev pub main_out : Role → Trace (Role × Entry) → List ℕ
main_out role w = given_main (at role w)

abbrev pub link_of_side : Kind → Role → Trace (Role × Entry) → Trace link.Entry
link_of_side kind role w = linked kind role (at role w)

-- Both sides keep the law of an end. Each took the front of the bytes that left the other by the main
-- stream, pulled the front of those given to the other's reliable link, and was handed some of the
-- parts posted on the other's lossy link, in order.
pub record IsJoined (w : Trace (Role × Entry)) : Type 0 where
  pub server : EndTrace Server (at Server w)
  pub client : EndTrace Client (at Client w)
  pub main : (role : Role) → IsPrefixOf (main_in role w) (main_out (other role) w)
  pub reliable : (role : Role) → IsPrefixOf (pulled (link_of_side Reliable role w)) (given (link_of_side Reliable (other role) w))
  pub lossy : (role : Role) → IsPickOf (handed_out (link_of_side Lossy role w)) (posted (link_of_side Lossy (other role) w))

-- at each place of the list
abbrev pub Net : Trace (Role × Entry) → Type 0
Net Start = IsJoined Start
Net (w ▷ call) = IsJoined (w ▷ call) × Net w

-- no fault but want of memory
abbrev pub IsFine : Option Fault → Type 0
IsFine None = Unit {0}
IsFine (Some why) = why ≡ fault.NoMemory

abbrev pub acts_of : Role → Trace (Role × Entry) → Trace Act
acts_of role w = acts role (at role w)

-- on each channel and in each direction what is delivered was sent; neither end has a fault; and what
-- waits and what is held keeps its limits
pub record Safe (w : Trace (Role × Entry)) : Type 0 where
  pub to_client : (id : ℕ) → SafeWay Client id (acts_of Server w) (acts_of Client w)
  pub to_server : (id : ℕ) → SafeWay Server id (acts_of Client w) (acts_of Server w)
  pub fine : (role : Role) → IsFine (past role (at role w)).broken
  pub within : (role : Role) → IsWithin role (at role w)
