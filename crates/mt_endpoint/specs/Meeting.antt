-- Two ends at one moment: what each has read on the main stream is a front of what the other has written.
use Rattle.std.specs.Prelude.{Bool, true, false, not, [], ◌∷◌, ◌++◌}
use Rattle.mt_base.specs.declared.kinds.Kind.TheVariants.{Reliable, Lossy}
use Rattle.mt_base.specs.declared.kinds.Role.{Role}
use Rattle.mt_base.specs.declared.kinds.Role.TheVariants.{Server, Client}
use Rattle.mt_base.specs.Ends.{other}
use Rattle.mt_base.specs.Trace.{Trace}
use Rattle.mt_endpoint.specs.Acts.{Act, Heard, TunnelAsked, TunnelAnswered, Spoken}
use Rattle.mt_endpoint.specs.Said.{Said, Capable, Creates, Created, Brings, Ends, Moves, Moved, said}
use Rattle.mt_endpoint.specs.Writing.{spoken, carried}
use Rattle.mt_base.specs.Prefix.{IsPrefixOf, IsPickOf}
use Rattle.mt_endpoint.specs.World.{hears, draws}
use Rattle.mt_endpoint.specs.Alone.{EndOfActs}

pub record Meet (role : Role) (here there : Trace Act) : Type 0 where
  pub here_acts : EndOfActs role here
  pub there_acts : EndOfActs (other role) there
  pub to_here : IsPrefixOf (hears here) (spoken (other role) there)
  pub to_there : IsPrefixOf (hears there) (spoken role here)

-- this frame is the next that comes
abbrev pub Comes : Role → Trace Act → Trace Act → Heard → Type 0
Comes role here there heard = IsPrefixOf (hears here ++ heard ∷ []) (spoken (other role) there)

-- data and the close of a channel
abbrev pub is_for_channel : Said → Bool
is_for_channel (Capable version) = false
is_for_channel (Creates id name) = false
is_for_channel (Created id status) = false
is_for_channel (Brings id) = true
is_for_channel (Ends id) = true
is_for_channel (Moves lists) = false
is_for_channel (Moved kinds) = false

-- any other frame
abbrev pub is_control : Heard → Bool
is_control (TunnelAsked id kind cookie) = true
is_control (TunnelAnswered id hr) = true
is_control (Spoken pdu) = not (is_for_channel (said pdu))

-- what one end took left the other: by the main stream and the reliable link all of it in order, by the
-- lossy link some of it in order
pub record HasLeft (from : Role) (there here : Trace Act) : Type 0 where
  pub main : IsPrefixOf (hears here) (spoken from there)
  pub reliable : IsPrefixOf (draws Reliable here) (carried Reliable from there)
  pub lossy : IsPickOf (draws Lossy here) (carried Lossy from there)

-- two ends at one moment, each of which took what left the other
pub record AreJoined (server client : Trace Act) : Type 0 where
  pub server_acts : EndOfActs Server server
  pub client_acts : EndOfActs Client client
  pub to_client : HasLeft Server server client
  pub to_server : HasLeft Client client server
