-- What a tunnel that is open rests on.
use Rattle.std.specs.Prelude.{◌≡◌, [], ◌∷◌, Some}
use Rattle.mt_base.specs.declared.kinds.Kind.{Kind}
use Rattle.mt_base.specs.Trace.{Trace}
use Rattle.mt_base.specs.Prefix.{IsPickOf}
use Rattle.mt_endpoint.specs.Acts.{Act, CreateAsked}
use Rattle.mt_endpoint.specs.Tunnels.{Request, asked}
use Rattle.mt_endpoint.specs.World.{draws}

-- the server asked for a tunnel of this kind, and pulled from its link a create request that has the same
-- id and cookie
pub record WasAskedFor (kind : Kind) (server : Trace Act) : Type 0 where
  pub request : Request
  pub is_asked : asked kind server ≡ Some request
  pub is_read : IsPickOf (CreateAsked request.id request.cookie ∷ []) (draws kind server)
