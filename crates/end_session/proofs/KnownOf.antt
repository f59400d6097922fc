-- What is known of a tunnel is what the acts made of it, at either end.
use Rattle.std.proofs.Common.{◌≡◌, refl}
use Rattle.mt_base.specs.declared.kinds.Kind.{Kind}
use Rattle.mt_base.specs.declared.kinds.Role.{Role}
use Rattle.mt_base.specs.declared.kinds.Role.TheVariants.{Server, Client}
use Rattle.mt_base.specs.Trace.{Trace}
use Rattle.mt_endpoint.specs.Acts.{Act}
use Rattle.mt_endpoint.specs.Tunnels.{is_live, is_open, is_settled, refusal, tunnel}
use Rattle.end_session.specs.Known.{known, is_live_in, is_open_in, is_settled_in, refusal_in, tunnel_in}

pub open_is : (role : Role) (kind : Kind) (t : Trace Act) → is_open_in role (known role kind t) ≡ is_open role kind t
open_is Server kind t = refl
open_is Client kind t = refl

pub refusal_is : (role : Role) (kind : Kind) (t : Trace Act) → refusal_in role (known role kind t) ≡ refusal role kind t
refusal_is Server kind t = refl
refusal_is Client kind t = refl

pub live_is : (role : Role) (kind : Kind) (t : Trace Act) → is_live_in role (known role kind t) ≡ is_live role kind t
live_is Server kind t = refl
live_is Client kind t = refl

pub settled_is : (role : Role) (kind : Kind) (t : Trace Act) → is_settled_in role (known role kind t) ≡ is_settled role kind t
settled_is Server kind t = refl
settled_is Client kind t = refl

pub state_is : (role : Role) (kind : Kind) (t : Trace Act) → tunnel_in role (known role kind t) ≡ tunnel role kind t
state_is Server kind t = refl
state_is Client kind t = refl
