-- The tunnels of an end by their kind, and what is told of one of them.
use Rattle.std.specs.Prelude.{ℕ, true, Option, Some, None, is_some, if◌then◌else◌}
use Rattle.std.specs.Option.{option_or}
use Rattle.mt_base.specs.declared.kinds.Kind.{Kind}
use Rattle.mt_base.specs.declared.kinds.Kind.TheVariants.{Reliable, Lossy}
use Rattle.mt_base.specs.declared.kinds.Role.{Role}
use Rattle.mt_base.specs.declared.kinds.Role.TheVariants.{Server, Client}
use Rattle.mt_base.specs.Ends.{same_kind}
use Rattle.mt_endpoint.specs.Acts.{CreateAsked}
use Rattle.mt_endpoint.specs.Tunnels.{Request}
use Rattle.end_session.specs.Known.{Known}
use Rattle.end_session.specs.Outgoing.{Outgoing, carries}
use Rattle.end_session.specs.Store.{Store}

abbrev pub tunnel_of : Kind → Store → Known
tunnel_of Reliable s = s.reliable
tunnel_of Lossy s = s.lossy

-- what is told of a tunnel of the one kind says nothing of the other
abbrev pub told_at : Kind → Kind → (Known → Known) → Known → Known
told_at kind made change k = if same_kind kind made then change k else k

-- it is asked for, gets its link, is refused, or is silent: the first of each counts
abbrev pub asking : Request → Known → Known
asking request k = record k { asked = option_or k.asked (Some request) }

abbrev pub attaching : Known → Known
attaching k = record k { is_attached = true }

abbrev pub refusing : ℕ → Known → Known
refusing hr k = record k { told_refusal = option_or k.told_refusal (Some hr) }

abbrev pub silencing : ℕ → Known → Known
silencing expiries k = record k { silence = option_or k.silence (Some expiries) }

-- ---- create requests

-- the request with which a client asks through a tunnel; through a silent one it asks for nothing
abbrev pub due_request : Role → Known → Option Request
due_request Server k = None
due_request Client k = if is_some k.silence then None else k.asked

-- it is written for the link, where there is one
abbrev pub with_request : Kind → Option Request → Outgoing → Outgoing
with_request kind None o = o
with_request kind (Some request) o = carries kind (CreateAsked request.id request.cookie) o
