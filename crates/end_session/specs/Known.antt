-- What an end knows of one of its tunnels.
use Rattle.std.specs.Prelude.{ℕ, Bool, false, not, ◌&&◌, ◌||◌, Option, None, is_some, if◌then◌else◌}
use Rattle.std.specs.Option.{option_or}
use Rattle.mt_base.specs.declared.kinds.Kind.{Kind}
use Rattle.mt_base.specs.declared.kinds.Role.{Role}
use Rattle.mt_base.specs.declared.kinds.Role.TheVariants.{Server, Client}
use Rattle.mt_base.specs.Trace.{Trace}
use Rattle.mt_endpoint.specs.Acts.{Act}
use Rattle.mt_endpoint.specs.Tunnels.{Request, asked, is_attached, silence, answer, was_opened, told_refusal, is_zero, not_zero, or_refused, or_silent}
use Rattle.mt_endpoint.specs.Tunnels as tunnels
use Rattle.end_session.specs.declared.tunnel.TunnelState.{TunnelState}
use Rattle.end_session.specs.declared.tunnel.TunnelState.TheVariants as state

pub record Known : Type 0 where
  pub asked : Option Request
  pub is_attached : Bool
  pub was_opened : Bool
  pub answer : Option ℕ
  pub told_refusal : Option ℕ
  pub silence : Option ℕ

-- by the acts so far
abbrev pub known : Role → Kind → Trace Act → Known
known role kind t = record {
  asked = asked kind t;
  is_attached = is_attached kind t;
  was_opened = was_opened kind t;
  answer = answer kind t;
  told_refusal = told_refusal role kind t;
  silence = silence kind t;
}

-- nothing is known of it
abbrev pub unknown : Known
unknown = record { asked = None; is_attached = false; was_opened = false; answer = None; told_refusal = None; silence = None }

abbrev pub is_open_in : Role → Known → Bool
is_open_in Server k = k.was_opened
is_open_in Client k = is_zero k.answer

abbrev pub refusal_in : Role → Known → Option ℕ
refusal_in Server k = k.told_refusal
refusal_in Client k = option_or k.told_refusal (not_zero k.answer)

abbrev pub begun_in : Known → tunnels.Tunnel
begun_in k = if k.is_attached then tunnels.Attached else if is_some k.asked then tunnels.Asked else tunnels.Absent

abbrev pub tunnel_in : Role → Known → tunnels.Tunnel
tunnel_in role k =
    or_silent k.silence (if is_open_in role k then tunnels.Open else or_refused (refusal_in role k) (begun_in k))

abbrev pub is_live_in : Role → Known → Bool
is_live_in role k = is_open_in role k && not (is_some k.silence)

abbrev pub is_settled_in : Role → Known → Bool
is_settled_in role k = is_some k.silence || (is_open_in role k || is_some (refusal_in role k))

-- as a caller sees it
abbrev pub state_of : tunnels.Tunnel → TunnelState
state_of tunnels.Absent = state.None
state_of tunnels.Asked = state.Asked
state_of tunnels.Attached = state.Attached
state_of tunnels.Open = state.Open
state_of (tunnels.Refused hr) = state.Refused hr
state_of (tunnels.Silent expiries) = state.Silent expiries
