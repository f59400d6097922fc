-- When the reliable tunnel of an end gets its link, and which one.
use Rattle.std.specs.Prelude.{◌≡◌, Bool, true, false, not, ◌&&◌, is_some, None}
use Rattle.mt_base.specs.declared.kinds.Kind.TheVariants.{Reliable}
use Rattle.mt_base.specs.declared.kinds.Role.{Role}
use Rattle.mt_endpoint.specs.Tunnels.{tunnel}
use Rattle.end_calls.specs.Streams.{Past, is_broken}
use Rattle.end_session.specs.Known.{Known, refusal_in, state_of}
use Rattle.end_session.specs.declared.tunnel.TunnelState.{TunnelState}
use Rattle.end_session.specs.declared.tunnel.TunnelState.TheVariants as state
use Rattle.endpoint.specs.declared.state.EndState.{EndState}
use Rattle.endpoint.specs.declared.state.EndState.TheVariants as goes

abbrev pub is_fine : EndState → Bool
is_fine goes.Fine = true
is_fine (goes.Broken fault) = false

-- it was asked for, and has no link yet, nor was it refused or is it silent
abbrev pub is_asked_state : TunnelState → Bool
is_asked_state state.None = false
is_asked_state state.Asked = true
is_asked_state state.Attached = false
is_asked_state state.Open = false
is_asked_state (state.Refused hr) = false
is_asked_state (state.Silent expiries) = false

-- the reliable tunnel is in that state, and the end goes on
abbrev pub may_attach : Role → Past → Bool
may_attach role p = not (is_broken p) && is_asked_state (state_of (tunnel role Reliable p.acts))

-- what is known of it then
pub record Waits (role : Role) (k : Known) : Type 0 where
  pub asked : is_some k.asked ≡ true
  pub unattached : k.is_attached ≡ false
  pub unrefused : refusal_in role k ≡ None
