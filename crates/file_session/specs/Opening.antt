-- What a server does of its own so that files can be carried: it creates the channel, asks for its tunnel, and moves
-- the channel there.
use Rattle.std.specs.Prelude.{◌≢◌, ℕ, List, [], ◌∷◌, codes, Bool, true, false, length, None}
use Rattle.mt_base.specs.declared.kinds.Kind.TheVariants.{Reliable}
use Rattle.mt_base.specs.declared.kinds.Role.{Role}
use Rattle.mt_base.specs.Trace.{Trace, ◌▷◌}
use Rattle.mt_endpoint.specs.Acts.{Opens, Asks, Syncs}
use Rattle.end_calls.specs.Calls.{Entry, Own, acts, past}
use Rattle.end_calls.specs.Law.{unsent}
use Rattle.end_calls.specs.Refusing.{next_id, why_not_asked}
use Rattle.end_session.specs.declared.tunnel.TunnelState.{TunnelState}
use Rattle.end_session.specs.declared.tunnel.TunnelState.TheVariants as state

-- the call that creates the channel of files
abbrev pub opening : Role → Trace Entry → Entry
opening role t = Own (Opens (next_id (acts role t)) (codes "files"))

-- and the one that asks for its tunnel
abbrev pub asking : ℕ → List ℕ → Entry
asking id cookie = Own (Asks Reliable id cookie)

-- The calls of a turn in which the channel was created: then its tunnel was asked for too, unless that was refused.
pub data CreatesChannel (role : Role) (id : ℕ) (cookie : List ℕ) (t : Trace Entry) : Trace Entry → Type 0 where
  asks : CreatesChannel role id cookie t (t ▷ opening role t ▷ asking id cookie)
  unasked : why_not_asked (past role (t ▷ opening role t)).broken (acts role (t ▷ opening role t)) (length (unsent role (t ▷ opening role t))) Reliable id cookie ≢ None
      → CreatesChannel role id cookie t (t ▷ opening role t)

-- the call that moves the channel of files to its tunnel
abbrev pub moving : Entry
moving = Own (Syncs (1 ∷ []) [])

abbrev pub is_open_state : TunnelState → Bool
is_open_state state.None = false
is_open_state state.Asked = false
is_open_state state.Attached = false
is_open_state state.Open = true
is_open_state (state.Refused hr) = false
is_open_state (state.Silent expiries) = false
