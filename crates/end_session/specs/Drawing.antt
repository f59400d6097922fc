-- What is pulled from the links of an end.
use Rattle.std.specs.Prelude.{ℕ, ◌+◌, ◌≤◌, List, Option, Some, None}
use Rattle.mt_base.specs.declared.kinds.Kind.{Kind}
use Rattle.mt_base.specs.declared.kinds.Kind.TheVariants.{Reliable, Lossy}
use Rattle.mt_base.specs.declared.kinds.Role.{Role}
use Rattle.mt_base.specs.declared.kinds.Role.TheVariants.{Server, Client}
use Rattle.mt_base.specs.Trace.{Trace}
use Rattle.hold_queue.specs.Held as hold
use Rattle.mt_endpoint.specs.Acts.{Act, Drawn, TunnelAnswered}
use Rattle.mt_endpoint.specs.Faults.{Why, tunnel_fault}
use Rattle.mt_endpoint.specs.Tunnels.{Request}
use Rattle.end_session.specs.Outgoing.{Outgoing, says}
use Rattle.end_session.specs.Store.{Store}

-- the fault of a PDU that is pulled: nothing that the lossy link brings is one
abbrev pub drawn_fault : Role → Kind → Trace Act → Drawn → Option Why
drawn_fault role Reliable t drawn = tunnel_fault role t drawn
drawn_fault role Lossy t drawn = None

-- the server is told what became of the tunnel that it asked for
abbrev pub with_told : Option Request → ℕ → Outgoing → Outgoing
with_told None hr o = o
with_told (Some request) hr o = says (TunnelAnswered request.id hr) o

-- by a client, of the answers to its create request the first
abbrev pub with_first : Role → Option ℕ → Option Request → ℕ → Outgoing → Outgoing
with_first Server before request hr o = o
with_first Client None request hr o = with_told request hr o
with_first Client (Some before) request hr o = o

-- ---- what is held

abbrev pub held_of : Kind → Store → List hold.Pdu
held_of Reliable s = s.held_reliable
held_of Lossy s = s.held_lossy

-- so many bytes are held beside the others
abbrev pub IsHeldBeside : ℕ → List hold.Pdu → Type 0
IsHeldBeside size pdus = 16 + size + hold.weight pdus ≤ 1048576
