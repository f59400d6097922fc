-- The PDUs that an end holds: those of a tunnel, from the moment at which they are pulled until the
-- word that moves their channel to it is read.
use Rattle.std.specs.Prelude.{ℕ, ◌+◌, ◌==◌, nat_le, Bool, false, ◌&&◌, ◌||◌, List, [], ◌∷◌, ◌++◌, length, Option, Some, None, if◌then◌else◌}
use Rattle.mt_base.specs.declared.kinds.Kind.{Kind}
use Rattle.mt_base.specs.declared.kinds.Kind.TheVariants.{Reliable, Lossy}
use Rattle.mt_base.specs.declared.kinds.Role.{Role}
use Rattle.mt_base.specs.Trace.{Trace, Start, ◌▷◌}
use Rattle.dvc_pdus.specs.Value.{Pdu}
use Rattle.soft_sync.specs.declared.kinds.Path.{Path}
use Rattle.soft_sync.specs.declared.kinds.Path.TheVariants.{Main, Tunnel}
use Rattle.mt_endpoint.specs.Acts.{Act, Closes, Draws, Releases, Discards, Drawn, CreateAsked, CreateAnswered, Nothing, Carried}
use Rattle.mt_endpoint.specs.Said.{Said, Capable, Creates, Created, Brings, Ends, Moves, Moved, said, lone}
use Rattle.mt_endpoint.specs.Channels.{came, is_open}
use Rattle.mt_base.specs.Ends.{same_kind}
use Rattle.mt_endpoint.specs.Moving.{inward}

-- a PDU that is held, with its bytes and the place at which its tunnel PDU began
pub record Held : Type 0 where
  pub at : ℕ
  pub bytes : List ℕ
  pub pdu : Pdu

-- the channel of data or of a close
abbrev pub channel_in : Said → Option ℕ
channel_in (Capable version) = None
channel_in (Creates id name) = None
channel_in (Created id status) = None
channel_in (Brings id) = Some id
channel_in (Ends id) = Some id
channel_in (Moves lists) = None
channel_in (Moved kinds) = None

abbrev pub channel_of : Pdu → Option ℕ
channel_of pdu = channel_in (said pdu)

abbrev pub is_of : ℕ → Option ℕ → Bool
is_of id None = false
is_of id (Some made) = made == id

-- those of one channel, all others, and all but the oldest of one
abbrev pub only : ℕ → List Held → List Held
only id [] = []
only id (held ∷ queue) = if is_of id (channel_of held.pdu) then held ∷ only id queue else only id queue

abbrev pub without : ℕ → List Held → List Held
without id [] = []
without id (held ∷ queue) = if is_of id (channel_of held.pdu) then without id queue else held ∷ without id queue

abbrev pub without_first : Option ℕ → List Held → List Held
without_first None queue = queue
without_first (Some id) [] = []
without_first (Some id) (held ∷ queue) =
    if is_of id (channel_of held.pdu) then queue else held ∷ without_first (Some id) queue

-- a close that comes drops what is held of its channel
abbrev pub unless_ended : Said → List Held → List Held
unless_ended (Capable version) queue = queue
unless_ended (Creates id name) queue = queue
unless_ended (Created id status) queue = queue
unless_ended (Brings id) queue = queue
unless_ended (Ends id) queue = without id queue
unless_ended (Moves lists) queue = queue
unless_ended (Moved kinds) queue = queue

abbrev pub without_closed : List Pdu → List Held → List Held
without_closed [] queue = queue
without_closed (pdu ∷ pdus) queue = without_closed pdus (unless_ended (said pdu) queue)

-- what PDUs count against the room: 16 bytes each, and their own
abbrev pub weight : List Held → ℕ
weight [] = 0
weight (held ∷ queue) = (16 + length held.bytes) + weight queue

abbrev pub fits : List ℕ → List Held → Bool
fits bytes queue = nat_le (16 + length bytes + weight queue) 1048576

abbrev pub is_through : Kind → Path → Bool
is_through kind Main = false
is_through kind (Tunnel made) = same_kind kind made

abbrev pub is_for_open : Role → Trace Act → Option ℕ → Bool
is_for_open role t None = false
is_for_open role t (Some id) = is_open role id t

abbrev pub may_hold : Role → Trace Act → List ℕ → List ℕ → List Held → Bool
may_hold role t [] bytes queue = false
may_hold role t (id ∷ ids) bytes queue = is_open role id t && (is_through Lossy (inward id t) || fits bytes queue)

-- A PDU of an open channel is held, be it for no longer than until the next act. A lossy tunnel carries
-- lone data PDUs alone, and one that comes ahead of its word is held only where there is room.
abbrev pub is_held : Role → Kind → Trace Act → List ℕ → Pdu → List Held → Bool
is_held role Reliable t bytes pdu queue = is_for_open role t (channel_of pdu)
is_held role Lossy t bytes pdu queue = may_hold role t (lone pdu) bytes queue

abbrev pub held_drawn : Role → Kind → Trace Act → ℕ → Drawn → List Held → List Held
held_drawn role kind t at (Carried bytes pdu) queue =
    if is_held role kind t bytes pdu queue then queue ++ record { at = at; bytes = bytes; pdu = pdu } ∷ [] else queue
held_drawn role kind t at (CreateAsked id cookie) queue = queue
held_drawn role kind t at (CreateAnswered hr) queue = queue
held_drawn role kind t at Nothing queue = queue

-- the PDUs that are held of a tunnel, in the order in which they were pulled
abbrev pub held_after : Role → Kind → Trace Act → Act → List Held → List Held
held_after role kind t (Draws made at drawn) queue =
    if same_kind kind made then held_drawn role kind t at drawn queue else queue
held_after role kind t (Releases made at bytes pdu) queue =
    without_closed (pdu ∷ []) (if same_kind kind made then without_first (channel_of pdu) queue else queue)
held_after role kind t (Discards at bytes pdu) queue =
    if same_kind kind Lossy then without_first (channel_of pdu) queue else queue
held_after role kind t (Closes id) queue = without id queue
held_after role kind t act queue = without_closed (came act) queue

abbrev pub held : Role → Kind → Trace Act → List Held
held role kind Start = []
held role kind (t ▷ act) = held_after role kind t act (held role kind t)
