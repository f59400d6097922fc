-- What was held of a channel is released.
use Rattle.std.specs.Prelude.{◌≡◌, ◌⊎◌, ℕ, Bool, true, false, List, ◌∷◌, Option, Some, None, is_some, Ok, if◌then◌else◌}
use Rattle.mt_base.specs.Ends.{other, same_kind}
use Rattle.mt_base.specs.declared.kinds.Kind.{Kind}
use Rattle.mt_base.specs.declared.kinds.Kind.TheVariants.{Reliable, Lossy}
use Rattle.mt_base.specs.Trace.{Trace, ◌▷◌}
use Rattle.dvc_channels.specs.Acts.{IsData}
use Rattle.dvc_pdus.specs.Reading.{reading}
use Rattle.dvc_pdus.specs.Value.{Pdu, Close}
use Rattle.hold_queue.specs.Held as hold
use Rattle.mt_endpoint.specs.Acts.{Act, Releases, Discards}
use Rattle.mt_endpoint.specs.Faults.{Why, release_fault}
use Rattle.mt_endpoint.specs.Holding.{Held, held, only}
use Rattle.mt_endpoint.specs.Said.{Said, Capable, Creates, Created, Brings, Ends, Moves, Moved, said}
use Rattle.end_session.specs.Drawing.{held_of}
use Rattle.end_session.specs.Standing.{Gone, Stands}
use Rattle.end_session.specs.Store.{Store}

-- this is the oldest PDU that is held for a channel of a tunnel, as the other end wrote it
pub record IsOldest (kind : Kind) (id : ℕ) (pdu : Pdu) (s : Store) : Type 0 where
  pub kept : hold.Pdu
  pub oldest_is : hold.oldest id (held_of kind s) ≡ Some kept
  pub read_is : reading (other s.role) kept.bytes ≡ Ok pdu

-- a PDU that is held for a channel is its close, or data that a table of channels takes
abbrev pub IsOf : ℕ → Pdu → Type 0
IsOf id pdu = (pdu ≡ Close id) ⊎ ((said pdu ≡ Brings id) × IsData pdu)

abbrev pub is_end : Said → Bool
is_end (Capable version) = false
is_end (Creates id name) = false
is_end (Created id status) = false
is_end (Brings id) = false
is_end (Ends id) = true
is_end (Moves lists) = false
is_end (Moved kinds) = false

-- the queue of the one kind is without it, and that of the other stays
abbrev pub released_from : Kind → Kind → ℕ → List hold.Pdu → List hold.Pdu
released_from kind made id pdus = if same_kind kind made then hold.without_oldest id pdus else pdus

-- what its channel has against it: on the lossy tunnel that drops it
abbrev pub drops : Kind → Option Why → Bool
drops Reliable why = false
drops Lossy why = is_some why

-- It was released, since its channel takes it, or dropped: the lossy tunnel brought what its channel
-- doesn't take.
pub data Released (kind : Kind) (id : ℕ) (pdu : Pdu) (t : Trace Act) (gone : Gone) (s : Store) : Bool → Type 0 where
  taken : (h : Held) (rest : List Held) → only id (held s.role kind t) ≡ h ∷ rest → h.pdu ≡ pdu → release_fault s.role t pdu ≡ None
      → Stands s (t ▷ Releases kind h.at h.bytes pdu) gone → Released kind id pdu t gone s true
  dropped : (h : Held) (rest : List Held) (why : Why) → kind ≡ Lossy → only id (held s.role kind t) ≡ h ∷ rest → h.pdu ≡ pdu
      → release_fault s.role t pdu ≡ Some why → Stands s (t ▷ Discards h.at h.bytes pdu) gone → Released kind id pdu t gone s false
