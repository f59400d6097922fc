-- A channel PDU that is pulled behind the word of its channel (MS-RDPEDYC section 3.1.5.3).
use Rattle.std.specs.Prelude.{◌≡◌, ℕ, true, false, List, Some, None, Ok}
use Rattle.mt_base.specs.Ends.{other}
use Rattle.mt_base.specs.Trace.{Trace}
use Rattle.mt_base.specs.declared.kinds.Kind.{Kind}
use Rattle.mt_base.specs.declared.kinds.Role.TheVariants.{Client}
use Rattle.dvc_pdus.specs.Reading.{reading}
use Rattle.dvc_pdus.specs.Value.{Pdu, AreBytes}
use Rattle.hold_queue.specs.Held as hold
use Rattle.soft_sync.specs.Words.{inward}
use Rattle.mt_endpoint.specs.Acts.{Act, Carried}
use Rattle.mt_endpoint.specs.Holding.{channel_of, is_through}
use Rattle.end_session.specs.AnswerDue.{due_in}
use Rattle.end_session.specs.Drawing.{drawn_fault, held_of}
use Rattle.end_session.specs.Standing.{Gone, Stands}
use Rattle.end_session.specs.Store.{Store}

-- it is for a channel whose data come by this tunnel
pub record IsBehind (kind : Kind) (pdu : Pdu) (s : Store) : Type 0 where
  pub id : ℕ
  pub channel_is : channel_of pdu ≡ Some id
  pub through : is_through kind (inward id s.paths) ≡ true

-- it is for no such channel
abbrev pub IsAhead : Kind → Pdu → Store → Type 0
IsAhead kind pdu s = (id : ℕ) → channel_of pdu ≡ Some id → is_through kind (inward id s.paths) ≡ false

-- nothing of its channel is held for this tunnel
abbrev pub NoneHeld : Kind → Pdu → Store → Type 0
NoneHeld kind pdu s = (id : ℕ) → channel_of pdu ≡ Some id → hold.oldest id (held_of kind s) ≡ None

-- it can be released at once: no answer is due before it, nothing is held of its channel, and nothing is
-- against it where it is pulled
pub record IsPassing (kind : Kind) (bytes : List ℕ) (pdu : Pdu) (s : Store) : Type 0 where
  pub are_bytes : AreBytes bytes
  pub read_is : reading (other s.role) bytes ≡ Ok pdu
  pub behind : IsBehind kind pdu s
  pub rests : NoneHeld kind pdu s
  pub quiet : s.role ≡ Client → due_in s ≡ None
  pub allowed : (t : Trace Act) (gone : Gone) → Stands s t gone → drawn_fault s.role kind t (Carried bytes pdu) ≡ None
