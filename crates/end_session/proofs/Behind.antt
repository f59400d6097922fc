-- A channel PDU is pulled behind the word of its channel.
use Rattle.std.proofs.Common.{◌≡◌, ℕ, true, false, List, Some, None, Ok, refl, sym, ap, subst, ◌∙◌}
use Rattle.mt_base.specs.Ends.{other}
use Rattle.mt_base.specs.declared.kinds.Kind.{Kind}
use Rattle.mt_base.specs.declared.kinds.Kind.TheVariants.{Reliable, Lossy}
use Rattle.mt_base.specs.declared.kinds.Role.{Role}
use Rattle.mt_base.specs.declared.kinds.Role.TheVariants.{Client}
use Rattle.mt_base.specs.Trace.{Trace}
use Rattle.dvc_channels.specs.Acts.{IsData}
use Rattle.dvc_pdus.specs.Reading.{reading}
use Rattle.dvc_pdus.specs.Value.{Pdu, AreBytes, Close}
use Rattle.mt_endpoint.specs.Acts.{Act, Draws, Carried}
use Rattle.mt_endpoint.specs.Channels.{is_open}
use Rattle.mt_endpoint.specs.Growing.{grown}
use Rattle.mt_endpoint.specs.Holding.{Held, channel_of, held, is_for_open, is_held}
use Rattle.mt_endpoint.specs.Said.{Brings, said}
use Rattle.end_session.specs.AnswerDue.{due_in}
use Rattle.end_session.specs.Behind.{IsBehind, IsPassing, NoneHeld}
use Rattle.end_session.specs.Coming.{Came}
use Rattle.end_session.specs.Drawing.{drawn_fault}
use Rattle.end_session.specs.Releasing.{is_end}
use Rattle.end_session.specs.Standing.{Gone, Stands}
use Rattle.end_session.specs.Store.{Store}
use Rattle.end_session.proofs.Kept.{not_kept}
use Rattle.end_session.proofs.Passed.{at_once, unheld}
use Rattle.end_session.proofs.Reread.{close_is, data_is, read_of, was_read}

pub passing_of : (s : Store) (kind : Kind) (bytes : List ℕ) (pdu : Pdu) → AreBytes bytes → reading (other s.role) bytes ≡ Ok pdu → IsBehind kind pdu s → NoneHeld kind pdu s → (s.role ≡ Client → due_in s ≡ None)
    → ((t : Trace Act) (gone : Gone) → Stands s t gone → drawn_fault s.role kind t (Carried bytes pdu) ≡ None) → IsPassing kind bytes pdu s
passing_of s kind bytes pdu good read_is behind rests quiet allowed = record { are_bytes = good; read_is = read_is; behind = behind; rests = rests; quiet = quiet; allowed = allowed }

-- it isn't held: it has no effect
pub not_passed : (s : Store) (t : Trace Act) (gone : Gone) (kind : Kind) (place : ℕ) (bytes : List ℕ) (pdu : Pdu) → IsPassing kind bytes pdu s → is_held s.role kind t bytes pdu (held s.role kind t) ≡ false → Stands s t gone
    → Came (grown s.role t (Draws kind place (Carried bytes pdu))) gone s
not_passed s t gone kind place bytes pdu p none st =
    subst (λ g. Came g gone s) (sym (unheld s.role kind t place bytes pdu (p.behind).id (at_once s t gone kind place bytes pdu p st) none))
    (refl, not_kept s t gone kind place bytes pdu (p.allowed t gone st) none st)

-- what it is, by whether it is a close
pub close_passed : (kind : Kind) (bytes : List ℕ) (pdu : Pdu) (id : ℕ) (s : Store) → IsPassing kind bytes pdu s → channel_of pdu ≡ Some id → is_end (said pdu) ≡ true → pdu ≡ Close id
close_passed kind bytes pdu id s p of e = close_is id pdu (read_of (other s.role) bytes pdu id (was_read (other s.role) bytes pdu p.are_bytes p.read_is) of) e

pub data_passed : (kind : Kind) (bytes : List ℕ) (pdu : Pdu) (id : ℕ) (s : Store) → IsPassing kind bytes pdu s → channel_of pdu ≡ Some id → is_end (said pdu) ≡ false → (said pdu ≡ Brings id) × IsData pdu
data_passed kind bytes pdu id s p of e = data_is id pdu (read_of (other s.role) bytes pdu id (was_read (other s.role) bytes pdu p.are_bytes p.read_is) of) e

-- a close comes by the reliable tunnel
pub passing_close : (kind : Kind) (bytes : List ℕ) (pdu : Pdu) (id : ℕ) (s : Store) → IsPassing kind bytes pdu s → kind ≡ Reliable → pdu ≡ Close id → IsPassing Reliable bytes (Close id) s
passing_close kind bytes pdu id s p kind_is is = subst (λ k. IsPassing k bytes (Close id) s) kind_is (subst (λ x. IsPassing kind bytes x s) is p)

pub open_close : (role : Role) (kind : Kind) (t : Trace Act) (bytes : List ℕ) (pdu : Pdu) (id : ℕ) (queue : List Held) → kind ≡ Reliable → pdu ≡ Close id → is_held role kind t bytes pdu queue ≡ true → is_open role id t ≡ true
open_close role Lossy t bytes pdu id queue kind_is is kept = absurd (let never : Lossy ≡ Reliable = kind_is in cc)
open_close role Reliable t bytes pdu id queue kind_is is kept = ap (λ x. is_for_open role t (channel_of x)) (sym is) ∙ kept

pub came_as : (role : Role) (t : Trace Act) (gone : Gone) (kind : Kind) (place : ℕ) (bytes : List ℕ) (pdu : Pdu) (id : ℕ) (after : Store) → kind ≡ Reliable → pdu ≡ Close id → Came (grown role t (Draws Reliable place (Carried bytes (Close id)))) gone after
    → Came (grown role t (Draws kind place (Carried bytes pdu))) gone after
came_as role t gone kind place bytes pdu id after kind_is is came =
    subst (λ k. Came (grown role t (Draws k place (Carried bytes pdu))) gone after) (sym kind_is) (subst (λ x. Came (grown role t (Draws Reliable place (Carried bytes x))) gone after) (sym is) came)
