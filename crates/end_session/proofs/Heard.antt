-- What there is against a frame, by what an end knows; and the acts behind one that has no fault.
use Rattle.std.proofs.Common.{◌≡◌, ℕ, Bool, true, false, cond, not, List, [], ◌∷◌, ◌++◌, Option, Some, None, refl, sym, ap, subst, ◌∙◌}
use Rattle.mt_base.specs.declared.kinds.Kind.{Kind}
use Rattle.mt_base.specs.declared.kinds.Kind.TheVariants.{Reliable, Lossy}
use Rattle.mt_base.specs.declared.kinds.Role.{Role}
use Rattle.mt_base.specs.declared.kinds.Role.TheVariants.{Server, Client}
use Rattle.mt_base.specs.Trace.{Trace, ◌▷◌}
use Rattle.mt_base.specs.Writing.{joined}
use Rattle.dvc_pdus.specs.Value.{Pdu, Caps, spelled}
use Rattle.tunnel_pdus.specs.Value.{Channel, frame_fields}
use Rattle.mt_endpoint.specs.Acts.{Act, Heard, Hears, Spoken}
use Rattle.mt_endpoint.specs.Alone.{EndOfActs}
use Rattle.mt_endpoint.specs.Channels.{is_ready}
use Rattle.mt_endpoint.specs.Faults.{Unexpected, is_capable, main_fault, said_fault, spoken_fault, when}
use Rattle.mt_endpoint.specs.Said.{said}
use Rattle.mt_endpoint.specs.Tunnels.{refusal_in}
use Rattle.mt_endpoint.specs.Writing.{OnMain, adds}
use Rattle.end_session.specs.declared.cause.Cause.{Cause}
use Rattle.end_session.specs.Causes.{why_in}
use Rattle.end_session.specs.Outgoing.{Outgoing, says}
use Rattle.end_session.specs.Standing.{Gone, Knows, Waits}
use Rattle.end_session.specs.Store.{Store}
use Rattle.end_session.proofs.Putting.{spoke}
use Rattle.end_session.proofs.Still.{IsStill, SaysNothing, TellsNothing}

-- it stands where it may
pub heard_lawful : (role : Role) (s : Store) (t : Trace Act) (heard : Heard) → Knows role s t → main_fault role t heard ≡ None → EndOfActs role (t ▷ Hears heard)
heard_lawful role s t heard k none = (sym (ap not k.begun), (tt, none), k.lawful)

-- there is nothing against it, by what was found
pub fine : (s now : Store) (t : Trace Act) (heard : Heard) (found : Option Cause) → s ≡ now → main_fault now.role t heard ≡ why_in found → found ≡ None → main_fault s.role t heard ≡ None
fine s now t heard found is against none = subst (λ (s : Store). main_fault s.role t heard ≡ None) (sym is) (against ∙ ap why_in none)

-- ---- channel PDUs

spoken_is : (role : Role) (t : Trace Act) (pdu : Pdu) → main_fault role t (Spoken pdu) ≡ spoken_fault role t pdu
spoken_is Server t pdu = refl
spoken_is Client t pdu = refl

fault_by_ready : (role : Role) (t : Trace Act) (pdu : Pdu) (b c : Bool) → is_ready t ≡ b → is_capable (said pdu) ≡ c
    → main_fault role t (Spoken pdu) ≡ cond b (cond c (Some Unexpected) (said_fault role t pdu (said pdu))) (when (not c) Unexpected)
fault_by_ready role t pdu b c r e =
    spoken_is role t pdu ∙ ap (λ b. cond b (cond (is_capable (said pdu)) (Some Unexpected) (said_fault role t pdu (said pdu))) (when (not (is_capable (said pdu))) Unexpected)) r
    ∙ ap (λ c. cond b (cond c (Some Unexpected) (said_fault role t pdu (said pdu))) (when (not c) Unexpected)) e

-- ahead of capabilities nothing else comes
pub ahead : (role : Role) (t : Trace Act) (pdu : Pdu) → is_ready t ≡ false → is_capable (said pdu) ≡ false → main_fault role t (Spoken pdu) ≡ Some Unexpected
ahead role t pdu r e = fault_by_ready role t pdu false false r e

pub behind : (role : Role) (t : Trace Act) (pdu : Pdu) → is_ready t ≡ true → is_capable (said pdu) ≡ false → main_fault role t (Spoken pdu) ≡ said_fault role t pdu (said pdu)
behind role t pdu r e = fault_by_ready role t pdu true false r e

-- capabilities come once
pub capable_first : (role : Role) (t : Trace Act) (version : ℕ) (charges : Option (List ℕ)) → is_ready t ≡ false → main_fault role t (Spoken (Caps version charges)) ≡ None
capable_first role t version charges r = fault_by_ready role t (Caps version charges) false true r refl

pub capable_again : (role : Role) (t : Trace Act) (version : ℕ) (charges : Option (List ℕ)) → is_ready t ≡ true → main_fault role t (Spoken (Caps version charges)) ≡ Some Unexpected
capable_again role t version charges r = fault_by_ready role t (Caps version charges) true true r refl

-- a channel PDU says nothing of a tunnel
no_refusal : (role : Role) (kind : Kind) (t : Trace Act) (pdu : Pdu) → refusal_in role kind t (Hears (Spoken pdu)) ≡ None
no_refusal Server kind t pdu = refl
no_refusal Client kind t pdu = refl

pub tells : (role : Role) (kind : Kind) (t : Trace Act) (pdu : Pdu) → TellsNothing role kind t (Hears (Spoken pdu))
tells role kind t pdu = record {
  no_request = refl;
  no_link = refl;
  no_verdict = refl;
  no_answer = refl;
  no_refusal = no_refusal role kind t pdu;
  no_silence = refl;
}

-- what is known of tunnels and words stays, where it says nothing of words either
pub spoken_still : (role : Role) (t : Trace Act) (pdu : Pdu) → SaysNothing (Hears (Spoken pdu)) → IsStill role t (Hears (Spoken pdu))
spoken_still role t pdu nothing = record { reliable = tells role Reliable t pdu; lossy = tells role Lossy t pdu; says = nothing; none_issued = refl }

-- ---- what waits

-- one channel PDU is written on the main stream
pub answered_by : (role : Role) (o after : Outgoing) (t : Trace Act) (gone : Gone) (act : Act) (pdu : Pdu) (bytes : List ℕ) → adds role t act ≡ OnMain (Spoken pdu) ∷ []
    → bytes ≡ spelled pdu → after ≡ record o { main = o.main ++ joined (frame_fields (Channel bytes)) } → Waits role o t gone → Waits role after (t ▷ act) gone
answered_by role o after t gone act pdu bytes e are is w =
    let says_is : after ≡ says (Spoken pdu) o = is ∙ ap (λ b. record o { main = o.main ++ joined (frame_fields (Channel b)) }) are in
    subst (λ o. Waits role o (t ▷ act) gone) (sym says_is) (spoke role o t gone act (Spoken pdu) e w)
