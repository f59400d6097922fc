-- A frame of the main stream is read, or isn't.
use Rattle.std.specs.Prelude.{◌≡◌, ℕ, true, List, Option, Some, None, Result, Ok, Err}
use Rattle.mt_base.specs.Ends.{other}
use Rattle.mt_base.specs.declared.kinds.Role.{Role}
use Rattle.mt_base.specs.Trace.{Trace, ◌▷◌}
use Rattle.dvc_pdus.specs.declared.pdu.DvcRefusal.{DvcRefusal}
use Rattle.dvc_pdus.specs.Layout.{Encodes}
use Rattle.dvc_pdus.specs.Value.{Pdu}
use Rattle.mt_endpoint.specs.Acts.{Act, Heard, Hears, TunnelAsked, TunnelAnswered, Spoken}
use Rattle.mt_endpoint.specs.Faults.{Why, main_fault}
use Rattle.end_calls.specs.declared.fault.Fault.{Fault}
use Rattle.end_calls.specs.declared.fault.Fault.TheVariants as fault
use Rattle.end_calls.specs.declared.fault.Place.{Place}
use Rattle.end_calls.specs.Law.{takes_memory}
use Rattle.end_session.specs.declared.unread.Unread.{Unread}
use Rattle.end_session.specs.declared.unread.Unread.TheVariants as unread
use Rattle.end_session.specs.Causes.{IsCause, fault_by, why_of}
use Rattle.end_session.specs.Standing.{Gone, Stands}
use Rattle.end_session.specs.Store.{Store}

-- some bytes are this PDU of the other end
abbrev pub WasRead : Role → Pdu → Type 0
WasRead role pdu = (bytes : List ℕ) × Encodes (other role) bytes pdu

-- the channel PDU that a frame says
abbrev pub pdu_in : Heard → Option Pdu
pdu_in (TunnelAsked id kind cookie) = None
pdu_in (TunnelAnswered id hr) = None
pdu_in (Spoken pdu) = Some pdu

abbrev pub spoken_in : Result Heard DvcRefusal → Option Pdu
spoken_in (Ok heard) = pdu_in heard
spoken_in (Err refusal) = None

-- memory was wanting only where an act takes it
abbrev pub MayLack : Act → Option Why → Type 0
MayLack act None = takes_memory act ≡ true
MayLack act (Some why) = Unit {0}

-- what a frame says has no fault, and its act was made
abbrev pub IsHeard : Role → Result Heard DvcRefusal → Trace Act → Gone → Store → Type 0
IsHeard role (Ok heard) t gone s = (main_fault role t heard ≡ None) × Stands s (t ▷ Hears heard) gone
IsHeard role (Err refusal) t gone s = ⊥

-- a frame isn't read: it carries no channel PDU, or there is this against what it says
abbrev pub IsUnread : Role → Result Heard DvcRefusal → Trace Act → Unread → Type 0
IsUnread role (Ok heard) t (unread.Cause cause) = IsCause (main_fault role t heard) cause × MayLack (Hears heard) (why_of cause)
IsUnread role (Err refusal) t (unread.Pdu found) = found ≡ refusal
IsUnread role heard t why = ⊥

-- the fault of a frame that isn't read
abbrev pub unread_at : Place → Unread → Fault
unread_at place (unread.Pdu refusal) = fault.Pdu place refusal
unread_at place (unread.Cause cause) = fault_by place (why_of cause)
