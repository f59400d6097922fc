-- Why calls of an end are refused, and why it does not take what it reads.
use Rattle.std.specs.Prelude.{◌≡◌, ℕ, not, nat_lt, List, Option, Some, None}
use Rattle.mt_base.specs.Trace.{Trace}
use Rattle.mt_endpoint.specs.Acts.{Act}
use Rattle.mt_endpoint.specs.Channels.{is_ready}
use Rattle.dvc_channels.specs.declared.answers.ChannelRefusal.{ChannelRefusal}
use Rattle.dvc_channels.specs.declared.answers.ChannelRefusal.TheVariants as refusal
use Rattle.mt_endpoint.specs.Faults.{Why}
use Rattle.mt_endpoint.specs.Faults as why
use Rattle.end_calls.specs.declared.fault.Fault.{Fault}
use Rattle.end_calls.specs.declared.fault.Fault.TheVariants as fault
use Rattle.end_calls.specs.declared.fault.Place.{Place}
use Rattle.end_calls.specs.declared.refusal.OpenRefusal.{OpenRefusal}
use Rattle.end_calls.specs.declared.refusal.OpenRefusal.TheVariants as opening
use Rattle.end_calls.specs.Refusing.{◌or_else◌, because, when, name_fault, next_id}
use Rattle.end_calls.specs.Streams.{fault_at}
use Rattle.end_session.specs.declared.cause.Cause.{Cause}
use Rattle.end_session.specs.declared.cause.Cause.TheVariants as reading

-- a channel isn't created for this cause; want of memory comes where there is none
abbrev pub IsOpenCause : Option OpenRefusal → OpenRefusal → Type 0
IsOpenCause cause opening.NoMemory = cause ≡ None
IsOpenCause cause why = cause ≡ Some why

-- the causes that are looked at before the queue
abbrev pub before_room : Option Fault → Trace Act → List ℕ → Option OpenRefusal
before_room broken t name =
    because opening.Broken broken or_else when (not (is_ready t)) opening.NotReady
    or_else because opening.BadName (name_fault name) or_else when (nat_lt 256 (next_id t)) (opening.TooMany 256)

-- ---- what is read

-- what a cause says of what was read; want of memory says nothing of it
abbrev pub why_of : Cause → Option Why
why_of reading.Unexpected = Some why.Unexpected
why_of reading.BadSyncAnswer = Some why.BadSyncAnswer
why_of (reading.SyncUnknown id) = Some (why.SyncUnknown id)
why_of (reading.Channel refused) = Some (why.Channel refused)
why_of (reading.TooLateOnMain id) = Some (why.TooLateOnMain id)
why_of reading.NoMemory = None

-- the same, where there is a cause
abbrev pub why_in : Option Cause → Option Why
why_in None = None
why_in (Some c) = why_of c

-- a PDU isn't taken for this cause: the first that there is against it; want of memory comes where there
-- is none
abbrev pub IsCause : Option Why → Cause → Type 0
IsCause found c = found ≡ why_of c

-- the fault of what was read at a place
abbrev pub fault_by : Place → Option Why → Fault
fault_by place None = fault.NoMemory
fault_by place (Some w) = fault_at place w

-- why the table of channels refuses a PDU
abbrev pub cause_of : ChannelRefusal → Cause
cause_of refusal.NoMemory = reading.NoMemory
cause_of refused = reading.Channel refused
