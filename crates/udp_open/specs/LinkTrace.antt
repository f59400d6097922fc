-- The trace of a link that opens and then goes on as a machine of the layout that was agreed on: which
-- of its calls reach the machine, what is answered and sent, and the law of its traces.
use Rattle.std.specs.Prelude.{◌≡◌, ℕ, ◌%◌, ◌≤◌, ◌==◌, Bool, not, ◌&&◌, ◌||◌, nat_le, nat_lt, max, List, [], ◌∷◌, length, get_or, if◌then◌else◌, Option, Some, None, Result, is_ok, false}
use Rattle.mt_base.specs.declared.kinds.Role.{Role}
use Rattle.mt_base.specs.declared.kinds.Role.TheVariants.{Server, Client}
use Rattle.mt_base.specs.Trace.{Trace, Start, ◌▷◌}
use Rattle.mt_windows.specs.declared.limits.TheConstants.{DATAGRAM, QUEUE}
use Rattle.carrier.specs.declared.state.Took.{Took}
use Rattle.carrier.specs.declared.state.Took.TheVariants.{Used, Ignored}
use Rattle.carrier.specs.declared.state.Reason.{Reason}
use Rattle.carrier.specs.declared.state.Reason.TheVariants as reason
use Rattle.carrier.specs.Entries.{Entry, Gave, In, Polled, Pulled, Owed, Posted, Next, moment, given}
use Rattle.carrier.specs.Layout.{Layout}
use Rattle.carrier.specs.Sending.{is_closed}
use Rattle.carrier.specs.Due.{due}
use Rattle.carrier.specs.Law.{IsBytes, answered, Faithful}
use Rattle.udp1_core.specs.MachineView.{link_layout as first_link_layout}
use Rattle.link_core.specs.CoreView.{is_second, link_layout}
use Rattle.udp_open.specs.declared.settings.OpenSettings.{OpenSettings}
use Rattle.udp_open.specs.declared.agreement.Agreement.{Agreement}
use Rattle.udp_open.specs.Handshake.{agreed, hears, opening_answered, opening_due, owed, shown}

-- ---- the machine of a link

-- the flag SYN (MS-RDPEUDP section 2.2.2.1) is the lowest bit of a datagram's eighth byte
abbrev pub has_syn : List ℕ → Bool
has_syn datagram = get_or datagram 7 0 % 2 == 1

-- A copy of the SYN that a server took, by what is heard in a datagram. A client takes no SYN.
abbrev pub is_syn_copy : Role → Result Agreement Reason → Bool
is_syn_copy Server heard = is_ok heard
is_syn_copy Client heard = false

-- Whether a datagram that comes to an open link is one of its opening. In versions 1 and 2 each with the
-- flag SYN is. In version 0x0101 that bit is another one, and only a copy of the SYN at a server is.
abbrev pub is_of_opening : OpenSettings → Agreement → List ℕ → Bool
is_of_opening settings a datagram =
    if is_second a.version then is_syn_copy settings.role (hears settings (Some a) (shown datagram))
    else has_syn datagram

-- A packet of the second layout has at 7 its prefix byte (MS-RDPEUDP2 section 2.2), which is 0x40 at
-- least. A datagram with a lower byte there is none; every SYN and SYN+ACK is such a one.
abbrev pub is_low : List ℕ → Bool
is_low datagram =
    nat_le 8 (length datagram) && (nat_le (length datagram) DATAGRAM && nat_lt (get_or datagram 7 0) 0x40)

abbrev pub is_no_packet : Agreement → List ℕ → Bool
is_no_packet a datagram = is_second a.version && is_low datagram

-- whether a datagram that comes to an open link is taken by its machine
abbrev pub is_for_machine : OpenSettings → Agreement → List ℕ → Bool
is_for_machine settings a datagram = not (is_of_opening settings a datagram || is_no_packet a datagram)

-- the layout of the first machine, where this was agreed on
abbrev pub layout_by : OpenSettings → Agreement → Layout
layout_by settings a = first_link_layout settings.initial a.peer_initial a.version

-- the layout of the machine, where this was agreed on
abbrev pub machine_layout : OpenSettings → Agreement → Layout
machine_layout settings a = link_layout settings.initial a.peer_initial a.version

-- what the opening that was taken, and each copy of it, tells a machine: at a client that two tellings
-- are owed
abbrev pub tellings : Role → List Entry
tellings Server = []
tellings Client = Owed 2 ∷ []

-- what the opening that is taken tells it before that: the bytes that were given while the link opened
abbrev pub begins : Role → List ℕ → List Entry
begins role early = Gave early ∷ tellings role

abbrev pub begins_by : OpenSettings → Option Agreement → List ℕ → List Entry
begins_by settings None early = []
begins_by settings (Some a) early = begins settings.role early

abbrev pub copies : Role → Took → List Entry
copies role Used = tellings role
copies role (Ignored why) = []

-- What a call of an open link tells its machine: all but openings and what is no packet, at the link's
-- own moments.
abbrev pub reaches : OpenSettings → Agreement → Trace Entry → Entry → List Entry
reaches settings a t (Gave bytes) = Gave bytes ∷ []
reaches settings a t (In now datagram took) =
    if is_for_machine settings a datagram then In (max (moment t) now) datagram took ∷ [] else copies settings.role took
reaches settings a t (Polled now out) =
    if nat_lt 0 (owed settings t) then [] else Polled (max (moment t) now) out ∷ []
reaches settings a t (Pulled room bytes) = Pulled room bytes ∷ []
reaches settings a t (Owed count) = []
reaches settings a t (Posted bytes) = []
reaches settings a t (Next bytes) = []

-- what a call tells the machine
abbrev pub tells : OpenSettings → Trace Entry → Option Agreement → Entry → List Entry
tells settings t None e = begins_by settings (agreed settings (t ▷ e)) (given t)
tells settings t (Some a) e = reaches settings a t e

-- a trace with more entries
abbrev pub with_entries : {E : Type 0} → Trace E → List E → Trace E
with_entries t [] = t
with_entries t (e ∷ es) = with_entries (t ▷ e) es

-- the trace of the machine
abbrev pub machine : OpenSettings → Trace Entry → Trace Entry
machine settings Start = Start
machine settings (t ▷ e) = with_entries (machine settings t) (tells settings t (agreed settings t) e)

-- ---- what is answered and sent

-- An open link answers to openings as its opening does, to the rest as its machine.
abbrev pub answered_open : OpenSettings → Trace Entry → Agreement → List ℕ → Took
answered_open settings t a datagram =
    if is_closed (machine_layout settings a) (machine settings t) then Ignored reason.LinkClosed
    else (if is_of_opening settings a datagram then opening_answered settings t datagram
    else answered (machine_layout settings a) (machine settings t) datagram)

abbrev pub answered_by : OpenSettings → Trace Entry → Option Agreement → List ℕ → Took
answered_by settings t None datagram = opening_answered settings t datagram
answered_by settings t (Some a) datagram = answered_open settings t a datagram

-- the answer to a datagram
abbrev pub link_answered : OpenSettings → Trace Entry → List ℕ → Took
link_answered settings t datagram = answered_by settings t (agreed settings t) datagram

-- An open link sends the answers to openings that it owes, and then what its machine sends; a closed
-- one sends nothing.
abbrev pub due_open : OpenSettings → Trace Entry → Agreement → ℕ → Option (List ℕ)
due_open settings t a now =
    if is_closed (machine_layout settings a) (machine settings t) then None
    else (if nat_lt 0 (owed settings t) then opening_due settings t now
    else due (machine_layout settings a) (machine settings t) (max (moment t) now))

abbrev pub due_by : OpenSettings → Trace Entry → Option Agreement → ℕ → Option (List ℕ)
due_by settings t None now = opening_due settings t now
due_by settings t (Some a) now = due_open settings t a now

-- the datagram that a poll sends
abbrev pub link_due : OpenSettings → Trace Entry → ℕ → Option (List ℕ)
link_due settings t now = due_by settings t (agreed settings t) now

-- ---- the law

-- the machine's law, once the ends have agreed; before that nothing is pulled, and what is given are
-- bytes that stay within the queue
abbrev pub KeepsMachine : OpenSettings → Option Agreement → Trace Entry → Type 0
KeepsMachine settings None t = (length (given t) ≤ QUEUE) × IsBytes (given t)
KeepsMachine settings (Some a) t = Faithful (machine_layout settings a) (machine settings t)

-- what is true of one call after the calls before it
abbrev pub Answers : OpenSettings → Trace Entry → Entry → Type 0
Answers settings t (In now datagram took) = took ≡ link_answered settings t datagram
Answers settings t (Polled now out) = out ≡ link_due settings t now
Answers settings t (Gave bytes) = Unit {0}
Answers settings t (Pulled room bytes) = PulledBy (agreed settings t) bytes where
  PulledBy : Option Agreement → List ℕ → Type 0
  PulledBy None bytes = bytes ≡ []
  PulledBy (Some a) bytes = Unit {0}
Answers settings t (Owed count) = ⊥
Answers settings t (Posted bytes) = ⊥
Answers settings t (Next bytes) = ⊥

-- Each datagram is answered and each poll sends so, and the machine's trace keeps its law.
abbrev pub LinkFaithful : OpenSettings → Trace Entry → Type 0
LinkFaithful settings Start = Unit {0}
LinkFaithful settings (t ▷ e) =
    Answers settings t e × KeepsMachine settings (agreed settings (t ▷ e)) (t ▷ e) × LinkFaithful settings t
