-- The opening of a link (MS-RDPEUDP section 3.1.5.1): a client gives its SYN until it is answered, a
-- server answers each copy of the SYN that it took, and so both agree on a version and know each
-- other's initial number. What each end takes, answers and sends is said by the calls so far.
use Rattle.std.specs.Prelude.{◌≡◌, ℕ, ◌+◌, ◌-◌, ◌*◌, ◌^◌, ◌<◌, ◌≤◌, ◌==◌, Bool, true, false, not, ◌&&◌, ◌||◌, nat_eq, nat_le, nat_lt, min, max, List, length, if◌then◌else◌, Option, Some, None, is_some, option_map, Result, Ok, Err}
use Rattle.std.specs.Cmp.Lexicographic.{pointwise}
use Rattle.mt_base.specs.declared.kinds.Role.{Role}
use Rattle.mt_base.specs.declared.kinds.Role.TheVariants.{Server, Client}
use Rattle.mt_base.specs.declared.kinds.Kind.{Kind}
use Rattle.mt_base.specs.declared.kinds.Kind.TheVariants.{Reliable, Lossy}
use Rattle.mt_base.specs.Trace.{Trace, Start, ◌▷◌}
use Rattle.mt_windows.specs.declared.limits.TheConstants.{WINDOW, DATAGRAM}
use Rattle.carrier.specs.declared.first_layout.Refusal1.{Refusal1}
use Rattle.carrier.specs.declared.state.Took.{Took}
use Rattle.carrier.specs.declared.state.Took.TheVariants.{Used, Ignored}
use Rattle.carrier.specs.declared.state.Reason.{Reason}
use Rattle.carrier.specs.declared.state.Reason.TheVariants as reason
use Rattle.carrier.specs.Entries.{Entry, In, Polled, moment}
use Rattle.carrier.specs.Receiving.{has_effect}
use Rattle.udp1_packets.specs.Value.{Extended, Syn, Body, SynBody, DataBody, FecBody, BareBody, Packet}
use Rattle.udp1_packets.specs.Layout.{has, is_valid, spelled}
use Rattle.udp1_packets.specs.Reading.{packet_at}
use Rattle.udp_open.specs.declared.settings.OpenSettings.{OpenSettings}
use Rattle.udp_open.specs.declared.agreement.Agreement.{Agreement}
use Rattle.udp_open.specs.declared.timer.Timer.{Timer}

-- ---- what a datagram shows

abbrev pub packet_or : Result Packet Refusal1 → Result Packet Reason
packet_or (Ok p) = Ok p
packet_or (Err refusal) = Err (reason.First refusal)

-- the packet that a datagram spells, or why there is none
abbrev pub shown : List ℕ → Result Packet Reason
shown datagram =
    if nat_lt DATAGRAM (length datagram) then Err reason.TooLong
    else packet_or (packet_at (record { at = 0; bytes = datagram }))

-- the version that an opening names: 0x0001 where no extension says that it names one
abbrev pub version_in : Option Extended → ℕ
version_in None = 0x0001
version_in (Some e) = if is_valid e.flags then e.version else 0x0001

-- the hash of a cookie, where one is there, is this one
abbrev pub is_hash : List ℕ → Option (List ℕ) → Bool
is_hash own None = true
is_hash own (Some hash) = pointwise nat_eq hash own

abbrev pub knows : List ℕ → Option Extended → Bool
knows own None = true
knows own (Some e) = is_hash own e.hash

-- the flag SYNLOSSY (section 2.2.2.1) stands in the openings of a lossy link, and in no others
abbrev pub is_of : Kind → Bool → Bool
is_of Reliable lossy = not lossy
is_of Lossy lossy = lossy

-- a server hears SYNs, a client SYN+ACKs
abbrev pub is_for : Role → Bool → Bool
is_for Server answer = not answer
is_for Client answer = answer

-- ---- what is agreed on

-- The version is the lower of the two that the ends offer. A version that an answer names was
-- offered.
abbrev pub agreement : ℕ → Syn → Agreement
agreement offered syn = record {
  version = min (version_in syn.extension) offered;
  peer_initial = syn.initial;
  extended = is_some syn.extension;
}

-- A server takes a SYN of its kind of link that shows no hash but that of its cookie. A client takes
-- a SYN+ACK that names its initial number, and no version above its own.
abbrev pub judged : OpenSettings → Role → Packet → Syn → Result Agreement Reason
judged settings Server p syn =
    if not (is_of settings.kind (has p.marks 0x0200)) then Err reason.WrongKind
    else (if not (knows settings.cookie_hash syn.extension) then Err reason.UnknownCookie
    else Ok (agreement settings.version syn))
judged settings Client p syn =
    if (p.ack == settings.initial) && nat_le (version_in syn.extension) settings.version
    then Ok (agreement settings.version syn) else Err reason.BadAnswer

-- what an end agrees on by a packet, or why by none
abbrev pub takes : OpenSettings → Packet → Body → Result Agreement Reason
takes settings p (SynBody syn) =
    if is_for settings.role syn.answer then judged settings settings.role p syn else Err reason.NotOpen
takes settings p (DataBody vector aoa coded start bytes) = Err reason.NotOpen
takes settings p (FecBody vector aoa coded start range index bytes) = Err reason.NotOpen
takes settings p (BareBody vector aoa rest) = Err reason.NotOpen

-- a copy of the SYN or SYN+ACK that was taken: one with its initial number
abbrev pub is_copy : OpenSettings → Agreement → Body → Bool
is_copy settings a (SynBody syn) = is_for settings.role syn.answer && (syn.initial == a.peer_initial)
is_copy settings a (DataBody vector aoa coded start bytes) = false
is_copy settings a (FecBody vector aoa coded start range index bytes) = false
is_copy settings a (BareBody vector aoa rest) = false

-- The first that is taken decides; afterwards only its copies are heard.
abbrev pub heard : OpenSettings → Option Agreement → Packet → Result Agreement Reason
heard settings None p = takes settings p p.body
heard settings (Some a) p = if is_copy settings a p.body then Ok a else Err reason.NotOurs

abbrev pub hears : OpenSettings → Option Agreement → Result Packet Reason → Result Agreement Reason
hears settings a (Ok p) = heard settings a p
hears settings a (Err why) = Err why

abbrev pub agreed_by : Option Agreement → Result Agreement Reason → Option Agreement
agreed_by a (Ok b) = Some b
agreed_by a (Err why) = a

-- what the ends agreed on: what was heard first; what a closed link ignored was not heard
abbrev pub agreed : OpenSettings → Trace Entry → Option Agreement
agreed settings Start = None
agreed settings (t ▷ In now datagram took) =
    if has_effect took then agreed_by (agreed settings t) (hears settings (agreed settings t) (shown datagram))
    else agreed settings t
agreed settings (t ▷ e) = agreed settings t

-- ---- the SYN+ACKs that are owed

-- The count stands still at the greatest value of 64 bits.
abbrev pub owed_by : Role → ℕ → Result Agreement Reason → ℕ
owed_by Server count (Ok a) = min (count + 1) (2 ^ 64 - 1)
owed_by Server count (Err why) = count
owed_by Client count heard = count

-- a server owes one for each copy of the SYN that it took
abbrev pub owed : OpenSettings → Trace Entry → ℕ
owed settings Start = 0
owed settings (t ▷ In now datagram took) =
    if has_effect took then owed_by settings.role (owed settings t) (hears settings (agreed settings t) (shown datagram))
    else owed settings t
owed settings (t ▷ Polled now (Some out)) = owed settings t - 1
owed settings (t ▷ e) = owed settings t

-- ---- the timer of the SYN

-- the moment of its next expiry: each expiry in a row doubles its wait, four times at most
abbrev pub expiry : Timer → ℕ
expiry timer = timer.start + 500 * 2 ^ min timer.expiries 4

-- a SYN is given at this moment: at once for the first time, and then at each expiry
abbrev pub is_time : Option Timer → ℕ → Bool
is_time None at = true
is_time (Some timer) at = nat_le timer.expiries 16 && nat_le (expiry timer) at

abbrev pub started : Option Timer → ℕ → Timer
started None at = record { start = at; expiries = 0 }
started (Some timer) at = record { start = at; expiries = timer.expiries + 1 }

-- expiries in a row
abbrev pub row : Option Timer → ℕ
row None = 0
row (Some timer) = timer.expiries

-- a client whose SYN was not answered
abbrev pub is_asking : Role → Option Agreement → Bool
is_asking Server a = false
is_asking Client None = true
is_asking Client (Some a) = false

abbrev pub timer_by : Option Timer → Result Agreement Reason → Option Timer
timer_by timer (Ok a) = None
timer_by timer (Err why) = timer

-- The timer, which runs from the first SYN on until its answer is taken, and starts anew at each
-- expiry.
abbrev pub timer : OpenSettings → Trace Entry → Option Timer
timer settings Start = None
timer settings (t ▷ In now datagram took) =
    if has_effect took then timer_by (timer settings t) (hears settings (agreed settings t) (shown datagram))
    else timer settings t
timer settings (t ▷ Polled now out) =
    let at = max (moment t) now in
    if is_asking settings.role (agreed settings t) && is_time (timer settings t) at
    then Some (started (timer settings t) at) else timer settings t
timer settings (t ▷ e) = timer settings t

abbrev pub expiries : OpenSettings → Trace Entry → ℕ
expiries settings t = row (timer settings t)

-- more expiries in a row than an opening survives
abbrev pub is_closed : OpenSettings → Trace Entry → Bool
is_closed settings t = nat_lt 16 (expiries settings t)

-- ---- what is sent

-- The extension that names a version (section 2.2.2.9). A SYN that names 0x0101 shows the hash of its
-- cookie.
abbrev pub names : Bool → List ℕ → ℕ → Extended
names answer own version = record {
  flags = 0x0001;
  version = version;
  hash = if not answer && (version == 0x0101) then Some own else None;
}

abbrev pub marks_of : Kind → ℕ
marks_of Reliable = 0
marks_of Lossy = 0x0200

-- the zeros that fill an opening up to 1,232 bytes
abbrev pub behind : Option (List ℕ) → ℕ
behind None = 1212
behind (Some hash) = 1180

abbrev pub filling : Option Extended → ℕ
filling None = 1216
filling (Some e) = behind e.hash

-- a SYN or a SYN+ACK of this end, that names a version or none
abbrev pub opening_syn : OpenSettings → Bool → Option ℕ → Syn
opening_syn settings answer version = record {
  answer = answer;
  initial = settings.initial;
  up = 1232;
  down = 1232;
  correlation = None;
  extension = option_map (names answer settings.cookie_hash) version;
  padding = filling (option_map (names answer settings.cookie_hash) version);
}

abbrev pub opening : OpenSettings → Bool → ℕ → Option ℕ → Packet
opening settings answer ack version = record {
  ack = ack;
  window = WINDOW;
  marks = marks_of settings.kind;
  body = SynBody (opening_syn settings answer version);
}

-- the SYN of a client names its version, but for the first one
abbrev pub syn : OpenSettings → Packet
syn settings =
    opening settings false 0xFFFFFFFF (if settings.version == 0x0001 then None else Some settings.version)

-- the SYN+ACK of a server names the version where the SYN has an extension
abbrev pub syn_ack : OpenSettings → Agreement → Packet
syn_ack settings a = opening settings true a.peer_initial (if a.extended then Some a.version else None)

-- At a moment a client sends its SYN, but not at the last expiry, at which it closes.
abbrev pub asked : OpenSettings → Option Timer → ℕ → Option Packet
asked settings timer at =
    if is_time timer at && nat_lt (row timer) 16 then Some (syn settings) else None

abbrev pub sent : OpenSettings → Role → Option Agreement → Option Timer → ℕ → ℕ → Option Packet
sent settings Server None timer owed at = None
sent settings Server (Some a) timer owed at = if nat_lt 0 owed then Some (syn_ack settings a) else None
sent settings Client None timer owed at = asked settings timer at
sent settings Client (Some a) timer owed at = None

-- what a poll means to send; a moment before the last one counts as the last one
abbrev pub opening_meant : OpenSettings → Trace Entry → ℕ → Option Packet
opening_meant settings t now =
    sent settings settings.role (agreed settings t) (timer settings t) (owed settings t) (max (moment t) now)

-- the datagram that a poll sends
abbrev pub opening_due : OpenSettings → Trace Entry → ℕ → Option (List ℕ)
opening_due settings t now = option_map spelled (opening_meant settings t now)

-- a poll at this moment closes the link
abbrev pub closes : OpenSettings → Trace Entry → ℕ → Bool
closes settings t at =
    is_asking settings.role (agreed settings t) && (is_time (timer settings t) at && nat_le 16 (expiries settings t))

-- ---- the law

abbrev pub took_by : Result Agreement Reason → Took
took_by (Ok a) = Used
took_by (Err why) = Ignored why

-- the answer to a datagram
abbrev pub opening_answered : OpenSettings → Trace Entry → List ℕ → Took
opening_answered settings t datagram =
    if is_closed settings t then Ignored reason.LinkClosed
    else took_by (hears settings (agreed settings t) (shown datagram))

-- each datagram is answered so, and each poll sends what is due; an opening has no other calls
abbrev pub Opens : OpenSettings → Trace Entry → Type 0
Opens settings Start = Unit {0}
Opens settings (t ▷ In now datagram took) = (took ≡ opening_answered settings t datagram) × Opens settings t
Opens settings (t ▷ Polled now out) = (out ≡ opening_due settings t now) × Opens settings t
Opens settings (t ▷ e) = ⊥

-- ---- when

-- a poll at this moment sends a datagram or closes the link
abbrev pub is_due : OpenSettings → Trace Entry → ℕ → Bool
is_due settings t at = is_some (opening_meant settings t at) || closes settings t (max (moment t) at)

-- The least moment, from the last one on, at which a poll sends a datagram or closes the link, if no
-- other call comes; None where there is none.
abbrev pub IsNextDue : OpenSettings → Trace Entry → Option ℕ → Type 0
IsNextDue settings t None = (at : ℕ) → is_due settings t at ≡ false
IsNextDue settings t (Some m) =
    (moment t ≤ m) × (is_due settings t m ≡ true) × ((at : ℕ) → moment t ≤ at → at < m → is_due settings t at ≡ false)
