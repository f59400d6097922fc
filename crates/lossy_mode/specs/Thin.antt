-- The trace of a lossy link whose datagrams have the first layout (MS-RDPEUDP section 2.2), from its
-- opening on: what it sent and accepted, what it answers and sends, and the law of its traces. Each
-- part is sent once, and accepted where its number is above those of all accepted parts.
use Rattle.std.specs.Prelude.{◌≡◌, ℕ, ◌+◌, ◌-◌, ◌<◌, ◌≤◌, Bool, true, false, ◌&&◌, ◌||◌, nat_le, nat_lt, max, List, [], ◌∷◌, ◌++◌, length, drop, replicate, if◌then◌else◌, Option, Some, None, is_some, option_map, unwrap_or}
use Rattle.mt_base.specs.declared.kinds.Role.{Role}
use Rattle.mt_base.specs.declared.kinds.Role.TheVariants.{Server, Client}
use Rattle.mt_base.specs.Nearness.{nearest}
use Rattle.mt_base.specs.Trace.{Trace, Start, ◌▷◌}
use Rattle.mt_windows.specs.declared.limits.TheConstants.{NUMBERS, PART, WINDOW}
use Rattle.mt_windows.specs.Noted.{greatest_of, is_noted}
use Rattle.carrier.specs.declared.state.Took.{Took}
use Rattle.carrier.specs.declared.state.Took.TheVariants.{Used, Ignored}
use Rattle.carrier.specs.declared.state.Reason.TheVariants as reason
use Rattle.carrier.specs.Due.{is_pressing}
use Rattle.carrier.specs.Entries.{Entry, Gave, In, Polled, Pulled, Owed, Posted, Next, moment, posted}
use Rattle.carrier.specs.Law.{IsBytes}
use Rattle.carrier.specs.Layout.{Layout, Reading, Refuses, Shows, Shown, Load, Empty, Carries, Dummy, Correction, Telling, Upto, Carried, Datagram, bounded}
use Rattle.carrier.specs.PerfectThin.{handed, first_part, part_answer}
use Rattle.carrier.specs.Receiving.{floor_of, is_telling, reading}
use Rattle.link_machine.specs.Flags.{flags_from}
use Rattle.udp1_core.specs.FirstLayout.{modulus, shows, told_from}
use Rattle.udp_open.specs.declared.settings.OpenSettings.{OpenSettings}
use Rattle.udp_open.specs.declared.agreement.Agreement.{Agreement}
use Rattle.udp_open.specs.Handshake.{agreed, closes, is_closed, opening_answered, opening_due}
use Rattle.udp_open.specs.LinkTrace.{has_syn, layout_by}

-- ---- what an open link reads

-- a datagram that is read so, unless its flag SYN is set: then it belongs to the opening
abbrev pub plain : List ℕ → Reading → Reading
plain datagram r = if has_syn datagram then Refuses reason.NotOurs else r

abbrev pub is_part : Load → Bool
is_part Empty = false
is_part (Carries part transmission bytes) = true
is_part (Dummy transmission) = false
is_part Correction = false

abbrev pub carries : Reading → Bool
carries (Refuses why) = false
carries (Shows shown) = is_part shown.load

-- ---- what was sent

-- how many parts were sent: one by each datagram of the link that carries one
abbrev pub sent : Trace Entry → ℕ
sent Start = 0
sent (t ▷ Polled now (Some datagram)) = if carries (plain datagram (shows datagram)) then sent t + 1 else sent t
sent (t ▷ e) = sent t

-- the parts that were posted and not sent, the first one first
abbrev pub unsent : Trace Entry → List (List ℕ)
unsent t = drop (sent t) (posted t)

-- ---- what came

-- The numbers of the accepted parts, the latest first; these parts, in order; the floor below which
-- nothing has to be told any more; and the window last told by the other end.
pub record Got : Type 0 where
  pub numbers : List ℕ
  pub parts : List (List ℕ)
  pub floor : ℕ
  pub window : ℕ

abbrev pub nothing : Got
nothing = record { numbers = []; parts = []; floor = 0; window = WINDOW }

-- the greatest number of an accepted part, or one less than the first number of the other end
abbrev pub last_number : ℕ → List ℕ → ℕ
last_number peer numbers = unwrap_or (greatest_of numbers) (peer - 1)

-- the least number above all of them
abbrev pub next_number : ℕ → List ℕ → ℕ
next_number peer numbers = last_number peer numbers + 1

-- the number with this low part that is near to it
abbrev pub number_read : ℕ → List ℕ → ℕ → Option ℕ
number_read peer numbers low = bounded NUMBERS (nearest modulus (next_number peer numbers) low)

-- the answer to a part of this number, where so many accepted parts wait to be handed out
abbrev pub answer_number : ℕ → List ℕ → ℕ → Option ℕ → Took
answer_number peer numbers waiting None = Ignored reason.Unnumbered
answer_number peer numbers waiting (Some n) = part_answer (next_number peer numbers) waiting n

-- the answer to what a datagram carries
abbrev pub answer_load : ℕ → List ℕ → ℕ → Load → Took
answer_load peer numbers waiting Empty = Used
answer_load peer numbers waiting (Carries part transmission bytes) =
    answer_number peer numbers waiting (number_read peer numbers part)
answer_load peer numbers waiting (Dummy transmission) = Used
answer_load peer numbers waiting Correction = Ignored reason.FecDropped

-- with a part that was answered so: it is accepted where it is used
abbrev pub with_part : Took → Option ℕ → List ℕ → Got → Got
with_part (Ignored why) number bytes g = g
with_part Used None bytes g = g
with_part Used (Some n) bytes g = record g { numbers = n ∷ g.numbers; parts = g.parts ++ bytes ∷ [] }

abbrev pub with_load : ℕ → ℕ → Load → Got → Got
with_load peer waiting Empty g = g
with_load peer waiting (Carries part transmission bytes) g =
    with_part (answer_number peer g.numbers waiting (number_read peer g.numbers part)) (number_read peer g.numbers part) bytes g
with_load peer waiting (Dummy transmission) g = g
with_load peer waiting Correction g = g

-- the floor that is shown, read near the number that is expected before the datagram
abbrev pub floor_read : ℕ → List ℕ → Option ℕ → Option ℕ
floor_read peer numbers None = None
floor_read peer numbers (Some low) = number_read peer numbers low

-- a floor above the last number accepted then has no effect
abbrev pub with_floor : ℕ → Option ℕ → Got → Got
with_floor peer floor g = record g { floor = floor_of (last_number peer g.numbers) g.floor floor }

abbrev pub with_window : Option ℕ → Got → Got
with_window window g = record g { window = unwrap_or window g.window }

-- with a datagram that shows this
abbrev pub with_shown : ℕ → ℕ → Shown → Got → Got
with_shown peer waiting shown g =
    with_floor peer (floor_read peer g.numbers shown.floor) (with_load peer waiting shown.load (with_window shown.window g))

abbrev pub with_reading : ℕ → ℕ → Reading → Got → Got
with_reading peer waiting (Refuses why) g = g
with_reading peer waiting (Shows shown) g = with_shown peer waiting shown g

-- the accepted parts that were not handed out, where so many were
abbrev pub waiting_in : Got → ℕ → List (List ℕ)
waiting_in g n = drop n g.parts

-- what an open link reads of a datagram
abbrev pub read_open : OpenSettings → Agreement → List ℕ → Reading
read_open settings a datagram = plain datagram (reading (layout_by settings a) datagram)

abbrev pub got_by : OpenSettings → Option Agreement → ℕ → List ℕ → Got → Got
got_by settings None n datagram g = g
got_by settings (Some a) n datagram g =
    with_reading (a.peer_initial + 1) (length (waiting_in g n)) (read_open settings a datagram) g

-- what came at the open link
abbrev pub got : OpenSettings → Trace Entry → Got
got settings Start = nothing
got settings (t ▷ In now datagram took) =
    got_by settings (agreed settings t) (length (handed t)) datagram (got settings t)
got settings (t ▷ e) = got settings t

-- the accepted parts that wait to be handed out
abbrev pub waiting : OpenSettings → Trace Entry → List (List ℕ)
waiting settings t = waiting_in (got settings t) (length (handed t))

-- ---- the tellings that are owed

-- How many more a datagram makes owed that was used: at a client two where it is the opening that it
-- takes or a copy of it; one where its part is accepted.
abbrev pub owes : Role → Reading → ℕ
owes Server (Refuses why) = 0
owes Client (Refuses why) = 2
owes Server (Shows shown) = if is_part shown.load then 1 else 0
owes Client (Shows shown) = if is_part shown.load then 1 else 0

-- the moments from which on a telling is owed, the earliest first
abbrev pub tellings : OpenSettings → Trace Entry → List ℕ
tellings settings Start = []
tellings settings (t ▷ In now datagram Used) =
    tellings settings t ++ replicate (owes settings.role (plain datagram (shows datagram))) (max (moment t) now)
tellings settings (t ▷ Polled now (Some datagram)) =
    if is_telling (plain datagram (shows datagram)) then [] else tellings settings t
tellings settings (t ▷ e) = tellings settings t

-- ---- what is answered

-- the answer to what was read of a datagram, where this came and so many accepted parts wait
abbrev pub answer_reading : ℕ → Got → ℕ → Reading → Took
answer_reading peer g waiting (Refuses why) = Ignored why
answer_reading peer g waiting (Shows shown) = answer_load peer g.numbers waiting shown.load

-- An open link answers to openings as its opening does, to the rest by what they carry.
abbrev pub answered_by : OpenSettings → Trace Entry → Option Agreement → List ℕ → Took
answered_by settings t None datagram = opening_answered settings t datagram
answered_by settings t (Some a) datagram =
    if has_syn datagram then opening_answered settings t datagram
    else answer_reading (a.peer_initial + 1) (got settings t) (length (waiting settings t)) (reading (layout_by settings a) datagram)

-- the answer to a datagram
abbrev pub thin_answered : OpenSettings → Trace Entry → List ℕ → Took
thin_answered settings t datagram = answered_by settings t (agreed settings t) datagram

-- ---- what is sent

-- A telling names the greatest accepted part, or the number before the first one; its flags say which
-- of the last numbers up to it were accepted.
abbrev pub telling_of : ℕ → List ℕ → ℕ → Telling
telling_of peer numbers floor =
    let y = last_number peer numbers in
    Upto y (flags_from (λ n. is_noted n numbers) (told_from peer floor y) (y + 1 - told_from peer floor y))

abbrev pub datagram_of : ℕ → Got → Bool → Option Carried → Datagram
datagram_of peer g tells load = record {
  telling = telling_of peer g.numbers g.floor;
  tells = tells;
  floor = None;
  load = load;
}

-- the next part, under a transmission of the same number
abbrev pub next_load : ℕ → List ℕ → Carried
next_load number bytes = record { part = number; transmission = number; bytes = bytes }

-- a part carries the telling where one is owed and the datagram stays short enough
abbrev pub part_datagram : Layout → Got → List ℕ → Carried → Datagram
part_datagram layout g owed load =
    datagram_of layout.peer g
    (nat_lt 0 (length owed)
    && nat_le (length (layout.spell (datagram_of layout.peer g true (Some load)))) layout.bounds.with_telling)
    (Some load)

-- a part may be sent: one waits, the other end has a window, and there is a number for it
abbrev pub may_send : List (List ℕ) → ℕ → ℕ → Bool
may_send parts window number = nat_lt 0 (length parts) && (nat_lt 0 window && nat_lt number NUMBERS)

abbrev pub part_meant : Layout → Got → List ℕ → ℕ → List (List ℕ) → Option Datagram
part_meant layout g owed number [] = None
part_meant layout g owed number (bytes ∷ parts) = Some (part_datagram layout g owed (next_load number bytes))

abbrev pub bare_meant : Layout → Got → List ℕ → ℕ → Option Datagram
bare_meant layout g owed at =
    if is_pressing layout owed at then Some (datagram_of layout.peer g true None) else None

-- What an open link sends at a moment that is not before the last one, where these parts wait, the
-- first of which gets this number: the next part; else a telling alone.
abbrev pub meant_by : Layout → Got → List ℕ → ℕ → List (List ℕ) → ℕ → Option Datagram
meant_by layout g owed number parts at =
    if may_send parts g.window number then part_meant layout g owed number parts
    else bare_meant layout g owed at

-- the datagram that a link sends which agreed on this; before that none
abbrev pub sent_by : OpenSettings → Option Agreement → Got → List ℕ → ℕ → List (List ℕ) → ℕ → Option (List ℕ)
sent_by settings None g owed number parts at = None
sent_by settings (Some a) g owed number parts at =
    option_map (layout_by settings a).spell (meant_by (layout_by settings a) g owed number parts at)

abbrev pub first_due : Option (List ℕ) → Option (List ℕ) → Option (List ℕ)
first_due None later = later
first_due (Some datagram) later = Some datagram

-- the datagram that a poll sends: what the opening has due, and then what the open link means
abbrev pub thin_due : OpenSettings → Trace Entry → ℕ → Option (List ℕ)
thin_due settings t now =
    first_due (opening_due settings t now)
    (sent_by settings (agreed settings t) (got settings t) (tellings settings t) (settings.initial + 1 + sent t) (unsent t)
    (max (moment t) now))

-- ---- the law

-- what is true of one call after the calls before it
abbrev pub Answers : OpenSettings → Trace Entry → Entry → Type 0
Answers settings t (In now datagram took) = took ≡ thin_answered settings t datagram
Answers settings t (Polled now out) = out ≡ thin_due settings t now
Answers settings t (Posted bytes) =
    (is_closed settings t ≡ false) × (length (unsent t) < WINDOW) × (1 ≤ length bytes) × (length bytes ≤ PART) × IsBytes bytes
Answers settings t (Next bytes) = bytes ≡ first_part (waiting settings t)
Answers settings t (Gave bytes) = ⊥
Answers settings t (Pulled room bytes) = ⊥
Answers settings t (Owed count) = ⊥

-- Each datagram is answered so; each poll sends what is due; each part handed out is the next one; and
-- what is posted are parts of bytes that stay within the window. There are no other calls.
abbrev pub Thin : OpenSettings → Trace Entry → Type 0
Thin settings Start = Unit {0}
Thin settings (t ▷ e) = Answers settings t e × Thin settings t

-- ---- when

-- a poll at this moment sends a datagram or closes the link
abbrev pub is_due : OpenSettings → Trace Entry → ℕ → Bool
is_due settings t at = is_some (thin_due settings t at) || closes settings t (max (moment t) at)

-- The least moment, from the last one on, at which a poll sends a datagram or closes the link, if no
-- other call comes; None where there is none.
abbrev pub IsNextDue : OpenSettings → Trace Entry → Option ℕ → Type 0
IsNextDue settings t None = (at : ℕ) → is_due settings t at ≡ false
IsNextDue settings t (Some m) =
    (moment t ≤ m) × (is_due settings t m ≡ true) × ((at : ℕ) → moment t ≤ at → at < m → is_due settings t at ≡ false)
