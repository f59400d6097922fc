-- What a link stands for.
use Rattle.std.specs.Prelude.{◌≡◌, ℕ, ◌≤◌, ◌<◌, ◌&&◌, ◌||◌, Bool, true, false, not, max, is_some, nat_lt, List, [], if◌then◌else◌, Option, Some, None}
use Rattle.mt_base.specs.Trace.{Trace, Start, ◌▷◌}
use Rattle.mt_windows.specs.ArrivedView.{left_of}
use Rattle.mt_windows.specs.SendingView.{queued_of}
use Rattle.carrier.specs.declared.state.LinkState.{LinkState}
use Rattle.carrier.specs.declared.state.LinkState.TheVariants.{Opening, Open, Closed}
use Rattle.carrier.specs.Entries.{Entry, Gave, moment}
use Rattle.link_core.specs.CoreView.{Core, Stands, condition_of, layout_of}
use Rattle.udp_open.specs.declared.agreement.Agreement.{Agreement}
use Rattle.udp_open.specs.Handshake.{agreed, row, owed, closes}
use Rattle.udp_open.specs.OpeningView.{Handshake, Follows}
use Rattle.udp_open.specs.LinkTrace.{LinkFaithful, machine, machine_layout, link_due}
use Rattle.udp_open.specs.declared.settings.OpenSettings.{OpenSettings}
use Rattle.carrier.specs.Due.{closes as machine_closes}

-- what is kept: the opening, and the machine, in whose queue the bytes wait that are given while it
-- opens
pub record Link : Type 0 where
  pub opening : Handshake
  pub core : Core

-- the bytes given, and no other call
abbrev pub gives : Trace Entry → Trace Entry
gives Start = Start
gives (t ▷ Gave bytes) = gives t ▷ Gave bytes
gives (t ▷ e) = gives t

-- While it opens the machine is given what the link is given, and nothing else; once the ends agreed it
-- stands for its trace, under the layout that was agreed on.
abbrev pub StandsBy : Link → Trace Entry → Option Agreement → Type 0
StandsBy l t None = Stands l.core (gives t)
StandsBy l t (Some a) =
    Stands l.core (machine (l.opening).settings t) × (layout_of l.core ≡ machine_layout (l.opening).settings a)

-- this link stands for this trace
pub record StandsLink (l : Link) (t : Trace Entry) : Type 0 where
  pub follows : Follows l.opening t
  pub machine_is : StandsBy l t (agreed (l.opening).settings t)
  pub faithful : LinkFaithful (l.opening).settings t

-- what is true of every link: the machine is not closed while it opens
abbrev pub IsSoundLink : Link → Type 0
IsSoundLink l = (l.opening).agreement ≡ None → condition_of l.core ≡ Open

-- ---- by what was agreed on

abbrev pub is_closed_state : LinkState → Bool
is_closed_state Opening = false
is_closed_state Open = false
is_closed_state (Closed expiries) = true

-- what the link is
abbrev pub condition_by : Link → Option Agreement → LinkState
condition_by l None = if nat_lt 16 (row (l.opening).timer) then Closed (row (l.opening).timer) else Opening
condition_by l (Some a) = condition_of l.core

abbrev pub condition_in : Link → LinkState
condition_in l = condition_by l (l.opening).agreement

-- the bytes in order that were not pulled
abbrev pub left_by : Link → Option Agreement → List ℕ
left_by l None = []
left_by l (Some a) = left_of ((l.core).machine.receiver).inbox

abbrev pub left_in : Link → List ℕ
left_in l = left_by l (l.opening).agreement

-- the bytes given that are not known to have come
abbrev pub load_in : Link → ℕ
load_in l = queued_of ((l.core).machine.sender).outbox

-- ---- when

-- a poll at this moment, which is not before the last one, closes the link
abbrev pub closes_by : OpenSettings → Trace Entry → Option Agreement → ℕ → Bool
closes_by settings t None at = closes settings t at
closes_by settings t (Some a) at =
    not (nat_lt 0 (owed settings t)) && machine_closes (machine_layout settings a) (machine settings t) at

-- a poll at this moment sends a datagram or closes the link
abbrev pub is_due_in : OpenSettings → Trace Entry → ℕ → Bool
is_due_in settings t at = is_some (link_due settings t at) || closes_by settings t (agreed settings t) (max (moment t) at)

-- The least moment, from the last one on, at which a poll sends a datagram or closes the link, if no
-- other call comes; None where there is none.
abbrev pub IsNextDueIn : OpenSettings → Trace Entry → Option ℕ → Type 0
IsNextDueIn settings t None = (at : ℕ) → is_due_in settings t at ≡ false
IsNextDueIn settings t (Some m) =
    (moment t ≤ m) × (is_due_in settings t m ≡ true) × ((at : ℕ) → moment t ≤ at → at < m → is_due_in settings t at ≡ false)
