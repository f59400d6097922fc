-- What a lossy link stands for.
use Rattle.std.specs.Prelude.{◌≡◌, ℕ, ◌+◌, ◌<◌, ◌≤◌, ◌^◌, Bool, true, false, nat_lt, max, List, length, All, ◌++◌, replicate, if◌then◌else◌, Option, Some, None, IfSome, Result, Ok, Err}
use Rattle.mt_base.specs.declared.kinds.Role.{Role}
use Rattle.mt_base.specs.Trace.{Trace}
use Rattle.mt_windows.specs.declared.limits.TheConstants.{DATAGRAM, NUMBERS, PART}
use Rattle.mt_windows.specs.Noted.{greatest_of}
use Rattle.mt_windows.specs.NotedView.{Marks, Notes}
use Rattle.carrier.specs.declared.state.LinkState.{LinkState}
use Rattle.carrier.specs.declared.state.Reason.{Reason}
use Rattle.carrier.specs.declared.state.Reason.TheVariants as reason
use Rattle.carrier.specs.declared.state.Took.{Took}
use Rattle.carrier.specs.declared.state.Took.TheVariants.{Used, Ignored}
use Rattle.carrier.specs.declared.state.LinkState.TheVariants.{Opening, Open, Closed}
use Rattle.carrier.specs.Entries.{Entry, moment, posted}
use Rattle.carrier.specs.Layout.{Reading, Refuses, Shows}
use Rattle.carrier.specs.PerfectThin.{handed}
use Rattle.link_machine.specs.declared.numbers.Numbers.{Numbers}
use Rattle.link_machine.specs.ReceiverView.{Fits, Owes, load_of}
use Rattle.udp1_core.specs.FirstLayout.{shows}
use Rattle.udp_open.specs.declared.agreement.Agreement.{Agreement}
use Rattle.udp_open.specs.Handshake.{row}
use Rattle.udp_open.specs.OpeningView.{Handshake, Follows}
use Rattle.lossy_mode.specs.declared.contents.Shown.{Shown as CodeShown}
use Rattle.lossy_mode.specs.Thin.{Got, Thin, got, is_part, may_send, sent, tellings, unsent, waiting_in}

-- ---- what is kept

-- the tellings owed, of which two stand for more, and since when
pub record Tellings : Type 0 where
  pub owed : ℕ
  pub since : ℕ

-- which parts were accepted of late, the greatest of them, those that wait to be handed out, the floor
-- and the window that the other end told
pub record Arrivals : Type 0 where
  pub marks : Marks
  pub last : Option ℕ
  pub parts : List (List ℕ)
  pub floor : ℕ
  pub window : ℕ

-- what an open link keeps: the last moment, the parts that wait to be sent, the number of the next one,
-- what came, and what is to be told of it
pub record OpenLink : Type 0 where
  pub moment : ℕ
  pub parts : List (List ℕ)
  pub next : ℕ
  pub arrivals : Arrivals
  pub tellings : Tellings

-- a link: its opening, which end it is, and the rest
pub record Lossy : Type 0 where
  pub opening : Handshake
  pub role : Role
  pub link : OpenLink

-- ---- bounds on which each call rests, whatever came before it

pub record IsSoundTellings (s : Tellings) : Type 0 where
  pub owed_bound : s.owed ≤ 2
  pub since_bound : s.since < 2 ^ 62

pub record IsSoundArrivals (s : Arrivals) : Type 0 where
  pub last_bound : IfSome s.last (λ n. n < 2 ^ 62)

pub record IsSoundOpen (s : OpenLink) : Type 0 where
  pub moment_bound : s.moment < 2 ^ 62
  pub next_bound : s.next ≤ NUMBERS
  pub short : All (λ bytes. length bytes ≤ PART) s.parts

-- ---- what it stands for

abbrev pub OwesFor : Tellings → List ℕ → Type 0
OwesFor s owed = Owes s.owed s.since owed

-- it stands for what came, of which so many parts were handed out
pub record Holds (s : Arrivals) (g : Got) (n : ℕ) : Type 0 where
  pub notes : Notes s.marks g.numbers
  pub last_is : s.last ≡ greatest_of g.numbers
  pub parts_are : s.parts ≡ waiting_in g n
  pub within : n ≤ length g.parts
  pub floor_is : s.floor ≡ g.floor
  pub window_is : s.window ≡ g.window

-- it stands for what this trace of a link with this first number sent, where this came and tellings are
-- owed from these moments on
pub record HoldsOpen (s : OpenLink) (own : ℕ) (t : Trace Entry) (g : Got) (owed : List ℕ) : Type 0 where
  pub moment_is : s.moment ≡ moment t
  pub parts_are : s.parts ≡ unsent t
  pub sent_within : sent t ≤ length (posted t)
  pub next_is : s.next ≡ own + sent t
  pub holds : Holds s.arrivals g (length (handed t))
  pub owes : OwesFor s.tellings owed

-- this link stands for this trace
pub record StandsThin (l : Lossy) (t : Trace Entry) : Type 0 where
  pub follows : Follows l.opening t
  pub holds : HoldsOpen l.link (((l.opening).settings).initial + 1) t (got (l.opening).settings t) (tellings (l.opening).settings t)
  pub thin : Thin (l.opening).settings t

-- ---- what the link is

abbrev pub condition_by : Handshake → Option Agreement → LinkState
condition_by o None = if nat_lt 16 (row o.timer) then Closed (row o.timer) else Opening
condition_by o (Some a) = Open

abbrev pub condition_of : Lossy → LinkState
condition_of l = condition_by l.opening (l.opening).agreement

-- ---- parts of a call

-- the tellings owed after a datagram that was answered so
abbrev pub owed_by : Took → ℕ → ℕ → List ℕ → List ℕ
owed_by Used count at owed = owed ++ replicate count at
owed_by (Ignored why) count at owed = owed

-- how many tellings its part makes owed
abbrev pub count_of : Reading → ℕ
count_of (Refuses why) = 0
count_of (Shows shown) = if is_part shown.load then 1 else 0

-- what is read of a datagram, which is too long or shows something
abbrev pub read_of : List ℕ → Reading
read_of datagram = if nat_lt DATAGRAM (length datagram) then Refuses reason.TooLong else shows datagram

-- the earlier of the moment at which a part is sent and that of a telling
abbrev pub due_from : Bool → ℕ → Option ℕ → Option ℕ
due_from true at deadline = Some at
due_from false at None = None
due_from false at (Some due) = Some (max due at)

-- a part's number is that of its transmission too
abbrev pub both_numbers : ℕ → Numbers
both_numbers n = record { part = n; transmission = n }

-- what the code reads of a datagram is what it shows
abbrev pub Reads : Result CodeShown Reason → Reading → Type 0
Reads (Ok c) (Shows shown) =
    (shown.window ≡ Some c.window) × (shown.floor ≡ c.floor) × (shown.load ≡ load_of c.load)
Reads (Ok c) (Refuses why) = ⊥
Reads (Err reason) (Shows shown) = ⊥
Reads (Err reason) (Refuses why) = reason ≡ why

-- its numbers and bytes fit
pub record IsFit (c : CodeShown) : Type 0 where
  pub low : IfSome c.floor (λ low. low < 2 ^ 32)
  pub fits : Fits (2 ^ 32) c.load

-- it sends a part
abbrev pub sends_part : Option Agreement → List (List ℕ) → ℕ → ℕ → Bool
sends_part None parts window number = false
sends_part (Some a) parts window number = may_send parts window number
