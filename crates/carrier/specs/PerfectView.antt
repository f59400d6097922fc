-- What perfect links keep, and what it has to do with their traces.
use Rattle.std.specs.Prelude.{◌≡◌, ℕ, ◌+◌, ◌≤◌, List, [], ◌∷◌, ◌++◌, length, drop, Result, Ok, Err}
use Rattle.mt_base.specs.Trace.{Trace}
use Rattle.mt_windows.specs.declared.limits.TheConstants.{NUMBERS, PART, QUEUE, WINDOW}
use Rattle.carrier.specs.declared.state.Reason.{Reason}
use Rattle.carrier.specs.declared.state.Took.{Took}
use Rattle.carrier.specs.declared.state.Took.TheVariants.{Used, Ignored}
use Rattle.carrier.specs.Entries.{Entry, moment, pulled}
use Rattle.carrier.specs.Perfect.{PerfectFaithful, sent, waiting, next_number, passed}
use Rattle.carrier.specs.PerfectThin.{PerfectThin, unsent, least_new, taken, handed}

-- ---- a perfect carrier

-- the bytes that wait to be sent, the number of the next part to be sent, the bytes that were
-- accepted and not pulled, the number of the next part to be accepted, and the last moment
pub record Kept : Type 0 where
  pub waiting : List ℕ
  pub sent : ℕ
  pub arrived : List ℕ
  pub next : ℕ
  pub last : ℕ

-- the bounds on which each call rests, whatever came before it
pub record IsSoundCarrier (s : Kept) : Type 0 where
  pub waiting_fits : length s.waiting ≤ QUEUE
  pub arrived_fits : length s.arrived ≤ QUEUE
  pub sent_bound : s.sent ≤ NUMBERS
  pub next_bound : s.next ≤ NUMBERS

-- this value stands for this trace
pub record CarrierStands (s : Kept) (t : Trace Entry) : Type 0 where
  pub waiting_is : s.waiting ≡ waiting t
  pub sent_is : s.sent ≡ sent t
  pub in_order : pulled t ++ s.arrived ≡ passed t
  pub next_is : s.next ≡ next_number t
  pub last_is : s.last ≡ moment t
  pub faithful : PerfectFaithful t

-- a part was accepted
abbrev pub with_arrived : List ℕ → Kept → Kept
with_arrived bytes s = record s { arrived = s.arrived ++ bytes; next = s.next + 1 }

-- a datagram was answered so
abbrev pub carrier_took : Took → List ℕ → Kept → Kept
carrier_took Used bytes s = with_arrived bytes s
carrier_took (Ignored why) bytes s = s

-- a part was sent
abbrev pub without_sent : Kept → Kept
without_sent s = record s { waiting = drop PART s.waiting; sent = s.sent + 1 }

-- ---- a perfect post

-- the same of a perfect post, in parts; `least` is the least number above those of all accepted parts
pub record KeptParts : Type 0 where
  pub waiting : List (List ℕ)
  pub sent : ℕ
  pub arrived : List (List ℕ)
  pub least : ℕ
  pub last : ℕ

-- its bounds
pub record IsSoundPost (s : KeptParts) : Type 0 where
  pub waiting_fits : length s.waiting ≤ WINDOW
  pub arrived_fits : length s.arrived ≤ WINDOW
  pub sent_bound : s.sent ≤ NUMBERS
  pub least_bound : s.least ≤ NUMBERS

-- this value stands for this trace
pub record PostStands (s : KeptParts) (t : Trace Entry) : Type 0 where
  pub waiting_is : s.waiting ≡ unsent t
  pub sent_is : s.sent ≡ sent t
  pub in_order : handed t ++ s.arrived ≡ taken t
  pub least_is : s.least ≡ least_new t
  pub last_is : s.last ≡ moment t
  pub thin : PerfectThin t

-- a part of this number was accepted
abbrev pub with_part : ℕ → List ℕ → KeptParts → KeptParts
with_part number bytes s = record s { arrived = s.arrived ++ bytes ∷ []; least = number + 1 }

abbrev pub with_read : Result ℕ Reason → List ℕ → KeptParts → KeptParts
with_read (Err why) bytes s = s
with_read (Ok number) bytes s = with_part number bytes s

-- a datagram was answered so
abbrev pub post_took : Took → Result ℕ Reason → List ℕ → KeptParts → KeptParts
post_took Used number bytes s = with_read number bytes s
post_took (Ignored why) number bytes s = s

-- a part was sent
abbrev pub without_part : KeptParts → KeptParts
without_part s = record s { waiting = drop 1 s.waiting; sent = s.sent + 1 }
