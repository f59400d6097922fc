-- What an opening stands for.
use Rattle.std.specs.Prelude.{◌≡◌, ◌⊎◌, ℕ, ◌<◌, ◌≤◌, ◌^◌, true, false, nat_le, max, List, if◌then◌else◌, Option, Some, None, IfSome}
use Rattle.mt_base.specs.declared.kinds.Role.TheVariants.{Client}
use Rattle.mt_base.specs.Trace.{Trace}
use Rattle.carrier.specs.declared.state.Took.{Took}
use Rattle.carrier.specs.declared.state.Took.TheVariants.{Used, Ignored}
use Rattle.carrier.specs.declared.state.Reason.TheVariants.{LinkClosed}
use Rattle.carrier.specs.Entries.{Entry, In, Polled, moment}
use Rattle.carrier.specs.Receiving.{has_effect}
use Rattle.udp_open.specs.declared.settings.OpenSettings.{OpenSettings}
use Rattle.udp_open.specs.declared.agreement.Agreement.{Agreement}
use Rattle.udp_open.specs.declared.timer.Timer.{Timer}
use Rattle.udp_open.specs.declared.opening.OpenEnd.{OpenEnd}
use Rattle.udp_open.specs.declared.opening.OpenEnd.TheVariants.{Waiting, Agreed}
use Rattle.udp_open.specs.Handshake.{agreed, owed, timer, expiry, is_time, started, Opens}

-- the versions that an end offers
abbrev pub IsOffered : ℕ → Type 0
IsOffered version = (version ≡ 0x0001) ⊎ (version ≡ 0x0002) ⊎ (version ≡ 0x0101)

-- those whose datagrams have the first layout
abbrev pub IsFirst : ℕ → Type 0
IsFirst version = (version ≡ 0x0001) ⊎ (version ≡ 0x0002)

-- what is kept
pub record Handshake : Type 0 where
  pub settings : OpenSettings
  pub moment : ℕ
  pub agreement : Option Agreement
  pub owed : ℕ
  pub timer : Option Timer

-- a timer that an opening has
pub record IsTimer (timer : Timer) : Type 0 where
  pub start_bound : timer.start < 2 ^ 62
  pub expiries_bound : timer.expiries ≤ 17

-- what is true of every opening
pub record IsSound (o : Handshake) : Type 0 where
  pub version_is : IsOffered (o.settings).version
  pub moment_bound : o.moment < 2 ^ 62
  pub agreed_is : IfSome o.agreement (λ a. IsOffered a.version)
  pub agreed_lower : IfSome o.agreement (λ a. a.version ≤ (o.settings).version)
  pub timer_is : IfSome o.timer IsTimer
  pub client_owes : (o.settings).role ≡ Client → o.owed ≡ 0
  pub none_owed : o.agreement ≡ None → o.owed ≡ 0

-- This opening is what the datagrams that came and the polls of this trace made of it. The trace may
-- be that of a link which has other calls too, and which answers and sends more than its opening.
pub record Follows (o : Handshake) (t : Trace Entry) : Type 0 where
  pub moment_is : o.moment ≡ moment t
  pub agreement_is : o.agreement ≡ agreed o.settings t
  pub owed_is : o.owed ≡ owed o.settings t
  pub timer_is : o.timer ≡ timer o.settings t

-- this opening stands for this trace of its own calls
pub record StandsOpen (o : Handshake) (t : Trace Entry) : Type 0 where
  pub follows : Follows o t
  pub opens : Opens o.settings t

-- A link answers with effect what its opening used, and without effect what its closed opening
-- ignored; the rest it answers as it likes.
abbrev pub AnswersFirst : Took → Took → Type 0
AnswersFirst Used took = has_effect took ≡ true
AnswersFirst (Ignored LinkClosed) took = has_effect took ≡ false
AnswersFirst (Ignored why) took = Unit {0}

-- a link sends what its opening sends, and where that is nothing what it likes
abbrev pub SendsFirst : Option (List ℕ) → Option (List ℕ) → Type 0
SendsFirst None out = Unit {0}
SendsFirst (Some bytes) out = out ≡ Some bytes

-- what a closed link does
abbrev pub IsSilent : Entry → Type 0
IsSilent (In now datagram took) = took ≡ Ignored LinkClosed
IsSilent (Polled now out) = out ≡ None
IsSilent e = ⊥

-- how an opening ends
abbrev pub end_of : Option Agreement → OpenEnd
end_of None = Waiting
end_of (Some a) = Agreed a.version a.peer_initial

-- ---- parts of a call

-- after a poll of a client whose SYN is not answered
abbrev pub after_asking : Handshake → Handshake
after_asking o = record o { timer = if is_time o.timer o.moment then Some (started o.timer o.moment) else o.timer }

-- when a client whose SYN is not answered sends it or closes
abbrev pub next_syn : Option Timer → ℕ → Option ℕ
next_syn None at = Some at
next_syn (Some timer) at = if nat_le timer.expiries 16 then Some (max (expiry timer) at) else None
