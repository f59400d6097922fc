-- Two ends of a link, joined by a network that loses, copies and reorders datagrams, and makes none.
use Rattle.std.specs.Prelude.{◌≡◌, ℕ, zero, suc, ◌<◌, ◌≤◌, List, length, Some}
use Rattle.mt_base.specs.declared.kinds.Role.{Role}
use Rattle.mt_base.specs.declared.kinds.Role.TheVariants.{Server, Client}
use Rattle.mt_base.specs.Ends.{other}
use Rattle.mt_base.specs.Trace.{Trace, Start, ◌▷◌}
use Rattle.carrier.specs.Entries.{Entry, In, Polled}
use Rattle.carrier.specs.Layout.{Layout, Datagram}
use Rattle.carrier.specs.Due.{meant}

-- a call at one of the ends
pub data Step : Type 0 where
  At : (side : Role) → (entry : Entry) → Step

-- the trace of one end
abbrev pub half : Role → Trace Step → Trace Entry
half side Start = Start
half Server (w ▷ At Server e) = half Server w ▷ e
half Server (w ▷ At Client e) = half Server w
half Client (w ▷ At Server e) = half Client w
half Client (w ▷ At Client e) = half Client w ▷ e

-- the datagram after which the ends sent k more was sent by this end, and is this one
abbrev pub SentAgo : Role → Trace Step → ℕ → List ℕ → Type 0
SentAgo s Start k datagram = ⊥
SentAgo s (w ▷ At side (Polled now (Some out))) zero datagram = (side ≡ s) × (out ≡ datagram)
SentAgo s (w ▷ At side (Polled now (Some out))) (suc k) datagram = SentAgo s w k datagram
SentAgo s (w ▷ e) k datagram = SentAgo s w k datagram

-- the same datagram means these numbers
abbrev pub MeantAgo : (Role → Layout) → Role → Trace Step → ℕ → Datagram → Type 0
MeantAgo layouts s Start k f = ⊥
MeantAgo layouts s (w ▷ At side (Polled now (Some out))) zero f =
    (side ≡ s) × (meant (layouts side) (half side w) now ≡ Some f)
MeantAgo layouts s (w ▷ At side (Polled now (Some out))) (suc k) f = MeantAgo layouts s w k f
MeantAgo layouts s (w ▷ e) k f = MeantAgo layouts s w k f

-- Each datagram of eight bytes or more that came at an end was sent by the other one, and fewer than
-- `late` datagrams were sent on the link after it and before it came.
abbrev pub Timely : ℕ → Trace Step → Type 0
Timely late Start = Unit {0}
Timely late (w ▷ At side (In now datagram took)) =
    (8 ≤ length datagram → (k : ℕ) × (k < late) × SentAgo (other side) w k datagram) × Timely late w
Timely late (w ▷ e) = Timely late w
