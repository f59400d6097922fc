-- The datagrams that two ends give each other, in the order of their calls.
use Rattle.std.specs.Prelude.{◌≡◌, ℕ, ◌<◌, ◌≤◌, List, [], ◌∷◌, ◌++◌, length, Option, Some, None, if◌then◌else◌}
use Rattle.mt_base.specs.declared.kinds.Kind.{Kind}
use Rattle.mt_base.specs.declared.kinds.Role.{Role}
use Rattle.mt_base.specs.Ends.{other, same_kind}
use Rattle.mt_base.specs.Trace.{Trace, Start, ◌▷◌}
use Rattle.end_calls.specs.Calls.{Entry, Own, MainIn, MainOut, WireIn, WireOut}

-- a datagram that a side gave, if it gave one
abbrev pub if_given : Role → Option (List ℕ) → List (Role × List ℕ)
if_given side None = []
if_given side (Some datagram) = (side, datagram) ∷ []

-- those that a call of a side gives on the link of this kind
abbrev pub gives : Kind → Role → Entry → List (Role × List ℕ)
gives kind side (WireOut made now is_full out state) = if same_kind kind made then if_given side out else []
gives kind side (Own act) = []
gives kind side (MainIn offered count load lack) = []
gives kind side (MainOut room bytes) = []
gives kind side (WireIn made now datagram took load came pulls parts lack) = []

-- all datagrams that were given on it, by both sides
abbrev pub given_on : Kind → Trace (Role × Entry) → List (Role × List ℕ)
given_on kind Start = []
given_on kind (w ▷ call) = given_on kind w ++ gives kind call.0 call.1

-- this side gave this datagram, after which so many were given
pub record WasGiven (side : Role) (datagram : List ℕ) (behind : ℕ) (all : List (Role × List ℕ)) : Type 0 where
  pub before : List (Role × List ℕ)
  pub after : List (Role × List ℕ)
  pub all_are : all ≡ before ++ (side, datagram) ∷ after
  pub behind_is : length after ≡ behind

-- A datagram of eight bytes or more that comes was given by the other side, and fewer than `late` datagrams were given
-- on the link after it.
abbrev pub IsInTime : ℕ → Role → Trace (Role × Entry) → Entry → Type 0
IsInTime late side w (WireIn kind now datagram took load came pulls parts lack) =
    8 ≤ length datagram → (behind : ℕ) × (behind < late) × WasGiven (other side) datagram behind (given_on kind w)
IsInTime late side w (Own act) = Unit {0}
IsInTime late side w (MainIn offered count load lack) = Unit {0}
IsInTime late side w (MainOut room bytes) = Unit {0}
IsInTime late side w (WireOut kind now is_full out state) = Unit {0}

abbrev pub AreInTime : ℕ → Trace (Role × Entry) → Type 0
AreInTime late Start = Unit {0}
AreInTime late (w ▷ call) = IsInTime late call.0 w call.1 × AreInTime late w
