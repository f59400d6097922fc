-- The names of refusals and of reasons, the places of those that have one, and how they are said.
use Rattle.std.specs.Prelude.{ℕ, List, ◌++◌, codes, decimal}
use Rattle.carrier.specs.declared.first_layout.Refusal1.{Refusal1}
use Rattle.carrier.specs.declared.first_layout.Refusal1.TheVariants as first
use Rattle.carrier.specs.declared.second_layout.Refusal2.{Refusal2}
use Rattle.carrier.specs.declared.second_layout.Refusal2.TheVariants as second
use Rattle.carrier.specs.declared.state.Reason.{Reason}
use Rattle.carrier.specs.declared.state.Reason.TheVariants as reason
use Rattle.carrier.specs.declared.reliable.GiveRefusal.{GiveRefusal}
use Rattle.carrier.specs.declared.reliable.GiveRefusal.TheVariants as give
use Rattle.carrier.specs.declared.lossy.PostRefusal.{PostRefusal}
use Rattle.carrier.specs.declared.lossy.PostRefusal.TheVariants as post

-- ---- the first layout

abbrev pub first_name : Refusal1 → List ℕ
first_name (first.Short short) = codes "Short"
first_name (first.BadMtu at) = codes "BadMtu"
first_name (first.BadVersion at) = codes "BadVersion"
first_name (first.BadState at) = codes "BadState"
first_name (first.VectorTooLong at) = codes "VectorTooLong"
first_name (first.SynWithData at) = codes "SynWithData"
first_name (first.PaddingNotZero at) = codes "PaddingNotZero"

-- a field that is cut short has its place where it begins
abbrev pub first_place : Refusal1 → ℕ
first_place (first.Short short) = short.at
first_place (first.BadMtu at) = at
first_place (first.BadVersion at) = at
first_place (first.BadState at) = at
first_place (first.VectorTooLong at) = at
first_place (first.SynWithData at) = at
first_place (first.PaddingNotZero at) = at

-- ---- the second layout

abbrev pub second_name : Refusal2 → List ℕ
second_name (second.Short short) = codes "Short"
second_name (second.ShortLength at) = codes "ShortLength"
second_name (second.BadType at) = codes "BadType"
second_name (second.UnknownFlag at) = codes "UnknownFlag"
second_name (second.AckAndVector at) = codes "AckAndVector"
second_name (second.Trailing at) = codes "Trailing"

abbrev pub second_place : Refusal2 → ℕ
second_place (second.Short short) = short.at
second_place (second.ShortLength at) = at
second_place (second.BadType at) = at
second_place (second.UnknownFlag at) = at
second_place (second.AckAndVector at) = at
second_place (second.Trailing at) = at

-- ---- a link

-- a reason that is a layout's refusal has its name
abbrev pub reason_name : Reason → List ℕ
reason_name reason.TooLong = codes "TooLong"
reason_name (reason.First refusal) = first_name refusal
reason_name (reason.Second refusal) = second_name refusal
reason_name reason.NotOpen = codes "NotOpen"
reason_name reason.NotOurs = codes "NotOurs"
reason_name reason.WrongKind = codes "WrongKind"
reason_name reason.BadAnswer = codes "BadAnswer"
reason_name reason.UnknownCookie = codes "UnknownCookie"
reason_name (reason.Beyond limit) = codes "Beyond"
reason_name reason.Unnumbered = codes "Unnumbered"
reason_name reason.Old = codes "Old"
reason_name reason.FecDropped = codes "FecDropped"
reason_name reason.LinkClosed = codes "LinkClosed"

abbrev pub give_name : GiveRefusal → List ℕ
give_name (give.Full queued) = codes "Full"
give_name (give.Closed expiries) = codes "Closed"

abbrev pub post_name : PostRefusal → List ℕ
post_name (post.Full queued) = codes "Full"
post_name (post.Closed expiries) = codes "Closed"

-- ---- how they are said

-- a name, and a place
abbrev pub placed : List ℕ → ℕ → List ℕ
placed name place = name ++ codes " at " ++ decimal place

abbrev pub first_text : Refusal1 → List ℕ
first_text refusal = placed (first_name refusal) (first_place refusal)

abbrev pub second_text : Refusal2 → List ℕ
second_text refusal = placed (second_name refusal) (second_place refusal)

-- a reason that is a layout's refusal is said as that refusal
abbrev pub reason_text : Reason → List ℕ
reason_text reason.TooLong = codes "TooLong"
reason_text (reason.First refusal) = first_text refusal
reason_text (reason.Second refusal) = second_text refusal
reason_text reason.NotOpen = codes "NotOpen"
reason_text reason.NotOurs = codes "NotOurs"
reason_text reason.WrongKind = codes "WrongKind"
reason_text reason.BadAnswer = codes "BadAnswer"
reason_text reason.UnknownCookie = codes "UnknownCookie"
reason_text (reason.Beyond limit) = codes "Beyond"
reason_text reason.Unnumbered = codes "Unnumbered"
reason_text reason.Old = codes "Old"
reason_text reason.FecDropped = codes "FecDropped"
reason_text reason.LinkClosed = codes "LinkClosed"
