-- What a perfect link of parts sends, accepts and hands out. It puts each part into one datagram behind
-- the part's number, from 0 on, and accepts the parts whose numbers rise.
use Rattle.std.specs.Prelude.{◌≡◌, ℕ, ◌+◌, ◌<◌, ◌≤◌, ◌⊎◌, max, nat_le, nat_lt, List, [], ◌∷◌, ◌++◌, length, drop, if◌then◌else◌, Option, Some, None, Result, Ok, Err}
use Rattle.mt_base.specs.Trace.{Trace, Start, ◌▷◌}
use Rattle.mt_windows.specs.declared.limits.TheConstants.{NUMBERS, PART, WINDOW}
use Rattle.carrier.specs.declared.state.Took.{Took}
use Rattle.carrier.specs.declared.state.Took.TheVariants.{Used, Ignored}
use Rattle.carrier.specs.declared.state.Reason.{Reason}
use Rattle.carrier.specs.declared.state.Reason.TheVariants as reason
use Rattle.carrier.specs.Entries.{Entry, Gave, In, Polled, Pulled, Owed, Posted, Next, moment}
use Rattle.carrier.specs.Law.{IsBytes}
use Rattle.carrier.specs.Perfect.{spelled, number_of, bytes_of, sent, may_send}

-- ---- what is sent

-- the parts that were posted and not sent, the first one first
abbrev pub unsent : Trace Entry → List (List ℕ)
unsent Start = []
unsent (t ▷ Posted bytes) = unsent t ++ bytes ∷ []
unsent (t ▷ Polled now (Some datagram)) = drop 1 (unsent t)
unsent (t ▷ e) = unsent t

-- the datagram of the first of some parts, where there is one
abbrev pub first_spelled : ℕ → List (List ℕ) → Option (List ℕ)
first_spelled number [] = None
first_spelled number (bytes ∷ parts) = Some (spelled number bytes)

-- the datagram that a poll sends, at any moment
abbrev pub part_due : Trace Entry → Option (List ℕ)
part_due t = if may_send (length (unsent t)) (sent t) then first_spelled (sent t) (unsent t) else None

-- the last moment, where something is due
abbrev pub part_moment : Trace Entry → Option ℕ
part_moment t = if may_send (length (unsent t)) (sent t) then Some (moment t) else None

-- ---- what is accepted and handed out

-- the least number above all of these and above the one that was read, where there is one
abbrev pub past : ℕ → Result ℕ Reason → ℕ
past least (Err why) = least
past least (Ok number) = max least (number + 1)

-- the least number above those of all accepted parts
abbrev pub least_new : Trace Entry → ℕ
least_new Start = 0
least_new (t ▷ In now datagram Used) = past (least_new t) (number_of datagram)
least_new (t ▷ e) = least_new t

-- the accepted parts, in order
abbrev pub taken : Trace Entry → List (List ℕ)
taken Start = []
taken (t ▷ In now datagram Used) = taken t ++ bytes_of datagram ∷ []
taken (t ▷ e) = taken t

-- the parts that were handed out, in order
abbrev pub handed : Trace Entry → List (List ℕ)
handed Start = []
handed (t ▷ Next (Some bytes)) = handed t ++ bytes ∷ []
handed (t ▷ e) = handed t

-- the accepted parts that were not handed out
abbrev pub kept_parts : Trace Entry → List (List ℕ)
kept_parts t = drop (length (handed t)) (taken t)

-- the first of some parts, where there is one
abbrev pub first_part : List (List ℕ) → Option (List ℕ)
first_part [] = None
first_part (bytes ∷ parts) = Some bytes

-- what is answered to a part of this number, where `least` is the least new number and so many parts
-- wait to be handed out
abbrev pub part_answer : ℕ → ℕ → ℕ → Took
part_answer least kept number =
    if nat_le NUMBERS number then Ignored (reason.Beyond WINDOW)
    else (if nat_lt number least then Ignored reason.Old
    else (if nat_lt kept WINDOW then Used else Ignored (reason.Beyond WINDOW)))

abbrev pub part_answer_by : ℕ → ℕ → Result ℕ Reason → Took
part_answer_by least kept (Err why) = Ignored why
part_answer_by least kept (Ok number) = part_answer least kept number

-- the answer to a datagram
abbrev pub part_answered : Trace Entry → List ℕ → Took
part_answered t datagram = part_answer_by (least_new t) (length (kept_parts t)) (number_of datagram)

-- ---- the law

-- Each datagram is answered so; each poll sends what is due; each part handed out is the next one;
-- and what is posted are parts of bytes that stay within the window. There are no other calls.
abbrev pub PerfectThin : Trace Entry → Type 0
PerfectThin Start = Unit {0}
PerfectThin (t ▷ Posted bytes) =
    (length (unsent t) < WINDOW) × (1 ≤ length bytes) × (length bytes ≤ PART) × IsBytes bytes × PerfectThin t
PerfectThin (t ▷ In now datagram took) = (took ≡ part_answered t datagram) × PerfectThin t
PerfectThin (t ▷ Polled now out) = (out ≡ part_due t) × PerfectThin t
PerfectThin (t ▷ Next bytes) = (bytes ≡ first_part (kept_parts t)) × PerfectThin t
PerfectThin (t ▷ Gave bytes) = ⊥
PerfectThin (t ▷ Pulled room bytes) = ⊥
PerfectThin (t ▷ Owed count) = ⊥

-- ---- two joined ends

-- some of these, in the same order
abbrev pub IsPickedFrom : List (List ℕ) → List (List ℕ) → Type 0
IsPickedFrom [] ys = Unit {0}
IsPickedFrom (x ∷ xs) [] = ⊥
IsPickedFrom (x ∷ xs) (y ∷ ys) = (x ≡ y) × IsPickedFrom xs ys ⊎ IsPickedFrom (x ∷ xs) ys
