-- What a perfect link sends, accepts and answers. Such a link puts each part into one datagram behind
-- the part's number, sends no part again and accepts the parts in order, from 0 on.
use Rattle.std.specs.Prelude.{◌≡◌, ℕ, ◌+◌, ◌≤◌, ◌⊎◌, Bool, ◌&&◌, ◌||◌, nat_le, nat_lt, List, [], ◌++◌, length, take, drop, if◌then◌else◌, Option, Some, None, Result, Ok, Err}
use Rattle.byteorder.specs.Endian.{little_number, little_bytes}
use Rattle.mt_base.specs.Trace.{Trace, Start, ◌▷◌}
use Rattle.mt_windows.specs.declared.limits.TheConstants.{DATAGRAM, NUMBERS, PART, QUEUE}
use Rattle.carrier.specs.declared.first_layout.Refusal1.TheVariants as refusal
use Rattle.carrier.specs.declared.state.Took.{Took}
use Rattle.carrier.specs.declared.state.Took.TheVariants.{Used, Ignored}
use Rattle.carrier.specs.declared.state.Reason.{Reason}
use Rattle.carrier.specs.declared.state.Reason.TheVariants as reason
use Rattle.carrier.specs.Entries.{Entry, Gave, In, Polled, Pulled, Owed, Posted, Next, moment, pulled}
use Rattle.carrier.specs.Law.{IsBytes}

-- ---- datagrams

-- a part as a datagram: its number in eight bytes, the lowest first, and its bytes
abbrev pub spelled : ℕ → List ℕ → List ℕ
spelled number bytes = little_bytes 8 number ++ bytes

-- the number that a datagram shows, or why it is none
abbrev pub number_of : List ℕ → Result ℕ Reason
number_of datagram =
    if nat_lt DATAGRAM (length datagram) then Err reason.TooLong
    else (if nat_lt (length datagram) 8 then Err (reason.First (refusal.Short (record { at = 0; need = 8 })))
    else Ok (little_number 8 datagram))

-- the bytes of the part that a datagram shows
abbrev pub bytes_of : List ℕ → List ℕ
bytes_of datagram = drop 8 datagram

-- ---- what is sent

-- how many parts were sent, which is the number of the next one
abbrev pub sent : Trace Entry → ℕ
sent Start = 0
sent (t ▷ Polled now (Some datagram)) = sent t + 1
sent (t ▷ e) = sent t

-- the bytes that were given and not sent: each part takes the first ones, as many as it may have
abbrev pub waiting : Trace Entry → List ℕ
waiting Start = []
waiting (t ▷ Gave bytes) = waiting t ++ bytes
waiting (t ▷ Polled now (Some datagram)) = drop PART (waiting t)
waiting (t ▷ e) = waiting t

-- another part can be sent: bytes wait, and a number is left
abbrev pub may_send : ℕ → ℕ → Bool
may_send count number = nat_lt 0 count && nat_lt number NUMBERS

-- the datagram that a poll sends, at any moment
abbrev pub due : Trace Entry → Option (List ℕ)
due t =
    if may_send (length (waiting t)) (sent t) then Some (spelled (sent t) (take PART (waiting t))) else None

-- the last moment, where something is due
abbrev pub due_moment : Trace Entry → Option ℕ
due_moment t = if may_send (length (waiting t)) (sent t) then Some (moment t) else None

-- ---- what is accepted

-- how many parts were accepted, which is the number of the next one
abbrev pub next_number : Trace Entry → ℕ
next_number Start = 0
next_number (t ▷ In now datagram Used) = next_number t + 1
next_number (t ▷ e) = next_number t

-- the bytes of the accepted parts, in order
abbrev pub passed : Trace Entry → List ℕ
passed Start = []
passed (t ▷ In now datagram Used) = passed t ++ bytes_of datagram
passed (t ▷ e) = passed t

-- those of them that were not pulled
abbrev pub unpulled : Trace Entry → List ℕ
unpulled t = drop (length (pulled t)) (passed t)

-- what is answered to the part of this number and so many bytes, where `next` is the number of the
-- next part and so many bytes are not pulled: it is accepted where it is the next one, has a number
-- that parts may have, and finds room
abbrev pub answer_to : ℕ → ℕ → ℕ → ℕ → Took
answer_to next kept number count =
    if nat_lt number next then Ignored reason.Old
    else (if nat_lt next number || (nat_le NUMBERS number || nat_lt QUEUE (kept + count))
    then Ignored (reason.Beyond next) else Used)

abbrev pub answer_by : ℕ → ℕ → Result ℕ Reason → ℕ → Took
answer_by next kept (Err why) count = Ignored why
answer_by next kept (Ok number) count = answer_to next kept number count

-- the answer to a datagram
abbrev pub answered : Trace Entry → List ℕ → Took
answered t datagram =
    answer_by (next_number t) (length (unpulled t)) (number_of datagram) (length (bytes_of datagram))

-- ---- the law

-- Each datagram is answered so; each poll sends what is due; each pull gives the next bytes in
-- order, as many as there are and fit; and what is given are bytes that stay within the queue. There
-- are no other calls.
abbrev pub PerfectFaithful : Trace Entry → Type 0
PerfectFaithful Start = Unit {0}
PerfectFaithful (t ▷ Gave bytes) =
    (length (waiting t) + length bytes ≤ QUEUE) × IsBytes bytes × PerfectFaithful t
PerfectFaithful (t ▷ In now datagram took) = (took ≡ answered t datagram) × PerfectFaithful t
PerfectFaithful (t ▷ Polled now out) = (out ≡ due t) × PerfectFaithful t
PerfectFaithful (t ▷ Pulled room bytes) = (bytes ≡ take room (unpulled t)) × PerfectFaithful t
PerfectFaithful (t ▷ Owed count) = ⊥
PerfectFaithful (t ▷ Posted bytes) = ⊥
PerfectFaithful (t ▷ Next bytes) = ⊥

-- ---- two joined ends

-- this datagram was sent
abbrev pub Sends : Trace Entry → List ℕ → Type 0
Sends Start datagram = ⊥
Sends (t ▷ Polled now (Some out)) datagram = (out ≡ datagram) ⊎ Sends t datagram
Sends (t ▷ e) datagram = Sends t datagram

-- each datagram that came at b was sent by a: the network loses, copies and reorders datagrams, and
-- makes none
abbrev pub Comes : Trace Entry → Trace Entry → Type 0
Comes a Start = Unit {0}
Comes a (b ▷ In now datagram took) = Sends a datagram × Comes a b
Comes a (b ▷ e) = Comes a b
