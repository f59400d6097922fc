-- What one end pulled are the first bytes that it passed.
use Rattle.std.proofs.Common.{◌≡◌, ℕ, ◌+◌, ◌≤◌, List, [], ◌++◌, length, take, drop, min, Option, Some, None, refl, sym, ap, ◌∙◌, append_assoc, append-nil, arith, length-take, take-append-drop}
use Rattle.std.proofs.lemmas.List.{take_min, take-append-le}
use Rattle.std.proofs.Math.Seq.{take-add}
use Rattle.mt_base.specs.Trace.{Trace, Start, ◌▷◌}
use Rattle.mt_windows.specs.Arrived.{passed}
use Rattle.mt_windows.proofs.Order.{with_part_adds}
use Rattle.carrier.specs.Entries.{Entry, Gave, In, Polled, Pulled, Owed, Posted, Next, pulled}
use Rattle.carrier.specs.Layout.{Layout, Received, Shown}
use Rattle.carrier.specs.Receiving.{Arrival, arrival, parts_with, receives, received, accepted, effect}
use Rattle.carrier.specs.Law.{Faithful}

-- what is accepted only adds to what is passed
arrival_adds : (l : Layout) (r : Received) (n : ℕ) (o : Option Arrival) → (more : List ℕ) × (passed (parts_with l r n o) ≡ passed r.parts ++ more)
arrival_adds l r n None = ([], sym (append-nil (passed r.parts)))
arrival_adds l r n (Some a) = with_part_adds l.bounds.windows.window l.peer r.parts n a.part a.bytes

pub receives_adds : (l : Layout) (r : Received) (n : ℕ) (o : Option Shown) → (more : List ℕ) × (passed (receives l r n o).parts ≡ passed r.parts ++ more)
receives_adds l r n None = ([], sym (append-nil (passed r.parts)))
receives_adds l r n (Some shown) = arrival_adds l r n (arrival l r n shown.load)

-- the beginning of a list stays where the list grows
front_stays : (xs ys zs more : List ℕ) → xs ≡ take (length xs) ys → zs ≡ ys ++ more → xs ≡ take (length xs) zs
front_stays xs ys zs more is e =
    let fits : length xs ≤ length ys = omega (arith, ap length is, length-take (length xs) ys) in
    is ∙ sym (take-append-le (length xs) ys more fits) ∙ ap (take (length xs)) (sym e)

-- the next bytes are behind it
front_more : (xs ys bytes : List ℕ) (room : ℕ) → xs ≡ take (length xs) ys → bytes ≡ take room (drop (length xs) ys) → xs ++ bytes ≡ take (length (xs ++ bytes)) ys
front_more xs ys bytes room is next =
    let whole : xs ++ bytes ≡ take (length xs + room) ys =
    ap (λ z. xs ++ z) next ∙ ap (λ z. z ++ take room (drop (length xs) ys)) is ∙ sym (take-add (length xs) room ys) in
    let size : length (xs ++ bytes) ≡ min (length xs + room) (length ys) = ap length whole ∙ length-take (length xs + room) ys in
    whole ∙ sym (ap (λ n. take n ys) size ∙ take_min (length xs + room) ys)

pub pulled_front : (l : Layout) (t : Trace Entry) → Faithful l t → pulled t ≡ take (length (pulled t)) (passed (accepted l t))
pulled_front l Start law = refl
pulled_front l (t ▷ Gave bytes) law = pulled_front l t law.2
pulled_front l (t ▷ In now datagram took) law =
    let more = receives_adds l (received l t) (length (pulled t)) (effect l took datagram) in
    front_stays (pulled t) (passed (accepted l t)) (passed (receives l (received l t) (length (pulled t)) (effect l took datagram)).parts) more.0 (pulled_front l t law.1) more.1
pulled_front l (t ▷ Polled now out) law = pulled_front l t law.1
pulled_front l (t ▷ Pulled room bytes) law = front_more (pulled t) (passed (accepted l t)) bytes room (pulled_front l t law.1) law.0
pulled_front l (t ▷ Owed count) law = pulled_front l t law
pulled_front l (t ▷ Posted bytes) law = absurd law
pulled_front l (t ▷ Next bytes) law = absurd law

-- so the bytes that follow what was passed follow what was pulled, too
pub pulled_then : (l : Layout) (t : Trace Entry) (all more : List ℕ) → Faithful l t → all ≡ passed (accepted l t) ++ more → (rest : List ℕ) × (all ≡ pulled t ++ rest)
pulled_then l t all more law is =
    let n = length (pulled t) in
    let split : passed (accepted l t) ≡ pulled t ++ drop n (passed (accepted l t)) =
    sym (take-append-drop n (passed (accepted l t))) ∙ ap (λ z. z ++ drop n (passed (accepted l t))) (sym (pulled_front l t law)) in
    (drop n (passed (accepted l t)) ++ more, is ∙ ap (λ z. z ++ more) split ∙ append_assoc (pulled t) (drop n (passed (accepted l t))) more)
