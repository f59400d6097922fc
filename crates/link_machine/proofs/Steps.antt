-- What each call does to the relation between a machine and its trace.
use Rattle.std.proofs.Common.{◌≡◌, ℕ, ◌+◌, ◌≤◌, ◌&&◌, Bool, true, false, not, min, max, List, [], ◌∷◌, ◌++◌, length, take, drop, replicate, Option, Some, None, Result, Ok, OnOk, nat_lt, is_some, zero, suc, append-nil, length-append, subst₂, refl, sym, ap, ◌∙◌, subst, take-add, length-take, length-take-le, arith, if◌then◌else◌}
use Rattle.std.proofs.lemmas.List.{take_min}
use Rattle.mt_base.specs.Trace.{Trace, ◌▷◌}
use Rattle.mt_windows.specs.Arrived.{passed}
use Rattle.mt_windows.specs.Sending.{Act, Gave as GaveBytes, cuts, is_open, settled, least, or_else, queued}
use Rattle.mt_windows.proofs.Order.{with_part_adds}
use Rattle.carrier.specs.declared.state.Took.{Took}
use Rattle.carrier.specs.Entries.{Entry, Gave, In, Polled, Pulled, Owed, pulled}
use Rattle.carrier.specs.Layout.{Layout, Received, Shown}
use Rattle.carrier.specs.Receiving.{Arrival, arrival, parts_with, receives, received, accepted, effect, floor, floor_shown, owed, owes, peer_window, window_shown}
use Rattle.carrier.specs.Sending.{Timer, acts, hears, timer, timer_told, timer_polled, settles, is_waiting, expires}
use Rattle.carrier.specs.Due.{due}
use Rattle.carrier.specs.Law.{answered, IsBytes}
use Rattle.link_machine.specs.declared.config.ReceiverConfig.{ReceiverConfig}
use Rattle.link_machine.specs.declared.config.SenderConfig.{SenderConfig}
use Rattle.link_machine.specs.ReceiverView.{Receiver, Hears}
use Rattle.link_machine.specs.SenderView.{Sender, Speaks, timer_at}
use Rattle.link_machine.specs.MachineView.{Machine, Stands, StandsIn, layout_at}
use Rattle.link_machine.specs.Wire.{Wire, layout_of}

-- what holds where a call went well, holds where it went well
pub where_ok : {T E P : Type 0} (r : Result T E) (x : T) → r ≡ Ok x → OnOk r P → P
where_ok {T} {E} {P} r x is h = subst (λ r. OnOk r P) is h

-- ---- the layout stays

pub at_layout : (a b : Layout) (m : Machine) (t : Trace Entry) → a ≡ b → StandsIn a m t → StandsIn b m t
at_layout a b m t same h = subst (λ l. StandsIn l m t) same h

-- the moment may be spelled otherwise
pub at_moment : (wire : Wire) (m : Machine) (a b : ℕ) (t : Trace Entry) → a ≡ b → Stands wire (record m { moment = a }) t → Stands wire (record m { moment = b }) t
at_moment wire m a b t same h = subst (λ k. Stands wire (record m { moment = k }) t) same h

pub same_receiver : (wire : Wire) (m : Machine) (r : Receiver) → r.config ≡ m.receiver.config → layout_at wire m ≡ layout_at wire (record m { receiver = r })
same_receiver wire m r same =
    ap (λ (c : ReceiverConfig). layout_of wire m.sender.config.wait c.delay m.sender.config.own c.peer) (sym same)

pub same_sender : (wire : Wire) (m : Machine) (s : Sender) → s.config ≡ m.sender.config → layout_at wire m ≡ layout_at wire (record m { sender = s })
same_sender wire m s same =
    ap (λ (c : SenderConfig). layout_of wire c.wait m.receiver.config.delay c.own m.receiver.config.peer) (sym same)

-- ---- calls on the halves

pub owes_more : (layout : Layout) (m : Machine) (r : Receiver) (t : Trace Entry) (count : ℕ)
    → Hears r (received layout t) (length (pulled t)) (floor layout t) (owed layout t ++ replicate count m.moment)
    → StandsIn layout m t → StandsIn layout (record m { receiver = r }) (t ▷ Owed count)
owes_more layout m r t count hears h = record {
  moment_is = h.moment_is;
  sends = h.sends;
  hears = subst (λ at. Hears r (received layout t) (length (pulled t)) (floor layout t) (owed layout t ++ replicate count at)) h.moment_is hears;
  in_order = h.in_order;
  faithful = h.faithful;
}

pub gives : (layout : Layout) (m : Machine) (s : Sender) (t : Trace Entry) (bytes : List ℕ)
    → Speaks s (acts layout t ▷ GaveBytes bytes) (peer_window layout t) (timer layout t)
    → queued layout.bounds.windows (acts layout t ▷ GaveBytes bytes) ≤ layout.bounds.windows.queue
    → IsBytes bytes
    → StandsIn layout m t → StandsIn layout (record m { sender = s }) (t ▷ Gave bytes)
gives layout m s t bytes speaks within good h = record {
  moment_is = h.moment_is;
  sends = speaks;
  hears = h.hears;
  in_order = h.in_order;
  faithful = (within, good, h.faithful);
}

-- the bytes pulled are the next ones, as many as there are and fit
pub pulls : (layout : Layout) (m : Machine) (r : Receiver) (t : Trace Entry) (left bytes : List ℕ) (count room : ℕ)
    → count ≡ min room (length left)
    → bytes ≡ take count left
    → left ≡ drop (length (pulled t)) (passed (accepted layout t))
    → Hears r (received layout t) (length (pulled t) + count) (floor layout t) (owed layout t)
    → StandsIn layout m t → StandsIn layout (record m { receiver = r }) (t ▷ Pulled room bytes)
pulls layout m r t left bytes count room count_is bytes_are left_is hears h =
    let n = length (pulled t) in
    let whole = passed (accepted layout t) in
    let short : count ≤ length left = omega (arith, count_is) in
    let long : length bytes ≡ count = ap length bytes_are ∙ length-take-le count left short in
    let size : length (pulled t ++ bytes) ≡ n + count = omega (arith, length-append (pulled t) bytes, long) in
    let next : bytes ≡ take count (drop n whole) = bytes_are ∙ ap (take count) left_is in
    record {
      moment_is = h.moment_is;
      sends = h.sends;
      hears = subst (λ k. Hears r (received layout t) k (floor layout t) (owed layout t)) (sym size) hears;
      in_order = ap (λ xs. xs ++ bytes) h.in_order ∙ ap (λ xs. take n whole ++ xs) next ∙ sym (take-add n count whole) ∙ ap (λ k. take k whole) (sym size);
      faithful = (bytes_are ∙ ap (λ k. take k left) count_is ∙ take_min room left ∙ ap (take room) left_is, h.faithful);
    }

-- ---- a datagram comes

-- what is shown only adds to the bytes in order
parts_add : (layout : Layout) (r : Received) (n : ℕ) (a : Option Arrival) → (more : List ℕ) × (passed (parts_with layout r n a) ≡ passed r.parts ++ more)
parts_add layout r n None = ([], sym (append-nil (passed r.parts)))
parts_add layout r n (Some a) = with_part_adds layout.bounds.windows.window layout.peer r.parts n a.part a.bytes

receives_adds : (layout : Layout) (r : Received) (n : ℕ) (x : Option Shown) → (more : List ℕ) × (passed (receives layout r n x).parts ≡ passed r.parts ++ more)
receives_adds layout r n None = ([], sym (append-nil (passed r.parts)))
receives_adds layout r n (Some shown) = parts_add layout r n (arrival layout r n shown.load)

-- a front stays where more is added behind
pub take_front : (n : ℕ) (xs more : List ℕ) → n ≤ length xs → take n (xs ++ more) ≡ take n xs
take_front zero xs more within = refl
take_front (suc n) [] more within = absurd (omega (arith, within))
take_front (suc n) (x ∷ xs) more within = ap (λ l. x ∷ l) (take_front n xs more (omega (arith, within)))

-- as many as were taken were there
taken_within : (n : ℕ) (xs whole : List ℕ) → length xs ≡ n → xs ≡ take n whole → n ≤ length whole
taken_within n xs whole size is = omega (arith, size, ap length is, length-take n whole)

or_none : (x : Option ℕ) → is_some (or_else x None) ≡ is_some x
or_none None = refl
or_none (Some n) = refl

-- the timer stays where the acts do
nothing_settles : (layout : Layout) (s : Trace Act) → settles layout s s ≡ false
nothing_settles layout s = none_both (cuts s) where
  both_not : (a b : Bool) → ((a && not b) && b) ≡ false
  both_not false b = refl
  both_not true false = refl
  both_not true true = refl

  none_both : (n : ℕ) → is_some (least (λ p. is_open layout.bounds.windows s p && settled layout.bounds.windows s p) n) ≡ false
  none_both zero = refl
  none_both (suc n) =
      ap (λ b. is_some (or_else (least (λ p. is_open layout.bounds.windows s p && settled layout.bounds.windows s p) n) (if b then Some n else None)))
      (both_not (nat_lt n (cuts s)) (settled layout.bounds.windows s n))
      ∙ or_none (least (λ p. is_open layout.bounds.windows s p && settled layout.bounds.windows s p) n) ∙ none_both n

pub told_same : (layout : Layout) (tm : Timer) (s : Trace Act) (at : ℕ) → timer_told layout tm s s at ≡ tm
told_same layout tm s at = ap (λ b. if b then record { start = at; expiries = 0 } else tm) (nothing_settles layout s)

pub polled_same : (layout : Layout) (tm : Timer) (s : Trace Act) (at : ℕ) → timer_polled layout tm s s at ≡ timer_at layout s tm at
polled_same layout tm s at = ap (λ b. if expires layout tm s at then record { start = at; expiries = tm.expiries + 1 } else (if b then record { start = at; expiries = tm.expiries } else tm)) (not_both (is_waiting layout s)) where
  not_both : (b : Bool) → (not b && b) ≡ false
  not_both true = refl
  not_both false = refl

-- a datagram comes, and shows this with effect
pub comes : (layout : Layout) (m : Machine) (t : Trace Entry) (now : ℕ) (datagram : List ℕ) (took : Took) (x : Option Shown) (s : Sender) (r : Receiver)
    → effect layout took datagram ≡ x
    → took ≡ answered layout t datagram
    → Speaks s (hears layout (acts layout t) x) (window_shown (peer_window layout t) x)
    (timer_told layout (timer layout t) (acts layout t) (hears layout (acts layout t) x) (max m.moment now))
    → Hears r (receives layout (received layout t) (length (pulled t)) x) (length (pulled t))
    (floor_shown layout (received layout t) (length (pulled t)) (receives layout (received layout t) (length (pulled t)) x) (floor layout t) x)
    (if owes layout (received layout t) (length (pulled t)) x then owed layout t ++ max m.moment now ∷ [] else owed layout t)
    → StandsIn layout m t → StandsIn layout (record { moment = max m.moment now; sender = s; receiver = r }) (t ▷ In now datagram took)
comes layout m t now datagram took x s r shows answers speaks hear h =
    let n = length (pulled t) in
    let at_moment = ap (λ k. max k now) h.moment_is in
    let more = receives_adds layout (received layout t) n x in
    let within = taken_within n (pulled t) (passed (accepted layout t)) refl h.in_order in
    record {
      moment_is = at_moment;
      sends = subst₂ (λ y at. Speaks s (hears layout (acts layout t) y) (window_shown (peer_window layout t) y)
          (timer_told layout (timer layout t) (acts layout t) (hears layout (acts layout t) y) at)) (sym shows) at_moment speaks;
      hears = subst₂ (λ y at. Hears r (receives layout (received layout t) n y) n
          (floor_shown layout (received layout t) n (receives layout (received layout t) n y) (floor layout t) y)
          (if owes layout (received layout t) n y then owed layout t ++ at ∷ [] else owed layout t)) (sym shows) at_moment hear;
      in_order = h.in_order ∙ subst (λ y. take n (passed (accepted layout t)) ≡ take n (passed (receives layout (received layout t) n y).parts)) (sym shows)
          (sym (ap (take n) more.1 ∙ take_front n (passed (accepted layout t)) more.0 within));
      faithful = (answers, h.faithful);
    }

-- a datagram comes, and has no effect
pub comes_in_vain : (layout : Layout) (m : Machine) (t : Trace Entry) (now : ℕ) (datagram : List ℕ) (took : Took)
    → effect layout took datagram ≡ None
    → took ≡ answered layout t datagram
    → StandsIn layout m t → StandsIn layout (record m { moment = max m.moment now }) (t ▷ In now datagram took)
comes_in_vain layout m t now datagram took none answers h =
    comes layout m t now datagram took None m.sender m.receiver none answers
    (subst (Speaks m.sender (acts layout t) (peer_window layout t)) (sym (told_same layout (timer layout t) (acts layout t) (max m.moment now))) h.sends)
    h.hears h

-- ---- a poll

-- a poll gives what is due
pub polls : (layout : Layout) (m : Machine) (t : Trace Entry) (now : ℕ) (out : Option (List ℕ)) (s : Sender) (r : Receiver)
    → out ≡ due layout t now
    → Speaks s (acts layout (t ▷ Polled now out)) (peer_window layout t) (timer layout (t ▷ Polled now out))
    → Hears r (received layout t) (length (pulled t)) (floor layout t) (owed layout (t ▷ Polled now out))
    → StandsIn layout m t → StandsIn layout (record { moment = max m.moment now; sender = s; receiver = r }) (t ▷ Polled now out)
polls layout m t now out s r is_due speaks hear h = record {
  moment_is = ap (λ k. max k now) h.moment_is;
  sends = speaks;
  hears = hear;
  in_order = h.in_order;
  faithful = (is_due, h.faithful);
}
