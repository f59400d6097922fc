-- What a datagram that comes does to a machine, by what is read of it.
use Rattle.std.proofs.Common.{◌≡◌, ℕ, ◌≤◌, ◌<◌, Bool, true, false, nat_lt, max, List, [], ◌∷◌, ◌++◌, length, Option, Some, None, refl, sym, ap, ◌∙◌, subst, lt-ltb, le-ltb, nltb→le, T, not, if◌then◌else◌}
use Rattle.mt_base.specs.Trace.{Trace, ◌▷◌}
use Rattle.mt_windows.specs.declared.receive.Accept.{Accept}
use Rattle.mt_windows.specs.declared.receive.Accept.TheVariants.{New, Again, Beyond}
use Rattle.carrier.specs.declared.state.Took.{Took}
use Rattle.carrier.specs.declared.state.Took.TheVariants.{Ignored}
use Rattle.carrier.specs.declared.state.Reason.{Reason}
use Rattle.carrier.specs.declared.state.Reason.TheVariants as reason
use Rattle.carrier.specs.Entries.{Entry, In, pulled}
use Rattle.carrier.specs.Layout.{Layout, Received, Reading, Refuses, Shows, Shown, Load, Empty, Carries, Dummy, Correction}
use Rattle.carrier.specs.Receiving.{Arrival, arrival, verdict_on, transmission_read, receives, received, effect, has_effect, shown_in, reading, floor, floor_shown, owed, owes, peer_window, window_shown}
use Rattle.carrier.specs.Sending.{acts, hears, timer, timer_told, is_closed}
use Rattle.carrier.specs.Law.{answered, answer_load, answer_reading, answer_to, answer_by, answer_dummy}
use Rattle.mt_windows.specs.declared.limits.TheConstants.{DATAGRAM}
use Rattle.carrier.specs.declared.limits.TheConstants.{EXPIRIES}
use Rattle.link_machine.specs.Wire.{Wire}
use Rattle.link_machine.specs.ReceiverView.{Receiver, Hears}
use Rattle.link_machine.specs.SenderView.{Sender, Speaks}
use Rattle.link_machine.specs.MachineView.{Machine, StandsIn, layout_at, condition_of}
use Rattle.carrier.specs.declared.state.LinkState.{LinkState}
use Rattle.carrier.specs.declared.state.LinkState.TheVariants.{Opening, Open, Closed}
use Rattle.link_machine.proofs.Steps.{comes, comes_in_vain, at_moment}

-- ---- answers

-- whether it is closed is kept
closed_is : (wire : Wire) (m : Machine) (t : Trace Entry) (b : Bool) → nat_lt EXPIRIES m.sender.timer.expiries ≡ b → StandsIn (layout_at wire m) m t → is_closed (layout_at wire m) t ≡ b
closed_is wire m t b e h = ap (λ tm. nat_lt EXPIRIES tm.expiries) (sym h.sends.timer_is) ∙ e

answered_open : (layout : Layout) (t : Trace Entry) (datagram : List ℕ) (x : Reading) → is_closed layout t ≡ false → reading layout datagram ≡ x → answer_reading layout (received layout t) (length (pulled t)) x ≡ answered layout t datagram
answered_open layout t datagram x is_open is =
    ap (answer_reading layout (received layout t) (length (pulled t))) (sym is)
    ∙ ap (λ b. if b then Ignored reason.LinkClosed else answer_reading layout (received layout t) (length (pulled t)) (reading layout datagram)) (sym is_open)

-- the answer to what is shown has an effect
by_has : (v : Accept) → has_effect (answer_by v) ≡ true
by_has New = refl
by_has Again = refl
by_has (Beyond limit) = refl

to_has : (layout : Layout) (r : Received) (n : ℕ) (a : Option Arrival) → has_effect (answer_to layout r n a) ≡ true
to_has layout r n None = refl
to_has layout r n (Some a) = by_has (verdict_on layout r n a)

dummy_has : (n : Option ℕ) → has_effect (answer_dummy n) ≡ true
dummy_has None = refl
dummy_has (Some n) = refl

load_has : (layout : Layout) (r : Received) (n : ℕ) (load : Load) → has_effect (answer_load layout r n load) ≡ true
load_has layout r n Empty = refl
load_has layout r n (Carries part transmission bytes) = to_has layout r n (arrival layout r n (Carries part transmission bytes))
load_has layout r n (Dummy transmission) = dummy_has (transmission_read layout r transmission)
load_has layout r n Correction = refl

-- what is refused has none
refused_none : (layout : Layout) (took : Took) (datagram : List ℕ) (why : Reason) → reading layout datagram ≡ Refuses why → effect layout took datagram ≡ None
refused_none layout took datagram why is = either (has_effect took) ∙ ap shown_in is where
  either : (b : Bool) → (if b then shown_in (reading layout datagram) else None) ≡ shown_in (reading layout datagram)
  either true = refl
  either false = sym (ap shown_in is)

-- ---- readings

pub long_read : (wire : Wire) (m : Machine) (datagram : List ℕ) → DATAGRAM < length datagram → reading (layout_at wire m) datagram ≡ Refuses reason.TooLong
long_read wire m datagram long = ap (λ b. if b then Refuses reason.TooLong else wire.read datagram) (lt-ltb DATAGRAM (length datagram) long)

pub short_read : (wire : Wire) (m : Machine) (datagram : List ℕ) (x : Reading) → length datagram ≤ DATAGRAM → wire.read datagram ≡ x → reading (layout_at wire m) datagram ≡ x
short_read wire m datagram x short is = ap (λ b. if b then Refuses reason.TooLong else wire.read datagram) (le-ltb DATAGRAM (length datagram) short) ∙ is

-- ---- calls

pub closed_in : (wire : Wire) (m : Machine) (t : Trace Entry) (now at : ℕ) (datagram : List ℕ) → at ≡ max m.moment now → nat_lt EXPIRIES m.sender.timer.expiries ≡ true → StandsIn (layout_at wire m) m t
    → StandsIn (layout_at wire m) (record m { moment = at }) (t ▷ In now datagram (Ignored reason.LinkClosed))
closed_in wire m t now at datagram moved closed h =
    let l = (layout_at wire m) in
    at_moment wire m _ at _ (sym moved) (comes_in_vain l m t now datagram (Ignored reason.LinkClosed) refl
    (sym (ap (λ b. if b then Ignored reason.LinkClosed else answer_reading l (received l t) (length (pulled t)) (reading l datagram)) (closed_is wire m t true closed h))) h)

pub refused_in : (wire : Wire) (m : Machine) (t : Trace Entry) (now at : ℕ) (datagram : List ℕ) (why : Reason) → at ≡ max m.moment now → nat_lt EXPIRIES m.sender.timer.expiries ≡ false → reading (layout_at wire m) datagram ≡ Refuses why → StandsIn (layout_at wire m) m t
    → StandsIn (layout_at wire m) (record m { moment = at }) (t ▷ In now datagram (Ignored why))
refused_in wire m t now at datagram why moved is_open is h =
    let l = (layout_at wire m) in
    at_moment wire m _ at _ (sym moved) (comes_in_vain l m t now datagram (Ignored why) (refused_none l (Ignored why) datagram why is)
    (answered_open l t datagram (Refuses why) (closed_is wire m t false is_open h) is) h)

pub used_in : (wire : Wire) (m : Machine) (t : Trace Entry) (now at : ℕ) (datagram : List ℕ) (took : Took) (shown : Shown) (s : Sender) (r : Receiver)
    → at ≡ max m.moment now → nat_lt EXPIRIES m.sender.timer.expiries ≡ false → reading (layout_at wire m) datagram ≡ Shows shown
    → took ≡ answer_load (layout_at wire m) (received (layout_at wire m) t) (length (pulled t)) shown.load
    → Speaks s (hears (layout_at wire m) (acts (layout_at wire m) t) (Some shown)) (window_shown (peer_window (layout_at wire m) t) (Some shown))
    (timer_told (layout_at wire m) (timer (layout_at wire m) t) (acts (layout_at wire m) t) (hears (layout_at wire m) (acts (layout_at wire m) t) (Some shown)) at)
    → Hears r (receives (layout_at wire m) (received (layout_at wire m) t) (length (pulled t)) (Some shown)) (length (pulled t))
    (floor_shown (layout_at wire m) (received (layout_at wire m) t) (length (pulled t)) (receives (layout_at wire m) (received (layout_at wire m) t) (length (pulled t)) (Some shown)) (floor (layout_at wire m) t) (Some shown))
    (if owes (layout_at wire m) (received (layout_at wire m) t) (length (pulled t)) (Some shown) then owed (layout_at wire m) t ++ at ∷ [] else owed (layout_at wire m) t)
    → StandsIn (layout_at wire m) m t
    → StandsIn (layout_at wire m) (record { moment = at; sender = s; receiver = r }) (t ▷ In now datagram took)
used_in wire m t now at datagram took shown s r moved is_open is answers speaks hear h =
    let l = (layout_at wire m) in
    let has : has_effect took ≡ true = ap has_effect answers ∙ load_has l (received l t) (length (pulled t)) shown.load in
    let shows : effect l took datagram ≡ Some shown = ap (λ b. if b then shown_in (reading l datagram) else None) has ∙ ap shown_in is in
    subst (λ k. StandsIn l (record { moment = k; sender = s; receiver = r }) (t ▷ In now datagram took)) (sym moved)
    (comes l m t now datagram took (Some shown) s r shows
    (answers ∙ answered_open l t datagram (Shows shown) (closed_is wire m t false is_open h) is)
    (subst (λ k. Speaks s (hears l (acts l t) (Some shown)) (window_shown (peer_window l t) (Some shown)) (timer_told l (timer l t) (acts l t) (hears l (acts l t) (Some shown)) k)) moved speaks)
    (subst (λ k. Hears r (receives l (received l t) (length (pulled t)) (Some shown)) (length (pulled t))
    (floor_shown l (received l t) (length (pulled t)) (receives l (received l t) (length (pulled t)) (Some shown)) (floor l t) (Some shown))
    (if owes l (received l t) (length (pulled t)) (Some shown) then owed l t ++ k ∷ [] else owed l t)) moved hear) h)

-- ---- what the link is

abbrev is_no_closed : LinkState → Type 0
is_no_closed Opening = Unit {0}
is_no_closed Open = Unit {0}
is_no_closed (Closed e) = ⊥

pub few_of : (n : ℕ) → false ≡ nat_lt EXPIRIES n → n ≤ EXPIRIES
few_of n e = nltb→le EXPIRIES n (subst (λ b. T (not b)) e tt)

-- a link with no more expiries than it survives is not closed
pub not_closed : {X : Type 0} (m : Machine) (e : ℕ) → m.sender.timer.expiries ≤ EXPIRIES → condition_of m ≡ Closed e → X
not_closed m e few is =
    let is_open : condition_of m ≡ Open = ap (λ b. if b then Closed m.sender.timer.expiries else Open) (le-ltb EXPIRIES m.sender.timer.expiries few) in
    absurd (subst is_no_closed (sym is_open ∙ is) tt)
