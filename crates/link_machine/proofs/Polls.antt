-- What a poll of the first machine sends, and what it then stands for.
use Rattle.std.proofs.Common.{◌≡◌, ℕ, ◌+◌, ◌*◌, ◌-◌, ◌%◌, ◌<◌, ◌≤◌, Bool, true, false, ◌&&◌, ◌||◌, eqb, ltb, leb, cond, max, List, [], length, Option, Some, None, is_some, unwrap_or, refl, sym, ap, ◌∙◌, subst, arith}
use Rattle.std.specs.Prelude.{if◌then◌else◌}
use Rattle.std.proofs.lemmas.Bool.{and_parts}
use Rattle.std.proofs.lemmas.Bool.Decides.{nat_tests}
use Rattle.mt_base.specs.Trace.{Trace, ◌▷◌}
use Rattle.mt_base.specs.Nearness.{nearest}
use Rattle.mt_base.proofs.LowPart.{nearest_meant}
use Rattle.mt_windows.specs.Sending.Act.{Cut, Resent}
use Rattle.mt_windows.specs.Sending.{Act, cuts, lowest_or_next, may_cut, passed_over, settled}
use Rattle.mt_windows.specs.FlightView.{slot_at}
use Rattle.mt_windows.specs.SendingView.{Outbox, Sends, limits, is_unsettled}
use Rattle.carrier.specs.Entries.{Entry, Polled, pulled}
use Rattle.carrier.specs.Layout.{Layout, Datagram}
use Rattle.carrier.specs.LayoutLaw.{IsCarried, IsLayout}
use Rattle.carrier.specs.Receiving.{floor, owed, peer_window, received}
use Rattle.carrier.specs.Sending.{Timer, acts, timer, expires, is_closed, sends_part}
use Rattle.carrier.specs.Due.{again, bare, closes, fresh, is_pressing, may_send, meant_at, own_floor, telling_with}
use Rattle.mt_windows.specs.declared.limits.TheConstants.{WINDOW}
use Rattle.link_machine.specs.declared.choice.Choice.{Choice}
use Rattle.link_machine.specs.declared.choice.Choice.TheVariants.{Silent, Again, Fresh, Telling}
use Rattle.link_machine.specs.Wire.{Wire, layout_of}
use Rattle.link_machine.specs.WireLaw.{IsWire}
use Rattle.link_machine.specs.ReceiverView.{Hears}
use Rattle.link_machine.specs.SenderView.{Speaks, choice_at, timer_at, timer_begun}
use Rattle.link_machine.specs.MachineView.{Machine, StandsIn, layout_at, datagram_with, owed_after, fresh_load, again_load}
use Rattle.link_machine.proofs.Carrying.{part_tells}
use Rattle.link_machine.proofs.Steps.{at_layout, polled_same}
use Rattle.link_machine.proofs.Polled.{sends_none, sends_one, timer_cut, timer_resent, waits_cut}

-- ---- what is meant, by the choice

-- this is meant where the sender chose so
abbrev pub MeantBy : Layout → Trace Entry → ℕ → Choice → Option Datagram → Type 0
MeantBy l t at Silent d = d ≡ None
MeantBy l t at (Again part) d = (p : ℕ) × (part ≡ l.own + p) × (d ≡ Some (again l t p))
MeantBy l t at Fresh d = d ≡ Some (fresh l t)
MeantBy l t at Telling d = d ≡ bare l t at

pub meant_by : (l : Layout) (t : Trace Entry) (at : ℕ) (choice : Choice)
    → choice ≡ choice_at l (acts l t) (peer_window l t) (timer l t) at
    → MeantBy l t at choice (meant_at l t at)
meant_by l t at choice is =
    subst (λ c. MeantBy l t at c (meant_at l t at)) (sym is)
    (by_cases (is_closed l t || closes l t at) (expires l (timer l t) a at && may_send l a)
    (is_some over && may_send l a) (may_cut l.bounds.windows l.own a (peer_window l t))) where
      a : Trace Act
      a = acts l t

      over : Option ℕ
      over = passed_over l.bounds.windows a

      by_cases : (ended expired passed cut : Bool) → MeantBy l t at
          (cond ended Silent (cond expired (Again (l.own + lowest_or_next l.bounds.windows a))
          (cond passed (Again (l.own + unwrap_or over 0)) (cond cut Fresh Telling))))
          (cond ended None (cond expired (Some (again l t (lowest_or_next l.bounds.windows a)))
          (cond passed (Some (again l t (unwrap_or over 0))) (cond cut (Some (fresh l t))
          (bare l t at)))))
      by_cases true expired passed cut = refl
      by_cases false true passed cut = (lowest_or_next l.bounds.windows a, refl, refl)
      by_cases false false true cut = (unwrap_or over 0, refl, refl)
      by_cases false false false true = refl
      by_cases false false false false = refl

-- ---- numbers that are read back

-- an unsettled part was cut
pub unsettled_cut : (o : Outbox) (own part p : ℕ) (a : Trace Act) → Sends o own a
    → part ≡ own + p → is_unsettled o part ≡ true → p < cuts a
unsettled_cut o own part p a h place is =
    let there = is_some (slot_at o.flights (part - o.first - o.base)) in
    let above = and_parts (leb (o.first + o.base) part) (ltb part (o.first + o.cut) && there) is in
    let below = (and_parts (ltb part (o.first + o.cut)) there above.1).0 in
    let first = h.first_is in
    let cut = h.cut_is in
    grind (arith, nat_tests)

-- a number near to the next part is read back
reads_near : (l : Layout) → IsLayout l → 2 * WINDOW ≤ l.modulus → (reference n : ℕ) → reference ≤ n + WINDOW → n ≤ reference
    → nearest l.modulus reference (n % l.modulus) ≡ Some n
reads_near l h wide reference n near within =
    let half = h.modulus_is in
    subst (λ m. nearest m reference (n % m) ≡ Some n) (sym half) (nearest_meant h.half reference n h.some_half (omega (arith, near, within, half, wide)) (omega (arith, near, within, half, wide, h.some_half)))

same_number : (n : ℕ) → eqb n n ≡ true
same_number n = grind (arith, nat_tests)

module _ (wire : Wire) (is_wire : IsWire wire) (wait delay own peer : ℕ) (some_own : 1 ≤ own) (some_peer : 1 ≤ peer) (m n : Machine) (t : Trace Entry) (now : ℕ)
    (moment_is : n.moment ≡ max m.moment now) (h : StandsIn (layout_of wire wait delay own peer) m
    t) where
  abbrev pub l : Layout
  l = layout_of wire wait delay own peer

  abbrev pub a : Trace Act
  a = acts l t

  lawful : IsLayout l
  lawful = is_wire.lawful wait delay own peer some_own some_peer

  -- no datagram
  pub silent : meant_at l t n.moment ≡ None
      → Speaks n.sender a (peer_window l t) (timer_at l a (timer l t) n.moment)
      → Hears n.receiver (received l t) (length (pulled t)) (floor l t) (owed l t)
      → StandsIn l n (t ▷ Polled now None)
  silent none speaks hears = sends_none l m n t now moment_is h none speaks hears

  -- the next part
  pub sends_fresh : (out : List ℕ) → meant_at l t n.moment ≡ Some (fresh l t)
      → IsCarried l (fresh_load own a)
      → settled limits a (cuts a) ≡ false
      → out ≡ l.spell (datagram_with l (received l t) (floor l t) (owed l t) None (Some (fresh_load own a)))
      → Speaks n.sender (a ▷ Cut) (peer_window l t) (timer_begun l a (timer_at l a (timer l t)
      n.moment) n.moment)
      → Hears n.receiver (received l t) (length (pulled t)) (floor l t) (owed_after (owed l t))
      → StandsIn l n (t ▷ Polled now (Some out))
  sends_fresh out means carried new spells speaks hears =
      let tells = ltb 0 (length (owed l t)) in
      let d = telling_with l t None (Some (fresh_load own a)) tells in
      let number : sends_part l a (nearest wire.modulus (own + cuts a)
      ((own + cuts a) % wire.modulus)) ≡ a ▷ Cut =
      ap (sends_part l a) (reads_near l lawful is_wire.wide (own + cuts a) (own + cuts a) (omega arith) (omega arith))
      ∙ ap (λ b. cond b (a ▷ Cut) (a ▷ Resent (own + cuts a - own))) (same_number (own + cuts a)) in
      sends_one l m n t now moment_is h d out (a ▷ Cut) _
      (means ∙ ap Some (part_tells wire is_wire wait delay own peer t None (fresh_load own a) carried))
      spells
      (lawful.read_back (received l t) (floor l t) tells None
      (Some (fresh_load own a)) carried)
      number (timer_cut l (timer l t) a n.moment (waits_cut l a new)) speaks hears where
        same_number : (k : ℕ) → eqb k k ≡ true
        same_number k = grind (arith, nat_tests)

  -- a part again
  pub sends_again : (p : ℕ) (out : List ℕ) → meant_at l t n.moment ≡ Some (again l t p)
      → IsCarried l (again_load own p a)
      → p < cuts a → cuts a ≤ p + WINDOW
      → out ≡ l.spell (datagram_with l (received l t) (floor l t) (owed l t) (Some (own_floor l a)) (Some (again_load own p a)))
      → Speaks n.sender (a ▷ Resent p) (peer_window l t) (timer_at l a (timer l t) n.moment)
      → Hears n.receiver (received l t) (length (pulled t)) (floor l t) (owed_after (owed l t))
      → StandsIn l n (t ▷ Polled now (Some out))
  sends_again p out means carried below near spells speaks hears =
      let tells = ltb 0 (length (owed l t)) in
      let above = Some (own_floor l a) in
      let d = telling_with l t above (Some (again_load own p a)) tells in
      let other : eqb (own + p) (own + cuts a) ≡ false = grind (arith, nat_tests) in
      let place : own + p - own ≡ p = omega arith in
      let number : sends_part l a (nearest wire.modulus (own + cuts a) ((own + p) % wire.modulus))
      ≡ a ▷ Resent p =
      ap (sends_part l a) (reads_near l lawful is_wire.wide (own + cuts a) (own + p) (omega (arith, near))
      (omega (arith, below)))
      ∙ ap (λ b. cond b (a ▷ Cut) (a ▷ Resent (own + p - own))) other
      ∙ ap (λ k. a ▷ Resent k) place in
      sends_one l m n t now moment_is h d out (a ▷ Resent p) _
      (means ∙ ap Some (part_tells wire is_wire wait delay own peer t above (again_load own p a) carried))
      spells
      (lawful.read_back (received l t) (floor l t) tells above
      (Some (again_load own p a)) carried)
      number (timer_resent l (timer l t) a p n.moment) speaks hears

  -- a telling alone, or nothing
  pub tells_alone : (out : Option (List ℕ)) → meant_at l t n.moment ≡ bare l t n.moment
      → out ≡ (if is_pressing l (owed l t) n.moment then Some
      (l.spell (datagram_with l (received l t) (floor l t) (owed l t) None None)) else
      None)
      → Speaks n.sender a (peer_window l t) (timer_at l a (timer l t) n.moment)
      → Hears n.receiver (received l t) (length (pulled t)) (floor l t) (if is_pressing l
      (owed l t) n.moment then [] else owed l t)
      → StandsIn l n (t ▷ Polled now out)
  tells_alone out means spells speaks hears = by_case (is_pressing l (owed l t) n.moment) means
      spells hears where
        d : Datagram
        d = telling_with l t None None true

        by_case : (b : Bool) → meant_at l t n.moment ≡ cond b (Some d) None
            → out ≡ cond b (Some (l.spell (datagram_with l (received l t) (floor l t) (owed l t) None None))) None
            → Hears n.receiver (received l t) (length (pulled t)) (floor l t) (cond b [] (owed l t))
            → StandsIn l n (t ▷ Polled now out)
        by_case false means is hears =
            subst (λ o. StandsIn l n (t ▷ Polled now o)) (sym is) (silent means speaks hears)
        by_case true means is hears =
            subst (λ o. StandsIn l n (t ▷ Polled now o)) (sym is)
            (sends_one l m n t now moment_is h d (l.spell d) a _ means refl
            (lawful.read_back (received l t) (floor l t) true None None tt)
            refl (polled_same l (timer l t) a n.moment) speaks hears)

-- ---- a poll of the machine

-- The sender has chosen: this is meant, and this it speaks of.
pub record Chose (wire : Wire) (n : Machine) (t : Trace Entry) (choice : Choice) : Type 0 where
  pub means : MeantBy (layout_at wire n) t n.moment choice (meant_at (layout_at wire n) t n.moment)
  pub speaks : Speaks n.sender (acts (layout_at wire n) t) (peer_window (layout_at wire n) t)
      (timer_at (layout_at wire n) (acts (layout_at wire n) t) (timer (layout_at wire n) t) n.moment)

pub chose : (wire : Wire) (m n : Machine) (t : Trace Entry) (choice : Choice) → layout_at wire m ≡ layout_at wire n
    → ((acts : Trace Act) (told : ℕ) (timer : Timer) → Speaks m.sender acts told timer
    → choice ≡ choice_at (layout_at wire m) acts told timer n.moment)
    → ((acts : Trace Act) (told : ℕ) (timer : Timer) → Speaks m.sender acts told timer
    → Speaks n.sender acts told (timer_at (layout_at wire m) acts timer n.moment))
    → StandsIn (layout_at wire n) m t → Chose wire n t choice
chose wire m n t choice same chooses counts h =
    let l = layout_at wire n in
    let a = acts l t in
    let w = peer_window l t in
    let tm = timer l t in
    record {
      means = meant_by l t n.moment choice
          (subst (λ k. choice ≡ choice_at k a w tm n.moment) same (chooses a w tm h.sends));
      speaks = subst (λ k. Speaks n.sender a w (timer_at k a tm n.moment)) same
          (counts a w tm h.sends);
    }

-- the machine m chose as n, and sent as x
module _ (wire : Wire) (is_wire : IsWire wire) (m n x : Machine) (own_some : 1 ≤ n.sender.config.own) (peer_some : 1 ≤ n.receiver.config.peer) (t : Trace Entry) (now : ℕ) (moment_is : n.moment ≡ max m.moment now)
    (stays : x.moment ≡ n.moment) (same : layout_at wire x ≡ layout_at wire n)
    (h : StandsIn (layout_at wire n) m t) where
  abbrev pub chosen_layout : Layout
  chosen_layout = layout_at wire n

  abbrev pub chosen_acts : Trace Act
  chosen_acts = acts (layout_at wire n) t

  abbrev pub chosen_timer : ℕ → Timer
  chosen_timer k = timer_at (layout_at wire n) (acts (layout_at wire n) t) (timer (layout_at wire n) t) k

  abbrev pub heard : List ℕ → Type 0
  heard more = Hears x.receiver (received (layout_at wire n) t) (length (pulled t))
      (floor (layout_at wire n) t) more

  pub stands_fresh : (out : List ℕ) → Chose wire n t Fresh
      → IsCarried chosen_layout (fresh_load n.sender.config.own chosen_acts)
      → out ≡ chosen_layout.spell (datagram_with chosen_layout (received chosen_layout t) (floor chosen_layout t) (owed chosen_layout t) None (Some (fresh_load n.sender.config.own chosen_acts)))
      → Speaks x.sender (chosen_acts ▷ Cut) (peer_window chosen_layout t)
      (timer_begun chosen_layout chosen_acts (chosen_timer n.moment) n.moment)
      → heard (owed_after (owed chosen_layout t))
      → StandsIn (layout_at wire x) x (t ▷ Polled now (Some out))
  stands_fresh out c carried spells speaks hears =
      let new = h.sends.sends.unsettled_beyond (cuts chosen_acts)
      (omega (arith, h.sends.sends.cut_is)) in
      at_layout chosen_layout (layout_at wire x) x _ (sym same)
      (sends_fresh wire is_wire n.sender.config.wait n.receiver.config.delay n.sender.config.own n.receiver.config.peer own_some peer_some m x t now
      (stays ∙ moment_is) h out
      (subst (λ k. meant_at chosen_layout t k ≡ Some (fresh chosen_layout t)) (sym stays) c.means)
      carried new spells
      (subst (λ k. Speaks x.sender (chosen_acts ▷ Cut) (peer_window chosen_layout t)
      (timer_begun chosen_layout chosen_acts (chosen_timer k) k)) (sym stays) speaks)
      hears)

  pub stands_again : (part : ℕ) (out : List ℕ) (c : Chose wire n t (Again part))
      → IsCarried chosen_layout (again_load n.sender.config.own c.means.0 chosen_acts)
      → is_unsettled n.sender.outbox part ≡ true
      → cuts chosen_acts ≤ c.means.0 + WINDOW
      → out ≡ chosen_layout.spell (datagram_with chosen_layout (received chosen_layout t) (floor chosen_layout t) (owed chosen_layout t) (Some (own_floor chosen_layout chosen_acts)) (Some (again_load n.sender.config.own c.means.0 chosen_acts)))
      → Speaks x.sender (chosen_acts ▷ Resent c.means.0) (peer_window chosen_layout t)
      (chosen_timer n.moment)
      → heard (owed_after (owed chosen_layout t))
      → StandsIn (layout_at wire x) x (t ▷ Polled now (Some out))
  stands_again part out c carried unsettled near spells speaks hears =
      let p = c.means.0 in
      let below = unsettled_cut n.sender.outbox n.sender.config.own part p chosen_acts c.speaks.sends
      c.means.1 unsettled in
      at_layout chosen_layout (layout_at wire x) x _ (sym same)
      (sends_again wire is_wire n.sender.config.wait n.receiver.config.delay n.sender.config.own n.receiver.config.peer own_some peer_some m x t now
      (stays ∙ moment_is) h p out
      (subst (λ k. meant_at chosen_layout t k ≡ Some (again chosen_layout t p)) (sym stays)
      c.means.2)
      carried below near spells
      (subst (λ k. Speaks x.sender (chosen_acts ▷ Resent p) (peer_window chosen_layout t)
      (chosen_timer k)) (sym stays) speaks)
      hears)

  pub stands_telling : (out : Option (List ℕ)) → Chose wire n t Telling
      → out ≡ (if is_pressing chosen_layout (owed chosen_layout t) n.moment
      then Some (chosen_layout.spell (datagram_with chosen_layout (received chosen_layout t) (floor chosen_layout t) (owed chosen_layout t) None None)) else None)
      → x.sender ≡ n.sender
      → heard (if is_pressing chosen_layout (owed chosen_layout t) n.moment then []
      else owed chosen_layout t)
      → StandsIn (layout_at wire x) x (t ▷ Polled now out)
  stands_telling out c spells sender hears =
      let due = owed chosen_layout t in
      let alone = chosen_layout.spell (datagram_with chosen_layout (received chosen_layout t) (floor chosen_layout t) due None None) in
      at_layout chosen_layout (layout_at wire x) x _ (sym same)
      (tells_alone wire is_wire n.sender.config.wait n.receiver.config.delay n.sender.config.own n.receiver.config.peer own_some peer_some m x t now
      (stays ∙ moment_is) h out
      (subst (λ k. meant_at chosen_layout t k ≡ bare chosen_layout t k) (sym stays) c.means)
      (subst (λ k. out ≡ (if is_pressing chosen_layout due k then Some alone else None))
      (sym stays) spells)
      (subst (λ k. Speaks x.sender chosen_acts (peer_window chosen_layout t) (chosen_timer k))
      (sym stays) (subst (λ s. Speaks s chosen_acts (peer_window chosen_layout t)
      (chosen_timer n.moment)) (sym sender) c.speaks))
      (subst (λ k. heard (if is_pressing chosen_layout due k then [] else due)) (sym stays) hears))
