-- When a lossy link has something due.
use Rattle.std.proofs.Common.{◌≡◌, ℕ, ◌+◌, ◌≤◌, Bool, true, false, ◌&&◌, ◌||◌, nat_le, max, List, [], ◌∷◌, if◌then◌else◌, Option, Some, None, is_some, option_map, refl, sym, ap, ◌∙◌, subst, arith}
use Rattle.std.proofs.lemmas.Bool.Decides.{nat_tests}
use Rattle.mt_base.specs.declared.kinds.Role.{Role}
use Rattle.mt_base.specs.declared.kinds.Role.TheVariants.{Server, Client}
use Rattle.mt_base.specs.Trace.{Trace}
use Rattle.carrier.specs.Due.{is_pressing}
use Rattle.carrier.specs.Entries.{Entry, moment}
use Rattle.carrier.specs.Layout.{Datagram, Layout}
use Rattle.link_machine.specs.ReceiverView.{pressing_from}
use Rattle.udp1_packets.specs.Value.{Packet}
use Rattle.udp1_packets.specs.Layout.{spelled}
use Rattle.udp_open.specs.declared.settings.OpenSettings.{OpenSettings}
use Rattle.udp_open.specs.declared.agreement.Agreement.{Agreement}
use Rattle.udp_open.specs.declared.timer.Timer.{Timer}
use Rattle.udp_open.specs.Handshake as opening
use Rattle.udp_open.specs.Handshake.{agreed, expiries, is_asking, is_time, opening_due, opening_meant, owed, timer}
use Rattle.udp_open.specs.LinkTrace.{layout_by}
use Rattle.lossy_mode.specs.Thin.{Got, IsNextDue, bare_meant, first_due, got, is_due, may_send, meant_by, part_meant, sent, sent_by, tellings, unsent}
use Rattle.lossy_mode.specs.LossyView.{Lossy, StandsThin, due_from}

-- ---- what is due at a moment, by what is so

some_spelled : (p : Option Packet) → is_some (first_due (option_map spelled p) None) ≡ is_some p
some_spelled None = refl
some_spelled (Some p) = refl

-- while it opens
waits_due : (s : OpenSettings) (t : Trace Entry) (at : ℕ) → agreed s t ≡ None → opening.is_due s t at ≡ is_due s t at
waits_due s t at e =
    sym (ap (λ b. b || opening.closes s t (max (moment t) at))
    (ap (λ o. is_some (first_due (opening_due s t at) (sent_by s o (got s t) (tellings s t) (s.initial + 1 + sent t) (unsent t) (max (moment t) at)))) e
    ∙ some_spelled (opening_meant s t at)))

pub waits_next : (s : OpenSettings) (t : Trace Entry) (r : Option ℕ) → agreed s t ≡ None → opening.IsNextDue s t r → IsNextDue s t r
waits_next s t None e h = λ at. sym (waits_due s t at e) ∙ h at
waits_next s t (Some m) e h = (h.0, sym (waits_due s t m e) ∙ h.1, λ at low high. sym (waits_due s t at e) ∙ h.2 at low high)

-- where the ends agreed nothing closes the link
not_asking : (role : Role) (a : Agreement) (b : Bool) → (is_asking role (Some a) && b) ≡ false
not_asking Server a b = refl
not_asking Client a b = refl

or_none : (b : Bool) → (b || false) ≡ b
or_none true = refl
or_none false = refl

open_closes : (s : OpenSettings) (t : Trace Entry) (a : Agreement) (at : ℕ) → agreed s t ≡ Some a → opening.closes s t at ≡ false
open_closes s t a at e =
    ap (λ o. is_asking s.role o && (is_time (timer s t) at && nat_le 16 (expiries s t))) e
    ∙ not_asking s.role a (is_time (timer s t) at && nat_le 16 (expiries s t))

-- what the opening has due does not depend on the moment then
same_due : (s : OpenSettings) (role : Role) (a : Agreement) (clock : Option Timer) (n one two : ℕ) → opening.sent s role (Some a) clock n one ≡ opening.sent s role (Some a) clock n two
same_due s Server a clock n one two = refl
same_due s Client a clock n one two = refl

same_meant : (s : OpenSettings) (t : Trace Entry) (a : Agreement) (one two : ℕ) → agreed s t ≡ Some a → opening_meant s t one ≡ opening_meant s t two
same_meant s t a one two e =
    ap (λ o. opening.sent s s.role o (timer s t) (owed s t) (max (moment t) one)) e
    ∙ same_due s s.role a (timer s t) (owed s t) (max (moment t) one) (max (moment t) two)
    ∙ sym (ap (λ o. opening.sent s s.role o (timer s t) (owed s t) (max (moment t) two)) e)

opening_same : (s : OpenSettings) (t : Trace Entry) (a : Agreement) (one two : ℕ) → agreed s t ≡ Some a → opening.is_due s t one ≡ opening.is_due s t two
opening_same s t a one two e =
    ap (λ p. is_some p || opening.closes s t (max (moment t) one)) (same_meant s t a one two e)
    ∙ ap (λ b. is_some (opening_meant s t two) || b) (open_closes s t a (max (moment t) one) e ∙ sym (open_closes s t a (max (moment t) two) e))

-- what the opening has due is due
first_some : (p : Option Packet) (later : Option (List ℕ)) → is_some p ≡ true → is_some (first_due (option_map spelled p) later) ≡ true
first_some None later h = cc
first_some (Some p) later h = refl

first_none : (p : Option Packet) (later : Option (List ℕ)) → is_some p ≡ false → first_due (option_map spelled p) later ≡ later
first_none None later h = refl
first_none (Some p) later h = cc

or_true : (a b : Bool) → (a || b) ≡ true → b ≡ false → a ≡ true
or_true true b h e = refl
or_true false b h e = cc

or_false : (a b : Bool) → (a || b) ≡ false → a ≡ false
or_false true b h = cc
or_false false b h = refl

pub opening_next : (s : OpenSettings) (t : Trace Entry) (a : Agreement) (m : ℕ) → agreed s t ≡ Some a → opening.IsNextDue s t (Some m) → IsNextDue s t (Some m)
opening_next s t a m e h =
    let some = or_true (is_some (opening_meant s t m)) (opening.closes s t (max (moment t) m)) h.1 (open_closes s t a (max (moment t) m) e) in (
      h.0,
      ap (λ b. b || opening.closes s t (max (moment t) m)) (first_some (opening_meant s t m) _ some),
      λ at low high. absurd (let no = sym h.1 ∙ opening_same s t a m at e ∙ h.2 at low high in cc),
    )

-- ---- what an open link has due

some_mapped : (f : Datagram → List ℕ) (o : Option Datagram) → is_some (option_map f o) ≡ is_some o
some_mapped f None = refl
some_mapped f (Some d) = refl

some_bare : (b : Bool) (d : Datagram) → is_some (if b then Some d else None) ≡ b
some_bare true d = refl
some_bare false d = refl

some_meant : (lay : Layout) (g : Got) (owed : List ℕ) (number at : ℕ) (b : Bool) (parts : List (List ℕ)) → may_send parts g.window number ≡ b
    → is_some (if b then part_meant lay g owed number parts else bare_meant lay g owed at) ≡ (b || is_pressing lay owed at)
some_meant lay g owed number at false parts e = some_bare (is_pressing lay owed at) _
some_meant lay g owed number at true [] e = absurd (grind (arith, nat_tests))
some_meant lay g owed number at true (bytes ∷ parts) e = refl

-- the moment from which on a telling presses
pressing_at : (lay : Layout) (owed : List ℕ) (d at : ℕ) → pressing_from lay.delay owed ≡ Some d → is_pressing lay owed at ≡ nat_le d at
pressing_at lay [] d at e = cc
pressing_at lay (one ∷ []) d at e =
    let same : one + lay.delay ≡ d = cc in
    ap (λ n. nat_le n at) same
pressing_at lay (one ∷ next ∷ more) d at e =
    let same : 0 ≡ d = cc in
    let now : true ≡ nat_le 0 at = grind (arith, nat_tests) in
    now ∙ ap (λ n. nat_le n at) same

pressing_never : (lay : Layout) (owed : List ℕ) (at : ℕ) → pressing_from lay.delay owed ≡ None → is_pressing lay owed at ≡ false
pressing_never lay [] at e = refl
pressing_never lay (one ∷ []) at e = cc
pressing_never lay (one ∷ next ∷ more) at e = cc

module _ (s : OpenSettings) (t : Trace Entry) (a : Agreement) (e : agreed s t ≡ Some a) (none : opening.IsNextDue s t None) where
  abbrev lay : Layout
  lay = layout_by s a

  abbrev may : Bool
  may = may_send (unsent t) (got s t).window (s.initial + 1 + sent t)

  open_due : (at : ℕ) → is_due s t at ≡ (may || is_pressing lay (tellings s t) (max (moment t) at))
  open_due at =
      let g = got s t in
      let owed = tellings s t in
      let number = s.initial + 1 + sent t in
      let m = max (moment t) at in
      let silent = or_false (is_some (opening_meant s t at)) _ (none at) in
      ap (λ o. is_some o || opening.closes s t m) (first_none (opening_meant s t at) (sent_by s (agreed s t) g owed number (unsent t) m) silent)
      ∙ ap (λ b. is_some (sent_by s (agreed s t) g owed number (unsent t) m) || b) (open_closes s t a m e)
      ∙ or_none (is_some (sent_by s (agreed s t) g owed number (unsent t) m))
      ∙ ap (λ o. is_some (sent_by s o g owed number (unsent t) m)) e
      ∙ some_mapped lay.spell (meant_by lay g owed number (unsent t) m)
      ∙ some_meant lay g owed number m may (unsent t) refl

  later : (at low : ℕ) → low ≤ at → max low at ≡ at
  later at low h = omega arith

  due_by : (b : Bool) (deadline : Option ℕ) → may ≡ b → pressing_from lay.delay (tellings s t) ≡ deadline → IsNextDue s t (due_from b (moment t) deadline)
  due_by true deadline is from =
      (omega arith, open_due (moment t) ∙ ap (λ b. b || is_pressing lay (tellings s t) (max (moment t) (moment t))) is, λ at low high. absurd (omega arith))
  due_by false None is from = λ at.
      open_due at ∙ ap (λ b. b || is_pressing lay (tellings s t) (max (moment t) at)) is ∙ pressing_never lay (tellings s t) (max (moment t) at) from
  due_by false (Some d) is from =
      let m = max d (moment t) in
      let due : (at : ℕ) → is_due s t at ≡ nat_le d (max (moment t) at) =
      λ at. open_due at ∙ ap (λ b. b || is_pressing lay (tellings s t) (max (moment t) at)) is ∙ pressing_at lay (tellings s t) d (max (moment t) at) from in
      let now : nat_le d (max (moment t) m) ≡ true = grind (arith, nat_tests) in (
        omega arith,
        due m ∙ now,
        λ at low high. (let no : nat_le d (max (moment t) at) ≡ false = grind (arith, nat_tests) in due at ∙ no),
      )

pub link_next : (l : Lossy) (t : Trace Entry) (a : Agreement) (delay : ℕ) (r : Option ℕ) → StandsThin l t → agreed (l.opening).settings t ≡ Some a
    → opening.IsNextDue (l.opening).settings t None → delay ≡ (layout_by (l.opening).settings a).delay
    → r ≡ due_from (may_send (l.link).parts ((l.link).arrivals).window (l.link).next) (l.link).moment (pressing_from delay (tellings (l.opening).settings t))
    → IsNextDue (l.opening).settings t r
link_next l t a delay r h e none same is =
    let s = (l.opening).settings in
    let old = h.holds in
    let at : r ≡ due_from (may_send (unsent t) (got s t).window (s.initial + 1 + sent t)) (moment t) (pressing_from (layout_by s a).delay (tellings s t)) =
    is
    ∙ ap (λ ps. due_from (may_send ps ((l.link).arrivals).window (l.link).next) (l.link).moment (pressing_from delay (tellings s t))) old.parts_are
    ∙ ap (λ w. due_from (may_send (unsent t) w (l.link).next) (l.link).moment (pressing_from delay (tellings s t))) (old.holds).window_is
    ∙ ap (λ n. due_from (may_send (unsent t) (got s t).window n) (l.link).moment (pressing_from delay (tellings s t))) old.next_is
    ∙ ap (λ m. due_from (may_send (unsent t) (got s t).window (s.initial + 1 + sent t)) m (pressing_from delay (tellings s t))) old.moment_is
    ∙ ap (λ d. due_from (may_send (unsent t) (got s t).window (s.initial + 1 + sent t)) (moment t) (pressing_from d (tellings s t))) same in
    subst (IsNextDue s t) (sym at) (due_by s t a e none _ _ refl refl)

pub none_is : (o : Option ℕ) → is_some o ≡ false → o ≡ None
none_is None h = refl
none_is (Some n) h = cc
