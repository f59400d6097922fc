-- The datagrams of both sides and kinds with one entry more, and the rule of tellings.
use Rattle.std.proofs.Common.{◌≡◌, ◌≢◌, ◌↔◌, ℕ, inl, inr, Bool, true, false, ◌&&◌, ◌||◌, List, [], ◌∷◌, ◌++◌, slice_get, Option, Some, None, is_some, IfSome, IsSomeAnd, Result, Ok, Err, OnOk, IsTrue, IsFalse, refl, sym, ap, subst, ◌∙◌}
use Rattle.std.proofs.lemmas.Bool.{eq-eqb}
use Rattle.ack_vector.specs.Elements.{flags_of}
use Rattle.mt_base.specs.declared.kinds.Role.{Role}
use Rattle.mt_base.specs.declared.kinds.Role.TheVariants.{Server, Client}
use Rattle.mt_base.specs.declared.kinds.Kind.{Kind}
use Rattle.mt_base.specs.declared.kinds.Kind.TheVariants.{Reliable, Lossy}
use Rattle.mt_base.specs.Ends.{other, same_kind, same_role}
use Rattle.udp1_packets.specs.declared.packet.Packet1.{Packet1}
use Rattle.udp1_packets.specs.declared.packet.Syn1.{Syn1}
use Rattle.udp1_packets.specs.Value.{Syn, Packet}
use Rattle.udp1_packets.specs.Views.{body_of, packet_of, syn_of}
use Rattle.udp1_packets.specs.Layout.{Spells}
use Rattle.capture_check.specs.declared.layout.Layout.{Layout}
use Rattle.capture_check.specs.declared.layout.Layout.TheVariants.{First}
use Rattle.capture_check.specs.declared.entry.Entry.{Entry}
use Rattle.capture_check.specs.declared.entry.Entry.TheVariants.{Issue, Open, Sent, Got, Main, Word, Out, In}
use Rattle.capture_check.specs.Numbers.{CountsUp}
use Rattle.capture_check.specs.Layouts.{IsOpening}
use Rattle.capture_check.specs.LayoutsSoFar.{AgreedOn}
use Rattle.capture_check.specs.Arrivals.{ArrivedView, ArrivalsView, has, no_arrivals, with_given, with_came, arrived_of, with_arrived}
use Rattle.capture_check.specs.Tellings.{start_in, elements_in, IsFlaggedUpTo, HasLayout, Shows, Tells, CameWith, TellsWhatCame}
use Rattle.capture_check.specs.TellingsSoFar.{HasJust, ShowsJust, ShowsJustAfter, MayTell, IsArrived, AreArrivals}
use Rattle.capture_check.proofs.Openings.{not_agreed, one_agreed}
use Rattle.capture_check.proofs.Arriving.{none_arrived, given_more, still, came_in}

-- ---- all sides and kinds

pub nothing_arrived : (side : Role) (kind : Kind) → IsArrived side kind [] (arrived_of no_arrivals side kind)
nothing_arrived Server Reliable = none_arrived Server Reliable
nothing_arrived Client Reliable = none_arrived Client Reliable
nothing_arrived Server Lossy = none_arrived Server Lossy
nothing_arrived Client Lossy = none_arrived Client Lossy

-- the pairs are not the same
abbrev pub Differ : Role → Role → Kind → Kind → Type 0
Differ s side k kind = (same_role s side && same_kind k kind) ≡ false

-- one side and kind anew, and the others as before
by_pair : (P : Role → Kind → ArrivedView → Type 0) (v : ArrivalsView) (side : Role) (kind : Kind) (new : ArrivedView) → P side kind new
    → ((s : Role) (k : Kind) → Differ s side k kind → P s k (arrived_of v s k)) → (s : Role) (k : Kind) → P s k (arrived_of (with_arrived v side kind new) s k)
by_pair P v Server Reliable new here others Server Reliable = here
by_pair P v Server Reliable new here others Client Reliable = others Client Reliable refl
by_pair P v Server Reliable new here others Server Lossy = others Server Lossy refl
by_pair P v Server Reliable new here others Client Lossy = others Client Lossy refl
by_pair P v Client Reliable new here others Server Reliable = others Server Reliable refl
by_pair P v Client Reliable new here others Client Reliable = here
by_pair P v Client Reliable new here others Server Lossy = others Server Lossy refl
by_pair P v Client Reliable new here others Client Lossy = others Client Lossy refl
by_pair P v Server Lossy new here others Server Reliable = others Server Reliable refl
by_pair P v Server Lossy new here others Client Reliable = others Client Reliable refl
by_pair P v Server Lossy new here others Server Lossy = here
by_pair P v Server Lossy new here others Client Lossy = others Client Lossy refl
by_pair P v Client Lossy new here others Server Reliable = others Server Reliable refl
by_pair P v Client Lossy new here others Client Reliable = others Client Reliable refl
by_pair P v Client Lossy new here others Server Lossy = others Server Lossy refl
by_pair P v Client Lossy new here others Client Lossy = here

same_pair : (side : Role) (kind : Kind) → (same_role side side && same_kind kind kind) ≡ true
same_pair Server Reliable = refl
same_pair Client Reliable = refl
same_pair Server Lossy = refl
same_pair Client Lossy = refl

no_in_of : (side s : Role) (kind k : Kind) (m n : ℕ) → Differ s side k kind → In side kind m ≢ In s k n
no_in_of side s kind k m n differ e =
    let sides : side ≡ s = cc in
    let kinds : kind ≡ k = cc in
    let yes : (same_role s side && same_kind k kind) ≡ true = subst (λ x. (same_role x side && same_kind k kind) ≡ true) sides (subst (λ x. (same_role side side && same_kind x kind) ≡ true) kinds (same_pair side kind)) in
    cc

no_in_for : (side s : Role) (kind k : Kind) (m n : ℕ) (d : List ℕ) → Out side kind m d ≢ In s k n
no_in_for side s kind k m n d e = cc

module _ (before : List Entry) (v : ArrivalsView) (are : AreArrivals before v) where
  pub gave : (side : Role) (kind : Kind) (number : ℕ) (datagram : List ℕ) (shown : Option ℕ) → CountsUp before (Out side kind number datagram) → ShowsJustAfter kind before datagram shown
      → AreArrivals (before ++ Out side kind number datagram ∷ []) (with_arrived v side kind (with_given shown (arrived_of v side kind)))
  gave side kind number datagram shown counts just =
      by_pair (λ s k a. IsArrived s k (before ++ Out side kind number datagram ∷ []) a) v side kind (with_given shown (arrived_of v side kind))
      (given_more side kind before (arrived_of v side kind) (are side kind) number datagram shown counts just)
      (λ s k differ. still s k before (arrived_of v s k) (are s k) (Out side kind number datagram) differ (λ n. no_in_for side s kind k number n datagram))

  pub arrived : (side : Role) (kind : Kind) (number : ℕ)
      → AreArrivals (before ++ In side kind number ∷ []) (with_arrived v side kind (with_came (slice_get (arrived_of v side kind).given number) (arrived_of v side kind)))
  arrived side kind number =
      by_pair (λ s k a. IsArrived s k (before ++ In side kind number ∷ []) a) v side kind (with_came (slice_get (arrived_of v side kind).given number) (arrived_of v side kind))
      (came_in side kind before (arrived_of v side kind) (are side kind) number)
      (λ s k differ. still s k before (arrived_of v s k) (are s k) (In side kind number) refl (λ n. no_in_of side s kind k number n differ))

  pub quiet : (entry : Entry) → ((side : Role) (kind : Kind) (number : ℕ) (datagram : List ℕ) → entry ≢ Out side kind number datagram)
      → ((side : Role) (kind : Kind) (number : ℕ) → entry ≢ In side kind number) → AreArrivals (before ++ entry ∷ []) v
  quiet (Issue id k cookie) no_out no_in s l = still s l before (arrived_of v s l) (are s l) (Issue id k cookie) refl (no_in s l)
  quiet (Open id name) no_out no_in s l = still s l before (arrived_of v s l) (are s l) (Open id name) refl (no_in s l)
  quiet (Sent side id message) no_out no_in s l = still s l before (arrived_of v s l) (are s l) (Sent side id message) refl (no_in s l)
  quiet (Got side id message) no_out no_in s l = still s l before (arrived_of v s l) (are s l) (Got side id message) refl (no_in s l)
  quiet (Main side bytes) no_out no_in s l = still s l before (arrived_of v s l) (are s l) (Main side bytes) refl (no_in s l)
  quiet (Word side k id) no_out no_in s l = still s l before (arrived_of v s l) (are s l) (Word side k id) refl (no_in s l)
  quiet (Out side k number datagram) no_out no_in s l = absurd (no_out side k number datagram refl)
  quiet (In side k number) no_out no_in s l = absurd (no_in side k number refl)

  -- ---- the rule

  none_came : (side : Role) (kind : Kind) (a : ArrivedView) → IsArrived side kind before a → a.came ≡ [] → (m : ℕ) → ¬ CameWith side kind before m
  none_came side kind a is empty m c = let yes = sym (ap (λ l. has l m) empty) ∙ (is.came m).1 c in cc

  nothing : (came : List ℕ) → ((m : ℕ) → has came m ≡ true → ⊥) → came ≡ []
  nothing [] none = refl
  nothing (x ∷ came) none = absurd (none x (ap (λ b. b || has came x) (eq-eqb x x refl)))

  pub rule_kept : (side : Role) (kind : Kind) (number : ℕ) (datagram : List ℕ)
      → ((layout : Layout) (n : ℕ) → HasLayout kind before datagram layout → Tells layout datagram n → MayTell (arrived_of v (other side) kind).came layout datagram n)
      → TellsWhatCame before (Out side kind number datagram)
  rule_kept side kind number datagram kept layout n agreed tells =
      let is = are (other side) kind in
      elim (kept layout n agreed tells) [
        | inl came ↦ inl ((is.came n).0 came)
        | inr zero ↦ inr (zero.0, none_came (other side) kind (arrived_of v (other side) kind) is zero.1)
      ]

  pub rule_broken : (side : Role) (kind : Kind) (number : ℕ) (datagram : List ℕ)
      → ((layout : Layout) × (n : ℕ) × HasLayout kind before datagram layout × Tells layout datagram n × ¬ MayTell (arrived_of v (other side) kind).came layout datagram n)
      → ¬ TellsWhatCame before (Out side kind number datagram)
  rule_broken side kind number datagram w asks =
      let is = are (other side) kind in
      elim (asks w.0 w.1 w.2 w.3) [
        | inl came ↦ w.4 (inl ((is.came w.1).1 came))
        | inr zero ↦ w.4 (inr (zero.0, nothing (arrived_of v (other side) kind).came (λ m h. zero.1 m ((is.came m).0 h))))
      ]

pub gave_entry : (before : List Entry) (v new : ArrivalsView) (entry : Entry) (side : Role) (kind : Kind) (number : ℕ) (datagram : List ℕ) (shown : Option ℕ) → AreArrivals before v → entry ≡ Out side kind number datagram
    → new ≡ with_arrived v side kind (with_given shown (arrived_of v side kind)) → CountsUp before entry → ShowsJustAfter kind before datagram shown → AreArrivals (before ++ entry ∷ []) new
gave_entry before v new entry side kind number datagram shown are is new_is counts just =
    subst (AreArrivals (before ++ entry ∷ [])) (sym new_is)
    (subst (λ e. AreArrivals (before ++ e ∷ []) (with_arrived v side kind (with_given shown (arrived_of v side kind)))) (sym is)
    (gave before v are side kind number datagram shown (subst (CountsUp before) is counts) just))

pub arrived_entry : (before : List Entry) (v new : ArrivalsView) (entry : Entry) (side : Role) (kind : Kind) (number : ℕ) → AreArrivals before v → entry ≡ In side kind number
    → new ≡ with_arrived v side kind (with_came (slice_get (arrived_of v side kind).given number) (arrived_of v side kind)) → AreArrivals (before ++ entry ∷ []) new
arrived_entry before v new entry side kind number are is new_is =
    subst (AreArrivals (before ++ entry ∷ [])) (sym new_is)
    (subst (λ e. AreArrivals (before ++ e ∷ []) (with_arrived v side kind (with_came (slice_get (arrived_of v side kind).given number) (arrived_of v side kind)))) (sym is)
    (arrived before v are side kind number))

-- an entry that is no datagram
pub no_telling : (before : List Entry) (entry : Entry) → ((side : Role) (kind : Kind) (number : ℕ) (datagram : List ℕ) → entry ≢ Out side kind number datagram) → TellsWhatCame before entry
no_telling before (Issue id k cookie) no_out = tt
no_telling before (Open id name) no_out = tt
no_telling before (Sent side id message) no_out = tt
no_telling before (Got side id message) no_out = tt
no_telling before (Main side bytes) no_out = tt
no_telling before (Word side k id) no_out = tt
no_telling before (Out side k number datagram) no_out = absurd (no_out side k number datagram refl)
no_telling before (In side k number) no_out = tt

-- ---- the layout of a link

opened : (datagram : List ℕ) (o : Option Syn1) → IfSome o (λ syn. IsOpening datagram (syn_of syn)) → is_some o ≡ true → ((syn : Syn) → ¬ IsOpening datagram syn) → ⊥
opened datagram (Some syn) found is_there none = none (syn_of syn) found
opened datagram None found is_there none = cc

unopened : (datagram : List ℕ) (o : Option Syn1) → ((syn : Syn) → IsOpening datagram syn → IsSomeAnd o (λ found. syn_of found ≡ syn)) → is_some o ≡ false → (syn : Syn) → ¬ IsOpening datagram syn
unopened datagram (Some found) only not_there syn opening = cc
unopened datagram None only not_there syn opening = only syn opening

pub layout_of_opening : (kind : Kind) (before : List Entry) (datagram : List ℕ) (o : Option Syn1) → IfSome o (λ syn. IsOpening datagram (syn_of syn)) → is_some o ≡ true → HasJust kind before datagram None
layout_of_opening kind before datagram o found is_there layout has_it = opened datagram o found is_there has_it.0

pub layout_of_other : (kind : Kind) (before : List Entry) (datagram : List ℕ) (o : Option Syn1) (named : Option Layout) → ((syn : Syn) → IsOpening datagram syn → IsSomeAnd o (λ found. syn_of found ≡ syn)) → is_some o ≡ false
    → AgreedOn kind before named → HasJust kind before datagram named
layout_of_other kind before datagram o None only not_there agreed = λ layout has_it. not_agreed kind before layout agreed has_it.1
layout_of_other kind before datagram o (Some layout) only not_there agreed = (unopened datagram o only not_there, agreed)

pub one_layout : (kind : Kind) (before : List Entry) (datagram : List ℕ) (l m : Layout) → HasLayout kind before datagram l → HasLayout kind before datagram m → l ≡ m
one_layout kind before datagram l m a b = one_agreed kind before l m a.1 b.1

pub shown_by_layout : (kind : Kind) (before : List Entry) (datagram : List ℕ) (layout : Layout) (shown : Option ℕ) → HasLayout kind before datagram layout → ShowsJust layout datagram shown → ShowsJustAfter kind before datagram shown
shown_by_layout kind before datagram layout shown here just n = (
  λ h. (layout, here, (just n).0 h),
  λ after. (just n).1 (subst (λ l. Shows l datagram n) (sym (one_layout kind before datagram layout after.0 here after.1)) after.2),
)

pub shown_by_none : (kind : Kind) (before : List Entry) (datagram : List ℕ) → HasJust kind before datagram None → ShowsJustAfter kind before datagram None
shown_by_none kind before datagram none n = (
  λ h. absurd (cc),
  λ after. absurd (none after.0 after.1),
)

pub told_by_layout : (kind : Kind) (before : List Entry) (datagram : List ℕ) (came : List ℕ) (layout : Layout) → HasLayout kind before datagram layout → ((n : ℕ) → Tells layout datagram n → MayTell came layout datagram n)
    → (l : Layout) (n : ℕ) → HasLayout kind before datagram l → Tells l datagram n → MayTell came l datagram n
told_by_layout kind before datagram came layout here kept l n there tells =
    let same = one_layout kind before datagram layout l here there in
    subst (λ m. MayTell came m datagram n) same (kept n (subst (λ m. Tells m datagram n) (sym same) tells))

-- ---- what a datagram of the first layout shows

pub first_just : (datagram : List ℕ) (p : Packet1) → Spells datagram (packet_of p) → ((q : Packet) → Spells datagram q → packet_of p ≡ q) → ShowsJust First datagram (start_in (body_of p.body))
first_just datagram p found only n = (
  λ h. (packet_of p, found, h),
  λ s. ap (λ q. start_in q.body) (only s.0 s.1) ∙ s.2,
)

-- ---- results

pub on_ok_one : {T E A B : Type 0} (r : Result T E) → (A → B) → OnOk r A → OnOk r B
on_ok_one (Ok x) f a = f a
on_ok_one (Err e) f a = tt

-- what a vector of the first layout tells came
pub first_told : (datagram came : List ℕ) (p : Packet1) (elements : List ℕ) → ((q : Packet) → Spells datagram q → packet_of p ≡ q) → Some elements ≡ elements_in (body_of p.body)
    → ((n : ℕ) → IsFlaggedUpTo p.ack (flags_of elements) n → has came n ≡ true) → (n : ℕ) → Tells First datagram n → MayTell came First datagram n
first_told datagram came p elements only is kept n t =
    let same = only t.0 t.2 in
    let joined : Some elements ≡ Some t.1 = is ∙ ap (λ q. elements_in q.body) same ∙ t.3 in
    let those : elements ≡ t.1 = cc in
    inl (kept n (subst (λ es. IsFlaggedUpTo p.ack (flags_of es) n) (sym those) (subst (λ a. IsFlaggedUpTo a (flags_of t.1) n) (sym (ap (λ q. q.ack) same)) t.4)))

pub first_silent : (datagram came : List ℕ) (p : Packet1) → ((q : Packet) → Spells datagram q → packet_of p ≡ q) → ◌≡◌ {A = Option (List ℕ)} None (elements_in (body_of p.body)) → (n : ℕ) → Tells First datagram n → MayTell came First datagram n
first_silent datagram came p only is n t = let joined = is ∙ ap (λ q. elements_in q.body) (only t.0 t.2) ∙ t.3 in absurd (cc)

-- ---- the rule decided

pub decided : {A : Type 0} (b : Bool) → (IsTrue b → A) → (IsFalse b → ¬ A) → IsTrue b ↔ A
decided true kept broken = (kept, λ a. refl)
decided false kept broken = (kept, λ a. absurd (broken refl a))

pub decided_rule : (before : List Entry) (v : ArrivalsView) (entry : Entry) (side other_side : Role) (kind : Kind) (number : ℕ) (datagram bytes came : List ℕ) (a : ArrivedView) (b : Bool)
    → AreArrivals before v → entry ≡ Out side kind number datagram → bytes ≡ datagram → other_side ≡ other side → a ≡ arrived_of v other_side kind → came ≡ a.came
    → (IsTrue b → (layout : Layout) (n : ℕ) → HasLayout kind before bytes layout → Tells layout bytes n → MayTell came layout bytes n)
    → (IsFalse b → (layout : Layout) × (n : ℕ) × HasLayout kind before bytes layout × Tells layout bytes n × ¬ MayTell came layout bytes n)
    → IsTrue b ↔ TellsWhatCame before entry
decided_rule before v entry side other_side kind number datagram bytes came a b are is bytes_are side_is a_is came_is kept broken =
    let all : came ≡ (arrived_of v (other side) kind).came = came_is ∙ ap (λ x. x.came) a_is ∙ ap (λ s. (arrived_of v s kind).came) side_is in
    subst (λ e. IsTrue b ↔ TellsWhatCame before e) (sym is)
    (decided b
    (λ held. rule_kept before v are side kind number datagram (subst (λ d. (layout : Layout) (n : ℕ) → HasLayout kind before d layout → Tells layout d n → MayTell (arrived_of v (other side) kind).came layout d n) bytes_are
    (subst (λ l. (layout : Layout) (n : ℕ) → HasLayout kind before bytes layout → Tells layout bytes n → MayTell l layout bytes n) all (kept held))))
    (λ fails. rule_broken before v are side kind number datagram (subst (λ d. (layout : Layout) × (n : ℕ) × HasLayout kind before d layout × Tells layout d n × ¬ MayTell (arrived_of v (other side) kind).came layout d n) bytes_are
    (subst (λ l. (layout : Layout) × (n : ℕ) × HasLayout kind before bytes layout × Tells layout bytes n × ¬ MayTell l layout bytes n) all (broken fails)))))
