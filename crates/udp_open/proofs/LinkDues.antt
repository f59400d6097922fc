-- When a poll of a link sends a datagram or closes the link.
use Rattle.std.proofs.Common.{◌≡◌, ℕ, ◌+◌, ◌≤◌, Bool, true, false, not, ◌&&◌, ◌||◌, cond, nat_lt, nat_le, max, List, [], ◌∷◌, if◌then◌else◌, Option, Some, None, is_some, unwrap_or, option_map, refl, sym, ap, ◌∙◌, subst, arith}
use Rattle.std.proofs.lemmas.Bool.Decides.{nat_tests}
use Rattle.std.specs.Option.{IsSome}
use Rattle.mt_base.specs.declared.kinds.Role.{Role}
use Rattle.mt_base.specs.declared.kinds.Role.TheVariants.{Server, Client}
use Rattle.mt_base.specs.Trace.{Trace, Start, ◌▷◌}
use Rattle.mt_windows.specs.Sending.{may_cut, passed_over, lowest_or_next}
use Rattle.carrier.specs.declared.state.Took.{Took}
use Rattle.carrier.specs.declared.state.Took.TheVariants.{Used, Ignored}
use Rattle.carrier.specs.Entries.{Entry, Gave, In, Polled, Pulled, Owed, Posted, Next, moment, given}
use Rattle.carrier.specs.Layout.{Layout}
use Rattle.carrier.specs.Receiving.{owed as owed_tellings, peer_window}
use Rattle.carrier.specs.Sending.{acts, timer, expiry, expires, is_over, is_waiting, is_closed}
use Rattle.carrier.specs.Due.{again, fresh, meant, telling_with, is_pressing, may_send, due, closes as machine_closes, is_due as machine_is_due, IsNextDue as MachineNextDue}
use Rattle.udp1_packets.specs.Layout.{spelled}
use Rattle.link_core.specs.CoreView.{Stands, condition_of, layout_of}
use Rattle.udp_open.specs.declared.settings.OpenSettings.{OpenSettings}
use Rattle.udp_open.specs.declared.agreement.Agreement.{Agreement}
use Rattle.udp_open.specs.Handshake.{agreed, owed, opening_due, opening_meant, closes, is_asking, is_due, is_time, timer as opening_timer, expiries, IsNextDue}
use Rattle.udp_open.specs.LinkTrace.{is_for_machine, machine_layout, begins_by, copies, tellings, tells, with_entries, machine, due_by}
use Rattle.udp_open.specs.LinkView.{Link, StandsLink, is_closed_state, closes_by, is_due_in, IsNextDueIn}
use Rattle.udp_open.proofs.LinkLemmas.{before}
use Rattle.udp_open.proofs.LinkSteps.{some_is, closed_same}

-- ---- what is due stays due, if no other call comes

abbrev due_at : {X : Type 0} → X → X → X → X → Bool → Bool → Bool → Bool → Bool → Bool → Bool → Bool
due_at one two three four closed expired last may over cut pressing =
    is_some (cond (closed || (expired && last)) None (cond (expired && may) (Some one) (cond over (Some two) (cond cut (Some three) (cond pressing (Some four) None))))) || (expired && last)

grows : {X : Type 0} (one two three four : X) (closed last may over cut e f p q : Bool) → (e ≡ true → f ≡ true) → (p ≡ true → q ≡ true)
    → due_at one two three four closed e last may over cut p ≡ true → due_at one two three four closed f last may over cut q ≡ true
grows one two three four closed last may over cut true false p q ef pq h = absurd (no (ef refl))
  where
    no : false ≡ true → ⊥
    no e = cc
grows one two three four true true may over cut e true p q ef pq h = refl
grows one two three four false true may over cut e true p q ef pq h = refl
grows one two three four true false may over cut true true p q ef pq h = cc
grows one two three four true false may over cut false true p q ef pq h = cc
grows one two three four false false true over cut e true p q ef pq h = refl
grows one two three four false false false true cut e true p q ef pq h = refl
grows one two three four false false false false true e true p q ef pq h = refl
grows one two three four false false false false false e true true true ef pq h = refl
grows one two three four false false false false false e true true false ef pq h = let more = pq refl in cc
grows one two three four false false false false false true true false q ef pq h = cc
grows one two three four false false false false false false true false q ef pq h = cc
grows one two three four true last may over cut false false p q ef pq h = cc
grows one two three four false last may true cut false false p q ef pq h = refl
grows one two three four false last may false true false false p q ef pq h = refl
grows one two three four false last may false false false false true true ef pq h = refl
grows one two three four false last may false false false false true false ef pq h = let more = pq refl in cc
grows one two three four false last may false false false false false q ef pq h = cc

comes : (k x y : ℕ) → x ≤ y → nat_le k x ≡ true → nat_le k y ≡ true
comes k x y le h = grind (arith, nat_tests)

expires_grow : (over waiting : Bool) (k x y : ℕ) → x ≤ y → (not over && (waiting && nat_le k x)) ≡ true → (not over && (waiting && nat_le k y)) ≡ true
expires_grow true waiting k x y le h = cc
expires_grow false false k x y le h = cc
expires_grow false true k x y le h = comes k x y le h

presses_grow : (l : Layout) (since : List ℕ) (x y : ℕ) → x ≤ y → is_pressing l since x ≡ true → is_pressing l since y ≡ true
presses_grow l [] x y le h = cc
presses_grow l (one ∷ []) x y le h = comes (one + l.delay) x y le h
presses_grow l (one ∷ next ∷ more) x y le h = refl

due_grows : (l : Layout) (t : Trace Entry) (x y : ℕ) → x ≤ y → machine_is_due l t x ≡ true → machine_is_due l t y ≡ true
due_grows l t x y le h =
    let w = l.bounds.windows in
    let a = acts l t in
    let tm = timer l t in
    let u = max (moment t) x in
    let v = max (moment t) y in
    let later : u ≤ v = omega (arith, le) in
    grows (again l t (lowest_or_next w a)) (again l t (unwrap_or (passed_over w a) 0)) (fresh l t) (telling_with l t None None true)
    (is_closed l t) (nat_le l.bounds.expiries tm.expiries) (may_send l a) (is_some (passed_over w a) && may_send l a) (may_cut w l.own a (peer_window l t))
    (expires l tm a u) (expires l tm a v) (is_pressing l (owed_tellings l t) u) (is_pressing l (owed_tellings l t) v)
    (expires_grow (is_over l tm) (is_waiting l a) (expiry l tm) u v later) (presses_grow l (owed_tellings l t) u v later) h

-- ---- the machine's moment is not after the link's

begins_moment : (s : OpenSettings) (o : Option Agreement) (early : List ℕ) (m : Trace Entry) → moment (with_entries m (begins_by s o early)) ≡ moment m
begins_moment s None early m = refl
begins_moment s (Some a) early m = by_role s.role
  where
    by_role : (role : Role) → moment (with_entries (m ▷ Gave early) (tellings role)) ≡ moment m
    by_role Server = refl
    by_role Client = refl

copies_moment : (role : Role) (took : Took) (m : Trace Entry) → moment (with_entries m (copies role took)) ≡ moment m
copies_moment Server Used m = refl
copies_moment Client Used m = refl
copies_moment role (Ignored why) m = refl

goes_on : (t : Trace Entry) (e : Entry) → moment t ≤ moment (t ▷ e)
goes_on t (Gave bytes) = omega arith
goes_on t (In now d took) = omega arith
goes_on t (Polled now out) = omega arith
goes_on t (Pulled room bytes) = omega arith
goes_on t (Owed count) = omega arith
goes_on t (Posted bytes) = omega arith
goes_on t (Next bytes) = omega arith

either_moment : (b : Bool) (m : Trace Entry) (es fs : List Entry) (k : ℕ) → moment (with_entries m es) ≤ k → moment (with_entries m fs) ≤ k
    → moment (with_entries m (if b then es else fs)) ≤ k
either_moment true m es fs k one two = one
either_moment false m es fs k one two = two

within : (s : OpenSettings) (t m : Trace Entry) (o : Option Agreement) (e : Entry) → moment m ≤ moment t
    → moment (with_entries m (tells s t o e)) ≤ moment (t ▷ e)
within s t m None e h = omega (arith, h, goes_on t e, begins_moment s (agreed s (t ▷ e)) (given t) m)
within s t m (Some a) (Gave bytes) h = h
within s t m (Some a) (In now d took) h =
    either_moment (is_for_machine s a d) m (In (max (moment t) now) d took ∷ []) (copies s.role took) (max (moment t) now)
    (omega (arith, h)) (omega (arith, h, copies_moment s.role took m))
within s t m (Some a) (Polled now out) h =
    either_moment (nat_lt 0 (owed s t)) m [] (Polled (max (moment t) now) out ∷ []) (max (moment t) now) (omega (arith, h)) (omega (arith, h))
within s t m (Some a) (Pulled room bytes) h = h
within s t m (Some a) (Owed count) h = h
within s t m (Some a) (Posted bytes) h = h
within s t m (Some a) (Next bytes) h = h

pub moment_within : (s : OpenSettings) (t : Trace Entry) → moment (machine s t) ≤ moment t
moment_within s Start = omega arith
moment_within s (t ▷ e) = within s t (machine s t) (agreed s t) e (moment_within s t)

-- ---- what is due of an open link

mapped : {A B : Type 0} (f : A → B) (o : Option A) → is_some (option_map f o) ≡ is_some o
mapped f None = refl
mapped f (Some a) = refl

or_false : (b c : Bool) → c ≡ false → (b || c) ≡ b
or_false true c h = refl
or_false false c h = h

not_asking : (role : Role) (a : Agreement) (b : Bool) → (is_asking role (Some a) && b) ≡ false
not_asking Server a b = refl
not_asking Client a b = refl

picks_opening : (c w k : Bool) (y z : Option (List ℕ)) → c ≡ false → w ≡ true → (is_some (if c then None else (if w then y else z)) || (not w && k)) ≡ is_some y
picks_opening true w k y z h g = cc
picks_opening false false k y z h g = cc
picks_opening false true k y z h g = or_false (is_some y) false refl

picks_machine : (c w k : Bool) (y z : Option (List ℕ)) → c ≡ false → w ≡ false → (is_some (if c then None else (if w then y else z)) || (not w && k)) ≡ (is_some z || k)
picks_machine true w k y z h g = cc
picks_machine false true k y z h g = cc
picks_machine false false k y z h g = refl

due_opening : (s : OpenSettings) (t : Trace Entry) (a : Agreement) (at : ℕ) → agreed s t ≡ Some a
    → is_closed (machine_layout s a) (machine s t) ≡ false → nat_lt 0 (owed s t) ≡ true → is_due_in s t at ≡ is_due s t at
due_opening s t a at is going owes =
    let k = max (moment t) at in
    ap (λ o. is_some (due_by s t o at) || closes_by s t o k) is
    ∙ picks_opening (is_closed (machine_layout s a) (machine s t)) (nat_lt 0 (owed s t)) (machine_closes (machine_layout s a) (machine s t) k) (opening_due s t at) (due (machine_layout s a) (machine s t) k) going owes
    ∙ mapped spelled (opening_meant s t at)
    ∙ sym (or_false (is_some (opening_meant s t at)) (closes s t k)
    (ap (λ o. is_asking s.role o && (is_time (opening_timer s t) k && nat_le 16 (expiries s t))) is ∙ not_asking s.role a (is_time (opening_timer s t) k && nat_le 16 (expiries s t))))

due_machine : (s : OpenSettings) (t : Trace Entry) (a : Agreement) (at : ℕ) → agreed s t ≡ Some a
    → is_closed (machine_layout s a) (machine s t) ≡ false → nat_lt 0 (owed s t) ≡ false
    → is_due_in s t at ≡ machine_is_due (machine_layout s a) (machine s t) (max (moment t) at)
due_machine s t a at is going none =
    let k = max (moment t) at in
    let l = machine_layout s a in
    let u = machine s t in
    let early = moment_within s t in
    let same : max (moment u) k ≡ k = omega (arith, early) in
    ap (λ o. is_some (due_by s t o at) || closes_by s t o k) is
    ∙ picks_machine (is_closed l u) (nat_lt 0 (owed s t)) (machine_closes l u k) (opening_due s t at) (due l u k) going none
    ∙ ap (λ b. b || machine_closes l u k) (mapped l.spell (meant l u k))
    ∙ ap (λ x. is_some (meant l u k) || machine_closes l u x) (sym same)

-- ---- the next moment

next_opening : (s : OpenSettings) (t : Trace Entry) (r : Option ℕ) → ((at : ℕ) → is_due_in s t at ≡ is_due s t at) → IsNextDue s t r → IsNextDueIn s t r
next_opening s t None same h = λ at. same at ∙ h at
next_opening s t (Some m) same h = (h.0, same m ∙ h.1, λ at above below. same at ∙ h.2 at above below)

-- what is due next where an answer to an opening is owed
pub next_owed : (l : Link) (t : Trace Entry) (r : Option ℕ) → IsSome (l.opening).agreement → nat_lt 0 (l.opening).owed ≡ true
    → is_closed_state (condition_of l.core) ≡ false → IsNextDue (l.opening).settings t r
    → StandsLink l t → IsNextDueIn (l.opening).settings t r
next_owed l t r met owes going is h =
    let s = (l.opening).settings in
    let some = some_is (l.opening).agreement met in
    let a = some.0 in
    let b = before l t a some.1 h in
    let closed = sym (closed_same l.core (machine s t) (machine_layout s a) b.law b.stands) ∙ going in
    next_opening s t r (λ at. due_opening s t a at b.agreed_is closed (ap (nat_lt 0) (sym (h.follows).owed_is) ∙ owes)) is

-- what is due next where none is owed: by the machine
record Machines (l : Link) (t : Trace Entry) : Type 0 where
  layout : Layout
  trace : Trace Entry
  within : moment trace ≤ moment t
  same : (at : ℕ) → is_due_in (l.opening).settings t at ≡ machine_is_due layout trace (max (moment t) at)
  next : (r : Option ℕ) → ((u : Trace Entry) → Stands l.core u → MachineNextDue (layout_of l.core) u r) → MachineNextDue layout trace r

machines : (l : Link) (t : Trace Entry) → IsSome (l.opening).agreement → nat_lt 0 (l.opening).owed ≡ false
    → is_closed_state (condition_of l.core) ≡ false → StandsLink l t → Machines l t
machines l t met none going h =
    let s = (l.opening).settings in
    let some = some_is (l.opening).agreement met in
    let a = some.0 in
    let b = before l t a some.1 h in
    let closed = sym (closed_same l.core (machine s t) (machine_layout s a) b.law b.stands) ∙ going in
    record {
      layout = machine_layout s a;
      trace = machine s t;
      within = moment_within s t;
      same = λ at. due_machine s t a at b.agreed_is closed (ap (nat_lt 0) (sym (h.follows).owed_is) ∙ none);
      next = λ r is. subst (λ x. MachineNextDue x (machine s t) r) b.law (is (machine s t) b.stands);
    }

pub next_never : (l : Link) (t : Trace Entry) → IsSome (l.opening).agreement → nat_lt 0 (l.opening).owed ≡ false
    → is_closed_state (condition_of l.core) ≡ false
    → ((u : Trace Entry) → Stands l.core u → MachineNextDue (layout_of l.core) u None)
    → StandsLink l t → IsNextDueIn (l.opening).settings t None
next_never l t met none going is h =
    let m = machines l t met none going h in
    λ at. m.same at ∙ m.next None is (max (moment t) at)

-- a moment that the link has passed is the link's own
pub next_later : (l : Link) (t : Trace Entry) (d : ℕ) → IsSome (l.opening).agreement → nat_lt 0 (l.opening).owed ≡ false
    → is_closed_state (condition_of l.core) ≡ false
    → ((u : Trace Entry) → Stands l.core u → MachineNextDue (layout_of l.core) u (Some d))
    → StandsLink l t → IsNextDueIn (l.opening).settings t (Some (max d (l.opening).moment))
next_later l t d met none going is h =
    let m = machines l t met none going h in
    let next = m.next (Some d) is in
    let k = moment t in
    let early = m.within in
    subst (λ x. IsNextDueIn (l.opening).settings t (Some (max d x))) (sym (h.follows).moment_is) (
      omega arith,
      m.same (max d k) ∙ due_grows m.layout m.trace d (max k (max d k)) (omega arith) next.1,
      λ at above below. m.same at ∙ next.2 (max k at) (omega (arith, above, early)) (omega (arith, above, below)),
    )

-- a closed link sends nothing any more
closed_silent : (over owes may last : Bool) (x y : Option (List ℕ)) → over ≡ true
    → (is_some (if over then None else (if owes then x else y)) || (not owes && ((not over && may) && last))) ≡ false
closed_silent true true may last x y h = refl
closed_silent true false may last x y h = refl
closed_silent false owes may last x y h = cc

pub next_closed : (l : Link) (t : Trace Entry) → IsSome (l.opening).agreement → is_closed_state (condition_of l.core) ≡ true
    → StandsLink l t → IsNextDueIn (l.opening).settings t None
next_closed l t met closed h =
    let s = (l.opening).settings in
    let some = some_is (l.opening).agreement met in
    let a = some.0 in
    let b = before l t a some.1 h in
    let layout = machine_layout s a in
    let m = machine s t in
    let over : is_closed layout m ≡ true = sym (closed_same l.core m layout b.law b.stands) ∙ closed in
    λ at. (
    let k = max (moment t) at in
    ap (λ o. is_some (due_by s t o at) || closes_by s t o k) b.agreed_is
    ∙ closed_silent (is_closed layout m) (nat_lt 0 (owed s t)) (is_waiting layout (acts layout m) && nat_le (expiry layout (timer layout m)) k)
    (nat_le layout.bounds.expiries (timer layout m).expiries) (opening_due s t at) (due layout m k) over)
