-- What each call does to the relation between a link and its trace.
use Rattle.std.proofs.Common.{◌≡◌, ℕ, ◌-◌, ◌<◌, ◌≤◌, Bool, true, false, not, ◌&&◌, ◌||◌, nat_lt, max, List, [], ◌∷◌, length, if◌then◌else◌, Option, Some, None, option_map, refl, sym, ap, ◌∙◌, subst, arith}
use Rattle.std.specs.Option.{IsSome}
use Rattle.std.proofs.lemmas.Bool.{ltb-false}
use Rattle.std.proofs.lemmas.List.Elements.{All-append}
use Rattle.mt_base.specs.Trace.{Trace, Start, ◌▷◌}
use Rattle.carrier.specs.declared.state.Reason.TheVariants as reason
use Rattle.carrier.specs.declared.state.Took.{Took}
use Rattle.carrier.specs.declared.state.Took.TheVariants.{Used, Ignored}
use Rattle.carrier.specs.declared.state.LinkState.TheVariants.{Open, Closed}
use Rattle.carrier.specs.Due.{due}
use Rattle.carrier.specs.Entries.{Entry, Gave, In, Polled, Pulled, moment, given, pulled}
use Rattle.carrier.specs.Layout.{Layout, Datagram}
use Rattle.carrier.specs.Law.{IsBytes, answer_reading, Faithful}
use Rattle.carrier.specs.Receiving.{reading, received}
use Rattle.carrier.specs.Sending.{is_closed, timer}
use Rattle.link_machine.specs.MachineView.{Machine}
use Rattle.link_core.specs.declared.layout.LinkLayout.{LinkLayout}
use Rattle.link_core.specs.declared.layout.LinkLayout.TheVariants.{First, Second}
use Rattle.link_core.specs.CoreView.{layout_by as core_layout, Core, Stands, condition_of, is_second, layout_of, link_layout}
use Rattle.udp1_core.specs.MachineView.{link_layout as first_link_layout}
use Rattle.udp2_core.specs.SecondLayout.{second_layout}
use Rattle.udp_open.specs.declared.settings.OpenSettings.{OpenSettings}
use Rattle.udp_open.specs.declared.agreement.Agreement.{Agreement}
use Rattle.udp_open.specs.declared.opening.OpenEnd.TheVariants.{Waiting, Agreed}
use Rattle.udp_open.specs.Handshake.{agreed, opening_answered, opening_due, owed}
use Rattle.udp_open.specs.LinkTrace.{is_for_machine, is_low, is_no_packet, is_of_opening, machine_layout, begins, copies, with_entries, machine, answered_by, due_by}
use Rattle.udp_open.specs.LinkView.{Link, StandsBy, StandsLink, gives, is_closed_state}
use Rattle.udp_open.specs.OpeningView.{Handshake, Follows, AnswersFirst, SendsFirst, end_of}
use Rattle.udp_open.proofs.Early.{within}
use Rattle.udp_open.proofs.Second.{low_refused, no_packet}
use Rattle.udp_open.proofs.LinkLemmas.{machine_begins, machine_open, keeps_early, passes_open, ignores_in, passes_poll, opened, before, waits}

-- ---- what a link follows of its opening

pub answers_same : (r : Took) → AnswersFirst r r
answers_same Used = refl
answers_same (Ignored reason.LinkClosed) = refl
answers_same (Ignored reason.TooLong) = tt
answers_same (Ignored (reason.First r)) = tt
answers_same (Ignored (reason.Second r)) = tt
answers_same (Ignored reason.NotOpen) = tt
answers_same (Ignored reason.NotOurs) = tt
answers_same (Ignored reason.WrongKind) = tt
answers_same (Ignored reason.BadAnswer) = tt
answers_same (Ignored reason.UnknownCookie) = tt
answers_same (Ignored (reason.Beyond limit)) = tt
answers_same (Ignored reason.Unnumbered) = tt
answers_same (Ignored reason.Old) = tt
answers_same (Ignored reason.FecDropped) = tt

pub sends_same : (out : Option (List ℕ)) → SendsFirst out out
sends_same None = tt
sends_same (Some bytes) = refl

pub some_is : (o : Option Agreement) → IsSome o → (a : Agreement) × (o ≡ Some a)
some_is None h = cc
some_is (Some a) h = (a, refl)

pub none_at : (o : Option Agreement) → end_of o ≡ Waiting → o ≡ None
none_at None h = refl
none_at (Some a) h = cc

-- ---- while a link opens

-- bytes that are given wait
pub keeps : (l : Link) (m : Core) (t : Trace Entry) (bytes : List ℕ) → (l.opening).agreement ≡ None
    → ((u : Trace Entry) → Stands l.core u → Stands m (u ▷ Gave bytes))
    → IsBytes bytes → StandsLink l t → StandsLink (record l { core = m }) (t ▷ Gave bytes)
keeps l m t bytes none step good h =
    let f = h.follows in
    let at : agreed (l.opening).settings t ≡ None = sym f.agreement_is ∙ none in
    let was : Stands l.core (gives t) = subst (λ o. StandsBy l t o) at h.machine_is in
    let is : Stands m (gives (t ▷ Gave bytes)) = step (gives t) was in
    waits (record l { core = m }) (l.opening).settings t (Gave bytes) refl
    (record { moment_is = f.moment_is; agreement_is = f.agreement_is; owed_is = f.owed_is; timer_is = f.timer_is })
    at tt h.faithful is (within m (t ▷ Gave bytes) is)
    (All-append (λ b. b < 256) (given t) bytes (keeps_early (l.opening).settings t at h.faithful).1 good)

-- nothing is pulled
pub pulls_none : (l : Link) (t : Trace Entry) (room : ℕ) → (l.opening).agreement ≡ None → StandsLink l t
    → StandsLink l (t ▷ Pulled room [])
pulls_none l t room none h =
    let f = h.follows in
    let at : agreed (l.opening).settings t ≡ None = sym f.agreement_is ∙ none in
    let early = keeps_early (l.opening).settings t at h.faithful in
    waits l (l.opening).settings t (Pulled room []) refl
    (record { moment_is = f.moment_is; agreement_is = f.agreement_is; owed_is = f.owed_is; timer_is = f.timer_is })
    at (rw at refl) h.faithful (subst (λ o. StandsBy l t o) at h.machine_is) early.0 early.1

-- its opening sends
pub polls_waiting : (l : Link) (o : Handshake) (t : Trace Entry) (now : ℕ) (out : Option (List ℕ)) → (l.opening).agreement ≡ None
    → o.settings ≡ (l.opening).settings → o.agreement ≡ (l.opening).agreement
    → Follows o (t ▷ Polled now out) → out ≡ opening_due (l.opening).settings t now
    → StandsLink l t → StandsLink (record l { opening = o }) (t ▷ Polled now out)
polls_waiting l o t now out none same stays follows is h =
    let s = (l.opening).settings in
    let at : agreed s t ≡ None = sym (h.follows).agreement_is ∙ none in
    let early = keeps_early s t at h.faithful in
    waits (record l { opening = o }) s t (Polled now out) same follows at
    (subst (λ x. out ≡ due_by s t x now) (sym at) is) h.faithful (subst (λ o. StandsBy l t o) at h.machine_is) early.0 early.1

-- it takes nothing by which the ends agree
pub hears_waiting : (l : Link) (o : Handshake) (t : Trace Entry) (now : ℕ) (d : List ℕ) (took : Took) → (l.opening).agreement ≡ None
    → o.settings ≡ (l.opening).settings → end_of o.agreement ≡ Waiting
    → Follows o (t ▷ In now d took) → took ≡ opening_answered (l.opening).settings t d
    → StandsLink l t → StandsLink (record l { opening = o }) (t ▷ In now d took)
hears_waiting l o t now d took none same ends follows is h =
    let s = (l.opening).settings in
    let at : agreed s t ≡ None = sym (h.follows).agreement_is ∙ none in
    let still : o.agreement ≡ None = none_at o.agreement ends in
    let early = keeps_early s t at h.faithful in
    waits (record l { opening = o }) s t (In now d took) same follows
    (ap (λ x. agreed x (t ▷ In now d took)) (sym same) ∙ sym follows.agreement_is ∙ still)
    (subst (λ x. took ≡ answered_by s t x d) (sym at) is) h.faithful (subst (λ o. StandsBy l t o) at h.machine_is) early.0 early.1

-- it takes that by which they agree, and its machine begins
pub hears_agreeing : (l n : Link) (t : Trace Entry) (now : ℕ) (d : List ℕ) (took : Took) (version peer : ℕ) → (l.opening).agreement ≡ None
    → (n.opening).settings ≡ (l.opening).settings → end_of (n.opening).agreement ≡ Agreed version peer
    → Follows n.opening (t ▷ In now d took) → took ≡ opening_answered (l.opening).settings t d
    → (Stands l.core (gives t) → IsBytes (given t) → Stands n.core (with_entries Start (begins (l.opening).settings.role (given t))))
    → layout_of n.core ≡ link_layout (l.opening).settings.initial peer version
    → StandsLink l t → StandsLink n (t ▷ In now d took)
hears_agreeing l n t now d took version peer none same ends follows is stands layout h = by_agreement (n.opening).agreement refl ends
  where
    s : OpenSettings
    s = (l.opening).settings

    at : agreed s t ≡ None
    at = sym (h.follows).agreement_is ∙ none

    e : Entry
    e = In now d took

    by_agreement : (o : Option Agreement) → (n.opening).agreement ≡ o → end_of o ≡ Agreed version peer → StandsLink n (t ▷ e)
    by_agreement None some ends = cc
    by_agreement (Some a) some ends =
        let after : agreed s (t ▷ e) ≡ Some a = ap (λ x. agreed x (t ▷ e)) (sym same) ∙ sym follows.agreement_is ∙ some in
        let trace : with_entries Start (begins s.role (given t)) ≡ machine s (t ▷ e) = sym (machine_begins s t e a at after) in
        let begun = stands (subst (λ o. StandsBy l t o) at h.machine_is) (keeps_early s t at h.faithful).1 in
        let version_is : version ≡ a.version = cc in
        let peer_is : peer ≡ a.peer_initial = cc in
        opened n s t e a same follows after
        (subst (λ x. took ≡ answered_by s t x d) (sym at) is) h.faithful
        (subst (λ x. Stands n.core x) trace begun)
        (layout ∙ ap (λ x. link_layout s.initial x version) peer_is ∙ ap (λ x. link_layout s.initial a.peer_initial x) version_is)

-- ---- the machine of an open link

closed_state : (m : Core) → is_closed_state (condition_of m) ≡ nat_lt 16 ((m.machine.sender).timer).expiries
closed_state m = by_test (nat_lt 16 ((m.machine.sender).timer).expiries) ((m.machine.sender).timer).expiries
  where
    by_test : (b : Bool) (e : ℕ) → is_closed_state (if b then Closed e else Open) ≡ b
    by_test true e = refl
    by_test false e = refl

-- in each version it survives so many expiries
survives : (kind : LinkLayout) (m : Machine) → (core_layout kind m).bounds.expiries ≡ 16
survives First m = refl
survives Second m = refl

-- whether it is closed
pub closed_same : (m : Core) (t : Trace Entry) (layout : Layout) → layout_of m ≡ layout → Stands m t
    → is_closed_state (condition_of m) ≡ is_closed layout t
closed_same m t layout same h =
    closed_state m
    ∙ ap (λ x. nat_lt 16 x.expiries) (h.sends).timer_is
    ∙ ap (λ n. nat_lt n (timer (layout_of m) t).expiries) (sym (survives m.kind m.machine))
    ∙ ap (λ x. is_closed x t) same

twice : {A : Type 0} (b c : Bool) (x y z : A) → c ≡ false → (if b then x else (if c then y else (if b then x else z))) ≡ (if b then x else z)
twice true c x y z h = refl
twice false true x y z h = cc
twice false false x y z h = refl

third : {A : Type 0} (b c : Bool) (x y z : A) → b ≡ false → c ≡ true → (if b then x else (if c then y else z)) ≡ y
third true c x y z h g = cc
third false true x y z h g = refl
third false false x y z h g = cc

fourth : {A : Type 0} (b c : Bool) (x y z : A) → b ≡ false → c ≡ false → (if b then x else (if c then y else (if b then x else z))) ≡ z
fourth true c x y z h g = cc
fourth false true x y z h g = cc
fourth false false x y z h g = refl

first : {A : Type 0} (b : Bool) (x y : A) → b ≡ true → (if b then x else y) ≡ x
first true x y h = refl
first false x y h = cc

-- what a machine takes is none of the opening, and neither is what is no packet
for_machine : (x y : Bool) → not (x || y) ≡ true → x ≡ false
for_machine true y h = cc
for_machine false y h = refl

not_for_machine : (x y : Bool) → x ≡ true → not (x || y) ≡ false
not_for_machine true y h = refl
not_for_machine false y h = cc

-- what it doesn't take, and is none of the opening, is no packet
outside : (x y z : Bool) → x ≡ false → not (x || (y && z)) ≡ false → (y ≡ true) × (z ≡ true)
outside true y z h g = cc
outside false true true h g = (refl, refl)
outside false true false h g = cc
outside false false z h g = cc

-- a datagram that its machine takes
pub takes_in : (l : Link) (m : Core) (t : Trace Entry) (now : ℕ) (d : List ℕ) (took : Took) → IsSome (l.opening).agreement
    → IsBytes d → ((a : Agreement) → (l.opening).agreement ≡ Some a → is_for_machine (l.opening).settings a d ≡ true)
    → ((u : Trace Entry) → Stands l.core u → Stands m (u ▷ In (max (l.opening).moment now) d took)) → layout_of m ≡ layout_of l.core
    → StandsLink l t
    → StandsLink (record l { opening = record l.opening { moment = max (l.opening).moment now }; core = m }) (t ▷ In now d took)
takes_in l m t now d took met good mine step same h =
    let o = l.opening in
    let s = o.settings in
    let some = some_is o.agreement met in
    let a = some.0 in
    let b = before l t a some.1 h in
    let plain = for_machine (is_of_opening s a d) (is_no_packet a d) (mine a some.1) in
    let follows = passes_open o t now d took a good some.1 plain h.follows in
    let at = subst (λ k. Stands m (machine s t ▷ In (max k now) d took)) (h.follows).moment_is (step (machine s t) b.stands) in
    let law = same ∙ b.law in
    let trace : machine s (t ▷ In now d took) ≡ machine s t ▷ In (max (moment t) now) d took =
    machine_open s t (In now d took) a b.agreed_is
    ∙ ap (λ x. with_entries (machine s t) (if x then In (max (moment t) now) d took ∷ [] else copies s.role took)) (mine a some.1) in
    let faithful : Faithful (machine_layout s a) (machine s t ▷ In (max (moment t) now) d took) = subst (λ x. Faithful x (machine s t ▷ In (max (moment t) now) d took)) law at.faithful in
    let answer : took ≡ answered_by s t (Some a) d = faithful.0 ∙ sym (twice (is_closed (machine_layout s a) (machine s t)) (is_of_opening s a d) (Ignored reason.LinkClosed) (opening_answered s t d) _ plain) in
    opened (record l { opening = record o { moment = max o.moment now }; core = m }) s t (In now d took) a refl follows (sym follows.agreement_is ∙ some.1)
    (subst (λ x. took ≡ answered_by s t x d) (sym b.agreed_is) answer) h.faithful
    (subst (λ x. Stands m x) (sym trace) at) law

-- one that it doesn't take, and that comes where it is closed
pub ignores : (l : Link) (t : Trace Entry) (now : ℕ) (d : List ℕ) → IsSome (l.opening).agreement
    → ((a : Agreement) → (l.opening).agreement ≡ Some a → is_for_machine (l.opening).settings a d ≡ false)
    → is_closed_state (condition_of l.core) ≡ true
    → StandsLink l t
    → StandsLink (record l { opening = record l.opening { moment = max (l.opening).moment now } }) (t ▷ In now d (Ignored reason.LinkClosed))
ignores l t now d met set closed h =
    let o = l.opening in
    let s = o.settings in
    let e = In now d (Ignored reason.LinkClosed) in
    let some = some_is o.agreement met in
    let a = some.0 in
    let b = before l t a some.1 h in
    let follows = ignores_in o t now d h.follows in
    let trace : machine s (t ▷ e) ≡ machine s t =
    machine_open s t e a b.agreed_is
    ∙ ap (λ x. with_entries (machine s t) (if x then In (max (moment t) now) d (Ignored reason.LinkClosed) ∷ [] else copies s.role (Ignored reason.LinkClosed))) (set a some.1) in
    let answer : Ignored reason.LinkClosed ≡ answered_by s t (Some a) d =
    sym (first (is_closed (machine_layout s a) (machine s t)) (Ignored reason.LinkClosed) _ (sym (closed_same l.core (machine s t) (machine_layout s a) b.law b.stands) ∙ closed)) in
    opened (record l { opening = record o { moment = max o.moment now } }) s t e a refl follows (sym follows.agreement_is ∙ some.1)
    (subst (λ x. Ignored reason.LinkClosed ≡ answered_by s t x d) (sym b.agreed_is) answer) h.faithful
    (subst (λ x. Stands l.core x) (sym trace) b.stands) b.law

-- what is no packet that it reads, where it is open
pub refuses : (l : Link) (t : Trace Entry) (now : ℕ) (d : List ℕ) → IsSome (l.opening).agreement → IsBytes d
    → ((a : Agreement) → (l.opening).agreement ≡ Some a → is_for_machine (l.opening).settings a d ≡ false)
    → ((a : Agreement) → (l.opening).agreement ≡ Some a → is_of_opening (l.opening).settings a d ≡ false)
    → is_closed_state (condition_of l.core) ≡ false
    → StandsLink l t
    → StandsLink (record l { opening = record l.opening { moment = max (l.opening).moment now } }) (t ▷ In now d no_packet)
refuses l t now d met good left plain closed h =
    let o = l.opening in
    let s = o.settings in
    let e = In now d no_packet in
    let some = some_is o.agreement met in
    let a = some.0 in
    let b = before l t a some.1 h in
    let none = outside (is_of_opening s a d) (is_second a.version) (is_low d) (plain a some.1) (left a some.1) in
    let follows = passes_open o t now d no_packet a good some.1 (plain a some.1) h.follows in
    let trace : machine s (t ▷ e) ≡ machine s t =
    machine_open s t e a b.agreed_is
    ∙ ap (λ x. with_entries (machine s t) (if x then In (max (moment t) now) d no_packet ∷ [] else copies s.role no_packet)) (left a some.1) in
    let going : is_closed (machine_layout s a) (machine s t) ≡ false = sym (closed_same l.core (machine s t) (machine_layout s a) b.law b.stands) ∙ closed in
    let second : machine_layout s a ≡ second_layout = ap (λ x. if x then second_layout else first_link_layout s.initial a.peer_initial a.version) none.0 in
    let answer : no_packet ≡ answered_by s t (Some a) d =
    sym (fourth (is_closed (machine_layout s a) (machine s t)) (is_of_opening s a d) (Ignored reason.LinkClosed) (opening_answered s t d) _ going (plain a some.1)
    ∙ subst (λ layout. answer_reading layout (received layout (machine s t)) (length (pulled (machine s t))) (reading layout d) ≡ no_packet) (sym second)
    (ap (answer_reading second_layout (received second_layout (machine s t)) (length (pulled (machine s t)))) (low_refused d none.1))) in
    opened (record l { opening = record o { moment = max o.moment now } }) s t e a refl follows (sym follows.agreement_is ∙ some.1)
    (subst (λ x. no_packet ≡ answered_by s t x d) (sym b.agreed_is) answer) h.faithful
    (subst (λ x. Stands l.core x) (sym trace) b.stands) b.law

-- an opening that comes where it is open, and what its machine makes of that
pub hears_open : (l n : Link) (t : Trace Entry) (now : ℕ) (d : List ℕ) (took : Took) → IsSome (l.opening).agreement
    → ((a : Agreement) → (l.opening).agreement ≡ Some a → is_of_opening (l.opening).settings a d ≡ true)
    → is_closed_state (condition_of l.core) ≡ false
    → (n.opening).settings ≡ (l.opening).settings → ((a : Agreement) → (l.opening).agreement ≡ Some a → (n.opening).agreement ≡ Some a)
    → Follows n.opening (t ▷ In now d took) → took ≡ opening_answered (l.opening).settings t d
    → ((u : Trace Entry) → Stands l.core u → Stands n.core (with_entries u (copies (l.opening).settings.role took))) → layout_of n.core ≡ layout_of l.core
    → StandsLink l t → StandsLink n (t ▷ In now d took)
hears_open l n t now d took met set closed settings stays follows is step same h =
    let s = (l.opening).settings in
    let e = In now d took in
    let some = some_is (l.opening).agreement met in
    let a = some.0 in
    let b = before l t a some.1 h in
    let trace : machine s (t ▷ e) ≡ with_entries (machine s t) (copies s.role took) =
    machine_open s t e a b.agreed_is
    ∙ ap (λ x. with_entries (machine s t) (if x then In (max (moment t) now) d took ∷ [] else copies s.role took)) (not_for_machine (is_of_opening s a d) (is_no_packet a d) (set a some.1)) in
    let answer : took ≡ answered_by s t (Some a) d =
    is ∙ sym (third (is_closed (machine_layout s a) (machine s t)) (is_of_opening s a d) (Ignored reason.LinkClosed) (opening_answered s t d) _
    (sym (closed_same l.core (machine s t) (machine_layout s a) b.law b.stands) ∙ closed) (set a some.1)) in
    opened n s t e a settings follows (ap (λ x. agreed x (t ▷ e)) (sym settings) ∙ sym follows.agreement_is ∙ stays a some.1)
    (subst (λ x. took ≡ answered_by s t x d) (sym b.agreed_is) answer) h.faithful
    (subst (λ x. Stands n.core x) (sym trace) (step (machine s t) b.stands)) (same ∙ b.law)

-- ---- polls of an open link

none_due : (f : Datagram → List ℕ) (b c : Bool) (x : Option Datagram) → b ≡ true → option_map f (if b || c then None else x) ≡ None
none_due f true c x h = refl
none_due f false c x h = cc

closed_due : (layout : Layout) (t : Trace Entry) (at : ℕ) → is_closed layout t ≡ true → due layout t at ≡ None
closed_due layout t at h = none_due layout.spell (is_closed layout t) _ _ h

none_or : {A : Type 0} (b c : Bool) (y z : Option A) → (b ≡ true → z ≡ None) → c ≡ false → (if b then None else (if c then y else z)) ≡ z
none_or true c y z f h = sym (f refl)
none_or false true y z f h = cc
none_or false false y z f h = refl

owed_none : (n : ℕ) → nat_lt 0 n ≡ false → n - 1 ≡ n
owed_none n h = let none : n ≤ 0 = ltb-false 0 n h in omega (arith, none)

still_owed : (s : OpenSettings) (t : Trace Entry) (now : ℕ) (out : Option (List ℕ)) → nat_lt 0 (owed s t) ≡ false
    → owed s (t ▷ Polled now out) ≡ owed s t
still_owed s t now None h = refl
still_owed s t now (Some out) h = owed_none (owed s t) h

-- the machine sends where no answer to an opening is owed
pub polls_machine : (l : Link) (m : Core) (t : Trace Entry) (now : ℕ) (out : Option (List ℕ)) → IsSome (l.opening).agreement
    → nat_lt 0 (l.opening).owed ≡ false
    → ((u : Trace Entry) → Stands l.core u → Stands m (u ▷ Polled (max (l.opening).moment now) out)) → layout_of m ≡ layout_of l.core
    → StandsLink l t
    → StandsLink (record l { opening = record l.opening { moment = max (l.opening).moment now }; core = m }) (t ▷ Polled now out)
polls_machine l m t now out met none step same h =
    let o = l.opening in
    let s = o.settings in
    let e = Polled now out in
    let some = some_is o.agreement met in
    let a = some.0 in
    let b = before l t a some.1 h in
    let idle : nat_lt 0 (owed s t) ≡ false = ap (nat_lt 0) (sym (h.follows).owed_is) ∙ none in
    let follows = passes_poll o t now out a some.1 (still_owed s t now out idle) h.follows in
    let at = subst (λ k. Stands m (machine s t ▷ Polled (max k now) out)) (h.follows).moment_is (step (machine s t) b.stands) in
    let law = same ∙ b.law in
    let trace : machine s (t ▷ e) ≡ machine s t ▷ Polled (max (moment t) now) out =
    machine_open s t e a b.agreed_is
    ∙ ap (λ x. with_entries (machine s t) (if x then [] else Polled (max (moment t) now) out ∷ [])) idle in
    let faithful : Faithful (machine_layout s a) (machine s t ▷ Polled (max (moment t) now) out) = subst (λ x. Faithful x (machine s t ▷ Polled (max (moment t) now) out)) law at.faithful in
    let answer : out ≡ due_by s t (Some a) now =
    faithful.0 ∙ sym (none_or (is_closed (machine_layout s a) (machine s t)) (nat_lt 0 (owed s t)) (opening_due s t now) _
    (closed_due (machine_layout s a) (machine s t) (max (moment t) now)) idle) in
    opened (record l { opening = record o { moment = max o.moment now }; core = m }) s t e a refl follows (sym follows.agreement_is ∙ some.1)
    (subst (λ x. out ≡ due_by s t x now) (sym b.agreed_is) answer) h.faithful
    (subst (λ x. Stands m x) (sym trace) at) law

-- a closed link sends nothing
pub polls_closed : (l : Link) (t : Trace Entry) (now : ℕ) → IsSome (l.opening).agreement
    → nat_lt 0 (l.opening).owed ≡ true → is_closed_state (condition_of l.core) ≡ true
    → StandsLink l t
    → StandsLink (record l { opening = record l.opening { moment = max (l.opening).moment now } }) (t ▷ Polled now None)
polls_closed l t now met owes closed h =
    let o = l.opening in
    let s = o.settings in
    let e = Polled now None in
    let some = some_is o.agreement met in
    let a = some.0 in
    let b = before l t a some.1 h in
    let busy : nat_lt 0 (owed s t) ≡ true = ap (nat_lt 0) (sym (h.follows).owed_is) ∙ owes in
    let follows = passes_poll o t now None a some.1 refl h.follows in
    let trace : machine s (t ▷ e) ≡ machine s t =
    machine_open s t e a b.agreed_is
    ∙ ap (λ x. with_entries (machine s t) (if x then [] else Polled (max (moment t) now) None ∷ [])) busy in
    let answer : None ≡ due_by s t (Some a) now =
    sym (first (is_closed (machine_layout s a) (machine s t)) None _ (sym (closed_same l.core (machine s t) (machine_layout s a) b.law b.stands) ∙ closed)) in
    opened (record l { opening = record o { moment = max o.moment now } }) s t e a refl follows (sym follows.agreement_is ∙ some.1)
    (subst (λ x. None ≡ due_by s t x now) (sym b.agreed_is) answer) h.faithful
    (subst (λ x. Stands l.core x) (sym trace) b.stands) b.law

-- an open one sends the answer to an opening that it owes
pub polls_owed : (l : Link) (o : Handshake) (t : Trace Entry) (now : ℕ) (out : Option (List ℕ)) → IsSome (l.opening).agreement
    → nat_lt 0 (l.opening).owed ≡ true → is_closed_state (condition_of l.core) ≡ false
    → o.settings ≡ (l.opening).settings → o.agreement ≡ (l.opening).agreement
    → Follows o (t ▷ Polled now out) → out ≡ opening_due (l.opening).settings t now
    → StandsLink l t → StandsLink (record l { opening = o }) (t ▷ Polled now out)
polls_owed l o t now out met owes closed settings stays follows is h =
    let s = (l.opening).settings in
    let e = Polled now out in
    let some = some_is (l.opening).agreement met in
    let a = some.0 in
    let b = before l t a some.1 h in
    let busy : nat_lt 0 (owed s t) ≡ true = ap (nat_lt 0) (sym (h.follows).owed_is) ∙ owes in
    let trace : machine s (t ▷ e) ≡ machine s t =
    machine_open s t e a b.agreed_is
    ∙ ap (λ x. with_entries (machine s t) (if x then [] else Polled (max (moment t) now) out ∷ [])) busy in
    let answer : out ≡ due_by s t (Some a) now =
    is ∙ sym (third (is_closed (machine_layout s a) (machine s t)) (nat_lt 0 (owed s t)) None (opening_due s t now) _
    (sym (closed_same l.core (machine s t) (machine_layout s a) b.law b.stands) ∙ closed) busy) in
    opened (record l { opening = o }) s t e a settings follows b.agreed_is
    (subst (λ x. out ≡ due_by s t x now) (sym b.agreed_is) answer) h.faithful
    (subst (λ x. Stands l.core x) (sym trace) b.stands) b.law

-- ---- bytes that an open link is given and hands out

pub gives_open : (l : Link) (m : Core) (t : Trace Entry) (bytes : List ℕ) → IsSome (l.opening).agreement
    → ((u : Trace Entry) → Stands l.core u → Stands m (u ▷ Gave bytes)) → layout_of m ≡ layout_of l.core
    → StandsLink l t → StandsLink (record l { core = m }) (t ▷ Gave bytes)
gives_open l m t bytes met step same h =
    let f = h.follows in
    let s = (l.opening).settings in
    let some = some_is (l.opening).agreement met in
    let b = before l t some.0 some.1 h in
    opened (record l { core = m }) s t (Gave bytes) some.0 refl
    (record { moment_is = f.moment_is; agreement_is = f.agreement_is; owed_is = f.owed_is; timer_is = f.timer_is })
    b.agreed_is tt h.faithful
    (subst (λ x. Stands m x) (sym (machine_open s t (Gave bytes) some.0 b.agreed_is)) (step (machine s t) b.stands)) (same ∙ b.law)

pub pulls_open : (l : Link) (m : Core) (t : Trace Entry) (room : ℕ) (bytes : List ℕ) → IsSome (l.opening).agreement
    → ((u : Trace Entry) → Stands l.core u → Stands m (u ▷ Pulled room bytes)) → layout_of m ≡ layout_of l.core
    → StandsLink l t → StandsLink (record l { core = m }) (t ▷ Pulled room bytes)
pulls_open l m t room bytes met step same h =
    let f = h.follows in
    let s = (l.opening).settings in
    let some = some_is (l.opening).agreement met in
    let b = before l t some.0 some.1 h in
    opened (record l { core = m }) s t (Pulled room bytes) some.0 refl
    (record { moment_is = f.moment_is; agreement_is = f.agreement_is; owed_is = f.owed_is; timer_is = f.timer_is })
    b.agreed_is (let at = b.agreed_is in rw at tt) h.faithful
    (subst (λ x. Stands m x) (sym (machine_open s t (Pulled room bytes) some.0 b.agreed_is)) (step (machine s t) b.stands)) (same ∙ b.law)
