-- What a link's value says of the trace that it stands for.
use Rattle.std.proofs.Common.{◌≡◌, ℕ, ◌+◌, ◌≤◌, nat_le, nat_lt, max, Bool, true, false, ◌&&◌, length, drop, if◌then◌else◌, Option, Some, None, Result, Ok, Err, refl, sym, ap, subst, ◌∙◌, arith}
use Rattle.std.proofs.Math.Seq.{drop-nil}
use Rattle.std.proofs.lemmas.Bool.{and_parts, leb-true, ltb-true}
use Rattle.mt_base.specs.Trace.{Trace, Start, ◌▷◌}
use Rattle.mt_windows.specs.Arrived.{passed}
use Rattle.mt_windows.specs.Sending.{queued}
use Rattle.mt_windows.specs.SendingView.{limits}
use Rattle.mt_windows.proofs.Order.{receives_left}
use Rattle.mt_windows.proofs.Pieces.{all_bytes}
use Rattle.carrier.specs.declared.state.LinkState.{LinkState}
use Rattle.carrier.specs.declared.state.LinkState.TheVariants.{Opening, Open, Closed}
use Rattle.carrier.specs.Entries.{Entry, Gave, In, Polled, Pulled, Owed, Posted, Next, given, moment, pulled}
use Rattle.carrier.specs.Receiving.{accepted, has_effect, received}
use Rattle.carrier.specs.Sending.{acts, timer as machine_timer}
use Rattle.carrier.specs.Law.{Faithful}
use Rattle.carrier.proofs.links.Carries.{all_given}
use Rattle.carrier.proofs.links.Closes.{expiries_bound}
use Rattle.link_core.specs.CoreView.{Stands, layout_of}
use Rattle.link_core.proofs.Links.{expiries_is, has_room}
use Rattle.udp_open.specs.declared.settings.OpenSettings.{OpenSettings}
use Rattle.udp_open.specs.declared.agreement.Agreement.{Agreement}
use Rattle.udp_open.specs.declared.timer.Timer.{Timer}
use Rattle.carrier.specs.declared.state.Reason.{Reason}
use Rattle.udp_open.specs.Handshake.{agreed, expiry, hears, is_asking, is_time, row, shown, started, timer, timer_by}
use Rattle.udp_open.specs.LinkTrace.{machine, machine_layout, LinkFaithful}
use Rattle.udp_open.specs.LinkView.{Link, StandsBy, StandsLink, gives, condition_by, left_by, condition_in, left_in}
use Rattle.udp_open.specs.OfTrace.{left_after, passed_by, queued_after, queued_by, settled_after, settled_by, state_after, state_by}
use Rattle.udp_open.proofs.Early.{queued_all}
use Rattle.udp_open.proofs.links.Machines.{given_same, machine_faithful, pulled_same}

-- ---- what is left

pub left_is : (l : Link) (t : Trace Entry) → StandsLink l t → left_in l ≡ left_after (l.opening).settings t
left_is l t h = ap (left_by l) (h.follows).agreement_is ∙ by_agreement (agreed s t) h.machine_is
  where
    s : OpenSettings
    s = (l.opening).settings

    by_agreement : (o : Option Agreement) → StandsBy l t o → left_by l o ≡ drop (length (pulled t)) (passed_by s t o)
    by_agreement None stands = sym (drop-nil (length (pulled t)))
    by_agreement (Some a) stands =
        let m = machine s t in
        let r = ((l.core).machine).receiver in
        receives_left r.inbox (r.config).peer (received (layout_of l.core) m).parts (length (pulled m)) (((stands.0).hears).receives)
        ∙ ap (λ layout. drop (length (pulled m)) (passed (accepted layout m))) stands.1
        ∙ ap (λ xs. drop (length xs) (passed (accepted (machine_layout s a) m))) (pulled_same s t h.faithful)

-- ---- the state

-- more than sixteen in a row, and at most one more
by_count : (x : LinkState) (n : ℕ) → n ≤ 17 → (if nat_lt 16 n then Closed n else x) ≡ (if nat_lt 16 n then Closed 17 else x)
by_count x n most = by_test (nat_lt 16 n) refl
  where
    by_test : (b : Bool) → nat_lt 16 n ≡ b → (if b then Closed n else x) ≡ (if b then Closed 17 else x)
    by_test true h = ap Closed (omega (arith, most, ltb-true 16 n h))
    by_test false h = refl

-- the SYN expires at most 17 times in a row
heard_bound : (b : Bool) (o : Option Timer) (r : Result Agreement Reason) → row o ≤ 17 → row (if b then timer_by o r else o) ≤ 17
heard_bound true o (Ok a) h = omega arith
heard_bound true o (Err why) h = h
heard_bound false o r h = h

asked_bound : (asking : Bool) (o : Option Timer) (at : ℕ) → row o ≤ 17 → row (if asking && is_time o at then Some (started o at) else o) ≤ 17
asked_bound false o at h = h
asked_bound true None at h = omega arith
asked_bound true (Some timer) at h = by_test (nat_le timer.expiries 16 && nat_le (expiry timer) at) refl
  where
    by_test : (b : Bool) → (nat_le timer.expiries 16 && nat_le (expiry timer) at) ≡ b → row (if b then Some (started (Some timer) at) else Some timer) ≤ 17
    by_test true is = omega (arith, leb-true timer.expiries 16 (and_parts (nat_le timer.expiries 16) (nat_le (expiry timer) at) is).0)
    by_test false is = h

row_bound : (s : OpenSettings) (t : Trace Entry) → row (timer s t) ≤ 17
row_bound s Start = omega arith
row_bound s (t ▷ Gave bytes) = row_bound s t
row_bound s (t ▷ In now d took) = heard_bound (has_effect took) (timer s t) (hears s (agreed s t) (shown d)) (row_bound s t)
row_bound s (t ▷ Polled now out) = asked_bound (is_asking s.role (agreed s t)) (timer s t) (max (moment t) now) (row_bound s t)
row_bound s (t ▷ Pulled room bytes) = row_bound s t
row_bound s (t ▷ Owed count) = row_bound s t
row_bound s (t ▷ Posted bytes) = row_bound s t
row_bound s (t ▷ Next bytes) = row_bound s t

pub state_is : (l : Link) (t : Trace Entry) → StandsLink l t → condition_in l ≡ state_after (l.opening).settings t
state_is l t h = ap (condition_by l) (h.follows).agreement_is ∙ by_agreement (agreed s t) h.machine_is
  where
    s : OpenSettings
    s = (l.opening).settings

    by_agreement : (o : Option Agreement) → StandsBy l t o → condition_by l o ≡ state_by s t o
    by_agreement None stands =
        ap (λ x. if nat_lt 16 (row x) then Closed (row x) else Opening) (h.follows).timer_is
        ∙ by_count Opening (row (timer s t)) (row_bound s t)
    by_agreement (Some a) stands =
        let m = machine s t in
        let layout = machine_layout s a in
        let same = expiries_is s.initial a.peer_initial a.version in
        ap (λ x. if nat_lt 16 x.expiries then Closed x.expiries else Open) ((stands.0).sends).timer_is
        ∙ ap (λ y. if nat_lt 16 (machine_timer y m).expiries then Closed (machine_timer y m).expiries else Open) stands.1
        ∙ by_count Open (machine_timer layout m).expiries (subst (λ n. (machine_timer layout m).expiries ≤ n + 1) same (expiries_bound layout m))
        ∙ ap (λ n. if nat_lt n (machine_timer layout m).expiries then Closed 17 else Open) (sym same)

-- ---- what is queued

-- what its machine has queued is what the link has
pub queued_is : (l : Link) (t : Trace Entry) (n : ℕ) → ((u : Trace Entry) → Stands l.core u → n ≡ queued limits (acts (layout_of l.core) u))
    → StandsLink l t → n ≡ queued_after (l.opening).settings t
queued_is l t n is h = by_agreement (agreed s t) h.machine_is
  where
    s : OpenSettings
    s = (l.opening).settings

    by_agreement : (o : Option Agreement) → StandsBy l t o → n ≡ queued_by s t o
    by_agreement None stands = is (gives t) stands ∙ queued_all (layout_of l.core) t
    by_agreement (Some a) stands =
        is (machine s t) stands.0 ∙ ap (λ layout. queued limits (acts layout (machine s t))) stands.1

one_agreement : (a b : Agreement) → ◌≡◌ {A = Option Agreement} (Some a) (Some b) → a ≡ b
one_agreement a b h = cc

pub queued_or_settled : (s : OpenSettings) (t : Trace Entry) → LinkFaithful s t → queued_after s t + settled_after s t ≡ length (given t)
queued_or_settled s t law = by_agreement (agreed s t) refl
  where
    by_agreement : (o : Option Agreement) → agreed s t ≡ o → queued_by s t o + settled_by s t o ≡ length (given t)
    by_agreement None is = omega arith
    by_agreement (Some a) is =
        let layout = machine_layout s a in
        let m = machine s t in
        let faithful : Faithful layout m = machine_faithful s t layout law (λ b at. ap (machine_layout s) (one_agreement b a (sym at ∙ is))) in
        all_bytes limits (acts layout m)
        ∙ ap length (all_given layout (has_room s.initial a.peer_initial a.version) m faithful ∙ given_same s t a is)
