-- The timer and the end of a link.
use Rattle.std.proofs.Common.{◌≡◌, ℕ, ◌+◌, ◌≤◌, Bool, true, false, not, ltb, leb, cond, ◌&&◌, ◌||◌, max, List, length, Option, Some, None, is_some, option_map, refl, ap, ◌∙◌, arith}
use Rattle.std.proofs.lemmas.Bool.{and_parts}
use Rattle.std.proofs.lemmas.Bool.Decides.{nat_tests}
use Rattle.mt_base.specs.Trace.{Trace, Start, ◌▷◌}
use Rattle.mt_windows.specs.Sending.{Act, cuts, is_open, settled}
use Rattle.mt_windows.proofs.Counts.{least_none}
use Rattle.carrier.specs.declared.state.Took.{Took}
use Rattle.carrier.specs.declared.state.Took.TheVariants.{Ignored}
use Rattle.carrier.specs.declared.state.Reason.TheVariants as reason
use Rattle.carrier.specs.Entries.{Entry, Gave, In, Polled, Pulled, Owed, Posted, Next, moment, pulled}
use Rattle.carrier.specs.Layout.{Layout}
use Rattle.carrier.specs.Receiving.{received, reading, effect}
use Rattle.carrier.specs.Sending.{Timer, acts, timer, timer_told, timer_polled, expires, expiry, hears, is_over, is_waiting, settles, is_closed}
use Rattle.carrier.specs.Law.{Faithful, answered, answer_reading}
use Rattle.carrier.specs.Due.{meant, closes}

-- ---- expiries in a row

told_bound : (l : Layout) (now : Timer) (s after : Trace Act) (at : ℕ) → now.expiries ≤ l.bounds.expiries + 1 → (timer_told l now s after at).expiries ≤ l.bounds.expiries + 1
told_bound l now s after at h = by_test (settles l s after)
  where
    by_test : (b : Bool) → (cond b (record { start = at; expiries = 0 }) now).expiries ≤ l.bounds.expiries + 1
    by_test true = omega arith
    by_test false = h

polled_bound : (l : Layout) (now : Timer) (s after : Trace Act) (at : ℕ) → now.expiries ≤ l.bounds.expiries + 1 → (timer_polled l now s after at).expiries ≤ l.bounds.expiries + 1
polled_bound l now s after at h = by_expiry (expires l now s at) refl
  where
    not_over : (b : Bool) → ltb l.bounds.expiries now.expiries ≡ b → not b ≡ true → now.expiries + 1 ≤ l.bounds.expiries + 1
    not_over true e is = absurd (cc)
    not_over false e is = grind (arith, nat_tests)

    by_begin : (b : Bool) → (cond b (record { start = at; expiries = now.expiries }) now).expiries ≤ l.bounds.expiries + 1
    by_begin true = h
    by_begin false = h

    by_expiry : (b : Bool) → expires l now s at ≡ b → (cond b (record { start = at; expiries = now.expiries + 1 }) (cond (not (is_waiting l s) && is_waiting l after) (record { start = at; expiries = now.expiries }) now)).expiries ≤ l.bounds.expiries + 1
    by_expiry true e = not_over (is_over l now) refl (and_parts (not (is_over l now)) (is_waiting l s && leb (expiry l now) at) e).0
    by_expiry false e = by_begin (not (is_waiting l s) && is_waiting l after)

pub expiries_bound : (l : Layout) (t : Trace Entry) → (timer l t).expiries ≤ l.bounds.expiries + 1
expiries_bound l Start = omega arith
expiries_bound l (t ▷ Gave bytes) = expiries_bound l t
expiries_bound l (t ▷ In now datagram took) = told_bound l (timer l t) (acts l t) (acts l (t ▷ In now datagram took)) (max (moment t) now) (expiries_bound l t)
expiries_bound l (t ▷ Polled now out) = polled_bound l (timer l t) (acts l t) (acts l (t ▷ Polled now out)) (max (moment t) now) (expiries_bound l t)
expiries_bound l (t ▷ Pulled room bytes) = expiries_bound l t
expiries_bound l (t ▷ Owed count) = expiries_bound l t
expiries_bound l (t ▷ Posted bytes) = expiries_bound l t
expiries_bound l (t ▷ Next bytes) = expiries_bound l t

-- ---- a closed link

when : {X : Type 0} (b c : Bool) (x y : X) → b ≡ true → cond (b || c) x y ≡ x
when true c x y is = refl
when false c x y is = absurd (cc)

pub closed_is_silent : (l : Layout) (t : Trace Entry) (now : ℕ) → is_closed l t ≡ true → meant l t now ≡ None
closed_is_silent l t now is = when (is_closed l t) (closes l t (max (moment t) now)) None _ is

-- nothing is settled where nothing is heard
settles_nothing : (l : Layout) (s : Trace Act) → settles l s s ≡ false
settles_nothing l s = ap is_some (least_none (λ p. is_open l.bounds.windows s p && settled l.bounds.windows s p) (cuts s) (λ p less. never (ltb p (cuts s)) (settled l.bounds.windows s p)))
  where
    never : (a b : Bool) → (a && not b) && b ≡ false
    never true true = refl
    never true false = refl
    never false b = refl

not_both : (b : Bool) → not b && b ≡ false
not_both true = refl
not_both false = refl

closed_effect : (l : Layout) (t : Trace Entry) (datagram : List ℕ) (took : Took) → took ≡ answered l t datagram → is_closed l t ≡ true → effect l took datagram ≡ None
closed_effect l t datagram took is closed =
    let ignored : answered l t datagram ≡ Ignored reason.LinkClosed = ap (λ b. cond b (Ignored reason.LinkClosed) (answer_reading l (received l t) (length (pulled t)) (reading l datagram))) closed in
    ap (λ x. effect l x datagram) (is ∙ ignored)

told_same : (l : Layout) (now : Timer) (s after : Trace Act) (at : ℕ) → after ≡ s → timer_told l now s after at ≡ now
told_same l now s after at e =
    ap (λ x. timer_told l now s x at) e ∙ ap (λ b. cond b (record { start = at; expiries = 0 }) now) (settles_nothing l s)

polled_same : (l : Layout) (now : Timer) (s after : Trace Act) (at : ℕ) → after ≡ s → is_over l now ≡ true → timer_polled l now s after at ≡ now
polled_same l now s after at e over =
    let still : expires l now s at ≡ false = ap (λ b. not b && (is_waiting l s && leb (expiry l now) at)) over in
    ap (λ x. timer_polled l now s x at) e
    ∙ ap (λ b. cond b (record { start = at; expiries = now.expiries + 1 }) (cond (not (is_waiting l s) && is_waiting l s) (record { start = at; expiries = now.expiries }) now)) still
    ∙ ap (λ b. cond b (record { start = at; expiries = now.expiries }) now) (not_both (is_waiting l s))

sent_none : (l : Layout) (t : Trace Entry) (now : ℕ) (out : Option (List ℕ)) → out ≡ None → acts l (t ▷ Polled now out) ≡ acts l t
sent_none l t now None e = refl
sent_none l t now (Some out) e = absurd (cc)

pub stays_closed : (l : Layout) (t : Trace Entry) (e : Entry) → Faithful l (t ▷ e) → is_closed l t ≡ true → is_closed l (t ▷ e) ≡ true
stays_closed l t (Gave bytes) law is = is
stays_closed l t (In now datagram took) law is =
    ap (is_over l) (told_same l (timer l t) (acts l t) (acts l (t ▷ In now datagram took)) (max (moment t) now)
    (ap (hears l (acts l t)) (closed_effect l t datagram took law.0 is))) ∙ is
stays_closed l t (Polled now out) law is =
    ap (is_over l) (polled_same l (timer l t) (acts l t) (acts l (t ▷ Polled now out)) (max (moment t) now)
    (sent_none l t now out (law.0 ∙ ap (option_map l.spell) (closed_is_silent l t now is))) is) ∙ is
stays_closed l t (Pulled room bytes) law is = is
stays_closed l t (Owed count) law is = is
stays_closed l t (Posted bytes) law is = absurd law
stays_closed l t (Next bytes) law is = absurd law
