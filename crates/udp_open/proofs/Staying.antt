-- What was agreed on stays, and a closed opening is closed for good.
use Rattle.std.proofs.Common.{◌≡◌, ℕ, ◌<◌, Bool, true, false, ◌&&◌, nat_lt, max, if◌then◌else◌, Option, Some, None, option_map, Result, Ok, Err, refl, sym, ap, ◌∙◌, subst, arith}
use Rattle.std.proofs.lemmas.Bool.{ltb-true}
use Rattle.std.proofs.lemmas.Bool.Decides.{nat_tests}
use Rattle.mt_base.specs.declared.kinds.Role.{Role}
use Rattle.mt_base.specs.declared.kinds.Role.TheVariants.{Server, Client}
use Rattle.mt_base.specs.Trace.{Trace, Start, ◌▷◌}
use Rattle.carrier.specs.declared.state.Reason.{Reason}
use Rattle.carrier.specs.declared.state.Reason.TheVariants as reason
use Rattle.carrier.specs.declared.state.Took.{Took}
use Rattle.carrier.specs.declared.state.Took.TheVariants.{Ignored}
use Rattle.carrier.specs.Entries.{Entry, Gave, In, Polled, Pulled, Owed, Posted, Next, moment}
use Rattle.carrier.specs.Receiving.{has_effect}
use Rattle.udp1_packets.specs.Layout.{spelled}
use Rattle.udp1_packets.specs.Value.{Packet}
use Rattle.udp_open.specs.declared.settings.OpenSettings.{OpenSettings}
use Rattle.udp_open.specs.declared.agreement.Agreement.{Agreement}
use Rattle.udp_open.specs.declared.timer.Timer.{Timer}
use Rattle.udp_open.specs.Handshake.{shown, hears, agreed, agreed_by, is_copy, owed, timer, timer_by, row, is_time, started, is_asking, is_closed, syn, sent, took_by, Opens}
use Rattle.udp_open.specs.OpeningView.{IsSilent}
use Rattle.udp_open.proofs.Heard.{either}

-- ---- what was agreed on

agreed_kept : (b : Bool) (s : OpenSettings) (a : Agreement) (r : Result Packet Reason)
    → (if b then agreed_by (Some a) (hears s (Some a) r) else Some a) ≡ Some a
agreed_kept false s a r = refl
agreed_kept true s a (Err why) = refl
agreed_kept true s a (Ok p) = either (λ r. agreed_by (Some a) r ≡ Some a) (is_copy s a p.body) _ _ refl refl

pub agreed_stays : (s : OpenSettings) (t : Trace Entry) (e : Entry) (a : Agreement) → agreed s t ≡ Some a
    → agreed s (t ▷ e) ≡ Some a
agreed_stays s t (Gave bytes) a h = h
agreed_stays s t (In now d took) a h =
    subst (λ o. (if has_effect took then agreed_by o (hears s o (shown d)) else o) ≡ Some a) (sym h)
    (agreed_kept (has_effect took) s a (shown d))
agreed_stays s t (Polled now out) a h = h
agreed_stays s t (Pulled room bytes) a h = h
agreed_stays s t (Owed count) a h = h
agreed_stays s t (Posted bytes) a h = h
agreed_stays s t (Next bytes) a h = h

-- ---- what is closed

-- it is time for nothing
no_time : (o : Option Timer) (at : ℕ) → nat_lt 16 (row o) ≡ true → is_time o at ≡ false
no_time None at h = cc
no_time (Some o) at h =
    let over : 16 < o.expiries = ltb-true 16 o.expiries h in
    grind (arith, nat_tests)

polled_same : (asking : Bool) (o : Option Timer) (at : ℕ) → nat_lt 16 (row o) ≡ true
    → (if asking && is_time o at then Some (started o at) else o) ≡ o
polled_same true o at h = ap (λ b. if b then Some (started o at) else o) (no_time o at h)
polled_same false o at h = refl

none_by : (b : Bool) (o : Option Timer) (r : Result Agreement Reason) → o ≡ None
    → (if b then timer_by o r else o) ≡ None
none_by true o (Ok a) h = refl
none_by true o (Err why) h = h
none_by false o r h = h

-- a server has no timer
server_none : (s : OpenSettings) (t : Trace Entry) → s.role ≡ Server → timer s t ≡ None
server_none s Start h = refl
server_none s (t ▷ Gave bytes) h = server_none s t h
server_none s (t ▷ In now d took) h =
    none_by (has_effect took) (timer s t) (hears s (agreed s t) (shown d)) (server_none s t h)
server_none s (t ▷ Polled now out) h =
    let at = max (moment t) now in
    ap (λ r. if is_asking r (agreed s t) && is_time (timer s t) at then Some (started (timer s t) at) else timer s t) h
    ∙ server_none s t h
server_none s (t ▷ Pulled room bytes) h = server_none s t h
server_none s (t ▷ Owed count) h = server_none s t h
server_none s (t ▷ Posted bytes) h = server_none s t h
server_none s (t ▷ Next bytes) h = server_none s t h

-- nothing is sent
sent_none : (s : OpenSettings) (role : Role) (a : Option Agreement) (o : Option Timer) (owed at : ℕ)
    → (role ≡ Server → o ≡ None) → nat_lt 16 (row o) ≡ true → sent s role a o owed at ≡ None
sent_none s Server a o owed at none h =
    let idle : nat_lt 16 0 ≡ true = ap (λ x. nat_lt 16 (row x)) (sym (none refl)) ∙ h in
    cc
sent_none s Client (Some a) o owed at none h = refl
sent_none s Client None o owed at none h =
    ap (λ b. if b && nat_lt (row o) 16 then Some (syn s) else None) (no_time o at h)

by_closed : (b : Bool) (x y took : Took) → b ≡ true → took ≡ (if b then x else y) → took ≡ x
by_closed true x y took h is = is
by_closed false x y took h is = cc

pub closed_stays : (s : OpenSettings) (t : Trace Entry) (e : Entry) → is_closed s t ≡ true → Opens s (t ▷ e)
    → IsSilent e × (is_closed s (t ▷ e) ≡ true)
closed_stays s t (Gave bytes) h o = absurd o
closed_stays s t (In now d took) h o =
    let is = by_closed (is_closed s t) (Ignored reason.LinkClosed) (took_by (hears s (agreed s t) (shown d))) took h o.0 in
    (is, subst (λ k. nat_lt 16 (row (if has_effect k then timer_by (timer s t) (hears s (agreed s t) (shown d)) else timer s t)) ≡ true) (sym is) h)
closed_stays s t (Polled now out) h o =
    let at = max (moment t) now in (
      o.0 ∙ ap (option_map spelled) (sent_none s s.role (agreed s t) (timer s t) (owed s t) at (server_none s t) h),
      ap (λ x. nat_lt 16 (row x)) (polled_same (is_asking s.role (agreed s t)) (timer s t) at h) ∙ h,
    )
closed_stays s t (Pulled room bytes) h o = absurd o
closed_stays s t (Owed count) h o = absurd o
closed_stays s t (Posted bytes) h o = absurd o
closed_stays s t (Next bytes) h o = absurd o
