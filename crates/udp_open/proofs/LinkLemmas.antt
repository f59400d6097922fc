-- Why a link stands for its trace: what its calls do to what was agreed on, and to its machine.
use Rattle.std.proofs.Common.{◌≡◌, ◌⊎◌, inl, inr, ℕ, ◌%◌, ◌≤◌, ◌==◌, Bool, true, false, ◌&&◌, nat_lt, max, List, length, get_or, if◌then◌else◌, Option, Some, None, Result, Ok, Err, is_ok, refl, sym, ap, ◌∙◌, subst, arith}
use Rattle.mt_base.proofs.Meanings.{was_spelled}
use Rattle.mt_base.specs.declared.kinds.Role.{Role}
use Rattle.mt_base.specs.declared.kinds.Role.TheVariants.{Server, Client}
use Rattle.mt_base.specs.Trace.{Trace, Start, ◌▷◌}
use Rattle.mt_windows.specs.declared.limits.TheConstants.{QUEUE, DATAGRAM}
use Rattle.carrier.specs.declared.first_layout.Refusal1.{Refusal1}
use Rattle.carrier.specs.declared.state.Reason.{Reason}
use Rattle.carrier.specs.declared.state.Reason.TheVariants as reason
use Rattle.carrier.specs.declared.state.Took.{Took}
use Rattle.carrier.specs.declared.state.Took.TheVariants.{Ignored}
use Rattle.carrier.specs.Entries.{Entry, Gave, In, Polled, Pulled, Owed, Posted, Next, moment, given}
use Rattle.carrier.specs.Law.{IsBytes, Faithful}
use Rattle.carrier.specs.Receiving.{has_effect}
use Rattle.udp1_packets.specs.Layout.{Spells}
use Rattle.udp1_packets.specs.Reading.{packet_at}
use Rattle.udp1_packets.specs.Value.{Body, SynBody, DataBody, FecBody, BareBody, Packet}
use Rattle.udp1_packets.proofs.ByteLemmas.{opens_with}
use Rattle.udp1_packets.proofs.Theorems.{meaning}
use Rattle.link_core.specs.CoreView.{Core, Stands, is_second, layout_of}
use Rattle.udp_open.specs.declared.settings.OpenSettings.{OpenSettings}
use Rattle.udp_open.specs.declared.agreement.Agreement.{Agreement}
use Rattle.udp_open.specs.declared.timer.Timer.{Timer}
use Rattle.udp_open.specs.Agreeing.{is_syn, shows_syn, is_opening}
use Rattle.udp_open.specs.Handshake.{shown, packet_or, hears, agreed, agreed_by, owed, owed_by, timer, timer_by, is_asking, is_time, started}
use Rattle.udp_open.specs.LinkTrace.{has_syn, is_of_opening, is_syn_copy, machine_layout, begins, begins_by, reaches, tells, with_entries, machine, tellings, KeepsMachine, Answers, LinkFaithful}
use Rattle.udp_open.specs.LinkView.{Link, StandsBy, StandsLink, gives}
use Rattle.udp_open.specs.OpeningView.{Handshake, Follows}
use Rattle.udp_open.proofs.Heard.{Deaf, deaf, deaf_same}
use Rattle.udp_open.proofs.Staying.{agreed_stays}

-- ---- agreements

none_before : (s : OpenSettings) (t : Trace Entry) (e : Entry) → agreed s (t ▷ e) ≡ None → agreed s t ≡ None
none_before s t e h = by_case (agreed s t) refl
  where
    by_case : (o : Option Agreement) → agreed s t ≡ o → agreed s t ≡ None
    by_case None is = is
    by_case (Some a) is = let more = agreed_stays s t e a is in cc

-- before the ends agree nothing reaches the machine
pub machine_none : (s : OpenSettings) (t : Trace Entry) → agreed s t ≡ None → machine s t ≡ Start
machine_none s Start h = refl
machine_none s (t ▷ e) h =
    let before = none_before s t e h in
    ap (λ o. with_entries (machine s t) (tells s t o e)) before
    ∙ ap (λ o. with_entries (machine s t) (begins_by s o (given t))) h
    ∙ machine_none s t before

-- the call by which they agree tells it what was given so far
pub machine_begins : (s : OpenSettings) (t : Trace Entry) (e : Entry) (a : Agreement) → agreed s t ≡ None
    → agreed s (t ▷ e) ≡ Some a → machine s (t ▷ e) ≡ with_entries Start (begins s.role (given t))
machine_begins s t e a before after =
    ap (λ o. with_entries (machine s t) (tells s t o e)) before
    ∙ ap (λ o. with_entries (machine s t) (begins_by s o (given t))) after
    ∙ ap (λ m. with_entries m (begins s.role (given t))) (machine_none s t before)

-- each call afterwards tells it what reaches it
pub machine_open : (s : OpenSettings) (t : Trace Entry) (e : Entry) (a : Agreement) → agreed s t ≡ Some a
    → machine s (t ▷ e) ≡ with_entries (machine s t) (reaches s a t e)
machine_open s t e a h = ap (λ o. with_entries (machine s t) (tells s t o e)) h

-- what is given before that are bytes, and stays within the queue
pub keeps_early : (s : OpenSettings) (t : Trace Entry) → agreed s t ≡ None → LinkFaithful s t
    → (length (given t) ≤ QUEUE) × IsBytes (given t)
keeps_early s Start h f = (omega arith, (λ k d within. absurd (omega (arith, within))))
keeps_early s (t ▷ e) h f = subst (λ o. KeepsMachine s o (t ▷ e)) h f.1

-- ---- what opens nothing

odd_byte : (b : ℕ) → (b ≡ 0x01) ⊎ (b ≡ 0x05) → (b % 2 == 1) ≡ true
odd_byte b h = elim h [
  | inl one ↦ ap (λ n. n % 2 == 1) one
  | inr five ↦ ap (λ n. n % 2 == 1) five
]

syn_flag : (d : List ℕ) (p : Packet) (b : Body) → p.body ≡ b → is_syn b ≡ true → Spells d p → has_syn d ≡ true
syn_flag d p (SynBody syn) is h spells = odd_byte (get_or d 7 0) (opens_with d p syn spells is)
syn_flag d p (DataBody vector aoa coded start bytes) is h spells = cc
syn_flag d p (FecBody vector aoa coded start range index bytes) is h spells = cc
syn_flag d p (BareBody vector aoa rest) is h spells = cc

-- a datagram whose flag SYN isn't set opens nothing
pub no_opening : (d : List ℕ) → IsBytes d → has_syn d ≡ false → is_opening d ≡ false
no_opening d good plain = by_length (nat_lt DATAGRAM (length d))
  where
    by_body : (p : Packet) (b : Bool) → is_syn p.body ≡ b → Spells d p → b ≡ false
    by_body p true is spells = let flag = syn_flag d p p.body refl is spells in cc
    by_body p false is spells = refl

    by_packet : (r : Result Packet Refusal1) → packet_at (record { at = 0; bytes = d }) ≡ r → shows_syn (packet_or r) ≡ false
    by_packet (Ok p) is = by_body p (is_syn p.body) refl (was_spelled meaning p d good is)
    by_packet (Err e) is = refl

    by_length : (long : Bool) → shows_syn (if long then Err reason.TooLong else packet_or (packet_at (record { at = 0; bytes = d }))) ≡ false
    by_length true = refl
    by_length false = by_packet (packet_at (record { at = 0; bytes = d })) refl

deaf_owed : (b : Bool) (role : Role) (count : ℕ) (r : Result Agreement Reason) → Deaf r
    → (if b then owed_by role count r else count) ≡ count
deaf_owed false role count r h = refl
deaf_owed true role count (Ok a) h = absurd h
deaf_owed true Server count (Err why) h = refl
deaf_owed true Client count (Err why) h = refl

client_owed : (b : Bool) (role : Role) (count : ℕ) (r : Result Agreement Reason) → role ≡ Client
    → (if b then owed_by role count r else count) ≡ count
client_owed false role count r h = refl
client_owed true Server count r h = cc
client_owed true Client count r h = refl

deaf_timer : (b : Bool) (o : Option Timer) (r : Result Agreement Reason) → Deaf r → (if b then timer_by o r else o) ≡ o
deaf_timer false o r h = refl
deaf_timer true o (Ok a) h = absurd h
deaf_timer true o (Err why) h = refl

not_asking : (role : Role) (a : Agreement) (b : Bool) (one two : Option Timer)
    → (if is_asking role (Some a) && b then one else two) ≡ two
not_asking Server a b one two = refl
not_asking Client a b one two = refl

-- once the ends agreed no timer of the opening runs
first_heard : (b : Bool) (o : Option Timer) (r : Result Agreement Reason) (a : Agreement)
    → (if b then agreed_by None r else None) ≡ Some a → (if b then timer_by o r else o) ≡ None
first_heard true o (Ok c) a h = refl
first_heard true o (Err why) a h = cc
first_heard false o r a h = cc

still_none : (b : Bool) (o : Option Timer) (r : Result Agreement Reason) → o ≡ None → (if b then timer_by o r else o) ≡ None
still_none true o (Ok a) h = refl
still_none true o (Err why) h = h
still_none false o r h = h

timer_done : (s : OpenSettings) (t : Trace Entry) (a : Agreement) → agreed s t ≡ Some a → timer s t ≡ None
timer_done s Start a h = cc
timer_done s (t ▷ Gave bytes) a h = timer_done s t a h
timer_done s (t ▷ In now d took) a h = by_agreement (agreed s t) refl h (λ b is. timer_done s t b is)
  where
    r : Option Agreement → Result Agreement Reason
    r o = hears s o (shown d)

    by_agreement : (o : Option Agreement) → agreed s t ≡ o → (if has_effect took then agreed_by o (r o) else o) ≡ Some a
        → ((b : Agreement) → agreed s t ≡ Some b → timer s t ≡ None)
        → (if has_effect took then timer_by (timer s t) (r (agreed s t)) else timer s t) ≡ None
    by_agreement None is now_is old =
        ap (λ x. if has_effect took then timer_by (timer s t) (r x) else timer s t) is
        ∙ first_heard (has_effect took) (timer s t) (r None) a now_is
    by_agreement (Some b) is now_is old = still_none (has_effect took) (timer s t) (r (agreed s t)) (old b is)
timer_done s (t ▷ Polled now out) a h =
    let at = max (moment t) now in
    ap (λ x. if is_asking s.role x && is_time (timer s t) at then Some (started (timer s t) at) else timer s t) h
    ∙ not_asking s.role a (is_time (timer s t) at) _ _ ∙ timer_done s t a h
timer_done s (t ▷ Pulled room bytes) a h = timer_done s t a h
timer_done s (t ▷ Owed count) a h = timer_done s t a h
timer_done s (t ▷ Posted bytes) a h = timer_done s t a h
timer_done s (t ▷ Next bytes) a h = timer_done s t a h

-- ---- what the opening of an open link makes of the calls that it doesn't hear of

-- a datagram in which nothing is heard
passes_deaf : (o : Handshake) (t : Trace Entry) (now : ℕ) (d : List ℕ) (took : Took)
    → Deaf (hears o.settings (agreed o.settings t) (shown d))
    → Follows o t → Follows (record o { moment = max o.moment now }) (t ▷ In now d took)
passes_deaf o t now d took unheard h =
    let s = o.settings in
    let r = hears s (agreed s t) (shown d) in
    record {
      moment_is = ap (λ m. max m now) h.moment_is;
      agreement_is = h.agreement_is ∙ sym (deaf_same (has_effect took) (agreed s t) r unheard);
      owed_is = h.owed_is ∙ sym (deaf_owed (has_effect took) s.role (owed s t) r unheard);
      timer_is = h.timer_is ∙ sym (deaf_timer (has_effect took) (timer s t) r unheard);
    }

-- a datagram that opens nothing
pub passes_in : (o : Handshake) (t : Trace Entry) (now : ℕ) (d : List ℕ) (took : Took) → IsBytes d → has_syn d ≡ false
    → Follows o t → Follows (record o { moment = max o.moment now }) (t ▷ In now d took)
passes_in o t now d took good plain h =
    let s = o.settings in
    passes_deaf o t now d took (deaf s (agreed s t) (shown d) (no_opening d good plain)) h

-- a datagram that a closed link ignored
pub ignores_in : (o : Handshake) (t : Trace Entry) (now : ℕ) (d : List ℕ)
    → Follows o t → Follows (record o { moment = max o.moment now }) (t ▷ In now d (Ignored reason.LinkClosed))
ignores_in o t now d h = record {
  moment_is = ap (λ m. max m now) h.moment_is;
  agreement_is = h.agreement_is;
  owed_is = h.owed_is;
  timer_is = h.timer_is;
}

-- a datagram that is none of its opening
pub passes_open : (o : Handshake) (t : Trace Entry) (now : ℕ) (d : List ℕ) (took : Took) (a : Agreement) → IsBytes d
    → o.agreement ≡ Some a → is_of_opening o.settings a d ≡ false
    → Follows o t → Follows (record o { moment = max o.moment now }) (t ▷ In now d took)
passes_open o t now d took a good is none h = by_version (is_second a.version) none
  where
    s : OpenSettings
    s = o.settings

    r : Result Agreement Reason
    r = hears s (agreed s t) (shown d)

    at : agreed s t ≡ Some a
    at = sym h.agreement_is ∙ is

    deaf_by : (x : Result Agreement Reason) → is_ok x ≡ false → Deaf x
    deaf_by (Ok c) e = cc
    deaf_by (Err why) e = tt

    -- a server hears nothing in it, and a client has done with its opening
    by_role : (role : Role) → s.role ≡ role → is_syn_copy role (hears s (Some a) (shown d)) ≡ false
        → Follows (record o { moment = max o.moment now }) (t ▷ In now d took)
    by_role Server at_server none =
        passes_deaf o t now d took (subst (λ x. Deaf (hears s x (shown d))) (sym at) (deaf_by (hears s (Some a) (shown d)) none)) h
    by_role Client at_client none = record {
      moment_is = ap (λ m. max m now) h.moment_is;
      agreement_is = is ∙ sym (agreed_stays s t (In now d took) a at);
      owed_is = h.owed_is ∙ sym (client_owed (has_effect took) s.role (owed s t) r at_client);
      timer_is = h.timer_is ∙ timer_done s t a at ∙ sym (timer_done s (t ▷ In now d took) a (agreed_stays s t (In now d took) a at));
    }

    by_version : (b : Bool) → (if b then is_syn_copy s.role (hears s (Some a) (shown d)) else has_syn d) ≡ false
        → Follows (record o { moment = max o.moment now }) (t ▷ In now d took)
    by_version true none = by_role s.role refl none
    by_version false none = passes_in o t now d took good none h

-- a poll that sends no answer to an opening
pub passes_poll : (o : Handshake) (t : Trace Entry) (now : ℕ) (out : Option (List ℕ)) (a : Agreement) → o.agreement ≡ Some a
    → owed o.settings (t ▷ Polled now out) ≡ owed o.settings t
    → Follows o t → Follows (record o { moment = max o.moment now }) (t ▷ Polled now out)
passes_poll o t now out a is same h =
    let s = o.settings in
    let at = max (moment t) now in
    record {
      moment_is = ap (λ m. max m now) h.moment_is;
      agreement_is = h.agreement_is;
      owed_is = h.owed_is ∙ sym same;
      timer_is = h.timer_is ∙ sym (
          ap (λ x. if is_asking s.role x && is_time (timer s t) at then Some (started (timer s t) at) else timer s t) (sym h.agreement_is ∙ is)
          ∙ not_asking s.role a (is_time (timer s t) at) _ _
          );
    }

-- ---- one more call

-- after a call of an open link
pub opened : (l : Link) (s : OpenSettings) (t : Trace Entry) (e : Entry) (a : Agreement) → (l.opening).settings ≡ s
    → Follows l.opening (t ▷ e) → agreed s (t ▷ e) ≡ Some a
    → Answers s t e → LinkFaithful s t
    → Stands l.core (machine s (t ▷ e)) → layout_of l.core ≡ machine_layout s a
    → StandsLink l (t ▷ e)
opened l s t e a same follows is answers before stands law =
    let keeps : Faithful (machine_layout s a) (machine s (t ▷ e)) = subst (λ y. Faithful y (machine s (t ▷ e))) law stands.faithful in
    let kept : KeepsMachine s (agreed s (t ▷ e)) (t ▷ e) = subst (λ o. KeepsMachine s o (t ▷ e)) (sym is) keeps in
    record {
      follows = follows;
      machine_is = subst (λ o. StandsBy l (t ▷ e) o) (sym (ap (λ x. agreed x (t ▷ e)) same ∙ is))
          (subst (λ x. Stands l.core (machine x (t ▷ e)) × (layout_of l.core ≡ machine_layout x a)) (sym same) (stands, law));
      faithful = subst (λ x. LinkFaithful x (t ▷ e)) (sym same) (answers, kept, before);
    }

-- what is known before it
pub record Before (l : Link) (s : OpenSettings) (t : Trace Entry) (a : Agreement) : Type 0 where
  pub agreed_is : agreed s t ≡ Some a
  pub stands : Stands l.core (machine s t)
  pub law : layout_of l.core ≡ machine_layout s a
  pub faithful : LinkFaithful s t

pub before : (l : Link) (t : Trace Entry) (a : Agreement) → (l.opening).agreement ≡ Some a → StandsLink l t
    → Before l (l.opening).settings t a
before l t a is h =
    let at : agreed (l.opening).settings t ≡ Some a = sym (h.follows).agreement_is ∙ is in
    let by : StandsBy l t (Some a) = subst (λ o. StandsBy l t o) at h.machine_is in
    record { agreed_is = at; stands = by.0; law = by.1; faithful = h.faithful }

-- after a call of a link whose ends have not agreed
pub waits : (l : Link) (s : OpenSettings) (t : Trace Entry) (e : Entry) → (l.opening).settings ≡ s
    → Follows l.opening (t ▷ e) → agreed s (t ▷ e) ≡ None
    → Answers s t e → LinkFaithful s t
    → Stands l.core (gives (t ▷ e)) → length (given (t ▷ e)) ≤ QUEUE → IsBytes (given (t ▷ e))
    → StandsLink l (t ▷ e)
waits l s t e same follows is answers before early short good =
    let kept : KeepsMachine s (agreed s (t ▷ e)) (t ▷ e) = subst (λ o. KeepsMachine s o (t ▷ e)) (sym is) (short, good) in
    record {
      follows = follows;
      machine_is = subst (λ o. StandsBy l (t ▷ e) o) (sym (ap (λ x. agreed x (t ▷ e)) same ∙ is)) early;
      faithful = subst (λ x. LinkFaithful x (t ▷ e)) (sym same) (answers, kept, before);
    }

-- ---- tellings that an opening makes owed

pub owes_two : (role : Role) (m : Core) (t : Trace Entry) → role ≡ Client → Stands m (t ▷ Owed 2)
    → Stands m (with_entries t (tellings role))
owes_two role m t is h = subst (λ r. Stands m (with_entries t (tellings r))) (sym is) h

pub owes_none : (role : Role) (m : Core) (t : Trace Entry) → role ≡ Server → Stands m t
    → Stands m (with_entries t (tellings role))
owes_none role m t is h = subst (λ r. Stands m (with_entries t (tellings r))) (sym is) h
