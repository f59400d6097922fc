-- What each call does to the relation between a lossy link and its trace.
use Rattle.std.proofs.Common.{◌≡◌, ℕ, ◌+◌, ◌≤◌, ◌<◌, Bool, true, false, ◌&&◌, nat_lt, max, List, [], ◌∷◌, ◌++◌, length, replicate, if◌then◌else◌, Option, Some, None, is_some, Result, Ok, Err, refl, sym, ap, ◌∙◌, subst, arith, length-append}
use Rattle.std.proofs.lemmas.List.{drop-append-le}
use Rattle.std.proofs.lemmas.List.Elements.{All-nil}
use Rattle.mt_base.specs.declared.kinds.Role.{Role}
use Rattle.mt_base.specs.declared.kinds.Role.TheVariants.{Server, Client}
use Rattle.mt_base.specs.Trace.{Trace, Start, ◌▷◌}
use Rattle.mt_windows.specs.declared.limits.TheConstants.{DATAGRAM, PART, WINDOW}
use Rattle.carrier.specs.declared.state.Took.{Took}
use Rattle.carrier.specs.declared.state.Took.TheVariants.{Used, Ignored}
use Rattle.carrier.specs.declared.state.LinkState.TheVariants.{Closed, Opening}
use Rattle.carrier.specs.declared.state.Reason.{Reason}
use Rattle.carrier.specs.declared.state.Reason.TheVariants as reason
use Rattle.carrier.specs.Entries.{Entry, Gave, In, Polled, Pulled, Owed, Posted, Next, moment, posted}
use Rattle.carrier.specs.Law.{IsBytes}
use Rattle.carrier.specs.Layout.{Reading, Refuses, Shows}
use Rattle.carrier.specs.PerfectThin.{first_part, handed}
use Rattle.carrier.specs.Receiving.{has_effect, reading}
use Rattle.udp1_core.specs.FirstLayout.{shows}
use Rattle.udp_open.specs.declared.settings.OpenSettings.{OpenSettings}
use Rattle.udp_open.specs.declared.agreement.Agreement.{Agreement}
use Rattle.udp_open.specs.declared.opening.OpenEnd.TheVariants.{Agreed}
use Rattle.udp_open.specs.declared.timer.Timer.{Timer}
use Rattle.udp_open.specs.Handshake.{agreed, agreed_by, hears, is_asking, is_closed, is_time, opening_answered, owed, row, shown, timer, timer_by, took_by}
use Rattle.udp_open.proofs.Heard.{Deaf, deaf}
use Rattle.udp_open.proofs.LinkLemmas.{no_opening, passes_in}
use Rattle.udp_open.specs.LinkTrace.{has_syn, layout_by}
use Rattle.udp_open.specs.OpeningView.{Handshake, Follows, end_of}
use Rattle.lossy_mode.specs.Thin.{Got, Thin, answer_reading, answered_by, got, got_by, owes, plain, sent, tellings, thin_answered, waiting, waiting_in, with_reading}
use Rattle.lossy_mode.specs.LossyView.{Arrivals, HoldsOpen, Holds, Lossy, OpenLink, OwesFor, StandsThin, condition_by, count_of, owed_by, read_of}

-- ---- parts that are posted and handed out

follows_posted : (o : Handshake) (t : Trace Entry) (bytes : List ℕ) → Follows o t → Follows o (t ▷ Posted bytes)
follows_posted o t bytes h = record {
  moment_is = h.moment_is;
  agreement_is = h.agreement_is;
  owed_is = h.owed_is;
  timer_is = h.timer_is;
}

follows_next : (o : Handshake) (t : Trace Entry) (part : Option (List ℕ)) → Follows o t → Follows o (t ▷ Next part)
follows_next o t part h = record {
  moment_is = h.moment_is;
  agreement_is = h.agreement_is;
  owed_is = h.owed_is;
  timer_is = h.timer_is;
}

pub posts : (l : Lossy) (k : OpenLink) (t : Trace Entry) (bytes : List ℕ) → StandsThin l t
    → k ≡ record (l.link) { parts = (l.link).parts ++ bytes ∷ [] }
    → is_closed (l.opening).settings t ≡ false → length (l.link).parts < WINDOW → 1 ≤ length bytes → length bytes ≤ PART → IsBytes bytes
    → StandsThin (record l { link = k }) (t ▷ Posted bytes)
posts l k t bytes h e alive room some short good =
    let own = ((l.opening).settings).initial + 1 in
    let g = got (l.opening).settings t in
    let owed = tellings (l.opening).settings t in
    let old = h.holds in
    let next : HoldsOpen (record (l.link) { parts = (l.link).parts ++ bytes ∷ [] }) own (t ▷ Posted bytes) g owed = record {
      moment_is = old.moment_is;
      parts_are = ap (λ ps. ps ++ bytes ∷ []) old.parts_are ∙ sym (drop-append-le (sent t) (posted t) (bytes ∷ []) old.sent_within);
      sent_within = omega (arith, old.sent_within, length-append (posted t) (bytes ∷ []));
      next_is = old.next_is;
      holds = old.holds;
      owes = old.owes;
    } in
    record {
      follows = follows_posted l.opening t bytes h.follows;
      holds = subst (λ (s : OpenLink). HoldsOpen s own (t ▷ Posted bytes) g owed) (sym e) next;
      thin = ((alive, omega (arith, room, ap length old.parts_are), some, short, good), h.thin);
    }

-- how many were handed out
handed_more : (t : Trace Entry) (part : Option (List ℕ)) → (if is_some part then length (handed t) + 1 else length (handed t)) ≡ length (handed (t ▷ Next part))
handed_more t None = refl
handed_more t (Some bytes) = sym (length-append (handed t) (bytes ∷ []))

pub hands_out : (l : Lossy) (k : OpenLink) (a : Arrivals) (t : Trace Entry) (part : Option (List ℕ)) → StandsThin l t
    → k ≡ record (l.link) { arrivals = a }
    → ((g : Got) (n : ℕ) → Holds (l.link).arrivals g n → Holds a g (if is_some part then n + 1 else n))
    → part ≡ first_part ((l.link).arrivals).parts
    → StandsThin (record l { link = k }) (t ▷ Next part)
hands_out l k a t part h e holds is =
    let own = ((l.opening).settings).initial + 1 in
    let g = got (l.opening).settings t in
    let owed = tellings (l.opening).settings t in
    let old = h.holds in
    let next : HoldsOpen (record (l.link) { arrivals = a }) own (t ▷ Next part) g owed = record {
      moment_is = old.moment_is;
      parts_are = old.parts_are;
      sent_within = old.sent_within;
      next_is = old.next_is;
      holds = subst (Holds a g) (handed_more t part) (holds g (length (handed t)) old.holds);
      owes = old.owes;
    } in
    record {
      follows = follows_next l.opening t part h.follows;
      holds = subst (λ (s : OpenLink). HoldsOpen s own (t ▷ Next part) g owed) (sym e) next;
      thin = (is ∙ ap first_part (old.holds).parts_are, h.thin);
    }

-- ---- datagrams that come

-- what is kept after a datagram, where this came then and so many tellings are owed
pub record Kept (k : OpenLink) (old : OpenLink) (now : ℕ) : Type 0 where
  pub moment_is : k.moment ≡ max old.moment now
  pub parts_is : k.parts ≡ old.parts
  pub next_is : k.next ≡ old.next

pub comes : (o : Handshake) (role : Role) (l : Lossy) (k : OpenLink) (t : Trace Entry) (now : ℕ) (d : List ℕ) (took : Took)
    → o.settings ≡ (l.opening).settings → StandsThin l t → Follows o (t ▷ In now d took) → Kept k l.link now
    → Holds k.arrivals (got (l.opening).settings (t ▷ In now d took)) (length (handed t))
    → OwesFor k.tellings (tellings (l.opening).settings (t ▷ In now d took))
    → took ≡ thin_answered (l.opening).settings t d
    → StandsThin (record { opening = o; role = role; link = k }) (t ▷ In now d took)
comes o role l k t now d took same h follows kept holds owes is =
    let old = h.holds in
    record {
      follows = follows;
      holds = record {
        moment_is = kept.moment_is ∙ ap (λ m. max m now) old.moment_is;
        parts_are = kept.parts_is ∙ old.parts_are;
        sent_within = old.sent_within;
        next_is = kept.next_is ∙ old.next_is ∙ ap (λ (s : OpenSettings). s.initial + 1 + sent t) (sym same);
        holds = subst (λ (s : OpenSettings). Holds k.arrivals (got s (t ▷ In now d took)) (length (handed t))) (sym same) holds;
        owes = subst (λ (s : OpenSettings). OwesFor k.tellings (tellings s (t ▷ In now d took))) (sym same) owes;
      };
      thin = subst (λ (s : OpenSettings). Thin s (t ▷ In now d took)) (sym same) (is, h.thin);
    }

-- a datagram of the opening: while the link opens, or with its flag
pub data IsOpening (o : Option Agreement) (d : List ℕ) : Type 0 where
  opens : o ≡ None → IsOpening o d
  flagged : has_syn d ≡ true → IsOpening o d

opening_got : (s : OpenSettings) (o : Option Agreement) (n : ℕ) (d : List ℕ) (g : Got) → IsOpening o d → got_by s o n d g ≡ g
opening_got s o n d g (opens e) = ap (λ a. got_by s a n d g) e
opening_got s None n d g (flagged e) = refl
opening_got s (Some a) n d g (flagged e) =
    ap (λ b. with_reading (a.peer_initial + 1) (length (waiting_in g n)) (if b then Refuses reason.NotOurs else reading (layout_by s a) d) g) e

opening_answer : (s : OpenSettings) (t : Trace Entry) (o : Option Agreement) (d : List ℕ) → IsOpening o d → opening_answered s t d ≡ answered_by s t o d
opening_answer s t o d (opens e) = sym (ap (λ a. answered_by s t a d) e)
opening_answer s t None d (flagged e) = refl
opening_answer s t (Some a) d (flagged e) = sym (ap (λ b. if b then opening_answered s t d else answer_reading (a.peer_initial + 1) (got s t) (length (waiting s t)) (reading (layout_by s a) d)) e)

-- the tellings that it makes owed
opening_owes : (s : OpenSettings) (t : Trace Entry) (now at : ℕ) (d : List ℕ) (took : Took) → at ≡ max (moment t) now
    → (took ≡ Used → has_syn d ≡ true)
    → owed_by took (owes s.role (Refuses reason.NotOurs)) at (tellings s t) ≡ tellings s (t ▷ In now d took)
opening_owes s t now at d (Ignored why) e flag = refl
opening_owes s t now at d Used e flag =
    ap (λ b. tellings s t ++ replicate (owes s.role (if b then Refuses reason.NotOurs else shows d)) at) (sym (flag refl))
    ∙ ap (λ m. tellings s t ++ replicate (owes s.role (plain d (shows d))) m) e

pub hears_opening : (o : Handshake) (role : Role) (l : Lossy) (k : OpenLink) (t : Trace Entry) (now : ℕ) (d : List ℕ) (took : Took)
    → o.settings ≡ (l.opening).settings → StandsThin l t → Follows o (t ▷ In now d took)
    → k ≡ record (l.link) { moment = max (l.link).moment now; tellings = k.tellings }
    → OwesFor k.tellings (owed_by took (owes ((l.opening).settings).role (Refuses reason.NotOurs)) (max (l.link).moment now) (tellings (l.opening).settings t))
    → IsOpening (agreed (l.opening).settings t) d → (took ≡ Used → has_syn d ≡ true)
    → took ≡ opening_answered (l.opening).settings t d
    → StandsThin (record { opening = o; role = role; link = k }) (t ▷ In now d took)
hears_opening o role l k t now d took same h follows e owing kind flag is =
    let s = (l.opening).settings in
    let old = h.holds in
    let kept : Kept k l.link now = record {
      moment_is = ap (λ (x : OpenLink). x.moment) e;
      parts_is = ap (λ (x : OpenLink). x.parts) e;
      next_is = ap (λ (x : OpenLink). x.next) e;
    } in
    comes o role l k t now d took same h follows kept
    (subst (λ (g : Got). Holds k.arrivals g (length (handed t))) (sym (opening_got s (agreed s t) (length (handed t)) d (got s t) kind))
    (subst (λ (x : OpenLink). Holds x.arrivals (got s t) (length (handed t))) (sym e) old.holds))
    (subst (OwesFor k.tellings) (opening_owes s t now (max (l.link).moment now) d took (ap (λ m. max m now) old.moment_is) flag) owing)
    (is ∙ opening_answer s t (agreed s t) d kind)

-- a datagram of the open link
open_got : (s : OpenSettings) (a : Agreement) (n : ℕ) (d : List ℕ) (g : Got) → has_syn d ≡ false
    → with_reading (a.peer_initial + 1) (length (waiting_in g n)) (read_of d) g ≡ got_by s (Some a) n d g
open_got s a n d g e =
    sym (ap (λ b. with_reading (a.peer_initial + 1) (length (waiting_in g n)) (if b then Refuses reason.NotOurs else read_of d) g) e)

open_answer : (s : OpenSettings) (t : Trace Entry) (a : Agreement) (d : List ℕ) → has_syn d ≡ false
    → answer_reading (a.peer_initial + 1) (got s t) (length (waiting s t)) (read_of d) ≡ answered_by s t (Some a) d
open_answer s t a d e =
    sym (ap (λ b. if b then opening_answered s t d else answer_reading (a.peer_initial + 1) (got s t) (length (waiting s t)) (read_of d)) e)

-- what a datagram that was used makes owed by its part
count_owes : (role : Role) (r : Reading) (peer waiting : ℕ) (g : Got) → Used ≡ answer_reading peer g waiting r → count_of r ≡ owes role r
count_owes role (Refuses why) peer waiting g is = cc
count_owes Server (Shows shown) peer waiting g is = refl
count_owes Client (Shows shown) peer waiting g is = refl

read_short : (long : Bool) (role : Role) (r : Reading) (peer waiting : ℕ) (g : Got)
    → Used ≡ answer_reading peer g waiting (if long then Refuses reason.TooLong else r)
    → count_of (if long then Refuses reason.TooLong else r) ≡ owes role r
read_short true role r peer waiting g is = cc
read_short false role r peer waiting g is = count_owes role r peer waiting g is

open_owes : (s : OpenSettings) (t : Trace Entry) (now at peer waiting : ℕ) (g : Got) (d : List ℕ) (took : Took) → at ≡ max (moment t) now
    → has_syn d ≡ false → took ≡ answer_reading peer g waiting (read_of d)
    → owed_by took (count_of (read_of d)) at (tellings s t) ≡ tellings s (t ▷ In now d took)
open_owes s t now at peer waiting g d (Ignored why) e flag is = refl
open_owes s t now at peer waiting g d Used e flag is =
    ap (λ n. tellings s t ++ replicate n at) (read_short (nat_lt DATAGRAM (length d)) s.role (shows d) peer waiting g is)
    ∙ ap (λ b. tellings s t ++ replicate (owes s.role (if b then Refuses reason.NotOurs else shows d)) at) (sym flag)
    ∙ ap (λ m. tellings s t ++ replicate (owes s.role (plain d (shows d))) m) e

-- what is taken from here leaves this
pub record Taking (p k : OpenLink) (peer : ℕ) (d : List ℕ) (took : Took) : Type 0 where
  pub moment_is : k.moment ≡ p.moment
  pub parts_is : k.parts ≡ p.parts
  pub next_is : k.next ≡ p.next
  pub holds : (g : Got) (n : ℕ) → Holds p.arrivals g n → Holds k.arrivals (with_reading peer (length (waiting_in g n)) (read_of d) g) n
  pub owes : (owed : List ℕ) → OwesFor p.tellings owed → OwesFor k.tellings (owed_by took (count_of (read_of d)) p.moment owed)
  pub answers : (g : Got) (n : ℕ) → Holds p.arrivals g n → took ≡ answer_reading peer g (length (waiting_in g n)) (read_of d)

pub takes_open : (o : Handshake) (role : Role) (l : Lossy) (k : OpenLink) (t : Trace Entry) (now : ℕ) (d : List ℕ) (took : Took) (a : Agreement)
    → o.settings ≡ (l.opening).settings → StandsThin l t → Follows o (t ▷ In now d took)
    → Taking (record (l.link) { moment = max (l.link).moment now }) k (a.peer_initial + 1) d took
    → agreed (l.opening).settings t ≡ Some a → has_syn d ≡ false
    → StandsThin (record { opening = o; role = role; link = k }) (t ▷ In now d took)
takes_open o role l k t now d took a same h follows x agrees flag =
    let s = (l.opening).settings in
    let n = length (handed t) in
    let old = h.holds in
    let answer = x.answers (got s t) n old.holds in
    comes o role l k t now d took same h follows (record { moment_is = x.moment_is; parts_is = x.parts_is; next_is = x.next_is })
    (subst (λ (g : Got). Holds k.arrivals g n) (open_got s a n d (got s t) flag ∙ ap (λ b. got_by s b n d (got s t)) (sym agrees)) (x.holds (got s t) n old.holds))
    (subst (OwesFor k.tellings) (open_owes s t now (max (l.link).moment now) (a.peer_initial + 1) (length (waiting_in (got s t) n)) (got s t) d took (ap (λ m. max m now) old.moment_is) flag answer) (x.owes (tellings s t) old.owes))
    (answer ∙ open_answer s t a d flag ∙ ap (λ b. answered_by s t b d) (sym agrees))

-- ---- the time of the opening

-- what an opening made of a datagram that is none of its own it makes of every other such datagram
pub passes : (o old : Handshake) (t : Trace Entry) (now : ℕ) (d : List ℕ) (first took : Took) → o.settings ≡ old.settings
    → IsBytes d → has_syn d ≡ false → Follows old t → Follows o (t ▷ In now [] first) → Follows o (t ▷ In now d took)
passes o old t now d first took same good flag before h =
    let none = passes_in old t now [] first (All-nil (λ b. b < 256)) refl before in
    let one = passes_in old t now d took good flag before in
    record {
      moment_is = h.moment_is;
      agreement_is = h.agreement_is ∙ ap (λ (s : OpenSettings). agreed s (t ▷ In now [] first)) same ∙ sym none.agreement_is
          ∙ one.agreement_is ∙ ap (λ (s : OpenSettings). agreed s (t ▷ In now d took)) (sym same);
      owed_is = h.owed_is ∙ ap (λ (s : OpenSettings). owed s (t ▷ In now [] first)) same ∙ sym none.owed_is
          ∙ one.owed_is ∙ ap (λ (s : OpenSettings). owed s (t ▷ In now d took)) (sym same);
      timer_is = h.timer_is ∙ ap (λ (s : OpenSettings). timer s (t ▷ In now [] first)) same ∙ sym none.timer_is
          ∙ one.timer_is ∙ ap (λ (s : OpenSettings). timer s (t ▷ In now d took)) (sym same);
    }

-- a datagram that an opening uses while it waits is one of its own
pub used_flag : (s : OpenSettings) (t : Trace Entry) (d : List ℕ) → IsBytes d → Used ≡ opening_answered s t d → has_syn d ≡ true
used_flag s t d good is = by_flag (has_syn d) refl
  where
    unused : (r : Result Agreement Reason) (closed : Bool) → Deaf r → Used ≡ (if closed then Ignored reason.LinkClosed else took_by r) → ⊥
    unused (Ok a) closed deaf e = deaf
    unused (Err why) true deaf e = cc
    unused (Err why) false deaf e = cc

    by_flag : (b : Bool) → has_syn d ≡ b → has_syn d ≡ true
    by_flag true e = e
    by_flag false e = absurd (unused (hears s (agreed s t) (shown d)) (is_closed s t) (deaf s (agreed s t) (shown d) (no_opening d good e)) is)

-- what an opening hears from here leaves this
pub record Hearing (x n : Lossy) (now : ℕ) (d : List ℕ) (took : Took) : Type 0 where
  pub answer : (t : Trace Entry) → Follows x.opening t → took ≡ opening_answered (x.opening).settings t d
  pub follows : (t : Trace Entry) → Follows x.opening t → Follows n.opening (t ▷ In now d took)
  pub owing : (owed : List ℕ) → OwesFor (x.link).tellings owed → OwesFor (n.link).tellings (owed_by took (owes ((x.opening).settings).role (Refuses reason.NotOurs)) (x.link).moment owed)
  pub settings : (n.opening).settings ≡ (x.opening).settings
  pub link : n.link ≡ record (x.link) { tellings = (n.link).tellings }

pub hears_link : (l n : Lossy) (t : Trace Entry) (now : ℕ) (d : List ℕ) (took : Took) → StandsThin l t → IsBytes d
    → Hearing (record l { link = record (l.link) { moment = max (l.link).moment now } }) n now d took
    → IsOpening (agreed (l.opening).settings t) d → StandsThin n (t ▷ In now d took)
hears_link l n t now d took h good x kind =
    let is = x.answer t h.follows in
    hears_opening n.opening n.role l n.link t now d took x.settings h (x.follows t h.follows) x.link (x.owing (tellings (l.opening).settings t) (h.holds).owes) kind
    (λ used. used_flag (l.opening).settings t d good (sym used ∙ is)) is

-- ---- what is agreed on

pub agreed_at : (o : Option Agreement) (v p : ℕ) → end_of o ≡ Agreed v p → (a : Agreement) × (o ≡ Some a) × (a.peer_initial ≡ p) × (a.version ≡ v)
agreed_at None v p h = cc
agreed_at (Some a) v p h = (a, refl, cc, cc)

-- the timer of an opening stands where the ends agreed
heard_timer : (b : Bool) (o : Option Agreement) (clock : Option Timer) (r : Result Agreement Reason) (a : Agreement)
    → ((x : Agreement) → o ≡ Some x → clock ≡ None) → (if b then agreed_by o r else o) ≡ Some a → (if b then timer_by clock r else clock) ≡ None
heard_timer false o clock r a old h = old a h
heard_timer true o clock (Ok x) a old h = refl
heard_timer true o clock (Err why) a old h = old a h

asked_timer : (role : Role) (o : Option Agreement) (a : Agreement) (b : Bool) (one two : Option Timer) → o ≡ Some a → (if is_asking role o && b then one else two) ≡ two
asked_timer Server o a b one two h = refl
asked_timer Client o a b one two h = ap (λ x. if is_asking Client x && b then one else two) h

open_timer : (s : OpenSettings) (t : Trace Entry) (a : Agreement) → agreed s t ≡ Some a → timer s t ≡ None
open_timer s Start a h = cc
open_timer s (t ▷ In now d took) a h =
    heard_timer (has_effect took) (agreed s t) (timer s t) (hears s (agreed s t) (shown d)) a (λ x e. open_timer s t x e) h
open_timer s (t ▷ Polled now out) a h =
    asked_timer s.role (agreed s t) a (is_time (timer s t) (max (moment t) now)) _ (timer s t) h ∙ open_timer s t a h
open_timer s (t ▷ Gave bytes) a h = open_timer s t a h
open_timer s (t ▷ Pulled room bytes) a h = open_timer s t a h
open_timer s (t ▷ Owed count) a h = open_timer s t a h
open_timer s (t ▷ Posted bytes) a h = open_timer s t a h
open_timer s (t ▷ Next part) a h = open_timer s t a h

pub stays_alive : (o : Handshake) (t : Trace Entry) → Follows o t → ((e : ℕ) → condition_by o o.agreement ≡ Closed e → ⊥) → is_closed o.settings t ≡ false
stays_alive o t h alive = by_end o.agreement refl
  where
    over : (b : Bool) → nat_lt 16 (row o.timer) ≡ b → (if nat_lt 16 (row o.timer) then Closed (row o.timer) else Opening) ≡ (if b then Closed (row o.timer) else Opening)
    over b e = ap (λ x. if x then Closed (row o.timer) else Opening) e

    waits : o.agreement ≡ None → (b : Bool) → nat_lt 16 (row o.timer) ≡ b → nat_lt 16 (row o.timer) ≡ false
    waits e true is = absurd (alive (row o.timer) (ap (condition_by o) e ∙ over true is))
    waits e false is = is

    by_end : (a : Option Agreement) → o.agreement ≡ a → is_closed o.settings t ≡ false
    by_end None e = ap (λ c. nat_lt 16 (row c)) (sym h.timer_is) ∙ waits e (nat_lt 16 (row o.timer)) refl
    by_end (Some a) e = ap (λ c. nat_lt 16 (row c)) (open_timer o.settings t a (sym h.agreement_is ∙ e))
