-- What a poll does to the relation between a lossy link and its trace.
use Rattle.std.proofs.Common.{◌≡◌, ℕ, ◌+◌, ◌≤◌, Bool, true, false, nat_lt, max, List, [], ◌∷◌, All, length, drop, if◌then◌else◌, Option, Some, None, is_some, option_map, refl, sym, ap, ◌∙◌, subst, arith, length-drop}
use Rattle.std.specs.Option.{IfSome}
use Rattle.std.proofs.lemmas.Bool.Decides.{nat_tests}
use Rattle.std.proofs.lemmas.List.{drop-drop}
use Rattle.std.proofs.lemmas.List.Elements.{All-append, All-cons, All-drop, All-head, All-nil}
use Rattle.mt_base.specs.Trace.{Trace, Start, ◌▷◌}
use Rattle.mt_windows.specs.declared.limits.TheConstants.{PART}
use Rattle.carrier.specs.declared.state.LinkState.TheVariants.{Closed, Opening}
use Rattle.carrier.specs.declared.state.Reason.TheVariants as reason
use Rattle.carrier.specs.Due.{is_pressing}
use Rattle.carrier.specs.Entries.{Entry, Gave, In, Polled, Pulled, Owed, Posted, Next, moment, posted}
use Rattle.carrier.specs.Law.{IsBytes}
use Rattle.carrier.specs.Layout.{Datagram, Layout, Reading, Refuses, Shows}
use Rattle.carrier.specs.LayoutLaw.{shown_of}
use Rattle.carrier.specs.PerfectThin.{handed}
use Rattle.carrier.specs.Receiving.{is_telling}
use Rattle.udp1_core.specs.FirstLayout.{first_layout, packet_with, shows}
use Rattle.udp1_core.proofs.ReadBack.{IsShort, IsUpto, reads_back}
use Rattle.udp1_packets.specs.Layout.{spelled}
use Rattle.udp_open.specs.declared.settings.OpenSettings.{OpenSettings}
use Rattle.udp_open.specs.declared.agreement.Agreement.{Agreement}
use Rattle.udp_open.specs.Handshake.{agreed, opening_due, row}
use Rattle.udp_open.specs.LinkTrace.{has_syn, layout_by}
use Rattle.udp_open.specs.OpeningView.{Handshake, Follows}
use Rattle.udp_open.proofs.links.Flag.{machine_plain}
use Rattle.udp_open.proofs.links.Opened.{due_has}
use Rattle.mt_base.specs.declared.kinds.Role.{Role}
use Rattle.lossy_mode.specs.Thin.{Got, Thin, bare_meant, carries, datagram_of, first_due, got, may_send, next_load, part_datagram, part_meant, plain, sent, sent_by, tellings, thin_due, unsent}
use Rattle.lossy_mode.specs.LossyView.{Arrivals, HoldsOpen, Holds, Lossy, OpenLink, OwesFor, StandsThin, Tellings, condition_by, sends_part}
use Rattle.lossy_mode.proofs.HeadLemmas.{part_datagram_is, telling_short}
use Rattle.lossy_mode.proofs.SendLemmas.{may_some}

-- ---- what a datagram of this end shows

-- one of the opening shows nothing
pub plain_flagged : (d : List ℕ) (r : Reading) → has_syn d ≡ true → plain d r ≡ Refuses reason.NotOurs
plain_flagged d r e = ap (λ b. if b then Refuses reason.NotOurs else r) e

pub plain_reads : (wait delay own peer : ℕ) (d : Datagram) → IsUpto d.telling → IsShort d.telling → IfSome d.load (λ c. IsBytes c.bytes)
    → plain (spelled (packet_with d)) (shows (spelled (packet_with d))) ≡ Shows (shown_of (first_layout wait delay own peer) d)
plain_reads wait delay own peer d upto short good =
    ap (λ b. if b then Refuses reason.NotOurs else shows (spelled (packet_with d))) (machine_plain d)
    ∙ reads_back wait delay own peer d upto short good

-- ---- what was posted

abbrev pub IsPiece : List ℕ → Type 0
IsPiece bytes = (length bytes ≤ PART) × IsBytes bytes

pub posted_pieces : (s : OpenSettings) (t : Trace Entry) → Thin s t → All IsPiece (posted t)
posted_pieces s Start h = All-nil IsPiece
posted_pieces s (t ▷ Posted bytes) h =
    All-append IsPiece (posted t) (bytes ∷ []) (posted_pieces s t h.1) (All-cons IsPiece bytes [] ((h.0).3, (h.0).4) (All-nil IsPiece))
posted_pieces s (t ▷ In now d took) h = posted_pieces s t h.1
posted_pieces s (t ▷ Polled now out) h = posted_pieces s t h.1
posted_pieces s (t ▷ Next part) h = posted_pieces s t h.1
posted_pieces s (t ▷ Gave bytes) h = absurd h.0
posted_pieces s (t ▷ Pulled room bytes) h = absurd h.0
posted_pieces s (t ▷ Owed count) h = absurd h.0

-- ---- what a datagram of the open link does

pub record Effect (s : OpenSettings) (t : Trace Entry) (now : ℕ) (out : Option (List ℕ)) (sends : Bool) : Type 0 where
  pub sent_is : sent (t ▷ Polled now out) ≡ (if sends then sent t + 1 else sent t)
  pub tellings_is : tellings s (t ▷ Polled now out) ≡ (if is_some out then [] else tellings s t)

-- where none is owed none is told, and where one is it is
pays : (tells : Bool) (owed : List ℕ) → tells ≡ nat_lt 0 (length owed) → (if tells then [] else owed) ≡ []
pays true owed e = refl
pays false [] e = refl
pays false (at ∷ owed) e = absurd (grind (arith, nat_tests))

told_by : (tells : Bool) {A : Type 0} (x : A) (owed : List ℕ) → (if is_some (if tells then Some x else None) then [] else owed) ≡ (if tells then [] else owed)
told_by true x owed = refl
told_by false x owed = refl

module _ (s : OpenSettings) (t : Trace Entry) (now at number : ℕ) (a : Agreement) (g : Got) where
  abbrev lay : Layout
  lay = layout_by s a

  part_effect : (bytes : List ℕ) (out : List ℕ) → IsPiece bytes
      → out ≡ lay.spell (part_datagram lay g (tellings s t) (next_load number bytes)) → Effect s t now (Some out) true
  part_effect bytes out good e =
      let owed = tellings s t in
      let d = part_datagram lay g owed (next_load number bytes) in
      let tells = ap (λ (x : Datagram). x.tells) (part_datagram_is lay.wait lay.delay lay.own lay.peer number g owed bytes good.0) in
      let reads = plain_reads lay.wait lay.delay lay.own lay.peer d tt (telling_short lay.peer g.floor g.numbers) good.1 in
      let shown = ap (λ x. plain x (shows x)) e ∙ reads in
      record {
        sent_is = ap (λ r. if carries r then sent t + 1 else sent t) shown;
        tellings_is = ap (λ r. if is_telling r then [] else owed) shown ∙ told_by d.tells _ owed ∙ pays d.tells owed tells;
      }

  bare_effect : (out : List ℕ) → out ≡ lay.spell (datagram_of lay.peer g true None) → Effect s t now (Some out) false
  bare_effect out e =
      let owed = tellings s t in
      let reads = plain_reads lay.wait lay.delay lay.own lay.peer (datagram_of lay.peer g true None) tt (telling_short lay.peer g.floor g.numbers) tt in
      let shown = ap (λ x. plain x (shows x)) e ∙ reads in
      record {
        sent_is = ap (λ r. if carries r then sent t + 1 else sent t) shown;
        tellings_is = ap (λ r. if is_telling r then [] else owed) shown;
      }

  none_effect : Effect s t now None false
  none_effect = record { sent_is = refl; tellings_is = refl }

  bare_by : (b : Bool) (out : Option (List ℕ))
      → out ≡ option_map lay.spell (if b then Some (datagram_of lay.peer g true None) else None) → Effect s t now out false
  bare_by false out e = subst (λ o. Effect s t now o false) (sym e) none_effect
  bare_by true out e =
      subst (λ o. Effect s t now o false) (sym e) (bare_effect (lay.spell (datagram_of lay.peer g true None)) refl)

  open_by : (b : Bool) (parts : List (List ℕ)) (out : Option (List ℕ)) → may_send parts g.window number ≡ b → All IsPiece parts
      → out ≡ option_map lay.spell (if b then part_meant lay g (tellings s t) number parts else bare_meant lay g (tellings s t) at) → Effect s t now out b
  open_by false parts out may good e = bare_by (is_pressing lay (tellings s t) at) out e
  open_by true [] out may good e = absurd (grind (arith, nat_tests))
  open_by true (bytes ∷ parts) out may good e =
      subst (λ o. Effect s t now o true) (sym e)
      (part_effect bytes (lay.spell (part_datagram lay g (tellings s t) (next_load number bytes))) (All-head IsPiece bytes parts good) refl)

pub effect : (s : OpenSettings) (t : Trace Entry) (now at number : ℕ) (o : Option Agreement) (g : Got) (parts : List (List ℕ)) (out : Option (List ℕ))
    → All IsPiece parts → out ≡ sent_by s o g (tellings s t) number parts at → Effect s t now out (sends_part o parts g.window number)
effect s t now at number None g parts out good e = subst (λ x. Effect s t now x false) (sym e) (record { sent_is = refl; tellings_is = refl })
effect s t now at number (Some a) g parts out good e =
    open_by s t now at number a g (may_send parts g.window number) parts out refl good e

-- ---- a poll

pub record Polls (k old : OpenLink) (now : ℕ) : Type 0 where
  pub moment_is : k.moment ≡ max old.moment now
  pub arrivals_is : k.arrivals ≡ old.arrivals

polled : (o : Handshake) (role : Role) (l : Lossy) (k : OpenLink) (t : Trace Entry) (now : ℕ) (out : Option (List ℕ))
    → o.settings ≡ (l.opening).settings → StandsThin l t → Follows o (t ▷ Polled now out) → Polls k l.link now
    → k.parts ≡ unsent (t ▷ Polled now out) → sent (t ▷ Polled now out) ≤ length (posted t)
    → k.next ≡ ((l.opening).settings).initial + 1 + sent (t ▷ Polled now out)
    → OwesFor k.tellings (tellings (l.opening).settings (t ▷ Polled now out))
    → out ≡ thin_due (l.opening).settings t now
    → StandsThin (record { opening = o; role = role; link = k }) (t ▷ Polled now out)
polled o role l k t now out same h follows kept parts within next owes is =
    let old = h.holds in
    let u = t ▷ Polled now out in
    let own = ((l.opening).settings).initial + 1 in
    let g = got (l.opening).settings t in
    let holds : HoldsOpen k own u g (tellings (l.opening).settings u) = record {
      moment_is = kept.moment_is ∙ ap (λ m. max m now) old.moment_is;
      parts_are = parts;
      sent_within = within;
      next_is = next;
      holds = subst (λ (x : Arrivals). Holds x g (length (handed t))) (sym kept.arrivals_is) old.holds;
      owes = owes;
    } in
    record {
      follows = follows;
      holds = subst (λ (s : OpenSettings). HoldsOpen k (s.initial + 1) u (got s u) (tellings s u)) (sym same) holds;
      thin = subst (λ (s : OpenSettings). Thin s u) (sym same) (is, h.thin);
    }

pub polls_opening : (o : Handshake) (l : Lossy) (k : OpenLink) (t : Trace Entry) (now : ℕ) (out : List ℕ)
    → o.settings ≡ (l.opening).settings → StandsThin l t → Follows o (t ▷ Polled now (Some out))
    → k ≡ record (l.link) { moment = max (l.link).moment now } → Some out ≡ opening_due (l.opening).settings t now
    → StandsThin (record { opening = o; role = l.role; link = k }) (t ▷ Polled now (Some out))
polls_opening o l k t now out same h follows e is =
    let s = (l.opening).settings in
    let old = h.holds in
    let flagged = plain_flagged out (shows out) (due_has s t now out (sym is)) in
    let count : sent (t ▷ Polled now (Some out)) ≡ sent t = ap (λ r. if carries r then sent t + 1 else sent t) flagged in
    let told : tellings s (t ▷ Polled now (Some out)) ≡ tellings s t = ap (λ r. if is_telling r then [] else tellings s t) flagged in
    polled o l.role l k t now (Some out) same h follows
    (record { moment_is = ap (λ (x : OpenLink). x.moment) e; arrivals_is = ap (λ (x : OpenLink). x.arrivals) e })
    (ap (λ (x : OpenLink). x.parts) e ∙ old.parts_are ∙ ap (λ n. drop n (posted t)) (sym count))
    (omega (arith, count, old.sent_within))
    (ap (λ (x : OpenLink). x.next) e ∙ old.next_is ∙ ap (λ n. s.initial + 1 + n) (sym count))
    (subst (λ (x : OpenLink). OwesFor x.tellings (tellings s (t ▷ Polled now (Some out)))) (sym e) (subst (OwesFor (l.link).tellings) (sym told) old.owes))
    (ap (λ x. first_due x (sent_by s (agreed s t) (got s t) (tellings s t) (s.initial + 1 + sent t) (unsent t) (max (moment t) now))) is)

-- the parts left, and their count
left_by : (b : Bool) (ps : List (List ℕ)) (n : ℕ) → (if b then drop 1 (drop n ps) else drop n ps) ≡ drop (if b then n + 1 else n) ps
left_by true ps n = drop-drop 1 n ps
left_by false ps n = refl

count_by : (b : Bool) (own n : ℕ) → (if b then own + n + 1 else own + n) ≡ own + (if b then n + 1 else n)
count_by true own n = omega arith
count_by false own n = refl

within_by : (b : Bool) (ps : List (List ℕ)) (n window number : ℕ) → n ≤ length ps → (b ≡ true → may_send (drop n ps) window number ≡ true)
    → (if b then n + 1 else n) ≤ length ps
within_by false ps n window number h may = h
within_by true ps n window number h may =
    let some = may_some (drop n ps) window number (may refl) in
    omega (arith, some, length-drop n ps, h)

sends_may : (o : Option Agreement) (parts : List (List ℕ)) (window number : ℕ) → sends_part o parts window number ≡ true → may_send parts window number ≡ true
sends_may None parts window number h = cc
sends_may (Some a) parts window number h = h

-- what is sent from here leaves this
pub record Sending (s : OpenSettings) (a : Option Agreement) (p k : OpenLink) (out : Option (List ℕ)) : Type 0 where
  pub moment_is : k.moment ≡ p.moment
  pub arrivals_is : k.arrivals ≡ p.arrivals
  pub bytes : (g : Got) (n : ℕ) (owed : List ℕ) → Holds p.arrivals g n → OwesFor p.tellings owed → out ≡ sent_by s a g owed p.next p.parts p.moment
  pub parts : k.parts ≡ (if sends_part a p.parts (p.arrivals).window p.next then drop 1 p.parts else p.parts)
  pub next : k.next ≡ (if sends_part a p.parts (p.arrivals).window p.next then p.next + 1 else p.next)
  pub owes : (owed : List ℕ) → OwesFor p.tellings owed → OwesFor k.tellings (if is_some out then [] else owed)

pub polls_link : (o : Handshake) (role : Role) (l : Lossy) (k : OpenLink) (t : Trace Entry) (now : ℕ) (out : Option (List ℕ))
    → o.settings ≡ (l.opening).settings → StandsThin l t → Follows o (t ▷ Polled now out)
    → None ≡ opening_due (l.opening).settings t now
    → Sending (l.opening).settings (agreed (l.opening).settings t) (record (l.link) { moment = max (l.link).moment now }) k out
    → StandsThin (record { opening = o; role = role; link = k }) (t ▷ Polled now out)
polls_link o role l k t now out same h follows none x =
    let s = (l.opening).settings in
    let old = h.holds in
    let own = s.initial + 1 in
    let g = got s t in
    let owed = tellings s t in
    let agreement = agreed s t in
    let at = max (moment t) now in
    let sends : sends_part agreement (l.link).parts ((l.link).arrivals).window (l.link).next ≡ sends_part agreement (unsent t) g.window (own + sent t) =
    ap (λ ps. sends_part agreement ps ((l.link).arrivals).window (l.link).next) old.parts_are
    ∙ ap (λ w. sends_part agreement (unsent t) w (l.link).next) (old.holds).window_is
    ∙ ap (sends_part agreement (unsent t) g.window) old.next_is in
    let is : out ≡ sent_by s agreement g owed (own + sent t) (unsent t) at =
    x.bytes g (length (handed t)) owed old.holds old.owes
    ∙ ap (λ n. sent_by s agreement g owed n (l.link).parts (max (l.link).moment now)) old.next_is
    ∙ ap (λ ps. sent_by s agreement g owed (own + sent t) ps (max (l.link).moment now)) old.parts_are
    ∙ ap (λ m. sent_by s agreement g owed (own + sent t) (unsent t) (max m now)) old.moment_is in
    let pieces = All-drop IsPiece (sent t) (posted t) (posted_pieces s t h.thin) in
    let e = effect s t now at (own + sent t) agreement g (unsent t) out pieces is in
    let b = sends_part agreement (unsent t) g.window (own + sent t) in
    polled o role l k t now out same h follows (record { moment_is = x.moment_is; arrivals_is = x.arrivals_is })
    (x.parts ∙ ap (λ y. if y then drop 1 (l.link).parts else (l.link).parts) sends ∙ ap (λ ps. if b then drop 1 ps else ps) old.parts_are
    ∙ left_by b (posted t) (sent t) ∙ ap (λ n. drop n (posted t)) (sym e.sent_is))
    (subst (λ n. n ≤ length (posted t)) (sym e.sent_is) (within_by b (posted t) (sent t) g.window (own + sent t) old.sent_within (sends_may agreement (unsent t) g.window (own + sent t))))
    (x.next ∙ ap (λ y. if y then (l.link).next + 1 else (l.link).next) sends ∙ ap (λ n. if b then n + 1 else n) old.next_is
    ∙ count_by b own (sent t) ∙ ap (λ n. own + n) (sym e.sent_is))
    (subst (OwesFor k.tellings) (sym e.tellings_is) (x.owes owed old.owes))
    (is ∙ ap (λ y. first_due y (sent_by s agreement g owed (own + sent t) (unsent t) at)) none)

-- ---- a closed link

condition_timer : (q i : Handshake) (a : Option Agreement) → q.timer ≡ i.timer → condition_by q a ≡ condition_by i a
condition_timer q i None e = ap (λ c. if nat_lt 16 (row c) then Closed (row c) else Opening) e
condition_timer q i (Some a) e = refl

pub condition_same : (q i : Handshake) → q.agreement ≡ i.agreement → q.timer ≡ i.timer → condition_by q q.agreement ≡ condition_by i i.agreement
condition_same q i e f = ap (condition_by q) e ∙ condition_timer q i i.agreement f

pub closed_at : (o : Handshake) (a : Option Agreement) (e : ℕ) → condition_by o a ≡ Closed e → (a ≡ None) × (nat_lt 16 (row o.timer) ≡ true)
closed_at o None e h = (refl, over (nat_lt 16 (row o.timer)) (row o.timer) h)
  where
    over : (b : Bool) (n : ℕ) → (if b then Closed n else Opening) ≡ Closed e → b ≡ true
    over true n h = refl
    over false n h = cc
closed_at o (Some a) e h = cc

-- a datagram is there where its length is
pub owes_out : (w : Tellings) (owed : List ℕ) (f : ℕ → List ℕ) (o : Option ℕ) → OwesFor w (if is_some o then [] else owed)
    → OwesFor w (if is_some (option_map f o) then [] else owed)
owes_out w owed f None h = h
owes_out w owed f (Some n) h = h
