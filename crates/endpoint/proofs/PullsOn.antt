-- An end on its way through what its reliable link has: how its loop over pulls goes on, and how it ends.
use Rattle.std.proofs.Common.{◌≡◌, inl, inr, ℕ, ◌+◌, ◌<◌, ◌≤◌, Bool, true, false, cond, not, ◌&&◌, ◌||◌, is_some, List, [], ◌++◌, length, drop, Option, Some, None, refl, sym, ap, subst, ◌∙◌, arith, append_assoc, length-append}
use Rattle.std.specs.List.{flat_map}
use Rattle.std.proofs.Math.Seq.{drop-length}
use Rattle.std.proofs.lemmas.List.{append_cancel_left, drop-drop}
use Rattle.mt_base.specs.declared.kinds.Kind.{Kind}
use Rattle.mt_base.specs.declared.kinds.Kind.TheVariants.{Reliable, Lossy}
use Rattle.mt_base.specs.declared.kinds.Role.{Role}
use Rattle.mt_base.specs.Trace.{Trace, Start, ◌▷◌}
use Rattle.carrier.specs.declared.state.LinkState.{LinkState}
use Rattle.carrier.specs.Entries as link
use Rattle.mt_endpoint.specs.Acts.{Act, Drawn}
use Rattle.mt_endpoint.specs.Writing.{carried, tunneled}
use Rattle.end_calls.specs.declared.fault.Fault.{Fault}
use Rattle.end_calls.specs.declared.fault.Fault.TheVariants as fault
use Rattle.end_calls.specs.Calls.{Pull, after_pulls, lacking}
use Rattle.end_calls.specs.Law.{IsFront, IsLinkLack, Pulls}
use Rattle.end_calls.specs.Links.{by_pulls, gives_joined}
use Rattle.end_calls.specs.Stops.{AreNext, IsDone, Outset, is_empty, is_link_stopped, is_short, is_start, pulled_bytes, room_next, wants}
use Rattle.end_calls.specs.Streams.{Past, is_broken, written}
use Rattle.end_calls.proofs.Onward.{front_then, goes_pulls, goes_run}
use Rattle.end_session.specs.Standing.{Gone, Stands}
use Rattle.end_reader.specs.declared.reader.Reader.{Reader}
use Rattle.endpoint.specs.MainRead.{begins_with}
use Rattle.endpoint.specs.OnWay.{LinkOn, OnWay}
use Rattle.endpoint.specs.Pulled.{AllPulled, IsAt, IsReadLack, OnePull, pulled_by}
use Rattle.endpoint.proofs.GoingOn.{load_both}
use Rattle.endpoint.proofs.PullActs.{behind_lack}
use Rattle.endpoint.proofs.PullRead.{written_on}

-- the end behind these pulls
abbrev pub WayPulled : {L : Type 0} → (L → Trace link.Entry → Type 0) → (L → List ℕ) → (L → LinkState) → (L → ℕ) → List ℕ → List ℕ → Role → Past → Trace link.Entry → ℕ → Trace Pull → Option (Trace Act) → Reader → L → Type 0
WayPulled stands left condition load unread sent role p l queued pulls lack r c =
    OnWay stands left condition load (drop (length (pulled_bytes pulls)) unread) sent role (pulled_by role p pulls lack) (by_pulls Reliable role p pulls lack l)
    (queued + length (flat_map tunneled (written Reliable role p (pulled_by role p pulls lack)))) r (Some c)

-- whether nothing more is pulled behind these pulls, for a stop
abbrev pub halts : Role → Outset → Trace Pull → Past → Bool
halts role outset pulls q = is_broken q || ((is_start pulls || is_empty q.tunnel.bytes) && is_link_stopped role outset q)

-- so much was pulled and read, the last time as much as was wanted, or less
pub record Pulling {L : Type 0} (stands : L → Trace link.Entry → Type 0) (left : L → List ℕ) (condition : L → LinkState) (load : L → ℕ) (unread sent : List ℕ) (role : Role) (p : Past) (l : Trace link.Entry) (queued : ℕ) (is_whole : Bool) (r : Reader) (c : L) : Type 0 where
  pub pulls : Trace Pull
  pub lack : Option (Trace Act)
  pub next : AreNext role (begins_with sent queued p) unread pulls
  pub lacks : IsLinkLack role p pulls Start lack
  pub way : WayPulled stands left condition load unread sent role p l queued pulls lack r c
  pub none_lossy : written Lossy role p (pulled_by role p pulls lack) ≡ []
  pub none_called : (m : Trace link.Entry) → by_pulls Lossy role p pulls lack m ≡ m
  pub short : is_short pulls ≡ not is_whole
  pub looks : lack ≡ None → halts role (begins_with sent queued p) pulls (after_pulls role p pulls) ≡ is_link_stopped role (begins_with sent queued p) (after_pulls role p pulls)

-- ---- at the beginning

none_written : (kind : Kind) (role : Role) (p : Past) → written kind role p p ≡ []
none_written kind role p = drop-length (carried kind role p.acts)

same_load : (role : Role) (p : Past) (queued : ℕ) → queued + length (flat_map tunneled (written Reliable role p p)) ≡ queued
same_load role p queued = omega (arith, ap (λ ds. length (flat_map tunneled ds)) (none_written Reliable role p))

broken_or : (role : Role) (outset : Outset) (q : Past) → is_broken q || is_link_stopped role outset q ≡ is_link_stopped role outset q
broken_or role outset q = by_broken q.broken refl where
  by_broken : (o : Option Fault) → q.broken ≡ o → is_broken q || is_link_stopped role outset q ≡ is_link_stopped role outset q
  by_broken None e = ap (λ (o : Option Fault). is_some o || is_link_stopped role outset q) e
  by_broken (Some why) e = ap (λ (o : Option Fault). is_some o || is_link_stopped role outset q) e ∙ sym (ap (λ (o : Option Fault). is_link_stopped role outset (record q { broken = o })) e)

pub pulling_first : {L : Type 0} (stands : L → Trace link.Entry → Type 0) (left : L → List ℕ) (condition : L → LinkState) (load : L → ℕ) (unread sent : List ℕ) (role : Role) (p : Past) (l : Trace link.Entry) (queued : ℕ) (r : Reader) (c : L)
    → OnWay stands left condition load unread sent role p l queued r (Some c) → Pulling stands left condition load unread sent role p l queued true r c
pulling_first stands left condition load unread sent role p l queued r c way = record {
  pulls = Start;
  lack = None;
  next = tt;
  lacks = tt;
  way = subst (λ n. OnWay stands left condition load unread sent role p l n r (Some c)) (sym (same_load role p queued)) way;
  none_lossy = none_written Lossy role p;
  none_called = λ m. refl;
  short = refl;
  looks = λ none. broken_or role (begins_with sent queued p) p;
}

-- ---- where the stop is looked for

pub at_pulled : {L : Type 0} (stands : L → Trace link.Entry → Type 0) (left : L → List ℕ) (condition : L → LinkState) (load : L → ℕ) (unread sent : List ℕ) (role : Role) (p q : Past) (l : Trace link.Entry) (queued : ℕ) (r : Reader) (c : L)
    → (way : OnWay stands left condition load unread sent role q l (queued + length (flat_map tunneled (written Reliable role p q))) r (Some c)) → IsAt role (begins_with sent queued p) q way.gone r.session (load c)
at_pulled stands left condition load unread sent role p q l queued r c way =
    let on : LinkOn stands left condition load unread q l (queued + length (flat_map tunneled (written Reliable role p q))) c = way.has_link in record {
      role_is = way.role_is;
      broken_is = (way.reads).broken_is;
      sent_is = ap (λ (b : List ℕ). length b) way.gone_is;
      load_is = λ is. on.load_is;
      none_loaded = λ none. absurd (let no : true ≡ false = sym on.attached ∙ none in cc);
    }

-- what the loop's test says of the past behind the pulls
pub stopped_at : {L : Type 0} (stands : L → Trace link.Entry → Type 0) (left : L → List ℕ) (condition : L → LinkState) (load : L → ℕ) (unread sent : List ℕ) (role : Role) (p : Past) (l : Trace link.Entry) (queued count : ℕ) (is_whole is_stopped : Bool) (r : Reader) (c : L)
    → (g : Pulling stands left condition load unread sent role p l queued is_whole r c) → count ≡ load c
    → ((role : Role) (outset : Outset) (q : Past) (gone : Gone) → Stands r.session q.acts gone → IsAt role outset q gone r.session count → is_stopped ≡ is_link_stopped role outset q)
    → is_stopped ≡ is_link_stopped role (begins_with sent queued p) (pulled_by role p g.pulls g.lack)
stopped_at stands left condition load unread sent role p l queued count is_whole is_stopped r c g same stops =
    let q = pulled_by role p g.pulls g.lack in
    stops role (begins_with sent queued p) q (g.way).gone ((g.way).reads).stands
    (subst (λ n. IsAt role (begins_with sent queued p) q (g.way).gone r.session n) (sym same)
    (at_pulled stands left condition load (drop (length (pulled_bytes g.pulls)) unread) sent role p q (by_pulls Reliable role p g.pulls g.lack l) queued r c g.way))

-- ---- one pull more

-- what is written is written pull by pull
written_then : (kind : Kind) (role : Role) (p q u : Past) → IsFront p.acts q.acts → IsFront q.acts u.acts → written kind role p u ≡ written kind role p q ++ written kind role q u
written_then kind role p q u f g =
    let old = carried kind role p.acts in
    append_cancel_left old (written kind role p u) (written kind role p q ++ written kind role q u)
    (sym (written_on kind role p u (front_then p.acts q.acts u.acts f g)) ∙ written_on kind role q u g ∙ ap (λ xs. xs ++ written kind role q u) (written_on kind role p q f) ∙ append_assoc old (written kind role p q) (written kind role q u))

none_stopped : (role : Role) (outset : Outset) (q : Past) → is_link_stopped role outset q ≡ false → q.broken ≡ None
none_stopped role outset q goes = by_broken q.broken refl where
  by_broken : (o : Option Fault) → q.broken ≡ o → q.broken ≡ None
  by_broken None e = e
  by_broken (Some why) e = absurd (let no : true ≡ false = sym (ap (λ (o : Option Fault). is_link_stopped role outset (record q { broken = o })) e) ∙ goes in cc)

-- behind a PDU, or within one that began where no stop stood
looks_behind : (role : Role) (outset : Outset) (q u : Past) → is_link_stopped role outset q ≡ false → (u.broken ≡ None → is_empty u.tunnel.bytes ≡ false → u.acts ≡ q.acts)
    → is_broken u || (is_empty u.tunnel.bytes && is_link_stopped role outset u) ≡ is_link_stopped role outset u
looks_behind role outset q u goes under = by_broken u.broken refl where
  same : u.broken ≡ None → u.acts ≡ q.acts → is_link_stopped role outset u ≡ false
  same whole acts_are =
      ap (λ t. is_link_stopped role outset (record u { acts = t })) acts_are
      ∙ ap (λ (o : Option Fault). is_link_stopped role outset (record u { acts = q.acts; broken = o })) (whole ∙ sym (none_stopped role outset q goes))
      ∙ goes

  by_bytes : u.broken ≡ None → (b : Bool) → is_empty u.tunnel.bytes ≡ b → is_empty u.tunnel.bytes && is_link_stopped role outset u ≡ is_link_stopped role outset u
  by_bytes whole true e = ap (λ b. b && is_link_stopped role outset u) e
  by_bytes whole false e = ap (λ b. b && is_link_stopped role outset u) e ∙ sym (same whole (under whole e))

  by_broken : (o : Option Fault) → u.broken ≡ o → is_broken u || (is_empty u.tunnel.bytes && is_link_stopped role outset u) ≡ is_link_stopped role outset u
  by_broken None e = ap (λ (o : Option Fault). is_some o || (is_empty u.tunnel.bytes && is_link_stopped role outset u)) e ∙ by_bytes e (is_empty u.tunnel.bytes) refl
  by_broken (Some why) e =
      ap (λ (o : Option Fault). is_some o || (is_empty u.tunnel.bytes && is_link_stopped role outset u)) e ∙ sym (ap (λ (o : Option Fault). is_link_stopped role outset (record u { broken = o })) e)

link_lack : (role : Role) (p : Past) (pulls : Trace Pull) (pull : Pull) (lack : Option (Trace Act)) → IsReadLack (after_pulls role p pulls) (after_pulls role p (pulls ▷ pull)) lack → IsLinkLack role p (pulls ▷ pull) Start lack
link_lack role p pulls pull None h = tt
link_lack role p pulls pull (Some reached) h = h

not_twice : (b : Bool) → b ≡ not (not b)
not_twice true = refl
not_twice false = refl

none_lacked : (lack : Option (Trace Act)) (q : Past) (broken : Option Fault) → broken ≡ (lacking lack q).broken → broken ≡ None → lack ≡ None
none_lacked None q broken is fine = refl
none_lacked (Some reached) q broken is fine = absurd (let no : Some fault.NoMemory ≡ None = sym is ∙ fine in cc)

-- what is pulled next, where no stop stands
room_here : (role : Role) (outset : Outset) (pulls : Trace Pull) → halts role outset pulls (after_pulls role outset.before pulls) ≡ false → wants (after_pulls role outset.before pulls).tunnel.bytes ≡ room_next role outset pulls
room_here role outset pulls goes = sym (ap (λ b. cond b 0 (wants (after_pulls role outset.before pulls).tunnel.bytes)) goes)

-- a pull behind those that met no want of memory, where no stop stands
one_more : {L : Type 0} (stands : L → Trace link.Entry → Type 0) (left : L → List ℕ) (condition : L → LinkState) (load : L → ℕ) (unread sent : List ℕ) (role : Role) (p : Past) (l : Trace link.Entry) (queued : ℕ) (pulls : Trace Pull) (is_whole : Bool) (now : Reader) (d : L)
    → AreNext role (begins_with sent queued p) unread pulls → is_short pulls ≡ false
    → halts role (begins_with sent queued p) pulls (after_pulls role p pulls) ≡ false → is_link_stopped role (begins_with sent queued p) (after_pulls role p pulls) ≡ false
    → written Lossy role p (after_pulls role p pulls) ≡ [] → ((m : Trace link.Entry) → by_pulls Lossy role p pulls None m ≡ m)
    → OnePull stands left condition load (drop (length (pulled_bytes pulls)) unread) sent role (after_pulls role p pulls) (by_pulls Reliable role p pulls None l) (queued + length (flat_map tunneled (written Reliable role p (after_pulls role p pulls)))) is_whole now d
    → Pulling stands left condition load unread sent role p l queued is_whole now d
one_more stands left condition load unread sent role p l queued pulls is_whole now d next whole halted stopped none none_before h =
    let q = after_pulls role p pulls in
    let all = pulls ▷ h.pull in
    let u = pulled_by role p all h.lack in
    let first = goes_pulls role pulls p in
    let second = behind_lack q (after_pulls role p all) h.lack h.lacks (goes_run role (h.pull).bytes q) in
    let loads = load_both queued (written Reliable role p q) (written Reliable role q u) (written Reliable role p u) (written_then Reliable role p q u first second) in
    let bytes_left : drop (length (h.pull).bytes) (drop (length (pulled_bytes pulls)) unread) ≡ drop (length (pulled_bytes all)) unread =
    drop-drop (length (h.pull).bytes) (length (pulled_bytes pulls)) unread ∙ ap (λ n. drop n unread) (sym (length-append (pulled_bytes pulls) (h.pull).bytes)) in record {
      pulls = all;
      lack = h.lack;
      next = (whole, h.some, h.room_is ∙ room_here role (begins_with sent queued p) pulls halted, h.bytes_are, next);
      lacks = link_lack role p pulls h.pull h.lack h.lacks;
      way =
          subst (λ b. OnWay stands left condition load b sent role u (by_pulls Reliable role p all h.lack l) (queued + length (flat_map tunneled (written Reliable role p u))) now (Some d)) bytes_left
          (subst (λ n. OnWay stands left condition load (drop (length (h.pull).bytes) (drop (length (pulled_bytes pulls)) unread)) sent role u (by_pulls Reliable role p all h.lack l) n now (Some d)) loads h.way);
      none_lossy = written_then Lossy role p q u first second ∙ ap (λ ds. ds ++ written Lossy role q u) none ∙ h.none_lossy;
      none_called = λ m. ap (λ (ds : List Drawn). gives_joined Lossy ds (by_pulls Lossy role p pulls None m)) h.none_lossy ∙ none_before m;
      short = not_twice (is_short all) ∙ ap not (sym h.whole_is);
      looks = λ met. looks_behind role (begins_with sent queued p) q (after_pulls role p all) stopped
          (subst (λ (o : Option (Trace Act)). (lacking o (after_pulls role p all)).broken ≡ None → is_empty (lacking o (after_pulls role p all)).tunnel.bytes ≡ false → (lacking o (after_pulls role p all)).acts ≡ q.acts) met h.under_way);
    }

-- it goes on
pub pulling_on : {L : Type 0} (stands : L → Trace link.Entry → Type 0) (left : L → List ℕ) (condition : L → LinkState) (load : L → ℕ) (unread sent : List ℕ) (role : Role) (p : Past) (l : Trace link.Entry) (queued : ℕ) (was_whole is_whole : Bool) (r now : Reader) (c d : L)
    → (g : Pulling stands left condition load unread sent role p l queued was_whole r c) → was_whole ≡ true → (r.session).broken ≡ None → false ≡ is_link_stopped role (begins_with sent queued p) (pulled_by role p g.pulls g.lack)
    → ((u : List ℕ) (q : Past) (m : Trace link.Entry) (n : ℕ) → OnWay stands left condition load u sent role q m n r (Some c) → OnePull stands left condition load u sent role q m n is_whole now d)
    → Pulling stands left condition load unread sent role p l queued is_whole now d
pulling_on stands left condition load unread sent role p l queued was_whole is_whole r now c d g whole fine stopped pulled =
    by_lack g.lack (none_lacked g.lack (after_pulls role p g.pulls) (r.session).broken ((g.way).reads).broken_is fine) g.way stopped (g.looks (none_lacked g.lack (after_pulls role p g.pulls) (r.session).broken ((g.way).reads).broken_is fine)) g.none_lossy g.none_called where
      by_lack : (lack : Option (Trace Act)) → lack ≡ None → WayPulled stands left condition load unread sent role p l queued g.pulls lack r c → false ≡ is_link_stopped role (begins_with sent queued p) (pulled_by role p g.pulls lack)
          → halts role (begins_with sent queued p) g.pulls (after_pulls role p g.pulls) ≡ is_link_stopped role (begins_with sent queued p) (after_pulls role p g.pulls)
          → written Lossy role p (pulled_by role p g.pulls lack) ≡ [] → ((m : Trace link.Entry) → by_pulls Lossy role p g.pulls lack m ≡ m) → Pulling stands left condition load unread sent role p l queued is_whole now d
      by_lack (Some reached) met way goes looks none none_before = absurd (let no : Some reached ≡ None = met in cc)
      by_lack None met way goes looks none none_before =
          one_more stands left condition load unread sent role p l queued g.pulls is_whole now d g.next (g.short ∙ ap not whole) (looks ∙ sym goes) (sym goes) none none_before
          (pulled (drop (length (pulled_bytes g.pulls)) unread) (after_pulls role p g.pulls) (by_pulls Reliable role p g.pulls None l) (queued + length (flat_map tunneled (written Reliable role p (after_pulls role p g.pulls)))) way)

-- ---- it ends

all_pulled : {L : Type 0} (stands : L → Trace link.Entry → Type 0) (left : L → List ℕ) (condition : L → LinkState) (load : L → ℕ) (unread sent : List ℕ) (role : Role) (p : Past) (l : Trace link.Entry) (queued : ℕ) (is_whole : Bool) (r : Reader) (c : L)
    → (g : Pulling stands left condition load unread sent role p l queued is_whole r c) → Pulls role (begins_with sent queued p) Reliable unread g.pulls (is_some g.lack) → AllPulled stands left condition load unread sent role p l queued r c
all_pulled stands left condition load unread sent role p l queued is_whole r c g pulled = record {
  pulls = g.pulls;
  lack = g.lack;
  pulled = pulled;
  lacks = g.lacks;
  way = g.way;
  none_lossy = g.none_lossy;
  none_called = g.none_called;
}

done_by : (role : Role) (outset : Outset) (left : List ℕ) (pulls : Trace Pull) (lack : Option (Trace Act)) → AreNext role outset left pulls → (lack ≡ None → IsDone role outset pulls) → Pulls role outset Reliable left pulls (is_some lack)
done_by role outset left pulls None next done = (next, done refl)
done_by role outset left pulls (Some reached) next done = next

-- where the last pull found fewer bytes than it wanted
pub ended_short : {L : Type 0} (stands : L → Trace link.Entry → Type 0) (left : L → List ℕ) (condition : L → LinkState) (load : L → ℕ) (unread sent : List ℕ) (role : Role) (p : Past) (l : Trace link.Entry) (queued : ℕ) (is_whole : Bool) (r : Reader) (c : L)
    → Pulling stands left condition load unread sent role p l queued is_whole r c → is_whole ≡ false → AllPulled stands left condition load unread sent role p l queued r c
ended_short stands left condition load unread sent role p l queued is_whole r c g short =
    all_pulled stands left condition load unread sent role p l queued is_whole r c g (done_by role (begins_with sent queued p) unread g.pulls g.lack g.next (λ none. inl (g.short ∙ ap not short)))

-- where a stop stands
pub ended_stopped : {L : Type 0} (stands : L → Trace link.Entry → Type 0) (left : L → List ℕ) (condition : L → LinkState) (load : L → ℕ) (unread sent : List ℕ) (role : Role) (p : Past) (l : Trace link.Entry) (queued : ℕ) (is_whole : Bool) (r : Reader) (c : L)
    → (g : Pulling stands left condition load unread sent role p l queued is_whole r c) → true ≡ is_link_stopped role (begins_with sent queued p) (pulled_by role p g.pulls g.lack) → AllPulled stands left condition load unread sent role p l queued r c
ended_stopped stands left condition load unread sent role p l queued is_whole r c g stopped =
    all_pulled stands left condition load unread sent role p l queued is_whole r c g (done_by role (begins_with sent queued p) unread g.pulls g.lack g.next (λ none. inr (none_next none))) where
      none_next : g.lack ≡ None → room_next role (begins_with sent queued p) g.pulls ≡ 0
      none_next none =
          let here : true ≡ is_link_stopped role (begins_with sent queued p) (after_pulls role p g.pulls) = subst (λ (o : Option (Trace Act)). true ≡ is_link_stopped role (begins_with sent queued p) (pulled_by role p g.pulls o)) none stopped in
          ap (λ b. cond b 0 (wants (after_pulls role p g.pulls).tunnel.bytes)) (g.looks none ∙ sym here)

-- ---- what is left gets less

pub fewer : (was_whole is_whole : Bool) (before behind : ℕ) → was_whole ≡ true → behind ≤ before → (is_whole ≡ true → behind < before) → behind + cond is_whole 1 0 < before + cond was_whole 1 0
fewer true true before behind was no_more less = omega (arith, less refl)
fewer true false before behind was no_more less = omega (arith, no_more)
fewer false is_whole before behind was no_more less = absurd (let no : false ≡ true = was in cc)
