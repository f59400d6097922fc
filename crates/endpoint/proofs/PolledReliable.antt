-- An end with its links, behind a poll of its reliable link.
use Rattle.std.proofs.Common.{◌≡◌, ℕ, ◌+◌, ◌≤◌, Bool, true, false, cond, List, [], length, drop, append-nil, Option, Some, None, is_some, refl, sym, ap, subst, ◌∙◌, arith}
use Rattle.std.specs.Option.{option_or}
use Rattle.std.proofs.Math.Seq.{drop-append_seam}
use Rattle.mt_base.specs.declared.kinds.Kind.{Kind}
use Rattle.mt_base.specs.declared.kinds.Kind.TheVariants.{Reliable, Lossy}
use Rattle.mt_base.specs.declared.kinds.Role.{Role}
use Rattle.mt_base.specs.Trace.{Trace, ◌▷◌}
use Rattle.carrier.specs.declared.state.LinkState.{LinkState}
use Rattle.carrier.specs.declared.state.LinkState.TheVariants.{Opening, Open, Closed}
use Rattle.carrier.specs.Entries as link
use Rattle.mt_endpoint.specs.Acts.{Silences}
use Rattle.mt_endpoint.specs.Resting.{Rests}
use Rattle.mt_endpoint.specs.Tunnels.{is_attached, is_silent, silence, where_kind}
use Rattle.mt_endpoint.specs.Writing.{carried}
use Rattle.end_calls.specs.declared.limits.TheConstants.{MAIN_QUEUE}
use Rattle.end_calls.specs.Calls.{Entry, Postings, WireOut, acts, closed_act, if_steps, past, steps, story}
use Rattle.end_calls.specs.Law.{given_main, unhanded, unpulled, unsent}
use Rattle.end_calls.specs.Links.{gives_all, gives_joined, linked}
use Rattle.end_calls.specs.Stops.{answers_owed}
use Rattle.end_calls.specs.Streams.{Past, written}
use Rattle.end_session.specs.Standing.{Gone}
use Rattle.end_session.specs.Store.{Store}
use Rattle.end_reader.specs.declared.reader.Reader.{Reader}
use Rattle.end_reader.specs.Standing.{IsTold}
use Rattle.std.specs.Prelude.{Ok}
use Rattle.tunnel_pdus.specs.declared.part.Part.TheVariants.{More}
use Rattle.tunnel_pdus.specs.Reading.{reading, frame_reading}
use Rattle.endpoint.specs.Answering.{answered_by}
use Rattle.endpoint.specs.Attached.{HasLink, Serves, is_closed}
use Rattle.endpoint.specs.Idle.{IsIdle}
use Rattle.endpoint.specs.Standing.{IsEnd, Tells, refusals_owed}
use Rattle.endpoint.proofs.Answered.{Stays, stays_by, stays_here, stays_on, stays_silence}
use Rattle.endpoint.proofs.Idle.{steps_silence}
use Rattle.endpoint.proofs.Links.{joins_none}
use Rattle.endpoint.proofs.Steps.{held_within, unsent_is}

-- ---- between calls

pub idle : (r : Reader) (postings : Postings) (role : Role) (t : Trace Entry) → (tells : Tells r postings role t) → IsIdle role (past role t) tells.gone r.session
idle r postings role t tells =
    let reads = tells.reads in record {
      stands = reads.stands;
      role_is = tells.role_is;
      broken_is = reads.broken_is;
      room = subst (λ (m : List ℕ). length m + (answers_owed (acts role t) + refusals_owed role (acts role t)) ≤ MAIN_QUEUE) (unsent_is role t tells.gone r.session tells.gone_is tells.role_is reads.stands) tells.room;
      held_fits = held_within role t tells.law;
      reliable_waits = tells.reliable_waits;
      lossy_waits = tells.lossy_waits;
      rests = λ b. subst (λ (x : Role). Rests x (acts role t)) tells.role_is (reads.rests b);
      quiet = λ b is. reads.quiet b (tells.role_is ∙ is);
    }

-- ---- a link that is closed makes its tunnel silent

-- the act of a link that was found in this state
abbrev pub found : Role → Kind → LinkState → Past → Past
found role kind state q = if_steps role (closed_act kind (is_silent kind q.acts) state) q

-- what comes of a poll leaves the streams as they were
pub record Follows (role : Role) (p q : Past) : Type 0 where
  pub same : q ≡ record p { acts = q.acts }
  pub stays : Stays role p.acts q.acts

pub follows_here : (role : Role) (p : Past) → Follows role p p
follows_here role p = record { same = refl; stays = stays_here role p.acts }

pub follows_silence : (role : Role) (kind : Kind) (expiries : ℕ) (p : Past) → Follows role p (steps role (Silences kind expiries) p)
follows_silence role kind expiries p =
    let act = Silences kind expiries in
    subst (λ (q : Past). Follows role p q) (sym (steps_silence role kind expiries p))
    (record { same = refl; stays = stays_on role p.acts (p.acts ▷ act) (answered_by role p.broken (p.acts ▷ act)) (stays_silence role p.acts kind expiries) (stays_by role p.broken (p.acts ▷ act)) })

if_follows : (role : Role) (kind : Kind) (expiries : ℕ) (p : Past) (silent : Bool) → Follows role p (if_steps role (cond silent None (Some (Silences kind expiries))) p)
if_follows role kind expiries p true = follows_here role p
if_follows role kind expiries p false = follows_silence role kind expiries p

pub follows_found : (role : Role) (kind : Kind) (state : LinkState) (p : Past) → Follows role p (found role kind state p)
follows_found role kind Opening p = follows_here role p
follows_found role kind Open p = follows_here role p
follows_found role kind (Closed expiries) p = if_follows role kind expiries p (is_silent kind p.acts)

some_told : (kind : Kind) (told : Option ℕ) (expiries : ℕ) → is_some (option_or told (where_kind kind kind expiries)) ≡ true
some_told kind (Some n) expiries = refl
some_told Reliable None expiries = refl
some_told Lossy None expiries = refl

silent_then : (role : Role) (kind : Kind) (expiries : ℕ) (p : Past) → is_silent kind (steps role (Silences kind expiries) p).acts ≡ true
silent_then role kind expiries p =
    let t = p.acts ▷ Silences kind expiries in
    ap (λ (q : Past). is_silent kind q.acts) (steps_silence role kind expiries p) ∙ (stays_by role p.broken t).silent kind (some_told kind (silence kind p.acts) expiries)

if_silent : (role : Role) (kind : Kind) (expiries : ℕ) (p : Past) (silent : Bool) → is_silent kind p.acts ≡ silent → is_silent kind (if_steps role (cond silent None (Some (Silences kind expiries))) p).acts ≡ true
if_silent role kind expiries p true is = is
if_silent role kind expiries p false is = silent_then role kind expiries p

-- afterwards it is closed only where it is silent
pub found_open : (role : Role) (kind : Kind) (state : LinkState) (p : Past) → is_silent kind (found role kind state p).acts ≡ false → is_closed state ≡ false
found_open role kind Opening p loud = refl
found_open role kind Open p loud = refl
found_open role kind (Closed expiries) p loud = absurd (let no : true ≡ false = sym (if_silent role kind expiries p (is_silent kind p.acts) refl) ∙ loud in cc)

-- ---- the end without its links

pub tells_polled : (r : Reader) (postings now : Postings) (role : Role) (t : Trace Entry) (kind : Kind) (moment : ℕ) (is_full : Bool) (out : Option (List ℕ)) (state : LinkState) (s : Store) (gone : Gone)
    → (tells : Tells r postings role t) → gone.main ≡ given_main t → is_attached kind (acts role t) ≡ true
    → Follows role (past role t) (past role (t ▷ WireOut kind moment is_full out state)) → IsIdle role (past role (t ▷ WireOut kind moment is_full out state)) gone s
    → now ≡ (story role (t ▷ WireOut kind moment is_full out state)).postings → Tells (record r { session = s }) now role (t ▷ WireOut kind moment is_full out state)
tells_polled r postings now role t kind moment is_full out state s gone tells gone_is attached follows i posted =
    let u = t ▷ WireOut kind moment is_full out state in
    let p = past role t in
    let q = past role u in
    let reads = tells.reads in
    let same = follows.same in
    let whole : q.broken ≡ None → p.broken ≡ None = λ b. sym (ap (λ (x : Past). x.broken) same) ∙ b in
    let unsent_are : unsent role u ≡ (s.outgoing).main = unsent_is role u gone s gone_is i.role_is i.stands in record {
      law = (
        attached,
        record {
          unsent_fits = omega (arith, ap length unsent_are, i.room);
          reliable_fits = i.held_fits Reliable;
          lossy_fits = i.held_fits Lossy;
        },
        tells.law,
      );
      gone = gone;
      gone_is = gone_is;
      reads = record {
        stands = i.stands;
        broken_is = i.broken_is;
        main_is = λ b. subst (λ (x : Past). IsTold r.main x.main) (sym same) (reads.main_is (whole b));
        tunnel_is = λ b. subst (λ (x : Past). IsTold r.tunnel x.tunnel) (sym same) (reads.tunnel_is (whole b));
        main_waits = λ b. subst (λ (x : Past). (need : ℕ) × (frame_reading x.main.bytes ≡ Ok (More need))) (sym same) (reads.main_waits (whole b));
        tunnel_waits = λ b. subst (λ (x : Past). (need : ℕ) × (reading x.tunnel.bytes ≡ Ok (More need))) (sym same) (reads.tunnel_waits (whole b));
        rests = λ b. subst (λ (x : Role). Rests x q.acts) (sym i.role_is) (i.rests b);
        quiet = λ b is. i.quiet b (sym i.role_is ∙ is);
      };
      role_is = i.role_is;
      room = subst (λ (m : List ℕ). length m + (answers_owed (acts role u) + refusals_owed role (acts role u)) ≤ MAIN_QUEUE) (sym unsent_are) i.room;
      reliable_waits = i.reliable_waits;
      lossy_waits = i.lossy_waits;
      postings_are = posted;
    }

-- ---- the links

none_written : (kind : Kind) (role : Role) (p : Past) → written kind role p p ≡ []
none_written kind role p =
    let c = carried kind role p.acts in ap (drop (length c)) (sym (append-nil c)) ∙ drop-append_seam c []

pub gives_none : (kind : Kind) (role : Role) (p : Past) (l : Trace link.Entry) → gives_all kind role p p l ≡ l
gives_none kind role p l = ap (λ ds. gives_joined kind ds l) (none_written kind role p) ∙ joins_none kind l

-- the link that was polled
pub serves_polled : {L A : Type 0} (stands : L → Trace link.Entry → Type 0) (left : L → List A) (condition : L → LinkState) (unread : List A) (role : Role) (t : Trace Entry) (moment : ℕ) (is_full : Bool) (out : Option (List ℕ)) (old new : L)
    → Serves stands left condition Reliable unread role t old → ((c : Trace link.Entry) → stands old c → stands new (c ▷ link.Polled moment out)) → left new ≡ left old
    → Serves stands left condition Reliable unread role (t ▷ WireOut Reliable moment is_full out (condition new)) new
serves_polled stands left condition unread role t moment is_full out old new s trace same = record {
  attached = (follows_found role Reliable (condition new) (past role t)).stays.attached_is Reliable ∙ s.attached;
  called = subst (λ c. stands new (c ▷ link.Polled moment out)) (sym (gives_none Reliable role (past role t) (linked Reliable role t))) (trace (linked Reliable role t) s.called);
  left_is = same ∙ s.left_is;
  is_open = found_open role Reliable (condition new) (past role t);
}

-- the other one
pub loud_before : (kind : Kind) (before after : Bool) → (before ≡ true → after ≡ true) → after ≡ false → before ≡ false
loud_before kind false after lasts loud = refl
loud_before kind true after lasts loud = absurd (let no : true ≡ false = sym (lasts refl) ∙ loud in cc)

pub link_kept : {L A : Type 0} (stands : L → Trace link.Entry → Type 0) (left : L → List A) (condition : L → LinkState) (kind : Kind) (unread : List A) (role : Role) (t u : Trace Entry) (l : Option L) → Stays role (acts role t) (acts role u) → linked kind role u ≡ linked kind role t
    → HasLink stands left condition kind unread role t l → HasLink stands left condition kind unread role u l
link_kept stands left condition kind unread role t u (Some l) stays same s = record {
  attached = stays.attached_is kind ∙ s.attached;
  called = subst (stands l) (sym same) s.called;
  left_is = s.left_is;
  is_open = λ loud. s.is_open (loud_before kind (is_silent kind (acts role t)) (is_silent kind (acts role u)) (stays.silent kind) loud);
}
link_kept stands left condition kind unread role t u None stays same s = record {
  unattached = stays.attached_is kind ∙ s.unattached;
  uncalled = same ∙ s.uncalled;
  undrawn = stays.draws_are kind ∙ s.undrawn;
  unread_is = s.unread_is;
}

-- ---- all of it

pub polled_reliable : {C P : Type 0} (carrier_stands : C → Trace link.Entry → Type 0) (carrier_left : C → List ℕ) (carrier_condition : C → LinkState) (post_stands : P → Trace link.Entry → Type 0) (post_left : P → List (List ℕ)) (post_condition : P → LinkState) (r : Reader) (postings : Postings) (old new : C) (lossy : Option P) (role : Role) (t : Trace Entry) (moment : ℕ) (out : Option (List ℕ)) (s : Store)
    → (e : IsEnd carrier_stands carrier_left carrier_condition post_stands post_left post_condition r postings (Some old) lossy role t)
    → ((c : Trace link.Entry) → carrier_stands old c → carrier_stands new (c ▷ link.Polled moment out)) → carrier_left new ≡ carrier_left old
    → ((x : Role) (p : Past) (gone : Gone) → IsIdle x p gone r.session → IsIdle x (found x Reliable (carrier_condition new) p) gone s)
    → IsEnd carrier_stands carrier_left carrier_condition post_stands post_left post_condition (record r { session = s }) postings (Some new) lossy role (t ▷ WireOut Reliable moment false out (carrier_condition new))
polled_reliable carrier_stands carrier_left carrier_condition post_stands post_left post_condition r postings old new lossy role t moment out s e trace same idles =
    let state = carrier_condition new in record {
      tells =
          tells_polled r postings postings role t Reliable moment false out state s (e.tells).gone e.tells (e.tells).gone_is (e.has_reliable).attached (follows_found role Reliable state (past role t))
          (idles role (past role t) (e.tells).gone (idle r postings role t e.tells)) (e.tells).postings_are;
      has_reliable = serves_polled carrier_stands carrier_left carrier_condition (unpulled t) role t moment false out old new e.has_reliable trace same;
      has_lossy =
          link_kept post_stands post_left post_condition Lossy (unhanded t) role t (t ▷ WireOut Reliable moment false out state) lossy (follows_found role Reliable state (past role t)).stays (gives_none Lossy role (past role t) (linked Lossy role t)) e.has_lossy;
    }

pub polled_by : {C P : Type 0} (carrier_stands : C → Trace link.Entry → Type 0) (carrier_left : C → List ℕ) (carrier_condition : C → LinkState) (post_stands : P → Trace link.Entry → Type 0) (post_left : P → List (List ℕ)) (post_condition : P → LinkState) (r : Reader) (postings : Postings) (reliable : Option C) (old new : C) (lossy : Option P) (role : Role) (t : Trace Entry) (moment : ℕ) (out : Option (List ℕ)) (state : LinkState) (s : Store)
    → IsEnd carrier_stands carrier_left carrier_condition post_stands post_left post_condition r postings reliable lossy role t → reliable ≡ Some old → state ≡ carrier_condition new
    → ((c : Trace link.Entry) → carrier_stands old c → carrier_stands new (c ▷ link.Polled moment out)) → carrier_left new ≡ carrier_left old
    → ((x : Role) (p : Past) (gone : Gone) → IsIdle x p gone r.session → IsIdle x (found x Reliable state p) gone s)
    → IsEnd carrier_stands carrier_left carrier_condition post_stands post_left post_condition (record r { session = s }) postings (Some new) lossy role (t ▷ WireOut Reliable moment false out (carrier_condition new))
polled_by carrier_stands carrier_left carrier_condition post_stands post_left post_condition r postings reliable old new lossy role t moment out state s e is state_is trace same idles =
    polled_reliable carrier_stands carrier_left carrier_condition post_stands post_left post_condition r postings old new lossy role t moment out s
    (subst (λ (l : Option _). IsEnd carrier_stands carrier_left carrier_condition post_stands post_left post_condition r postings l lossy role t) is e) trace same
    (subst (λ (x : LinkState). (y : Role) (p : Past) (gone : Gone) → IsIdle y p gone r.session → IsIdle y (found y Reliable x p) gone s) state_is idles)
