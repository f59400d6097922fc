-- An end with its links, behind a poll of its lossy link.
use Rattle.std.proofs.Common.{◌≡◌, ℕ, ◌==◌, nat_le, Bool, true, false, cond, List, Option, Some, None, refl, sym, ap, subst, ◌∙◌}
use Rattle.std.proofs.lemmas.Bool.{leb-false}
use Rattle.mt_base.specs.declared.kinds.Kind.TheVariants.{Reliable, Lossy}
use Rattle.mt_base.specs.declared.kinds.Role.{Role}
use Rattle.mt_base.specs.Trace.{Trace, ◌▷◌}
use Rattle.mt_windows.specs.declared.limits.TheConstants.{WINDOW}
use Rattle.carrier.specs.declared.state.LinkState.{LinkState}
use Rattle.carrier.specs.Entries as link
use Rattle.mt_endpoint.specs.Acts.{Repeats, Silences}
use Rattle.mt_endpoint.specs.Tunnels.{is_attached}
use Rattle.mt_endpoint.specs.Writing.{carried}
use Rattle.end_calls.specs.declared.fault.Fault.{Fault}
use Rattle.end_calls.specs.Calls.{Entry, Postings, WireOut, acts, before_poll, if_steps, is_due, past, polled_at, posts_again, steps, story}
use Rattle.end_calls.specs.Law.{unpulled}
use Rattle.end_calls.specs.Links.{gives_all, linked}
use Rattle.end_calls.specs.Streams.{Past}
use Rattle.end_session.specs.OfKind.{tunnel_of}
use Rattle.end_session.specs.Standing.{Gone}
use Rattle.end_session.specs.Store.{Store}
use Rattle.end_reader.specs.declared.reader.Reader.{Reader}
use Rattle.endpoint.specs.Attached.{is_closed}
use Rattle.endpoint.specs.Idle.{IsIdle}
use Rattle.endpoint.specs.Posted.{IsReady, Posts, is_full_in, polled_if}
use Rattle.endpoint.specs.Standing.{IsEnd}
use Rattle.endpoint.proofs.Answered.{stays_on, unwritten_by, unwritten_silence}
use Rattle.endpoint.proofs.Idle.{attached_of, steps_silence}
use Rattle.endpoint.proofs.PolledReliable.{Follows, follows_found, follows_here, follows_silence, found, found_open, idle, link_kept, tells_polled}
use Rattle.endpoint.proofs.Repeated.{stays_again, steps_again, steps_broken, unwritten_all, unwritten_reliable}

-- ---- what is due before the poll

-- it leaves the streams as they were, and writes nothing for the reliable link
record Before (role : Role) (p q : Past) : Type 0 where
  pub follows : Follows role p q
  pub reliable_is : carried Reliable role q.acts ≡ carried Reliable role p.acts

before_here : (role : Role) (p : Past) → Before role p p
before_here role p = record { follows = follows_here role p; reliable_is = refl }

before_silence : (role : Role) (expiries : ℕ) (p : Past) → Before role p (steps role (Silences Lossy expiries) p)
before_silence role expiries p = record {
  follows = follows_silence role Lossy expiries p;
  reliable_is =
      ap (λ (q : Past). carried Reliable role q.acts) (steps_silence role Lossy expiries p) ∙ unwritten_by Reliable role p.broken (p.acts ▷ Silences Lossy expiries) ∙ unwritten_silence role p.acts Reliable Lossy expiries;
}

before_again : (role : Role) (is_full : Bool) (p : Past) (gone : Gone) (s : Store) → IsIdle role p gone s → Before role p (steps role (Repeats is_full) p)
before_again role is_full p gone s i = by_case p.broken refl where
  by_case : (b : Option Fault) → p.broken ≡ b → Before role p (steps role (Repeats is_full) p)
  by_case None whole =
      subst (λ (q : Past). Before role p q) (sym (steps_again role is_full p gone s i (i.broken_is ∙ whole)))
      (record { follows = record { same = refl; stays = stays_again role p.acts is_full }; reliable_is = unwritten_reliable role p.acts is_full })
  by_case (Some fault) broken = subst (λ (q : Past). Before role p q) (sym (steps_broken role is_full p (Some fault) broken refl)) (before_here role p)

before_last : (role : Role) (is_full : Bool) (p : Past) (gone : Gone) (s : Store) (last : Bool) → IsIdle role p gone s → Before role p (steps role (cond last (Silences Lossy 17) (Repeats is_full)) p)
before_last role is_full p gone s true i = before_silence role 17 p
before_last role is_full p gone s false i = before_again role is_full p gone s i

before_due : (role : Role) (is_full : Bool) (postings : Postings) (p : Past) (gone : Gone) (s : Store) (due : Bool) → IsIdle role p gone s → Before role p (if_steps role (cond due (Some (posts_again postings is_full)) None) p)
before_due role is_full postings p gone s true i = before_last role is_full p gone s (postings.count == 17) i
before_due role is_full postings p gone s false i = before_here role p

-- the past then
abbrev pub prior : Role → Trace Entry → ℕ → Bool → Past
prior role t now is_full = if_steps role (before_poll Lossy (acts role t) (story role t).postings now is_full) (past role t)

prior_before : (r : Reader) (postings : Postings) (role : Role) (t : Trace Entry) (now : ℕ) (is_full : Bool) (gone : Gone) → IsIdle role (past role t) gone r.session → Before role (past role t) (prior role t now is_full)
prior_before r postings role t now is_full gone i =
    let told = (story role t).postings in before_due role is_full told (past role t) gone r.session (is_due (acts role t) told now) i

-- ---- the end with a link

pub with_lossy : {C P : Type 0} (carrier_stands : C → Trace link.Entry → Type 0) (carrier_left : C → List ℕ) (carrier_condition : C → LinkState) (post_stands : P → Trace link.Entry → Type 0) (post_left : P → List (List ℕ)) (post_condition : P → LinkState) (r : Reader) (postings : Postings) (reliable : Option C) (lossy : Option P) (old : P) (role : Role) (t : Trace Entry)
    → IsEnd carrier_stands carrier_left carrier_condition post_stands post_left post_condition r postings reliable lossy role t → lossy ≡ Some old → IsEnd carrier_stands carrier_left carrier_condition post_stands post_left post_condition r postings reliable (Some old) role t
with_lossy carrier_stands carrier_left carrier_condition post_stands post_left post_condition r postings reliable lossy old role t e is = subst (λ (l : Option _). IsEnd carrier_stands carrier_left carrier_condition post_stands post_left post_condition r postings reliable l role t) is e

abbrev pub Posted : {P : Type 0} → (P → Trace link.Entry → Type 0) → (P → LinkState) → (P → ℕ) → Bool → Bool → Postings → Store → Store → P → P → Type 0
Posted stands condition load due is_full postings s now old mid =
    (x : Role) (p : Past) (g : Gone) → IsIdle x p g s → IsReady condition load is_full p old → Posts stands x p (if_steps x (cond due (Some (posts_again postings is_full)) None) p) g now old mid

pub first : {C P : Type 0} (carrier_stands : C → Trace link.Entry → Type 0) (carrier_left : C → List ℕ) (carrier_condition : C → LinkState) (post_stands : P → Trace link.Entry → Type 0) (post_left : P → List (List ℕ)) (post_condition : P → LinkState) (load : P → ℕ) (r : Reader) (postings : Postings) (reliable : Option C) (old mid : P) (role : Role) (t : Trace Entry) (now : ℕ) (due is_full : Bool) (s : Store)
    → (e : IsEnd carrier_stands carrier_left carrier_condition post_stands post_left post_condition r postings reliable (Some old) role t) → due ≡ is_due (acts role t) postings now → is_full ≡ nat_le WINDOW (load old)
    → Posted post_stands post_condition load due is_full postings r.session s old mid → Posts post_stands role (past role t) (prior role t now is_full) (e.tells).gone s old mid
first carrier_stands carrier_left carrier_condition post_stands post_left post_condition load r postings reliable old mid role t now due is_full s e due_is full_is posted =
    let p = past role t in
    let told = (story role t).postings in
    let gone = (e.tells).gone in
    let ready : IsReady post_condition load is_full p old = record { is_open = (e.has_lossy).is_open; has_room = λ h. leb-false WINDOW (load old) (sym full_is ∙ h) } in
    let are = (e.tells).postings_are in
    let step = posted role p gone (idle r postings role t e.tells) ready in
    subst (λ (w : Postings). Posts post_stands role p (if_steps role (before_poll Lossy (acts role t) w now is_full) p) gone s old mid) are
    (subst (λ (b : Bool). Posts post_stands role p (if_steps role (cond b (Some (posts_again postings is_full)) None) p) gone s old mid) due_is step)

pub attached_prior : {P : Type 0} (stands : P → Trace link.Entry → Type 0) (r : Reader) (postings : Postings) (role : Role) (t : Trace Entry) (now : ℕ) (is_full : Bool) (gone : Gone) (s : Store) (old mid : P)
    → IsIdle role (past role t) gone r.session → is_attached Lossy (acts role t) ≡ true → Posts stands role (past role t) (prior role t now is_full) gone s old mid → (tunnel_of Lossy s).is_attached ≡ true
attached_prior stands r postings role t now is_full gone s old mid i attached posts =
    attached_of Lossy s (prior role t now is_full).acts posts.after (posts.idle).stands ∙ ((prior_before r postings role t now is_full gone i).follows).stays.attached_is Lossy ∙ attached

follows_on : (role : Role) (p q x : Past) → Follows role p q → Follows role q x → Follows role p x
follows_on role p q x a b = record { same = b.same ∙ ap (λ (y : Past). record y { acts = x.acts }) a.same; stays = stays_on role p.acts q.acts x.acts a.stays b.stays }

-- ---- all of it

pub polled_lossy : {C P : Type 0} (carrier_stands : C → Trace link.Entry → Type 0) (carrier_left : C → List ℕ) (carrier_condition : C → LinkState) (post_stands : P → Trace link.Entry → Type 0) (post_left : P → List (List ℕ)) (post_condition : P → LinkState) (load : P → ℕ) (r : Reader) (postings posted_now : Postings) (reliable : Option C) (old mid new : P) (role : Role) (t : Trace Entry) (now : ℕ) (due is_full : Bool) (out : Option (List ℕ)) (state : LinkState) (s last : Store)
    → (e : IsEnd carrier_stands carrier_left carrier_condition post_stands post_left post_condition r postings reliable (Some old) role t) → due ≡ is_due (acts role t) postings now → is_full ≡ nat_le WINDOW (load old)
    → Posted post_stands post_condition load due is_full postings r.session s old mid → post_left mid ≡ post_left old
    → ((c : Trace link.Entry) → post_stands mid c → post_stands new (c ▷ link.Polled now out)) → post_left new ≡ post_left mid → state ≡ post_condition new
    → ((x : Role) (p : Past) (gone : Gone) → IsIdle x p gone s → IsIdle x (found x Lossy state p) gone last) → posted_now ≡ polled_if due now postings
    → IsEnd carrier_stands carrier_left carrier_condition post_stands post_left post_condition (record r { session = last }) posted_now reliable (Some new) role (t ▷ WireOut Lossy now is_full out state)
polled_lossy carrier_stands carrier_left carrier_condition post_stands post_left post_condition load r postings posted_now reliable old mid new role t now due is_full out state s last e due_is full_is posted left_mid trace left_new state_is idles now_is =
    let p = past role t in
    let q = prior role t now is_full in
    let gone = (e.tells).gone in
    let told = (story role t).postings in
    let u = t ▷ WireOut Lossy now is_full out state in
    let posts = first carrier_stands carrier_left carrier_condition post_stands post_left post_condition load r postings reliable old mid role t now due is_full s e due_is full_is posted in
    let before = prior_before r postings role t now is_full gone (idle r postings role t e.tells) in
    let follows = follows_on role p q (found role Lossy state q) before.follows (follows_found role Lossy state q) in
    let serves = e.has_lossy in record {
      tells =
          tells_polled r postings posted_now role t Lossy now is_full out state last posts.after e.tells (posts.after_is ∙ (e.tells).gone_is) serves.attached follows (idles role q posts.after posts.idle)
          (now_is ∙ ap (λ (b : Bool). polled_if b now postings) due_is ∙ ap (λ (w : Postings). polled_at (acts role t) now w) (e.tells).postings_are);
      has_reliable = link_kept carrier_stands carrier_left carrier_condition Reliable (unpulled t) role t u reliable follows.stays (unwritten_all Reliable role p q (linked Reliable role t) before.reliable_is) e.has_reliable;
      has_lossy = record {
        attached = follows.stays.attached_is Lossy ∙ serves.attached;
        called = trace (gives_all Lossy role p q (linked Lossy role t)) (posts.called (linked Lossy role t) serves.called);
        left_is = left_new ∙ left_mid ∙ serves.left_is;
        is_open = λ loud. subst (λ (x : LinkState). is_closed x ≡ false) state_is (found_open role Lossy state q loud);
      };
    }

-- as the end's fields tell it
pub lossy_by : {C P : Type 0} (carrier_stands : C → Trace link.Entry → Type 0) (carrier_left : C → List ℕ) (carrier_condition : C → LinkState) (post_stands : P → Trace link.Entry → Type 0) (post_left : P → List (List ℕ)) (post_condition : P → LinkState) (load : P → ℕ) (r : Reader) (postings posted_now : Postings) (reliable : Option C) (lossy seen : Option P) (old mid new : P) (role : Role) (t : Trace Entry) (now : ℕ) (due is_full : Bool) (out : Option (List ℕ)) (state : LinkState) (s last : Store)
    → IsEnd carrier_stands carrier_left carrier_condition post_stands post_left post_condition r postings reliable lossy role t → seen ≡ lossy → lossy ≡ Some old → due ≡ is_due (acts role t) postings now → is_full ≡ nat_le WINDOW (load old)
    → Posted post_stands post_condition load due is_full postings r.session s old mid → post_left mid ≡ post_left old
    → ((c : Trace link.Entry) → post_stands mid c → post_stands new (c ▷ link.Polled now out)) → post_left new ≡ post_left mid → state ≡ post_condition new
    → ((x : Role) (p : Past) (gone : Gone) → IsIdle x p gone s → IsIdle x (found x Lossy state p) gone last) → posted_now ≡ polled_if due now postings
    → IsEnd carrier_stands carrier_left carrier_condition post_stands post_left post_condition (record r { session = last }) posted_now reliable (Some new) role (t ▷ WireOut Lossy now (is_full_in load seen) out (post_condition new))
lossy_by carrier_stands carrier_left carrier_condition post_stands post_left post_condition load r postings posted_now reliable lossy seen old mid new role t now due is_full out state s last e seen_is is due_is full_is posted left_mid trace left_new state_is idles now_is =
    let IsThen = λ (b : Bool) (x : LinkState). IsEnd carrier_stands carrier_left carrier_condition post_stands post_left post_condition (record r { session = last }) posted_now reliable (Some new) role (t ▷ WireOut Lossy now b out x) in
    subst (λ (x : LinkState). IsThen (is_full_in load seen) x) state_is
    (subst (λ (b : Bool). IsThen b state) (full_is ∙ sym (ap (is_full_in load) (seen_is ∙ is)))
    (polled_lossy carrier_stands carrier_left carrier_condition post_stands post_left post_condition load r postings posted_now reliable old mid new role t now due is_full out state s last
    (with_lossy carrier_stands carrier_left carrier_condition post_stands post_left post_condition r postings reliable lossy old role t e is) due_is full_is posted left_mid trace left_new state_is idles now_is))
