-- An end on its way, behind one frame more.
use Rattle.std.proofs.Common.{◌≡◌, ℕ, ◌+◌, ◌-◌, ◌≤◌, Bool, true, false, List, [], ◌++◌, length, take, drop, Option, Some, None, IfSome, refl, sym, ap, subst, ◌∙◌, arith}
use Rattle.std.specs.List.{flat_map}
use Rattle.std.proofs.Math.Seq.{drop-append_seam, drop-length}
use Rattle.mt_base.specs.declared.kinds.Kind.TheVariants.{Reliable, Lossy}
use Rattle.mt_base.specs.declared.kinds.Role.{Role}
use Rattle.mt_base.specs.Trace.{Trace, ◌▷◌}
use Rattle.mt_windows.specs.declared.limits.TheConstants.{QUEUE}
use Rattle.carrier.specs.declared.state.LinkState.{LinkState}
use Rattle.carrier.specs.Entries as link
use Rattle.mt_endpoint.specs.Acts.{Act}
use Rattle.mt_endpoint.specs.Alone.{EndOfActs}
use Rattle.mt_endpoint.specs.Resting.{Rests}
use Rattle.mt_endpoint.specs.Tunnels.{is_attached, is_silent}
use Rattle.mt_endpoint.specs.Writing.{carried, tunneled}
use Rattle.end_calls.specs.Calls.{after_bytes, lacking}
use Rattle.end_calls.specs.Law.{IsFront, shorter, whole}
use Rattle.end_calls.specs.Links.{gives_all, gives_bytes, gives_joined}
use Rattle.end_calls.specs.Streams.{Past, written}
use Rattle.end_calls.proofs.Fronts.{front_carried}
use Rattle.end_calls.proofs.Onward.{front_then, goes_bytes}
use Rattle.end_session.specs.Giving.{all_given}
use Rattle.end_session.specs.Outgoing.{emptied, waiting_for}
use Rattle.end_session.specs.Standing.{Gone, Stands}
use Rattle.end_session.specs.Store.{Store}
use Rattle.end_reader.specs.Standing.{GoesTo, Reads, came, lacked}
use Rattle.end_reader.specs.Taking.{TookMain}
use Rattle.end_reader.specs.declared.reader.Reader.{Reader}
use Rattle.endpoint.specs.Attached.{is_closed}
use Rattle.endpoint.specs.OnWay.{IsFrameLack, LinkAt, LinkOff, LinkOn, OnWay, Reached}
use Rattle.endpoint.proofs.Added.{waits_by}
use Rattle.endpoint.proofs.FrameActs.{OfFrames, attached_still, draws_still, frames_between, frames_bytes, frames_front, silent_still}
use Rattle.endpoint.proofs.FrameWrites.{silent_unwritten, undrawn_unwritten}
use Rattle.endpoint.proofs.Left.{waits_more}

-- ---- what the reader came to

record Took (role : Role) (p : Past) (bytes : List ℕ) (count : ℕ) (gone : Gone) (r : Reader) : Type 0 where
  lack : Option (Trace Act)
  lacks : IsFrameLack role p bytes count lack
  reads : Reads r (lacking lack (after_bytes role p (take count bytes))) gone

of_took : (role : Role) (p : Past) (bytes : List ℕ) (count : ℕ) (gone : Gone) (r : Reader) → GoesTo (after_bytes role p (take (count - 1) bytes)) (after_bytes role p (take count bytes)) gone r → Took role p bytes count gone r
of_took role p bytes count gone r (came reads) = record { lack = None; lacks = tt; reads = reads }
of_took role p bytes count gone r (lacked reached lack reads) = record { lack = Some reached; lacks = lack; reads = reads }

pub frames_took : (role : Role) (p : Past) (bytes : List ℕ) (count : ℕ) (lack : Option (Trace Act)) → IsFrameLack role p bytes count lack → OfFrames p.acts (lacking lack (after_bytes role p (take count bytes))).acts
frames_took role p bytes count None h = frames_bytes role (take count bytes) p
frames_took role p bytes count (Some reached) h =
    let before = after_bytes role p (take (count - 1) bytes) in
    let after = after_bytes role p (take count bytes) in
    frames_between p.acts reached after.acts (front_then p.acts before.acts reached (goes_bytes role (take (count - 1) bytes) p) h.begun)
    (front_then reached (reached ▷ h.next) after.acts (shorter reached reached h.next (whole reached)) h.due) (frames_bytes role (take count bytes) p)

-- ---- what waits for the reliable link

pub written_behind : (role : Role) (p q : Past) → IsFront p.acts q.acts → carried Reliable role q.acts ≡ carried Reliable role p.acts ++ written Reliable role p q
written_behind role p q f =
    let front = front_carried Reliable role p.acts q.acts f in
    let old = carried Reliable role p.acts in
    front.1 ∙ ap (λ xs. old ++ xs) (sym (ap (drop (length old)) front.1 ∙ drop-append_seam old front.0))

pub waits_now : (role : Role) (p q : Past) (gone : Gone) (s now : Store) → s.role ≡ role → now.role ≡ role → Stands s p.acts gone → Stands now q.acts gone → waiting_for Reliable s.outgoing ≡ [] → IsFront p.acts q.acts
    → waiting_for Reliable now.outgoing ≡ flat_map tunneled (written Reliable role p q)
waits_now role p q gone s now is now_is before behind none f =
    waits_more (carried Reliable role p.acts) (carried Reliable role q.acts) gone.reliable (written Reliable role p q) (s.outgoing).reliable (now.outgoing).reliable (written_behind role p q f) (waits_by s role p.acts gone is before).reliable_waits
    (waits_by now role q.acts gone now_is behind).reliable_waits
    ∙ ap (λ b. b ++ flat_map tunneled (written Reliable role p q)) none

pub none_written : (role : Role) (p q : Past) → carried Reliable role q.acts ≡ carried Reliable role p.acts → written Reliable role p q ≡ []
none_written role p q same = ap (drop (length (carried Reliable role p.acts))) same ∙ drop-length (carried Reliable role p.acts)

-- ---- the link

pub on_link : {L : Type 0} (stands : L → Trace link.Entry → Type 0) (left : L → List ℕ) (condition : L → LinkState) (load : L → ℕ) (unread : List ℕ) (role : Role) (p q : Past) (l : Trace link.Entry) (queued : ℕ) (c now : L) (bytes : List ℕ)
    → LinkOn stands left condition load unread p l queued c → is_attached Reliable q.acts ≡ is_attached Reliable p.acts → is_silent Reliable q.acts ≡ is_silent Reliable p.acts → (is_silent Reliable p.acts ≡ true → carried Reliable role q.acts ≡ carried Reliable role p.acts)
    → bytes ≡ flat_map tunneled (written Reliable role p q) → length bytes ≤ 2304 → load c + 3072 ≤ QUEUE
    → ((t : Trace link.Entry) → stands c t → is_closed (condition c) ≡ false → load c + length bytes ≤ QUEUE → stands now (gives_bytes bytes t)) → (is_closed (condition c) ≡ false → load c + length bytes ≤ QUEUE → load now ≡ load c + length bytes)
    → (bytes ≡ [] → now ≡ c) → left now ≡ left c → condition now ≡ condition c
    → LinkOn stands left condition load unread q (gives_all Reliable role p q l) (queued + length (flat_map tunneled (written Reliable role p q))) now
on_link stands left condition load unread role p q l queued c now bytes on attached_same silent_same unwritten are few free trace more none left_same state_same = by_silent (is_silent Reliable p.acts) refl where
  attached : is_attached Reliable q.acts ≡ true
  attached = attached_same ∙ on.attached

  is_open : is_silent Reliable q.acts ≡ false → is_closed (condition now) ≡ false
  is_open = λ loud. ap is_closed state_same ∙ on.is_open (sym silent_same ∙ loud)

  by_silent : (b : Bool) → is_silent Reliable p.acts ≡ b → LinkOn stands left condition load unread q (gives_all Reliable role p q l) (queued + length (flat_map tunneled (written Reliable role p q))) now
  by_silent true e =
      let nothing : written Reliable role p q ≡ [] = none_written role p q (unwritten e) in
      let same : now ≡ c = none (are ∙ ap (flat_map tunneled) nothing) in record {
        attached = attached;
        called = subst (λ ds. stands now (gives_joined Reliable ds l)) (sym nothing) (subst (λ x. stands x l) (sym same) on.called);
        left_is = left_same ∙ on.left_is;
        is_open = is_open;
        load_is = omega (arith, ap load same, on.load_is, ap (λ ds. length (flat_map tunneled ds)) nothing);
      }
  by_silent false e =
      let unclosed = on.is_open e in
      let fits : load c + length bytes ≤ QUEUE = omega (arith, few, free) in record {
        attached = attached;
        called = subst (λ b. stands now (gives_bytes b l)) are (trace l on.called unclosed fits);
        left_is = left_same ∙ on.left_is;
        is_open = is_open;
        load_is = omega (arith, more unclosed fits, on.load_is, ap (λ (b : List ℕ). length b) are);
      }

off_link : (unread : List ℕ) (role : Role) (p q : Past) (l : Trace link.Entry) → LinkOff unread p l → OfFrames p.acts q.acts → EndOfActs role q.acts → LinkOff unread q (gives_all Reliable role p q l)
off_link unread role p q l off f law = record {
  unattached = attached_still Reliable p.acts q.acts f ∙ off.unattached;
  uncalled = ap (λ ds. gives_joined Reliable ds l) (none_written role p q (undrawn_unwritten role p.acts q.acts f law off.undrawn)) ∙ off.uncalled;
  undrawn = draws_still Reliable p.acts q.acts f ∙ off.undrawn;
  unread_is = off.unread_is;
}

-- ---- what was given no longer waits

pub reads_given : (r : Reader) (s : Store) (q : Past) (gone : Gone) → Reads r q gone → Stands s q.acts (all_given (r.session).role Reliable q.acts gone) → s ≡ record r.session { outgoing = emptied Reliable (r.session).outgoing }
    → Reads (record { session = s; main = r.main; tunnel = r.tunnel }) q (all_given (r.session).role Reliable q.acts gone)
reads_given r s q gone rd st left =
    let role_is : s.role ≡ (r.session).role = ap (λ (x : Store). x.role) left in record {
      stands = st;
      broken_is = ap (λ (x : Store). x.broken) left ∙ rd.broken_is;
      main_is = rd.main_is;
      tunnel_is = rd.tunnel_is;
      main_waits = rd.main_waits;
      tunnel_waits = rd.tunnel_waits;
      rests = λ w. subst (λ x. Rests x q.acts) (sym role_is) (rd.rests w);
      quiet = λ w client. rd.quiet w (sym role_is ∙ client);
    }

lawful_by : (role : Role) (r : Reader) (q : Past) (gone : Gone) → (r.session).role ≡ role → Reads r q gone → EndOfActs role q.acts
lawful_by role r q gone is rd = subst (λ x. EndOfActs x q.acts) is ((rd.stands).knows).lawful

-- ---- both together

pub reached_with : {L : Type 0} (stands : L → Trace link.Entry → Type 0) (left : L → List ℕ) (condition : L → LinkState) (load : L → ℕ) (unread sent : List ℕ) (role : Role) (p : Past) (l : Trace link.Entry) (queued : ℕ) (r read : Reader) (s : Store) (o : Option L) (c now : L) (bytes waiting : List ℕ) (count : ℕ)
    → o ≡ Some c → OnWay stands left condition load unread sent role p l queued r o → IfSome o (λ x. load x + 3072 ≤ QUEUE)
    → ((p : Past) (gone : Gone) → Reads r p gone → TookMain (r.session).role p bytes count gone read) → (read.session).role ≡ (r.session).role → length (waiting_for Reliable (read.session).outgoing) ≤ 2304
    → waiting_for Lossy (read.session).outgoing ≡ waiting_for Lossy (r.session).outgoing → waiting ≡ waiting_for Reliable (read.session).outgoing
    → ((t : Trace link.Entry) → stands c t → is_closed (condition c) ≡ false → load c + length waiting ≤ QUEUE → stands now (gives_bytes waiting t)) → (is_closed (condition c) ≡ false → load c + length waiting ≤ QUEUE → load now ≡ load c + length waiting)
    → (waiting ≡ [] → now ≡ c) → left now ≡ left c → condition now ≡ condition c
    → ((t : Trace Act) (gone : Gone) → Stands read.session t gone → Stands s t (all_given (read.session).role Reliable t gone)) → s ≡ record read.session { outgoing = emptied Reliable (read.session).outgoing }
    → Reached stands left condition load unread sent role p l queued bytes count (record { session = s; main = read.main; tunnel = read.tunnel }) (Some now)
reached_with stands left condition load unread sent role p l queued r read s o c now bytes waiting count some way free took same few lossy waits trace more none left_same state_same given left_is =
    let gone = way.gone in
    let here = subst (λ x. TookMain x p bytes count gone read) way.role_is (took p gone way.reads) in
    let t = of_took role p bytes count gone read here in
    let q = lacking t.lack (after_bytes role p (take count bytes)) in
    let is : (read.session).role ≡ role = same ∙ way.role_is in
    let f = frames_took role p bytes count t.lack t.lacks in
    let law = lawful_by role read q gone is t.reads in
    let are = waits ∙ waits_now role p q gone r.session read.session way.role_is is (way.reads).stands (t.reads).stands way.reliable_waits (frames_front p.acts q.acts f) in
    let on : LinkOn stands left condition load unread p l queued c = subst (LinkAt stands left condition load unread p l queued) some way.has_link in
    let room : load c + 3072 ≤ QUEUE = subst (λ x. IfSome x (λ x. load x + 3072 ≤ QUEUE)) some free in record {
      lack = t.lack;
      lacks = t.lacks;
      way = record {
        gone = all_given (read.session).role Reliable q.acts gone;
        gone_is = way.gone_is;
        reads = reads_given read s q gone t.reads (given q.acts gone (t.reads).stands) left_is;
        role_is = ap (λ (x : Store). x.role) left_is ∙ is;
        reliable_waits = ap (λ (x : Store). waiting_for Reliable x.outgoing) left_is;
        lossy_waits = ap (λ (x : Store). waiting_for Lossy x.outgoing) left_is ∙ lossy ∙ way.lossy_waits;
        has_link = on_link stands left condition load unread role p q l queued c now waiting on (attached_still Reliable p.acts q.acts f) (silent_still Reliable p.acts q.acts f) (silent_unwritten role p.acts q.acts f law) are (subst (λ b. length b ≤ 2304) (sym waits) few) room trace more none left_same state_same;
      };
    }

pub reached_alone : {L : Type 0} (stands : L → Trace link.Entry → Type 0) (left : L → List ℕ) (condition : L → LinkState) (load : L → ℕ) (unread sent : List ℕ) (role : Role) (p : Past) (l : Trace link.Entry) (queued : ℕ) (r read : Reader) (o : Option L) (bytes : List ℕ) (count : ℕ)
    → o ≡ None → OnWay stands left condition load unread sent role p l queued r o
    → ((p : Past) (gone : Gone) → Reads r p gone → TookMain (r.session).role p bytes count gone read) → (read.session).role ≡ (r.session).role
    → waiting_for Lossy (read.session).outgoing ≡ waiting_for Lossy (r.session).outgoing
    → Reached stands left condition load unread sent role p l queued bytes count read o
reached_alone stands left condition load unread sent role p l queued r read o bytes count none way took same lossy =
    let gone = way.gone in
    let here = subst (λ x. TookMain x p bytes count gone read) way.role_is (took p gone way.reads) in
    let t = of_took role p bytes count gone read here in
    let q = lacking t.lack (after_bytes role p (take count bytes)) in
    let is : (read.session).role ≡ role = same ∙ way.role_is in
    let f = frames_took role p bytes count t.lack t.lacks in
    let law = lawful_by role read q gone is t.reads in
    let off : LinkOff unread p l = subst (LinkAt stands left condition load unread p l queued) none way.has_link in
    let nothing : written Reliable role p q ≡ [] = none_written role p q (undrawn_unwritten role p.acts q.acts f law off.undrawn) in
    let after = off_link unread role p q l off f law in record {
      lack = t.lack;
      lacks = t.lacks;
      way = record {
        gone = gone;
        gone_is = way.gone_is;
        reads = t.reads;
        role_is = is;
        reliable_waits =
            waits_now role p q gone r.session read.session way.role_is is (way.reads).stands (t.reads).stands way.reliable_waits (frames_front p.acts q.acts f) ∙ ap (flat_map tunneled) nothing;
        lossy_waits = lossy ∙ way.lossy_waits;
        has_link = subst (LinkAt stands left condition load unread q (gives_all Reliable role p q l) (queued + length (flat_map tunneled (written Reliable role p q)))) (sym none) after;
      };
    }
