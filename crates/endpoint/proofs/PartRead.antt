-- An end on its way through parts, behind one part more.
use Rattle.std.proofs.Common.{◌≡◌, ◌+◌, ◌<◌, ◌≤◌, ℕ, Bool, false, nat_le, List, [], ◌∷◌, ◌++◌, length, Some, refl, sym, ap, subst, ◌∙◌}
use Rattle.std.specs.List.{flat_map}
use Rattle.std.proofs.lemmas.Bool.{leb-false}
use Rattle.mt_base.specs.declared.kinds.Kind.TheVariants.{Reliable, Lossy}
use Rattle.mt_base.specs.declared.kinds.Role.{Role}
use Rattle.mt_base.specs.Trace.{Trace, ◌▷◌}
use Rattle.mt_windows.specs.declared.limits.TheConstants.{WINDOW}
use Rattle.carrier.specs.declared.state.LinkState.{LinkState}
use Rattle.carrier.specs.Entries as link
use Rattle.mt_endpoint.specs.Acts.{Act}
use Rattle.mt_endpoint.specs.Resting.{Rests}
use Rattle.mt_endpoint.specs.Writing.{carried, tunneled}
use Rattle.end_calls.specs.Calls.{lacking}
use Rattle.end_calls.specs.Law.{IsFront}
use Rattle.end_calls.specs.Streams.{Past, with_part, written}
use Rattle.end_calls.proofs.Onward.{goes_part}
use Rattle.end_session.specs.Giving.{all_given}
use Rattle.end_session.specs.Outgoing.{emptied, waiting_for}
use Rattle.end_session.specs.Standing.{Gone, Stands}
use Rattle.end_session.specs.Store.{Store}
use Rattle.end_reader.specs.Standing.{GoesTo, Reads}
use Rattle.end_reader.specs.declared.reader.Reader.{Reader}
use Rattle.endpoint.specs.Attached.{is_closed, posts_bytes}
use Rattle.endpoint.specs.Handed.{OnePart, PartWay, SomePart}
use Rattle.endpoint.proofs.Added.{waits_by}
use Rattle.endpoint.proofs.FrameRead.{waits_now}
use Rattle.endpoint.proofs.Left.{waits_more}
use Rattle.endpoint.proofs.PartWrites.{few_bytes, part_posted, part_wrote}
use Rattle.endpoint.proofs.PullActs.{behind_lack, still_part}
use Rattle.endpoint.proofs.PullRead.{none_drawn, of_goes, written_on}

-- ---- what waits behind a part

lossy_now : (role : Role) (p q : Past) (gone : Gone) (s now : Store) → s.role ≡ role → now.role ≡ role → Stands s p.acts gone → Stands now q.acts gone → waiting_for Lossy s.outgoing ≡ [] → IsFront p.acts q.acts
    → waiting_for Lossy now.outgoing ≡ flat_map tunneled (written Lossy role p q)
lossy_now role p q gone s now is now_is before behind none f =
    waits_more (carried Lossy role p.acts) (carried Lossy role q.acts) gone.lossy (written Lossy role p q) (s.outgoing).lossy (now.outgoing).lossy (written_on Lossy role p q f) (waits_by s role p.acts gone is before).lossy_waits
    (waits_by now role q.acts gone now_is behind).lossy_waits
    ∙ ap (λ b. b ++ flat_map tunneled (written Lossy role p q)) none

-- it fits one part
pub part_fits : {L : Type 0} (stands : L → Trace link.Entry → Type 0) (left : L → List (List ℕ)) (condition : L → LinkState) (r read : Reader) (c : L) (part : List ℕ) (is_full : Bool)
    → SomePart stands left condition r c → ((p : Past) (gone : Gone) → Reads r p gone → GoesTo p (with_part (r.session).role p part is_full) gone read) → (read.session).role ≡ (r.session).role
    → length (waiting_for Lossy (read.session).outgoing) ≤ 1000
part_fits stands left condition r read c part is_full some took same =
    let role = (r.session).role in
    let p = some.3 in
    let way = some.5 in
    let t = of_goes p (with_part role p part is_full) way.gone read (took p way.gone way.reads) in
    let q = lacking t.lack (with_part role p part is_full) in
    let f = behind_lack p (with_part role p part is_full) t.lack t.lacks (goes_part role p part is_full) in
    subst (λ b. length b ≤ 1000) (sym (lossy_now role p q way.gone r.session read.session refl same (way.reads).stands (t.reads).stands way.lossy_waits f))
    (few_bytes role is_full p q (part_wrote role p part is_full t.lack t.lacks))

-- ---- what was posted no longer waits

reads_posted : (r : Reader) (s : Store) (q : Past) (gone : Gone) → Reads r q gone → Stands s q.acts (all_given (r.session).role Lossy q.acts gone) → s ≡ record r.session { outgoing = emptied Lossy (r.session).outgoing }
    → Reads (record { session = s; main = r.main; tunnel = r.tunnel }) q (all_given (r.session).role Lossy q.acts gone)
reads_posted r s q gone rd st left =
    let role_is : s.role ≡ (r.session).role = ap (λ (x : Store). x.role) left in record {
      stands = st;
      broken_is = ap (λ (x : Store). x.broken) left ∙ rd.broken_is;
      main_is = rd.main_is;
      tunnel_is = rd.tunnel_is;
      main_waits = rd.main_waits;
      tunnel_waits = rd.tunnel_waits;
      rests = λ w. subst (λ x. Rests x q.acts) (sym role_is) (rd.rests w);
      quiet = λ w client. rd.quiet w (sym role_is ∙ client);
    }

-- ---- one part

pub one_part : {L : Type 0} (stands : L → Trace link.Entry → Type 0) (left : L → List (List ℕ)) (condition : L → LinkState) (load : L → ℕ) (unhanded : List (List ℕ)) (sent : List ℕ) (role : Role) (p : Past) (m : Trace link.Entry) (r read : Reader) (s : Store) (c drawn now : L) (part waiting : List ℕ) (is_full : Bool)
    → PartWay stands left condition unhanded sent role p m r c → is_full ≡ nat_le WINDOW (load c)
    → left c ≡ part ∷ left drawn → ((t : Trace link.Entry) → stands c t → stands drawn (t ▷ link.Next (Some part))) → load drawn ≡ load c → condition drawn ≡ condition c
    → ((p : Past) (gone : Gone) → Reads r p gone → GoesTo p (with_part (r.session).role p part is_full) gone read) → (read.session).role ≡ (r.session).role
    → waiting_for Reliable (read.session).outgoing ≡ waiting_for Reliable (r.session).outgoing → waiting ≡ waiting_for Lossy (read.session).outgoing
    → ((t : Trace link.Entry) → stands drawn t → is_closed (condition drawn) ≡ false → load drawn < WINDOW → stands now (posts_bytes waiting t))
    → (waiting ≡ [] → now ≡ drawn) → load now ≤ load drawn + 1 → left now ≡ left drawn → condition now ≡ condition drawn
    → ((t : Trace Act) (gone : Gone) → Stands read.session t gone → Stands s t (all_given (read.session).role Lossy t gone)) → s ≡ record read.session { outgoing = emptied Lossy (read.session).outgoing }
    → OnePart stands left condition load c unhanded sent role p m (record { session = s; main = read.main; tunnel = read.tunnel }) now
one_part stands left condition load unhanded sent role p m r read s c drawn now part waiting is_full way full hands handed load_is state_is took same reliable waits trace none loads left_same state_same given given_is =
    let gone = way.gone in
    let after = with_part role p part is_full in
    let here = subst (λ x. GoesTo p (with_part x p part is_full) gone read) way.role_is (took p gone way.reads) in
    let t = of_goes p after gone read here in
    let q = lacking t.lack after in
    let is : (read.session).role ≡ role = same ∙ way.role_is in
    let f = behind_lack p after t.lack t.lacks (goes_part role p part is_full) in
    let still = still_part role p part is_full t.lack t.lacks in
    let are = waits ∙ lossy_now role p q gone r.session read.session way.role_is is (way.reads).stands (t.reads).stands way.lossy_waits f in
    let no_more = waits_now role p q gone r.session read.session way.role_is is (way.reads).stands (t.reads).stands way.reliable_waits f in record {
      part = record { bytes = part; is_full = is_full };
      rest = left drawn;
      unhanded_is = sym way.left_is ∙ hands;
      lack = t.lack;
      lacks = t.lacks;
      way = record {
        gone = all_given (read.session).role Lossy q.acts gone;
        gone_is = way.gone_is;
        reads = reads_posted read s q gone t.reads (given q.acts gone (t.reads).stands) given_is;
        role_is = ap (λ (x : Store). x.role) given_is ∙ is;
        reliable_waits = ap (λ (x : Store). waiting_for Reliable x.outgoing) given_is ∙ reliable ∙ way.reliable_waits;
        lossy_waits = ap (λ (x : Store). waiting_for Lossy x.outgoing) given_is;
        attached = still.attached Lossy ∙ way.attached;
        called =
            part_posted stands condition load role is_full p q (m ▷ link.Next (Some part)) drawn now waiting (part_wrote role p part is_full t.lack t.lacks) are (handed m way.called) (λ loud. ap is_closed state_is ∙ way.is_open loud)
            (λ free. subst (λ n. n < WINDOW) (sym load_is) (leb-false WINDOW (load c) (sym full ∙ free))) trace none;
        left_is = left_same;
        is_open = λ loud. ap is_closed state_same ∙ ap is_closed state_is ∙ way.is_open (sym (still.silent Lossy) ∙ loud);
      };
      none_reliable = none_drawn (written Reliable role p q) (sym no_more ∙ reliable ∙ way.reliable_waits);
      is_full = full;
      loads_one = subst (λ n. load now ≤ n + 1) load_is loads;
    }
