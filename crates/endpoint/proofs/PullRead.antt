-- An end on its way, behind one pull more.
use Rattle.std.proofs.Common.{◌≡◌, ℕ, ◌+◌, ◌<◌, ◌≤◌, Bool, true, false, not, eqb, ltb, List, [], ◌∷◌, ◌++◌, length, take, drop, min, Option, Some, None, refl, sym, ap, subst, ◌∙◌, arith, length-append, Ok}
use Rattle.std.specs.List.{flat_map, fold}
use Rattle.std.proofs.Math.Seq.{drop-append_seam}
use Rattle.std.proofs.lemmas.Bool.{eqb-true, eqb-false, lt-ltb, le-ltb}
use Rattle.std.proofs.lemmas.List.{length-take, take_min}
use Rattle.mt_base.specs.declared.kinds.Kind.{Kind}
use Rattle.mt_base.specs.declared.kinds.Kind.TheVariants.{Reliable, Lossy}
use Rattle.mt_base.specs.declared.kinds.Role.{Role}
use Rattle.mt_base.specs.Trace.{Trace, ◌▷◌}
use Rattle.mt_windows.specs.declared.limits.TheConstants.{QUEUE}
use Rattle.carrier.specs.declared.state.LinkState.{LinkState}
use Rattle.carrier.specs.Entries as link
use Rattle.mt_endpoint.specs.Acts.{Act, Carried, CreateAnswered, CreateAsked, Drawn, Nothing}
use Rattle.mt_endpoint.specs.Writing.{carried, tunneled}
use Rattle.end_calls.specs.Calls.{lacking}
use Rattle.end_calls.specs.Law.{IsFront}
use Rattle.end_calls.specs.Links.{gives_bytes}
use Rattle.end_calls.specs.Stops.{is_empty, wants}
use Rattle.end_calls.specs.declared.fault.Fault.TheVariants as fault
use Rattle.end_reader.specs.Wanting.{GoesOn}
use Rattle.tunnel_pdus.specs.Reading.{reading}
use Rattle.tunnel_pdus.specs.declared.part.Part.TheVariants.{More}
use Rattle.endpoint.proofs.UnderWay.{none_made}
use Rattle.end_calls.specs.Streams.{Past, with_tunnel, written}
use Rattle.end_calls.proofs.Fronts.{front_carried}
use Rattle.end_calls.proofs.Onward.{goes_run}
use Rattle.end_session.specs.Giving.{all_given}
use Rattle.end_session.specs.Outgoing.{emptied, waiting_for}
use Rattle.end_session.specs.Standing.{Gone, Stands}
use Rattle.end_session.specs.Store.{Store}
use Rattle.end_reader.specs.Standing.{GoesTo, Reads, came, lacked}
use Rattle.end_reader.specs.declared.reader.Reader.{Reader}
use Rattle.endpoint.specs.Attached.{is_closed}
use Rattle.endpoint.specs.OnWay.{LinkOn, OnWay}
use Rattle.endpoint.specs.Pulled.{IsReadLack, OnePull}
use Rattle.endpoint.proofs.Added.{waits_by}
use Rattle.endpoint.proofs.FrameRead.{on_link, reads_given, waits_now}
use Rattle.endpoint.proofs.Left.{waits_more}
use Rattle.endpoint.proofs.PullActs.{behind_lack, still_pulled}

-- ---- what the reader came to

pub record Took (p q : Past) (gone : Gone) (r : Reader) : Type 0 where
  pub lack : Option (Trace Act)
  pub lacks : IsReadLack p q lack
  pub reads : Reads r (lacking lack q) gone

pub of_goes : (p q : Past) (gone : Gone) (r : Reader) → GoesTo p q gone r → Took p q gone r
of_goes p q gone r (came reads) = record { lack = None; lacks = tt; reads = reads }
of_goes p q gone r (lacked reached lack reads) = record { lack = Some reached; lacks = lack; reads = reads }

-- ---- nothing that waits is nothing that was written

some_tunneled : (d : Drawn) → 0 < length (tunneled d)
some_tunneled (CreateAsked id cookie) = omega arith
some_tunneled (CreateAnswered hr) = omega arith
some_tunneled Nothing = omega arith
some_tunneled (Carried bytes pdu) = omega arith

pub none_drawn : (ds : List Drawn) → flat_map tunneled ds ≡ [] → ds ≡ []
none_drawn [] e = refl
none_drawn (d ∷ ds) e = absurd (omega (arith, some_tunneled d, ap length e, length-append (tunneled d) (flat_map tunneled ds)))

pub written_on : (kind : Kind) (role : Role) (p q : Past) → IsFront p.acts q.acts → carried kind role q.acts ≡ carried kind role p.acts ++ written kind role p q
written_on kind role p q f =
    let front = front_carried kind role p.acts q.acts f in
    let old = carried kind role p.acts in
    front.1 ∙ ap (λ xs. old ++ xs) (sym (ap (drop (length old)) front.1 ∙ drop-append_seam old front.0))

-- where nothing waits for the lossy link before and behind, nothing was written for it
pub none_lossy : (role : Role) (p q : Past) (gone : Gone) (s now : Store) → s.role ≡ role → now.role ≡ role → Stands s p.acts gone → Stands now q.acts gone → IsFront p.acts q.acts
    → waiting_for Lossy s.outgoing ≡ [] → waiting_for Lossy now.outgoing ≡ [] → written Lossy role p q ≡ []
none_lossy role p q gone s now is now_is before behind f none none_now =
    none_drawn (written Lossy role p q)
    (ap (λ b. b ++ flat_map tunneled (written Lossy role p q)) (sym none)
    ∙ sym (waits_more (carried Lossy role p.acts) (carried Lossy role q.acts) gone.lossy (written Lossy role p q) (s.outgoing).lossy (now.outgoing).lossy (written_on Lossy role p q f) (waits_by s role p.acts gone is before).lossy_waits
    (waits_by now role q.acts gone now_is behind).lossy_waits)
    ∙ none_now)

-- ---- one pull

whole_is : (count room : ℕ) → count ≤ room → eqb count room ≡ not (ltb count room)
whole_is count room h = by_test (eqb count room) refl where
  by_test : (b : Bool) → eqb count room ≡ b → b ≡ not (ltb count room)
  by_test true e = let same = eqb-true count room e in sym (ap not (le-ltb count room (omega (arith, same))))
  by_test false e = let off = eqb-false count room e in sym (ap not (lt-ltb count room (omega (arith, off, h))))

none_behind : (role : Role) (p : Past) (got : List ℕ) (lack : Option (Trace Act)) → p.broken ≡ None → ((need : ℕ) → reading p.tunnel.bytes ≡ Ok (More need) → (length p.tunnel.bytes < need) × GoesOn reading p.tunnel.bytes need)
    → (need : ℕ) × (reading p.tunnel.bytes ≡ Ok (More need)) → length got ≤ wants p.tunnel.bytes → (lacking lack (fold (with_tunnel role) p got)).broken ≡ None → is_empty (lacking lack (fold (with_tunnel role) p got)).tunnel.bytes ≡ false
    → (lacking lack (fold (with_tunnel role) p got)).acts ≡ p.acts
none_behind role p got None whole on waits few fine some = let o = on waits.0 waits.1 in none_made role p waits.0 got whole waits.1 o.0 o.1 few fine some
none_behind role p got (Some reached) whole on waits few fine some = absurd (let bad : Some fault.NoMemory ≡ None = fine in cc)

pub one_pull : {L : Type 0} (stands : L → Trace link.Entry → Type 0) (left : L → List ℕ) (condition : L → LinkState) (load : L → ℕ) (unread sent : List ℕ) (role : Role) (p : Past) (l : Trace link.Entry) (queued : ℕ) (r read : Reader) (s : Store) (c drawn now : L) (wanted count : ℕ) (got waiting : List ℕ)
    → OnWay stands left condition load unread sent role p l queued r (Some c) → (r.session).broken ≡ None → load c + 3072 ≤ QUEUE
    → wanted ≡ wants (r.tunnel).bytes → ((p : Past) (gone : Gone) → Reads r p gone → (r.session).broken ≡ None → 0 < wanted)
    → ((need : ℕ) → reading (r.tunnel).bytes ≡ Ok (More need) → (length (r.tunnel).bytes < need) × GoesOn reading (r.tunnel).bytes need)
    → count ≡ min wanted (length (left c)) → got ≡ take count (left c) → left drawn ≡ drop count (left c) → ((t : Trace link.Entry) → stands c t → stands drawn (t ▷ link.Pulled wanted got)) → load drawn ≡ load c → condition drawn ≡ condition c
    → ((p : Past) (gone : Gone) → Reads r p gone → GoesTo p (fold (with_tunnel (r.session).role) p got) gone read) → (read.session).role ≡ (r.session).role → length (waiting_for Reliable (read.session).outgoing) ≤ 2304
    → waiting_for Lossy (read.session).outgoing ≡ waiting_for Lossy (r.session).outgoing → waiting ≡ waiting_for Reliable (read.session).outgoing
    → ((t : Trace link.Entry) → stands drawn t → is_closed (condition drawn) ≡ false → load drawn + length waiting ≤ QUEUE → stands now (gives_bytes waiting t))
    → (is_closed (condition drawn) ≡ false → load drawn + length waiting ≤ QUEUE → load now ≡ load drawn + length waiting)
    → (waiting ≡ [] → now ≡ drawn) → left now ≡ left drawn → condition now ≡ condition drawn
    → ((t : Trace Act) (gone : Gone) → Stands read.session t gone → Stands s t (all_given (read.session).role Reliable t gone)) → s ≡ record read.session { outgoing = emptied Reliable (read.session).outgoing }
    → OnePull stands left condition load unread sent role p l queued (eqb count wanted) (record { session = s; main = read.main; tunnel = read.tunnel }) now
one_pull stands left condition load unread sent role p l queued r read s c drawn now wanted count got waiting way fine free wanted_is some wants_on count_is got_is left_is pulled load_is state_is took same few lossy waits trace more none left_same state_same given given_is =
    let gone = way.gone in
    let unbroken : p.broken ≡ None = sym (way.reads).broken_is ∙ fine in
    let here = subst (λ x. GoesTo p (fold (with_tunnel x) p got) gone read) way.role_is (took p gone way.reads) in
    let t = of_goes p (fold (with_tunnel role) p got) gone read here in
    let q = lacking t.lack (fold (with_tunnel role) p got) in
    let is : (read.session).role ≡ role = same ∙ way.role_is in
    let f = behind_lack p (fold (with_tunnel role) p got) t.lack t.lacks (goes_run role got p) in
    let still = still_pulled role p got t.lack t.lacks in
    let on : LinkOn stands left condition load unread p l queued c = way.has_link in
    let long : length got ≡ count = ap length got_is ∙ length-take count (left c) ∙ omega (arith, count_is) in
    let are = waits ∙ waits_now role p q gone r.session read.session way.role_is is (way.reads).stands (t.reads).stands way.reliable_waits f in
    let kept : (r.tunnel).bytes ≡ p.tunnel.bytes = ((way.reads).tunnel_is unbroken).bytes_are in
    let onto : LinkOn stands left condition load (drop (length got) unread) p (l ▷ link.Pulled wanted got) queued drawn = record {
      attached = on.attached;
      called = pulled l on.called;
      left_is = left_is ∙ ap (λ n. drop n (left c)) (sym long) ∙ ap (drop (length got)) on.left_is;
      is_open = λ loud. ap is_closed state_is ∙ on.is_open loud;
      load_is = load_is ∙ on.load_is;
    } in record {
      pull = record { room = wanted; bytes = got };
      room_is = wanted_is ∙ ap wants ((way.reads).tunnel_is unbroken).bytes_are;
      some = some p gone way.reads fine;
      bytes_are = got_is ∙ ap (λ n. take n (left c)) count_is ∙ take_min wanted (left c) ∙ ap (take wanted) on.left_is;
      whole_is = whole_is count wanted (omega (arith, count_is)) ∙ ap (λ n. not (ltb n wanted)) (sym long);
      lack = t.lack;
      lacks = t.lacks;
      way = record {
        gone = all_given (read.session).role Reliable q.acts gone;
        gone_is = way.gone_is;
        reads = reads_given read s q gone t.reads (given q.acts gone (t.reads).stands) given_is;
        role_is = ap (λ (x : Store). x.role) given_is ∙ is;
        reliable_waits = ap (λ (x : Store). waiting_for Reliable x.outgoing) given_is;
        lossy_waits = ap (λ (x : Store). waiting_for Lossy x.outgoing) given_is ∙ lossy ∙ way.lossy_waits;
        has_link =
            on_link stands left condition load (drop (length got) unread) role p q (l ▷ link.Pulled wanted got) queued drawn now waiting onto (still.attached Reliable) (still.silent Reliable) (still.unwritten Reliable) are (subst (λ b. length b ≤ 2304) (sym waits) few)
            (omega (arith, free, load_is)) trace more none left_same state_same;
      };
      none_lossy = none_lossy role p q gone r.session read.session way.role_is is (way.reads).stands (t.reads).stands f way.lossy_waits (lossy ∙ way.lossy_waits);
      under_way = none_behind role p got t.lack unbroken (λ need known. subst (λ (b : List ℕ). (length b < need) × GoesOn reading b need) kept (wants_on need (ap reading kept ∙ known))) ((way.reads).tunnel_waits unbroken)
          (omega (arith, long, count_is, wanted_is, ap wants kept));
    }
