-- An end that hands out bytes of the main stream.
use Rattle.std.proofs.Common.{◌≡◌, ℕ, ◌≤◌, List, [], ◌++◌, length, take, drop, min, Option, None, Some, refl, sym, ap, subst, ◌∙◌, arith, append_assoc, append-nil, length-append}
use Rattle.std.proofs.lemmas.List.{append_cancel_left, length-take, take_min}
use Rattle.std.proofs.Math.Seq.{take-append_seam}
use Rattle.mt_base.specs.declared.kinds.Kind.{Kind}
use Rattle.mt_base.specs.declared.kinds.Kind.TheVariants.{Reliable, Lossy}
use Rattle.mt_base.specs.declared.kinds.Role.{Role}
use Rattle.mt_base.specs.Trace.{Trace, ◌▷◌}
use Rattle.carrier.specs.declared.state.LinkState.{LinkState}
use Rattle.carrier.specs.Entries as link
use Rattle.mt_endpoint.specs.Acts.{Act}
use Rattle.mt_endpoint.specs.Resting.{Rests}
use Rattle.mt_endpoint.specs.Writing.{carried}
use Rattle.end_calls.specs.Calls.{Entry, MainOut, Postings, acts}
use Rattle.end_calls.specs.Law.{given_main, unhanded, unpulled, unsent}
use Rattle.end_session.specs.Outgoing.{Outgoing}
use Rattle.end_session.specs.Standing.{Gone, Stands, Waits}
use Rattle.end_session.specs.Store.{Store}
use Rattle.end_reader.specs.declared.reader.Reader.{Reader}
use Rattle.endpoint.specs.Attached.{HasLink}
use Rattle.endpoint.specs.Standing.{IsEnd, Tells}
use Rattle.endpoint.proofs.Added.{waits_by}
use Rattle.endpoint.proofs.Left.{none_waits}
use Rattle.endpoint.proofs.Steps.{held_within, unsent_is}

abbrev after : Gone → List ℕ → Gone
after gone bytes = record gone { main = gone.main ++ bytes }

-- fewer bytes wait then
fewer : (role : Role) (o now : Outgoing) (t : Trace Act) (gone : Gone) (bytes : List ℕ) → Waits role o t gone → Waits role now t (after gone bytes) → length now.main ≤ length o.main
fewer role o now t gone bytes before behind =
    let is : o.main ≡ bytes ++ now.main = append_cancel_left gone.main o.main (bytes ++ now.main) (sym before.main_waits ∙ behind.main_waits ∙ append_assoc gone.main bytes now.main) in
    omega (arith, ap length is, length-append bytes now.main)

-- the bytes that were handed out are the first that wait
pub first_waiting : (unsent out now : List ℕ) (count : ℕ) → count ≡ min (length out) (length unsent) → now ≡ take count unsent ++ drop count out → take count now ≡ take (length out) unsent
first_waiting unsent out now count is bytes =
    let long : length (take count unsent) ≡ count = length-take count unsent ∙ omega (arith, is) in
    ap (take count) bytes ∙ ap (λ n. take n (take count unsent ++ drop count out)) (sym long) ∙ take-append_seam (take count unsent) (drop count out) ∙ ap (λ n. take n unsent) is ∙ take_min (length out) unsent

tells_given : (r : Reader) (postings : Postings) (role : Role) (t : Trace Entry) (s : Store) (room : ℕ) (bytes : List ℕ) → (tells : Tells r postings role t) → Stands s (acts role t) (after tells.gone bytes) → s.role ≡ (r.session).role → s.broken ≡ (r.session).broken
    → bytes ≡ take room (unsent role t) → Tells (record r { session = s }) postings role (t ▷ MainOut room bytes)
tells_given r postings role t s room bytes tells st role_is broken_is are =
    let reads = tells.reads in
    let gone = tells.gone in
    let is : s.role ≡ role = role_is ∙ tells.role_is in
    let before = waits_by r.session role (acts role t) gone tells.role_is reads.stands in
    let behind = waits_by s role (acts role t) (after gone bytes) is st in
    let gone_is : gone.main ++ bytes ≡ given_main t ++ bytes = ap (λ m. m ++ bytes) tells.gone_is in
    let unsent_are : unsent role (t ▷ MainOut room bytes) ≡ (s.outgoing).main = unsent_is role (t ▷ MainOut room bytes) (after gone bytes) s gone_is is st in
    let unsent_were = unsent_is role t gone r.session tells.gone_is tells.role_is reads.stands in
    let less = fewer role (r.session).outgoing s.outgoing (acts role t) gone bytes before behind in record {
      law = (
        are,
        record {
          unsent_fits = omega (arith, ap length unsent_are, ap length unsent_were, less, tells.room);
          reliable_fits = held_within role t tells.law Reliable;
          lossy_fits = held_within role t tells.law Lossy;
        },
        tells.law,
      );
      gone = after gone bytes;
      gone_is = gone_is;
      reads = record {
        stands = st;
        broken_is = broken_is ∙ reads.broken_is;
        main_is = reads.main_is;
        tunnel_is = reads.tunnel_is;
        main_waits = reads.main_waits;
        tunnel_waits = reads.tunnel_waits;
        rests = λ b. subst (λ x. Rests x (acts role t)) (sym role_is) (reads.rests b);
        quiet = λ b c. reads.quiet b (sym role_is ∙ c);
      };
      role_is = is;
      room = omega (arith, ap length unsent_are, ap length unsent_were, less, tells.room);
      reliable_waits =
          none_waits (carried Reliable role (acts role t)) (carried Reliable role (acts role t)) gone.reliable [] ((r.session).outgoing).reliable (s.outgoing).reliable (sym (append-nil (carried Reliable role (acts role t)))) refl tells.reliable_waits
          before.reliable_waits behind.reliable_waits;
      lossy_waits =
          none_waits (carried Lossy role (acts role t)) (carried Lossy role (acts role t)) gone.lossy [] ((r.session).outgoing).lossy (s.outgoing).lossy (sym (append-nil (carried Lossy role (acts role t)))) refl tells.lossy_waits before.lossy_waits
          behind.lossy_waits;
      postings_are = tells.postings_are;
    }

-- it is nothing to the links
link_given : {L A : Type 0} (stands : L → Trace link.Entry → Type 0) (left : L → List A) (condition : L → LinkState) (kind : Kind) (unread : List A) (role : Role) (t : Trace Entry) (room : ℕ) (bytes : List ℕ) (l : Option L)
    → HasLink stands left condition kind unread role t l → HasLink stands left condition kind unread role (t ▷ MainOut room bytes) l
link_given stands left condition kind unread role t room bytes (Some l) h = record { attached = h.attached; called = h.called; left_is = h.left_is; is_open = h.is_open }
link_given stands left condition kind unread role t room bytes None h = record { unattached = h.unattached; uncalled = h.uncalled; undrawn = h.undrawn; unread_is = h.unread_is }

pub given : {C P : Type 0} (carrier_stands : C → Trace link.Entry → Type 0) (carrier_left : C → List ℕ) (carrier_condition : C → LinkState) (post_stands : P → Trace link.Entry → Type 0) (post_left : P → List (List ℕ)) (post_condition : P → LinkState) (r : Reader) (postings : Postings) (reliable : Option C) (lossy : Option P) (role : Role) (t : Trace Entry) (s : Store) (out now : List ℕ) (count : ℕ)
    → (e : IsEnd carrier_stands carrier_left carrier_condition post_stands post_left post_condition r postings reliable lossy role t)
    → count ≡ min (length out) (length ((r.session).outgoing).main) → now ≡ take count ((r.session).outgoing).main ++ drop count out
    → Stands s (acts role t) (after (e.tells).gone (take count ((r.session).outgoing).main)) → s.role ≡ (r.session).role → s.broken ≡ (r.session).broken
    → IsEnd carrier_stands carrier_left carrier_condition post_stands post_left post_condition (record r { session = s }) postings reliable lossy role (t ▷ MainOut (length out) (take count now))
given carrier_stands carrier_left carrier_condition post_stands post_left post_condition r postings reliable lossy role t s out now count e is bytes st role_is broken_is =
    let main = ((r.session).outgoing).main in
    let were = unsent_is role t (e.tells).gone r.session (e.tells).gone_is (e.tells).role_is ((e.tells).reads).stands in
    let first : take count now ≡ take (length out) main = first_waiting main out now count is bytes in
    let same : take count main ≡ take count now = ap (λ n. take n main) is ∙ take_min (length out) main ∙ sym first in record {
      tells = tells_given r postings role t s (length out) (take count now) e.tells (subst (λ m. Stands s (acts role t) (after (e.tells).gone m)) same st) role_is broken_is (first ∙ ap (take (length out)) (sym were));
      has_reliable = link_given carrier_stands carrier_left carrier_condition Reliable (unpulled t) role t (length out) (take count now) reliable e.has_reliable;
      has_lossy = link_given post_stands post_left post_condition Lossy (unhanded t) role t (length out) (take count now) lossy e.has_lossy;
    }
