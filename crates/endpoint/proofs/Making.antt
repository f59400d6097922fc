-- An end that was made.
use Rattle.std.proofs.Common.{◌≡◌, ℕ, ◌+◌, ◌≤◌, List, [], length, None, refl, subst, ◌∙◌, arith}
use Rattle.mt_base.specs.declared.kinds.Kind.TheVariants.{Reliable, Lossy}
use Rattle.mt_base.specs.declared.kinds.Role.{Role}
use Rattle.mt_base.specs.declared.kinds.Role.TheVariants.{Server, Client}
use Rattle.mt_base.specs.Trace.{Trace, Start, ◌▷◌}
use Rattle.carrier.specs.declared.state.LinkState.{LinkState}
use Rattle.carrier.specs.Entries as link
use Rattle.mt_endpoint.specs.Acts.{Began}
use Rattle.mt_endpoint.specs.Writing.{carried}
use Rattle.end_calls.specs.declared.limits.TheConstants.{MAIN_QUEUE}
use Rattle.end_calls.specs.Calls.{Entry, Own, Postings, acts, no_postings, past, story}
use Rattle.end_calls.specs.Law.{IsWithin, unsent}
use Rattle.end_calls.specs.Stops.{answers_owed}
use Rattle.end_calls.specs.Streams.{Past, grows, none_yet, nothing}
use Rattle.end_session.specs.Outgoing.{waiting_for}
use Rattle.end_session.specs.Standing.{IsLeft, Stands, nothing_gone}
use Rattle.end_session.specs.Store.{Store}
use Rattle.end_reader.specs.declared.reader.Reader.{Reader}
use Rattle.endpoint.specs.Attached.{Lacks}
use Rattle.end_reader.specs.Standing.{Reads}
use Rattle.endpoint.specs.Standing.{IsEnd, Tells, refusals_owed}
use Rattle.endpoint.proofs.Left.{none_left}

abbrev begun : Trace Entry
begun = Start ▷ Own Began

past_is : (role : Role) → past role begun ≡ record { acts = Start ▷ Began; main = none_yet; tunnel = none_yet; broken = None }
past_is Server = refl
past_is Client = refl

within : (role : Role) → IsWithin role begun
within Server = record { unsent_fits = omega arith; reliable_fits = omega arith; lossy_fits = omega arith }
within Client = record { unsent_fits = omega arith; reliable_fits = omega arith; lossy_fits = omega arith }

has_room : (role : Role) → length (unsent role begun) + (answers_owed (acts role begun) + refusals_owed role (acts role begun)) ≤ MAIN_QUEUE
has_room Server = omega arith
has_room Client = omega arith

none_reliable : (role : Role) (s : Store) → Stands s (Start ▷ Began) nothing_gone → s.role ≡ role → waiting_for Reliable s.outgoing ≡ []
none_reliable Server s st is = none_left [] (s.outgoing).reliable (subst (λ (r : Role). IsLeft (carried Reliable r (Start ▷ Began)) [] (s.outgoing).reliable) is (st.waits).reliable_waits)
none_reliable Client s st is = none_left [] (s.outgoing).reliable (subst (λ (r : Role). IsLeft (carried Reliable r (Start ▷ Began)) [] (s.outgoing).reliable) is (st.waits).reliable_waits)

none_lossy : (role : Role) (s : Store) → Stands s (Start ▷ Began) nothing_gone → s.role ≡ role → waiting_for Lossy s.outgoing ≡ []
none_lossy Server s st is = none_left [] (s.outgoing).lossy (subst (λ (r : Role). IsLeft (carried Lossy r (Start ▷ Began)) [] (s.outgoing).lossy) is (st.waits).lossy_waits)
none_lossy Client s st is = none_left [] (s.outgoing).lossy (subst (λ (r : Role). IsLeft (carried Lossy r (Start ▷ Began)) [] (s.outgoing).lossy) is (st.waits).lossy_waits)

posted : (role : Role) → no_postings ≡ (story role begun).postings
posted Server = refl
posted Client = refl

lacks_reliable : (role : Role) → Lacks {A = ℕ} Reliable [] role begun
lacks_reliable Server = record { unattached = refl; uncalled = refl; undrawn = refl; unread_is = refl }
lacks_reliable Client = record { unattached = refl; uncalled = refl; undrawn = refl; unread_is = refl }

lacks_lossy : (role : Role) → Lacks {A = List ℕ} Lossy [] role begun
lacks_lossy Server = record { unattached = refl; uncalled = refl; undrawn = refl; unread_is = refl }
lacks_lossy Client = record { unattached = refl; uncalled = refl; undrawn = refl; unread_is = refl }

tells : (role : Role) (r : Reader) (postings : Postings) → Reads r (grows role Began nothing) nothing_gone → (r.session).role ≡ role → postings ≡ no_postings → Tells r postings role begun
tells role r postings reads is none =
    let st : Stands r.session (Start ▷ Began) nothing_gone = subst (λ (p : Past). Stands r.session p.acts nothing_gone) (past_is role) reads.stands in record {
      law = ((tt, refl, tt, refl, tt), within role, tt);
      gone = nothing_gone;
      gone_is = refl;
      reads = reads;
      role_is = is;
      room = has_room role;
      reliable_waits = none_reliable role r.session st is;
      lossy_waits = none_lossy role r.session st is;
      postings_are = none ∙ posted role;
    }

pub made : {C P : Type 0} (carrier_stands : C → Trace link.Entry → Type 0) (carrier_left : C → List ℕ) (carrier_condition : C → LinkState) (post_stands : P → Trace link.Entry → Type 0) (post_left : P → List (List ℕ)) (post_condition : P → LinkState) (role : Role) (r : Reader) (postings : Postings)
    → Reads r (grows role Began nothing) nothing_gone → (r.session).role ≡ role → postings ≡ no_postings → IsEnd carrier_stands carrier_left carrier_condition post_stands post_left post_condition r postings None None role (Start ▷ Own Began)
made carrier_stands carrier_left carrier_condition post_stands post_left post_condition role r postings reads is none = record {
  tells = tells role r postings reads is none;
  has_reliable = lacks_reliable role;
  has_lossy = lacks_lossy role;
}
