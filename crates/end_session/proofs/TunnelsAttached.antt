-- An end of which a tunnel gets its link stands for one act more, and so does a client that asks through
-- its lossy link again.
use Rattle.std.proofs.Common.{◌≡◌, Bool, true, false, cond, not, Option, Some, None, is_some, refl, sym, ap, subst, ◌∙◌}
use Rattle.mt_base.specs.declared.kinds.Kind.{Kind}
use Rattle.mt_base.specs.declared.kinds.Kind.TheVariants.{Reliable, Lossy}
use Rattle.mt_base.specs.declared.kinds.Role.{Role}
use Rattle.mt_base.specs.declared.kinds.Role.TheVariants.{Server, Client}
use Rattle.mt_base.specs.Trace.{Trace, ◌▷◌}
use Rattle.mt_endpoint.specs.Acts.{Act, Attaches, Repeats, CreateAsked}
use Rattle.mt_endpoint.specs.Tunnels.{Request, asked, is_silent}
use Rattle.mt_endpoint.specs.World.{IsAsked, IsFree}
use Rattle.mt_endpoint.specs.Writing.{adds, create_request}
use Rattle.end_session.specs.Known.{Known, known, refusal_in}
use Rattle.end_session.specs.OfKind.{attaching, due_request, told_at, tunnel_of, with_request}
use Rattle.end_session.specs.Outgoing.{Outgoing}
use Rattle.end_session.specs.Standing.{Gone, Knows, Stands, Waits}
use Rattle.end_session.specs.Store.{Store}
use Rattle.end_session.proofs.KnownOf.{refusal_is}
use Rattle.end_session.proofs.Putting.{dropped, drew, quiet}
use Rattle.end_session.proofs.Readings.{tunnel_is}
use Rattle.end_session.proofs.Still.{IsStill, TellsNothing, knows_still}
use Rattle.end_session.proofs.Telling.{IsTold, as_before, attaches_known, attaching_live, knows_told}

-- ---- create requests

-- what waits behind an act that writes what a client asks through a tunnel
requested : (role : Role) (o : Outgoing) (t : Trace Act) (gone : Gone) (act : Act) (kind : Kind) → adds role t act ≡ create_request role kind (asked kind t) → Waits role o t gone
    → Waits role (with_request kind (due_request role (known role kind t)) o) (t ▷ act) gone
requested Server o t gone act kind e w = quiet Server o t gone act e w
requested Client o t gone act kind e w = by_test (is_silent kind t) refl (asked kind t) refl where
  by_test : (silent : Bool) → is_silent kind t ≡ silent → (request : Option Request) → asked kind t ≡ request → Waits Client (with_request kind (cond silent None request) o) (t ▷ act) gone
  by_test true silent None is = quiet Client o t gone act (e ∙ ap (create_request Client kind) is) w
  by_test true silent (Some r) is = dropped Client o t gone act kind (CreateAsked r.id r.cookie) (e ∙ ap (create_request Client kind) is) silent w
  by_test false loud None is = quiet Client o t gone act (e ∙ ap (create_request Client kind) is) w
  by_test false loud (Some r) is = drew Client o t gone act kind (CreateAsked r.id r.cookie) (e ∙ ap (create_request Client kind) is) loud w

-- ---- a tunnel that may get its link, or be refused

is_there : (o : Option Request) → is_some o ≡ true → IsAsked o
is_there None h = absurd (let never : false ≡ true = h in cc)
is_there (Some request) h = tt

pub free : (role : Role) (s : Store) (t : Trace Act) (kind : Kind) → Knows role s t → is_some (tunnel_of kind s).asked ≡ true → (tunnel_of kind s).is_attached ≡ false → refusal_in role (tunnel_of kind s) ≡ None → IsFree role kind t
free role s t kind k there unattached unrefused =
    let is = tunnel_is role s t kind k in record {
      asked = is_there (asked kind t) (ap (λ (k : Known). is_some k.asked) (sym is) ∙ there);
      unattached = ap (λ (k : Known). k.is_attached) (sym is) ∙ unattached;
      unrefused = sym (refusal_is role kind t) ∙ ap (refusal_in role) (sym is) ∙ unrefused;
    }

-- ---- the acts

told : (role : Role) (s : Store) (t : Trace Act) (kind : Kind) (reliable lossy : Known) → Knows role s t → reliable ≡ told_at Reliable kind attaching s.reliable → lossy ≡ told_at Lossy kind attaching s.lossy
    → IsTold role t (Attaches kind) s.issued reliable lossy (s.paths).opened
told role s t kind reliable lossy k r l = record {
  says = record { none_made = refl; none_read = refl; no_answer_read = refl; no_answer_made = refl; no_version = refl; no_capabilities = refl };
  issued_are = k.issued_are;
  reliable_is = r ∙ ap (told_at Reliable kind attaching) k.reliable_is ∙ attaches_known role Reliable kind t;
  lossy_is = l ∙ ap (told_at Lossy kind attaching) k.lossy_is ∙ attaches_known role Lossy kind t;
  reliable_opened = (k.words_are).reliable_is ∙ sym (as_before role Reliable kind t (Attaches kind) attaching (attaches_known role Reliable kind t) (attaching_live role));
  lossy_opened = (k.words_are).lossy_is ∙ sym (as_before role Lossy kind t (Attaches kind) attaching (attaches_known role Lossy kind t) (attaching_live role));
}

pub attaches : (s : Store) (t : Trace Act) (gone : Gone) (kind : Kind) (reliable lossy : Known) (o : Outgoing) → is_some (tunnel_of kind s).asked ≡ true → (tunnel_of kind s).is_attached ≡ false
    → refusal_in s.role (tunnel_of kind s) ≡ None → reliable ≡ told_at Reliable kind attaching s.reliable → lossy ≡ told_at Lossy kind attaching s.lossy
    → o ≡ with_request kind (due_request s.role (tunnel_of kind s)) s.outgoing → Stands s t gone → Stands (record s { reliable = reliable; lossy = lossy; outgoing = o }) (t ▷ Attaches kind) gone
attaches s t gone kind reliable lossy o there unattached unrefused r l written st =
    let k = st.knows in
    let are = (k.words_are).channels_are in record {
      knows =
          knows_told s.role s t (Attaches kind) s.issued reliable lossy (s.paths).opened o k (told s.role s t kind reliable lossy k r l)
          (sym (ap not k.begun), (free s.role s t kind k there unattached unrefused, tt), k.lawful) k.channels_stand (record { ids_are = are.ids_are; open_are = are.open_are }) k.reliable_held k.lossy_held;
      waits =
          subst (λ x. Waits s.role x (t ▷ Attaches kind) gone) (sym (written ∙ ap (λ x. with_request kind (due_request s.role x) s.outgoing) (tunnel_is s.role s t kind k)))
          (requested s.role s.outgoing t gone (Attaches kind) kind refl st.waits);
    }

tells : (kind : Kind) (t : Trace Act) (is_full : Bool) → TellsNothing Client kind t (Repeats is_full)
tells kind t is_full = record { no_request = refl; no_link = refl; no_verdict = refl; no_answer = refl; no_refusal = refl; no_silence = refl }

still : (t : Trace Act) (is_full : Bool) → IsStill Client t (Repeats is_full)
still t is_full = record {
  reliable = tells _ t is_full;
  lossy = tells _ t is_full;
  says = record { none_made = refl; none_read = refl; no_answer_read = refl; no_answer_made = refl; no_version = refl; no_capabilities = refl };
  none_issued = refl;
}

-- a full link takes no part
unless_full : (o : Outgoing) (t : Trace Act) (gone : Gone) (is_full : Bool) → Waits Client o t gone → Waits Client (with_request Lossy (cond is_full None (due_request Client (known Client Lossy t))) o) (t ▷ Repeats is_full) gone
unless_full o t gone true w = quiet Client o t gone (Repeats true) refl w
unless_full o t gone false w = requested Client o t gone (Repeats false) Lossy refl w

pub repeats : (s : Store) (t : Trace Act) (gone : Gone) (is_full : Bool) (o : Outgoing) → s.role ≡ Client → (s.lossy).is_attached ≡ true → (s.lossy).answer ≡ None
    → o ≡ with_request Lossy (cond is_full None (due_request s.role s.lossy)) s.outgoing → Stands s t gone → Stands (record s { outgoing = o }) (t ▷ Repeats is_full) gone
repeats s t gone is_full o is attached unanswered written st =
    let k : Knows Client s t = subst (λ r. Knows r s t) is st.knows in
    let w : Waits Client s.outgoing t gone = subst (λ r. Waits r s.outgoing t gone) is st.waits in
    let are = (k.words_are).channels_are in
    let due : o ≡ with_request Lossy (cond is_full None (due_request Client (known Client Lossy t))) s.outgoing =
    written ∙ ap (λ r. with_request Lossy (cond is_full None (due_request r s.lossy)) s.outgoing) is ∙ ap (λ x. with_request Lossy (cond is_full None (due_request Client x)) s.outgoing) k.lossy_is in record {
      knows =
          subst (λ r. Knows r (record s { outgoing = o }) (t ▷ Repeats is_full)) (sym is)
          (knows_still Client s t (Repeats is_full) s.channels (s.paths).channels s.held_reliable s.held_lossy o k (still t is_full)
          (sym (ap not k.begun), ((refl, ap (λ (k : Known). k.is_attached) (sym k.lossy_is) ∙ attached, ap (λ (k : Known). k.answer) (sym k.lossy_is) ∙ unanswered), tt), k.lawful) k.channels_stand
          (record { ids_are = are.ids_are; open_are = are.open_are }) k.reliable_held k.lossy_held);
      waits = subst (λ r. Waits r o (t ▷ Repeats is_full) gone) (sym is) (subst (λ x. Waits Client x (t ▷ Repeats is_full) gone) (sym due) (unless_full s.outgoing t gone is_full w));
    }
