-- A client that refuses a tunnel stands for one act more, and so does an end of which a tunnel falls silent.
use Rattle.std.proofs.Common.{◌≡◌, ℕ, ◌≤◌, Bool, true, false, ◌&&◌, not, Option, Some, None, is_some, option_map, refl, sym, ap, subst, ◌∙◌}
use Rattle.std.specs.Option.{option_or}
use Rattle.mt_base.specs.declared.kinds.Kind.{Kind}
use Rattle.mt_base.specs.declared.kinds.Kind.TheVariants.{Reliable, Lossy}
use Rattle.mt_base.specs.declared.kinds.Role.{Role}
use Rattle.mt_base.specs.declared.kinds.Role.TheVariants.{Server, Client}
use Rattle.mt_base.specs.Trace.{Trace, ◌▷◌}
use Rattle.soft_sync.specs.Exchanges.{set_kind}
use Rattle.soft_sync.specs.Words.{Words}
use Rattle.mt_endpoint.specs.Acts.{Act, Refuses, Silences, TunnelAnswered}
use Rattle.mt_endpoint.specs.Tunnels.{Request, asked, is_live}
use Rattle.mt_endpoint.specs.Writing.{told_of}
use Rattle.end_session.specs.Known.{Known, is_live_in, is_open_in, known, refusal_in}
use Rattle.end_session.specs.OfKind.{refusing, silencing, told_at, tunnel_of}
use Rattle.end_session.specs.Outgoing.{Outgoing, says}
use Rattle.end_session.specs.Standing.{AreWords, Gone, Knows, Stands, Waits}
use Rattle.end_session.specs.Store.{Store}
use Rattle.end_session.proofs.KnownOf.{live_is}
use Rattle.end_session.proofs.Putting.{quiet, spoke}
use Rattle.end_session.proofs.Readings.{tunnel_is}
use Rattle.end_session.proofs.Telling.{IsTold, as_before, knows_told, refuses_known, refusing_live, silences_known}
use Rattle.end_session.proofs.TunnelsAttached.{free}

-- ---- a refusal

told : (s : Store) (t : Trace Act) (kind : Kind) (hr : ℕ) (reliable lossy : Known) → Knows Client s t → reliable ≡ told_at Reliable kind (refusing hr) s.reliable → lossy ≡ told_at Lossy kind (refusing hr) s.lossy
    → IsTold Client t (Refuses kind hr) s.issued reliable lossy (s.paths).opened
told s t kind hr reliable lossy k r l = record {
  says = record { none_made = refl; none_read = refl; no_answer_read = refl; no_answer_made = refl; no_version = refl; no_capabilities = refl };
  issued_are = k.issued_are;
  reliable_is = r ∙ ap (told_at Reliable kind (refusing hr)) k.reliable_is ∙ refuses_known Reliable kind t hr;
  lossy_is = l ∙ ap (told_at Lossy kind (refusing hr)) k.lossy_is ∙ refuses_known Lossy kind t hr;
  reliable_opened = (k.words_are).reliable_is ∙ sym (as_before Client Reliable kind t (Refuses kind hr) (refusing hr) (refuses_known Reliable kind t hr) (refusing_live Client hr));
  lossy_opened = (k.words_are).lossy_is ∙ sym (as_before Client Lossy kind t (Refuses kind hr) (refusing hr) (refuses_known Lossy kind t hr) (refusing_live Client hr));
}

pub refuses : (s : Store) (t : Trace Act) (gone : Gone) (kind : Kind) (hr : ℕ) (request : Request) (reliable lossy : Known) (o : Outgoing) → s.role ≡ Client → Some request ≡ (tunnel_of kind s).asked
    → (tunnel_of kind s).is_attached ≡ false → refusal_in s.role (tunnel_of kind s) ≡ None → 1 ≤ hr → reliable ≡ told_at Reliable kind (refusing hr) s.reliable → lossy ≡ told_at Lossy kind (refusing hr) s.lossy
    → o ≡ says (TunnelAnswered request.id hr) s.outgoing → Stands s t gone → Stands (record s { reliable = reliable; lossy = lossy; outgoing = o }) (t ▷ Refuses kind hr) gone
refuses s t gone kind hr request reliable lossy o is there unattached unrefused some r l written st =
    let k : Knows Client s t = subst (λ r. Knows r s t) is st.knows in
    let are = (k.words_are).channels_are in
    let found : asked kind t ≡ Some request = ap (λ (k : Known). k.asked) (sym (tunnel_is Client s t kind k)) ∙ sym there in record {
      knows =
          subst (λ r. Knows r (record s { reliable = reliable; lossy = lossy; outgoing = o }) (t ▷ Refuses kind hr)) (sym is)
          (knows_told Client s t (Refuses kind hr) s.issued reliable lossy (s.paths).opened o k (told s t kind hr reliable lossy k r l)
          (sym (ap not k.begun), ((refl, free Client s t kind k (ap is_some (sym there)) unattached (ap (λ r. refusal_in r (tunnel_of kind s)) (sym is) ∙ unrefused), some), tt), k.lawful) k.channels_stand
          (record { ids_are = are.ids_are; open_are = are.open_are }) k.reliable_held k.lossy_held);
      waits =
          subst (λ x. Waits s.role x (t ▷ Refuses kind hr) gone) (sym written)
          (spoke s.role s.outgoing t gone (Refuses kind hr) (TunnelAnswered request.id hr) (ap (λ a. told_of a hr) found) st.waits);
    }

-- there was a request, since the caller says so
pub never_unasked : {A B : Type 0} (f : A → B) (o : Option A) (p : Option B) → o ≡ None → option_map f o ≡ p → is_some p ≡ true → ⊥
never_unasked f o p none is there = let never : false ≡ true = ap (λ x. is_some (option_map f x)) (sym none) ∙ ap is_some is ∙ there in cc

-- ---- silence

silent_dead : (b : Bool) (o : Option ℕ) (n : ℕ) → b && not (is_some (option_or o (Some n))) ≡ false
silent_dead true None n = refl
silent_dead true (Some m) n = refl
silent_dead false None n = refl
silent_dead false (Some m) n = refl

-- a tunnel that is silent carries no more
silencing_live : (role : Role) (n : ℕ) (k : Known) → is_live_in role (silencing n k) ≡ false
silencing_live Server n k = silent_dead (is_open_in Server k) k.silence n
silencing_live Client n k = silent_dead (is_open_in Client k) k.silence n

-- whether it carries, as the words tell it: it carries no more, and the other kind as before
live_silenced : (role : Role) (kind made : Kind) (t : Trace Act) (n : ℕ) → is_live_in role (told_at kind made (silencing n) (known role kind t)) ≡ is_live role kind (t ▷ Silences made n)
live_silenced role kind made t n = ap (is_live_in role) (silences_known role kind made t n) ∙ live_is role kind (t ▷ Silences made n)

reliable_told : (role : Role) (made : Kind) (t : Trace Act) (n : ℕ) (w : Words) → AreWords role t w → (set_kind made false w.opened).reliable ≡ is_live role Reliable (t ▷ Silences made n)
reliable_told role Reliable t n w are = sym (silencing_live role n (known role Reliable t)) ∙ live_silenced role Reliable Reliable t n
reliable_told role Lossy t n w are = are.reliable_is ∙ sym (live_is role Reliable t) ∙ live_silenced role Reliable Lossy t n

lossy_told : (role : Role) (made : Kind) (t : Trace Act) (n : ℕ) (w : Words) → AreWords role t w → (set_kind made false w.opened).lossy ≡ is_live role Lossy (t ▷ Silences made n)
lossy_told role Reliable t n w are = are.lossy_is ∙ sym (live_is role Lossy t) ∙ live_silenced role Lossy Reliable t n
lossy_told role Lossy t n w are = sym (silencing_live role n (known role Lossy t)) ∙ live_silenced role Lossy Lossy t n

pub silences : (s : Store) (t : Trace Act) (gone : Gone) (kind : Kind) (n : ℕ) (reliable lossy : Known) (w : Words) → (tunnel_of kind s).is_attached ≡ true
    → reliable ≡ told_at Reliable kind (silencing n) s.reliable → lossy ≡ told_at Lossy kind (silencing n) s.lossy → w ≡ record s.paths { opened = set_kind kind false (s.paths).opened }
    → Stands s t gone → Stands (record s { paths = w; reliable = reliable; lossy = lossy }) (t ▷ Silences kind n) gone
silences s t gone kind n reliable lossy w attached r l written st =
    let k = st.knows in
    let are = (k.words_are).channels_are in
    let opened = set_kind kind false (s.paths).opened in
    let known_is : IsTold s.role t (Silences kind n) s.issued reliable lossy opened = record {
      says = record { none_made = refl; none_read = refl; no_answer_read = refl; no_answer_made = refl; no_version = refl; no_capabilities = refl };
      issued_are = k.issued_are;
      reliable_is = r ∙ ap (told_at Reliable kind (silencing n)) k.reliable_is ∙ silences_known s.role Reliable kind t n;
      lossy_is = l ∙ ap (told_at Lossy kind (silencing n)) k.lossy_is ∙ silences_known s.role Lossy kind t n;
      reliable_opened = reliable_told s.role kind t n s.paths k.words_are;
      lossy_opened = lossy_told s.role kind t n s.paths k.words_are;
    } in
    let base : Stands (record s { paths = record s.paths { opened = opened }; reliable = reliable; lossy = lossy }) (t ▷ Silences kind n) gone = record {
      knows =
          knows_told s.role s t (Silences kind n) s.issued reliable lossy opened s.outgoing k known_is
          (sym (ap not k.begun), (ap (λ (k : Known). k.is_attached) (sym (tunnel_is s.role s t kind k)) ∙ attached, tt), k.lawful) k.channels_stand (record { ids_are = are.ids_are; open_are = are.open_are }) k.reliable_held k.lossy_held;
      waits = quiet s.role s.outgoing t gone (Silences kind n) refl st.waits;
    } in
    subst (λ x. Stands (record s { paths = x; reliable = reliable; lossy = lossy }) (t ▷ Silences kind n) gone) (sym written) base
