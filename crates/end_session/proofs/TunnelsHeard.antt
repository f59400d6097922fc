-- An end that hears of a tunnel stands for one act more.
use Rattle.std.proofs.Common.{◌≡◌, ℕ, List, length, Option, Some, None, is_some, option_map, Bool, if◌then◌else◌, refl, sym, ap, subst, ◌∙◌}
use Rattle.std.specs.Option.{option_or}
use Rattle.mt_base.specs.declared.kinds.Kind.{Kind}
use Rattle.mt_base.specs.declared.kinds.Kind.TheVariants.{Reliable, Lossy}
use Rattle.mt_base.specs.declared.kinds.Role.{Role}
use Rattle.mt_base.specs.declared.kinds.Role.TheVariants.{Server, Client}
use Rattle.mt_base.specs.Trace.{Trace, ◌▷◌}
use Rattle.dvc_channels.specs.Table as channels
use Rattle.mt_endpoint.specs.Acts.{Act, Heard, Hears, TunnelAsked, TunnelAnswered}
use Rattle.mt_endpoint.specs.Channels.{table}
use Rattle.mt_endpoint.specs.Faults.{Unexpected, main_fault, when}
use Rattle.mt_endpoint.specs.Holding.{held}
use Rattle.mt_endpoint.specs.Moving.{unanswered_in}
use Rattle.mt_endpoint.specs.Tunnels.{Request, answer, asked, is_attached, is_for, is_live, not_zero, refusal_in, request_in, silence, told_refusal, was_opened}
use Rattle.end_session.specs.declared.tunnel.Asked.{Asked}
use Rattle.end_session.specs.AskedView.{request_of}
use Rattle.end_session.specs.Known.{Known, known, is_live_in}
use Rattle.end_session.specs.Standing.{AreKept, AreTold, Gone, Knows, Stands}
use Rattle.end_session.specs.Store.{Store}
use Rattle.end_session.proofs.Heard.{heard_lawful}
use Rattle.end_session.proofs.KnownOf.{live_is}
use Rattle.end_session.proofs.Putting.{quiet}
use Rattle.end_session.proofs.Still.{SaysNothing, made_still, or_false, or_none, read_still, ready_still, version_still}

-- ---- what is known of a tunnel

-- with what a frame tells of it
abbrev told_more : Option Request → Option ℕ → Known → Known
told_more request code k = record k { asked = option_or k.asked request; told_refusal = option_or k.told_refusal code }

known_told : (role : Role) (kind : Kind) (t : Trace Act) (heard : Heard) → known role kind (t ▷ Hears heard) ≡ told_more (request_in kind (Hears heard)) (refusal_in role kind t (Hears heard)) (known role kind t)
known_told role kind t heard =
    let b : is_attached kind (t ▷ Hears heard) ≡ is_attached kind t = or_false (is_attached kind t) in
    let c : was_opened kind (t ▷ Hears heard) ≡ was_opened kind t = or_false (was_opened kind t) in
    let d : answer kind (t ▷ Hears heard) ≡ answer kind t = or_none (answer kind t) in
    let f : silence kind (t ▷ Hears heard) ≡ silence kind t = or_none (silence kind t) in
    cc

live_more : (role : Role) (request : Option Request) (code : Option ℕ) (k : Known) → is_live_in role (told_more request code k) ≡ is_live_in role k
live_more Server request code k = refl
live_more Client request code k = refl

live_told : (role : Role) (kind : Kind) (t : Trace Act) (heard : Heard) → is_live role kind (t ▷ Hears heard) ≡ is_live role kind t
live_told role kind t heard =
    sym (live_is role kind (t ▷ Hears heard)) ∙ ap (is_live_in role) (known_told role kind t heard)
    ∙ live_more role (request_in kind (Hears heard)) (refusal_in role kind t (Hears heard)) (known role kind t) ∙ live_is role kind t

-- ---- what is known of all

asks_nothing : (id : ℕ) (kind : Kind) (cookie : List ℕ) → SaysNothing (Hears (TunnelAsked id kind cookie))
asks_nothing id kind cookie = record { none_made = refl; none_read = refl; no_answer_read = refl; no_answer_made = refl; no_version = refl; no_capabilities = refl }

answers_nothing : (id hr : ℕ) → SaysNothing (Hears (TunnelAnswered id hr))
answers_nothing id hr = record { none_made = refl; none_read = refl; no_answer_read = refl; no_answer_made = refl; no_version = refl; no_capabilities = refl }

knows_told : (role : Role) (s : Store) (t : Trace Act) (heard : Heard) (reliable lossy : Known) → Knows role s t → SaysNothing (Hears heard) → main_fault role t heard ≡ None
    → channels.Stands s.channels (table role (t ▷ Hears heard)) → AreTold role (t ▷ Hears heard) (s.paths).channels
    → AreKept (held role Reliable (t ▷ Hears heard)) s.held_reliable → AreKept (held role Lossy (t ▷ Hears heard)) s.held_lossy
    → reliable ≡ known role Reliable (t ▷ Hears heard) → lossy ≡ known role Lossy (t ▷ Hears heard) → Knows role (record s { reliable = reliable; lossy = lossy }) (t ▷ Hears heard)
knows_told role s t heard reliable lossy k says none stands are hr hl r l = record {
  begun = refl;
  lawful = heard_lawful role s t heard k none;
  channels_stand = stands;
  words_are = record {
    version_is = (k.words_are).version_is ∙ sym (version_still t (Hears heard) says);
    reliable_is = (k.words_are).reliable_is ∙ sym (live_told role Reliable t heard);
    lossy_is = (k.words_are).lossy_is ∙ sym (live_told role Lossy t heard);
    channels_are = are;
    made_are = (k.words_are).made_are ∙ sym (made_still t (Hears heard) says);
    read_are = (k.words_are).read_are ∙ sym (read_still t (Hears heard) says);
  };
  issued_are = k.issued_are;
  reliable_is = r;
  lossy_is = l;
  reliable_held = hr;
  lossy_held = hl;
  ready_is = k.ready_is ∙ sym (ready_still t (Hears heard) says);
  owed_is = k.owed_is ∙ ap (λ x. length (unanswered_in x)) (sym (read_still t (Hears heard) says));
}

-- ---- a tunnel is asked for

-- with the first request
abbrev asked_more : Option Request → Known → Known
asked_more request k = record k { asked = option_or k.asked request }

no_refusal : (role : Role) (kind made : Kind) (t : Trace Act) (id : ℕ) (cookie : List ℕ) → refusal_in role kind t (Hears (TunnelAsked id made cookie)) ≡ None
no_refusal Server kind made t id cookie = refl
no_refusal Client kind made t id cookie = refl

known_asked : (role : Role) (kind made : Kind) (t : Trace Act) (id : ℕ) (cookie : List ℕ) (k : Known) → k ≡ known role kind t
    → asked_more (request_in kind (Hears (TunnelAsked id made cookie))) k ≡ known role kind (t ▷ Hears (TunnelAsked id made cookie))
known_asked role kind made t id cookie k is =
    let heard = TunnelAsked id made cookie in
    let request = request_in kind (Hears heard) in
    let e : told_refusal role kind t ≡ option_or (told_refusal role kind t) (refusal_in role kind t (Hears heard)) =
    sym (ap (option_or (told_refusal role kind t)) (no_refusal role kind made t id cookie) ∙ or_none (told_refusal role kind t)) in
    ap (asked_more request) is ∙ ap (λ o. record (known role kind t) { asked = option_or (asked kind t) request; told_refusal = o }) e ∙ sym (known_told role kind t heard)

same_asked : (k : Known) → asked_more None k ≡ k
same_asked k = ap (λ o. record k { asked = o }) (or_none k.asked)

abbrev request_by : ℕ → List ℕ → Option Request
request_by id cookie = Some (record { id = id; cookie = cookie })

reliable_asked : (s : Store) (t : Trace Act) (gone : Gone) (id : ℕ) (cookie : List ℕ) (k : Known) → main_fault s.role t (TunnelAsked id Reliable cookie) ≡ None
    → k ≡ asked_more (request_by id cookie) s.reliable → Stands s t gone → Stands (record s { reliable = k }) (t ▷ Hears (TunnelAsked id Reliable cookie)) gone
reliable_asked s t gone id cookie k none is st =
    let w = st.knows in
    let told = (w.words_are).channels_are in record {
      knows =
          knows_told s.role s t (TunnelAsked id Reliable cookie) k s.lossy w (asks_nothing id Reliable cookie) none w.channels_stand
          (record { ids_are = told.ids_are; open_are = told.open_are }) w.reliable_held w.lossy_held
          (is ∙ known_asked s.role Reliable Reliable t id cookie s.reliable w.reliable_is)
          (sym (same_asked s.lossy) ∙ known_asked s.role Lossy Reliable t id cookie s.lossy w.lossy_is);
      waits = quiet s.role s.outgoing t gone (Hears (TunnelAsked id Reliable cookie)) refl st.waits;
    }

lossy_asked : (s : Store) (t : Trace Act) (gone : Gone) (id : ℕ) (cookie : List ℕ) (k : Known) → main_fault s.role t (TunnelAsked id Lossy cookie) ≡ None
    → k ≡ asked_more (request_by id cookie) s.lossy → Stands s t gone → Stands (record s { lossy = k }) (t ▷ Hears (TunnelAsked id Lossy cookie)) gone
lossy_asked s t gone id cookie k none is st =
    let w = st.knows in
    let told = (w.words_are).channels_are in record {
      knows =
          knows_told s.role s t (TunnelAsked id Lossy cookie) s.reliable k w (asks_nothing id Lossy cookie) none w.channels_stand
          (record { ids_are = told.ids_are; open_are = told.open_are }) w.reliable_held w.lossy_held
          (sym (same_asked s.reliable) ∙ known_asked s.role Reliable Lossy t id cookie s.reliable w.reliable_is)
          (is ∙ known_asked s.role Lossy Lossy t id cookie s.lossy w.lossy_is);
      waits = quiet s.role s.outgoing t gone (Hears (TunnelAsked id Lossy cookie)) refl st.waits;
    }

abbrev AskedFor : Store → Store → Trace Act → Gone → ℕ → List ℕ → Kind → Type 0
AskedFor s after t gone id cookie kind = main_fault s.role t (TunnelAsked id kind cookie) ≡ None → Stands after (t ▷ Hears (TunnelAsked id kind cookie)) gone

pub asked_reliable : (s : Store) (t : Trace Act) (gone : Gone) (id : ℕ) (kind : Kind) (cookie : List ℕ) (k : Known) → kind ≡ Reliable → main_fault s.role t (TunnelAsked id kind cookie) ≡ None
    → k ≡ asked_more (request_by id cookie) s.reliable → Stands s t gone → Stands (record s { reliable = k }) (t ▷ Hears (TunnelAsked id kind cookie)) gone
asked_reliable s t gone id kind cookie k this none is st =
    subst (AskedFor s (record s { reliable = k }) t gone id cookie) (sym this) (λ none. reliable_asked s t gone id cookie k none is st) none

pub asked_lossy : (s : Store) (t : Trace Act) (gone : Gone) (id : ℕ) (kind : Kind) (cookie : List ℕ) (k : Known) → kind ≡ Lossy → main_fault s.role t (TunnelAsked id kind cookie) ≡ None
    → k ≡ asked_more (request_by id cookie) s.lossy → Stands s t gone → Stands (record s { lossy = k }) (t ▷ Hears (TunnelAsked id kind cookie)) gone
asked_lossy s t gone id kind cookie k this none is st =
    subst (AskedFor s (record s { lossy = k }) t gone id cookie) (sym this) (λ none. lossy_asked s t gone id cookie k none is st) none

-- whether it was asked for
some_request : (o : Option Asked) → is_some (option_map request_of o) ≡ is_some o
some_request None = refl
some_request (Some asked) = refl

-- what there is against the request, at a client
pub asked_before : (role : Role) (t : Trace Act) (id : ℕ) (kind : Kind) (cookie : List ℕ) (o : Option Asked) (b : Bool) → role ≡ Client → option_map request_of o ≡ asked kind t → is_some o ≡ b
    → main_fault role t (TunnelAsked id kind cookie) ≡ when b Unexpected
asked_before role t id kind cookie o b this are is =
    ap (λ r. main_fault r t (TunnelAsked id kind cookie)) this ∙ ap (λ b. when b Unexpected) (sym (ap is_some are) ∙ some_request o ∙ is)

-- ---- a tunnel is answered for

-- with the code of a response with this id
abbrev answered_more : ℕ → ℕ → Known → Known
answered_more id hr k = record k { told_refusal = option_or k.told_refusal (if is_for k.asked id then not_zero (Some hr) else None) }

known_answered : (kind : Kind) (t : Trace Act) (id hr : ℕ) (k : Known) → k ≡ known Server kind t → answered_more id hr k ≡ known Server kind (t ▷ Hears (TunnelAnswered id hr))
known_answered kind t id hr k is =
    let e : asked kind t ≡ option_or (asked kind t) None = sym (or_none (asked kind t)) in
    let code = refusal_in Server kind t (Hears (TunnelAnswered id hr)) in
    ap (answered_more id hr) is ∙ ap (λ o. record (known Server kind t) { asked = o; told_refusal = option_or (told_refusal Server kind t) code }) e ∙ sym (known_told Server kind t (TunnelAnswered id hr))

answered_by : (role : Role) (s : Store) (t : Trace Act) (gone : Gone) (id hr : ℕ) (reliable lossy : Known) → role ≡ Server → s.role ≡ role → reliable ≡ answered_more id hr s.reliable → lossy ≡ answered_more id hr s.lossy
    → Stands s t gone → Stands (record s { reliable = reliable; lossy = lossy }) (t ▷ Hears (TunnelAnswered id hr)) gone
answered_by Client s t gone id hr reliable lossy e is r l st = absurd (let never : Client ≡ Server = e in cc)
answered_by Server s t gone id hr reliable lossy e is r l st =
    let w : Knows Server s t = subst (λ r. Knows r s t) is st.knows in
    let told = (w.words_are).channels_are in record {
      knows =
          subst (λ x. Knows x (record s { reliable = reliable; lossy = lossy }) (t ▷ Hears (TunnelAnswered id hr))) (sym is)
          (knows_told Server s t (TunnelAnswered id hr) reliable lossy w (answers_nothing id hr) refl w.channels_stand
          (record { ids_are = told.ids_are; open_are = told.open_are }) w.reliable_held w.lossy_held
          (r ∙ known_answered Reliable t id hr s.reliable w.reliable_is) (l ∙ known_answered Lossy t id hr s.lossy w.lossy_is));
      waits = quiet s.role s.outgoing t gone (Hears (TunnelAnswered id hr)) refl st.waits;
    }

pub answered : (s : Store) (t : Trace Act) (gone : Gone) (id hr : ℕ) (reliable lossy : Known) → s.role ≡ Server → reliable ≡ answered_more id hr s.reliable → lossy ≡ answered_more id hr s.lossy
    → Stands s t gone → Stands (record s { reliable = reliable; lossy = lossy }) (t ▷ Hears (TunnelAnswered id hr)) gone
answered s t gone id hr reliable lossy is r l st = answered_by Server s t gone id hr reliable lossy refl is r l st
