-- What is pulled from the links, apart from channel PDUs and from what a server judges.
use Rattle.std.proofs.Common.{◌≡◌, ℕ, Bool, true, false, cond, not, ◌||◌, List, [], Option, Some, None, refl, sym, ap, subst, ◌∙◌}
use Rattle.std.specs.Option.{option_or}
use Rattle.mt_base.specs.Ends.{same_kind}
use Rattle.mt_base.specs.declared.kinds.Kind.{Kind}
use Rattle.mt_base.specs.declared.kinds.Kind.TheVariants.{Reliable, Lossy}
use Rattle.mt_base.specs.declared.kinds.Role.{Role}
use Rattle.mt_base.specs.declared.kinds.Role.TheVariants.{Server, Client}
use Rattle.mt_base.specs.Trace.{Trace, ◌▷◌}
use Rattle.soft_sync.specs.Exchanges.{set_kind}
use Rattle.soft_sync.specs.Words.{Words}
use Rattle.dvc_channels.specs.Table as channels
use Rattle.mt_endpoint.specs.Acts.{Act, Draws, Drawn, Misses, CreateAsked, CreateAnswered, Nothing, TunnelAnswered}
use Rattle.mt_endpoint.specs.Alone.{EndOfActs}
use Rattle.mt_endpoint.specs.Channels.{table}
use Rattle.mt_endpoint.specs.Faults.{Unexpected, Why, when}
use Rattle.mt_endpoint.specs.Holding.{held}
use Rattle.mt_endpoint.specs.Tunnels.{Request, answer, answer_in, asked, attaches, is_attached, opens, refusal_in, request_in, silence, silence_in, told_refusal, was_opened}
use Rattle.mt_endpoint.specs.World.{IsJudged, fault_of, is_begun}
use Rattle.mt_endpoint.specs.Writing.{adds, told_first, told_of}
use Rattle.end_session.specs.Drawing.{drawn_fault, with_first}
use Rattle.end_session.specs.Known.{Known, known, is_live_in}
use Rattle.end_session.specs.Outgoing.{Outgoing}
use Rattle.end_session.specs.Standing.{AreKept, Gone, Knows, Stands, Waits}
use Rattle.end_session.specs.Store.{Store}
use Rattle.end_session.proofs.OneTunnel.{IsApart, knows_reliable, knows_lossy, told_same}
use Rattle.end_session.proofs.Putting.{quiet, spoke}
use Rattle.end_session.proofs.Still.{IsStill, SaysNothing, TellsNothing, knows_still, or_false, or_none}

same_if : {A : Type 0} (b : Bool) (x : A) → cond b x x ≡ x
same_if true x = refl
same_if false x = refl

-- ---- acts that change nothing

-- an act that tells nothing and writes nothing
pub unmoved : (s : Store) (t : Trace Act) (gone : Gone) (act : Act) → Stands s t gone → EndOfActs s.role (t ▷ act) → IsStill s.role t act → adds s.role t act ≡ []
    → table s.role (t ▷ act) ≡ table s.role t → ((kind : Kind) → held s.role kind (t ▷ act) ≡ held s.role kind t) → Stands s (t ▷ act) gone
unmoved s t gone act st lawful still writes table_is held_is =
    let k = st.knows in record {
      knows =
          knows_still s.role s t act s.channels (s.paths).channels s.held_reliable s.held_lossy s.outgoing k still lawful
          (subst (channels.Stands s.channels) (sym table_is) k.channels_stand) (told_same s.role t (t ▷ act) (s.paths).channels table_is (k.words_are).channels_are)
          (subst (λ h. AreKept h s.held_reliable) (sym (held_is Reliable)) k.reliable_held) (subst (λ h. AreKept h s.held_lossy) (sym (held_is Lossy)) k.lossy_held);
      waits = quiet s.role s.outgoing t gone act writes st.waits;
    }

says_nothing : (kind : Kind) (at : ℕ) (drawn : Drawn) → SaysNothing (Draws kind at drawn)
says_nothing kind at drawn = record { none_made = refl; none_read = refl; no_answer_read = refl; no_answer_made = refl; no_version = refl; no_capabilities = refl }

no_refusal : (role : Role) (k kind : Kind) (t : Trace Act) (at : ℕ) (drawn : Drawn) → refusal_in role k t (Draws kind at drawn) ≡ None
no_refusal Server k kind t at drawn = refl
no_refusal Client k kind t at drawn = refl

tells : (role : Role) (k kind : Kind) (t : Trace Act) (at : ℕ) (drawn : Drawn) → answer_in k (Draws kind at drawn) ≡ None → TellsNothing role k t (Draws kind at drawn)
tells role k kind t at drawn none = record {
  no_request = refl;
  no_link = refl;
  no_verdict = refl;
  no_answer = none;
  no_refusal = no_refusal role k kind t at drawn;
  no_silence = refl;
}

pub still : (role : Role) (kind : Kind) (t : Trace Act) (at : ℕ) (drawn : Drawn) → ((k : Kind) → answer_in k (Draws kind at drawn) ≡ None) → IsStill role t (Draws kind at drawn)
still role kind t at drawn none = record {
  reliable = tells role Reliable kind t at drawn (none Reliable);
  lossy = tells role Lossy kind t at drawn (none Lossy);
  says = says_nothing kind at drawn;
  none_issued = refl;
}

-- an act of a PDU without a fault stands where it may
pub no_fault : (role : Role) (kind : Kind) (t : Trace Act) (at : ℕ) (drawn : Drawn) → drawn_fault role kind t drawn ≡ None → fault_of role t (Draws kind at drawn)
no_fault role Reliable t at drawn none = none
no_fault role Lossy t at drawn none = tt

nothing_judged : (role : Role) → IsJudged role Nothing
nothing_judged Server = tt
nothing_judged Client = tt

nothing_is_fine : (role : Role) (kind : Kind) (t : Trace Act) → drawn_fault role kind t Nothing ≡ None
nothing_is_fine Server Reliable t = refl
nothing_is_fine Client Reliable t = refl
nothing_is_fine role Lossy t = refl

pub nothing_drawn : (s : Store) (t : Trace Act) (gone : Gone) (kind : Kind) (at : ℕ) → Stands s t gone → Stands s (t ▷ Draws kind at Nothing) gone
nothing_drawn s t gone kind at st =
    let k = st.knows in
    unmoved s t gone (Draws kind at Nothing) st (sym (ap not k.begun), (nothing_judged s.role, no_fault s.role kind t at Nothing (nothing_is_fine s.role kind t)), k.lawful)
    (still s.role kind t at Nothing (λ k. refl)) refl refl (λ k. same_if (same_kind k kind) (held s.role k t))

missed_refusal : (role : Role) (k : Kind) (t : Trace Act) → refusal_in role k t Misses ≡ None
missed_refusal Server k t = refl
missed_refusal Client k t = refl

missed_tells : (role : Role) (k : Kind) (t : Trace Act) → TellsNothing role k t Misses
missed_tells role k t = record { no_request = refl; no_link = refl; no_verdict = refl; no_answer = refl; no_refusal = missed_refusal role k t; no_silence = refl }

pub still_missed : (role : Role) (t : Trace Act) → IsStill role t Misses
still_missed role t = record {
  reliable = missed_tells role Reliable t;
  lossy = missed_tells role Lossy t;
  says = record { none_made = refl; none_read = refl; no_answer_read = refl; no_answer_made = refl; no_version = refl; no_capabilities = refl };
  none_issued = refl;
}

pub missed : (s : Store) (t : Trace Act) (gone : Gone) → Stands s t gone → Stands s (t ▷ Misses) gone
missed s t gone st =
    let k = st.knows in
    unmoved s t gone Misses st (sym (ap not k.begun), (tt, tt), k.lawful) (still_missed s.role t) refl refl (λ k. refl)

-- ---- a create request at a client

request_ignored_by : (s : Store) (t : Trace Act) (gone : Gone) (at id : ℕ) (cookie : List ℕ) → s.role ≡ Client → Stands s t gone → Stands s (t ▷ Draws Lossy at (CreateAsked id cookie)) gone
request_ignored_by s t gone at id cookie is st =
    let k = st.knows in
    unmoved s t gone (Draws Lossy at (CreateAsked id cookie)) st
    (sym (ap not k.begun), (subst (λ r. IsJudged r (CreateAsked id cookie)) (sym is) tt, tt), k.lawful)
    (still s.role Lossy t at (CreateAsked id cookie) (λ k. refl)) refl refl (λ k. same_if (same_kind k Lossy) (held s.role k t))

pub request_ignored : (s : Store) (t : Trace Act) (gone : Gone) (kind : Kind) (at id : ℕ) (cookie : List ℕ) → kind ≡ Lossy → s.role ≡ Client → Stands s t gone
    → (drawn_fault s.role kind t (CreateAsked id cookie) ≡ None) × Stands s (t ▷ Draws kind at (CreateAsked id cookie)) gone
request_ignored s t gone Reliable at id cookie kind_is is st = absurd (let never : Reliable ≡ Lossy = kind_is in cc)
request_ignored s t gone Lossy at id cookie kind_is is st = (refl, request_ignored_by s t gone at id cookie is st)

-- ---- the answer to a create request

answer_judged : (role : Role) (hr : ℕ) → IsJudged role (CreateAnswered hr)
answer_judged Server hr = tt
answer_judged Client hr = tt

-- the tunnel knows the first of its answers
answered_known : (role : Role) (kind : Kind) (t : Trace Act) (act : Act) (hr : ℕ) → request_in kind act ≡ None → attaches kind act ≡ false → opens kind act ≡ false → answer_in kind act ≡ Some hr → refusal_in role kind t act ≡ None → silence_in kind act ≡ None
    → record (known role kind t) { answer = option_or (answer kind t) (Some hr) } ≡ known role kind (t ▷ act)
answered_known role kind t act hr no_request no_link no_verdict answers no_refusal no_silence =
    let a : asked kind (t ▷ act) ≡ asked kind t = ap (option_or (asked kind t)) no_request ∙ or_none (asked kind t) in
    let b : is_attached kind (t ▷ act) ≡ is_attached kind t = ap (λ x. is_attached kind t || x) no_link ∙ or_false (is_attached kind t) in
    let c : was_opened kind (t ▷ act) ≡ was_opened kind t = ap (λ x. was_opened kind t || x) no_verdict ∙ or_false (was_opened kind t) in
    let d : answer kind (t ▷ act) ≡ option_or (answer kind t) (Some hr) = ap (option_or (answer kind t)) answers in
    let e : told_refusal role kind (t ▷ act) ≡ told_refusal role kind t = ap (option_or (told_refusal role kind t)) no_refusal ∙ or_none (told_refusal role kind t) in
    let f : silence kind (t ▷ act) ≡ silence kind t = ap (option_or (silence kind t)) no_silence ∙ or_none (silence kind t) in
    cc

abbrev pub with_answer : ℕ → Known → Known
with_answer hr k = record k { answer = option_or k.answer (Some hr) }

apart : (role : Role) (kind : Kind) (t : Trace Act) (at hr : ℕ) → IsApart role t (Draws kind at (CreateAnswered hr))
apart role kind t at hr = record { says = says_nothing kind at (CreateAnswered hr); table_is = refl; held_is = λ k. same_if (same_kind k kind) (held role k t) }

-- a client tells the first of them
tells_first : (role : Role) (kind : Kind) (t : Trace Act) (gone : Gone) (at hr : ℕ) (o : Outgoing) (a : Option ℕ) (q : Option Request) → answer kind t ≡ a → asked kind t ≡ q → Waits role o t gone
    → Waits role (with_first role a q hr o) (t ▷ Draws kind at (CreateAnswered hr)) gone
tells_first Server kind t gone at hr o a q is asks w = quiet Server o t gone (Draws kind at (CreateAnswered hr)) refl w
tells_first Client kind t gone at hr o None None is asks w =
    quiet Client o t gone (Draws kind at (CreateAnswered hr)) (ap (λ a. told_first Client kind t a hr) is ∙ ap (λ q. told_of q hr) asks) w
tells_first Client kind t gone at hr o None (Some request) is asks w =
    spoke Client o t gone (Draws kind at (CreateAnswered hr)) (TunnelAnswered request.id hr) (ap (λ a. told_first Client kind t a hr) is ∙ ap (λ q. told_of q hr) asks) w
tells_first Client kind t gone at hr o (Some before) q is asks w = quiet Client o t gone (Draws kind at (CreateAnswered hr)) (ap (λ a. told_first Client kind t a hr) is) w

answer_written : (role : Role) (kind : Kind) (t : Trace Act) (gone : Gone) (at hr : ℕ) (o p : Outgoing) (tunnel : Known) → tunnel ≡ known role kind t → p ≡ with_first role tunnel.answer tunnel.asked hr o → Waits role o t gone
    → Waits role p (t ▷ Draws kind at (CreateAnswered hr)) gone
answer_written role kind t gone at hr o p tunnel is written w =
    subst (λ x. Waits role x (t ▷ Draws kind at (CreateAnswered hr)) gone) (sym (written ∙ ap (λ (k : Known). with_first role k.answer k.asked hr o) is))
    (tells_first role kind t gone at hr o (answer kind t) (asked kind t) refl refl w)

answer_stands : (role : Role) (kind : Kind) (t : Trace Act) (at hr : ℕ) → is_begun t ≡ true → EndOfActs role t → drawn_fault role kind t (CreateAnswered hr) ≡ None → EndOfActs role (t ▷ Draws kind at (CreateAnswered hr))
answer_stands role kind t at hr begun lawful fine = (sym (ap not begun), (answer_judged role hr, no_fault role kind t at (CreateAnswered hr) fine), lawful)

pub answered_reliable : (s : Store) (t : Trace Act) (gone : Gone) (kind : Kind) (at hr : ℕ) (tunnel : Known) (w : Words) (o : Outgoing) → kind ≡ Reliable → drawn_fault s.role kind t (CreateAnswered hr) ≡ None
    → tunnel ≡ with_answer hr s.reliable → w ≡ record s.paths { opened = set_kind kind (is_live_in s.role tunnel) (s.paths).opened } → o ≡ with_first s.role (s.reliable).answer (s.reliable).asked hr s.outgoing
    → Stands s t gone → Stands (record s { reliable = tunnel; paths = w; outgoing = o }) (t ▷ Draws kind at (CreateAnswered hr)) gone
answered_reliable s t gone Lossy at hr tunnel w o e fine is paths written st = absurd (let never : Lossy ≡ Reliable = e in cc)
answered_reliable s t gone Reliable at hr tunnel w o e fine is paths written st =
    let k = st.knows in
    let act = Draws Reliable at (CreateAnswered hr) in
    let now : tunnel ≡ known s.role Reliable (t ▷ act) =
    is ∙ ap (with_answer hr) k.reliable_is ∙ answered_known s.role Reliable t act hr refl refl refl refl (no_refusal s.role Reliable Reliable t at (CreateAnswered hr)) refl in record {
      knows =
          subst (λ x. Knows s.role (record s { reliable = tunnel; paths = x; outgoing = o }) (t ▷ act)) (sym paths)
          (knows_reliable s.role s t act s.issued tunnel o k (apart s.role Reliable t at hr) (answer_stands s.role Reliable t at hr k.begun k.lawful fine) k.issued_are now (tells s.role Lossy Reliable t at (CreateAnswered hr) refl));
      waits = answer_written s.role Reliable t gone at hr s.outgoing o s.reliable k.reliable_is written st.waits;
    }

pub answered_lossy : (s : Store) (t : Trace Act) (gone : Gone) (kind : Kind) (at hr : ℕ) (tunnel : Known) (w : Words) (o : Outgoing) → kind ≡ Lossy → tunnel ≡ with_answer hr s.lossy
    → w ≡ record s.paths { opened = set_kind kind (is_live_in s.role tunnel) (s.paths).opened } → o ≡ with_first s.role (s.lossy).answer (s.lossy).asked hr s.outgoing → Stands s t gone
    → Stands (record s { lossy = tunnel; paths = w; outgoing = o }) (t ▷ Draws kind at (CreateAnswered hr)) gone
answered_lossy s t gone Reliable at hr tunnel w o e is paths written st = absurd (let never : Reliable ≡ Lossy = e in cc)
answered_lossy s t gone Lossy at hr tunnel w o e is paths written st =
    let k = st.knows in
    let act = Draws Lossy at (CreateAnswered hr) in
    let now : tunnel ≡ known s.role Lossy (t ▷ act) =
    is ∙ ap (with_answer hr) k.lossy_is ∙ answered_known s.role Lossy t act hr refl refl refl refl (no_refusal s.role Lossy Lossy t at (CreateAnswered hr)) refl in record {
      knows =
          subst (λ x. Knows s.role (record s { lossy = tunnel; paths = x; outgoing = o }) (t ▷ act)) (sym paths)
          (knows_lossy s.role s t act s.issued tunnel o k (apart s.role Lossy t at hr) (answer_stands s.role Lossy t at hr k.begun k.lawful refl) k.issued_are now (tells s.role Reliable Lossy t at (CreateAnswered hr) refl));
      waits = answer_written s.role Lossy t gone at hr s.outgoing o s.lossy k.lossy_is written st.waits;
    }

-- it comes there
pub comes : (s : Store) (kind : Kind) (t : Trace Act) (hr : ℕ) (b : Bool) → drawn_fault s.role kind t (CreateAnswered hr) ≡ when b Unexpected → b ≡ false → drawn_fault s.role kind t (CreateAnswered hr) ≡ None
comes s kind t hr b found none = found ∙ ap (λ b. when b Unexpected) none

pub fine_inside : (s u : Store) (kind : Kind) (t : Trace Act) (drawn : Drawn) → u ≡ s → drawn_fault s.role kind t drawn ≡ None → drawn_fault u.role kind t drawn ≡ None
fine_inside s u kind t drawn is fine = ap (λ (x : Store). drawn_fault x.role kind t drawn) is ∙ fine

pub fault_outside : (s u : Store) (kind : Kind) (t : Trace Act) (drawn : Drawn) {found : Option Why} → u ≡ s → drawn_fault u.role kind t drawn ≡ found → drawn_fault s.role kind t drawn ≡ found
fault_outside s u kind t drawn is fault = ap (λ (x : Store). drawn_fault x.role kind t drawn) (sym is) ∙ fault
