-- What is known of tunnels behind an act that tells of one of them.
use Rattle.std.proofs.Common.{◌≡◌, ℕ, Bool, true, false, ◌||◌, List, length, Option, Some, None, refl, sym, ap, ◌∙◌}
use Rattle.std.specs.Option.{option_or}
use Rattle.mt_base.specs.declared.kinds.Kind.{Kind}
use Rattle.mt_base.specs.declared.kinds.Kind.TheVariants.{Reliable, Lossy}
use Rattle.mt_base.specs.declared.kinds.Role.{Role}
use Rattle.mt_base.specs.declared.kinds.Role.TheVariants.{Server, Client}
use Rattle.mt_base.specs.Trace.{Trace, ◌▷◌}
use Rattle.dvc_channels.specs.Table as channels
use Rattle.soft_sync.specs.declared.kinds.Kinds.{Kinds}
use Rattle.tunnel_cookies.specs.Entries.{Entries}
use Rattle.mt_endpoint.specs.Acts.{Act, Asks, Attaches, Refuses, Silences}
use Rattle.mt_endpoint.specs.Alone.{EndOfActs}
use Rattle.mt_endpoint.specs.Channels.{table}
use Rattle.mt_endpoint.specs.Holding.{held}
use Rattle.mt_endpoint.specs.Moving.{unanswered_in}
use Rattle.mt_endpoint.specs.Tunnels.{Request, is_live, issued, refusal_in}
use Rattle.end_session.specs.Known.{Known, known, is_live_in}
use Rattle.end_session.specs.OfKind.{told_at, asking, attaching, refusing, silencing}
use Rattle.end_session.specs.Outgoing.{Outgoing}
use Rattle.end_session.specs.Standing.{AreKept, AreTold, Knows}
use Rattle.end_session.specs.Store.{Store}
use Rattle.end_session.proofs.KnownOf.{live_is}
use Rattle.end_session.proofs.Still.{SaysNothing, made_still, or_false, or_none, read_still, ready_still, version_still}

-- what an act tells of a tunnel, part by part
abbrev with_told : Known → Option Request → Bool → Option ℕ → Option ℕ → Known
with_told k request link refusal silence = record {
  asked = option_or k.asked request;
  is_attached = k.is_attached || link;
  was_opened = k.was_opened || false;
  answer = option_or k.answer None;
  told_refusal = option_or k.told_refusal refusal;
  silence = option_or k.silence silence;
}

none_told : (k : Known) → with_told k None false None None ≡ k
none_told k =
    let a = or_none k.asked in
    let b = or_false k.is_attached in
    let c = or_false k.was_opened in
    let d = or_none k.answer in
    let e = or_none k.told_refusal in
    let f = or_none k.silence in
    let all : with_told k None false None None ≡ record { asked = k.asked; is_attached = k.is_attached; was_opened = k.was_opened; answer = k.answer; told_refusal = k.told_refusal; silence = k.silence } = cc in
    all

asking_told : (k : Known) (request : Request) → with_told k (Some request) false None None ≡ asking request k
asking_told k request =
    let b = or_false k.is_attached in
    let c = or_false k.was_opened in
    let d = or_none k.answer in
    let e = or_none k.told_refusal in
    let f = or_none k.silence in
    cc

or_true : (b : Bool) → b || true ≡ true
or_true true = refl
or_true false = refl

attaching_told : (k : Known) → with_told k None true None None ≡ attaching k
attaching_told k =
    let a = or_none k.asked in
    let b = or_true k.is_attached in
    let c = or_false k.was_opened in
    let d = or_none k.answer in
    let e = or_none k.told_refusal in
    let f = or_none k.silence in
    cc

refusing_told : (k : Known) (hr : ℕ) → with_told k None false (Some hr) None ≡ refusing hr k
refusing_told k hr =
    let a = or_none k.asked in
    let b = or_false k.is_attached in
    let c = or_false k.was_opened in
    let d = or_none k.answer in
    let f = or_none k.silence in
    cc

silencing_told : (k : Known) (expiries : ℕ) → with_told k None false None (Some expiries) ≡ silencing expiries k
silencing_told k expiries =
    let a = or_none k.asked in
    let b = or_false k.is_attached in
    let c = or_false k.was_opened in
    let d = or_none k.answer in
    let e = or_none k.told_refusal in
    cc

-- ---- the acts

pub asks_known : (kind made : Kind) (t : Trace Act) (id : ℕ) (cookie : List ℕ) → told_at kind made (asking (record { id = id; cookie = cookie })) (known Server kind t) ≡ known Server kind (t ▷ Asks made id cookie)
asks_known Reliable Reliable t id cookie = sym (asking_told (known Server Reliable t) (record { id = id; cookie = cookie }))
asks_known Reliable Lossy t id cookie = sym (none_told (known Server Reliable t))
asks_known Lossy Reliable t id cookie = sym (none_told (known Server Lossy t))
asks_known Lossy Lossy t id cookie = sym (asking_told (known Server Lossy t) (record { id = id; cookie = cookie }))

attach_refuses_none : (role : Role) (kind made : Kind) (t : Trace Act) → refusal_in role kind t (Attaches made) ≡ None
attach_refuses_none Server kind made t = refl
attach_refuses_none Client kind made t = refl

pub attaches_known : (role : Role) (kind made : Kind) (t : Trace Act) → told_at kind made attaching (known role kind t) ≡ known role kind (t ▷ Attaches made)
attaches_known role Reliable Reliable t = sym (ap (λ r. with_told (known role Reliable t) None true r None) (attach_refuses_none role Reliable Reliable t) ∙ attaching_told (known role Reliable t))
attaches_known role Reliable Lossy t = sym (ap (λ r. with_told (known role Reliable t) None false r None) (attach_refuses_none role Reliable Lossy t) ∙ none_told (known role Reliable t))
attaches_known role Lossy Reliable t = sym (ap (λ r. with_told (known role Lossy t) None false r None) (attach_refuses_none role Lossy Reliable t) ∙ none_told (known role Lossy t))
attaches_known role Lossy Lossy t = sym (ap (λ r. with_told (known role Lossy t) None true r None) (attach_refuses_none role Lossy Lossy t) ∙ attaching_told (known role Lossy t))

pub refuses_known : (kind made : Kind) (t : Trace Act) (hr : ℕ) → told_at kind made (refusing hr) (known Client kind t) ≡ known Client kind (t ▷ Refuses made hr)
refuses_known Reliable Reliable t hr = sym (refusing_told (known Client Reliable t) hr)
refuses_known Reliable Lossy t hr = sym (none_told (known Client Reliable t))
refuses_known Lossy Reliable t hr = sym (none_told (known Client Lossy t))
refuses_known Lossy Lossy t hr = sym (refusing_told (known Client Lossy t) hr)

silence_refuses_none : (role : Role) (kind made : Kind) (t : Trace Act) (expiries : ℕ) → refusal_in role kind t (Silences made expiries) ≡ None
silence_refuses_none Server kind made t expiries = refl
silence_refuses_none Client kind made t expiries = refl

pub silences_known : (role : Role) (kind made : Kind) (t : Trace Act) (expiries : ℕ) → told_at kind made (silencing expiries) (known role kind t) ≡ known role kind (t ▷ Silences made expiries)
silences_known role Reliable Reliable t n = sym (ap (λ r. with_told (known role Reliable t) None false r (Some n)) (silence_refuses_none role Reliable Reliable t n) ∙ silencing_told (known role Reliable t) n)
silences_known role Reliable Lossy t n = sym (ap (λ r. with_told (known role Reliable t) None false r None) (silence_refuses_none role Reliable Lossy t n) ∙ none_told (known role Reliable t))
silences_known role Lossy Reliable t n = sym (ap (λ r. with_told (known role Lossy t) None false r None) (silence_refuses_none role Lossy Reliable t n) ∙ none_told (known role Lossy t))
silences_known role Lossy Lossy t n = sym (ap (λ r. with_told (known role Lossy t) None false r (Some n)) (silence_refuses_none role Lossy Lossy t n) ∙ silencing_told (known role Lossy t) n)

-- ---- whether they carry

live_told : (role : Role) (kind made : Kind) (change : Known → Known) (k : Known) → is_live_in role (change k) ≡ is_live_in role k → is_live_in role (told_at kind made change k) ≡ is_live_in role k
live_told role Reliable Reliable change k same = same
live_told role Reliable Lossy change k same = refl
live_told role Lossy Reliable change k same = refl
live_told role Lossy Lossy change k same = same

pub asking_live : (role : Role) (request : Request) (k : Known) → is_live_in role (asking request k) ≡ is_live_in role k
asking_live Server request k = refl
asking_live Client request k = refl

pub attaching_live : (role : Role) (k : Known) → is_live_in role (attaching k) ≡ is_live_in role k
attaching_live Server k = refl
attaching_live Client k = refl

pub refusing_live : (role : Role) (hr : ℕ) (k : Known) → is_live_in role (refusing hr k) ≡ is_live_in role k
refusing_live Server hr k = refl
refusing_live Client hr k = refl

-- a tunnel of which no more is told than this carries as it did
pub as_before : (role : Role) (kind made : Kind) (t : Trace Act) (act : Act) (change : Known → Known) → told_at kind made change (known role kind t) ≡ known role kind (t ▷ act) → ((k : Known) → is_live_in role (change k) ≡ is_live_in role k)
    → is_live role kind (t ▷ act) ≡ is_live role kind t
as_before role kind made t act change is same = sym (live_is role kind (t ▷ act)) ∙ ap (is_live_in role) (sym is) ∙ live_told role kind made change (known role kind t) (same (known role kind t)) ∙ live_is role kind t

-- ---- what an end knows behind such an act, by what it says of tunnels

pub record IsTold (role : Role) (t : Trace Act) (act : Act) (entries : Entries) (reliable lossy : Known) (opened : Kinds) : Type 0 where
  pub says : SaysNothing act
  pub issued_are : entries ≡ issued (t ▷ act)
  pub reliable_is : reliable ≡ known role Reliable (t ▷ act)
  pub lossy_is : lossy ≡ known role Lossy (t ▷ act)
  pub reliable_opened : opened.reliable ≡ is_live role Reliable (t ▷ act)
  pub lossy_opened : opened.lossy ≡ is_live role Lossy (t ▷ act)

pub knows_told : (role : Role) (s : Store) (t : Trace Act) (act : Act) (entries : Entries) (reliable lossy : Known) (opened : Kinds) (o : Outgoing)
    → Knows role s t → IsTold role t act entries reliable lossy opened → EndOfActs role (t ▷ act) → channels.Stands s.channels (table role (t ▷ act)) → AreTold role (t ▷ act) (s.paths).channels
    → AreKept (held role Reliable (t ▷ act)) s.held_reliable → AreKept (held role Lossy (t ▷ act)) s.held_lossy
    → Knows role (record s { paths = record s.paths { opened = opened }; issued = entries; reliable = reliable; lossy = lossy; outgoing = o }) (t ▷ act)
knows_told role s t act entries reliable lossy opened o k i lawful stands are hr hl = record {
  begun = refl;
  lawful = lawful;
  channels_stand = stands;
  words_are = record {
    version_is = (k.words_are).version_is ∙ sym (version_still t act i.says);
    reliable_is = i.reliable_opened;
    lossy_is = i.lossy_opened;
    channels_are = are;
    made_are = (k.words_are).made_are ∙ sym (made_still t act i.says);
    read_are = (k.words_are).read_are ∙ sym (read_still t act i.says);
  };
  issued_are = i.issued_are;
  reliable_is = i.reliable_is;
  lossy_is = i.lossy_is;
  reliable_held = hr;
  lossy_held = hl;
  ready_is = k.ready_is ∙ sym (ready_still t act i.says);
  owed_is = k.owed_is ∙ ap (λ x. length (unanswered_in x)) (sym (read_still t act i.says));
}
