-- Acts that say nothing of tunnels and words: what is known of these stays as it was.
use Rattle.std.proofs.Common.{◌≡◌, ℕ, Bool, true, false, ◌||◌, List, [], ◌++◌, length, Option, Some, None, refl, sym, ap, ◌∙◌, append-nil}
use Rattle.std.specs.Option.{option_or}
use Rattle.mt_base.specs.declared.kinds.Kind.{Kind}
use Rattle.mt_base.specs.declared.kinds.Kind.TheVariants.{Reliable, Lossy}
use Rattle.mt_base.specs.declared.kinds.Role.{Role}
use Rattle.mt_base.specs.Trace.{Trace, ◌▷◌}
use Rattle.dvc_channels.specs.Table as channels
use Rattle.hold_queue.specs.Held as hold
use Rattle.soft_sync.specs.Exchanges.{exchanges}
use Rattle.mt_endpoint.specs.Acts.{Act}
use Rattle.mt_endpoint.specs.Alone.{EndOfActs}
use Rattle.mt_endpoint.specs.Channels.{came, is_ready, table, tells_capabilities}
use Rattle.mt_endpoint.specs.Holding.{held}
use Rattle.mt_endpoint.specs.Moving.{all_told, answer_made, answer_read, made, made_by, read, read_by, unanswered_in}
use Rattle.mt_endpoint.specs.Tunnels.{answer, answer_in, asked, attaches, first_told, is_attached, is_live, issued, opens, refusal_in, request_in, silence, silence_in, told_refusal, was_opened}
use Rattle.end_calls.specs.Refusing.{or_zero, version_in}
use Rattle.end_session.specs.Known.{known, is_live_in}
use Rattle.end_session.specs.Outgoing.{Outgoing}
use Rattle.end_session.specs.Standing.{AreKept, AreTold, Knows}
use Rattle.end_session.specs.Store.{Store}
use Rattle.end_session.proofs.KnownOf.{live_is}

pub or_none : {A : Type 0} (o : Option A) → option_or o None ≡ o
or_none None = refl
or_none (Some x) = refl

pub or_false : (b : Bool) → b || false ≡ b
or_false true = refl
or_false false = refl

-- nothing is told of a tunnel of this kind
pub record TellsNothing (role : Role) (kind : Kind) (t : Trace Act) (act : Act) : Type 0 where
  pub no_request : request_in kind act ≡ None
  pub no_link : attaches kind act ≡ false
  pub no_verdict : opens kind act ≡ false
  pub no_answer : answer_in kind act ≡ None
  pub no_refusal : refusal_in role kind t act ≡ None
  pub no_silence : silence_in kind act ≡ None

pub known_still : (role : Role) (kind : Kind) (t : Trace Act) (act : Act) → TellsNothing role kind t act → known role kind (t ▷ act) ≡ known role kind t
known_still role kind t act n =
    let a : asked kind (t ▷ act) ≡ asked kind t = ap (option_or (asked kind t)) n.no_request ∙ or_none (asked kind t) in
    let b : is_attached kind (t ▷ act) ≡ is_attached kind t = ap (λ x. is_attached kind t || x) n.no_link ∙ or_false (is_attached kind t) in
    let c : was_opened kind (t ▷ act) ≡ was_opened kind t = ap (λ x. was_opened kind t || x) n.no_verdict ∙ or_false (was_opened kind t) in
    let d : answer kind (t ▷ act) ≡ answer kind t = ap (option_or (answer kind t)) n.no_answer ∙ or_none (answer kind t) in
    let e : told_refusal role kind (t ▷ act) ≡ told_refusal role kind t = ap (option_or (told_refusal role kind t)) n.no_refusal ∙ or_none (told_refusal role kind t) in
    let f : silence kind (t ▷ act) ≡ silence kind t = ap (option_or (silence kind t)) n.no_silence ∙ or_none (silence kind t) in
    cc

pub live_still : (role : Role) (kind : Kind) (t : Trace Act) (act : Act) → TellsNothing role kind t act → is_live role kind (t ▷ act) ≡ is_live role kind t
live_still role kind t act n = sym (live_is role kind (t ▷ act)) ∙ ap (is_live_in role) (known_still role kind t act n) ∙ live_is role kind t

-- and nothing of words
pub record SaysNothing (act : Act) : Type 0 where
  pub none_made : made_by act ≡ []
  pub none_read : read_by act ≡ []
  pub no_answer_read : answer_read act ≡ []
  pub no_answer_made : answer_made act ≡ []
  pub no_version : version_in act ≡ None
  pub no_capabilities : tells_capabilities (came act) ≡ false

pub told_still : {A : Type 0} (tells : Act → List A) (t : Trace Act) (act : Act) → tells act ≡ [] → all_told tells (t ▷ act) ≡ all_told tells t
told_still tells t act e = ap (λ x. all_told tells t ++ x) e ∙ append-nil (all_told tells t)

pub made_same : (t : Trace Act) (act : Act) → made_by act ≡ [] → answer_read act ≡ [] → made (t ▷ act) ≡ made t
made_same t act none_made no_answer = ap (λ x. exchanges x (all_told answer_read (t ▷ act))) (told_still made_by t act none_made) ∙ ap (exchanges (all_told made_by t)) (told_still answer_read t act no_answer)

pub read_same : (t : Trace Act) (act : Act) → read_by act ≡ [] → answer_made act ≡ [] → read (t ▷ act) ≡ read t
read_same t act none_read no_answer = ap (λ x. exchanges x (all_told answer_made (t ▷ act))) (told_still read_by t act none_read) ∙ ap (exchanges (all_told read_by t)) (told_still answer_made t act no_answer)

pub made_still : (t : Trace Act) (act : Act) → SaysNothing act → made (t ▷ act) ≡ made t
made_still t act s = made_same t act s.none_made s.no_answer_read

pub read_still : (t : Trace Act) (act : Act) → SaysNothing act → read (t ▷ act) ≡ read t
read_still t act s = read_same t act s.none_read s.no_answer_made

pub ready_still : (t : Trace Act) (act : Act) → SaysNothing act → is_ready (t ▷ act) ≡ is_ready t
ready_still t act s = ap (λ x. is_ready t || x) s.no_capabilities ∙ or_false (is_ready t)

pub version_still : (t : Trace Act) (act : Act) → SaysNothing act → or_zero (first_told version_in (t ▷ act)) ≡ or_zero (first_told version_in t)
version_still t act s = ap or_zero (ap (option_or (first_told version_in t)) s.no_version ∙ or_none (first_told version_in t))

pub record IsStill (role : Role) (t : Trace Act) (act : Act) : Type 0 where
  pub reliable : TellsNothing role Reliable t act
  pub lossy : TellsNothing role Lossy t act
  pub says : SaysNothing act
  pub none_issued : issued (t ▷ act) ≡ issued t

-- what is known behind an act that changes no more than channels and what is held
pub knows_still : (role : Role) (s : Store) (t : Trace Act) (act : Act) (c : channels.Table) (told : List (ℕ × Bool)) (reliable lossy : List hold.Pdu) (o : Outgoing)
    → Knows role s t → IsStill role t act → EndOfActs role (t ▷ act) → channels.Stands c (table role (t ▷ act)) → AreTold role (t ▷ act) told
    → AreKept (held role Reliable (t ▷ act)) reliable → AreKept (held role Lossy (t ▷ act)) lossy
    → Knows role (record s { channels = c; paths = record s.paths { channels = told }; held_reliable = reliable; held_lossy = lossy; outgoing = o }) (t ▷ act)
knows_still role s t act c told reliable lossy o k i lawful stands are hr hl = record {
  begun = refl;
  lawful = lawful;
  channels_stand = stands;
  words_are = record {
    version_is = (k.words_are).version_is ∙ sym (version_still t act i.says);
    reliable_is = (k.words_are).reliable_is ∙ sym (live_still role Reliable t act i.reliable);
    lossy_is = (k.words_are).lossy_is ∙ sym (live_still role Lossy t act i.lossy);
    channels_are = are;
    made_are = (k.words_are).made_are ∙ sym (made_still t act i.says);
    read_are = (k.words_are).read_are ∙ sym (read_still t act i.says);
  };
  issued_are = k.issued_are ∙ sym i.none_issued;
  reliable_is = k.reliable_is ∙ sym (known_still role Reliable t act i.reliable);
  lossy_is = k.lossy_is ∙ sym (known_still role Lossy t act i.lossy);
  reliable_held = hr;
  lossy_held = hl;
  ready_is = k.ready_is ∙ sym (ready_still t act i.says);
  owed_is = k.owed_is ∙ ap (λ x. length (unanswered_in x)) (sym (read_still t act i.says));
}
