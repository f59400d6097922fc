-- Steps of an end's own after which no answer is due.
use Rattle.std.proofs.Common.{◌≡◌, ℕ, Bool, true, false, not, cond, ◌&&◌, ◌||◌, List, [], ◌∷◌, ◌++◌, Option, Some, None, is_some, refl, sym, ap, ◌∙◌, append-nil}
use Rattle.std.specs.Option.{option_or}
use Rattle.mt_base.specs.declared.kinds.Kind.{Kind}
use Rattle.mt_base.specs.declared.kinds.Kind.TheVariants.{Reliable, Lossy}
use Rattle.mt_base.specs.declared.kinds.Role.{Role}
use Rattle.mt_base.specs.declared.kinds.Role.TheVariants.{Server, Client}
use Rattle.mt_base.specs.Trace.{Trace, ◌▷◌}
use Rattle.soft_sync.specs.declared.kinds.Kinds.{Kinds}
use Rattle.soft_sync.specs.Exchanges.{Request, exchanges}
use Rattle.mt_endpoint.specs.Acts.{Act, Answers}
use Rattle.mt_endpoint.specs.Growing.{answer_all, answered, fine, freed, grown, release_all}
use Rattle.mt_endpoint.specs.Moving.{all_told, answer_made, answer_to, may_answer, read, read_by, unanswered_in}
use Rattle.mt_endpoint.specs.Tunnels.{answer, answer_in, first_told, is_zero, not_zero, refusal_in, silence, silence_in, told_refusal}
use Rattle.end_session.specs.AnswerDue.{due, oldest_due}

none_to_answer : (t : Trace Act) (requests : List Request) → oldest_due t requests ≡ None → answer_all Client requests t ≡ t
none_to_answer t [] none = refl
none_to_answer t (request ∷ requests) none = by_test (may_answer Client t request.named) none where
  by_test : (b : Bool) → cond b (Some (answer_to Client t request.named)) None ≡ None → cond b (answer_all Client requests (t ▷ Answers (answer_to Client t request.named))) t ≡ t
  by_test true none = absurd (let no : Some (answer_to Client t request.named) ≡ None = none in cc)
  by_test false none = refl

-- where no answer is due, and nothing is freed, an act is all that comes of it
pub alone : (role : Role) (t : Trace Act) (act : Act) → freed t act ≡ [] → (role ≡ Client → due (t ▷ act) ≡ None) → grown role t act ≡ fine (t ▷ act)
alone Server t act none quiet = ap (λ xs. release_all Server xs (t ▷ act)) none
alone Client t act none quiet = ap (λ xs. release_all Client xs (answered Client (t ▷ act))) none ∙ ap fine (none_to_answer (t ▷ act) (unanswered_in (read (t ▷ act))) (quiet refl))

-- ---- what an answer rests on

record Fate : Type 0 where
  pub silence : Option ℕ
  pub answer : Option ℕ
  pub refusal : Option ℕ

abbrev fate : Kind → Trace Act → Fate
fate kind t = record { silence = silence kind t; answer = answer kind t; refusal = told_refusal Client kind t }

abbrev settled : Fate → Bool
settled f = is_some f.silence || (is_zero f.answer || is_some (option_or f.refusal (not_zero f.answer)))

abbrev live : Fate → Bool
live f = is_zero f.answer && not (is_some f.silence)

abbrev oldest_by : Fate → Fate → List Request → Option Kinds
oldest_by reliable lossy [] = None
oldest_by reliable lossy (request ∷ requests) =
    cond ((not request.named.reliable || settled reliable) && (not request.named.lossy || settled lossy))
    (Some (record { reliable = request.named.reliable && live reliable; lossy = request.named.lossy && live lossy })) None

oldest_is : (t : Trace Act) (requests : List Request) → oldest_due t requests ≡ oldest_by (fate Reliable t) (fate Lossy t) requests
oldest_is t [] = refl
oldest_is t (request ∷ requests) = refl

pub or_none : {A : Type 0} (o : Option A) → option_or o None ≡ o
or_none None = refl
or_none (Some x) = refl

pub same_told : {A : Type 0} (tells : Act → Option A) (t : Trace Act) (act : Act) → tells act ≡ None → first_told tells (t ▷ act) ≡ first_told tells t
same_told tells t act none = ap (option_or (first_told tells t)) none ∙ or_none (first_told tells t)

-- it says nothing of what became of a tunnel
pub record Settles (kind : Kind) (t : Trace Act) (act : Act) : Type 0 where
  pub no_silence : silence_in kind act ≡ None
  pub no_answer : answer_in kind act ≡ None
  pub no_refusal : refusal_in Client kind t act ≡ None

fate_same : (kind : Kind) (t : Trace Act) (act : Act) → Settles kind t act → fate kind (t ▷ act) ≡ fate kind t
fate_same kind t act s =
    let a : silence kind (t ▷ act) ≡ silence kind t = same_told (silence_in kind) t act s.no_silence in
    let b : answer kind (t ▷ act) ≡ answer kind t = same_told (answer_in kind) t act s.no_answer in
    let c : told_refusal Client kind (t ▷ act) ≡ told_refusal Client kind t = ap (option_or (told_refusal Client kind t)) s.no_refusal ∙ or_none (told_refusal Client kind t) in
    cc

pub read_same : (t : Trace Act) (act : Act) → read_by act ≡ [] → answer_made act ≡ [] → read (t ▷ act) ≡ read t
read_same t act none_read none_made =
    ap (λ xs. exchanges (all_told read_by t ++ xs) (all_told answer_made t ++ answer_made act)) none_read
    ∙ ap (λ xs. exchanges xs (all_told answer_made t ++ answer_made act)) (append-nil (all_told read_by t))
    ∙ ap (λ xs. exchanges (all_told read_by t) (all_told answer_made t ++ xs)) none_made
    ∙ ap (exchanges (all_told read_by t)) (append-nil (all_told answer_made t))

pub due_same : (t : Trace Act) (act : Act) → read_by act ≡ [] → answer_made act ≡ [] → Settles Reliable t act → Settles Lossy t act → due (t ▷ act) ≡ due t
due_same t act none_read none_made reliable lossy =
    ap (λ xs. oldest_due (t ▷ act) (unanswered_in xs)) (read_same t act none_read none_made)
    ∙ oldest_is (t ▷ act) (unanswered_in (read t))
    ∙ ap (λ f. oldest_by f (fate Lossy (t ▷ act)) (unanswered_in (read t))) (fate_same Reliable t act reliable)
    ∙ ap (λ f. oldest_by (fate Reliable t) f (unanswered_in (read t))) (fate_same Lossy t act lossy)
    ∙ sym (oldest_is t (unanswered_in (read t)))
