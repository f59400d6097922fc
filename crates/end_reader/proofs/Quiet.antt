-- Between the steps of an end nothing is held of a channel whose word is read, and no answer of a client is
-- due: an act is followed by all the answers that may be made, and what is released then makes none due.
use Rattle.std.proofs.Common.{◌≡◌, ◌⊎◌, inl, inr, ℕ, ◌+◌, ◌≤◌, Bool, true, false, not, ◌&&◌, ◌||◌, cond, List, [], ◌∷◌, Option, Some, None, option_map, Result, Ok, Err, refl, sym, ap, subst, ◌∙◌, arith}
use Rattle.mt_base.specs.declared.kinds.Kind.{Kind}
use Rattle.mt_base.specs.declared.kinds.Kind.TheVariants.{Reliable, Lossy}
use Rattle.mt_base.specs.declared.kinds.Role.{Role}
use Rattle.mt_base.specs.declared.kinds.Role.TheVariants.{Server, Client}
use Rattle.mt_base.specs.Trace.{Trace, Start, ◌▷◌}
use Rattle.dvc_pdus.specs.declared.pdu.DvcRefusal.{DvcRefusal}
use Rattle.dvc_pdus.specs.Value.{Pdu}
use Rattle.soft_sync.specs.declared.kinds.Kinds.{Kinds}
use Rattle.soft_sync.specs.Exchanges.{Request}
use Rattle.mt_endpoint.specs.Acts.{Act, Answers, Carried, CreateAnswered, CreateAsked, Discards, Drawn, Heard, Hears, Nothing, Releases}
use Rattle.mt_endpoint.specs.Alone.{EndOfActs, IsAnswer}
use Rattle.mt_endpoint.specs.Faults.{Why, main_fault, tunnel_fault}
use Rattle.mt_endpoint.specs.Growing.{answer_all, answered, freed, grown}
use Rattle.mt_endpoint.specs.Moving.{answer_made, answer_to, may_answer, read, read_by, unanswered_in}
use Rattle.mt_endpoint.specs.Resting.{Rests}
use Rattle.mt_endpoint.specs.Tunnels.{is_settled}
use Rattle.mt_endpoint.specs.World.{IsStep, begins, fault_of, is_begun}
use Rattle.mt_endpoint.proofs.Resting.{grown_rests}
use Rattle.mt_endpoint.proofs.Walking.{IsNext, grown_walk}
use Rattle.end_calls.specs.Law.{IsFront, shorter, whole}
use Rattle.end_calls.specs.Streams.{Past, drawing, fault_at, grows, in_tunnel, missed_or, on_main, reads, reads_drawn, reads_heard}
use Rattle.end_calls.proofs.Fronts.{Lasts, grown_lasts}
use Rattle.end_calls.proofs.Onward.{front_then}
use Rattle.end_calls.proofs.Standing.{Drawing, drawing_is}
use Rattle.end_session.specs.AnswerDue.{due, oldest_due}
use Rattle.end_session.specs.Known.{is_settled_in}
use Rattle.end_session.proofs.Added.{answered_front}
use Rattle.end_session.proofs.AllAnswered.{rest_read}
use Rattle.end_session.proofs.KnownOf.{settled_is}
use Rattle.end_session.proofs.OnWay.{all_front}
use Rattle.end_session.proofs.Still.{TellsNothing, known_still, read_same}

-- ---- an act that tells nothing of tunnels and words makes no answer due

settled_still : (kind : Kind) (t : Trace Act) (act : Act) → TellsNothing Client kind t act → is_settled Client kind (t ▷ act) ≡ is_settled Client kind t
settled_still kind t act n = sym (settled_is Client kind (t ▷ act)) ∙ ap (is_settled_in Client) (known_still Client kind t act n) ∙ settled_is Client kind t

may_still : (t : Trace Act) (act : Act) (named : Kinds) → TellsNothing Client Reliable t act → TellsNothing Client Lossy t act → may_answer Client (t ▷ act) named ≡ may_answer Client t named
may_still t act named reliable lossy =
    ap (λ x. (not named.reliable || x) && (not named.lossy || is_settled Client Lossy (t ▷ act))) (settled_still Reliable t act reliable)
    ∙ ap (λ x. (not named.reliable || is_settled Client Reliable t) && (not named.lossy || x)) (settled_still Lossy t act lossy)

none_still : (t : Trace Act) (act : Act) (requests : List Request) → TellsNothing Client Reliable t act → TellsNothing Client Lossy t act → oldest_due t requests ≡ None → oldest_due (t ▷ act) requests ≡ None
none_still t act [] reliable lossy h = refl
none_still t act (request ∷ requests) reliable lossy h = by_test (may_answer Client t request.named) refl h where
  by_test : (b : Bool) → may_answer Client t request.named ≡ b → cond b (Some (answer_to Client t request.named)) None ≡ None → oldest_due (t ▷ act) (request ∷ requests) ≡ None
  by_test true e k = absurd (let no : Some (answer_to Client t request.named) ≡ None = k in cc)
  by_test false e k = ap (λ b. cond b (Some (answer_to Client (t ▷ act) request.named)) None) (may_still t act request.named reliable lossy ∙ e)

due_still : (t : Trace Act) (act : Act) → TellsNothing Client Reliable t act → TellsNothing Client Lossy t act → read_by act ≡ [] → answer_made act ≡ [] → due t ≡ None → due (t ▷ act) ≡ None
due_still t act reliable lossy none_read none_made h =
    ap (λ xs. oldest_due (t ▷ act) (unanswered_in xs)) (read_same t act none_read none_made) ∙ none_still t act (unanswered_in (read t)) reliable lossy h

-- ---- behind all answers none is due

all_quiet : (requests : List Request) (t : Trace Act) → unanswered_in (read t) ≡ requests → due (answer_all Client requests t) ≡ None
all_quiet [] t e = ap (oldest_due t) e
all_quiet (request ∷ requests) t e = by_test (may_answer Client t request.named) refl (all_quiet requests (t ▷ Answers (answer_to Client t request.named)) (rest_read t (answer_to Client t request.named) request requests e)) where
  by_test : (b : Bool) → may_answer Client t request.named ≡ b → due (answer_all Client requests (t ▷ Answers (answer_to Client t request.named))) ≡ None
      → due (cond b (answer_all Client requests (t ▷ Answers (answer_to Client t request.named))) t) ≡ None
  by_test true m deeper = deeper
  by_test false m deeper = ap (oldest_due t) e ∙ ap (λ b. cond b (Some (answer_to Client t request.named)) None) m

answered_quiet : (t : Trace Act) → due (answered Client t) ≡ None
answered_quiet t = all_quiet (unanswered_in (read t)) t refl

not_due : (t : Trace Act) (named : Kinds) → due t ≡ None → IsAnswer Client t named → ⊥
not_due t named h a =
    let first : oldest_due t (a.request ∷ a.rest) ≡ None = ap (oldest_due t) (sym a.is_oldest) ∙ h in
    let no : Some (answer_to Client t (a.request).named) ≡ None = ap (λ b. cond b (Some (answer_to Client t (a.request).named)) None) (sym a.may) ∙ first in
    cc

-- ---- nor behind what follows them

abbrev size : Trace Act → ℕ
size Start = 0
size (t ▷ act) = size t + 1

front_size : (t u : Trace Act) → IsFront t u → size t ≤ size u
front_size _ _ (whole t) = omega arith
front_size _ _ (shorter t u act f) = omega (arith, front_size t u f)

-- a front is all, or a front of all but the last act
by_last : (u t : Trace Act) (act : Act) (w : Trace Act) → w ≡ t ▷ act → IsFront u w → (u ≡ t ▷ act) ⊎ IsFront u t
by_last _ t act _ e (whole w) = inl e
by_last _ t act _ e (shorter u w last f) = let same : w ≡ t = cc in inr (subst (λ x. IsFront u x) same f)

-- from the moment u on
abbrev IsQuiet : Trace Act → Trace Act → Type 0
IsQuiet u t = IsFront u t → EndOfActs Client t → due t ≡ None

quiet_next : (u t : Trace Act) (act : Act) → due u ≡ None → IsQuiet u t → (due t ≡ None → EndOfActs Client (t ▷ act) → due (t ▷ act) ≡ None) → IsQuiet u (t ▷ act)
quiet_next u t act fine q next f e = by_case (by_last u t act (t ▷ act) refl f) where
  by_case : (u ≡ t ▷ act) ⊎ IsFront u t → due (t ▷ act) ≡ None
  by_case (inl same) = subst (λ x. due x ≡ None) same fine
  by_case (inr front) = next (q front e.2) e

release_still : (t : Trace Act) (kind : Kind) (at : ℕ) (bytes : List ℕ) (pdu : Pdu) → due t ≡ None → due (t ▷ Releases kind at bytes pdu) ≡ None
release_still t kind at bytes pdu h =
    due_still t (Releases kind at bytes pdu) (record { no_request = refl; no_link = refl; no_verdict = refl; no_answer = refl; no_refusal = refl; no_silence = refl })
    (record { no_request = refl; no_link = refl; no_verdict = refl; no_answer = refl; no_refusal = refl; no_silence = refl })
    refl refl h

discard_still : (t : Trace Act) (at : ℕ) (bytes : List ℕ) (pdu : Pdu) → due t ≡ None → due (t ▷ Discards at bytes pdu) ≡ None
discard_still t at bytes pdu h =
    due_still t (Discards at bytes pdu) (record { no_request = refl; no_link = refl; no_verdict = refl; no_answer = refl; no_refusal = refl; no_silence = refl })
    (record { no_request = refl; no_link = refl; no_verdict = refl; no_answer = refl; no_refusal = refl; no_silence = refl })
    refl refl h

quiet_lasts : (u : Trace Act) → due u ≡ None → Lasts (IsQuiet u)
quiet_lasts u fine = record {
  answers = λ t named q. quiet_next u t (Answers named) fine q (λ h e. absurd (not_due t named h e.1));
  releases = λ t kind at bytes pdu q. quiet_next u t (Releases kind at bytes pdu) fine q (λ h e. release_still t kind at bytes pdu h);
  discards = λ t at bytes pdu q. quiet_next u t (Discards at bytes pdu) fine q (λ h e. discard_still t at bytes pdu h);
}

quiet_first : (t : Trace Act) (act : Act) → IsQuiet (answered Client (t ▷ act)) (t ▷ act)
quiet_first t act f e = by_case (by_last (answered Client (t ▷ act)) t act (t ▷ act) refl f) where
  by_case : (answered Client (t ▷ act) ≡ t ▷ act) ⊎ IsFront (answered Client (t ▷ act)) t → due (t ▷ act) ≡ None
  by_case (inl same) = subst (λ x. due x ≡ None) same (answered_quiet (t ▷ act))
  by_case (inr front) = absurd (omega (arith, front_size (t ▷ act) t (front_then (t ▷ act) (answered Client (t ▷ act)) t (answered_front Client (t ▷ act)) front)))

-- no answer is due behind an act and what it makes due
pub grown_quiet : (t : Trace Act) (act : Act) → EndOfActs Client (grown Client t act).acts → due (grown Client t act).acts ≡ None
grown_quiet t act e =
    let u = answered Client (t ▷ act) in
    grown_lasts (IsQuiet u) (quiet_lasts u (answered_quiet (t ▷ act))) Client t act (quiet_first t act) (all_front Client (freed t act) u) e

-- ---- between steps

-- nothing is held of a channel whose word is read, and no answer of a client is due
pub record IsCalm (role : Role) (t : Trace Act) : Type 0 where
  pub rests : Rests role t
  pub quiet : role ≡ Client → due t ≡ None

pub grown_calm : (role : Role) (t : Trace Act) (act : Act) → EndOfActs role t → IsNext role t act → Rests role t → (grown role t act).fault ≡ None → IsCalm role (grown role t act).acts
grown_calm role t act e n r fine = record { rests = grown_rests role t act e n r fine; quiet = by_role role (grown_walk role t act e n).walked.acts } where
  by_role : (r : Role) → EndOfActs r (grown r t act).acts → r ≡ Client → due (grown r t act).acts ≡ None
  by_role Server e is = absurd (let no : Server ≡ Client = is in cc)
  by_role Client e is = grown_quiet t act e

none_mapped : {A B : Type 0} (f : A → B) (o : Option A) → option_map f o ≡ None → o ≡ None
none_mapped f None h = refl
none_mapped f (Some x) h = absurd (let no : Some (f x) ≡ None = h in cc)

pub grows_calm : (role : Role) (act : Act) (p : Past) → EndOfActs role p.acts → IsNext role p.acts act → Rests role p.acts → (grows role act p).broken ≡ None → IsCalm role (grows role act p).acts
grows_calm role act p e n r unbroken = grown_calm role p.acts act e n r (none_mapped (λ (f : ℕ × Why). fault_at (in_tunnel f.0) f.1) (grown role p.acts act).fault unbroken)

later : (act : Act) (b : Bool) → begins act ≡ false → b ≡ true → begins act ≡ not b
later act true e h = e
later act false e h = absurd (let no : false ≡ true = h in cc)

-- a frame that was read without a fault
pub heard_calm : (role : Role) (at : ℕ) (r : Result Heard DvcRefusal) (p : Past) → EndOfActs role p.acts → is_begun p.acts ≡ true → Rests role p.acts → (reads_heard role at r p).broken ≡ None → IsCalm role (reads_heard role at r p).acts
heard_calm role at (Err refusal) p e b r unbroken = absurd (let no : Some _ ≡ None = unbroken in cc)
heard_calm role at (Ok heard) p e b r unbroken = by_fault (main_fault role p.acts heard) refl unbroken where
  by_fault : (w : Option Why) → main_fault role p.acts heard ≡ w → (reads role (on_main at) w (Hears heard) p).broken ≡ None → IsCalm role (reads role (on_main at) w (Hears heard) p).acts
  by_fault (Some w) f unbroken = absurd (let no : Some (fault_at (on_main at) w) ≡ None = unbroken in cc)
  by_fault None f unbroken = grows_calm role (Hears heard) p e (later (Hears heard) (is_begun p.acts) refl b, tt, f) r unbroken

-- a tunnel PDU of the reliable link that was pulled without a fault
pub drawn_calm : (role : Role) (at : ℕ) (r : Result Drawn DvcRefusal) (p : Past) → EndOfActs role p.acts → is_begun p.acts ≡ true → Rests role p.acts → (reads_drawn role at r p).broken ≡ None → IsCalm role (reads_drawn role at r p).acts
drawn_calm role at (Err refusal) p e b r unbroken = absurd (let no : Some _ ≡ None = unbroken in cc)
drawn_calm role at (Ok drawn) p e b r unbroken = by_fault (tunnel_fault role p.acts drawn) refl unbroken where
  act : Act
  act = drawing role Reliable at p.acts false drawn

  d : Drawing role Reliable p.acts drawn act
  d = drawing_is role Reliable at p.acts false drawn

  by_fault : (w : Option Why) → tunnel_fault role p.acts drawn ≡ w → (reads role (in_tunnel at) w act p).broken ≡ None → IsCalm role (reads role (in_tunnel at) w act p).acts
  by_fault (Some w) f unbroken = absurd (let no : Some (fault_at (in_tunnel at) w) ≡ None = unbroken in cc)
  by_fault None f unbroken = grows_calm role act p e (later act (is_begun p.acts) d.later b, d.step, no_fault role at p.acts drawn f) r unbroken
    where
      no_fault : (role : Role) (at : ℕ) (t : Trace Act) (drawn : Drawn) → tunnel_fault role t drawn ≡ None → fault_of role t (drawing role Reliable at t false drawn)
      no_fault Server at t (CreateAsked id cookie) f = tt
      no_fault Client at t (CreateAsked id cookie) f = f
      no_fault Server at t (CreateAnswered hr) f = f
      no_fault Client at t (CreateAnswered hr) f = f
      no_fault Server at t Nothing f = f
      no_fault Client at t Nothing f = f
      no_fault Server at t (Carried bytes pdu) f = f
      no_fault Client at t (Carried bytes pdu) f = f

part_step : (role : Role) (t : Trace Act) (is_full : Bool) (o : Option Drawn) → (begins (missed_or role t is_full o) ≡ false) × IsStep role t (missed_or role t is_full o) × fault_of role t (missed_or role t is_full o)
part_step role t is_full None = (refl, tt, tt)
part_step role t is_full (Some drawn) = let d = drawing_is role Lossy 0 t is_full drawn in (d.later, d.step, no_fault role t drawn) where
  no_fault : (role : Role) (t : Trace Act) (drawn : Drawn) → fault_of role t (drawing role Lossy 0 t is_full drawn)
  no_fault Server t (CreateAsked id cookie) = tt
  no_fault Client t (CreateAsked id cookie) = tt
  no_fault Server t (CreateAnswered hr) = tt
  no_fault Client t (CreateAnswered hr) = tt
  no_fault Server t Nothing = tt
  no_fault Client t Nothing = tt
  no_fault Server t (Carried bytes pdu) = tt
  no_fault Client t (Carried bytes pdu) = tt

-- a part of the lossy link
pub part_calm : (role : Role) (is_full : Bool) (o : Option Drawn) (p : Past) → EndOfActs role p.acts → is_begun p.acts ≡ true → Rests role p.acts → (grows role (missed_or role p.acts is_full o) p).broken ≡ None
    → IsCalm role (grows role (missed_or role p.acts is_full o) p).acts
part_calm role is_full o p e b r unbroken =
    let act = missed_or role p.acts is_full o in
    let s = part_step role p.acts is_full o in
    grows_calm role act p e (later act (is_begun p.acts) s.0 b, s.1, s.2) r unbroken
