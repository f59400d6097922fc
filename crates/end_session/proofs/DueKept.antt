-- Which answer is due, by what a client keeps.
use Rattle.std.proofs.Common.{◌≡◌, ℕ, List, [], ◌∷◌, refl, sym, ap, ◌∙◌}
use Rattle.mt_base.specs.declared.kinds.Kind.{Kind}
use Rattle.mt_base.specs.declared.kinds.Kind.TheVariants.{Reliable, Lossy}
use Rattle.mt_base.specs.declared.kinds.Role.TheVariants.{Client}
use Rattle.mt_base.specs.Trace.{Trace, ◌▷◌}
use Rattle.dvc_pdus.specs.Value.{Pdu}
use Rattle.soft_sync.specs.Exchanges.{Request}
use Rattle.mt_endpoint.specs.Acts.{Act, Draws, Carried}
use Rattle.mt_endpoint.specs.Moving.{read, unanswered_in}
use Rattle.end_session.specs.AnswerDue.{due, due_in, oldest_due, oldest_due_in}
use Rattle.end_session.specs.Known.{known}
use Rattle.end_session.specs.Standing.{Gone, Stands}
use Rattle.end_session.specs.Store.{Store}
use Rattle.end_session.proofs.AnswersMade.{of_client}
use Rattle.end_session.proofs.Drawn.{still}
use Rattle.end_session.proofs.Still.{IsStill, known_still, read_still}

oldest_same : (s : Store) (t : Trace Act) (requests : List Request) → s.reliable ≡ known Client Reliable t → s.lossy ≡ known Client Lossy t → oldest_due t requests ≡ oldest_due_in s requests
oldest_same s t [] reliable lossy = refl
oldest_same s t (request ∷ requests) reliable lossy =
    sym
    (ap (λ k. oldest_due_in (record s { reliable = k }) (request ∷ requests)) reliable
    ∙ ap (λ k. oldest_due_in (record s { reliable = known Client Reliable t; lossy = k }) (request ∷ requests)) lossy)

due_same : (s : Store) (t : Trace Act) → (s.paths).read ≡ read t → s.reliable ≡ known Client Reliable t → s.lossy ≡ known Client Lossy t → due t ≡ due_in s
due_same s t read_is reliable lossy = ap (λ xs. oldest_due t (unanswered_in xs)) (sym read_is) ∙ oldest_same s t (unanswered_in (s.paths).read) reliable lossy

-- what is due by the acts is due by what they left
pub due_is : (s : Store) (t : Trace Act) (gone : Gone) → s.role ≡ Client → Stands s t gone → due t ≡ due_in s
due_is s t gone is st = let k = of_client s t gone is st in due_same s t (k.words_are).read_are k.reliable_is k.lossy_is

-- and an act that tells nothing makes no answer due
pub due_still : (s : Store) (t : Trace Act) (gone : Gone) (act : Act) → s.role ≡ Client → Stands s t gone → IsStill Client t act → due (t ▷ act) ≡ due_in s
due_still s t gone act is st i =
    let k = of_client s t gone is st in
    due_same s (t ▷ act) ((k.words_are).read_are ∙ sym (read_still t act i.says)) (k.reliable_is ∙ sym (known_still Client Reliable t act i.reliable)) (k.lossy_is ∙ sym (known_still Client Lossy t act i.lossy))

-- as a channel PDU that is pulled
pub due_drawn : (s : Store) (t : Trace Act) (gone : Gone) (kind : Kind) (place : ℕ) (bytes : List ℕ) (pdu : Pdu) → s.role ≡ Client → Stands s t gone → due (t ▷ Draws kind place (Carried bytes pdu)) ≡ due_in s
due_drawn s t gone kind place bytes pdu is st = due_still s t gone (Draws kind place (Carried bytes pdu)) is st (still Client kind t place (Carried bytes pdu) (λ k. refl))
