-- What an act makes due reads nothing, and only writes more.
use Rattle.std.proofs.Common.{◌≡◌, ℕ, Bool, true, false, cond, List, [], ◌∷◌, ◌++◌, Option, None, Some, refl, sym, ap, ◌∙◌, append-nil}
use Rattle.mt_base.specs.declared.kinds.Role.{Role}
use Rattle.mt_base.specs.declared.kinds.Role.TheVariants.{Server, Client}
use Rattle.mt_base.specs.declared.kinds.Kind.{Kind}
use Rattle.mt_base.specs.declared.kinds.Kind.TheVariants.{Reliable, Lossy}
use Rattle.mt_base.specs.Trace.{Trace, ◌▷◌}
use Rattle.soft_sync.specs.Exchanges.{Request}
use Rattle.mt_endpoint.specs.Acts.{Act, Answers, Releases, Discards}
use Rattle.mt_endpoint.specs.Channels.{is_closed}
use Rattle.mt_endpoint.specs.Tunnels.{is_silent}
use Rattle.mt_endpoint.specs.Moving.{read, unanswered_in, may_answer, answer_to}
use Rattle.mt_endpoint.specs.Holding.{Held, held, only}
use Rattle.mt_endpoint.specs.Writing.{adds, on_main, into, spoken, carried}
use Rattle.mt_endpoint.specs.Faults.{Why, release_fault}
use Rattle.mt_endpoint.specs.Growing.{Grown, fine, answer_all, answered, released, release_all, freed, grown}
use Rattle.mt_base.specs.Prefix.{IsPrefixOf, IsPickOf}
use Rattle.mt_endpoint.specs.World.{heard_in, drawn_in, hears, draws}
use Rattle.mt_base.proofs.Prefixes.{front-same, front-append, front-trans, pick-nothing, pick-append, pick-at}

pub record Keeps (role : Role) (t v : Trace Act) : Type 0 where
  pub hears_are : hears v ≡ hears t
  pub draws_are : (kind : Kind) → draws kind v ≡ draws kind t
  pub spoken_more : IsPrefixOf (spoken role t) (spoken role v)
  pub carried_more : (kind : Kind) → IsPrefixOf (carried kind role t) (carried kind role v)

pub keeps_same : (role : Role) (t : Trace Act) → Keeps role t t
keeps_same role t = record { hears_are = refl; draws_are = λ kind. refl; spoken_more = front-same (spoken role t); carried_more = λ kind. front-same (carried kind role t) }

pub keeps_then : (role : Role) (t v u : Trace Act) → Keeps role t v → Keeps role v u → Keeps role t u
keeps_then role t v u h k = record {
  hears_are = k.hears_are ∙ h.hears_are;
  draws_are = λ kind. k.draws_are kind ∙ h.draws_are kind;
  spoken_more = front-trans (spoken role t) (spoken role v) (spoken role u) h.spoken_more k.spoken_more;
  carried_more = λ kind. front-trans (carried kind role t) (carried kind role v) (carried kind role u) (h.carried_more kind) (k.carried_more kind);
}

pub keeps_one : (role : Role) (t : Trace Act) (act : Act) → heard_in act ≡ [] → ((kind : Kind) → drawn_in kind act ≡ []) → Keeps role t (t ▷ act)
keeps_one role t act h d = record {
  hears_are = ap (λ l. hears t ++ l) h ∙ append-nil (hears t);
  draws_are = λ kind. ap (λ l. draws kind t ++ l) (d kind) ∙ append-nil (draws kind t);
  spoken_more = front-append (spoken role t) (on_main (adds role t act));
  carried_more = λ kind. front-append (carried kind role t) (into kind (is_silent kind t) (adds role t act));
}

answers_keep : (role : Role) (requests : List Request) (t : Trace Act) → Keeps role t (answer_all role requests t)
answers_keep role [] t = keeps_same role t
answers_keep role (request ∷ requests) t = by_test (may_answer role t request.named) (answers_keep role requests (t ▷ Answers (answer_to role t request.named))) where
  by_test : (b : Bool) → Keeps role (t ▷ Answers (answer_to role t request.named)) (answer_all role requests (t ▷ Answers (answer_to role t request.named)))
      → Keeps role t (cond b (answer_all role requests (t ▷ Answers (answer_to role t request.named))) t)
  by_test true k = keeps_then role t (t ▷ Answers (answer_to role t request.named)) _ (keeps_one role t (Answers (answer_to role t request.named)) refl (λ kind. refl)) k
  by_test false k = keeps_same role t

answered_keeps : (role : Role) (t : Trace Act) → Keeps role t (answered role t)
answered_keeps Server t = keeps_same Server t
answered_keeps Client t = answers_keep Client (unanswered_in (read t)) t

released_keeps : (role : Role) (kind : Kind) (id : ℕ) (queue : List Held) (t : Trace Act) → Keeps role t (released role kind id queue t).acts
released_keeps role kind id [] t = keeps_same role t
released_keeps role kind id (h ∷ queue) t =
    by_closed (is_closed role id t) (keeps_then role t (t ▷ Releases kind h.at h.bytes h.pdu) _ (keeps_one role t (Releases kind h.at h.bytes h.pdu) refl (λ k. refl)) (released_keeps role kind id queue (t ▷ Releases kind h.at h.bytes h.pdu)))
    (keeps_then role t (t ▷ Discards h.at h.bytes h.pdu) _ (keeps_one role t (Discards h.at h.bytes h.pdu) refl (λ k. refl)) (released_keeps role Lossy id queue (t ▷ Discards h.at h.bytes h.pdu))) where
      Deeper : Type 0
      Deeper = Keeps role t (released role kind id queue (t ▷ Releases kind h.at h.bytes h.pdu)).acts

      Other : Type 0
      Other = Keeps role t (released role Lossy id queue (t ▷ Discards h.at h.bytes h.pdu)).acts

      by_kind : (k : Kind) (why : Why) → Other → Keeps role t (elim k as (λ w. Grown) [
        | Reliable ↦ record { acts = t; fault = Some (h.at, why) }
        | Lossy ↦ released role Lossy id queue (t ▷ Discards h.at h.bytes h.pdu)
      ]).acts
      by_kind Reliable why o = keeps_same role t
      by_kind Lossy why o = o

      by_fault : (w : Option Why) → Deeper → Other → Keeps role t (elim w as (λ w. Grown) [
        | None ↦ released role kind id queue (t ▷ Releases kind h.at h.bytes h.pdu)
        | Some why ↦ elim kind as (λ w. Grown) [
          | Reliable ↦ record { acts = t; fault = Some (h.at, why) }
          | Lossy ↦ released role Lossy id queue (t ▷ Discards h.at h.bytes h.pdu)
        ]
      ]).acts
      by_fault None d o = d
      by_fault (Some why) d o = by_kind kind why o

      by_closed : (b : Bool) → Deeper → Other → Keeps role t (cond b (fine t) (elim (release_fault role t h.pdu) as (λ w. Grown) [
        | None ↦ released role kind id queue (t ▷ Releases kind h.at h.bytes h.pdu)
        | Some why ↦ elim kind as (λ w. Grown) [
          | Reliable ↦ record { acts = t; fault = Some (h.at, why) }
          | Lossy ↦ released role Lossy id queue (t ▷ Discards h.at h.bytes h.pdu)
        ]
      ])).acts
      by_closed true d o = keeps_same role t
      by_closed false d o = by_fault (release_fault role t h.pdu) d o

all_keep : (role : Role) (listed : List (ℕ × Kind)) (t : Trace Act) → Keeps role t (release_all role listed t).acts
all_keep role [] t = keeps_same role t
all_keep role ((id, kind) ∷ listed) t =
    let g = released role kind id (only id (held role kind t)) t in
    by_fault g.fault (released_keeps role kind id (only id (held role kind t)) t) (all_keep role listed g.acts) where
      by_fault : (w : Option (ℕ × Why)) → Keeps role t (released role kind id (only id (held role kind t)) t).acts
          → Keeps role (released role kind id (only id (held role kind t)) t).acts (release_all role listed (released role kind id (only id (held role kind t)) t).acts).acts
          → Keeps role t (elim w as (λ w. Grown) [ Some fault ↦ released role kind id (only id (held role kind t)) t | None ↦ release_all role listed (released role kind id (only id (held role kind t)) t).acts ]).acts
      by_fault (Some fault) k deeper = k
      by_fault None k deeper = keeps_then role t (released role kind id (only id (held role kind t)) t).acts _ k deeper

pub grown_keeps : (role : Role) (t : Trace Act) (act : Act) → Keeps role (t ▷ act) (grown role t act).acts
grown_keeps role t act =
    keeps_then role (t ▷ act) (answered role (t ▷ act)) _ (answered_keeps role (t ▷ act)) (all_keep role (freed t act) (answered role (t ▷ act)))

-- what was picked from a front
pub pick_front : {A : Type 0} (xs ys zs : List A) → IsPickOf xs ys → IsPrefixOf ys zs → IsPickOf xs zs
pick_front xs ys zs h k = pick-at (xs ++ []) xs (ys ++ k.0) zs (append-nil xs) (sym k.1) (pick-append xs ys [] k.0 h (pick-nothing k.0))
