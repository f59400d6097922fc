-- Fronts of the acts of an end, and what an act makes due.
use Rattle.std.proofs.Common.{◌≡◌, ℕ, Bool, true, false, ◌||◌, cond, List, [], ◌∷◌, ◌++◌, Option, Some, None, refl, sym, subst, append-nil}
use Rattle.mt_base.specs.declared.kinds.Kind.{Kind}
use Rattle.mt_base.specs.declared.kinds.Kind.TheVariants.{Reliable, Lossy}
use Rattle.mt_base.specs.declared.kinds.Role.{Role}
use Rattle.mt_base.specs.declared.kinds.Role.TheVariants.{Server, Client}
use Rattle.mt_base.specs.Ends.{other}
use Rattle.mt_base.specs.Prefix.{IsPrefixOf, IsPickOf}
use Rattle.mt_base.specs.Trace.{Trace, ◌▷◌}
use Rattle.mt_base.proofs.Prefixes.{front-same, front-append, front-trans, pick-same, pick-nothing, pick-append, pick-trans, pick-at}
use Rattle.dvc_pdus.specs.Value.{Pdu}
use Rattle.soft_sync.specs.declared.kinds.Kinds.{Kinds}
use Rattle.soft_sync.specs.Exchanges.{Request}
use Rattle.mt_endpoint.specs.Acts.{Act, Answers, Releases, Discards}
use Rattle.mt_endpoint.specs.Channels.{is_closed}
use Rattle.mt_endpoint.specs.Tunnels.{is_silent, is_attached, attaches}
use Rattle.mt_endpoint.specs.Moving.{read, unanswered_in, may_answer, answer_to}
use Rattle.mt_endpoint.specs.Holding.{Held, held, only}
use Rattle.mt_endpoint.specs.Writing.{adds, on_main, into, spoken, carried}
use Rattle.mt_endpoint.specs.Faults.{Why, release_fault}
use Rattle.mt_endpoint.specs.Growing.{Grown, fine, answer_all, answered, released, release_all, freed, grown}
use Rattle.mt_endpoint.specs.World.{heard_in, drawn_in, hears, draws}
use Rattle.mt_endpoint.specs.Alone.{EndOfActs}
use Rattle.mt_endpoint.proofs.Growth.{pick_front}
use Rattle.mt_endpoint.proofs.Together.{Place}
use Rattle.end_calls.specs.Law.{IsFront, whole, shorter}
use Rattle.end_calls.proofs.Fitting.{EachGiven}

-- ---- what an act makes due

-- a property that acts that are due keep
pub record Lasts (Q : Trace Act → Type 0) : Type 0 where
  pub answers : (t : Trace Act) (named : Kinds) → Q t → Q (t ▷ Answers named)
  pub releases : (t : Trace Act) (kind : Kind) (at : ℕ) (bytes : List ℕ) (pdu : Pdu) → Q t → Q (t ▷ Releases kind at bytes pdu)
  pub discards : (t : Trace Act) (at : ℕ) (bytes : List ℕ) (pdu : Pdu) → Q t → Q (t ▷ Discards at bytes pdu)

answers_last : (Q : Trace Act → Type 0) → Lasts Q → (role : Role) (requests : List Request) (t : Trace Act) → Q t → Q (answer_all role requests t)
answers_last Q l role [] t q = q
answers_last Q l role (request ∷ requests) t q =
    by_test (may_answer role t request.named) (answers_last Q l role requests (t ▷ Answers (answer_to role t request.named)) (l.answers t (answer_to role t request.named) q)) where
      by_test : (b : Bool) → Q (answer_all role requests (t ▷ Answers (answer_to role t request.named))) → Q (cond b (answer_all role requests (t ▷ Answers (answer_to role t request.named))) t)
      by_test true deeper = deeper
      by_test false deeper = q

answered_lasts : (Q : Trace Act → Type 0) → Lasts Q → (role : Role) (t : Trace Act) → Q t → Q (answered role t)
answered_lasts Q l Server t q = q
answered_lasts Q l Client t q = answers_last Q l Client (unanswered_in (read t)) t q

released_lasts : (Q : Trace Act → Type 0) → Lasts Q → (role : Role) (kind : Kind) (id : ℕ) (queue : List Held) (t : Trace Act) → Q t → Q (released role kind id queue t).acts
released_lasts Q l role kind id [] t q = q
released_lasts Q l role kind id (h ∷ queue) t q =
    by_closed (is_closed role id t) (released_lasts Q l role kind id queue (t ▷ Releases kind h.at h.bytes h.pdu) (l.releases t kind h.at h.bytes h.pdu q))
    (released_lasts Q l role Lossy id queue (t ▷ Discards h.at h.bytes h.pdu) (l.discards t h.at h.bytes h.pdu q)) where
      by_kind : (k : Kind) (why : Why) → Q (released role Lossy id queue (t ▷ Discards h.at h.bytes h.pdu)).acts → Q (elim k as (λ w. Grown) [
        | Reliable ↦ record { acts = t; fault = Some (h.at, why) }
        | Lossy ↦ released role Lossy id queue (t ▷ Discards h.at h.bytes h.pdu)
      ]).acts
      by_kind Reliable why o = q
      by_kind Lossy why o = o

      by_fault : (w : Option Why) → Q (released role kind id queue (t ▷ Releases kind h.at h.bytes h.pdu)).acts → Q (released role Lossy id queue (t ▷ Discards h.at h.bytes h.pdu)).acts → Q (elim w as (λ w. Grown) [
        | None ↦ released role kind id queue (t ▷ Releases kind h.at h.bytes h.pdu)
        | Some why ↦ elim kind as (λ w. Grown) [
          | Reliable ↦ record { acts = t; fault = Some (h.at, why) }
          | Lossy ↦ released role Lossy id queue (t ▷ Discards h.at h.bytes h.pdu)
        ]
      ]).acts
      by_fault None d o = d
      by_fault (Some why) d o = by_kind kind why o

      by_closed : (b : Bool) → Q (released role kind id queue (t ▷ Releases kind h.at h.bytes h.pdu)).acts → Q (released role Lossy id queue (t ▷ Discards h.at h.bytes h.pdu)).acts
          → Q (cond b (fine t) (elim (release_fault role t h.pdu) as (λ w. Grown) [
            | None ↦ released role kind id queue (t ▷ Releases kind h.at h.bytes h.pdu)
            | Some why ↦ elim kind as (λ w. Grown) [
              | Reliable ↦ record { acts = t; fault = Some (h.at, why) }
              | Lossy ↦ released role Lossy id queue (t ▷ Discards h.at h.bytes h.pdu)
            ]
          ])).acts
      by_closed true d o = q
      by_closed false d o = by_fault (release_fault role t h.pdu) d o

all_last : (Q : Trace Act → Type 0) → Lasts Q → (role : Role) (listed : List (ℕ × Kind)) (t : Trace Act) → Q t → Q (release_all role listed t).acts
all_last Q l role [] t q = q
all_last Q l role ((id, kind) ∷ listed) t q =
    let g = released role kind id (only id (held role kind t)) t in
    let first = released_lasts Q l role kind id (only id (held role kind t)) t q in
    by_fault g.fault first (all_last Q l role listed g.acts first) where
      by_fault : (w : Option (ℕ × Why)) → Q (released role kind id (only id (held role kind t)) t).acts → Q (release_all role listed (released role kind id (only id (held role kind t)) t).acts).acts
          → Q (elim w as (λ w. Grown) [ Some fault ↦ released role kind id (only id (held role kind t)) t | None ↦ release_all role listed (released role kind id (only id (held role kind t)) t).acts ]).acts
      by_fault (Some fault) k deeper = k
      by_fault None k deeper = deeper

pub grown_lasts : (Q : Trace Act → Type 0) → Lasts Q → (role : Role) (t : Trace Act) (act : Act) → Q (t ▷ act) → Q (grown role t act).acts
grown_lasts Q l role t act q = all_last Q l role (freed t act) (answered role (t ▷ act)) (answered_lasts Q l role (t ▷ act) q)

pub given_lasts : Lasts EachGiven
given_lasts = record { answers = λ t named q. (tt, q); releases = λ t kind at bytes pdu q. (tt, q); discards = λ t at bytes pdu q. (tt, q) }

or_false : (b : Bool) → b ≡ true → b || false ≡ true
or_false true h = refl
or_false false h = h

pub attached_lasts : (kind : Kind) → Lasts (λ t. is_attached kind t ≡ true)
attached_lasts kind = record {
  answers = λ t named q. or_false (is_attached kind t) q;
  releases = λ t made at bytes pdu q. or_false (is_attached kind t) q;
  discards = λ t at bytes pdu q. or_false (is_attached kind t) q;
}

or_more : (a b : Bool) → a ≡ true → a || b ≡ true
or_more true b h = refl
or_more false b h = absurd (let no : false ≡ true = h in cc)

pub attached_more : (kind : Kind) (t : Trace Act) (act : Act) → is_attached kind t ≡ true → is_attached kind (t ▷ act) ≡ true
attached_more kind t act h = or_more (is_attached kind t) (attaches kind act) h

pub attached_grown : (kind : Kind) (role : Role) (t : Trace Act) (act : Act) → is_attached kind t ≡ true → is_attached kind (grown role t act).acts ≡ true
attached_grown kind role t act h = grown_lasts (λ v. is_attached kind v ≡ true) (attached_lasts kind) role t act (attached_more kind t act h)

-- ---- fronts

pub front_acts : (role : Role) (t u : Trace Act) → IsFront t u → EndOfActs role u → EndOfActs role t
front_acts role _ _ (whole t) e = e
front_acts role _ _ (shorter t u act f) e = front_acts role t u f e.2

pub front_given : (t u : Trace Act) → IsFront t u → EachGiven u → EachGiven t
front_given _ _ (whole t) e = e
front_given _ _ (shorter t u act f) e = front_given t u f e.1

pub front_hears : (t u : Trace Act) → IsFront t u → IsPrefixOf (hears t) (hears u)
front_hears _ _ (whole t) = front-same (hears t)
front_hears _ _ (shorter t u act f) = front-trans (hears t) (hears u) (hears (u ▷ act)) (front_hears t u f) (front-append (hears u) (heard_in act))

pub front_draws : (kind : Kind) (t u : Trace Act) → IsFront t u → IsPrefixOf (draws kind t) (draws kind u)
front_draws kind _ _ (whole t) = front-same (draws kind t)
front_draws kind _ _ (shorter t u act f) = front-trans (draws kind t) (draws kind u) (draws kind (u ▷ act)) (front_draws kind t u f) (front-append (draws kind u) (drawn_in kind act))

pub front_spoken : (role : Role) (t u : Trace Act) → IsFront t u → IsPrefixOf (spoken role t) (spoken role u)
front_spoken role _ _ (whole t) = front-same (spoken role t)
front_spoken role _ _ (shorter t u act f) = front-trans (spoken role t) (spoken role u) (spoken role (u ▷ act)) (front_spoken role t u f) (front-append (spoken role u) (on_main (adds role u act)))

pub front_carried : (kind : Kind) (role : Role) (t u : Trace Act) → IsFront t u → IsPrefixOf (carried kind role t) (carried kind role u)
front_carried kind role _ _ (whole t) = front-same (carried kind role t)
front_carried kind role _ _ (shorter t u act f) =
    front-trans (carried kind role t) (carried kind role u) (carried kind role (u ▷ act)) (front_carried kind role t u f) (front-append (carried kind role u) (into kind (is_silent kind u) (adds role u act)))

-- a front of what was picked is picked
pub front_picked : {A : Type 0} (xs ys zs : List A) → IsPrefixOf xs ys → IsPickOf ys zs → IsPickOf xs zs
front_picked xs ys zs h k =
    pick-trans xs ys zs (pick-at (xs ++ []) xs (xs ++ h.0) ys (append-nil xs) (sym h.1) (pick-append xs xs [] h.0 (pick-same xs) (pick-nothing h.0))) k

-- an end that stopped on its way from one moment to a later one
pub place_between : (role : Role) (there p r q : Trace Act) → IsFront p r → IsFront r q → Place role p there → Place role q there → Place role r there
place_between role there p r q f g before after = record {
  here_acts = front_acts role r q g after.here_acts;
  there_acts = after.there_acts;
  came = record {
    main = front-trans (hears r) (hears q) (spoken (other role) there) (front_hears r q g) after.came.main;
    reliable = front-trans (draws Reliable r) (draws Reliable q) (carried Reliable (other role) there) (front_draws Reliable r q g) after.came.reliable;
    lossy = front_picked (draws Lossy r) (draws Lossy q) (carried Lossy (other role) there) (front_draws Lossy r q g) after.came.lossy;
  };
  left = record {
    main = front-trans (hears there) (spoken role p) (spoken role r) before.left.main (front_spoken role p r f);
    reliable = front-trans (draws Reliable there) (carried Reliable role p) (carried Reliable role r) before.left.reliable (front_carried Reliable role p r f);
    lossy = pick_front (draws Lossy there) (carried Lossy role p) (carried Lossy role r) before.left.lossy (front_carried Lossy role p r f);
  };
}

pub front_less : (s r q : Trace Act) (act : Act) → s ≡ r ▷ act → IsFront s q → IsFront r q
front_less _ r _ act e (whole t) = let P : Trace Act → Type 0 = λ v. IsFront r v in subst P (sym e) (shorter r r act (whole r))
front_less _ r _ act e (shorter s u last f) = shorter r u last (front_less s r u act e f)
