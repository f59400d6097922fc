-- An end that hands out a message.
use Rattle.std.proofs.Common.{◌≡◌, ℕ, cond, List, Option, None, Some, IfSome, is_some, refl, ap, arith}
use Rattle.mt_base.specs.declared.kinds.Kind.{Kind}
use Rattle.mt_base.specs.declared.kinds.Kind.TheVariants.{Reliable, Lossy}
use Rattle.mt_base.specs.declared.kinds.Role.{Role}
use Rattle.mt_base.specs.Trace.{Trace, ◌▷◌}
use Rattle.carrier.specs.declared.state.LinkState.{LinkState}
use Rattle.carrier.specs.Entries as link
use Rattle.mt_endpoint.specs.Acts.{Act, Takes}
use Rattle.end_calls.specs.declared.fault.Fault.{Fault}
use Rattle.end_calls.specs.Calls.{Entry, Own, Postings, acts, bare, past}
use Rattle.end_calls.specs.Streams.{grows}
use Rattle.end_session.specs.Standing.{Stands}
use Rattle.end_session.specs.Store.{Store}
use Rattle.end_reader.specs.declared.reader.Reader.{Reader}
use Rattle.endpoint.specs.Standing.{IsEnd, Tells}
use Rattle.endpoint.proofs.Added.{room_before}
use Rattle.endpoint.proofs.Apart.{stands_apart}
use Rattle.endpoint.proofs.Due.{Settles}
use Rattle.endpoint.proofs.Links.{IsApart}
use Rattle.endpoint.proofs.Steps.{IsPlain, past_after}

settles : (kind : Kind) (t : Trace Act) (id : ℕ) (message : List ℕ) → Settles kind t (Takes id message)
settles kind t id message = record { no_silence = refl; no_answer = refl; no_refusal = refl }

plain : (role : Role) (t : Trace Act) (id : ℕ) (message : List ℕ) → IsPlain role t (Takes id message)
plain role t id message = record {
  own = tt;
  given = tt;
  fits = λ a. a.0;
  faultless = tt;
  none_freed = refl;
  none_read = refl;
  none_made = refl;
  reliable = settles Reliable t id message;
  lossy = settles Lossy t id message;
  no_heavier = λ kind queue. omega arith;
}

apart : (kind : Kind) (role : Role) (t : Trace Act) (id : ℕ) (message : List ℕ) → IsApart kind role t (Takes id message)
apart kind role t id message = record { none_written = refl; no_link = refl; no_silence = refl; none_drawn = refl }

-- also where the end is broken
past_taken : (r : Reader) (postings : Postings) (role : Role) (t : Trace Entry) (id : ℕ) (message : List ℕ) (b : Option Fault) → Tells r postings role t → (past role t).broken ≡ b
    → past role (t ▷ Own (Takes id message)) ≡ record (past role t) { acts = acts role t ▷ Takes id message }
past_taken r postings role t id message None tells is = past_after r postings role t (Takes id message) tells is (plain role (acts role t) id message)
past_taken r postings role t id message (Some fault) tells is =
    let act = Takes id message in ap (λ (b : Option Fault). cond (is_some b) (bare act (past role t)) (grows role act (past role t))) is

pub taken : {C P : Type 0} (carrier_stands : C → Trace link.Entry → Type 0) (carrier_left : C → List ℕ) (carrier_condition : C → LinkState) (post_stands : P → Trace link.Entry → Type 0) (post_left : P → List (List ℕ)) (post_condition : P → LinkState) (r : Reader) (postings : Postings) (reliable : Option C) (lossy : Option P) (role : Role) (t : Trace Entry) (id : ℕ) (result : Option (List ℕ)) (s : Store)
    → (e : IsEnd carrier_stands carrier_left carrier_condition post_stands post_left post_condition r postings reliable lossy role t)
    → IfSome result (λ message. Stands s (acts role t ▷ Takes id message) (e.tells).gone) → s.role ≡ (r.session).role → s.broken ≡ (r.session).broken
    → IfSome result (λ message. IsEnd carrier_stands carrier_left carrier_condition post_stands post_left post_condition (record r { session = s }) postings reliable lossy role (t ▷ Own (Takes id message)))
taken carrier_stands carrier_left carrier_condition post_stands post_left post_condition r postings reliable lossy role t id None s e st role_is broken_is = tt
taken carrier_stands carrier_left carrier_condition post_stands post_left post_condition r postings reliable lossy role t id (Some message) s e st role_is broken_is =
    stands_apart carrier_stands carrier_left carrier_condition post_stands post_left post_condition r postings reliable lossy role t (Takes id message) s e (plain role (acts role t) id message)
    (record { past_is = past_taken r postings role t id message (past role t).broken e.tells refl; allowed = tt }) (apart Reliable role (acts role t) id message) (apart Lossy role (acts role t) id message) st role_is broken_is
    (room_before r postings role t e.tells)
