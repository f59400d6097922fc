-- Two ends by their fields, and as clauses see them; behind a step that is made, or is refused and changes nothing.
use Rattle.std.proofs.Common.{◌≡◌, ℕ, List, Option, Result, Ok, Err, Some, None, OnErr, OnOk, IfOk, IfNone, IfSome, refl, subst, sym}
use Rattle.mt_base.specs.declared.kinds.Role.{Role}
use Rattle.mt_base.specs.declared.kinds.Role.TheVariants.{Server, Client}
use Rattle.mt_base.specs.Trace.{Trace, ◌▷◌}
use Rattle.carrier.specs.declared.state.LinkState.{LinkState}
use Rattle.carrier.specs.Entries as link
use Rattle.mt_endpoint.specs.Acts.{Act}
use Rattle.end_calls.specs.declared.fault.Fault.{Fault}
use Rattle.end_calls.specs.Calls.{Entry, Own}
use Rattle.end_calls.specs.Net.{at}
use Rattle.endpoint.specs.Kept.{Kept}
use Rattle.endpoint.specs.Standing.{EndStands}
use Rattle.end_pair.specs.Joined.{Joined, PairIsLawful, PairStands, end_of}
use Rattle.end_pair.proofs.Growing.{own_call, with_end}

pub inside : {C P : Type 0} {carrier_stands : C → Trace link.Entry → Type 0} {carrier_left : C → List ℕ} {carrier_condition : C → LinkState} {post_stands : P → Trace link.Entry → Type 0} {post_left : P → List (List ℕ)} {post_condition : P → LinkState} {w : Trace (Role × Entry)} (fields seen : Joined C P)
    → fields ≡ seen → PairStands carrier_stands carrier_left carrier_condition post_stands post_left post_condition seen w → PairStands carrier_stands carrier_left carrier_condition post_stands post_left post_condition fields w
inside {carrier_stands = carrier_stands} {carrier_left = carrier_left} {carrier_condition = carrier_condition} {post_stands = post_stands} {post_left = post_left} {post_condition = post_condition} {w = w} fields seen is s =
    subst (λ k. PairStands carrier_stands carrier_left carrier_condition post_stands post_left post_condition k w) (sym is) s

-- a step of an end's own that may be refused
pub own_ok : {C P X E : Type 0} (carrier_stands : C → Trace link.Entry → Type 0) (carrier_left : C → List ℕ) (carrier_condition : C → LinkState) (post_stands : P → Trace link.Entry → Type 0) (post_left : P → List (List ℕ)) (post_condition : P → LinkState) (pair : Joined C P) (w : Trace (Role × Entry)) (side : Role) (kept : Kept C P) (result : Result X E) (act : Act)
    → PairStands carrier_stands carrier_left carrier_condition post_stands post_left post_condition pair w → OnOk result (EndStands carrier_stands carrier_left carrier_condition post_stands post_left post_condition kept side (at side w ▷ Own act))
    → OnOk result (PairStands carrier_stands carrier_left carrier_condition post_stands post_left post_condition (with_end side kept pair) (w ▷ (side, Own act)))
own_ok carrier_stands carrier_left carrier_condition post_stands post_left post_condition pair w side kept (Ok x) act s e = own_call carrier_stands carrier_left carrier_condition post_stands post_left post_condition pair w side kept act s e
own_ok carrier_stands carrier_left carrier_condition post_stands post_left post_condition pair w side kept (Err why) act s e = e

-- one that gives something
pub own_with : {C P X E : Type 0} (carrier_stands : C → Trace link.Entry → Type 0) (carrier_left : C → List ℕ) (carrier_condition : C → LinkState) (post_stands : P → Trace link.Entry → Type 0) (post_left : P → List (List ℕ)) (post_condition : P → LinkState) (pair : Joined C P) (w : Trace (Role × Entry)) (side : Role) (kept : Kept C P) (result : Result X E) (act : X → Act) (A : X → Type 0)
    → PairStands carrier_stands carrier_left carrier_condition post_stands post_left post_condition pair w → IfOk result (λ x. A x × EndStands carrier_stands carrier_left carrier_condition post_stands post_left post_condition kept side (at side w ▷ Own (act x)))
    → IfOk result (λ x. A x × PairStands carrier_stands carrier_left carrier_condition post_stands post_left post_condition (with_end side kept pair) (w ▷ (side, Own (act x))))
own_with carrier_stands carrier_left carrier_condition post_stands post_left post_condition pair w side kept (Ok x) act A s e = (e.0, own_call carrier_stands carrier_left carrier_condition post_stands post_left post_condition pair w side kept (act x) s e.1)
own_with carrier_stands carrier_left carrier_condition post_stands post_left post_condition pair w side kept (Err why) act A s e = e

pub own_some : {C P X : Type 0} (carrier_stands : C → Trace link.Entry → Type 0) (carrier_left : C → List ℕ) (carrier_condition : C → LinkState) (post_stands : P → Trace link.Entry → Type 0) (post_left : P → List (List ℕ)) (post_condition : P → LinkState) (pair : Joined C P) (w : Trace (Role × Entry)) (side : Role) (kept : Kept C P) (result : Option X) (act : X → Act)
    → PairStands carrier_stands carrier_left carrier_condition post_stands post_left post_condition pair w → IfSome result (λ x. EndStands carrier_stands carrier_left carrier_condition post_stands post_left post_condition kept side (at side w ▷ Own (act x)))
    → IfSome result (λ x. PairStands carrier_stands carrier_left carrier_condition post_stands post_left post_condition (with_end side kept pair) (w ▷ (side, Own (act x))))
own_some carrier_stands carrier_left carrier_condition post_stands post_left post_condition pair w side kept (Some x) act s e = own_call carrier_stands carrier_left carrier_condition post_stands post_left post_condition pair w side kept (act x) s e
own_some carrier_stands carrier_left carrier_condition post_stands post_left post_condition pair w side kept None act s e = e

-- ---- the side that was asked is this one

pub side_ok : {C P X E : Type 0} (carrier_stands : C → Trace link.Entry → Type 0) (carrier_left : C → List ℕ) (carrier_condition : C → LinkState) (post_stands : P → Trace link.Entry → Type 0) (post_left : P → List (List ℕ)) (post_condition : P → LinkState) (pair : Joined C P) (w : Trace (Role × Entry)) (asked side : Role) (kept : Kept C P) (result : Result X E) (act : Act)
    → asked ≡ side → PairStands carrier_stands carrier_left carrier_condition post_stands post_left post_condition pair w → OnOk result (EndStands carrier_stands carrier_left carrier_condition post_stands post_left post_condition kept side (at side w ▷ Own act))
    → OnOk result (PairStands carrier_stands carrier_left carrier_condition post_stands post_left post_condition (with_end side kept pair) (w ▷ (asked, Own act)))
side_ok carrier_stands carrier_left carrier_condition post_stands post_left post_condition pair w asked side kept result act is s e =
    subst (λ r. OnOk result (PairStands carrier_stands carrier_left carrier_condition post_stands post_left post_condition (with_end side kept pair) (w ▷ (r, Own act)))) (sym is) (own_ok carrier_stands carrier_left carrier_condition post_stands post_left post_condition pair w side kept result act s e)

pub side_some : {C P X : Type 0} (carrier_stands : C → Trace link.Entry → Type 0) (carrier_left : C → List ℕ) (carrier_condition : C → LinkState) (post_stands : P → Trace link.Entry → Type 0) (post_left : P → List (List ℕ)) (post_condition : P → LinkState) (pair : Joined C P) (w : Trace (Role × Entry)) (asked side : Role) (kept : Kept C P) (result : Option X) (act : X → Act)
    → asked ≡ side → PairStands carrier_stands carrier_left carrier_condition post_stands post_left post_condition pair w → IfSome result (λ x. EndStands carrier_stands carrier_left carrier_condition post_stands post_left post_condition kept side (at side w ▷ Own (act x)))
    → IfSome result (λ x. PairStands carrier_stands carrier_left carrier_condition post_stands post_left post_condition (with_end side kept pair) (w ▷ (asked, Own (act x))))
side_some carrier_stands carrier_left carrier_condition post_stands post_left post_condition pair w asked side kept result act is s e =
    subst (λ r. IfSome result (λ x. PairStands carrier_stands carrier_left carrier_condition post_stands post_left post_condition (with_end side kept pair) (w ▷ (r, Own (act x))))) (sym is) (own_some carrier_stands carrier_left carrier_condition post_stands post_left post_condition pair w side kept result act s e)

pub side_call : {C P : Type 0} (carrier_stands : C → Trace link.Entry → Type 0) (carrier_left : C → List ℕ) (carrier_condition : C → LinkState) (post_stands : P → Trace link.Entry → Type 0) (post_left : P → List (List ℕ)) (post_condition : P → LinkState) (pair : Joined C P) (w : Trace (Role × Entry)) (asked side : Role) (kept : Kept C P) (act : Act)
    → asked ≡ side → PairStands carrier_stands carrier_left carrier_condition post_stands post_left post_condition pair w → EndStands carrier_stands carrier_left carrier_condition post_stands post_left post_condition kept side (at side w ▷ Own act)
    → PairStands carrier_stands carrier_left carrier_condition post_stands post_left post_condition (with_end side kept pair) (w ▷ (asked, Own act))
side_call carrier_stands carrier_left carrier_condition post_stands post_left post_condition pair w asked side kept act is s e =
    subst (λ r. PairStands carrier_stands carrier_left carrier_condition post_stands post_left post_condition (with_end side kept pair) (w ▷ (r, Own act))) (sym is) (own_call carrier_stands carrier_left carrier_condition post_stands post_left post_condition pair w side kept act s e)

-- ---- each end stands for some list

pub with_lawful : {C P : Type 0} (carrier_stands : C → Trace link.Entry → Type 0) (carrier_left : C → List ℕ) (carrier_condition : C → LinkState) (post_stands : P → Trace link.Entry → Type 0) (post_left : P → List (List ℕ)) (post_condition : P → LinkState) (pair : Joined C P) (side : Role) (kept : Kept C P)
    → PairIsLawful carrier_stands carrier_left carrier_condition post_stands post_left post_condition pair → (t : Trace Entry) × EndStands carrier_stands carrier_left carrier_condition post_stands post_left post_condition kept side t
    → PairIsLawful carrier_stands carrier_left carrier_condition post_stands post_left post_condition (with_end side kept pair)
with_lawful carrier_stands carrier_left carrier_condition post_stands post_left post_condition pair Server kept old new Server = new
with_lawful carrier_stands carrier_left carrier_condition post_stands post_left post_condition pair Server kept old new Client = old Client
with_lawful carrier_stands carrier_left carrier_condition post_stands post_left post_condition pair Client kept old new Server = old Server
with_lawful carrier_stands carrier_left carrier_condition post_stands post_left post_condition pair Client kept old new Client = new

same_end : {C P : Type 0} (side : Role) (kept : Kept C P) (pair : Joined C P) → kept ≡ end_of side pair → pair ≡ with_end side kept pair
same_end Server kept pair is = let e : kept ≡ pair.server = is in subst (λ k. pair ≡ record pair { server = k }) (sym e) refl
same_end Client kept pair is = let e : kept ≡ pair.client = is in subst (λ k. pair ≡ record pair { client = k }) (sym e) refl

unchanged : {C P : Type 0} (carrier_stands : C → Trace link.Entry → Type 0) (carrier_left : C → List ℕ) (carrier_condition : C → LinkState) (post_stands : P → Trace link.Entry → Type 0) (post_left : P → List (List ℕ)) (post_condition : P → LinkState) (pair : Joined C P) (side : Role) (kept : Kept C P)
    → PairIsLawful carrier_stands carrier_left carrier_condition post_stands post_left post_condition pair → kept ≡ end_of side pair → PairIsLawful carrier_stands carrier_left carrier_condition post_stands post_left post_condition (with_end side kept pair)
unchanged carrier_stands carrier_left carrier_condition post_stands post_left post_condition pair side kept old same =
    subst (λ p. PairIsLawful carrier_stands carrier_left carrier_condition post_stands post_left post_condition p) (same_end side kept pair same) old

pub lawful_ok : {C P X E : Type 0} (carrier_stands : C → Trace link.Entry → Type 0) (carrier_left : C → List ℕ) (carrier_condition : C → LinkState) (post_stands : P → Trace link.Entry → Type 0) (post_left : P → List (List ℕ)) (post_condition : P → LinkState) (pair : Joined C P) (side : Role) (kept : Kept C P) (result : Result X E) (act : Act)
    → (old : PairIsLawful carrier_stands carrier_left carrier_condition post_stands post_left post_condition pair) → OnErr result (kept ≡ end_of side pair) → OnOk result (EndStands carrier_stands carrier_left carrier_condition post_stands post_left post_condition kept side ((old side).0 ▷ Own act))
    → PairIsLawful carrier_stands carrier_left carrier_condition post_stands post_left post_condition (with_end side kept pair)
lawful_ok carrier_stands carrier_left carrier_condition post_stands post_left post_condition pair side kept (Ok x) act old same e = with_lawful carrier_stands carrier_left carrier_condition post_stands post_left post_condition pair side kept old ((old side).0 ▷ Own act, e)
lawful_ok carrier_stands carrier_left carrier_condition post_stands post_left post_condition pair side kept (Err why) act old same e = unchanged carrier_stands carrier_left carrier_condition post_stands post_left post_condition pair side kept old same

pub lawful_with : {C P X E : Type 0} (carrier_stands : C → Trace link.Entry → Type 0) (carrier_left : C → List ℕ) (carrier_condition : C → LinkState) (post_stands : P → Trace link.Entry → Type 0) (post_left : P → List (List ℕ)) (post_condition : P → LinkState) (pair : Joined C P) (side : Role) (kept : Kept C P) (result : Result X E) (act : X → Act) (A : X → Type 0)
    → (old : PairIsLawful carrier_stands carrier_left carrier_condition post_stands post_left post_condition pair) → OnErr result (kept ≡ end_of side pair) → IfOk result (λ x. A x × EndStands carrier_stands carrier_left carrier_condition post_stands post_left post_condition kept side ((old side).0 ▷ Own (act x)))
    → PairIsLawful carrier_stands carrier_left carrier_condition post_stands post_left post_condition (with_end side kept pair)
lawful_with carrier_stands carrier_left carrier_condition post_stands post_left post_condition pair side kept (Ok x) act A old same e = with_lawful carrier_stands carrier_left carrier_condition post_stands post_left post_condition pair side kept old ((old side).0 ▷ Own (act x), e.1)
lawful_with carrier_stands carrier_left carrier_condition post_stands post_left post_condition pair side kept (Err why) act A old same e = unchanged carrier_stands carrier_left carrier_condition post_stands post_left post_condition pair side kept old same

pub lawful_some : {C P X : Type 0} (carrier_stands : C → Trace link.Entry → Type 0) (carrier_left : C → List ℕ) (carrier_condition : C → LinkState) (post_stands : P → Trace link.Entry → Type 0) (post_left : P → List (List ℕ)) (post_condition : P → LinkState) (pair : Joined C P) (side : Role) (kept : Kept C P) (result : Option X) (act : X → Act)
    → (old : PairIsLawful carrier_stands carrier_left carrier_condition post_stands post_left post_condition pair) → IfNone result (kept ≡ end_of side pair) → IfSome result (λ x. EndStands carrier_stands carrier_left carrier_condition post_stands post_left post_condition kept side ((old side).0 ▷ Own (act x)))
    → PairIsLawful carrier_stands carrier_left carrier_condition post_stands post_left post_condition (with_end side kept pair)
lawful_some carrier_stands carrier_left carrier_condition post_stands post_left post_condition pair side kept (Some x) act old same e = with_lawful carrier_stands carrier_left carrier_condition post_stands post_left post_condition pair side kept old ((old side).0 ▷ Own (act x), e)
lawful_some carrier_stands carrier_left carrier_condition post_stands post_left post_condition pair side kept None act old same e = unchanged carrier_stands carrier_left carrier_condition post_stands post_left post_condition pair side kept old same

-- a broken end is given no link
pub lawful_unless : {C P : Type 0} (carrier_stands : C → Trace link.Entry → Type 0) (carrier_left : C → List ℕ) (carrier_condition : C → LinkState) (post_stands : P → Trace link.Entry → Type 0) (post_left : P → List (List ℕ)) (post_condition : P → LinkState) (pair : Joined C P) (side : Role) (kept : Kept C P) (broken : Option Fault) (act : Act)
    → (old : PairIsLawful carrier_stands carrier_left carrier_condition post_stands post_left post_condition pair) → ((fault : Fault) → broken ≡ Some fault → kept ≡ end_of side pair) → (broken ≡ None → EndStands carrier_stands carrier_left carrier_condition post_stands post_left post_condition kept side ((old side).0 ▷ Own act))
    → PairIsLawful carrier_stands carrier_left carrier_condition post_stands post_left post_condition (with_end side kept pair)
lawful_unless carrier_stands carrier_left carrier_condition post_stands post_left post_condition pair side kept None act old same e = with_lawful carrier_stands carrier_left carrier_condition post_stands post_left post_condition pair side kept old ((old side).0 ▷ Own act, e refl)
lawful_unless carrier_stands carrier_left carrier_condition post_stands post_left post_condition pair side kept (Some fault) act old same e = unchanged carrier_stands carrier_left carrier_condition post_stands post_left post_condition pair side kept old (same fault refl)
