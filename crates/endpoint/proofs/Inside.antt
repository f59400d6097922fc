-- An end by its fields, and as clauses see it.
use Rattle.std.proofs.Common.{◌≡◌, ℕ, List, Option, Result, Ok, Err, Some, None, OnErr, OnOk, IfOk, IfSome, IfNone, subst, sym}
use Rattle.mt_base.specs.declared.kinds.Role.{Role}
use Rattle.mt_base.specs.Trace.{Trace}
use Rattle.carrier.specs.declared.state.LinkState.{LinkState}
use Rattle.carrier.specs.Entries as link
use Rattle.end_calls.specs.Calls.{Entry, Postings}
use Rattle.end_session.specs.Store.{Store}
use Rattle.end_reader.specs.declared.reader.Reader.{Reader}
use Rattle.endpoint.specs.Kept.{Kept}
use Rattle.endpoint.specs.Standing.{EndStands, IsEnd, IsLawful}

pub inside : {C P : Type 0} {carrier_stands : C → Trace link.Entry → Type 0} {carrier_left : C → List ℕ} {carrier_condition : C → LinkState} {post_stands : P → Trace link.Entry → Type 0} {post_left : P → List (List ℕ)} {post_condition : P → LinkState} {role : Role} {t : Trace Entry} (fields seen : Kept C P)
    → fields ≡ seen → IsEnd carrier_stands carrier_left carrier_condition post_stands post_left post_condition seen.reader seen.postings seen.reliable seen.lossy role t
    → IsEnd carrier_stands carrier_left carrier_condition post_stands post_left post_condition fields.reader fields.postings fields.reliable fields.lossy role t
inside {carrier_stands = carrier_stands} {carrier_left = carrier_left} {carrier_condition = carrier_condition} {post_stands = post_stands} {post_left = post_left} {post_condition = post_condition} {role = role} {t = t} fields seen is e =
    subst (λ k. EndStands carrier_stands carrier_left carrier_condition post_stands post_left post_condition k role t) (sym is) e

-- ---- an end stands for some calls, behind a step that is made, or is refused and changes nothing

unchanged : {C P : Type 0} (carrier_stands : C → Trace link.Entry → Type 0) (carrier_left : C → List ℕ) (carrier_condition : C → LinkState) (post_stands : P → Trace link.Entry → Type 0) (post_left : P → List (List ℕ)) (post_condition : P → LinkState) (r : Reader) (postings : Postings) (reliable : Option C) (lossy : Option P) (s : Store) → IsLawful carrier_stands carrier_left carrier_condition post_stands post_left post_condition (record { reader = r; postings = postings; reliable = reliable; lossy = lossy }) → s ≡ r.session → IsLawful carrier_stands carrier_left carrier_condition post_stands post_left post_condition (record { reader = record r { session = s }; postings = postings; reliable = reliable; lossy = lossy })
unchanged carrier_stands carrier_left carrier_condition post_stands post_left post_condition r postings reliable lossy s old same = subst (λ s. IsLawful carrier_stands carrier_left carrier_condition post_stands post_left post_condition (record { reader = record r { session = s }; postings = postings; reliable = reliable; lossy = lossy })) (sym same) old

pub kept_ok : {C P X E : Type 0} (carrier_stands : C → Trace link.Entry → Type 0) (carrier_left : C → List ℕ) (carrier_condition : C → LinkState) (post_stands : P → Trace link.Entry → Type 0) (post_left : P → List (List ℕ)) (post_condition : P → LinkState) (r : Reader) (postings : Postings) (reliable : Option C) (lossy : Option P) (s : Store) (result : Result X E) (role : Role) (t : Trace Entry)
    → IsLawful carrier_stands carrier_left carrier_condition post_stands post_left post_condition (record { reader = r; postings = postings; reliable = reliable; lossy = lossy }) → OnErr result (s ≡ r.session) → OnOk result (IsEnd carrier_stands carrier_left carrier_condition post_stands post_left post_condition (record r { session = s }) postings reliable lossy role t) → IsLawful carrier_stands carrier_left carrier_condition post_stands post_left post_condition (record { reader = record r { session = s }; postings = postings; reliable = reliable; lossy = lossy })
kept_ok carrier_stands carrier_left carrier_condition post_stands post_left post_condition r postings reliable lossy s (Ok x) role t old same new = (role, t, new)
kept_ok carrier_stands carrier_left carrier_condition post_stands post_left post_condition r postings reliable lossy s (Err why) role t old same new = unchanged carrier_stands carrier_left carrier_condition post_stands post_left post_condition r postings reliable lossy s old same

pub kept_with : {C P X E : Type 0} (carrier_stands : C → Trace link.Entry → Type 0) (carrier_left : C → List ℕ) (carrier_condition : C → LinkState) (post_stands : P → Trace link.Entry → Type 0) (post_left : P → List (List ℕ)) (post_condition : P → LinkState) (r : Reader) (postings : Postings) (reliable : Option C) (lossy : Option P) (s : Store) (result : Result X E) (role : Role) (t : X → Trace Entry) (A : X → Type 0)
    → IsLawful carrier_stands carrier_left carrier_condition post_stands post_left post_condition (record { reader = r; postings = postings; reliable = reliable; lossy = lossy }) → OnErr result (s ≡ r.session) → IfOk result (λ x. A x × IsEnd carrier_stands carrier_left carrier_condition post_stands post_left post_condition (record r { session = s }) postings reliable lossy role (t x)) → IsLawful carrier_stands carrier_left carrier_condition post_stands post_left post_condition (record { reader = record r { session = s }; postings = postings; reliable = reliable; lossy = lossy })
kept_with carrier_stands carrier_left carrier_condition post_stands post_left post_condition r postings reliable lossy s (Ok x) role t A old same new = (role, t x, new.1)
kept_with carrier_stands carrier_left carrier_condition post_stands post_left post_condition r postings reliable lossy s (Err why) role t A old same new = unchanged carrier_stands carrier_left carrier_condition post_stands post_left post_condition r postings reliable lossy s old same

pub kept_some : {C P X : Type 0} (carrier_stands : C → Trace link.Entry → Type 0) (carrier_left : C → List ℕ) (carrier_condition : C → LinkState) (post_stands : P → Trace link.Entry → Type 0) (post_left : P → List (List ℕ)) (post_condition : P → LinkState) (r : Reader) (postings : Postings) (reliable : Option C) (lossy : Option P) (s : Store) (result : Option X) (role : Role) (t : X → Trace Entry)
    → IsLawful carrier_stands carrier_left carrier_condition post_stands post_left post_condition (record { reader = r; postings = postings; reliable = reliable; lossy = lossy }) → IfNone result (s ≡ r.session) → IfSome result (λ x. IsEnd carrier_stands carrier_left carrier_condition post_stands post_left post_condition (record r { session = s }) postings reliable lossy role (t x)) → IsLawful carrier_stands carrier_left carrier_condition post_stands post_left post_condition (record { reader = record r { session = s }; postings = postings; reliable = reliable; lossy = lossy })
kept_some carrier_stands carrier_left carrier_condition post_stands post_left post_condition r postings reliable lossy s (Some x) role t old same new = (role, t x, new)
kept_some carrier_stands carrier_left carrier_condition post_stands post_left post_condition r postings reliable lossy s None role t old same new = unchanged carrier_stands carrier_left carrier_condition post_stands post_left post_condition r postings reliable lossy s old same
