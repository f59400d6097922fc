-- A channel that was created, and what came of the asking for its tunnel.
use Rattle.std.proofs.Common.{◌≡◌, ◌≢◌, ℕ, List, length, Option, Some, None, Result, Ok, Err, OnOk, OnErr, IfErr, sym, ◌∙◌, subst}
use Rattle.mt_base.specs.declared.kinds.Kind.TheVariants.{Reliable}
use Rattle.mt_base.specs.declared.kinds.Role.{Role}
use Rattle.mt_base.specs.Trace.{Trace, ◌▷◌}
use Rattle.end_calls.specs.declared.refusal.AskRefusal.{AskRefusal}
use Rattle.end_calls.specs.Calls.{Entry, acts, past}
use Rattle.end_calls.specs.Law.{unsent}
use Rattle.end_calls.specs.Refusing.{why_not_asked}
use Rattle.file_session.specs.Opening.{CreatesChannel, asks, unasked, asking, opening}

some_is : {A : Type 0} (x : A) (o : Option A) → o ≡ Some x → o ≢ None
some_is x o h n = let no : Some x ≡ None = sym h ∙ n in cc

pub created : {K : Type 0} (stands : K → Trace Entry → Type 0) (role : Role) (id : ℕ) (cookie : List ℕ) (t u : Trace Entry) (r : Result (Unit {0}) AskRefusal) (mid now : K) → u ≡ t ▷ opening role t → stands mid u
    → OnOk r (stands now (u ▷ asking id cookie)) → IfErr r (λ why. why_not_asked (past role u).broken (acts role u) (length (unsent role u)) Reliable id cookie ≡ Some why) → OnErr r (now ≡ mid)
    → (later : Trace Entry) × CreatesChannel role id cookie t later × stands now later
created stands role id cookie t u (Ok x) mid now is before asked refused same =
    (t ▷ opening role t ▷ asking id cookie, asks, subst (λ v. stands now (v ▷ asking id cookie)) is asked)
created stands role id cookie t u (Err why) mid now is before asked refused same =
    (t ▷ opening role t, unasked (some_is why _ (subst (λ v. why_not_asked (past role v).broken (acts role v) (length (unsent role v)) Reliable id cookie ≡ Some why) is refused)), subst (λ v. stands now v) is (subst (λ k. stands k u) (sym same) before))
