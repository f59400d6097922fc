-- What a client writes for an answer to its create request, at most.
use Rattle.std.proofs.Common.{◌≡◌, ℕ, ◌+◌, ◌≤◌, length, length-append, Option, Some, None, refl, sym, ap, subst, ◌∙◌, arith}
use Rattle.mt_base.specs.declared.kinds.Kind.{Kind}
use Rattle.mt_base.specs.declared.kinds.Kind.TheVariants.{Reliable, Lossy}
use Rattle.mt_base.specs.declared.kinds.Role.{Role}
use Rattle.mt_base.specs.declared.kinds.Role.TheVariants.{Server, Client}
use Rattle.mt_endpoint.specs.Acts.{TunnelAnswered}
use Rattle.mt_endpoint.specs.Tunnels.{Request}
use Rattle.mt_endpoint.specs.Writing.{framed}
use Rattle.end_session.specs.Drawing.{with_first}
use Rattle.end_session.specs.Outgoing.{Outgoing, waiting_for}

-- what the server is told of an answer: on the main stream alone
pub first_for : (role : Role) (before : Option ℕ) (request : Option Request) (hr : ℕ) (o now : Outgoing) → now ≡ with_first role before request hr o → (made : Kind) → waiting_for made now ≡ waiting_for made o
first_for role before request hr o now is made = ap (waiting_for made) is ∙ by_case role before request made where
  by_case : (role : Role) (before : Option ℕ) (request : Option Request) (made : Kind) → waiting_for made (with_first role before request hr o) ≡ waiting_for made o
  by_case Server before request made = refl
  by_case Client None None made = refl
  by_case Client None (Some request) Reliable = refl
  by_case Client None (Some request) Lossy = refl
  by_case Client (Some answer) request made = refl

pub first_short : (role : Role) (before : Option ℕ) (request : Option Request) (hr : ℕ) (o now : Outgoing) → now ≡ with_first role before request hr o → length now.main ≤ length o.main + 11
first_short role before request hr o now is = subst (λ (x : Outgoing). length x.main ≤ length o.main + 11) (sym is) (by_case role before request) where
  by_case : (role : Role) (before : Option ℕ) (request : Option Request) → length (with_first role before request hr o).main ≤ length o.main + 11
  by_case Server before request = omega arith
  by_case Client None None = omega arith
  by_case Client None (Some request) = omega (arith, length-append o.main (framed (TunnelAnswered request.id hr)))
  by_case Client (Some answer) request = omega arith
