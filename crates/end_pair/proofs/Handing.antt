-- A call by which bytes of the main stream leave an end, and one by which they are taken.
use Rattle.std.proofs.Common.{◌≡◌, ℕ, ◌≤◌, List, ◌++◌, length, take, drop, Option, ap, subst, ◌∙◌, arith}
use Rattle.std.proofs.lemmas.List.{length-take-le}
use Rattle.mt_base.specs.declared.kinds.Role.{Role}
use Rattle.mt_base.specs.Trace.{Trace, ◌▷◌}
use Rattle.carrier.specs.declared.state.LinkState.{LinkState}
use Rattle.carrier.specs.Entries as link
use Rattle.mt_endpoint.specs.Acts.{Act}
use Rattle.end_calls.specs.Calls.{Entry, MainIn, MainOut}
use Rattle.end_calls.specs.Law.{unsent}
use Rattle.endpoint.specs.Kept.{Kept}
use Rattle.endpoint.specs.Standing.{EndStands}
use Rattle.end_pair.specs.Moving.{HandsOut, TakesIn, more_of, up_to}

pub taken_in : {C P : Type 0} (carrier_stands : C → Trace link.Entry → Type 0) (carrier_left : C → List ℕ) (carrier_condition : C → LinkState) (post_stands : P → Trace link.Entry → Type 0) (post_left : P → List (List ℕ)) (post_condition : P → LinkState) (end : Kept C P) (role : Role) (t : Trace Entry) (limit : Option ℕ) (bytes offered rest : List ℕ) (count load : ℕ) (lack : Option (ℕ × Trace Act))
    → count ≤ length offered → offered ≡ up_to limit bytes → rest ≡ drop count bytes → EndStands carrier_stands carrier_left carrier_condition post_stands post_left post_condition end role (t ▷ MainIn offered count load lack)
    → TakesIn carrier_stands carrier_left carrier_condition post_stands post_left post_condition role t limit bytes rest count end
taken_in carrier_stands carrier_left carrier_condition post_stands post_left post_condition end role t limit bytes offered rest count load lack bound same rest_is e =
    let stands = subst (λ b. EndStands carrier_stands carrier_left carrier_condition post_stands post_left post_condition end role (t ▷ MainIn b count load lack)) same e in record {
      within = subst (λ b. count ≤ length b) same bound;
      rest_is = rest_is;
      load = load;
      lack = lack;
      stands = stands;
    }

pub handed_out : {C P : Type 0} (carrier_stands : C → Trace link.Entry → Type 0) (carrier_left : C → List ℕ) (carrier_condition : C → LinkState) (post_stands : P → Trace link.Entry → Type 0) (post_left : P → List (List ℕ)) (post_condition : P → LinkState) (end : Kept C P) (role : Role) (t : Trace Entry) (limit : Option ℕ) (kept bytes out : List ℕ) (more room : ℕ)
    → more ≡ more_of role t limit kept → more ≤ length (unsent role t) → room ≡ more
    → (room ≤ length (unsent role t) → (out ≡ take room (unsent role t)) × EndStands carrier_stands carrier_left carrier_condition post_stands post_left post_condition end role (t ▷ MainOut room (take room (unsent role t))))
    → (length out ≡ more → bytes ≡ kept ++ out)
    → HandsOut carrier_stands carrier_left carrier_condition post_stands post_left post_condition role t limit kept bytes end
handed_out carrier_stands carrier_left carrier_condition post_stands post_left post_condition end role t limit kept bytes out more room is enough room_is poured bytes_are =
    let p = poured (omega (arith, room_is, enough)) in
    let all = unsent role t in
    let long : length out ≡ more = omega (arith, ap (λ (xs : List ℕ). length xs) p.0, length-take-le room all (omega (arith, room_is, enough)), room_is) in
    let size : room ≡ more_of role t limit kept = room_is ∙ is in record {
      bytes_are = bytes_are long ∙ ap (λ xs. kept ++ xs) (p.0 ∙ ap (λ n. take n all) size);
      stands = subst (λ n. EndStands carrier_stands carrier_left carrier_condition post_stands post_left post_condition end role (t ▷ MainOut n (take n (unsent role t)))) size p.1;
    }
