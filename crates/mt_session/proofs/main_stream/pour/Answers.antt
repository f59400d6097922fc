use Rattle.std.proofs.Common.{◌≡◌, ℕ, ◌+◌, ◌-◌, ◌≤◌, ◌++◌, List, length, take, drop, sym, ap, ◌∙◌, arith, subst}
use Rattle.std.proofs.lemmas.Grind.{common_steps}
use Rattle.std.proofs.lemmas.List.{take-append-le, length-take-le}
use Rattle.std.proofs.Math.Seq.{take-append-add}
use borrow.Rule.Slice.PartMut.{post_of}
use Rattle.mt_base.specs.Trace.{◌▷◌}
use Rattle.end_calls.specs.Calls.{MainOut}
use Rattle.mt_session.proofs.main_stream.pour.Goals as goal

filled : (room out post : List ℕ) (e n : ℕ) → e ≤ length room → n ≤ length out → take (e + n) (take e room ++ (out ++ post)) ≡ take e room ++ take n out
filled room out post e n h k =
    ap (λ i. take (i + n) (take e room ++ (out ++ post))) (sym (length-take-le e room h)) ∙ take-append-add (take e room) (out ++ post) n ∙ ap (λ l. take e room ++ l) (take-append-le n out post k)

mid_length : (room : List ℕ) (at : ℕ) → at ≤ length room → length (take (length room - at) (drop at room)) ≡ length room - at
mid_length room at h = grind (arith, common_steps)

front_length : (out : List ℕ) (r n : ℕ) → length out ≡ n → length (take r out) ≤ n
front_length out r n h = grind (arith, common_steps)

pub returns-clause-adds : goal.returns-clause-adds
returns-clause-adds g c =
    let room = c.args.room.now in
    let at = c.args.at in
    let out = c.main_out.new.out in
    let n = c.main_out.result in
    let size = mid_length room at c.requires in
    let bound = subst (λ k. n ≤ k) (sym c.main_out.auto.out) c.main_out.ensures.bound in (
      take n out,
      front_length out n _ (c.main_out.auto.out ∙ size),
      filled room out (post_of at (length room - at) room) at n c.requires bound,
      λ role t st. subst (λ k. g.E.End.stands c.main_out.new.self role (t ▷ MainOut k (take n out))) size (c.main_out.ensures.adds role t st),
    )
