use Rattle.std.proofs.Common.{◌∙◌, rules}
use Rattle.std.proofs.lemmas.Grind.{common_steps}
use Rattle.mt_outside.proofs.Pieces.{writes_on}
use Rattle.mt_outside.proofs.whole.write_all.Goals as goal

pub loop-rest-preserved : goal.loop-rest-preserved
loop-rest-preserved g c =
    let i = c.loop-rest.invariant in
    let on = writes_on _ _ _ c.args.bytes.now c.loop-rest.rest.now _ _ i.1 i.2 i.3 c.in_ok-taken.ensures.bound c.in_ok-taken.ensures.took (search (rules, common_steps)) in
    (c.in_ok-taken.ensures.counts ∙ i.0, on.0, on.1, on.2)
