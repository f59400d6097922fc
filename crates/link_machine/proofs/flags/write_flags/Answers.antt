use Rattle.std.proofs.Common.{◌++◌, ◌∷◌, ◌∙◌, [], arith}
use Rattle.std.proofs.lemmas.List.{length-append}
use Rattle.link_machine.proofs.FlagLemmas.{said_more}
use Rattle.link_machine.proofs.flags.write_flags.Goals as goal

pub loop-ahead-preserved : goal.loop-ahead-preserved
loop-ahead-preserved g c =
    let so_far = c.loop-ahead.invariant in
    let flag = c.says.result in (
      so_far.0 ++ flag ∷ [],
      c.in-Ok.ensures.wrote so_far.0 so_far.1,
      c.in-Ok.ensures.size ∙ so_far.2,
      omega (arith, length-append so_far.0 (flag ∷ []), so_far.3),
      said_more (goal.F-post g c.args.says) c.args.from c.loop-ahead.ahead so_far.0 flag so_far.4 so_far.3 c.says.ensures,
      c.in-Ok.ensures.same ∙ so_far.5,
    )
