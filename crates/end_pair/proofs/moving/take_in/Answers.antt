use Rattle.std.proofs.Common.{arith, ap, length, rules, ◌∙◌}
use Rattle.end_pair.specs.Moving.{up_to}
use Rattle.end_pair.proofs.Bytes.{few_offered}
use Rattle.end_pair.proofs.Handing.{taken_in}
use Rattle.end_pair.proofs.moving.take_in.Goals as goal

pub drain-requires-clause-in_bounds : goal.drain-requires-clause-in_bounds
drain-requires-clause-in_bounds g c =
    omega (arith, c.main_in-taken.ensures.bound, ap length c.offered.ensures, ap length (ap (λ b. up_to c.args.limit b) c.deref.ensures.value), few_offered c.args.limit c.args.under_way.now.items)

pub returns-clause-taken : goal.returns-clause-taken
returns-clause-taken g c role t e =
    taken_in _ _ _ _ _ _ c.main_in-taken.new.self role t c.args.limit c.args.under_way.now.items _ _ _ _ (c.main_in-taken.ensures.reads role t e).0 c.main_in-taken.ensures.bound (c.offered.ensures ∙ ap (λ b. up_to c.args.limit b) c.deref.ensures.value) (search rules)
    (c.main_in-taken.ensures.reads role t e).1
