use Rattle.std.proofs.Common.{arith, length-drop}
use Rattle.link_bench.proofs.Passing.{more_given, more_pulled, whole_rest}
use Rattle.link_bench.proofs.crossing.cross.Goals as goal

pub loop-turn-preserved : goal.loop-turn-preserved
loop-turn-preserved g c =
    let i = c.loop-turn.invariant in (
      omega (arith, i.0, c.give-given.ensures.bound, length-drop c.loop-turn.given c.args.bytes.now),
      omega (arith, i.1, c.in-Some.ensures.0, length-drop c.loop-turn.pulled c.args.bytes.now),
      more_given _ _ _ _ _ _ _ c.args.bytes.now _ (whole_rest c.loop-turn.given c.args.bytes.now) i.2 c.give-given.ensures.passes c.carry-forth.ensures.from c.carry-back.ensures.to,
      more_pulled _ _ _ _ _ _ _ c.args.bytes.now _ (whole_rest c.loop-turn.pulled c.args.bytes.now) i.3 c.carry-forth.ensures.to c.carry-back.ensures.from c.in-Some.ensures.1,
    )
