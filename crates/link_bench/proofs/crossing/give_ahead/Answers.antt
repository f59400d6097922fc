use Rattle.std.proofs.Common.{arith, length-drop}
use Rattle.link_bench.proofs.Passing.{next_given, whole_rest}
use Rattle.link_bench.proofs.crossing.give_ahead.Goals as goal

pub loop-piece-preserved : goal.loop-piece-preserved
loop-piece-preserved g c =
    let i = c.loop-piece.invariant in (
      omega (arith, i.0, c.give-given.ensures.bound, length-drop c.loop-piece.given c.args.bytes.now),
      next_given _ _ _ _ _ c.args.bytes.now _ (whole_rest c.loop-piece.given c.args.bytes.now) i.1 c.give-given.ensures.passes,
    )
