use Rattle.std.proofs.Common.{◌+◌, true, replicate, arith}
use Rattle.carrier.specs.Layout.{Upto, tells}
use Rattle.udp2_core.proofs.Tellings.{taking_start, taking_step, taking_end}
use Rattle.udp2_core.proofs.ToldFlags.{upto_below, upto_above, upto_at}
use Rattle.udp2_core.proofs.settle.settle_upto.Goals as goal

pub loop-number-init : goal.loop-number-init
loop-number-init c = record {
  queued = omega arith;
  settles = λ first acts h.
      taking_start first _ _ (tells (Upto c.args.named (replicate (c.args.below + 1) true))) acts h
      (λ n less. upto_below c.args.named c.args.below n (omega (arith, less, c.saturating_sub-number.ensures)));
}

pub loop-number-preserved : goal.loop-number-preserved
loop-number-preserved c =
    let i = c.loop-number.invariant in
    let e = c.settle_number-settled.ensures in
    record {
      queued = omega (arith, e.queued, i.queued);
      settles = λ first acts h.
          taking_step first _ _ _ _ _ (tells (Upto c.args.named (replicate (c.args.below + 1) true))) acts (i.settles first acts h)
          (upto_at c.args.named c.args.below c.loop-number.number (omega (arith, c.loop-number.auto.number, c.saturating_sub-number.ensures)) (omega (arith, c.loop-number-test.true)))
          (e.sends first) (e.settled first);
    }

pub returns-clause-settles : goal.returns-clause-settles
returns-clause-settles c first acts h =
    taking_end first _ c.loop-number.number _ (tells (Upto c.args.named (replicate (c.args.below + 1) true))) acts (c.loop-number.invariant.settles first acts h)
    (λ n ge. upto_above c.args.named c.args.below n (omega (arith, ge, c.loop-number-test.false)))
