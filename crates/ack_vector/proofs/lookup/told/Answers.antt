use Rattle.std.proofs.Common.{◌∙◌, arith}
use Rattle.std.proofs.lemmas.Nat.{and_mask}
use Rattle.ack_vector.specs.Elements.{flags_of}
use Rattle.ack_vector.proofs.FlagLemmas.{flag_in_last, flag_before_last, told_flag}
use Rattle.ack_vector.proofs.lookup.told.Goals as goal

pub returns-then-after-count : goal.returns-then-after-count
returns-then-after-count c =
    let e = c.in-Some.element.now in
    let found = flag_in_last c.loop-element.rest.now c.in-Some.before.now e c.loop-element.after
    c.in-Some.ensures.cases.0 (omega (arith, and_mask e 6)) in
    told_flag (flags_of c.args.elements.now) c.args.last c.args.number _
    c.loop-element.invariant.0 (c.loop-element.invariant.1 ∙ found)

pub loop-element-preserved : goal.loop-element-preserved
loop-element-preserved c =
    let e = c.in-Some.element.now in (
      c.loop-element.invariant.0,
      c.loop-element.invariant.1
          ∙ flag_before_last c.loop-element.rest.now c.in-Some.before.now e c.loop-element.after
          c.from-count.result c.in-Some.ensures.cases.0 (omega (arith, and_mask e 6)) (omega arith),
    )
