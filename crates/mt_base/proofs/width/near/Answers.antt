use Rattle.std.proofs.Common.{None, arith}
use Rattle.mt_base.proofs.LowPart.{is_nearest, near_read}
use Rattle.mt_base.proofs.width.near.Goals as goal

pub returns-clause-near : goal.returns-clause-near
returns-clause-near g c =
    let w = g.W.Width in
    near_read w.MODULUS c.MODULUS-modulus.result w.half c.args.reference c.args.low c.MODULUS-modulus.ensures w.is_even w.has_parts c.requires.shown c.if-end-low.false

pub returns-clause-value : goal.returns-clause-value
returns-clause-value g c =
    let w = g.W.Width in
    is_nearest w.MODULUS w.half c.args.reference c.args.low _ w.is_even w.has_parts c.requires.shown
    (near_read w.MODULUS c.MODULUS-modulus.result w.half c.args.reference c.args.low c.MODULUS-modulus.ensures w.is_even w.has_parts c.requires.shown c.if-end-low.false)

pub returns-then-end-low-clause-value : goal.returns-then-end-low-clause-value
returns-then-end-low-clause-value g c =
    let w = g.W.Width in
    is_nearest w.MODULUS w.half c.args.reference c.args.low None w.is_even w.has_parts c.requires.shown
    (omega (arith, w.is_even, c.MODULUS-modulus.ensures))
