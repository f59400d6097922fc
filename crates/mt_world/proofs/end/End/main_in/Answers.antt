use Rattle.std.proofs.Common.{◌<◌, length, fold, sym, ap, arith}
use Rattle.std.proofs.lemmas.List.{take_all}
use Rattle.std.proofs.lemmas.List.Sums.{fold_more}
use Rattle.mt_world.specs.Acts.{with_byte}
use Rattle.mt_world.proofs.Steps.{at_past}
use Rattle.mt_world.proofs.end.End.main_in.Goals as goal

pub loop-byte-preserved : goal.loop-byte-preserved
loop-byte-preserved c role p left handed s =
    let i = c.loop-byte.byte-index in
    let within : i < length c.args.bytes.now = omega arith in
    at_past c.take_byte.new.self role left handed _ _ (sym (fold_more (with_byte role) p c.args.bytes.now i 0 within))
    (c.in_ok-take_byte.ensures role _ left handed (c.loop-byte.invariant role p left handed s))

pub returns : goal.returns
returns c role p left handed s =
    at_past c.loop-byte.self role left handed _ _ (ap (fold (with_byte role) p) (take_all c.loop-byte.byte-index c.args.bytes.now (omega arith)))
    (c.loop-byte.invariant role p left handed s)
