use Rattle.std.proofs.Common.{◌++◌, ◌<◌, codes, length, refl, ap, arith}
use Rattle.mt_show.proofs.FirstWords.{long_second}
use Rattle.mt_show.proofs.asked.second_layout.Goals as goal

pub returns-then-bytes-gt-MOST : goal.returns-then-bytes-gt-MOST
returns-then-bytes-gt-MOST c =
    let is = rw c.in-Ok-Some.field-0-is at c.in-Ok-Some.ensures in
    let long : 1232 < length c.in-Ok-Some.bytes = omega (arith, c.if-bytes-gt-MOST.true, ap length c.bytes-in-Ok-Some.ensures) in
    long_second (codes "v2 " ++ c.args.word.now) c.in-Ok-Some.bytes refl is.0 is.1 long
