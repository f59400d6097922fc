use Rattle.std.proofs.Common.{ap, length, arith}
use Rattle.mt_script.proofs.Cutting.{length-lines_of}
use Rattle.mt_script.proofs.script.count_lines.Goals as goal

pub overflow_add-count : goal.overflow_add-count
overflow_add-count c = omega (arith, length-lines_of c.args.text.now, ap length c.cut_line.ensures.lines)
