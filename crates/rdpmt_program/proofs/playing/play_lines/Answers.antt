use Rattle.std.proofs.Common.{◌<◌, ◌+◌, length, drop, arith}
use Rattle.rdpmt_program.proofs.Loop.{taken, refused, first}
use Rattle.rdpmt_program.proofs.playing.play_lines.Goals as goal

pub returns-in-Err : goal.returns-in-Err
returns-in-Err c =
    let within : c.loop-line.line-index < length c.args.lines.now = omega arith in
    let h = c.loop-line.invariant in
    refused c.step.new.self h.0 c.line-item.result (drop c.loop-line.line-index c.args.lines.now) (drop (c.loop-line.line-index + 1) c.args.lines.now) c.args.lines.now c.in-Err.refusal c.at.result
    (first c.args.lines.now c.loop-line.line-index c.line-item.result within c.line-item.is) h.2 c.at.ensures (c.in-Err.ensures h.0 h.1)

pub loop-line-preserved : goal.loop-line-preserved
loop-line-preserved c =
    let within : c.loop-line.line-index < length c.args.lines.now = omega arith in
    let h = c.loop-line.invariant in
    taken c.step.new.self h.0 c.line-item.result (drop c.loop-line.line-index c.args.lines.now) (drop (c.loop-line.line-index + 1) c.args.lines.now) c.args.lines.now c.in-Ok-step.field-0
    (first c.args.lines.now c.loop-line.line-index c.line-item.result within c.line-item.is) h.2 (c.in-Ok-step.ensures h.0 h.1)
