use Rattle.std.proofs.Common.{refl, sym, ap, ◌∙◌}
use Rattle.mt_world.specs.Play.{start, play}
use Rattle.rdpmt_program.specs.Script.{command, words, step, refused_line}
use Rattle.rdpmt_program.proofs.Runs.{gives_refusal, plays_to}
use Rattle.rdpmt_program.proofs.playing.play_text.Goals as goal

pub returns-in-Err-BadCommand : goal.returns-in-Err-BadCommand
returns-in-Err-BadCommand c =
    gives_refusal c.args.text.now _ c.refused.result c.refused.ensures
    (command c.in-Err-BadCommand.line (rw c.in-Err-BadCommand.field-0-is at c.in-Err-BadCommand.ensures) refl)

pub returns-in-Err-BadWords : goal.returns-in-Err-BadWords
returns-in-Err-BadWords c =
    gives_refusal c.args.text.now _ c.refused-in-Err-BadWords.result c.refused-in-Err-BadWords.ensures
    (words c.in-Err-BadWords.line (rw c.in-Err-BadWords.field-0-is at c.in-Err-BadWords.ensures) refl)

pub returns-in-Err-RefusedAt : goal.returns-in-Err-RefusedAt
returns-in-Err-RefusedAt c =
    let stopped = rw c.in-Err-RefusedAt.field-0-is at c.in-Err-RefusedAt.ensures in
    let lines = c.lines.ensures in
    gives_refusal c.args.text.now _ c.refused-in-Err-RefusedAt.result c.refused-in-Err-RefusedAt.ensures
    (step _ stopped.0 c.in-Err-RefusedAt.line c.in-Err-RefusedAt.cause c.in-Ok.ensures (sym (ap (play start) lines) ∙ stopped.1) (ap (refused_line c.in-Err-RefusedAt.line) c.name.ensures))

pub returns-in-Ok-report : goal.returns-in-Ok-report
returns-in-Ok-report c =
    let p = c.in-Ok-play_lines.ensures in
    plays_to c.args.text.now c.in-Ok-report.report c.in-Ok.script c.lines.result.now p.0 c.lines.ensures c.in-Ok.ensures p.1 (c.in-Ok-report.ensures p.0 p.2) (c.plays_safely.ensures.safe c.args.text.now c.in-Ok.script c.in-Ok.ensures)
