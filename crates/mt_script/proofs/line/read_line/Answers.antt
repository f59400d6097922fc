use Rattle.std.proofs.Common.{sym, ◌∙◌}
use Rattle.mt_script.proofs.LineMeaning.{line_completes, line_fails, no_command}
use Rattle.mt_script.specs.Reading.{words_left}
use Rattle.mt_script.proofs.line.read_line.Goals as goal

pub returns-in-Ok : goal.returns-in-Ok
returns-in-Ok c =
    line_completes c.args.line.now c.in-Some.command (words_left c.command.new.self) c.in-Ok.event c.requires
    (sym c.new-words.ensures ∙ c.in-Some.ensures) c.in-Ok.ensures

pub returns-in-Err : goal.returns-in-Err
returns-in-Err c =
    line_fails c.args.line.now c.in-Some.command (words_left c.command.new.self) c.in-Err.fault
    (sym c.new-words.ensures ∙ c.in-Some.ensures) c.in-Err.ensures

pub returns-in-None : goal.returns-in-None
returns-in-None c = (
  λ skipped. let yes = c.if-is_skipped.ensures.1 skipped in cc,
  no_command c.args.line.now (λ command rest e. c.in-None.ensures command rest (c.new-words.ensures ∙ e)),
)
