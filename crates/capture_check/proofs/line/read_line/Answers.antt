use Rattle.std.proofs.Common.{sym, ◌∙◌}
use Rattle.mt_script.specs.Reading.{words_left}
use Rattle.capture_check.proofs.EntryLines.{line_read, no_first}
use Rattle.capture_check.proofs.line.read_line.Goals as goal

pub returns-in-Some : goal.returns-in-Some
returns-in-Some c =
    line_read c.args.line.now c.in-Some.first (words_left c.take_first.new.words) c.entry_of.result c.requires
    (sym c.new-words.ensures ∙ c.in-Some.ensures) c.entry_of.ensures

pub returns-in-None : goal.returns-in-None
returns-in-None c = no_first c.args.line.now (λ first rest e. c.in-None.ensures first rest (c.new-words.ensures ∙ e))
