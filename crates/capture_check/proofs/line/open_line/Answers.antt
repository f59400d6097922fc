use Rattle.mt_script.specs.Reading.{words_left}
use Rattle.capture_check.proofs.EntryLines.{opens}
use Rattle.capture_check.proofs.line.open_line.Goals as goal

pub returns : goal.returns
returns c =
    opens (words_left c.args.words) (words_left c.id.new.self) (words_left c.name.new.self) c.in_ok-id.id c.in_ok-name.name
    c.in_ok-id.ensures c.in_ok-name.ensures c.in_ok-end.ensures.ok
