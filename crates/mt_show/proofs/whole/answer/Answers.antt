use Rattle.mt_show.specs.Grammar.{first_word}
use Rattle.mt_show.proofs.Joining.{whole_line}
use Rattle.mt_show.proofs.whole.answer.Goals as goal

pub returns : goal.returns
returns c =
    let shown = c.in_ok-shown.ensures in
    (shown.words, shown.shown, whole_line (first_word c.args.asked.now) shown.words c.args.out.now.bytes.items c.shown.new.out.bytes.items c.put.new.self.bytes.items shown.added c.in_ok-put.ensures)
