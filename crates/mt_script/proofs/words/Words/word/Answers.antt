use Rattle.std.proofs.Common.{ap, ◌∙◌}
use Rattle.mt_script.proofs.Cutting.{words_cut, front_lacks}
use Rattle.mt_script.specs.Reading.{words_in}
use Rattle.mt_script.proofs.words.Words.word.Goals as goal

pub returns : goal.returns
returns c = (
  ap words_in c.in_ok-self.was ∙ words_cut c.in_ok-self.field-0.now c.cut_at.result.0.now c.cut_at.result.1 c.cut_at.ensures,
  front_lacks 32 c.in_ok-self.field-0.now c.cut_at.result.0.now c.cut_at.result.1 c.cut_at.ensures,
)
