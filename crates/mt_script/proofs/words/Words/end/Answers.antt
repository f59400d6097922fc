use Rattle.std.proofs.Common.{refl, sym, ap, ◌∙◌}
use Rattle.mt_script.proofs.Cutting.{words_some}
use Rattle.mt_script.specs.Reading.{words_in}
use Rattle.mt_script.proofs.words.Words.end.Goals as goal

pub returns-in-Some-clause-err : goal.returns-in-Some-clause-err
returns-in-Some-clause-err c = (λ e. words_some c.in-Some.field-0.now (sym (ap words_in c.in-Some.is) ∙ e), refl)
