use Rattle.std.proofs.Common.{inr, subst}
use Rattle.rdpmt_program.specs.Fate.{GivesChecked}
use Rattle.rdpmt_program.proofs.Runs.{by_check, by_fault}
use Rattle.rdpmt_program.proofs.checking.check_file.Goals as goal

pub returns-in-Ok-clause-cause : goal.returns-in-Ok-clause-cause
returns-in-Ok-clause-cause g c = λ words named.
    by_check words _ _ _ c.args.name.now c.in-Ok.text c.check_text.result named c.in-Ok.ensures.cause (subst (λ t. GivesChecked t c.check_text.result) c.bytes.ensures c.check_text.ensures)

pub returns-in-Err-clause-cause : goal.returns-in-Err-clause-cause
returns-in-Err-clause-cause g c = λ words named.
    by_fault words _ _ _ c.args.name.now c.in-Err.fault (inr (inr named)) c.in-Err.ensures.cause
