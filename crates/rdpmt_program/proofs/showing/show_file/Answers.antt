use Rattle.std.proofs.Common.{inl, inr, subst}
use Rattle.rdpmt_program.specs.Fate.{GivesShown}
use Rattle.rdpmt_program.proofs.Runs.{by_show, by_fault}
use Rattle.rdpmt_program.proofs.showing.show_file.Goals as goal

pub returns-in-Ok-clause-cause : goal.returns-in-Ok-clause-cause
returns-in-Ok-clause-cause g c = λ words named.
    by_show words _ _ _ c.args.name.now c.in-Ok.text c.show_text.result named c.in-Ok.ensures.cause (subst (λ t. GivesShown t c.show_text.result) c.bytes.ensures c.show_text.ensures)

pub returns-in-Err-clause-cause : goal.returns-in-Err-clause-cause
returns-in-Err-clause-cause g c = λ words named.
    by_fault words _ _ _ c.args.name.now c.in-Err.fault (inr (inl named)) c.in-Err.ensures.cause
