use Rattle.std.proofs.Common.{inl, subst}
use Rattle.rdpmt_program.specs.Fate.{Gives}
use Rattle.rdpmt_program.proofs.Runs.{by_play, by_fault}
use Rattle.rdpmt_program.proofs.playing.play_script.Goals as goal

pub returns-in-Ok-clause-cause : goal.returns-in-Ok-clause-cause
returns-in-Ok-clause-cause g c = λ words named.
    by_play words _ _ _ c.args.name.now c.in-Ok.text c.play_text.result named c.in-Ok.ensures.cause (subst (λ t. Gives t c.play_text.result) c.bytes.ensures c.play_text.ensures)

pub returns-in-Err-clause-cause : goal.returns-in-Err-clause-cause
returns-in-Err-clause-cause g c = λ words named.
    by_fault words _ _ _ c.args.name.now c.in-Err.fault (inl named) c.in-Err.ensures.cause
