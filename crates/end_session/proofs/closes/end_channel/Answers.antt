use Rattle.std.proofs.Common.{IfErr, subst}
use Rattle.dvc_channels.specs.Acts.{WhyNotClosed}
use Rattle.end_session.proofs.DataHeard.{no_why}
use Rattle.end_session.proofs.closes.end_channel.Goals as goal

-- it takes data
pub unreachable-requires : goal.unreachable-requires
unreachable-requires c =
    let takes = c.requires.takes in
    no_why takes.0 c.args.id c.in_default.field-0 takes.2 (subst (λ r. IfErr r (λ why. WhyNotClosed takes.0 c.args.id why)) c.in_default.is (c.close.ensures.refused takes.0 takes.1))
